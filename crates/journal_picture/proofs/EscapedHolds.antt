-- The escaped form of a verdict has no markup.
use Rattle.std.proofs.Common.{◌≡◌, ◌∙◌, ℕ, ◌==◌, cond, Bool, true, false, List, [], ◌∷◌, refl, sym, subst}
use Rattle.std.specs.Prelude.{codes, nat_le, ◌&&◌}
use Rattle.std.specs.List.{list_all}
use Rattle.std.proofs.lemmas.List.Folds.{list_all-append}
use Rattle.journal_picture.specs.SvgPicture.{escaped, escaped_byte}
use Rattle.journal_picture.specs.Kinds.{is_plain}
use Rattle.journal_picture.specs.Laws.{EscapedHasNoMarkup}

pick : (c : Bool) (x y : List ℕ) → list_all is_plain x ≡ true → list_all is_plain y ≡ true → list_all is_plain (cond c x y) ≡ true
pick true x y first second = first
pick false x y first second = second

single : (b : ℕ) → (b == 60) ≡ false → list_all is_plain (b ∷ []) ≡ true
single b other_byte = rw other_byte refl

abbrev other : ℕ → List ℕ
other b = cond (b == 38) (codes "&amp;") (cond (b == 10) (b ∷ []) (cond (nat_le 32 b) (cond (nat_le b 126) (b ∷ []) (codes "?")) (codes "?")))

byte_plain : (b : ℕ) → list_all is_plain (escaped_byte b) ≡ true
byte_plain b = go (b == 60) refl
  where
    go : (a : Bool) → (b == 60) ≡ a → list_all is_plain (cond a (codes "&lt;") (other b)) ≡ true
    go true is = refl
    go false other_byte =
        pick (b == 38) (codes "&amp;") (cond (b == 10) (b ∷ []) (cond (nat_le 32 b) (cond (nat_le b 126) (b ∷ []) (codes "?")) (codes "?"))) refl
        (pick (b == 10) (b ∷ []) (cond (nat_le 32 b) (cond (nat_le b 126) (b ∷ []) (codes "?")) (codes "?")) (single b other_byte)
        (pick (nat_le 32 b) (cond (nat_le b 126) (b ∷ []) (codes "?")) (codes "?") (pick (nat_le b 126) (b ∷ []) (codes "?") (single b other_byte) refl) refl))

join : (a b : Bool) → a ≡ true → b ≡ true → (a && b) ≡ true
join a b first second = subst (λ (x : Bool). (x && b) ≡ true) (sym first) second

pub no_markup : EscapedHasNoMarkup
no_markup [] = refl
no_markup (b ∷ verdict) =
    list_all-append is_plain (escaped_byte b) (escaped verdict)
    ∙ join (list_all is_plain (escaped_byte b)) (list_all is_plain (escaped verdict)) (byte_plain b) (no_markup verdict)

-- Joins of marks: order and repetition make no difference.
use Rattle.std.proofs.Common.{◌≡◌, ℕ, ◌<◌, cond, Bool, true, false, refl, sym, ap, ◌∙◌, arith}
use Rattle.std.specs.Prelude.{nat_eq, ◌&&◌, ◌||◌}
use Rattle.std.proofs.lemmas.Bool.Decides.{nat_tests}
use Rattle.site_walk.specs.declared.touched.Pieces.{Pieces}
use Rattle.site_walk.specs.declared.touched.Pieces.TheVariants.{NoPiece, One, Several}
use Rattle.site_walk.specs.declared.touched.Touched.{Touched}
use Rattle.site_walk.specs.Inside.Touched.{joined_pieces, joined, clashes, are_several}

-- ---- pieces

same_test : (p q : ℕ) → p ≡ q → nat_eq p q ≡ true
same_test p q h = grind (arith, nat_tests)

tested_same : (p q : ℕ) → nat_eq p q ≡ true → p ≡ q
tested_same p q h = grind (arith, nat_tests)

turned_test : (p q : ℕ) → nat_eq p q ≡ false → nat_eq q p ≡ false
turned_test p q h = grind (arith, nat_tests)

pub older_test : (p q : ℕ) → q < p → nat_eq p q ≡ false
older_test p q h = grind (arith, nat_tests)

one_or_more : ℕ → Bool → Pieces
one_or_more p b = cond b (One p) Several

ones_comm : (p q : ℕ) (b : Bool) → nat_eq p q ≡ b → cond b (One p) Several ≡ cond (nat_eq q p) (One q) Several
ones_comm p q true e =
    let same = tested_same p q e in
    ap One same ∙ sym (ap (λ b. cond b (One q) Several) (same_test q p (sym same)))
ones_comm p q false e = sym (ap (λ b. cond b (One q) Several) (turned_test p q e))

pieces_comm : (a b : Pieces) → joined_pieces a b ≡ joined_pieces b a
pieces_comm NoPiece NoPiece = refl
pieces_comm NoPiece (One q) = refl
pieces_comm NoPiece Several = refl
pieces_comm (One p) NoPiece = refl
pieces_comm (One p) (One q) = ones_comm p q (nat_eq p q) refl
pieces_comm (One p) Several = refl
pieces_comm Several NoPiece = refl
pieces_comm Several (One q) = refl
pieces_comm Several Several = refl

with_no_piece : (a : Pieces) → joined_pieces a NoPiece ≡ a
with_no_piece NoPiece = refl
with_no_piece (One p) = refl
with_no_piece Several = refl

with_several : (a : Pieces) → joined_pieces a Several ≡ Several
with_several NoPiece = refl
with_several (One p) = refl
with_several Several = refl

ones_assoc : (p q r : ℕ) (b d : Bool) → nat_eq p q ≡ b → nat_eq q r ≡ d →
    joined_pieces (cond b (One p) Several) (One r) ≡ joined_pieces (One p) (cond d (One q) Several)
ones_assoc p q r true true e f = ap (λ x. cond (nat_eq p x) (One p) Several) (sym (tested_same q r f))
ones_assoc p q r true false e f =
    ap (λ x. cond (nat_eq x r) (One p) Several) (tested_same p q e) ∙ ap (λ b. cond b (One p) Several) f
ones_assoc p q r false true e f = sym (ap (λ b. cond b (One p) Several) e)
ones_assoc p q r false false e f = refl

pieces_assoc : (a b c : Pieces) → joined_pieces (joined_pieces a b) c ≡ joined_pieces a (joined_pieces b c)
pieces_assoc NoPiece b c = refl
pieces_assoc (One p) NoPiece c = refl
pieces_assoc (One p) (One q) NoPiece = with_no_piece (joined_pieces (One p) (One q))
pieces_assoc (One p) (One q) (One r) = ones_assoc p q r (nat_eq p q) (nat_eq q r) refl refl
pieces_assoc (One p) (One q) Several = with_several (joined_pieces (One p) (One q))
pieces_assoc (One p) Several c = refl
pieces_assoc Several b c = refl

pieces_idem : (a : Pieces) → joined_pieces a a ≡ a
pieces_idem NoPiece = refl
pieces_idem (One p) = ap (λ b. cond b (One p) Several) (same_test p p refl)
pieces_idem Several = refl

-- ---- with the flag whether they wrote

made : Pieces → Bool → Touched
made by written = record { by = by; written = written }

both : (p q : Pieces) (x y : Bool) → p ≡ q → x ≡ y → made p x ≡ made q y
both p q x y e f = ap (λ b. made b x) e ∙ ap (made q) f

or_comm : (a b : Bool) → (a || b) ≡ (b || a)
or_comm true true = refl
or_comm true false = refl
or_comm false true = refl
or_comm false false = refl

or_assoc : (a b c : Bool) → ((a || b) || c) ≡ (a || (b || c))
or_assoc true b c = refl
or_assoc false b c = refl

or_idem : (a : Bool) → (a || a) ≡ a
or_idem true = refl
or_idem false = refl

pub joined_comm : (a b : Touched) → joined a b ≡ joined b a
unfolding made
joined_comm a b = both (joined_pieces a.by b.by) (joined_pieces b.by a.by) (a.written || b.written) (b.written || a.written) (pieces_comm a.by b.by) (or_comm a.written b.written)

pub joined_assoc : (a b c : Touched) → joined (joined a b) c ≡ joined a (joined b c)
unfolding made
joined_assoc a b c = both _ _ _ _ (pieces_assoc a.by b.by c.by) (or_assoc a.written b.written c.written)

pub joined_idem : (a : Touched) → joined a a ≡ a
unfolding made
joined_idem a = both (joined_pieces a.by a.by) a.by (a.written || a.written) a.written (pieces_idem a.by) (or_idem a.written)

-- The first mark to be joined may be joined last.
pub joined_turned : (a b c : Touched) → joined a (joined b c) ≡ joined b (joined a c)
joined_turned a b c = sym (joined_assoc a b c) ∙ ap (λ x. joined x c) (joined_comm a b) ∙ joined_assoc b a c

-- A mark that is joined already changes nothing.
pub joined_again : (a b : Touched) → joined a (joined a b) ≡ joined a b
joined_again a b = sym (joined_assoc a a b) ∙ ap (λ x. joined x b) (joined_idem a)

-- ---- clashes

clash_parts : (w w' : Bool) (p p' : Pieces) → ((w || w') && are_several (joined_pieces p p')) ≡ false → (w && are_several p) ≡ false
clash_parts false w' p p' h = refl
clash_parts true w' NoPiece p' h = refl
clash_parts true w' (One q) p' h = refl
clash_parts true w' Several p' h = h

-- If all marks have no clash, a part has none.
pub clashes_part : (a b : Touched) → clashes (joined a b) ≡ false → clashes a ≡ false
clashes_part a b h = clash_parts a.written b.written a.by b.by h

-- One piece touches twice.
pub one_piece_twice : (p : ℕ) (w x : Bool) →
    joined (record { by = One p; written = w }) (record { by = One p; written = x }) ≡ record { by = One p; written = w || x }
unfolding made
one_piece_twice p w x = ap (λ by. made by (w || x)) (pieces_idem (One p))

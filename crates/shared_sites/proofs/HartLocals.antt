-- How hart-local states are taken and returned.
use Rattle.std.proofs.Common.{◌≡◌, ◌∙◌, List, [], ◌∷◌, ◌++◌, map, reverse, ap, sym}
use Rattle.std.proofs.lemmas.List.{reverse-append, append_assoc, map-append}
use Rattle.claim_words.specs.declared.seat.ClaimSeat.{ClaimSeat}
use Rattle.claim_words.specs.declared.table.ClaimTable.{ClaimTable}
use Rattle.claim_words.specs.Seats.{identity, IsOf, AreOf}

-- The last one is taken, and put behind those taken before.
pub given : {Y T X : Type 0} (g : Y → X) (f : T → X) (ys ys' : List Y) (y : Y) (ts ts' : List T) (t : T) (all : List X) → ys ≡ ys' ++ y ∷ [] → ts' ≡ ts ++ t ∷ [] → f t ≡ g y
    → map g ys ++ map f (reverse ts) ≡ all → map g ys' ++ map f (reverse ts') ≡ all
given g f ys ys' y ts ts' t all split more same before =
    ap (λ zs. map g ys' ++ map f zs) (ap reverse more ∙ reverse-append ts (t ∷ []))
    ∙ ap (λ x. map g ys' ++ x ∷ map f (reverse ts)) same
    ∙ sym (append_assoc (map g ys') (g y ∷ []) (map f (reverse ts)))
    ∙ ap (λ zs. zs ++ map f (reverse ts)) (sym (ap (map g) split ∙ map-append g ys' (y ∷ [])))
    ∙ before

-- The first of the rest is put behind those taken before.
pub taken : {H T X : Type 0} (h : H → X) (f : T → X) (hs hs' : List H) (x : H) (ts ts' : List T) (t : T) (all : List X) → hs' ≡ hs ++ x ∷ [] → ts ≡ ts' ++ t ∷ [] → h x ≡ f t
    → map h hs ++ map f (reverse ts) ≡ all → map h hs' ++ map f (reverse ts') ≡ all
taken h f hs hs' x ts ts' t all more split same before =
    ap (λ zs. zs ++ map f (reverse ts')) (ap (map h) more ∙ map-append h hs (x ∷ []))
    ∙ append_assoc (map h hs) (h x ∷ []) (map f (reverse ts'))
    ∙ ap (λ z. map h hs ++ z ∷ map f (reverse ts')) same
    ∙ ap (λ zs. map h hs ++ map f zs) (sym (ap reverse split ∙ reverse-append ts' (t ∷ [])))
    ∙ before

-- If all seats are of a table, those before the last are, and so is the last.
pub split_of : (t : ClaimTable) (ss : List ClaimSeat) (s : ClaimSeat) → AreOf t (map identity (ss ++ s ∷ [])) → AreOf t (map identity ss) × IsOf t (identity s)
split_of t [] s are = (tt, are.0)
split_of t (x ∷ ss) s are = let rest = split_of t ss s are.1 in ((are.0, rest.0), rest.1)

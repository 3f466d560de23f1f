-- The bytes that a sink took, piece by piece.
use Rattle.std.proofs.Common.{◌≡◌, ℕ, List, ◌++◌, take, drop, Option, Some, None, ◌∙◌, ap, append_assoc, arith, length, length-drop, ◌-◌}
use Rattle.std.proofs.lemmas.List.{take_all}
use Rattle.outside_io.specs.Outside.{Appends}

pub append_more : (a b c : Option (List ℕ)) (p q : List ℕ) → Appends a p b → Appends b q c → Appends a (p ++ q) c
append_more a b None p q first second = tt
append_more None None (Some z) p q first second = second
append_more None (Some y) (Some z) p q first second = first
append_more (Some x) None (Some z) p q first second = absurd second
append_more (Some x) (Some y) (Some z) p q first second = second ∙ ap (λ l. l ++ q) first ∙ append_assoc x p q

-- The rest of a slice, as a call takes it.
pub rest_of : (i : ℕ) (xs : List ℕ) → take (length xs - i) (drop i xs) ≡ drop i xs
rest_of i xs = take_all (length xs - i) (drop i xs) (omega (arith, length-drop i xs))

-- Marks of a round and of earlier rounds.
use Rattle.std.proofs.Common.{◌≡◌, ℕ, zero, suc, ◌+◌, ◌≤◌, cond, true, false, List, [], ◌∷◌, map, length, replicate, set, refl, ap, ◌∙◌, arith}
use Rattle.std.specs.Prelude.{slice_set, nat_eq}
use Rattle.std.specs.List.{All}
use Rattle.std.proofs.lemmas.List.{map-set}
use Rattle.std.proofs.lemmas.List.Elements.{All-head, All-tail}
use Rattle.std.proofs.lemmas.Bool.Decides.{nat_tests}
use Rattle.site_walk.specs.declared.layer.Mark.{Mark}
use Rattle.site_walk.specs.declared.touched.Touched.{Touched}
use Rattle.site_walk.specs.Inside.Touched.{untouched}
use Rattle.site_walk.specs.Inside.Rounds.{done_in, IsUpTo}

same_number : (n : ℕ) → nat_eq n n ≡ true
same_number n = grind (arith, nat_tests)

later_number : (m n : ℕ) → m ≤ n → nat_eq m (n + 1) ≡ false
later_number m n h = grind (arith, nat_tests)

pub put_in_round : (round : ℕ) (marks : List Mark) (i : ℕ) (t : Touched) →
    map (done_in round) (slice_set marks i (record { round = round; touched = t })) ≡ slice_set (map (done_in round) marks) i t
put_in_round round marks i t =
    map-set (done_in round) marks i (record { round = round; touched = t })
    ∙ ap (λ b. set (map (done_in round) marks) i (cond b t untouched)) (same_number round)

pub none_in_round : (n : ℕ) → map (done_in 0) (replicate n (record { round = 0; touched = untouched })) ≡ replicate n untouched
none_in_round zero = refl
none_in_round (suc n) = ap (λ rest. untouched ∷ rest) (none_in_round n)

pub next_round : (round : ℕ) (marks : List Mark) → All (IsUpTo round) marks →
    map (done_in (round + 1)) marks ≡ replicate (length (map (done_in round) marks)) untouched
next_round round [] h = refl
next_round round (m ∷ marks) h =
    let here : cond (nat_eq m.round (round + 1)) m.touched untouched ≡ untouched
    = ap (λ b. cond b m.touched untouched) (later_number m.round round (All-head (IsUpTo round) m marks h)) in
    let rest = next_round round marks (All-tail (IsUpTo round) m marks h) in
    ap (λ x. x ∷ map (done_in (round + 1)) marks) here ∙ ap (λ ms. untouched ∷ ms) rest

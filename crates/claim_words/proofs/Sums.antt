-- Sums over views, and how one view's change moves them.
use Rattle.std.proofs.Common.{◌≡◌, ◌≢◌, ◌⊎◌, ◌<◌, ◌≤◌, ℕ, zero, suc, ◌+◌, List, [], ◌∷◌, ◌++◌, length, set, sym, refl, ap, subst, inl, inr, ⊎_elim, arith, Bool, true, false, nat_lt, slice_index, if◌then◌else◌, ◌==◌, get_or}
use mathlib.Core.Option.{some, some-ne-none}
use lib.ListN.{get_elem?}
use Rattle.std.proofs.lemmas.Bool.Decides.{nat_tests}
use Rattle.std.proofs.lemmas.List.{get_or-set_same, get_or-set_other}
use Rattle.std.proofs.lemmas.Bool.{cases_eq}
use Rattle.atomic_table.proofs.Lists.{at_set, at_snoc}
use Rattle.claim_words.specs.declared.seat_view.SeatView.{SeatView}
use Rattle.claim_words.specs.declared.seat_view.Look.{Look}
use Rattle.claim_words.specs.Claims.{past_word, weigh, Each, is_claim, is_row, once}

pub weigh-append : {X : Type 0} (f : X → ℕ) (xs ys : List X) → weigh f (xs ++ ys) ≡ weigh f xs + weigh f ys
weigh-append f [] ys = omega arith
weigh-append f (x ∷ xs) ys = let rest = weigh-append f xs ys in omega (arith, rest)

pub total_set : (f : SeatView → ℕ) (views : List SeatView) (port : ℕ) (v w : SeatView) → get_elem? views port ≡ some v → weigh f (set views port w) + f v ≡ weigh f views + f w
total_set f [] port v w at = absurd (some-ne-none v (sym at))
total_set f (u ∷ views) zero v w at = let is : u ≡ v = cc at in let same = ap f is in omega (arith, same)
total_set f (u ∷ views) (suc port) v w at = let rest = total_set f views port v w at in omega (arith, rest)

pub each_set : (F : SeatView → Type 0) (views : List SeatView) (port : ℕ) (w : SeatView) → F w → Each F views → Each F (set views port w)
each_set F views port w mine others j u e = ⊎_elim (λ (x : (j ≡ port) × (w ≡ u)). subst F x.1 mine) (λ (x : (j ≢ port) × (get_elem? views j ≡ some u)). others j u x.1) (at_set views port j w u e)

pub sum_le : (f g : SeatView → ℕ) (views : List SeatView) → Each (λ v. f v ≤ g v) views → weigh f views ≤ weigh g views
sum_le f g [] each = omega arith
sum_le f g (u ∷ views) each = let here = each 0 u refl in let rest = sum_le f g views (λ j v at. each (suc j) v at) in omega (arith, here, rest)

pub split_lt : (n c : ℕ) → ((n < c) × (nat_lt n c ≡ true)) ⊎ ((c ≤ n) × (nat_lt n c ≡ false))
split_lt n c = go (nat_lt n c) refl
  where
    go : (b : Bool) → nat_lt n c ≡ b → ((n < c) × (nat_lt n c ≡ true)) ⊎ ((c ≤ n) × (nat_lt n c ≡ false))
    go true e = inl (grind (arith, nat_tests), e)
    go false e = inr (grind (arith, nat_tests), e)

pub word_after : (words : List ℕ) (row n r : ℕ) → row < length words → ((r ≡ row) × (slice_index (set words row n) r ≡ n)) ⊎ ((r ≢ row) × (slice_index (set words row n) r ≡ slice_index words r))
word_after words row n r there = elim (cases_eq r row) [
  | inl same ↦ inl (same, subst (λ (k : ℕ). slice_index (set words row n) k ≡ n) (sym same) (get_or-set_same words row n 0 there))
  | inr other ↦ inr (other, get_or-set_other words row r n 0 other)
]

-- A drawn number below the count is one more member.
pub once_more : (m n c : ℕ) → n < c → once m (n + 1) c ≡ once m n c + (if n == m then 1 else 0)
once_more m n c low = grind (arith, nat_tests)

pub once_past : (m n c : ℕ) → c ≤ n → once m (n + 1) c ≡ once m n c
once_past m n c high = grind (arith, nat_tests)

pub claim_here : (m row n : ℕ) → is_claim row m (row, n) ≡ (if n == m then 1 else 0)
claim_here m row n = grind (arith, nat_tests)

pub claim_else : (r m row n : ℕ) → r ≢ row → is_claim r m (row, n) ≡ 0
claim_else r m row n other = grind (arith, nat_tests)

pub row_here : (row : ℕ) → is_row row row ≡ 1
row_here row = grind (arith, nat_tests)

pub row_else : (r row : ℕ) → r ≢ row → is_row r row ≡ 0
row_else r row other = grind (arith, nat_tests)

pub any_default : (l : List ℕ) (i a b : ℕ) → i < length l → get_or l i a ≡ get_or l i b
any_default [] i a b there = absurd (omega arith)
any_default (x ∷ l) zero a b there = refl
any_default (x ∷ l) (suc i) a b there = any_default l i a b (omega (arith, there))

pub total_snoc : (f : SeatView → ℕ) (views : List SeatView) (w : SeatView) → weigh f (views ++ w ∷ []) ≡ weigh f views + f w
total_snoc f [] w = omega arith
total_snoc f (u ∷ views) w = let rest = total_snoc f views w in omega (arith, rest)

pub each_snoc : (F : SeatView → Type 0) (views : List SeatView) (w : SeatView) → F w → Each F views → Each F (views ++ w ∷ [])
each_snoc F views w mine others j u e = ⊎_elim (λ x. others j u x) (λ (is : w ≡ u). subst F is mine) (at_snoc views w u j e)

pub zero_all : (f : SeatView → ℕ) (views : List SeatView) → weigh (λ v. v.parts) views ≡ 0 → Each (λ v. v.parts ≡ 0 → f v ≡ 0) views → weigh f views ≡ 0
zero_all f [] none idle = refl
zero_all f (u ∷ views) none idle =
    let here = idle 0 u refl (omega (arith, none)) in
    let rest = zero_all f views (omega (arith, none)) (λ port v at. idle (suc port) v at) in
    omega (arith, here, rest)

-- If one seat has all parts, a sum is that seat's own.
pub total_whole : (f : SeatView → ℕ) (views : List SeatView) (port : ℕ) (v idle : SeatView) → get_elem? views port ≡ some v → weigh (λ u. u.parts) views ≡ v.parts → idle.parts ≡ 0 → f idle ≡ 0
    → Each (λ u. u.parts ≡ 0 → f u ≡ 0) views → weigh f views ≡ f v
total_whole f views port v idle at whole none here others =
    let parts = total_set (λ u. u.parts) views port v idle at in
    let sums = total_set f views port v idle at in
    let rest = zero_all f (set views port idle) (omega (arith, parts, whole, none)) (each_set (λ u. u.parts ≡ 0 → f u ≡ 0) views port idle (λ _. here) others) in
    omega (arith, sums, rest, here)

pub weigh_le : {X : Type 0} (f g : X → ℕ) → ((x : X) → f x ≤ g x) → (xs : List X) → weigh f xs ≤ weigh g xs
weigh_le f g le [] = omega arith
weigh_le f g le (x ∷ xs) = let here = le x in let rest = weigh_le f g le xs in omega (arith, here, rest)

-- A word that was read stays below a word that doesn't fall.
pub past_le : (words after : List ℕ) (x : Look) → slice_index words x.row ≤ slice_index after x.row → past_word after x ≤ past_word words x
past_le words after x rises = grind (arith, nat_tests)

pub past_none : (words : List ℕ) (x : Look) → x.found ≤ slice_index words x.row → past_word words x ≡ 0
past_none words x low = grind (arith, nat_tests)

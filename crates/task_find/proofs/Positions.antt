-- What `position` is, from what a search of the whole list found.
use Rattle.std.proofs.Common.{◌≡◌, ◌<◌, ◌⊎◌, ⊎_elim, ℕ, Bool, true, false, List, [], ◌∷◌, length, Some, None, cond, nat_lt, refl, sym, ap, ◌∙◌, subst, arith}
use Rattle.std.specs.List.{position, position_or_len}
use Rattle.std.proofs.lemmas.Bool.{cond_above, cond_below, true≢false}
use Rattle.std.proofs.lemmas.List.Sums.{position_or_len_is}
use Rattle.task_find.specs.Passing.{NonePass, FirstPass}
use Rattle.task_find.specs.declared.find.Found.{Found}
use Rattle.task_find.specs.declared.find.Found.TheVariants.{At, OutOfMemory}

abbrev index_in : Found → ℕ
index_in (At index) = index
index_in OutOfMemory = 0

abbrev is_at : Found → Bool
is_at (At index) = true
is_at OutOfMemory = false

module _ {A : Type 0} (p : A → Bool) where
  pub none_position : (xs : List A) (low high : ℕ) → low ≡ 0 → high ≡ length xs → NonePass p xs low high → None ≡ position p xs
  none_position [] low high l h none = refl
  none_position (x ∷ xs) low high l h none =
      let all = x ∷ xs in
      let at : position_or_len p all ≡ length all = position_or_len_is p all (length all) x (omega arith) (λ k lt. none k x (omega (arith, l)) (omega (arith, h, lt))) (λ lt. absurd (omega (arith, lt))) in
      cond_above (position_or_len p all) (length all) (Some (position_or_len p all)) None None (omega (arith, at)) refl

  pub first_position : (xs : List A) (low high i : ℕ) → low ≡ 0 → high ≡ length xs → FirstPass p xs low high i → Some i ≡ position p xs
  first_position [] low high i l h first = absurd (omega (arith, h, first.1))
  first_position (x ∷ xs) low high i l h first =
      let all = x ∷ xs in
      let inside : i < length all = omega (arith, h, first.1) in
      let at : position_or_len p all ≡ i = position_or_len_is p all i x (omega (arith, inside)) (λ k lt. first.3 k x (omega (arith, l)) lt) (λ lt. first.2 x) in
      subst (λ n. Some i ≡ cond (nat_lt n (length all)) (Some n) None) (sym at) (cond_below i (length all) (Some i) None inside)

  -- What a failed search of the whole list found.
  pub found_position : (xs : List A) (low high i : ℕ) (error : Found) → low ≡ 0 → high ≡ length xs → error ≡ At i
      → ((index : ℕ) × (error ≡ At index) × FirstPass p xs low high index) ⊎ (error ≡ OutOfMemory) → Some i ≡ position p xs
  found_position xs low high i error l h at why = ⊎_elim
      (λ found. subst (λ n. Some n ≡ position p xs) (ap index_in (sym found.1 ∙ at)) (first_position xs low high found.0 l h found.2))
      (λ memory. absurd (true≢false (ap is_at (sym at ∙ memory))))
      why

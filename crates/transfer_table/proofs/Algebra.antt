-- How accounts last and are joined.
use Rattle.std.proofs.Common.{◌≡◌, ℕ, zero, suc, ◌+◌, ◌<◌, ◌≤◌, ◌⊎◌, inl, inr, ⊎_elim, Bool, true, false, List, [], ◌∷◌, ◌++◌, length, replicate, refl, ◌∙◌, arith}
use mathlib.Core.Logic.{dite}
use native.Mathlib.Decide.{ℕ_discrete}
use Rattle.transfer_table.specs.Plan.{Plan}
use Rattle.transfer_table.specs.Entry.{unregisters, skips_over}
use Rattle.transfer_table.specs.declared.entry.Entry.{Entry}
use Rattle.transfer_table.specs.Accounts.{IsOverAs, AreOverAs, HasGrown}
use Rattle.transfer_table.specs.AccountLaws.{OverLasts, OverJoins, SkippedAreOver, OverHaveEnded, AllAreFreshAtFirst, FreshJoins, FreshLasts, KeptJoins}

site_over_lasts : (p : Plan) (before after : List Entry) (s : ℕ) (m : Bool) → HasGrown p before after → IsOverAs p before s m → IsOverAs p after s m
site_over_lasts p before after s true grown over = let g = grown.went s in omega (arith, g, over)
site_over_lasts p before after s false grown over = let g = grown.skipped s in omega (arith, g, over)

pub over_lasts : OverLasts
over_lasts p before after s [] grown over = tt
over_lasts p before after s (m ∷ more) grown over = (site_over_lasts p before after s m grown over.0, over_lasts p before after (s + 1) more grown over.1)

over_splits : (p : Plan) (es : List Entry) (s : ℕ) (xs ys : List Bool) → AreOverAs p es s (xs ++ ys) → AreOverAs p es s xs × AreOverAs p es (s + length xs) ys
over_splits p es s [] ys over = (tt, let z : s + 0 ≡ s = omega arith in rw z over)
over_splits p es s (x ∷ xs) ys over =
    let more = over_splits p es (s + 1) xs ys over.1 in
    let z : s + suc (length xs) ≡ s + 1 + length xs = omega arith in
    ((over.0, more.0), rw z more.1)

over_appends : (p : Plan) (es : List Entry) (s : ℕ) (xs ys : List Bool) → AreOverAs p es s xs → AreOverAs p es (s + length xs) ys → AreOverAs p es s (xs ++ ys)
over_appends p es s [] ys a b = let z : s + 0 ≡ s = omega arith in rw z at b
over_appends p es s (x ∷ xs) ys a b =
    let z : s + suc (length xs) ≡ s + 1 + length xs = omega arith in
    (a.0, over_appends p es (s + 1) xs ys a.1 (rw z at b))

pub over_joins : OverJoins
over_joins p es s xs ys = (over_splits p es s xs ys, λ both. over_appends p es s xs ys both.0 both.1)

skipped_over : (p : Plan) (es : List Entry) (n s : ℕ) → ((x : ℕ) → s ≤ x → x < s + n → 1 ≤ skips_over p x es) → AreOverAs p es s (replicate n false)
skipped_over p es zero s all = tt
skipped_over p es (suc n) s all =
    (all s (omega arith) (omega arith), skipped_over p es n (s + 1) (λ x low high. all x (omega (arith, low)) (omega (arith, high))))

-- By cases: the first site, or a later one.
by_first : {A : Type 0} (s x : ℕ) → s ≤ x → (x ≡ s → A) → (s + 1 ≤ x → A) → A
by_first s x low here there = dite (ℕ_discrete x s) here (λ no. there (grind (arith, no, low)))

over_skipped : (p : Plan) (es : List Entry) (n s : ℕ) → AreOverAs p es s (replicate n false) → (x : ℕ) → s ≤ x → x < s + n → 1 ≤ skips_over p x es
over_skipped p es zero s over x low high = absurd (omega (arith, low, high))
over_skipped p es (suc n) s over x low high =
    by_first s x low (λ e. rw e over.0) (λ more. over_skipped p es n (s + 1) over.1 x more (omega (arith, high)))

pub skipped_are_over : SkippedAreOver
skipped_are_over p es s n = (skipped_over p es n s, over_skipped p es n s)

site_ended : (p : Plan) (es : List Entry) (s : ℕ) (m : Bool) → IsOverAs p es s m → 1 ≤ unregisters s es + skips_over p s es
site_ended p es s true over = omega (arith, over)
site_ended p es s false over = omega (arith, over)

pub over_have_ended : OverHaveEnded
over_have_ended p es s [] over x low high = absurd (omega (arith, low, high))
over_have_ended p es s (m ∷ more) over x low high =
    by_first s x low (λ e. rw e (site_ended p es s m over.0)) (λ later. over_have_ended p es (s + 1) more over.1 x later (omega (arith, high)))

pub all_are_fresh_at_first : AllAreFreshAtFirst
all_are_fresh_at_first p s n x site low high = record { unregistered = refl; unskipped = refl }

pub fresh_joins : FreshJoins
fresh_joins p es s a b = (
  λ fresh. (
    λ x site low high. fresh x site low (omega (arith, high)),
    λ x site low high. fresh x site (omega (arith, low)) (omega (arith, high)),
  ),
  λ both x site low high. by_end (s + a) x (λ before. both.0 x site low before) (λ later. both.1 x site later (omega (arith, high))),
)
  where
    by_end : {A : Type 0} (e x : ℕ) → (x < e → A) → (e ≤ x → A) → A
    by_end {A} e x before later = ⊎_elim before later (sides e x)
      where
        sides : (e x : ℕ) → (x < e) ⊎ (e ≤ x)
        sides zero x = inr (omega arith)
        sides (suc e) zero = inl (omega arith)
        sides (suc e) (suc x) = ⊎_elim (λ l. inl (omega (arith, l))) (λ r. inr (omega (arith, r))) (sides e x)

pub fresh_lasts : FreshLasts
fresh_lasts p before after s n t m keeps apart fresh x site low high =
    let same = keeps x site (⊎_elim (λ l. inl (omega (arith, l, high))) (λ r. inr (omega (arith, r, low))) apart) in
    let old = fresh x site low high in
    record { unregistered = same.came ∙ old.unregistered; unskipped = same.skipped ∙ old.unskipped }

pub kept_joins : KeptJoins
kept_joins p first second third s n t m u k one two a b c d x site outside =
    let before = one x site (⊎_elim (λ l. inl (omega (arith, l, a))) (λ r. inr (omega (arith, r, b))) outside) in
    let later = two x site (⊎_elim (λ l. inl (omega (arith, l, c))) (λ r. inr (omega (arith, r, d))) outside) in
    record { came = later.came ∙ before.came; went = later.went ∙ before.went; skipped = later.skipped ∙ before.skipped }

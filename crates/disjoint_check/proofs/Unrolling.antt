-- The result of unrolling: the plan of a program, and the shapes of its sites.
use Rattle.std.proofs.Common.{◌≡◌, ℕ, zero, suc, ◌+◌, ◌*◌, ◌-◌, ◌<◌, arith, refl, ap, ◌∙◌}
use Rattle.array_tree.specs.Trees.{Statement, Assign, For, If, Par, Team, Sequence, ended, followed}
use Rattle.array_meaning.specs.Work.{span}
use Rattle.array_meaning.specs.Plans.{sites_in, statement_sites_in, branches_sites_in}
use Rattle.site_counts.specs.Capped.{capped}
use Rattle.disjoint_check.specs.Inside.Unrolled.{Rows, repeat, with_statement, with_sequence}

pub repeat_next : (n i : ℕ) (more : Rows → Rows) (rows : Rows) → i < n → repeat (n - i) more rows ≡ repeat (n - (i + 1)) more (more rows)
repeat_next n i more rows h = let e : n - i ≡ suc (n - (i + 1)) = omega arith in ap (λ k. repeat k more rows) e

pub repeat_same : (n : ℕ) (more : Rows → Rows) (rows : Rows) → more rows ≡ rows → repeat n more rows ≡ rows
repeat_same zero more rows h = refl
repeat_same (suc n) more rows h = ap (λ r. repeat n more r) h ∙ repeat_same n more rows h

left_zero : (a b : ℕ) → a + b ≡ 0 → a ≡ 0
left_zero a b h = omega arith

right_zero : (a b : ℕ) → a + b ≡ 0 → b ≡ 0
right_zero a b h = omega arith

one_more : {A : Type 0} (a : ℕ) → 1 + a ≡ 0 → A
one_more a h = absurd (omega arith)

-- Without a turn, or without a site in a turn, nothing is added.
no_turn : (n s : ℕ) (more : Rows → Rows) (rows : Rows) → n * s ≡ 0 → (s ≡ 0 → more rows ≡ rows) → repeat n more rows ≡ rows
no_turn zero s more rows h same = refl
no_turn (suc n) s more rows h same = let none : s ≡ 0 = none_of n s h in repeat_same (suc n) more rows (same none)
  where
    none_of : (n s : ℕ) → suc n * s ≡ 0 → s ≡ 0
    none_of n zero h = refl
    none_of n (suc s) h = absurd (grind arith)

mutual
  pub no_sites : (p : Sequence) (around : ℕ) (rows : Rows) → sites_in p ≡ 0 → with_sequence p around rows ≡ rows
  no_sites ended around rows h = refl
  no_sites (followed s p) around rows h =
      ap (λ r. with_sequence p around r) (no_sites_in_statement s around rows (left_zero (statement_sites_in s) (sites_in p) h))
      ∙ no_sites p around rows (right_zero (statement_sites_in s) (sites_in p) h)

  no_sites_in_statement : (s : Statement) (around : ℕ) (rows : Rows) → statement_sites_in s ≡ 0 → with_statement s around rows ≡ rows
  no_sites_in_statement (Assign line array index value) around rows h = refl
  no_sites_in_statement (For line var low high body) around rows h =
      no_turn (span low high) (sites_in body) (with_sequence body around) rows h (λ none. no_sites body around rows none)
  no_sites_in_statement (If line cond t e) around rows h =
      ap (λ r. with_sequence e around r) (no_sites t around rows (left_zero (sites_in t) (sites_in e) h))
      ∙ no_sites e around rows (right_zero (sites_in t) (sites_in e) h)
  no_sites_in_statement (Par line branches) around rows h = one_more (branches_sites_in branches) h
  no_sites_in_statement (Team line var low high members phases) around rows h = one_more (span low high * branches_sites_in phases) h

pub skipped : (p : Sequence) (n around : ℕ) (rows : Rows) → capped (sites_in p) ≡ 0 → repeat n (with_sequence p around) rows ≡ rows
skipped p n around rows h = repeat_same n (with_sequence p around) rows (no_sites p around rows (omega (arith, h)))

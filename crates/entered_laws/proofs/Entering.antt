-- If no construct stands under an `if`, all sites are entered.
use Rattle.std.proofs.Common.{◌≡◌, ℕ, zero, suc, ◌+◌, ◌*◌, Bool, true, false, cond, List, [], ◌∷◌, ◌++◌, length, replicate, ℤ, pos, ◌+ℤ◌, refl, sym, ap, ◌∙◌, arith}
use Rattle.std.proofs.lemmas.Bool.{false≢true, and_parts}
use Rattle.std.proofs.lemmas.List.{replicate-append-replicate}
use Rattle.array_tree.specs.Trees.{Statement, Assign, For, If, Par, Team, Sequence, ended, followed, Sequences, no_more, beside}
use Rattle.array_meaning.specs.Values.{holds}
use Rattle.array_meaning.specs.Stores.{Arrays, Vars, Store, arrays_of, value_of}
use Rattle.array_meaning.specs.Steps.{Steps, exec}
use Rattle.array_meaning.specs.Work.{span, loop, statement_work, sequence_work, first_store}
use Rattle.array_meaning.specs.Plans.{statement_sites_in, sites_in, branches_sites_in}
use Rattle.array_meaning.specs.Choices.{has_no_site_under_if, statement_has_no_site_under_if, have_no_site_under_if}
use Rattle.array_meaning.specs.Entered.{Entering, turns_entered, statement_entered, sequence_entered, branches_entered, phases_entered, sequence_part}
use Rattle.array_meaning.proofs.EnteredLemmas as entered
use Rattle.array_meaning.proofs.PlanLemmas as plans
use Rattle.entered_laws.specs.Meant.{AllSitesAreEntered}

-- A part inside an `if` that passes the test has no sites.
mutual
  pub no_sites : (s : Sequence) → has_no_site_under_if s true ≡ true → sites_in s ≡ 0
  no_sites ended h = refl
  no_sites (followed first rest) h =
      let parts = and_parts (statement_has_no_site_under_if first true) (has_no_site_under_if rest true) h in
      let one = no_sites_first first parts.0 in
      let more = no_sites rest parts.1 in
      rw (one, more) refl

  no_sites_first : (s : Statement) → statement_has_no_site_under_if s true ≡ true → statement_sites_in s ≡ 0
  no_sites_first (Assign line array index value) h = refl
  no_sites_first (For line var low high body) h = let none = no_sites body h in rw none (omega arith)
  no_sites_first (If line cond then_block else_block) h =
      let parts = and_parts (has_no_site_under_if then_block true) (has_no_site_under_if else_block true) h in
      let one = no_sites then_block parts.0 in
      let more = no_sites else_block parts.1 in
      rw (one, more) refl
  no_sites_first (Par line branches) h = absurd (false≢true h)
  no_sites_first (Team line var low high members phases) h = absurd (false≢true h)

empty : (xs : List Bool) → length xs ≡ 0 → xs ≡ []
empty [] none = refl
empty (x ∷ xs) none = absurd (omega (arith, none))

-- A list of so many `true`.
abbrev trues : ℕ → List Bool
trues n = replicate n true

both_true : (xs ys : List Bool) (n m : ℕ) → xs ≡ trues n → ys ≡ trues m → xs ++ ys ≡ trues (n + m)
both_true xs ys n m one more = rw (one, more) (replicate-append-replicate n m true)

turns_true : (arrays : Arrays) (n count : ℕ) (work : ℤ → Steps) (body : ℤ → Entering) (low : ℤ) → ((x : ℤ) (store : Store) → body x store ≡ trues count) → (store : Store)
    → turns_entered arrays (λ x. (work x, body x)) low n store ≡ trues (n * count)
turns_true arrays zero count work body low h store = let none : 0 ≡ 0 * count = omega arith in ap trues none
turns_true arrays (suc n) count work body low h store =
    let more = turns_true arrays n count work body (low +ℤ pos 1) h (exec arrays (work low) store) in
    let sum : count + n * count ≡ suc n * count = omega arith in
    both_true (body low store) (turns_entered arrays (λ x. (work x, body x)) (low +ℤ pos 1) n (exec arrays (work low) store)) count (n * count) (h low store) more ∙ ap trues sum

mutual
  statement_true : (arrays : Arrays) (s : Statement) (vars : Vars) (store : Store) → statement_has_no_site_under_if s false ≡ true → statement_entered arrays s vars store ≡ trues (statement_sites_in s)
  statement_true arrays (Assign line array index value) vars store h = refl
  statement_true arrays (For line var low high body) vars store h =
      turns_true arrays (span low high) (sites_in body) (λ x. sequence_work body ((var, x) ∷ vars)) (λ x. sequence_entered arrays body ((var, x) ∷ vars)) low
      (λ x there. sequence_true arrays body ((var, x) ∷ vars) there h) store
  statement_true arrays (If line test left right) vars store h =
      let sides = and_parts (has_no_site_under_if left true) (has_no_site_under_if right true) h in
      let one = no_sites left sides.0 in
      let other = no_sites right sides.1 in
      side (holds (value_of arrays vars test store)) (none left one) (none right other) one other
    where
      none : (s : Sequence) → sites_in s ≡ 0 → sequence_entered arrays s vars store ≡ []
      none s e = empty (sequence_entered arrays s vars store) (entered.sequence_length arrays s vars store ∙ e)

      side : (b : Bool) → sequence_entered arrays left vars store ≡ [] → sequence_entered arrays right vars store ≡ [] → sites_in left ≡ 0 → sites_in right ≡ 0
          → cond b (sequence_entered arrays left vars store ++ replicate (sites_in right) false) (replicate (sites_in left) false ++ sequence_entered arrays right vars store)
          ≡ trues (sites_in left + sites_in right)
      side true l r one other = rw (l, one, other) refl
      side false l r one other = rw (r, one, other) refl
  statement_true arrays (Par line branches) vars store h =
      both_true (true ∷ []) (branches_entered arrays branches vars store) 1 (branches_sites_in branches) refl (branches_true arrays branches vars store h)
  statement_true arrays (Team line var low high members phases) vars store h =
      both_true (true ∷ []) (phases_entered arrays phases var low high vars store) 1 (span low high * branches_sites_in phases) refl (phases_true arrays phases var low high vars store h)

  pub sequence_true : (arrays : Arrays) (s : Sequence) (vars : Vars) (store : Store) → has_no_site_under_if s false ≡ true → sequence_entered arrays s vars store ≡ trues (sites_in s)
  sequence_true arrays ended vars store h = refl
  sequence_true arrays (followed first rest) vars store h =
      let parts = and_parts (statement_has_no_site_under_if first false) (has_no_site_under_if rest false) h in
      let next = exec arrays (statement_work first vars) store in
      both_true (statement_entered arrays first vars store) (sequence_entered arrays rest vars next) (statement_sites_in first) (sites_in rest)
      (statement_true arrays first vars store parts.0) (sequence_true arrays rest vars next parts.1)

  branches_true : (arrays : Arrays) (bs : Sequences) (vars : Vars) (store : Store) → have_no_site_under_if bs false ≡ true → branches_entered arrays bs vars store ≡ trues (branches_sites_in bs)
  branches_true arrays no_more vars store h = refl
  branches_true arrays (beside first rest) vars store h =
      let parts = and_parts (has_no_site_under_if first false) (have_no_site_under_if rest false) h in
      let next = exec arrays (sequence_work first vars) store in
      both_true (sequence_entered arrays first vars store) (branches_entered arrays rest vars next) (sites_in first) (branches_sites_in rest)
      (sequence_true arrays first vars store parts.0) (branches_true arrays rest vars next parts.1)

  phases_true : (arrays : Arrays) (bs : Sequences) (var : List ℕ) (low high : ℤ) (vars : Vars) (store : Store) → have_no_site_under_if bs false ≡ true
      → phases_entered arrays bs var low high vars store ≡ trues (span low high * branches_sites_in bs)
  phases_true arrays no_more var low high vars store h = let none : 0 ≡ span low high * 0 = omega arith in ap trues none
  phases_true arrays (beside first rest) var low high vars store h =
      let parts = and_parts (has_no_site_under_if first false) (have_no_site_under_if rest false) h in
      let next = exec arrays (loop var low high (sequence_work first) vars) store in
      let one = turns_true arrays (span low high) (sites_in first) (λ x. sequence_work first ((var, x) ∷ vars)) (λ x. sequence_entered arrays first ((var, x) ∷ vars)) low
      (λ x there. sequence_true arrays first ((var, x) ∷ vars) there parts.0) store in
      let sum : span low high * sites_in first + span low high * branches_sites_in rest ≡ span low high * (sites_in first + branches_sites_in rest) = omega arith in
      both_true (turns_entered arrays (λ x. sequence_part arrays first ((var, x) ∷ vars)) low (span low high) store)
      (phases_entered arrays rest var low high vars next) (span low high * sites_in first) (span low high * branches_sites_in rest)
      one (phases_true arrays rest var low high vars next parts.1) ∙ ap trues sum

pub all_sites_are_entered : AllSitesAreEntered
all_sites_are_entered program p is none =
    let arrays = arrays_of program.arrays in
    sequence_true arrays program.body [] (first_store arrays) none
    ∙ ap trues (sym (plans.sequence_length program.body 0 1) ∙ sym (ap length is))

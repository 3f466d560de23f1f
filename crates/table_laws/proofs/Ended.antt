-- A run that has ended is complete.
use Rattle.std.proofs.Common.{◌≡◌, ℕ, zero, suc, ◌+◌, ◌-◌, ◌<◌, ◌≤◌, nat_le, Bool, true, false, cond, if◌then◌else◌, ◌==◌, List, [], ◌∷◌, ◌++◌, length, replicate, get_or, sym, ap, refl, ◌∙◌, arith, eq-eqb}
use Rattle.std.proofs.lemmas.Bool.Decides.{nat_tests}
use Rattle.std.proofs.lemmas.List.Sums.{sum_by-append}
use mathlib.Core.Logic.{dite}
use native.Mathlib.Decide.{ℕ_discrete}
use Rattle.transfer_table.specs.Plan.{site_count}
use Rattle.transfer_table.specs.Table.{TableState, row}
use Rattle.transfer_table.specs.Journal.{AllGone, AreMeant, all_meant}
use Rattle.transfer_table.specs.Entry.{site_of, is_register, registers}
use Rattle.transfer_table.specs.declared.entry.Stage.TheVariants.{New, Live, Gone}
use Rattle.transfer_table.specs.declared.entry.Stage.{Stage}
use Rattle.transfer_table.specs.declared.entry.Entry.{Entry}
use Rattle.transfer_table.specs.declared.entry.Entry.TheVariants.{Register, Request, Enter, Yield, Unregister}
use Rattle.open_table.specs.declared.table.Size.{Size}
use Rattle.open_table.specs.declared.table.Post.{Post}
use Rattle.open_table.specs.declared.table.Act.{Act}
use Rattle.open_table.specs.declared.table.Act.TheVariants as act
use Rattle.open_table.specs.declared.table.Entry.{Entry as OpenEntry}
use Rattle.open_table.specs.Table.{TableState as OpenState, first_state as open_start, after}
use Rattle.open_table.proofs.Ways.{no_site_is_left}
use Rattle.table_laws.specs.Planned.{Numbering, no_sites, numbered, numbered_by, parents_in, parents_from, plan_of_run, transfers_in, transfers_from, planned}
use Rattle.table_laws.specs.Agreement.{Agrees, AreBegun}
use Rattle.table_laws.specs.Laws.{EndedRunsAreComplete}
use Rattle.table_laws.proofs.Runs.{open_runs_are_legal}

-- ---- the number of sites

count_in : (s : List Post) (a : Act) (n : Numbering) (qs : List ℕ) → n.count + length (parents_in s a n ++ qs) ≡ (numbered a n).count + length qs
count_in s (act.Register x) n qs = omega arith
count_in s (act.Request x k) n qs = refl
count_in s (act.Withdraw x k) n qs = refl
count_in s (act.Enter x) n qs = refl
count_in s (act.Yield x) n qs = refl
count_in s (act.Close x) n qs = refl
count_in s (act.SeeEmpty x) n qs = refl
count_in s (act.Unregister x) n qs = refl

-- The run's last numbering counts the sites of the plan.
count_of_run : (es : List OpenEntry) (t : OpenState) (n : Numbering) → (numbered_by n es).count ≡ n.count + length (parents_from t n es)
count_of_run [] t n = let e : n.count ≡ n.count + 0 = omega arith in e
count_of_run (e ∷ es) t n = count_of_run es (after t e) (numbered e.act n) ∙ sym (count_in (t.stacks e.hart) e.act n (parents_from (after t e) (numbered e.act n) es))

-- ---- each site has a Register

one_more : (s : ℕ) (e : Entry) (es : List Entry) → registers s (e ∷ es) ≡ cond (if site_of e == s then is_register e else false) 1 0 + registers s es
one_more s e es = let z = sum_by-append (λ x. cond (if site_of x == s then is_register x else false) 1 0) (e ∷ []) es in omega arith

module _ (h : ℕ) (t : OpenState) (n : Numbering) (s : ℕ) (es : List Entry) (qs : List ℕ) where
  register_in : (a : Act) → ((numbered a n).count < s → s ≤ (numbered a n).count + length qs → 1 ≤ registers s es)
      → n.count < s → s ≤ n.count + length (parents_in (t.stacks h) a n ++ qs) → 1 ≤ registers s (transfers_in h a n ++ es)
  register_in (act.Register x) rest low high = dite (ℕ_discrete (n.count + 1) s)
      (λ e. let one : cond {A = ℕ} (if (n.count + 1) == s then true else false) 1 0 ≡ 1 = ap (λ (b : Bool). cond {A = ℕ} (if b then true else false) 1 0) (eq-eqb (n.count + 1) s e) in let m = one_more s (Register h (n.count + 1)) es in omega arith)
      (λ ne. let r = rest (omega arith) (omega arith) in let m = one_more s (Register h (n.count + 1)) es in omega arith)
  register_in (act.Request x zero) rest low high = rest low high
  register_in (act.Request x (suc k)) rest low high = let r = rest low high in let m = one_more s (Request h (n.number x) (suc k)) es in omega arith
  register_in (act.Withdraw x k) rest low high = rest low high
  register_in (act.Enter x) rest low high = let r = rest low high in let m = one_more s (Enter h (n.number x)) es in omega arith
  register_in (act.Yield x) rest low high = let r = rest low high in let m = one_more s (Yield h (n.number x)) es in omega arith
  register_in (act.Close x) rest low high = rest low high
  register_in (act.SeeEmpty x) rest low high = rest low high
  register_in (act.Unregister x) rest low high = let r = rest low high in let m = one_more s (Unregister h (n.number x)) es in omega arith

registered : (es : List OpenEntry) (t : OpenState) (n : Numbering) (s : ℕ) → n.count < s → s ≤ n.count + length (parents_from t n es) → 1 ≤ registers s (transfers_from n es)
registered [] t n s low high = absurd (omega arith)
registered (e ∷ es) t n s low high =
    register_in e.hart t n s (transfers_from (numbered e.act n) es) (parents_from (after t e) (numbered e.act n) es) e.act
    (registered es (after t e) (numbered e.act n) s) low high

all_true : (n i : ℕ) → i < n → get_or (replicate n true) i false ≡ true
all_true zero i lt = absurd (omega arith)
all_true (suc n) zero lt = refl
all_true (suc n) (suc i) lt = all_true n i (omega arith)

at_least_one : (n : ℕ) → 1 ≤ n → nat_le 1 n ≡ true
at_least_one n le = grind (arith, nat_tests)

all_registered : (z : Size) (es : List OpenEntry) → AreMeant (plan_of_run z es) (all_meant (plan_of_run z es)) (planned es)
all_registered z es s site =
    let low = site.0 in let high = site.1 in
    at_least_one (registers s (planned es)) (registered es open_start no_sites s (omega arith) (omega arith))
    ∙ sym (all_true (site_count (plan_of_run z es)) (s - 1) (omega arith))

-- ---- each site is gone

all_gone : (z : Size) (es : List OpenEntry) (t : OpenState) (u : TableState) → Agrees z t (numbered_by no_sites es) (plan_of_run z es) u → AreBegun (numbered_by no_sites es) (plan_of_run z es) u
    → ((x : ℕ) → (t.rows x).live ≡ false) → AllGone (plan_of_run z es) u
all_gone z es t u A B none s site = by_stage (row u s).stage refl
  where
    by_stage : (g : Stage) → (row u s).stage ≡ g → (row u s).stage ≡ Gone
    by_stage New e = let count = count_of_run es open_start no_sites in let high = site.1 in absurd (B.begun s site (omega arith) e)
    by_stage Live e = let l = A.others s site e in let live = l.1 in let dead = none l.0 in absurd (cc)
    by_stage Gone e = e

pub ended_runs_are_complete : EndedRunsAreComplete
ended_runs_are_complete z es t reached few based =
    let l = open_runs_are_legal z es t reached few in
    (l.0, l.1, all_gone z es t l.0 l.2 l.3 (no_site_is_left z es t reached based), all_registered z es)

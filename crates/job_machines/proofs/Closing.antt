-- How a construct is opened, and how it ends.
use Rattle.std.proofs.Common.{◌≡◌, ◌+◌, ◌-◌, ◌<◌, ◌≤◌, inr, true, [], ◌∷◌, ◌++◌, refl, arith}
use Rattle.std.proofs.lemmas.Bool.{false≢true}
use Rattle.transfer_table.specs.Entry.{unregisters}
use Rattle.transfer_table.specs.declared.entry.Entry.TheVariants.{Register, Unregister}
use Rattle.transfer_table.proofs.Balance.{unregisters-here}
use Rattle.transfer_table.specs.Accounts.{AreFresh}
use Rattle.transfer_table.proofs.Algebra.{over_lasts, over_have_ended, fresh_lasts}
use Rattle.transfer_table.proofs.Touches.{entries_touch_little}
use Rattle.array_tree.specs.Trees.{Statement, Assign, For, If, Par, Team}
use Rattle.array_meaning.specs.Stores.{HaveCells, arrays_of}
use Rattle.array_meaning.specs.Plans.{statement_sites_in}
use Rattle.array_meaning.specs.Entered.{statement_entered}
use Rattle.array_meaning.proofs.EnteredLemmas.{statement_length}
use Rattle.step_eval.specs.Nests.{NestedTree, is_construct, IsFitNest}
use Rattle.step_eval.proofs.ShapeLemmas.{some_phases}
use Rattle.step_eval.proofs.PhaseLemmas.{arrays_have_cells}
use Rattle.job_machines.specs.Entering.{work_entered}
use Rattle.job_machines.proofs.Each.{constructs_are_over}
use Rattle.job_machines.proofs.Serving.{serving_begins, served_constructs_are_run}
use Rattle.job_machines.specs.Serving.{ConstructsOpen, ChildrenHaveEnded, ConstructsEnd}

pub constructs_open : ConstructsOpen
constructs_open p around es hart nested plan is =
    let s = nested.site in
    let n = statement_sites_in nested.construct in
    let start = es ++ Register hart s ∷ [] in
    let came = entries_touch_little p es (Register hart s) plan in
    let inside : AreFresh p es (s + 1) (n - 1) = λ x site low high. is.fresh x site (omega (arith, low)) (omega (arith, high)) in
    serving_begins p start (arrays_of nested.arrays) (s + 1) (n - 1) (fresh_lasts p es start (s + 1) (n - 1) s 1 (came.own refl) (inr (omega arith)) inside)

-- The arrays of a construct have cells.
have_cells : (nested : NestedTree) → IsFitNest nested → HaveCells (arrays_of nested.arrays)
have_cells nested fit = arrays_have_cells nested fit (some_phases nested.construct fit.construct fit.limits)

-- A construct has a site of its own.
some_sites : (construct : Statement) → is_construct construct ≡ true → 1 ≤ statement_sites_in construct
some_sites (Assign line array index value) is = absurd (false≢true is)
some_sites (For line var low high body) is = absurd (false≢true is)
some_sites (If line test left right) is = absurd (false≢true is)
some_sites (Par line branches) is = omega arith
some_sites (Team line var low high members phases) is = omega arith

pub children_have_ended : ChildrenHaveEnded
children_have_ended p around start es nested done plan fit part serving all c site above =
    let s = nested.site in
    let arrays = arrays_of nested.arrays in
    let entered = statement_entered arrays nested.construct nested.vars nested.store in
    let went = entries_touch_little p es (Unregister 0 s) plan in
    let end = es ++ Unregister 0 s ∷ [] in
    let own : 1 ≤ unregisters s end = (let one = unregisters-here es (Unregister 0 s) in omega (arith, one)) in
    let over = constructs_are_over p end nested (have_cells nested fit) fit own
    (λ phase small job is. over_lasts p es end job.first (work_entered arrays job.work job.vars job.store) went.grown (serving.over job (all phase small job is))) in
    let child = part.children c site above in
    let low = child.0 in
    let high = child.1 in
    let long = statement_length arrays nested.construct nested.vars nested.store in
    let ended = over_have_ended p end s entered over c (omega (arith, low)) (omega (arith, high, long)) in
    let same = went.own refl c site (inr (omega (arith, low))) in
    let gone = same.went in
    let skipped = same.skipped in
    omega (arith, ended, gone, skipped)

pub constructs_end : ConstructsEnd
constructs_end p before es hart nested done plan fit serving all =
    served_constructs_are_run p before es hart nested done plan (have_cells nested fit) fit (some_sites nested.construct fit.construct) serving all

-- The meaning of expressions and assignments with resolved names.
use Rattle.std.specs.Prelude.{◌≡◌, ℕ, ℤ, suc, ◌+◌, List, [], ◌∷◌}
use Rattle.array_tree.specs.Trees.{Expression, Sequence}
use Rattle.array_meaning.specs.Stores.{Arrays, Vars, Store, at_cell, place_of, value_of}
use Rattle.array_meaning.specs.Values.{applied, wrapping_minus}
use Rattle.array_meaning.specs.Work.{sequence_work}
use Rattle.array_eval.specs.Traces.{Trace, noted, traced}
use Rattle.array_eval.specs.declared.acts.Act.{Act}
use Rattle.array_eval.specs.declared.resolved.Extent.{Extent}
use Rattle.array_eval.specs.declared.resolved.Resolved.{Resolved}
use Rattle.array_eval.specs.declared.resolved.Resolved.TheVariants as resolved

-- The cell for a value of the index.
abbrev pub cell_in : Extent → ℤ → ℕ
cell_in extent value = extent.base + place_of (suc extent.last) extent.is_dynamic value

-- The value of a resolved expression in a turn.
abbrev pub result_of : Resolved → ℤ → Store → ℤ
result_of (resolved.Number n) turn store = n
result_of resolved.Turn turn store = turn
result_of (resolved.Cell cell) turn store = at_cell store cell
result_of (resolved.Read' extent place index) turn store =
    at_cell store (cell_in extent (result_of index turn store))
result_of (resolved.Neg' place operand) turn store = wrapping_minus (result_of operand turn store)
result_of (resolved.Binary' op place left place' right) turn store =
    applied op (result_of left turn store) (result_of right turn store)

-- In each turn a resolved expression has the value of the expression with the turn's number as the variable.
abbrev pub IsResolved : Arrays → List ℕ → Vars → Resolved → Expression → Type 0
IsResolved arrays var vars code e = (turn : ℤ) (store : Store)
    → result_of code turn store ≡ value_of arrays ((var, turn) ∷ vars) e store

-- The trace after an assignment in a turn.
abbrev pub after_act : Act → ℤ → Trace → Trace
after_act act turn t = noted (cell_in act.extent (result_of act.index turn t.cells))
    (result_of act.value turn t.cells) t

-- The trace after assignments in a turn, one after another.
abbrev pub after_acts : List Act → ℤ → Trace → Trace
after_acts [] turn t = t
after_acts (act ∷ more) turn t = after_acts more turn (after_act act turn t)

-- In each turn the assignments leave what the body leaves with the turn's number as the variable.
abbrev pub AreActsOf : Arrays → List ℕ → Vars → List Act → Sequence → Type 0
AreActsOf arrays var vars acts body = (turn : ℤ) (t : Trace)
    → after_acts acts turn t ≡ traced arrays (sequence_work body ((var, turn) ∷ vars)) t

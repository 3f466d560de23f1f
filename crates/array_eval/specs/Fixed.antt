-- Loops whose body is one assignment to a cell that no turn changes.
use Rattle.std.specs.Prelude.{◌≡◌, ℕ, ℤ, Bool, false, ◌||◌, List, ◌∷◌}
use Rattle.array_tree.specs.Trees.{Expression, Number, Var, Read, Neg, Binary, Sequence, expression_of}
use Rattle.array_tree.specs.declared.tree.Op.TheVariants as op
use Rattle.array_tree.specs.Equal.{name_eq}
use Rattle.array_meaning.specs.Stores.{Arrays, Vars, at_cell, value_of}
use Rattle.array_meaning.specs.Values.{applied}
use Rattle.array_meaning.specs.Work.{sequence_work}
use Rattle.array_eval.specs.Traces.{Trace, noted, traced}
use Rattle.array_eval.specs.declared.fixed.FixedTurn.{FixedTurn}
use Rattle.array_eval.specs.declared.fixed.FixedTurn.TheVariants.{Sets, Adds}

-- Whether an expression names a variable.
abbrev pub names_var : Expression → List ℕ → Bool
names_var (Number n) var = false
names_var (Var name) var = name_eq var name
names_var (Read array index) var = names_var index var
names_var (Neg e) var = names_var e var
names_var (Binary op a b) var = names_var a var || names_var b var

-- The trace after one turn.
abbrev pub after_turn : Arrays → Vars → FixedTurn → Trace → Trace
after_turn arrays vars (Sets cell value) t =
    noted cell (value_of arrays vars (expression_of value.now) t.cells) t
after_turn arrays vars (Adds cell value) t =
    noted cell (applied op.Add (at_cell t.cells cell)
    (value_of arrays vars (expression_of value.now) t.cells)) t

-- Each turn leaves what the body leaves with that number as the variable.
abbrev pub IsTurnOf : Arrays → FixedTurn → List ℕ → Vars → Sequence → Type 0
IsTurnOf arrays turn var vars body =
    (x : ℤ) (t : Trace)
    → after_turn arrays ((var, x) ∷ vars) turn t
    ≡ traced arrays (sequence_work body ((var, x) ∷ vars)) t

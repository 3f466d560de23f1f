-- Loops whose body is one assignment to a cell that no turn changes.
use Rattle.std.proofs.Common.{◌≡◌, ℕ, ℤ, ◌≤ℤ◌, false, true, List, [], ◌∷◌, map, length, get_or, refl, sym, ap, ◌∙◌, arith}
use Rattle.std.proofs.lemmas.Bool.{false≢true}
use Rattle.std.proofs.lemmas.Int.{ints}
use Rattle.array_tree.specs.declared.tree.Block.{Block}
use Rattle.array_tree.specs.declared.tree.Op.TheVariants as op
use Rattle.array_tree.specs.declared.tree.Expr.{Expr}
use Rattle.array_tree.specs.declared.tree.Stmt.{Stmt}
use Rattle.array_tree.specs.declared.tree.Stmt.TheFolds.{fold-roll-Stmt}
use Rattle.array_tree.specs.declared.tree.Stmt.TheVariants as stmt
use Rattle.array_tree.specs.declared.tree.Stmt.TheVariants.{rolls-Assign}
use Rattle.array_tree.specs.Equal.{expression_eq}
use Rattle.array_tree.specs.EqualLaws.{expression_same}
use Rattle.array_tree.specs.Trees.{Expression, Number, Var, Read, Neg, Binary, Statement, Assign, Sequence, followed, ended, Sequences, sequence, expression_of, statement_of, sequence_of, statement_step, block_step, blocks_step}
use Rattle.array_tree.proofs.Views.{sequence_of-statements}
use Rattle.array_meaning.specs.Stores.{Arrays, Vars, Store, at_cell, cell_of, is_dynamic, value_of}
use Rattle.array_meaning.specs.Values.{applied}
use Rattle.array_meaning.specs.Work.{Work, loop, turns, span, sequence_work}
use Rattle.array_meaning.proofs.FrameLemmas.{or_false}
use Rattle.array_eval.specs.Fixed.{names_var}
use Rattle.array_eval.specs.Traces.{Trace, noted, traced}

-- An index that reads no cell and doesn't name the variable has the same value in each turn.
pub fixed_value : (arrays : Arrays) (vars : Vars) (var : List ℕ) (x : ℤ) (e : Expression) (s t : Store) → is_dynamic e ≡ false → names_var e var ≡ false →
    value_of arrays ((var, x) ∷ vars) e s ≡ value_of arrays vars e t
fixed_value arrays vars var x (Number n) s t still free = refl
fixed_value arrays vars var x (Var name) s t still free = rw free refl
fixed_value arrays vars var x (Read array index) s t still free = absurd (false≢true (sym still))
fixed_value arrays vars var x (Neg e) s t still free = rw (fixed_value arrays vars var x e s t still free) refl
fixed_value arrays vars var x (Binary op a b) s t still free =
    let one = or_false (is_dynamic a) (is_dynamic b) still in
    let two = or_false (names_var a var) (names_var b var) free in
    rw (fixed_value arrays vars var x a s t one.0 two.0, fixed_value arrays vars var x b s t one.1 two.1) refl

-- The cell of such an index is the same in each turn.
fixed_cell : (arrays : Arrays) (vars : Vars) (var array : List ℕ) (index : Expression) (cell : ℕ) → is_dynamic index ≡ false → names_var index var ≡ false →
    cell ≡ cell_of arrays array (is_dynamic index) (value_of arrays vars index []) → (x : ℤ) (s : Store) →
    cell ≡ cell_of arrays array (is_dynamic index) (value_of arrays ((var, x) ∷ vars) index s)
fixed_cell arrays vars var array index cell still free is x s =
    is ∙ ap (cell_of arrays array (is_dynamic index)) (sym (fixed_value arrays vars var x index s [] still free))

-- A turn that writes a value to this cell is a turn of the assignment.
pub sets_turn : (arrays : Arrays) (vars : Vars) (var array : List ℕ) (index value : Expression) (cell : ℕ) → is_dynamic index ≡ false → names_var index var ≡ false →
    cell ≡ cell_of arrays array (is_dynamic index) (value_of arrays vars index []) → (line : ℕ) (x : ℤ) (t : Trace) →
    noted cell (value_of arrays ((var, x) ∷ vars) value t.cells) t
    ≡ traced arrays (sequence_work (followed (Assign line array index value) ended) ((var, x) ∷ vars)) t
sets_turn arrays vars var array index value cell still free is line x t =
    ap (λ c. noted c (value_of arrays ((var, x) ∷ vars) value t.cells) t) (fixed_cell arrays vars var array index cell still free is x t.cells)

-- A turn that adds a value to this cell is a turn of the assignment, if the assignment adds the value to the cell.
pub adds_turn : (arrays : Arrays) (vars : Vars) (var array : List ℕ) (index value right : Expression) (cell : ℕ) → is_dynamic index ≡ false → names_var index var ≡ false →
    cell ≡ cell_of arrays array (is_dynamic index) (value_of arrays vars index []) → value ≡ Binary op.Add (Read array index) right → (line : ℕ) (x : ℤ) (t : Trace) →
    noted cell (applied op.Add (at_cell t.cells cell) (value_of arrays ((var, x) ∷ vars) right t.cells)) t
    ≡ traced arrays (sequence_work (followed (Assign line array index value) ended) ((var, x) ∷ vars)) t
adds_turn arrays vars var array index value right cell still free is sum line x t =
    let inner : Vars = (var, x) ∷ vars in
    let led : ℕ = cell_of arrays array (is_dynamic index) (value_of arrays inner index t.cells) in
    ap (λ c. noted c (applied op.Add (at_cell t.cells c) (value_of arrays inner right t.cells)) t) (fixed_cell arrays vars var array index cell still free is x t.cells)
    ∙ ap (λ v. noted led (value_of arrays inner v t.cells) t) (sym sum)

single : (ss : List Stmt) (d : Stmt) → length ss ≡ 1 → sequence (map statement_of ss) ≡ followed (statement_of (get_or ss 0 d)) ended
single [] d e = absurd (omega (arith, e))
single (s ∷ []) d e = refl
single (s ∷ t ∷ more) d e = absurd (omega (arith, e))

-- A block of one statement.
pub one_statement : (b : Block) (d : Stmt) → length b.statements.items ≡ 1 → sequence_of b ≡ followed (statement_of (get_or b.statements.items 0 d)) ended
one_statement b d e = sequence_of-statements b ∙ single b.statements.items d e

-- The statement that an assignment of the tree stands for.
pub assignment : (line : ℕ) (array : List ℕ) (index value : Expr) →
    statement_of (stmt.Assign line array index value) ≡ Assign line array (expression_of index) (expression_of value)
assignment line array index value =
    ap statement_of (sym (rolls-Assign line array index value))
    ∙ fold-roll-Stmt Statement Sequence Sequences statement_step block_step blocks_step _

-- If the test passes, the value is a sum whose left side reads this cell.
pub added : (value l r : Expression) (array : List ℕ) (index : Expression) → value ≡ Binary op.Add l r → true ≡ expression_eq l (Read array index) →
    value ≡ Binary op.Add (Read array index) r
added value l r array index whole test = whole ∙ ap (λ e. Binary op.Add e r) (expression_same l (Read array index) (sym test))

-- After the last turn nothing is left.
pub turns_done : (arrays : Arrays) (var : List ℕ) (body : Work) (vars : Vars) (t s : Trace) (x low low' high high' : ℤ) → low' ≡ low → high' ≡ high → high' ≤ℤ x →
    traced arrays (loop var x high' body vars) t ≡ traced arrays (loop var low' high' body vars) s →
    t ≡ traced arrays (loop var low high body vars) s
turns_done arrays var body vars t s x low low' high high' first last over kept =
    let none : span x high' ≡ 0 = grind (arith, ints) in
    sym (ap (λ n. traced arrays (turns (λ y. body ((var, y) ∷ vars)) x n) t) none) ∙ kept
    ∙ ap (λ l. traced arrays (loop var l high' body vars) s) first
    ∙ ap (λ h. traced arrays (loop var low h body vars) s) last

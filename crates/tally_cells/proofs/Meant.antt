-- Facts on a program that has a meaning, and its faults by their lines.
use Rattle.std.proofs.Common.{◌≡◌, ℕ, List, Some, None, Result, Ok, Err, IsTrue, sym, subst}
use Rattle.std.specs.Prelude.{◌&&◌, nat_le, length, IfOk}
use Rattle.std.proofs.lemmas.Bool.{and_parts}
use Rattle.array_tree.specs.Trees.{Expression, ProgramTree}
use Rattle.array_meaning.specs.Stores.{arrays_of, cells_of, AreSized}
use Rattle.array_meaning.specs.Limits.{have_right_lengths, has_right_ranges}
use Rattle.array_meaning.proofs.InsideLemmas.{sized_in_range}
use Rattle.spread_laws.specs.Adds.{added}
use Rattle.spread_laws.specs.Faults.{unshaped, taken_at, spread_fault_of, UnshapedAt, NameTakenAt}
use Rattle.spread_laws.specs.Spread.{spread_of}
use Rattle.spread_laws.specs.Served.{HasMeaning, IsNarrow, IsNarrowExpression, IsTallyKept}
use Rattle.spread_laws.proofs.Inside.{added_is}
use Rattle.spread_laws.proofs.Built.{tally_kept}

pub meant_sized : (program : ProgramTree) → HasMeaning program → AreSized (arrays_of program.arrays)
meant_sized program meaning = sized_in_range program meaning.ranges

pub meant_ranges : (program : ProgramTree) → HasMeaning program → IsTrue (has_right_ranges program.body)
meant_ranges program meaning =
    let arrays_right = have_right_lengths program.arrays && (nat_le (length program.arrays) 64 && nat_le (cells_of (arrays_of program.arrays)) 4096) in
    (and_parts arrays_right (has_right_ranges program.body) meaning.ranges).1

pub kept_at : (program spread : ProgramTree) → HasMeaning program → IsNarrow program → spread_fault_of program ≡ None → spread ≡ spread_of program → IsTallyKept program spread
kept_at program spread meaning narrow sound same = subst (IsTallyKept program) (sym same) (tally_kept program meaning narrow sound)

pub first_reported : (program : ProgramTree) (line : ℕ) → unshaped 0 program.body ≡ Some line → spread_fault_of program ≡ Some (UnshapedAt line)
first_reported program line here = rw here

pub second_reported : (program : ProgramTree) (line : ℕ) → unshaped 0 program.body ≡ None → taken_at program ≡ Some line → spread_fault_of program ≡ Some (NameTakenAt line)
second_reported program line none here = rw (none, here)

pub none_reported : (program : ProgramTree) → unshaped 0 program.body ≡ None → taken_at program ≡ None → spread_fault_of program ≡ None
none_reported program none free = rw (none, free)

-- The value of an add of narrow parts is narrow.
pub narrow_add : (x : List ℕ) (e value v : Expression) → added x e value ≡ Some v → IsNarrowExpression e → IsNarrowExpression v → IsNarrowExpression value
narrow_add x e value v adds place more = subst IsNarrowExpression (sym (added_is x e value v adds).value_is) (place, more)

-- The same for copies of the parts, if they were made.
pub narrow_value : {T E : Type 0} (r : Result T E) (x : List ℕ) (e value v : Expression) → added x e value ≡ Some v → IfOk r (λ t. IsNarrowExpression e) → IfOk r (λ t. IsNarrowExpression v)
    → IfOk r (λ t. IsNarrowExpression value)
narrow_value (Ok t) x e value v adds place more = narrow_add x e value v adds place more
narrow_value (Err why) x e value v adds place more = tt

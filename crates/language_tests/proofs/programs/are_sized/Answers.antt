use Rattle.std.proofs.Common.{ℕ, ◌≡◌, ◌≤◌, ◌<◌, ◌+◌, List, length, drop, get_or, map, arith, rules, drop-cons, add-one, ap, ◌∙◌, w64}
use mir.Val.{SFits}
use Rattle.std.proofs.lemmas.Int.{to_z-of_z}
use Rattle.std.specs.Prelude.{unsigned_abs}
use Rattle.array_tree.specs.declared.tree.ArrayDecl.{ArrayDecl}
use Rattle.array_tree.specs.Trees.{declaration_of}
use Rattle.array_meaning.specs.Stores.{arrays_of, cells_of, HaveCells}
use Rattle.language_tests.proofs.programs.are_sized.Goals as goal

next : (A : Type 0) (items : List ArrayDecl) (i : ℕ) (d : ArrayDecl) (cells : ℕ) → i < length items →
    (HaveCells (arrays_of (map declaration_of (drop i items))) → cells + cells_of (arrays_of (map declaration_of (drop i items))) ≤ 4096 → A) →
    0 < unsigned_abs (get_or items i d).length →
    HaveCells (arrays_of (map declaration_of (drop (i + 1) items))) →
    cells + unsigned_abs (get_or items i d).length + cells_of (arrays_of (map declaration_of (drop (i + 1) items))) ≤ 4096 → A
next A items i d cells h room some have whole =
    (rw (drop-cons items i d h) at room) (some, rw add-one at have) (let sum = rw add-one at whole in omega arith)

pub loop-array-preserved : goal.loop-array-preserved
loop-array-preserved c =
    let items = c.deref-array-items.result.now in
    let some = c.if-length-eq0.false in
    let below = c.if-length-cells.false in
    let small = c.loop-array.invariant.small in
    let fits : SFits w64 c.array-item.result.length = search rules in
    let size : c.unsigned_abs-length.result ≡ unsigned_abs (get_or items c.loop-array.array-index c.array-item.result).length
    = c.unsigned_abs-length.ensures.value ∙ rw (to_z-of_z w64 c.array-item.result.length fits) (ap (λ a. unsigned_abs a.length) c.array-item.is) in
    record {
      small = omega arith;
      room = λ have whole.
          next _ items c.loop-array.array-index c.array-item.result c.loop-array.cells c.loop-array-test.true c.loop-array.invariant.room
          (omega (arith, size, some)) have (omega (arith, size, whole));
    }

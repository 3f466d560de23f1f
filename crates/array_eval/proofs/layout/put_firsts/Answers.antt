use Rattle.std.proofs.Common.{◌≡◌, ◌+◌, ◌-◌, [], length, drop, map, sym, ap, subst, ◌∙◌, List, ℕ, arith, slice_set}
use Rattle.std.proofs.lemmas.List.{take_all, drop_all}
use Rattle.std.specs.Prelude.{unsigned_abs}
use Rattle.array_tree.specs.Trees.{declaration_of}
use Rattle.array_meaning.specs.Stores.{Arrays, arrays_of, cells_of}
use Rattle.array_eval.specs.declared.layout.First.{First}
use Rattle.array_eval.specs.Layouts.{AreFirsts}
use Rattle.array_eval.proofs.LayoutLemmas.{no_firsts, own_cells, put_next}
use Rattle.array_eval.proofs.layout.put_firsts.Goals as goal

pub loop-left-init : goal.loop-left-init
loop-left-init c =
    let ds = c.args.declarations.now in
    let n = length ds in
    let in-table : List First → Type 0 = λ firsts. AreFirsts n c.args.cells [] firsts in
    let of-rest : Arrays → Type 0 = λ arrays. AreFirsts n c.args.cells arrays c.args.firsts.now in
    record {
      within = omega arith;
      base = c.requires.cells ∙ sym (ap (λ xs. cells_of (arrays_of (map declaration_of xs))) (take_all n ds (omega arith)));
      right = subst of-rest (sym (ap (λ xs. arrays_of (map declaration_of xs)) (drop_all n ds (omega arith)))) (subst in-table (sym c.requires.none) (no_firsts n c.args.cells));
    }

pub overflow_sub-base : goal.overflow_sub-base
overflow_sub-base c =
    let ds = c.args.declarations.now in
    let more = c.loop-left-test.true in
    let within = c.loop-left.invariant.within in
    let own = own_cells ds c.loop-left.left (c.loop-left.left - 1) c.loop-left.base c.index-declarations-left.result
    (omega arith) (omega arith) c.index-declarations-left.is c.loop-left.invariant.base in
    let value = c.cells_in.ensures in
    omega arith

pub overflow_cast-base : goal.overflow_cast-base
overflow_cast-base c =
    let ds = c.args.declarations.now in
    let more = c.loop-left-test.true in
    let within = c.loop-left.invariant.within in
    let own = own_cells ds c.loop-left.left (c.loop-left.left - 1) c.loop-left.base c.index-declarations-left.result
    (omega arith) (omega arith) c.index-declarations-left.is c.loop-left.invariant.base in
    let value = c.cells_in.ensures in
    let fits = c.loop-left.auto.base-fits.fits in
    record { fits = omega arith }

pub loop-left-preserved : goal.loop-left-preserved
loop-left-preserved c =
    let ds = c.args.declarations.now in
    let n = c.loop-left.left - 1 in
    let d = c.index-declarations-left.result in
    let base = c.loop-left.base in
    let more = c.loop-left-test.true in
    let within = c.loop-left.invariant.within in
    let own = own_cells ds c.loop-left.left n base d (omega arith) (omega arith) c.index-declarations-left.is c.loop-left.invariant.base in
    let value = c.cells_in.ensures in
    let rest = base - c.cells_in.result in
    let split : base ≡ rest + unsigned_abs d.length = omega arith in
    let in-slot : ℕ → Type 0 = λ slot. AreFirsts n rest (arrays_of (map declaration_of (drop n ds))) (slice_set c.loop-left.firsts slot (record { number = n; base = rest })) in
    record {
      within = omega arith;
      base = omega arith;
      right = subst in-slot (sym c.slot.ensures.slot)
          (put_next ds c.loop-left.left n base rest d c.loop-left.firsts (omega arith) (omega arith) c.index-declarations-left.is split c.loop-left.invariant.right);
    }

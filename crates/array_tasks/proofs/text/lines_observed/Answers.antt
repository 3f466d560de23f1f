use Rattle.std.proofs.Common.{◌≡◌, ◌∙◌, Err, length, ap, sym, subst, rules}
use Rattle.array_tree.specs.declared.tree.Program.{Program}
use Rattle.array_tree.specs.Trees.{program_of, declarations_of}
use Rattle.array_meaning.specs.Stores.{arrays_of, cells_of, AreSized}
use Rattle.array_meaning.proofs.InsideLemmas.{sized_in_range}
use Rattle.array_tasks.proofs.Bodies.{final_cells}
use Rattle.array_tasks.proofs.text.lines_observed.Goals as goal

pub returns-in_err-program-clause-error : goal.returns-in_err-program-clause-error
returns-in_err-program-clause-error g c =
    let same : c.from_residual.result ≡ Err c.in_err-program.field-0.0 = search rules in
    rw same (c.in_err-program.ensures.error c.args.harts)

pub write_arrays-requires-clause-sized : goal.write_arrays-requires-clause-sized
write_arrays-requires-clause-sized g c =
    subst (λ (p : Program). AreSized (arrays_of (declarations_of p.arrays))) (sym c.program.ensures.same)
    (sized_in_range (program_of c.in_ok-accepted.accepted.program) c.program.ensures.kept.accepted.ranges)

pub write_arrays-requires-clause-whole : goal.write_arrays-requires-clause-whole
write_arrays-requires-clause-whole g c =
    ap length c.in_ok-store.ensures.arrays ∙ final_cells (program_of c.in_ok-accepted.accepted.program)
    ∙ ap (λ (p : Program). cells_of (arrays_of (declarations_of p.arrays))) (sym c.program.ensures.same)

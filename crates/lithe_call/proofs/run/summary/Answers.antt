use Rattle.std.proofs.Common.{◌∙◌, length, ap, sym, subst}
use Rattle.transfer_table.specs.Plan.{Plan}
use Rattle.transfer_table.specs.Journal.{IsComplete}
use Rattle.array_tree.specs.declared.tree.Program.{Program}
use Rattle.array_tree.specs.Trees.{program_of, declarations_of}
use Rattle.array_meaning.specs.Stores.{arrays_of, cells_of, AreSized}
use Rattle.array_meaning.specs.Entered.{entered_of}
use Rattle.array_meaning.proofs.InsideLemmas.{sized_in_range}
use Rattle.lithe_call.proofs.Runs.{final_cells, printed_plan, summarised}
use Rattle.lithe_call.proofs.run.summary.Goals as goal

pub write_summary-requires-clause-sized : goal.write_summary-requires-clause-sized
write_summary-requires-clause-sized g c =
    subst (λ (p : Program). AreSized (arrays_of (declarations_of p.arrays))) (sym c.program.ensures.same)
    (sized_in_range (program_of c.args.accepted.now.program) c.program.ensures.kept.accepted.ranges)

pub write_summary-requires-clause-whole : goal.write_summary-requires-clause-whole
write_summary-requires-clause-whole g c =
    ap length c.in_ok-outcome.ensures.store ∙ final_cells (program_of c.args.accepted.now.program)
    ∙ ap (λ (p : Program). cells_of (arrays_of (declarations_of p.arrays))) (sym c.program.ensures.same)

pub returns : goal.returns
returns g c =
    let program = program_of c.args.accepted.now.program in
    let own = c.args.accepted.now.plan in
    let plan = c.plan.ensures.same ∙ printed_plan own program c.program.ensures.kept.parents in
    let complete = subst (λ (p : Plan). IsComplete p (entered_of program) c.entries-entries.result.now) (sym c.plan.ensures.same) (subst (λ journal. IsComplete own (entered_of program) journal) (sym c.entries-entries.ensures) c.in_ok-outcome.ensures.journal) in
    summarised c.write_summary.result (λ text. text.items) program own.harts c.plan.result.now c.in_ok-outcome.outcome.store c.entries-entries.result.now
    plan c.in_ok-outcome.ensures.store complete c.write_summary.ensures

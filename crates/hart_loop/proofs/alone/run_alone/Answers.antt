-- The body is the program's. Its account states that each site was run iff the meaning enters it.
use Rattle.std.proofs.Common.{◌≡◌, ◌≤◌, ◌∙◌, true, List, [], length, sym, ap, subst}
use Rattle.array_tree.specs.Trees.{program_of}
use Rattle.array_meaning.specs.Entered.{entered_of}
use Rattle.transfer_table.specs.Plan.{IsPlan}
use Rattle.transfer_table.specs.Journal.{Reaches, IsComplete}
use Rattle.transfer_table.specs.declared.entry.Entry.{Entry}
use Rattle.transfer_table.proofs.Bounds.{few_entries}
use Rattle.array_jobs.specs.Bodies.{body_of}
use Rattle.job_machines.specs.Machines.{IsRunJob}
use Rattle.job_machines.proofs.Jobs.{bodies_are_run}
use Rattle.hart_loop.proofs.alone.run_alone.Goals as goal

pub returns-clause-outcome : goal.returns-clause-outcome
returns-clause-outcome c =
    let program = program_of c.args.accepted.now.program in
    let port = c.run_body.new.port in
    let tree = c.in_ok-tree.tree in
    let accepted = c.plan-plan.ensures.same in
    let is_tree : tree ≡ c.args.accepted.now.plan = c.in_ok-tree.ensures ∙ accepted in
    let first = c.in_ok-port.ensures in
    let plan : port.view.plan ≡ tree = c.run_body.ensures.back.plan ∙ ap (λ p. p.view.plan) first ∙ sym c.in_ok-tree.ensures in
    let is_plan : IsPlan tree = subst IsPlan c.tree.view_is c.tree.invariant.plan in
    let alone : c.in_ok-port.port.view.alone ≡ true = ap (λ p. p.view.alone) first in
    let ran : IsRunJob tree [] port.view.mine (body_of program) = c.in_ok-piece.ensures.ran alone in
    let legal : Reaches tree port.view.mine port.state = subst (λ p. Reaches p port.view.mine port.state) plan c.finish.ensures.legal in
    let complete : IsComplete tree (entered_of program) port.view.mine = bodies_are_run program tree port.view.mine port.state (ap (λ p. p.parents) is_tree ∙ c.plan-plan.ensures.kept.parents) is_plan legal ran in
    let of_port : IsPlan port.view.plan = subst IsPlan (sym plan) is_plan in
    record {
      store = c.in_ok-store.ensures program c.in_ok-piece.ensures.piece;
      journal = subst (λ p. IsComplete p (entered_of program) c.finish.result) is_tree
          (subst (λ (es : List Entry). IsComplete tree (entered_of program) es) (sym c.finish.ensures.entries) complete);
      short = subst (λ (es : List Entry). length es ≤ 65535) (sym c.finish.ensures.entries) (few_entries port.view.plan of_port port.view.mine port.state c.finish.ensures.legal);
    }

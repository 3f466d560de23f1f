use Rattle.std.proofs.Common.{◌≡◌, ◌≤◌, ◌∙◌, ◌++◌, ◌∷◌, [], List, length, ap, sym, subst}
use Rattle.array_tree.specs.Trees.{program_of}
use Rattle.transfer_table.specs.Plan.{IsPlan}
use Rattle.transfer_table.specs.declared.entry.Entry.{Entry}
use Rattle.transfer_table.proofs.Bounds.{few_entries}
use Rattle.site_steps.specs.Shared.{shared}
use Rattle.hart_loop.proofs.Boards.{one_back}
use Rattle.hart_loop.proofs.on_ports.on_plain_port.Goals as goal

pub returns-clause-store : goal.returns-clause-store
returns-clause-store g c = c.in_ok-store.ensures (program_of c.args.accepted.now.program) c.in_ok-piece.ensures.piece

pub returns-clause-short : goal.returns-clause-short
returns-clause-short g c =
    let port = c.into_port.result in
    let same = one_back (λ w. shared w.port.view) c.new-2.result c.push.new.self.items c.in_ok-piece.ports.items c.pop.new.self.items c.in-Some.port
    (c.in_ok-push.ensures.items ∙ ap (λ ws. ws ++ c.new-2.result ∷ []) c.in_ok-ports.ensures.items) c.in-Some.ensures.items c.in_ok-piece.ensures.same in
    let plan : port.view.plan ≡ c.plan.result.now = ap (λ p. p.view.plan) c.into_port.ensures ∙ same.plan ∙ ap (λ p. p.view.plan) (c.new-2.ensures ∙ c.in_ok-port.ensures) in
    let is_plan : IsPlan port.view.plan = subst IsPlan (sym (plan ∙ c.plan.ensures.same)) c.plan.ensures.kept in
    subst (λ (es : List Entry). length es ≤ 65535) (sym c.finish.ensures.entries) (few_entries port.view.plan is_plan port.view.mine port.state c.finish.ensures.legal)

use Rattle.std.proofs.Common.{[], ◌∷◌, ◌++◌, ◌∙◌, All, ap, append_assoc, map, subst, sym}
use Rattle.std.proofs.lemmas.List.Elements.{All-head, All-push, All-rest, All-same}
use Rattle.std.specs.Vec.Iter.{into_iter_items}
use Rattle.held_tasks.proofs.run.hold_all.Goals as goal

pub tasks-preserved : goal.tasks-preserved
tasks-preserved g c =
    let i = c.tasks.invariant in
    let rest = into_iter_items c.next.new.self in
    let own : g.T.TaskKind.ready c.in-Some.task = All-head g.T.TaskKind.ready c.in-Some.task rest (subst (All g.T.TaskKind.ready) c.in-Some.ensures.items i.left) in
    record {
      held = ap (λ vs. vs ++ map g.V.Holds.held rest) c.in_ok-push.ensures.items
          ∙ (append_assoc c.tasks.held.items (c.hold.result ∷ []) (map g.V.Holds.held rest)
          ∙ (ap (λ v. c.tasks.held.items ++ v ∷ map g.V.Holds.held rest) c.hold.ensures.held
          ∙ (sym (ap (λ ts. c.tasks.held.items ++ map g.V.Holds.held ts) c.in-Some.ensures.items) ∙ i.held)));
      ready = All-same g.V.TaskKind.ready c.push.new.self.items (c.tasks.held.items ++ c.hold.result ∷ []) c.in_ok-push.ensures.items (All-push g.V.TaskKind.ready c.tasks.held.items c.hold.result i.ready (c.hold.ensures.ready own));
      left = All-rest g.T.TaskKind.ready c.in-Some.task rest (into_iter_items c.tasks.rest) c.in-Some.ensures.items i.left;
    }

use Rattle.std.proofs.Common.{◌<◌, ◌∙◌, All, sym, subst, inl, inr, ⊎_elim}
use Rattle.std.specs.List.{AllZip}
use Rattle.held_tasks.proofs.Held.{all_map, zip_map, first_held}
use Rattle.held_tasks.proofs.run.fork_join_as.Goals as goal

pub fork_join-requires-clause-depth : goal.fork_join-requires-clause-depth
fork_join-requires-clause-depth g c =
    let n = g.H.Harts.levels c.args.harts.now in
    subst (All (λ v. g.V.TaskKind.depth v < n)) (sym c.in_ok-held.ensures.held)
    (all_map g.V.Holds.held g.T.TaskKind.depth g.V.TaskKind.depth g.met.V.Holds.same_depth n c.args.tasks.items c.requires.depth)

pub own_outputs-requires : goal.own_outputs-requires
own_outputs-requires g c = (
  c.args.tasks.items,
  zip_map g.V.Holds.held g.V.TaskKind.gives c.args.tasks.items c.in-Ok.outputs.items
      (subst (λ ts. AllZip g.V.TaskKind.gives ts c.in-Ok.outputs.items) c.in_ok-held.ensures.held c.in-Ok.ensures.outputs),
)

pub returns-in-Err-clause-error : goal.returns-in-Err-clause-error
returns-in-Err-clause-error g c =
    ⊎_elim
    (λ first. inl (first_held g.V.Holds.held g.V.TaskKind.gives g.V.TaskKind.fails g.T.TaskKind.gives g.T.TaskKind.fails g.met.V.Holds.same_outcome c.args.tasks.items first.0 first.1 first.2 first.3 c.in-Err.error c.error_of.result c.error_of.ensures.own (sym c.in_ok-held.ensures.held ∙ first.4) first.5 first.6))
    (λ memory. inr (c.error_of.ensures.memory memory))
    c.in-Err.ensures.error

pub returns-in_ok-own-in-Ok-clause-outputs : goal.returns-in_ok-own-in-Ok-clause-outputs
returns-in_ok-own-in-Ok-clause-outputs g c =
    c.in_ok-own-in-Ok.ensures.own c.args.tasks.items
    (zip_map g.V.Holds.held g.V.TaskKind.gives c.args.tasks.items c.in-Ok.outputs.items
    (subst (λ ts. AllZip g.V.TaskKind.gives ts c.in-Ok.outputs.items) c.in_ok-held.ensures.held c.in-Ok.ensures.outputs))

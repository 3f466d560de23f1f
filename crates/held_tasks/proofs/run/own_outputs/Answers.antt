use Rattle.std.proofs.Common.{◌≡◌, sym, subst, ap, length, ◌∙◌, arith}
use Rattle.std.specs.Vec.Iter.{into_iter_items, into_iter_len}
use Rattle.held_tasks.proofs.Held.{starts, steps, next_held, ends, none_of}
use Rattle.held_tasks.proofs.run.own_outputs.Goals as goal

pub outputs-init : goal.outputs-init
outputs-init g c = record {
  left = starts (λ task output. g.V.TaskKind.gives (g.V.Holds.held task) output) g.T.TaskKind.gives c.args.outputs.items (into_iter_items c.into_iter-rest.result) c.in_ok-own.own.items c.into_iter-rest.ensures.rest c.in_ok-own.ensures.items;
  none = λ e. c.into_iter-rest.ensures.rest ∙ e;
  count = c.into_iter-rest.ensures.len ∙ (c.args.outputs.ok.0 ∙ ap length (sym c.into_iter-rest.ensures.rest));
}

pub outputs-preserved : goal.outputs-preserved
outputs-preserved g c = record {
  left = steps (λ task output. g.V.TaskKind.gives (g.V.Holds.held task) output) g.T.TaskKind.gives c.args.outputs.items (into_iter_items c.outputs.rest) (into_iter_items c.next.new.self) c.outputs.own.items c.in-Some.output c.in-Some-output_of.output c.push.new.self.items c.in-Some.ensures.items
      (λ task z.
      let k = c.output_of.ensures task z in
      let is = c.in-Some-output_of.is in
      let same = k.1 in
      let e : k.0 ≡ c.in-Some-output_of.output = cc in
      subst (λ own. g.T.TaskKind.gives task own) e k.2)
      c.in_ok-push.ensures.items c.outputs.invariant.left;
  none = λ e. let rest = c.outputs.invariant.none e in let taken = c.in-Some.ensures.items in let no : ⊥ = cc in absurd no;
  count = omega (arith, c.in-Some.ensures.len, c.outputs.invariant.count, ap length c.in-Some.ensures.items);
}

pub returns-in_err-push-clause-no_outputs : goal.returns-in_err-push-clause-no_outputs
returns-in_err-push-clause-no_outputs g c =
    λ e. let rest = c.outputs.invariant.none e in let taken = c.in-Some.ensures.items in let no : ⊥ = cc in absurd no

pub returns-clause-own : goal.returns-clause-own
returns-clause-own g c =
    let none = none_of (into_iter_items c.outputs.rest) (into_iter_len c.outputs.rest) c.in_default.ensures.cases.0 c.outputs.invariant.count in
    ends (λ task output. g.V.TaskKind.gives (g.V.Holds.held task) output) g.T.TaskKind.gives c.args.outputs.items (into_iter_items c.outputs.rest) c.outputs.own.items none c.outputs.invariant.left

pub unreachable-requires : goal.unreachable-requires
unreachable-requires g c =
    let t = next_held (λ task output. g.V.TaskKind.gives (g.V.Holds.held task) output) g.T.TaskKind.gives c.args.outputs.items (into_iter_items c.outputs.rest) (into_iter_items c.next.new.self) c.outputs.own.items c.in-Some.output c.in-Some.ensures.items c.outputs.invariant.left c.requires.0 c.requires.1 in
    let k = c.output_of.ensures t.0 t.1 in
    let same = k.1 in cc

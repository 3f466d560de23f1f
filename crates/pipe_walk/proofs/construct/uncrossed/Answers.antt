use Rattle.std.proofs.Common.{sym, subst, ◌<◌}
use Rattle.std.specs.Prelude.{◌↔◌, IsTrue}
use Rattle.array_tree.specs.Trees.{declarations_of, statement_of}
use Rattle.array_meaning.specs.Stores.{arrays_of}
use Rattle.step_eval.specs.Nests.{NestedParts, nested_of, phases_of, rounds_of}
use Rattle.step_eval.specs.Shapes.{members_of}
use Rattle.phase_order.specs.Crossings.{HasNoCrossing}
use Rattle.pipe_walk.proofs.FitLemmas.{nest_sized, nest_within, clear_noted, none_noted}
use Rattle.pipe_walk.proofs.construct.uncrossed.Goals as goal

pub construct_crossing-requires : goal.construct_crossing-requires
construct_crossing-requires c =
    let inside = c.nested.inside in
    let nest : NestedParts = record { arrays = inside.arrays.now; site = inside.site; construct = inside.construct.now; vars = inside.vars; store = inside.store } in
    let phases = subst (λ n. 0 < n) c.phases-phases.ensures.same c.phases-phases.ensures.some in
    let members = subst (λ n. 0 < n) c.members-members.ensures.same c.members-members.ensures.some in
    nest_sized (nested_of nest) c.nested.invariant
    (subst (λ (n : NestedParts). 0 < phases_of (statement_of n.construct)) (sym c.nested.view_is) phases)
    (subst (λ (n : NestedParts). 0 < members_of (statement_of n.construct)) (sym c.nested.view_is) members)

pub returns : goal.returns
returns c =
    let inside = c.nested.inside in
    let nest : NestedParts = record { arrays = inside.arrays.now; site = inside.site; construct = inside.construct.now; vars = inside.vars; store = inside.store } in
    let arrays = arrays_of (declarations_of nest.arrays) in
    let rounds = rounds_of (statement_of nest.construct) nest.vars in
    let noted = rw c.in_ok-crossing.was at c.construct_crossing.ensures in
    let least = clear_noted arrays rounds (nest_within (nested_of nest) c.nested.invariant) c.in_ok-crossing.crossing noted in
    subst (λ (n : NestedParts). (IsTrue c.is_none.result) ↔ HasNoCrossing (arrays_of (declarations_of n.arrays)) (rounds_of (statement_of n.construct) n.vars)) c.nested.view_is
    (none_noted arrays rounds c.in_ok-crossing.crossing c.is_none.result c.is_none.ensures least)

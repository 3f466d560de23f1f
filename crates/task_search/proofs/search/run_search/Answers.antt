use Rattle.std.proofs.Common.{◌<◌, ◌-◌, None, ◌∙◌, ap, sym, rules}
use Rattle.std.specs.List.{find, flat_map}
use Rattle.std.specs.Option.{option_copied}
use Rattle.task_search.specs.Preorder.{preorder}
use Rattle.task_search.proofs.Finds.{find_among}
use Rattle.task_search.proofs.Tasks.{found_of_each, levels_below}
use Rattle.task_search.proofs.Visits.{find_below}
use Rattle.task_search.proofs.search.run_search.Goals as goal

pub fork_join_as-requires-clause-depth : goal.fork_join_as-requires-clause-depth
fork_join_as-requires-clause-depth g c =
    let fewer : c.args.task.levels - 1 < g.H.Harts.levels c.args.harts.now = search rules in
    levels_below c.args.task.wanted.now (c.args.task.levels - 1) (g.H.Harts.levels c.args.harts.now) c.as_slice.result.now c.in_ok-searches.searches.items c.in_ok-searches.ensures fewer

pub returns-clause-output : goal.returns-clause-output
returns-clause-output g c =
    let each = found_of_each g.W.Wanted.wants c.args.task.wanted.now (c.args.task.levels - 1) c.as_slice.result.now c.in_ok-searches.searches.items c.in_ok-found.found.items c.in_ok-searches.ensures c.in_ok-found.ensures.outputs in
    let among = find_among preorder (g.W.Wanted.wants c.args.task.wanted.now) None c.as_slice.result.now c.in_ok-found.found.items each in
    let fails = sym c.wants.ensures ∙ c.if-wants.false in
    ap option_copied c.first_of.ensures
    ∙ among
    ∙ ap (λ ts. find (g.W.Wanted.wants c.args.task.wanted.now) (flat_map preorder ts)) c.as_slice.ensures.value
    ∙ sym (find_below (g.W.Wanted.wants c.args.task.wanted.now) c.args.task.tree.now fails)

use Rattle.std.proofs.Common.{◌∙◌, ap, sym, arith}
use Rattle.std.specs.Option.{option_copied}
use Rattle.task_search.specs.Preorder.{preorder}
use Rattle.task_search.proofs.Finds.{find_through}
use Rattle.task_search.proofs.Visits.{found_at, none_at}
use Rattle.task_search.proofs.search.+first_in.Goals as goal

pub returns-in-Some : goal.returns-in-Some
returns-in-Some g t c =
    sym (found_at (g.W.Wanted.wants c.args.wanted.now) c.args.tree.now c.deref-child-items.result.now c.loop-child.child-index c.child-item.result c.in-Some.found.now
    (sym c.wants.ensures ∙ c.if-wants.false) c.deref-child-items.ensures.value (omega arith) c.child-item.is c.loop-child.invariant
    (sym c.first_in.ensures ∙ ap option_copied c.in-Some.is))

pub loop-child-preserved : goal.loop-child-preserved
loop-child-preserved g t c =
    find_through preorder (g.W.Wanted.wants c.args.wanted.now) c.deref-child-items.result.now c.loop-child.child-index c.child-item.result (omega arith) c.child-item.is c.loop-child.invariant
    ∙ sym c.first_in.ensures
    ∙ ap option_copied c.in_default.is

pub returns : goal.returns
returns g t c =
    sym (none_at (g.W.Wanted.wants c.args.wanted.now) c.args.tree.now c.deref-child-items.result.now c.loop-child.child-index
    (sym c.wants.ensures ∙ c.if-wants.false) c.deref-child-items.ensures.value (omega arith) c.loop-child.invariant)

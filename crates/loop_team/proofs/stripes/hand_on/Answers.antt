use Rattle.std.proofs.Common.{arith, ◌∙◌, sym, subst}
use Rattle.array_meaning.specs.Stores.{Store}
use Rattle.loop_team.specs.Stripes.{StartsFrom, IsStillIn}
use Rattle.loop_team.proofs.StripeLemmas.{unless_some, rid_up_to}
use Rattle.loop_team.proofs.stripes.hand_on.Goals as goal

pub loop-row-preserved : goal.loop-row-preserved
loop-row-preserved c =
    let still : IsStillIn c.loop-row.team c.hand_row.new.team = unless_some _ _ c.in_ok-found.found c.if-is_some.ensures c.in_ok-found.ensures.hands in
    record {
      known = λ k. still.starts c.hand_row.new.stripe.start (subst (λ (s : Store). StartsFrom c.loop-row.team s) (sym c.in_ok-found.ensures.rid.start) (c.loop-row.invariant.known k));
      none = rid_up_to c.loop-row.stripe c.hand_row.new.stripe c.loop-row.row c.loop-row.invariant.none c.in_ok-found.ensures.rid;
      nested = still.nested ∙ c.loop-row.invariant.nested;
      opened = still.opened ∙ c.loop-row.invariant.opened;
    }

pub returns : goal.returns
returns c = λ row less has. c.loop-row.invariant.none row (let end = c.loop-row-test.false in omega (arith, less, end)) has

use Rattle.loop_team.proofs.StripeLemmas.{moved_on, rid_of}
use Rattle.loop_team.proofs.stripes.hand_row.Goals as goal

pub returns-clause-hands : goal.returns-clause-hands
returns-clause-hands c =
    moved_on c.args.team.now c.take_in.new.self c.in-Some.piece c.take_in.result c.in_ok-take_in.field-0 c.opened_by.result
    c.take_in.ensures c.in_ok-take_in.was c.opened_by.ensures

pub returns-clause-rid : goal.returns-clause-rid
returns-clause-rid c = rid_of c.args.stripe.now c.take.new.self c.args.row c.take.result c.take.ensures

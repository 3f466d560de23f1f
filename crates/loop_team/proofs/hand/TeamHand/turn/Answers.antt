use Rattle.std.proofs.Common.{subst}
use Rattle.claim_words.specs.declared.claimed.Claimed.{Claimed}
use Rattle.loop_team.specs.Hands.{HasTried}
use Rattle.loop_team.proofs.HandLemmas.{rest_turn}
use Rattle.loop_team.proofs.hand.TeamHand.turn.Goals as goal

pub returns-in-NoneLeft : goal.returns-in-NoneLeft
returns-in-NoneLeft g c =
    let tried = subst (λ (answer : Claimed). HasTried c.args.self.now c.in-Some.phase answer c.claim.new.self) c.in-NoneLeft.is c.claim.ensures in
    rest_turn c.args.self.now c.claim.new.self c.look_rest.new.self c.in-Some.phase c.in-NoneLeft.shown c.look_rest.result
    c.args.self.now.fits c.in-Some.ensures tried c.look_rest.ensures.looked c.look_rest.ensures.reports

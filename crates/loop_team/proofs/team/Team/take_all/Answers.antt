use Rattle.std.proofs.Common.{ap, ◌∙◌, arith}
use Rattle.std.proofs.lemmas.Result.{IfOk-weaker}
use Rattle.step_eval.specs.Nests.{nested_of, nested_writes}
use Rattle.step_eval.proofs.ComputeLemmas.{reached_all, small_store}
use Rattle.loop_team.specs.Teams.{TeamParts}
use Rattle.loop_team.proofs.TeamLemmas.{all_opened}
use Rattle.loop_team.proofs.team.Team.take_all.Goals as goal

pub written-requires : goal.written-requires
written-requires c =
    let small = small_store (nested_of c.self.inside.nested) c.self.invariant.fit in
    let same = c.self.invariant.reached.same in
    omega (arith, small, same)

pub returns-clause-written : goal.returns-clause-written
returns-clause-written c =
    let all = all_opened _ c.args.self c.self.view_is c.requires c.if-self.false in
    let whole = reached_all (nested_of c.self.inside.nested) c.self.invariant.fit c.self.inside.opened c.self.inside.store all c.self.invariant.reached in
    IfOk-weaker c.written.result _ _ (λ overlay e. e ∙ whole ∙ ap (λ (t : TeamParts). nested_writes (nested_of t.nested)) c.self.view_is) c.written.ensures

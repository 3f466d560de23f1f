use Rattle.std.proofs.Common.{sym, subst}
use Rattle.join_book.specs.Books.{Open, IsMarked, IsPlaceOf}
use Rattle.step_eval.specs.declared.work.Work.TheVariants.{Begin}
use Rattle.lone_hart.proofs.Accounts.{out_place}
use Rattle.lone_hart.proofs.TeamAccounts.{arrived}
use Rattle.lone_hart.proofs.ServedTeams.{team_arrives}
use Rattle.lone_hart.proofs.teams.arrive_in_team.Goals as goal

pub keep-requires-clause-own : goal.keep-requires-clause-own
keep-requires-clause-own c =
    let before = c.args.team.now in
    let job = c.args.piece.job in
    let place = out_place Begin before.barrier before.agenda job c.requires.0 c.requires.1 c.requires.2 in
    subst (λ i. IsPlaceOf before.barrier i job) (sym place.0) place.2

pub keep-requires-clause-open : goal.keep-requires-clause-open
keep-requires-clause-open c =
    let before = c.args.team.now in
    let job = c.args.piece.job in
    let place = out_place Begin before.barrier before.agenda job c.requires.0 c.requires.1 c.requires.2 in
    subst (λ i. IsMarked before.barrier i Open) (sym place.0) place.1

pub returns-clause-nested : goal.returns-clause-nested
returns-clause-nested c = (arrived c.args.team.now c.keep.new.self c.args.piece c.keep.result c.nested.ensures.fit c.requires c.keep.ensures).nested

pub returns-clause-left : goal.returns-clause-left
returns-clause-left c = (arrived c.args.team.now c.keep.new.self c.args.piece c.keep.result c.nested.ensures.fit c.requires c.keep.ensures).left

pub returns-clause-account : goal.returns-clause-account
returns-clause-account c = (arrived c.args.team.now c.keep.new.self c.args.piece c.keep.result c.nested.ensures.fit c.requires c.keep.ensures).account

pub returns-clause-served : goal.returns-clause-served
returns-clause-served c = λ p around start es es' lends ran. team_arrives p around start es es' c.args.team.now c.keep.new.self c.args.piece c.keep.result c.keep.ensures lends ran

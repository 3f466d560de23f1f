use Rattle.std.proofs.Common.{◌∙◌, sym, subst}
use Rattle.forkjoin_sched.specs.Hands.{TakesMore, TakesCode}
use Rattle.forkjoin_sched.proofs.RowSteps.{takes_then, takes_on}
use Rattle.forkjoin_sched.proofs.pieces.take_code.Goals.{then-hart-home+in_default, else-hart-home}
use Rattle.forkjoin_sched.proofs.pieces.take_code.Goals as goal

pub returns-in-Some-clause-takes : goal.returns-in-Some-clause-takes
returns-in-Some-clause-takes g c = c.in-Some.ensures.taken c.args.home (sym c.if-hart-home.true ∙ c.hart.ensures)

pub returns-clause-more : goal.returns-clause-more
returns-clause-more g c = elim c.if-hart-home.branch [
  | then-hart-home+in_default w ↦ takes_then _ _ _ c.args.home c.args.level
      (subst (TakesMore c.args.home c.args.level c.args.rows.now) (sym w.rows-is) (w.pop_code.ensures.more c.args.home)) c.steal_code.ensures.more
  | else-hart-home w ↦ subst (λ r. TakesMore c.args.home c.args.level r c.steal_code.new.rows) w.rows-is c.steal_code.ensures.more
]

pub returns-clause-takes : goal.returns-clause-takes
returns-clause-takes g c = elim c.if-hart-home.branch [
  | then-hart-home+in_default w ↦
      let takes = subst (λ r. TakesCode c.args.home c.args.level r c.steal_code.result c.steal_code.new.rows) w.rows-is c.steal_code.ensures.takes in
      takes_on _ _ _ c.args.home c.args.level c.steal_code.result w.pop_code.ensures.keeps (w.pop_code.ensures.more c.args.home) takes
  | else-hart-home w ↦ subst (λ r. TakesCode c.args.home c.args.level r c.steal_code.result c.steal_code.new.rows) w.rows-is c.steal_code.ensures.takes
]

use Rattle.std.proofs.Common.{◌∙◌, ap, refl, sym, subst}
use Rattle.deque_rows.specs.Rows.{Identity}
use Rattle.forkjoin_sched.specs.Hands.{HasTaken}
use Rattle.forkjoin_sched.proofs.RowSteps.{keeps_none, keeps_then, takes_none, takes_then, taken_then}
use Rattle.forkjoin_sched.proofs.pieces.take_piece.Goals as goal

pub loop-init : goal.loop-init
loop-init g c = (keeps_none c.args.rows.now, refl, takes_none c.args.rows.now c.args.home c.args.level)

pub returns-in-Some-job_of-clause-takes : goal.returns-in-Some-job_of-clause-takes
returns-in-Some-job_of-clause-takes g c = (
  c.in-Some-job_of.ensures.0,
  subst (λ code. HasTaken c.args.home c.args.level code c.args.rows.now c.take_code.new.rows) (sym c.in-Some-job_of.ensures.1)
      (taken_then c.args.rows.now c.loop.rows c.take_code.new.rows c.args.home c.args.level c.in_ok-code.code c.loop.invariant.0 c.loop.invariant.2 c.in_ok-code.ensures.takes),
)

pub loop-preserved : goal.loop-preserved
loop-preserved g c = (
  keeps_then c.args.rows.now c.loop.rows c.take_code.new.rows c.loop.invariant.0 c.take_code.ensures.keeps,
  ap (λ (k : Identity). k.harts) c.take_code.ensures.keeps.identity ∙ c.loop.invariant.1,
  takes_then c.args.rows.now c.loop.rows c.take_code.new.rows c.args.home c.args.level c.loop.invariant.2 c.take_code.ensures.more,
)

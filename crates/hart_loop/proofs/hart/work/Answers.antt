use Rattle.std.proofs.Common.{◌≡◌, ◌∙◌, sym, Some, None}
use Rattle.hart_loop.proofs.SameHarts.{same_back}
use Rattle.hart_loop.proofs.hart.work.Goals as goal

-- A guest had no job.
pub returns-in-None : goal.returns-in-None
returns-in-None g c = record {
  same = same_back (g.P.Port.seen c.args.hart.now.port) (g.P.Port.seen c.serve.new.port) c.serve.ensures.back;
  lent = c.serve.ensures.hart_local;
  gone = λ j e. (let bad : None ≡ Some j = sym c.in-None.is ∙ c.take.ensures.value ∙ e in cc bad);
  piece = λ j e. (let bad : None ≡ Some j = sym c.in-None.is ∙ c.take.ensures.value ∙ e in cc bad);
}

use Rattle.std.proofs.Common.{◌≡◌, ap, ◌∙◌, length, arith}
use Rattle.std.proofs.lemmas.Bool.{false≢true}
use Rattle.std.proofs.lemmas.Grind.{common_steps}
use Rattle.std.proofs.lemmas.Option.{slice_get_within}
use Rattle.array_jobs.specs.Jobs.{JobParts}
use Rattle.join_book.proofs.BookLemmas.{got}
use Rattle.forkjoin_sched.proofs.shared.SharedPool.has_job.Goals as goal

pub returns-in-Some : goal.returns-in-Some
returns-in-Some c =
    let place = c.from.ensures ∙ ap (λ (j : JobParts). j.place) c.job.view_is in
    let own = got c.deref.result.now c.args.self.now.jobs c.from.result c.args.job.now.place c.in-Some.own.now c.in-Some.ensures.lookup.0 c.in-Some.ensures.lookup.1 (c.deref.ensures.value ∙ ap (λ s. s.jobs) c.self.view_is) place in (
      λ t. (c.in-Some.own.now, own, c.eq.ensures.same.0 t),
      λ has. c.eq.ensures.same.1 (let same : has.0 ≡ c.in-Some.own.now = cc (own, has.1) in let trees = has.2 in cc),
    )

pub returns-in-None : goal.returns-in-None
returns-in-None c = (
  λ t. absurd (false≢true t),
  λ has. absurd (let h = slice_get_within c.args.self.now.jobs c.args.job.now.place has.0 has.1 in
      let jobs = ap length c.deref.ensures.value ∙ ap (λ s. length s.jobs) c.self.view_is in
      let place = c.from.ensures ∙ ap (λ (j : JobParts). j.place) c.job.view_is in
      let off = c.in-None.ensures.lookup.0 in grind (arith, common_steps)),
)

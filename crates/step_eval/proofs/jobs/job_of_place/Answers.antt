use Rattle.std.proofs.Common.{◌<◌, length, arith}
use Rattle.std.proofs.lemmas.Result.{IfOk-weaker}
use Rattle.array_jobs.specs.Jobs.{job_of}
use Rattle.step_eval.specs.Nests.{nested_of}
use Rattle.step_eval.proofs.PlaceLemmas.{place_has_room, fit_is_reported, job_is_reported}
use Rattle.step_eval.proofs.jobs.job_of_place.Goals as goal

pub site_after-first-requires : goal.site_after-first-requires
site_after-first-requires c =
    let less : c.from-before.result < length c.args.works.now = omega arith in
    let room = place_has_room (nested_of c.args.nested.now) c.args.phase c.args.store.now 0 c.args.next c.args.works.now c.from-before.result less c.requires.fit in
    omega (arith, room)

pub job_of_work-requires : goal.job_of_work-requires
job_of_work-requires c =
    let less : c.from-before.result < length c.args.works.now = omega arith in
    fit_is_reported (nested_of c.args.nested.now) c.args.phase c.args.store.now c.args.next c.args.works.now c.args.place c.from-before.result c.site_after-first.result c.index-works-before.result
    c.from-before.ensures less c.site_after-first.ensures c.index-works-before.is c.requires.fit

pub returns : goal.returns
returns c =
    let less : c.from-before.result < length c.args.works.now = omega arith in
    IfOk-weaker c.job_of_work.result _ _
    (λ job e. job_is_reported (nested_of c.args.nested.now) c.args.phase c.args.store.now c.args.next c.args.works.now c.args.place c.from-before.result c.site_after-first.result c.index-works-before.result
    (job_of job) c.from-before.ensures less c.site_after-first.ensures c.index-works-before.is e)
    c.job_of_work.ensures

use Rattle.std.proofs.Common.{◌≡◌, refl, sym, ap, ◌∙◌, subst, arith}
use Rattle.std.specs.Prelude.{slice_set}
use Rattle.array_jobs.specs.Jobs.{JobParts, job_of}
use Rattle.array_jobs.specs.PieceParts.{PieceParts}
use Rattle.pipe_sched.specs.declared.slot.Slot.TheVariants as slot
use Rattle.pipe_sched.specs.Slots.{Out, Filled, phases_in}
use Rattle.pipe_sched.specs.Pipes.{IsJobAt}
use Rattle.step_eval.specs.Nests.{nested_of}
use Rattle.pipe_sched.proofs.Told.{place_is, place_within, mark_is_in_model}
use Rattle.pipe_sched.proofs.Next.{filling_holds}
use Rattle.pipe_sched.proofs.state.PipeState.keep.Goals as goal

pub index_mut-requires : goal.index_mut-requires
index_mut-requires c =
    let n : c.from-phases.result ≡ phases_in c.self.inside.nested = c.from-phases.ensures ∙ c.phases.ensures.same in
    let job = ap (λ (p : PieceParts). p.job) c.piece.view_is in
    let j = c.from.ensures ∙ ap (λ (j : JobParts). j.place) c.job.view_is ∙ ap (λ (j : JobParts). j.place) job in
    let k = c.from-2.ensures ∙ ap (λ (j : JobParts). j.phase) c.job.view_is ∙ ap (λ (j : JobParts). j.phase) job in
    let is = place_is c.from.result c.from-phases.result c.from-2.result c.args.piece.job.place (phases_in c.self.inside.nested) c.args.piece.job.phase j n k in
    let less = place_within c.self.inside.nested c.self.inside.slots.items c.args.self.now c.args.piece.job.place c.args.piece.job.phase _ Out c.self.view_is c.requires.out is in
    let len = c.self.inside.slots.ok.0 in
    omega (arith, less, len)

pub invariant_of-self : goal.invariant_of-self
invariant_of-self c =
    let n : c.from-phases.result ≡ phases_in c.self.inside.nested = c.from-phases.ensures ∙ c.phases.ensures.same in
    let job = ap (λ (p : PieceParts). p.job) c.piece.view_is in
    let j = c.from.ensures ∙ ap (λ (j : JobParts). j.place) c.job.view_is ∙ ap (λ (j : JobParts). j.place) job in
    let k = c.from-2.ensures ∙ ap (λ (j : JobParts). j.phase) c.job.view_is ∙ ap (λ (j : JobParts). j.phase) job in
    let is = place_is c.from.result c.from-phases.result c.from-2.result c.args.piece.job.place (phases_in c.self.inside.nested) c.args.piece.job.phase j n k in
    let P : JobParts → Type 0 = λ one. IsJobAt (nested_of c.args.self.now.nested) c.args.piece.job.place c.args.piece.job.phase (job_of one) in
    filling_holds c.self.inside.nested c.self.inside.slots.items c.self.inside.next.items c.args.self.now c.args.piece.job.place c.args.piece.job.phase _ c.piece.inside.job c.piece.inside.written
    c.self.view_is c.self.invariant c.requires.out (subst P (sym job) c.requires.own.own) c.piece.invariant is

pub returns : goal.returns
returns c =
    let n : c.from-phases.result ≡ phases_in c.self.inside.nested = c.from-phases.ensures ∙ c.phases.ensures.same in
    let job = ap (λ (p : PieceParts). p.job) c.piece.view_is in
    let j = c.from.ensures ∙ ap (λ (j : JobParts). j.place) c.job.view_is ∙ ap (λ (j : JobParts). j.place) job in
    let k = c.from-2.ensures ∙ ap (λ (j : JobParts). j.phase) c.job.view_is ∙ ap (λ (j : JobParts). j.phase) job in
    let is = place_is c.from.result c.from-phases.result c.from-2.result c.args.piece.job.place (phases_in c.self.inside.nested) c.args.piece.job.phase j n k in
    mark_is_in_model c.self.inside.nested c.self.inside.slots.items _ c.args.self.now c.args.piece.job.place c.args.piece.job.phase (slot.Filled c.piece.inside.job c.piece.inside.written) Filled
    c.self.view_is (ap (λ p. slice_set c.self.inside.slots.items p (slot.Filled c.piece.inside.job c.piece.inside.written)) is) refl

-- Books of the jobs of a phase.
use Rattle.std.proofs.Common.{◌≡◌, ℕ, ◌<◌, List, [], ◌∷◌, map, refl, sym, ap, ◌∙◌, subst, arith}
use Rattle.array_meaning.specs.Stores.{arrays_of}
use Rattle.array_meaning.specs.Steps.{join, writes_of}
use Rattle.array_meaning.specs.Pieces.{merged}
use Rattle.array_meaning.proofs.MergeLemmas.{lays_last}
use Rattle.array_jobs.specs.Jobs.{JobParts, job_of}
use Rattle.array_jobs.specs.PieceParts.{piece_of_job}
use Rattle.step_eval.specs.Nests.{phases_of, jobs_in, nested_writes}
use Rattle.step_eval.specs.Phases.{round_of, writes_before}
use Rattle.step_eval.proofs.PhaseLemmas.{phases_are_merged, phases_are_constructs}
use Rattle.forkjoin_sched.specs.Laws.{BooksGivePhases, PoolsGiveConstructs}

pieces_reported : (jobs : List JobParts) → map (λ job. piece_of_job (job_of job)) jobs ≡ map piece_of_job (map job_of jobs)
pieces_reported [] = refl
pieces_reported (job ∷ jobs) = ap (λ ps. piece_of_job (job_of job) ∷ ps) (pieces_reported jobs)

pub books_give_phases : BooksGivePhases
books_give_phases nested fit phase store h book same =
    ap (λ ps. merged ps []) (pieces_reported book.jobs ∙ ap (map piece_of_job) same)
    ∙ phases_are_merged nested fit phase store h (jobs_in nested phase store) (record { to = λ job is. is; from = λ job is. is })

pub pools_give_constructs : PoolsGiveConstructs
pools_give_constructs nested fit one book same =
    let h : 0 < phases_of nested.construct = omega (arith, one) in
    let P : ℕ → Type 0 = λ n. writes_before nested n ≡ nested_writes nested in
    let whole : writes_before nested 1 ≡ nested_writes nested = subst P one (phases_are_constructs nested fit).writes in
    let last = lays_last (writes_of (arrays_of nested.arrays) (join (round_of nested 0)) nested.store) [] tt in
    books_give_phases nested fit 0 nested.store h book same ∙ sym last ∙ whole

-- A hart that computes a construct itself gets the construct's writes.
use Rattle.std.proofs.Common.{◌≡◌, ℕ, suc, ◌+◌, ◌<◌, ◌≤◌, List, [], ◌∷◌, ◌++◌, map, length, drop, get_or, drop-cons, refl, sym, ap, ◌∙◌, add-one, arith}
use Rattle.std.proofs.lemmas.List.{length-replicate}
use Rattle.std.specs.Prelude.{false}
use Rattle.array_meaning.specs.Stores.{Store, Write, arrays_of, after}
use Rattle.array_meaning.specs.Steps.{writes_of}
use Rattle.array_meaning.specs.Pieces.{lays, last_writes, merged}
use Rattle.array_meaning.proofs.StepLemmas.{length_after}
use Rattle.array_meaning.proofs.LastLemmas.{lays_append}
use Rattle.array_meaning.proofs.MergeLemmas.{lays_last, after_last}
use Rattle.array_eval.specs.Traces.{Trace, fresh, noted_all, marked}
use Rattle.array_meaning.proofs.BelowLemmas.{AreBelow, below_of, below_lays}
use Rattle.array_eval.proofs.TraceLemmas.{cells_after, marked_after, none_marked, noted_append, length_marks}
use Rattle.array_jobs.specs.Works.{WorkTree, sites_of, steps_of}
use Rattle.array_jobs.specs.Jobs.{JobParts, JobTree, job_of}
use Rattle.array_jobs.specs.PieceParts.{piece_of_job}
use Rattle.array_jobs.proofs.FitLemmas.{inside, sized}
use Rattle.step_eval.specs.Nests.{NestedTree, phases_of, piece_trees, earlier_sites, numbered, jobs_in, AreFitJobs, IsFitNest, nested_writes}
use Rattle.step_eval.specs.Phases.{phase_writes, store_before, writes_before}
use Rattle.step_eval.specs.Inside.Computed.{writes_of_jobs, HasReached}
use Rattle.step_eval.proofs.WriteLemmas.{rising_marked, last_writes_rising}
use Rattle.step_eval.proofs.PieceLemmas.{fit_other_store, some_piece}
use Rattle.step_eval.proofs.ShapeLemmas.{some_phases}
use Rattle.step_eval.proofs.PhaseLemmas.{phases_are_merged, phases_are_constructs}

below_append : (n : ℕ) (a b : List Write) → AreBelow n a → AreBelow n b → AreBelow n (a ++ b)
below_append n [] b h k = k
below_append n (w ∷ a) b h k = (h.0, below_append n a b h.1 k)

-- The writes of fit jobs of a phase lie inside the store.
jobs_below : (nested : NestedTree) (phase : ℕ) (store : Store) (place first : ℕ) (works : List WorkTree) →
    AreFitJobs (numbered nested phase store place first works) → AreBelow (length store) (writes_of_jobs (numbered nested phase store place first works))
jobs_below nested phase store place first [] fit = tt
jobs_below nested phase store place first (work ∷ works) fit =
    let arrays = arrays_of nested.arrays in
    let ws = writes_of arrays (steps_of work nested.vars) store in
    below_append (length store) (last_writes ws) (writes_of_jobs (numbered nested phase store (place + 1) (first + sites_of work) works))
    (below_lays (length store) ws [] (below_of (length store) ws (inside _ fit.0)) tt)
    (jobs_below nested phase store (place + 1) (first + sites_of work) works fit.1)

-- The writes of jobs in sequence are their merged pieces.
writes_merged : (jobs : List JobTree) (laid : List Write) → merged (map piece_of_job jobs) laid ≡ lays (writes_of_jobs jobs) laid
writes_merged [] laid = refl
writes_merged (job ∷ jobs) laid =
    writes_merged jobs (lays (piece_of_job job) laid) ∙ sym (lays_append (piece_of_job job) (writes_of_jobs jobs) laid)

last_of_jobs : (nested : NestedTree) → IsFitNest nested → (phase : ℕ) (store : Store) → phase < phases_of nested.construct →
    last_writes (writes_of_jobs (jobs_in nested phase store)) ≡ phase_writes nested phase store
last_of_jobs nested fit phase store h =
    let jobs = jobs_in nested phase store in
    sym (writes_merged jobs []) ∙ phases_are_merged nested fit phase store h jobs (record { to = λ job m. m; from = λ job m. m })

-- At first no phase is done.
pub reached_none : (nested : NestedTree) → HasReached nested 0 (fresh nested.store)
reached_none nested = record {
  cells = refl;
  written = none_marked 0 nested.store (length nested.store);
  marks = length-replicate (length nested.store) false;
  same = refl;
}

pub reached_next : (nested : NestedTree) → IsFitNest nested → (phase : ℕ) → phase < phases_of nested.construct → (store : Trace) → HasReached nested phase store →
    HasReached nested (phase + 1) (noted_all (writes_of_jobs (jobs_in nested phase store.cells)) store)
reached_next nested fit phase h store reached =
    let jobs = jobs_in nested phase store.cells in
    let ws = writes_of_jobs jobs in
    let below = jobs_below nested phase store.cells 0 _ (piece_trees nested.construct phase) (fit_other_store nested fit phase h store.cells reached.same) in
    let last = last_of_jobs nested fit phase store.cells h in
    let size = ap length (cells_after ws store) ∙ length_after ws store.cells in
    rw add-one (record {
      cells = cells_after ws store ∙ sym (after_last ws store.cells) ∙ ap (λ l. after l store.cells) last
          ∙ ap (λ s. after (phase_writes nested phase s) s) reached.cells;
      written = marked_after ws store below (sym reached.marks)
          ∙ sym (lays_last ws (marked store) (rising_marked store))
          ∙ ap (λ l. lays l (marked store)) last
          ∙ ap (λ s. lays (phase_writes nested phase s) (marked store)) reached.cells
          ∙ ap (lays (phase_writes nested phase (store_before nested phase))) reached.written;
      marks = length_marks ws store ∙ reached.marks ∙ sym size;
      same = size ∙ reached.same;
    })

pub merged_next : (jobs : List JobParts) (i : ℕ) (job : JobParts) (pairs : List Write) (store next all : Trace) → i < length jobs →
    job ≡ get_or jobs i job → pairs ≡ piece_of_job (job_of job) → next ≡ noted_all pairs store →
    noted_all (writes_of_jobs (map job_of (drop i jobs))) store ≡ all → noted_all (writes_of_jobs (map job_of (drop (i + 1) jobs))) next ≡ all
merged_next jobs i job pairs store next all h is written merged whole =
    let rest = writes_of_jobs (map job_of (drop (i + 1) jobs)) in
    let cut : drop i jobs ≡ job ∷ drop (i + 1) jobs
    = drop-cons jobs i job h ∙ ap (λ j. j ∷ drop (suc i) jobs) (sym is) ∙ ap (λ k. job ∷ drop k jobs) (sym (add-one i)) in
    ap (noted_all rest) (merged ∙ ap (λ ws. noted_all ws store) written)
    ∙ sym (noted_append (piece_of_job (job_of job)) rest store)
    ∙ ap (λ js. noted_all (writes_of_jobs (map job_of js)) store) (sym cut)
    ∙ whole

-- The store of a construct has at most 4,096 cells.
pub small_store : (nested : NestedTree) → IsFitNest nested → length nested.store ≤ 4096
small_store nested fit =
    let some = some_phases nested.construct fit.construct fit.limits in
    small 0 (nested.site + 1 + earlier_sites nested.construct 0) (piece_trees nested.construct 0) (some_piece nested.construct 0 fit.limits some) (fit.jobs 0 some)
  where
    small : (place first : ℕ) (works : List WorkTree) → 0 < length works → AreFitJobs (numbered nested 0 nested.store place first works) →
        length nested.store ≤ 4096
    small place first [] some fits = absurd (omega arith)
    small place first (work ∷ works) some fits =
        let cells = fits.0.cells in
        let whole = (sized _ fits.0).whole in
        omega (arith, cells, whole)

-- When all phases are done, the marked cells are the construct's writes.
pub reached_all : (nested : NestedTree) → IsFitNest nested → (phase : ℕ) (store : Trace) → phase ≡ phases_of nested.construct → HasReached nested phase store →
    last_writes (marked store) ≡ nested_writes nested
reached_all nested fit phase store e reached =
    last_writes_rising (marked store) (rising_marked store) ∙ reached.written ∙ ap (writes_before nested) e ∙ (phases_are_constructs nested fit).writes

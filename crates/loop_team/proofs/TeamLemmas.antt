-- Teams as their phases open.
use Rattle.std.proofs.Common.{◌≡◌, ℕ, zero, suc, ◌+◌, ◌<◌, List, [], ◌∷◌, map, length, drop, false, Result, Ok, Err, inl, inr, sym, ap, ◌∙◌, subst, add-one}
use Rattle.std.specs.Result.{IsErr}
use Rattle.std.proofs.Math.Seq.{drop-drop}
use Rattle.std.proofs.lemmas.Bool.{false≢true}
use Rattle.std.proofs.lemmas.Simd.{map-map}
use Rattle.array_meaning.specs.Stores.{Store, Write, after}
use Rattle.array_meaning.specs.Pieces.{lays, merged}
use Rattle.array_meaning.proofs.StepLemmas.{length_after}
use Rattle.array_eval.specs.Overlays.{Laid}
use Rattle.array_eval.specs.Traces.{Trace, noted_all}
use Rattle.array_meaning.proofs.BelowLemmas.{AreBelow, below_of, below_lays}
use Rattle.array_eval.proofs.TraceLemmas.{cells_after, marked_after, length_marks}
use Rattle.array_jobs.specs.Works.{WorkTree, sites_of}
use Rattle.array_jobs.specs.Jobs.{JobTree, JobParts, job_of}
use Rattle.array_jobs.specs.PieceParts.{PieceParts, piece_of_job}
use Rattle.join_book.specs.Books.{BookParts, IsFull, all_writes}
use Rattle.join_book.proofs.BookLemmas.{piece_below}
use Rattle.lithe_barrier.specs.Arrivals.{Arrives, Fills}
use Rattle.lithe_barrier.specs.declared.state.Arrival.{Arrival}
use Rattle.lithe_barrier.specs.declared.state.Arrival.TheVariants.{Opened}
use Rattle.sched_api.specs.declared.scheduler.Next.{Next}
use Rattle.sched_api.specs.declared.scheduler.Next.TheVariants.{Run, Lend, Nothing}
use Rattle.sched_api.specs.Agenda.{AgendaParts, TakesNext, PutsReady}
use Rattle.step_eval.specs.Inside.Computed.{HasReached}
use Rattle.step_eval.specs.Nests.{NestedTree, NestedParts, nested_of, phases_of, piece_trees, numbered, jobs_in, AreFitJobs, IsFitNest}
use Rattle.step_eval.specs.Phases.{phase_writes, store_before}
use Rattle.step_eval.proofs.PieceLemmas.{fit_other_store}
use Rattle.step_eval.proofs.PhaseLemmas.{phases_are_merged}
use Rattle.step_eval.specs.declared.work.Work.{Work}
use Rattle.step_eval.specs.declared.work.Work.TheVariants.{Begin, Ready}
use Rattle.loop_team.specs.Teams.{TeamParts, AreJobsIn, IsOver, GoesOn, Opens, FailsToGoOn, MovesOn, phases_in, writes_in, opened_team, failed_team, with_barrier}

-- ---- what a phase writes

-- The merged pieces of a phase's jobs are the phase's writes.
pub phase_written : (nested : NestedParts) → IsFitNest (nested_of nested) → (phase : ℕ) (book : BookParts) → AreJobsIn nested phase book.jobs →
    all_writes book ≡ writes_in nested phase
phase_written nested fit phase book jobs =
    let tree = nested_of nested in
    let store = store_before tree phase in
    ap (λ ps. merged ps []) (sym (map-map piece_of_job job_of book.jobs) ∙ ap (map piece_of_job) jobs.same)
    ∙ phases_are_merged tree fit phase store jobs.there (jobs_in tree phase store) (record { to = λ job is. is; from = λ job is. is })

-- The merged writes lie inside the store.
merged_below : (nested : NestedTree) (phase : ℕ) (store : Store) (place first : ℕ) (works : List WorkTree) (laid : List Write) →
    AreFitJobs (numbered nested phase store place first works) → AreBelow (length store) laid →
    AreBelow (length store) (merged (map piece_of_job (numbered nested phase store place first works)) laid)
merged_below nested phase store place first [] laid fit below = below
merged_below nested phase store place first (work ∷ works) laid fit below =
    let job : JobTree = record { arrays = nested.arrays; site = nested.site; phase = phase; place = place; first = first; work = work; vars = nested.vars; store = store } in
    let piece = piece_of_job job in
    merged_below nested phase store (place + 1) (first + sites_of work) works (lays piece laid) fit.1
    (below_lays (length store) piece laid (below_of (length store) piece (piece_below job fit.0)) below)

phase_below : (nested : NestedTree) → IsFitNest nested → (phase : ℕ) (store : Store) → phase < phases_of nested.construct →
    length store ≡ length nested.store → AreBelow (length store) (phase_writes nested phase store)
phase_below nested fit phase store there same =
    let jobs = jobs_in nested phase store in
    let inside : AreBelow (length store) (merged (map piece_of_job jobs) [])
    = merged_below nested phase store 0 _ (piece_trees nested.construct phase) [] (fit_other_store nested fit phase there store same) tt in
    subst (λ ws. AreBelow (length store) ws) (phases_are_merged nested fit phase store there jobs (record { to = λ job is. is; from = λ job is. is })) inside

-- One more phase is on the store.
pub reached_more : (nested : NestedTree) (phase : ℕ) (store next : Trace) (ws : List Write) → IsFitNest nested → phase < phases_of nested.construct →
    HasReached nested phase store → ws ≡ phase_writes nested phase (store_before nested phase) → next ≡ noted_all ws store → HasReached nested (phase + 1) next
reached_more nested phase store next ws fit there reached written merged =
    let before = store_before nested phase in
    let phase_ws = phase_writes nested phase before in
    let size = ap length (cells_after phase_ws store) ∙ length_after phase_ws store.cells in
    let cells : length store.cells ≡ length before = ap length reached.cells in
    let below = phase_below nested fit phase before there (sym cells ∙ reached.same) in
    let more : HasReached nested (suc phase) (noted_all phase_ws store) = record {
      cells = cells_after phase_ws store ∙ ap (after phase_ws) reached.cells;
      written = marked_after phase_ws store (subst (λ n. AreBelow n phase_ws) (sym cells) below) (sym reached.marks) ∙ ap (lays phase_ws) reached.written;
      marks = length_marks phase_ws store ∙ reached.marks ∙ sym size;
      same = size ∙ reached.same;
    } in
    rw (merged, written, add-one) more

-- ---- a team, by its fields and as it was known before

-- The last phase has opened if a team is done and not failed.
pub all_opened : (team now : TeamParts) → team ≡ now → IsOver now → team.failed ≡ false → team.opened ≡ phases_in team.nested
all_opened team now e over fine = found (subst IsOver (sym e) over)
  where
    found : IsOver team → team.opened ≡ phases_in team.nested
    found (inl all) = all
    found (inr failed) = absurd (false≢true (sym fine ∙ failed))

-- The piece opened the barrier.
pub moves_opened : (team now : TeamParts) (piece : PieceParts) (written : Laid) (full : BookParts) (later : TeamParts) → team ≡ now →
    Arrives team.barrier piece (Opened written) full → written.pairs ≡ writes_in team.nested team.opened →
    GoesOn (opened_team (with_barrier team full)) later →
    (x : BookParts) × Opens now piece written x × GoesOn (opened_team (with_barrier now x)) later
moves_opened team now piece written full later e arrives writes goes =
    let P : TeamParts → Type 0 = λ t. (x : BookParts) × Opens t piece written x × GoesOn (opened_team (with_barrier t x)) later in
    subst P e (full, record { arrives = arrives; writes = writes }, goes)

-- The piece opened the barrier, and an allocation failed for the next phase.
pub moves_failed : {E : Type 0} → (team now : TeamParts) (piece : PieceParts) (answer : Result Arrival E) (full : BookParts) (later : TeamParts) → team ≡ now →
    IsErr answer → Fills team.barrier piece full → IsFull full → (IsOver (opened_team (with_barrier team full)) → ⊥) →
    later ≡ failed_team (opened_team (with_barrier team full)) → MovesOn now piece answer later
moves_failed team now piece (Ok arrival) full later e is fills none wanted failed = absurd (false≢true is)
moves_failed team now piece (Err refused) full later e is fills none wanted failed =
    let P : TeamParts → Type 0 = λ t. (x : BookParts) × FailsToGoOn t piece x later in
    subst P e (full, record { fills = fills; none_left = none; wanted = wanted; failed = failed })

-- ---- the members that aren't begun

-- The members stay in order when one is handed out.
pub next_in_order : {C : Type 0} → (all : List C) (before later : AgendaParts C) (next : Next C) → TakesNext before next later →
    (begun : ℕ) × (before.unbegun ≡ drop begun all) → (begun : ℕ) × (later.unbegun ≡ drop begun all)
next_in_order all before later (Run c) (inl ready) known = (known.0, ap (λ a. a.unbegun) ready.rest ∙ known.1)
next_in_order all before later (Run c) (inr taken) known = (known.0 + 1, ap (drop 1) (sym taken.first ∙ known.1) ∙ drop-drop 1 known.0 all)
next_in_order all before later (Lend site) taken known = (known.0, ap (λ a. a.unbegun) taken.rest ∙ known.1)
next_in_order all before later Nothing idle known = (known.0, ap (λ a. a.unbegun) idle.1 ∙ known.1)

pub ready_in_order : {C : Type 0} → (all : List C) (before later : AgendaParts C) (c : C) (answer : Result (Unit {0}) C) → PutsReady before c answer later →
    (begun : ℕ) × (before.unbegun ≡ drop begun all) → (begun : ℕ) × (later.unbegun ≡ drop begun all)
ready_in_order all before later c (Ok done) put known = (known.0, ap (λ a. a.unbegun) put.1 ∙ known.1)
ready_in_order all before later c (Err back) put known = (known.0, ap (λ a. a.unbegun) put.2 ∙ known.1)

-- The first member may be taken by itself; the others stay in order.
pub member_in_order : {C : Type 0} → (all : List C) (before later : AgendaParts C) (c : C) → before.unbegun ≡ c ∷ later.unbegun →
    (begun : ℕ) × (before.unbegun ≡ drop begun all) → (begun : ℕ) × (later.unbegun ≡ drop begun all)
member_in_order all before later c taken known = (known.0 + 1, ap (drop 1) (sym taken ∙ known.1) ∙ drop-drop 1 known.0 all)

abbrev pub IsMember : Work → Type 0
IsMember (Begin job) = Unit {0}
IsMember (Ready context) = ⊥

abbrev FirstIsMember : List Work → Type 0
FirstIsMember [] = Unit {0}
FirstIsMember (work ∷ rest) = IsMember work

first_member : (jobs : List JobParts) (begun : ℕ) → FirstIsMember (drop begun (map Begin jobs))
first_member [] zero = tt
first_member [] (suc begun) = tt
first_member (job ∷ jobs) zero = tt
first_member (job ∷ jobs) (suc begun) = first_member jobs begun

pub is_member : (jobs : List JobParts) (work : Work) (unbegun rest : List Work) → unbegun ≡ work ∷ rest → (begun : ℕ) × (unbegun ≡ drop begun (map Begin jobs)) → IsMember work
is_member jobs work unbegun rest taken known = subst FirstIsMember (sym known.1 ∙ taken) (first_member jobs known.0)

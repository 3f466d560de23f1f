-- The stores from which the jobs of a phase start.
use Rattle.std.proofs.Common.{◌≡◌, ◌≢◌, ◌⊎◌, inl, inr, ◌↔◌, IsTrue, Bool, true, false, ℕ, zero, suc, ◌+◌, ◌*◌, ◌<◌, List, [], ◌∷◌, length, get_or, nat_lt, Some, None, Option, Result, Ok, refl, sym, ap, ◌∙◌, subst, slice_get, slice_set, option_map, arith}
use Rattle.std.proofs.lemmas.Bool.{cases_eq, false≢true}
use Rattle.std.proofs.lemmas.Grind.{common_steps}
use Rattle.std.proofs.lemmas.Option.{slice_get-map, slice_get_read, slice_get_within, same_Some}
use Rattle.std.specs.Prelude.{MatchOption}
use Rattle.std.specs.Option.{is_some}
use Rattle.array_meaning.specs.Stores.{Store}
use Rattle.array_eval.specs.Overlays.{Laid}
use Rattle.array_jobs.specs.Works.{WorkTree, sites_of}
use Rattle.array_jobs.specs.Jobs.{JobParts, JobTree, job_of}
use Rattle.array_jobs.specs.PieceParts.{PieceParts}
use Rattle.join_book.specs.Books.{BookParts, Open, IsMarked}
use Rattle.join_book.proofs.BookLemmas.{got, at_same, at_other}
use Rattle.lithe_barrier.specs.declared.state.Arrival.TheVariants.{Kept, Opened, Stranger}
use Rattle.lithe_barrier.specs.declared.state.Arrival.{Arrival}
use Rattle.step_eval.specs.Nests.{NestedTree, NestedParts, nested_of, piece_trees, earlier_sites, numbered}
use Rattle.step_eval.specs.Phases.{store_before}
use Rattle.loop_team.specs.declared.stripes.Seat.{Seat}
use Rattle.loop_team.specs.declared.stripes.Seat.TheVariants as seat
use Rattle.loop_team.specs.declared.stripes.TheConstants.{STRIPES}
use Rattle.loop_team.specs.Teams.{TeamParts, AreJobsIn, MovesOn, writes_in}
use Rattle.loop_team.specs.Stripes.{StripeParts, StartsFrom, Starts, StartFrom, IsOf, HasCome, HasPiece, Gives, IsRid, with_seat, IsSeatOf, AreSeatsOf, IsNotOpened, IsStillIn}

-- Each job of a phase starts from the store that the phases before it leave.
numbered_starts : (nested : NestedTree) (phase : ℕ) (store : Store) (place first : ℕ) (works : List WorkTree) (i : ℕ) (job : JobTree) →
    slice_get (numbered nested phase store place first works) i ≡ Some job → job.store ≡ store
numbered_starts nested phase store place first [] i job e = absurd cc
numbered_starts nested phase store place first (work ∷ works) zero job e = ap (λ (j : JobTree). j.store) (sym (same_Some _ job e))
numbered_starts nested phase store place first (work ∷ works) (suc i) job e = numbered_starts nested phase store (place + 1) (first + sites_of work) works i job e

pub job_starts : (nested : NestedParts) (phase : ℕ) (jobs : List JobParts) → AreJobsIn nested phase jobs → (i : ℕ) (job : JobParts) → slice_get jobs i ≡ Some job →
    job.store ≡ store_before (nested_of nested) phase
job_starts nested phase jobs are i job at =
    let tree = nested_of nested in
    numbered_starts tree phase (store_before tree phase) 0 (nested.site + 1 + earlier_sites tree.construct phase) (piece_trees tree.construct phase) i (job_of job)
    (ap (λ l. slice_get l i) (sym are.same) ∙ slice_get-map job_of jobs i ∙ ap (option_map job_of) at)

-- Any two jobs of a phase start from one store.
pub one_start : (nested : NestedParts) (phase : ℕ) (jobs : List JobParts) → AreJobsIn nested phase jobs → (i k : ℕ) (a b : JobParts) →
    slice_get jobs i ≡ Some a → slice_get jobs k ≡ Some b → a.store ≡ b.store
one_start nested phase jobs are i k a b at there = job_starts nested phase jobs are i a at ∙ sym (job_starts nested phase jobs are k b there)

pub first_starts : (team now : TeamParts) → team ≡ now → ((place : ℕ) → IsMarked team.barrier place Open → AreJobsIn team.nested team.opened team.barrier.jobs) →
    (jobs : List JobParts) (first : JobParts) → jobs ≡ team.barrier.jobs → 0 < length team.barrier.jobs → first ≡ get_or jobs 0 first → StartsFrom now first.store
first_starts team now e running jobs first same some is =
    let here : slice_get team.barrier.jobs 0 ≡ Some first
    = sym (ap (λ (l : List JobParts). slice_get l 0) same) ∙ slice_get_read jobs (length jobs) 0 first refl (subst (λ (l : List JobParts). 0 < length l) (sym same) some) is in
    let starts : StartsFrom team first.store
    = λ place waits i job at. one_start team.nested team.opened team.barrier.jobs (running place waits) i 0 job first at here in
    subst (λ t. StartsFrom t first.store) e starts

-- ---- the slots of a stripe

-- A property of the element that `get` finds; the property is false if `get` finds none.
pub found_at : {A : Type 0} → (P : A → Type 0) (xs known : List A) (i place : ℕ) (x : A) (answer : Bool) → true ≡ nat_lt i (length xs) → x ≡ get_or xs i x →
    xs ≡ known → i ≡ place → IsTrue answer ↔ P x → IsTrue answer ↔ ((s : A) × (slice_get known place ≡ Some s) × P s)
found_at P xs known i place x answer inside is e f test =
    let at = got xs known i place x inside is e f in (
      λ t. (x, at, test.0 t),
      λ has. test.1 (let same : has.0 ≡ x = cc (at, has.1) in subst P same has.2),
    )

pub none_at : {A : Type 0} → (P : A → Type 0) (xs known : List A) (i place : ℕ) → false ≡ nat_lt i (length xs) → xs ≡ known → i ≡ place →
    IsTrue false ↔ ((s : A) × (slice_get known place ≡ Some s) × P s)
none_at P xs known i place off e f = (
  λ t. absurd (false≢true t),
  λ has. absurd (let h = slice_get_within known place has.0 has.1 in let size = ap length e in grind (arith, common_steps)),
)

-- An element of a list with one replaced is the new one, or was there before.
pub starts_set : (start : Store) (seats : List Seat) (i : ℕ) (s : Seat) → StartFrom start seats → Starts start s → StartFrom start (slice_set seats i s)
starts_set start seats i s all new row t at = found (cases_eq row i)
  where
    found : (row ≡ i) ⊎ (row ≢ i) → Starts start t
    found (inl e) = subst (Starts start) (sym (at_same seats i s t (subst (λ (n : ℕ). slice_get (slice_set seats i s) n ≡ Some t) e at))) new
    found (inr ne) = all row t (sym (at_other seats i row s ne) ∙ at)

-- The job of a row starts from the stripe's store.
pub starts_of : (start : Store) (seats : List Seat) (row : ℕ) (job : JobParts) → StartFrom start seats → (s : Seat) × (slice_get seats row ≡ Some s) × IsOf s job → job.store ≡ start
starts_of start seats row job all has = of_seat has.0 (all row has.0 has.1) has.2
  where
    of_seat : (s : Seat) → Starts start s → IsOf s job → job.store ≡ start
    of_seat (seat.Open own) starts is = ap (λ (t : JobTree). t.store) (sym is) ∙ starts
    of_seat (seat.Came piece) starts is = absurd is
    of_seat seat.Gone starts is = absurd is

-- The stripe's slots of the team start from the team's store.
pub seats_start : (team : TeamParts) (number : ℕ) (start : Store) (seats : List Seat) → StartsFrom team start → AreSeatsOf team number seats → StartFrom start seats
seats_start team number start seats starts are row s at = of_seat s (are row s at)
  where
    of_seat : (s : Seat) → IsSeatOf team (number + row * STRIPES) s → Starts start s
    of_seat (seat.Open job) is = starts (number + row * STRIPES) is.waits (number + row * STRIPES) job is.own
    of_seat (seat.Came piece) is = absurd is
    of_seat seat.Gone is = tt

-- A row returns its piece.
pub rid_of : (before after : StripeParts) (row : ℕ) (found : Option PieceParts) → Gives before row found after → IsRid before row after
rid_of before after row None gives =
    subst (λ (s : StripeParts). IsRid before row s) (sym gives.1) (record { start = refl; none = gives.0; others = λ other has. has })
rid_of before after row (Some piece) gives =
    let rid : IsRid before row (with_seat before row seat.Gone) = record { start = refl; none = none_left; others = λ other has. was other has (cases_eq other row) } in
    subst (λ (s : StripeParts). IsRid before row s) (sym gives.2) rid
  where
    none_left : HasPiece (with_seat before row seat.Gone) row → ⊥
    none_left has = subst HasCome (at_same before.seats row seat.Gone has.0 has.1) has.2

    was : (other : ℕ) → HasPiece (with_seat before row seat.Gone) other → (other ≡ row) ⊎ (other ≢ row) → HasPiece before other
    was other has (inl e) = absurd (none_left (subst (λ (n : ℕ). HasPiece (with_seat before row seat.Gone) n) e has))
    was other has (inr ne) = (has.0, sym (at_other before.seats row other seat.Gone ne) ∙ has.1, has.2)

-- The rows before the next one have no piece.
pub rid_up_to : (before after : StripeParts) (row : ℕ) → ((k : ℕ) → k < row → HasPiece before k → ⊥) → IsRid before row after → (k : ℕ) → k < row + 1 → HasPiece after k → ⊥
rid_up_to before after row earlier rid k less has = found (cases_eq k row)
  where
    found : (k ≡ row) ⊎ (k ≢ row) → ⊥
    found (inl e) = rid.none (subst (λ (n : ℕ). HasPiece after n) e has)
    found (inr ne) = earlier k (omega (arith, less, ne)) (rid.others k has)

-- ---- a piece that comes to the team

still_kept : (E : Type 0) (before after : TeamParts) (piece : PieceParts) → MovesOn {E = E} before piece (Ok Kept) after → IsStillIn before after
still_kept E before after piece moves = record {
  nested = ap (λ (t : TeamParts). t.nested) moves.1;
  opened = ap (λ (t : TeamParts). t.opened) moves.1;
  starts = λ store starts place waits i job at. starts piece.job.place moves.0.0.free i job
      (ap (λ (b : BookParts). slice_get b.jobs i) (sym moves.0.0.filled) ∙ at);
}

still_same : (before after : TeamParts) → after ≡ before → IsStillIn before after
still_same before after e = record {
  nested = ap (λ (t : TeamParts). t.nested) e;
  opened = ap (λ (t : TeamParts). t.opened) e;
  starts = λ store starts. subst (λ (t : TeamParts). StartsFrom t store) (sym e) starts;
}

-- The result of a piece has the phase's writes, or the team is still in the phase.
moved : (E : Type 0) (before after : TeamParts) (piece : PieceParts) (arrival : Arrival) (found : Option Laid) → MovesOn {E = E} before piece (Ok arrival) after →
    MatchOption found (IsNotOpened arrival) (λ written. arrival ≡ Opened written) →
    MatchOption found (IsStillIn before after) (λ written. written.pairs ≡ writes_in before.nested before.opened)
moved E before after piece Kept None moves is = still_kept E before after piece moves
moved E before after piece Kept (Some written) moves is = absurd cc
moved E before after piece (Opened laid) None moves is = absurd (is laid refl)
moved E before after piece (Opened laid) (Some written) moves is = let same : laid ≡ written = cc in ap (λ (w : Laid). w.pairs) (sym same) ∙ moves.1.writes
moved E before after piece (Stranger back) None moves is = still_same before after moves.1
moved E before after piece (Stranger back) (Some written) moves is = absurd cc

pub moved_on : {E : Type 0} → (before after : TeamParts) (piece : PieceParts) (answer : Result Arrival E) (arrival : Arrival) (found : Option Laid) →
    MovesOn before piece answer after → answer ≡ Ok arrival → MatchOption found (IsNotOpened arrival) (λ written. arrival ≡ Opened written) →
    MatchOption found (IsStillIn before after) (λ written. written.pairs ≡ writes_in before.nested before.opened)
moved_on {E} before after piece answer arrival found moves e is =
    moved E before after piece arrival found (subst (λ (r : Result Arrival E). MovesOn before piece r after) e moves) is

pub unless_some : {X : Type 0} → (A : Type 0) (B : X → Type 0) (o : Option X) → false ≡ is_some o → MatchOption o A B → A
unless_some A B None none has = has
unless_some A B (Some x) none has = absurd (false≢true none)

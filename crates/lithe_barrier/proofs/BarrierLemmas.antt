-- A barrier when pieces are deposited.
use Rattle.std.proofs.Common.{◌≡◌, ◌≢◌, ◌⊎◌, inl, inr, ℕ, List, length, map, Option, Some, None, IsSome, slice_get, slice_set, refl, sym, ◌∙◌, subst}
use Rattle.std.proofs.lemmas.Bool.{cases_eq, false≢true}
use Rattle.array_jobs.specs.PieceParts.{PieceParts}
use Rattle.array_jobs.specs.Jobs.{JobParts, job_of}
use Rattle.array_jobs.specs.Groups.{IsGroup}
use Rattle.join_book.specs.Books.{BookParts, Mark, Open, Filled, Failed, IsMarked, IsPlaceOf, IsFull, marked_book, open_book}
use Rattle.join_book.proofs.BookLemmas.{at_other, at_same, at_replicate, own_place}
use Rattle.lithe_barrier.specs.declared.state.Room.{Room}
use Rattle.lithe_barrier.specs.Arrivals.{Fills, IsRoomFor, IsWaiting}

-- A slot of the filled book other than the filled one.
marked_before : (before : BookParts) (i k : ℕ) (mark : Mark) → mark ≢ Filled → IsMarked (marked_book before i Filled) k mark → IsMarked before k mark
marked_before before i k mark other at = found (cases_eq k i)
  where
    found : (k ≡ i) ⊎ (k ≡ i → ⊥) → IsMarked before k mark
    found (inl e) =
        let P : ℕ → Type 0 = λ n. slice_get (slice_set before.places i Filled) n ≡ Some mark in
        absurd (other (at_same before.places i Filled mark (subst P e at)))
    found (inr ne) = sym (at_other before.places i k Filled ne) ∙ at

-- Room for the jobs stays room for them.
same_room : (before : BookParts) (i : ℕ) (room : Room) → IsRoomFor before room → IsRoomFor (marked_book before i Filled) room
same_room before i room is = record {
  blank = record { cells = is.blank.cells; few = is.blank.few; marks = is.blank.marks; unmarked = is.blank.unmarked };
  none = is.none;
  enough = is.enough;
}

-- A barrier waits as long as a slot is open.
pub waits_on : (before after : BookParts) (room : Option Room) (piece : PieceParts) → IsWaiting before room → Fills before piece after → IsWaiting after room
waits_on before after room piece waiting fills =
    let P : BookParts → Type 0 = λ b. IsWaiting b room in
    let i = piece.job.place in
    subst P (sym fills.filled) (record {
      group = waiting.group;
      none_failed = λ failed. waiting.none_failed (failed.0, marked_before before i failed.0 Failed (λ e. let wrong = e in cc) failed.1);
      ready = λ k at. waiting.ready k (marked_before before i k Open (λ e. let wrong = e in cc) at);
      right = λ r e. same_room before i r (waiting.right r e);
    })

-- A barrier is done if no slot is open.
pub is_done : (before after : BookParts) (room : Option Room) (piece : PieceParts) → IsWaiting before room → Fills before piece after → IsFull after → IsWaiting after None
is_done before after room piece waiting fills full =
    let on = waits_on before after room piece waiting fills in
    record { group = on.group; none_failed = on.none_failed; ready = λ k at. absurd (full k at); right = λ r e. let wrong = e in cc }

-- If a slot was open, there is room.
pub has_room : (before after : BookParts) (known : Option Room) (piece : PieceParts) (room : Room) → IsWaiting before known → Fills before piece after →
    known ≡ Some room → IsRoomFor after room
has_room before after known piece room waiting fills e =
    let P : BookParts → Type 0 = λ b. IsRoomFor b room in
    let there : IsRoomFor before room = waiting.right room e in
    subst P (sym fills.filled) (same_room before piece.job.place room there)

pub no_room : (before after : BookParts) (known : Option Room) (piece : PieceParts) → IsWaiting before known → Fills before piece after → known ≡ None → ⊥
no_room before after known piece waiting fills e =
    false≢true (subst (λ (o : Option Room). IsSome o) e (waiting.ready piece.job.place fills.free))

-- A job has at most one slot.
pub not_free : (before : BookParts) (room : Option Room) (job : JobParts) → IsWaiting before room → IsPlaceOf before job.place job → (IsMarked before job.place Open → ⊥) →
    (i : ℕ) → IsPlaceOf before i job → IsMarked before i Open → ⊥
not_free before room job waiting own closed i is at =
    let same = own_place before.jobs before.places waiting.group i job is in
    let P : ℕ → Type 0 = λ n. IsMarked before n Open in closed (subst P same at)

-- A new barrier waits for all slots.
pub waits_first : (jobs : List JobParts) (book : BookParts) (room : Room) → IsGroup (map job_of jobs) → book ≡ open_book jobs → IsRoomFor book room → IsWaiting book (Some room)
waits_first jobs book room group e is =
    let P : BookParts → Type 0 = λ b. IsRoomFor b room → IsWaiting b (Some room) in
    subst P (sym e) (λ there. record {
      group = group;
      none_failed = λ failed. let same = at_replicate (length jobs) failed.0 Open Failed failed.1 in cc;
      ready = λ k at. refl;
      right = λ r same. let is : room ≡ r = cc in subst (λ (x : Room). IsRoomFor (open_book jobs) x) is there;
    }) is

-- Jobs that start from one store, and books whose jobs do.
use Rattle.std.proofs.Common.{◌≡◌, ◌≢◌, ◌⊎◌, inl, inr, ℕ, Bool, List, [], ◌∙◌, Option, Some, None, false, slice_get, slice_set, IsTrue, ◌↔◌, sym, ap, subst, refl}
use Rattle.std.proofs.lemmas.Bool.{cases_eq, false≢true}
use Rattle.std.proofs.lemmas.Option.{same_Some}
use Rattle.array_meaning.specs.Stores.{Store}
use Rattle.array_jobs.specs.Jobs.{JobParts}
use Rattle.array_jobs.specs.PieceParts.{PieceParts}
use Rattle.lithe_mutex.specs.Mutex.{Possession, Free, Held, Acquires, Releases}
use Rattle.lithe_mutex.specs.declared.state.Acquired.TheVariants.{Got}
use Rattle.lithe_mutex.specs.declared.state.Released.{Released}
use Rattle.join_book.specs.Books.{BookParts, Deposits, Puts}
use Rattle.join_book.specs.declared.book.Deposit.{Deposit}
use Rattle.join_book.specs.declared.book.Deposit.TheVariants.{Kept, Double, Stranger}
use Rattle.join_book.proofs.BookLemmas.{at_same, at_other}
use Rattle.forkjoin_sched.specs.Pools.{StartFrom, HaveOneStart, HaveSameStart, free_book}

pub one_start : (start : Store) (jobs : List JobParts) → StartFrom start jobs → HaveOneStart jobs
one_start start jobs from i k a b at there = from i a at ∙ sym (from k b there)

pub all_start : (jobs : List JobParts) (i : ℕ) (first : JobParts) → HaveOneStart jobs → slice_get jobs i ≡ Some first → StartFrom first.store jobs
all_start jobs i first alike at k job there = alike k i job first there at

pub starts_set : (start : Store) (jobs : List JobParts) (i : ℕ) (own : JobParts) → StartFrom start jobs → own.store ≡ start → StartFrom start (slice_set jobs i own)
starts_set start jobs i own all new k job at = found (cases_eq k i)
  where
    found : (k ≡ i) ⊎ (k ≢ i) → job.store ≡ start
    found (inl e) = ap (λ (j : JobParts). j.store) (at_same jobs i own job (subst (λ (n : ℕ). slice_get (slice_set jobs i own) n ≡ Some job) e at)) ∙ new
    found (inr ne) = all k job (sym (at_other jobs i k own ne) ∙ at)

-- Jobs that start from a store that passed the test with another.
pub starts_from : (a b : Store) (jobs : List JobParts) (r : Bool) → StartFrom a jobs → IsTrue r ↔ (a ≡ b) → IsTrue r → StartFrom b jobs
starts_from a b jobs r all tested is = subst (λ (s : Store). StartFrom s jobs) (tested.0 is) all

-- A test of the store that is known to be the start, and of none.
pub tested_start : (a b : Store) (known : Option Store) (r : Bool) → Some a ≡ known → IsTrue r ↔ (a ≡ b) → IsTrue r ↔ (known ≡ Some b)
tested_start a b known r is tested = (λ t. sym is ∙ ap Some (tested.0 t), λ e. tested.1 (same_Some a b (is ∙ e)))

pub tested_none : (b : Store) (known : Option Store) → None ≡ known → IsTrue false ↔ (known ≡ Some b)
tested_none b known is = (λ t. absurd (false≢true t), λ e. absurd (let clash = is ∙ e in cc))

pub same_start : (a b : Store) (xs ys : List JobParts) (r : Bool) → StartFrom b xs → StartFrom a ys → IsTrue r ↔ (a ≡ b) → IsTrue r → HaveSameStart xs ys
same_start a b xs ys r others own tested is = (b, others, starts_from a b ys r own tested is)

-- A piece that is put in whose job starts from the store.
pub starts_put : (start : Store) (before : BookParts) (piece : PieceParts) (deposit : Deposit) (after : BookParts) → Puts before piece deposit after
    → StartFrom start before.jobs → piece.job.store ≡ start → StartFrom start after.jobs
starts_put start before piece Kept after puts all new =
    subst (λ (b : BookParts). StartFrom start b.jobs) (sym puts.2) (starts_set start before.jobs piece.job.place piece.job all new)
starts_put start before piece (Double back) after puts all new = subst (λ (b : BookParts). StartFrom start b.jobs) (sym puts.3) all
starts_put start before piece (Stranger back) after puts all new = subst (λ (b : BookParts). StartFrom start b.jobs) (sym puts.2) all

-- A deposit changes no job.
pub deposit_jobs : (before : BookParts) (piece : PieceParts) (deposit : Deposit) (after : BookParts) → Deposits before piece deposit after → after.jobs ≡ before.jobs
deposit_jobs before piece Kept after does = ap (λ (b : BookParts). b.jobs) does.2
deposit_jobs before piece (Double back) after does = ap (λ (b : BookParts). b.jobs) does.3
deposit_jobs before piece (Stranger back) after does = ap (λ (b : BookParts). b.jobs) does.2

-- ---- the book of a pool, behind its mutex

-- What is got from a mutex is the book that lay in it.
pub got_book : (before after : Possession BookParts (Unit {0})) (book : BookParts) → Acquires before tt (Got book tt) after → (book ≡ free_book before) × (after ≡ Held [])
got_book (Free value) after book does = (let same = does.0 in cc, does.1)
got_book (Held waiting) after book does = absurd (let same = does.0 in cc)

-- The book that is released lies in it then.
pub freed : (mid after : Possession BookParts (Unit {0})) (book : BookParts) (answer : Released BookParts (Unit {0})) → mid ≡ Held [] → Releases mid book answer after
    → after ≡ Free book
freed mid after book answer held releases = (subst (λ m. Releases m book answer after) held releases).1

-- What a pool keeps of its book, where it is known or not that all jobs start from one store.
abbrev pub IsKeptPool : Bool → Possession BookParts (Unit {0}) → Type 0
IsKeptPool alike possession = (possession ≡ Free (free_book possession)) × (IsTrue alike → HaveOneStart (free_book possession).jobs)

pub kept_pool : (alike : Bool) (after : Possession BookParts (Unit {0})) (book : BookParts) → after ≡ Free book → (IsTrue alike → HaveOneStart book.jobs)
    → IsKeptPool alike after
kept_pool alike after book is one = subst (IsKeptPool alike) (sym is) (refl, one)

-- A book whose jobs are the same is put back.
pub still_kept : (alike : Bool) (before mid after : Possession BookParts (Unit {0})) (got book : BookParts) (answer : Released BookParts (Unit {0}))
    → IsKeptPool alike before → got ≡ free_book before → mid ≡ Held [] → book.jobs ≡ got.jobs → Releases mid book answer after → IsKeptPool alike after
still_kept alike before mid after got book answer kept is held same releases =
    kept_pool alike after book (freed mid after book answer held releases)
    (λ one. subst HaveOneStart (sym (same ∙ ap (λ (b : BookParts). b.jobs) is)) (kept.1 one))

-- A book into which a piece was put is put back.
pub put_kept : (known : Bool) (before mid after : Possession BookParts (Unit {0})) (got book : BookParts) (answer : Released BookParts (Unit {0}))
    (piece : PieceParts) (deposit : Deposit) → (IsTrue known → StartFrom piece.job.store (free_book before).jobs) → got ≡ free_book before → mid ≡ Held []
    → Puts got piece deposit book → Releases mid book answer after → IsKeptPool known after
put_kept known before mid after got book answer piece deposit starts is held puts releases =
    kept_pool known after book (freed mid after book answer held releases)
    (λ one.
    let all : StartFrom piece.job.store got.jobs = subst (λ (b : BookParts). StartFrom piece.job.store b.jobs) (sym is) (starts one) in
    one_start piece.job.store book.jobs (starts_put piece.job.store got piece deposit book puts all refl))

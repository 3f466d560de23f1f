-- The scheduler of one `par`.
use Rattle.std.specs.Prelude.{◌≡◌, Bool, true, false, ℕ, List, [], ◌∷◌, ◌++◌, length, map, slice_get, Option, Some, None, option_map, Result}
use Rattle.array_meaning.specs.Stores.{Store}
use Rattle.sched_api.specs.Wishes.{wishes_after}
use Rattle.sched_api.specs.declared.hearing.Told.{Told}
use Rattle.sched_api.specs.declared.agenda.TheConstants.{MOST_WISHES}
use Rattle.sched_api.specs.Agenda.{AgendaParts, TakesNext, PutsReady}
use Rattle.sched_api.specs.declared.scheduler.Next.{Next}
use Rattle.lithe_mutex.specs.Mutex.{Possession, Free, Held}
use Rattle.array_jobs.specs.Jobs.{JobParts}
use Rattle.join_book.specs.Books.{BookParts, open_book}
use Rattle.step_eval.specs.declared.work.Work.{Work}
use Rattle.step_eval.specs.declared.work.Work.TheVariants.{Begin, Ready}

-- The parts of a pool that contracts see: its site, its lists for harts, the book of its pieces, and whether all jobs of the book
-- are known to start from one store.
pub record PoolParts : Type 0 where
  pub site : ℕ
  pub agenda : AgendaParts Work
  pub book : BookParts
  pub knows_start : Bool

-- The site of the jobs.
abbrev pub site_of_jobs : List JobParts → ℕ
site_of_jobs [] = 0
site_of_jobs (job ∷ jobs) = job.site

-- All jobs start from the store.
abbrev pub StartFrom : Store → List JobParts → Type 0
StartFrom start jobs = (i : ℕ) (job : JobParts) → slice_get jobs i ≡ Some job → job.store ≡ start

-- All jobs start from one store. Why any two are compared, and not each with some store: so it can be a type's invariant.
abbrev pub HaveOneStart : List JobParts → Type 0
HaveOneStart jobs = (i k : ℕ) (a b : JobParts) → slice_get jobs i ≡ Some a → slice_get jobs k ≡ Some b
    → a.store ≡ b.store

-- The jobs of both lists start from one store.
abbrev pub HaveSameStart : List JobParts → List JobParts → Type 0
HaveSameStart xs ys = (start : Store) × StartFrom start xs × StartFrom start ys

-- The store from which all jobs start, if that is known.
abbrev pub start_of : Bool → List JobParts → Option Store
start_of true jobs = option_map (λ job. job.store) (slice_get jobs 0)
start_of false jobs = None

-- The pool of jobs none of which is begun, in the order of their indices, with room for so many wishes.
abbrev pub roomy_pool : List JobParts → ℕ → PoolParts
roomy_pool jobs wishes = record {
  site = site_of_jobs jobs;
  agenda = record {
    ready = [];
    room = length jobs;
    unbegun = map Begin jobs;
    wishes = record { sites = []; room = wishes };
  };
  book = open_book jobs;
  knows_start = false;
}

-- The pool with room for the wishes of as many sites as a plan may have.
abbrev pub new_pool : List JobParts → PoolParts
new_pool jobs = roomy_pool jobs MOST_WISHES

-- The book of a mutex that is free.
abbrev pub free_book : {C : Type 0} → Possession BookParts C → BookParts
free_book (Free book) = book
free_book (Held waiting) = record { jobs = []; places = [] }

-- The call `enter` of a pool returns the next action of its agenda, and changes only its agenda.
pub record Answers (before : PoolParts) (next : Next Work) (after : PoolParts) : Type 0 where
  pub handed : TakesNext before.agenda next after.agenda
  pub site : after.site ≡ before.site
  pub book : after.book ≡ before.book
  pub start : after.knows_start ≡ before.knows_start

-- A callback changes the wishes of the pool, and nothing else.
abbrev pub Hears : PoolParts → Told → PoolParts → Type 0
Hears before told after =
    after ≡ record before {
      agenda = record before.agenda {
        wishes = wishes_after told before.agenda.wishes;
      };
    }

-- The pool takes a context back into its ready list, if there is room.
pub record Takes (before : PoolParts) (c : Work) (answer : Result (Unit {0}) Work)
    (after : PoolParts) : Type 0 where
  pub ready : PutsReady before.agenda c answer after.agenda
  pub site : after.site ≡ before.site
  pub book : after.book ≡ before.book
  pub start : after.knows_start ≡ before.knows_start

-- The pool has this book, and is otherwise unchanged.
abbrev pub with_book : PoolParts → BookParts → PoolParts
with_book pool book = record pool { book = book }

-- The pool has this agenda, and is otherwise unchanged.
abbrev pub with_agenda : PoolParts → AgendaParts Work → PoolParts
with_agenda pool agenda = record pool { agenda = agenda }

-- The work is a piece at this index that isn't begun.
abbrev pub IsPieceAt : ℕ → Work → Type 0
IsPieceAt place (Begin job) = job.place ≡ place
IsPieceAt place (Ready context) = ⊥

-- The last of the jobs that aren't begun is taken, if it has this index. Otherwise nothing changes.
abbrev pub GivesJob : PoolParts → ℕ → Option JobParts → PoolParts → Type 0
GivesJob before place (Some job) after =
    (before.agenda.unbegun ≡ after.agenda.unbegun ++ Begin job ∷ []) × (job.place ≡ place)
    × (after ≡ with_agenda before (record before.agenda { unbegun = after.agenda.unbegun }))
GivesJob before place None after =
    ((rest : List Work) (last : Work) → before.agenda.unbegun ≡ rest ++ last ∷ []
    → ¬ IsPieceAt place last) × (after ≡ before)

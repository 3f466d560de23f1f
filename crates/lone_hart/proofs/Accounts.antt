-- Jobs that were handed out and returned.
use Rattle.std.proofs.Common.{◌≡◌, ◌≢◌, ℕ, zero, suc, ◌<◌, ◌≤◌, List, [], ◌∷◌, length, map, drop, replicate, slice_get, slice_set, Some, refl, sym, ap, ◌∙◌, subst, arith, inl, inr}
use Rattle.std.proofs.lemmas.Bool.{cases_eq, cases_lt}
use Rattle.std.specs.Option.{option_map}
use Rattle.std.proofs.lemmas.Option.{slice_get_within, slice_get-map}
use Rattle.array_jobs.specs.Jobs.{JobParts, JobTree, job_of}
use Rattle.array_jobs.specs.Groups.{IsGroup}
use Rattle.join_book.specs.Books.{BookParts, Mark, Open, IsMarked, IsPlaceOf, IsFull, open_book, marked_book}
use Rattle.join_book.proofs.BookLemmas.{at_other, at_same, at_replicate}
use Rattle.sched_api.specs.declared.scheduler.Next.{Next}
use Rattle.sched_api.specs.declared.scheduler.Next.TheVariants.{Run, Lend, Nothing}
use Rattle.sched_api.specs.Wishes.{WishList}
use Rattle.sched_api.specs.Agenda.{AgendaParts, TakesNext}
use Rattle.lone_hart.specs.Accounts.{Stands, AllCameBack, AllButOneCameBack}

-- Different jobs begin as different contexts.
abbrev pub IsOneToOne : {C : Type 0} → (JobParts → C) → Type 0
IsOneToOne begin = (a b : JobParts) → begin a ≡ begin b → a ≡ b

abbrev first_or : {C : Type 0} → C → List C → C
first_or d [] = d
first_or d (x ∷ xs) = x

no_first : {C : Type 0} (xs ys : List C) (c : C) → xs ≡ [] → xs ≡ c ∷ ys → ⊥
no_first xs ys c e f = cc

-- The first of the jobs from k on is the k-th.
pub drop_first : {C : Type 0} (begin : JobParts → C) → IsOneToOne begin → (k : ℕ) (jobs : List JobParts) (job : JobParts) (rest : List C) →
    drop k (map begin jobs) ≡ begin job ∷ rest → (slice_get jobs k ≡ Some job) × (rest ≡ drop (suc k) (map begin jobs))
drop_first begin one zero [] job rest e = cc
drop_first begin one zero (j ∷ js) job rest e = (ap Some (one j job (ap (first_or (begin job)) e)), sym (ap (drop 1) e))
drop_first begin one (suc k) [] job rest e = cc
drop_first begin one (suc k) (j ∷ js) job rest e = drop_first begin one k js job rest e

-- If no job is left from k on, there are at most k.
drop_none : {C : Type 0} (begin : JobParts → C) (k : ℕ) (jobs : List JobParts) → drop k (map begin jobs) ≡ [] → length jobs ≤ k
drop_none begin zero [] e = omega arith
drop_none begin zero (j ∷ js) e = cc
drop_none begin (suc k) [] e = omega arith
drop_none begin (suc k) (j ∷ js) e = let less = drop_none begin k js e in omega arith

-- An index within a list has an element.
there : {A : Type 0} (xs : List A) (i : ℕ) → i < length xs → (x : A) × (slice_get xs i ≡ Some x)
there [] i within = absurd (omega arith)
there (x ∷ xs) zero within = (x, refl)
there (x ∷ xs) (suc i) within = there xs i (omega arith)

replicate_size : {A : Type 0} (n : ℕ) (x : A) → length (replicate n x) ≡ n
replicate_size zero x = refl
replicate_size (suc n) x = ap suc (replicate_size n x)

-- No job of an open book was handed out.
pub none_out : {C : Type 0} (begin : JobParts → C) (jobs : List JobParts) (agenda : AgendaParts C) → IsGroup (map job_of jobs) → agenda.ready ≡ [] → agenda.unbegun ≡ map begin jobs →
    Stands begin (open_book jobs) agenda 0 0
none_out begin jobs agenda group none all = record {
  none_ready = none;
  unbegun = all;
  back = λ i less. absurd (omega arith);
  away = λ i up within.
      let at = there (replicate (length jobs) Open) i (subst (λ n. i < n) (sym (replicate_size (length jobs) Open)) within) in
      at.1 ∙ ap Some (at_replicate (length jobs) i Open at.0 at.1);
  each = replicate_size (length jobs) Open;
  own = λ i job is. group.places i (job_of job) (slice_get-map job_of jobs i ∙ ap (option_map job_of) is);
}

-- The job that is handed out next is the first that isn't begun.
pub handed : {C : Type 0} (begin : JobParts → C) → IsOneToOne begin → (book : BookParts) (before after : AgendaParts C) (job : JobParts) (k : ℕ) → Stands begin book before k k →
    TakesNext before (Run (begin job)) after → (slice_get book.jobs k ≡ Some job) × Stands begin book after k (suc k)
handed begin one book before after job k stands (inl taken) = absurd (no_first before.ready after.ready (begin job) stands.none_ready taken.first)
handed begin one book before after job k stands (inr taken) =
    let found = drop_first begin one k book.jobs job after.unbegun (sym stands.unbegun ∙ taken.first) in (
      found.0,
      record {
        none_ready = ap (λ (a : AgendaParts _). a.ready) taken.rest ∙ stands.none_ready;
        unbegun = found.1;
        back = stands.back;
        away = stands.away;
        each = stands.each;
        own = stands.own;
      },
    )

pub hand_out : {C : Type 0} (begin : JobParts → C) → IsOneToOne begin → (book : BookParts) (before after : AgendaParts C) (job : JobParts) → AllCameBack begin book before →
    TakesNext before (Run (begin job)) after → AllButOneCameBack begin book after job
hand_out begin one book before after job (k, stands) taken = let next = handed begin one book before after job k stands taken in (k, next.0, next.1)

-- Fewer jobs are left after a job is handed out.
pub hand_out_less : {C : Type 0} (c : C) (before after : AgendaParts C) → before.ready ≡ [] → TakesNext before (Run c) after → length after.unbegun < length before.unbegun
hand_out_less c before after none (inl taken) = absurd (no_first before.ready after.ready c none taken.first)
hand_out_less c before after none (inr taken) = let same = ap length taken.first in omega arith

begun_else : {C : Type 0} (begin : JobParts → C) (c : C) → ((job : JobParts) → begin job ≢ c) → (k : ℕ) (jobs : List JobParts) (rest : List C) → drop k (map begin jobs) ≡ c ∷ rest → ⊥
begun_else begin c other zero [] rest e = cc
begun_else begin c other zero (j ∷ js) rest e = other j (ap (first_or c) e)
begun_else begin c other (suc k) [] rest e = cc
begun_else begin c other (suc k) (j ∷ js) rest e = begun_else begin c other k js rest e

-- A ready context is never handed out.
none_to_go_on : {C : Type 0} (begin : JobParts → C) (book : BookParts) (before after : AgendaParts C) (c : C) → ((job : JobParts) → begin job ≢ c) → AllCameBack begin book before →
    TakesNext before (Run c) after → ⊥
none_to_go_on begin book before after c other (k, stands) (inl taken) = no_first before.ready after.ready c stands.none_ready taken.first
none_to_go_on begin book before after c other (k, stands) (inr taken) = begun_else begin c other k book.jobs after.unbegun (sym stands.unbegun ∙ taken.first)

-- If no job is left to begin, the book is full.
full : {C : Type 0} (begin : JobParts → C) (book : BookParts) (agenda : AgendaParts C) → AllCameBack begin book agenda → agenda.unbegun ≡ [] → IsFull book
full begin book agenda (k, stands) none i is = elim (cases_lt i k) [
  | inl less ↦ stands.back i less is
  | inr up ↦
      let few = drop_none begin k book.jobs (sym stands.unbegun ∙ none) in
      let within = slice_get_within book.places i Open is in
      let each = stands.each in
      omega arith
]

-- If every job came back and the book isn't full, a job is handed out.
pub always_begins : {C : Type 0} (begin : JobParts → C) (book : BookParts) (before after : AgendaParts C) (next : Next C) → AllCameBack begin book before → ¬ IsFull book → TakesNext before next after →
    ((job : JobParts) → next ≢ Run (begin job)) → ⊥
always_begins begin book before after (Run c) all more taken other = none_to_go_on begin book before after c (λ job e. other job (ap Run (sym e))) all taken
always_begins begin book before after (Lend child) all more taken other = more (full begin book before all taken.all_begun)
always_begins begin book before after Nothing all more taken other = more (full begin book before all taken.0.all_begun)

-- If a scheduler has nothing to run, no job is left to begin.
pub none_left : {C : Type 0} (before after : AgendaParts C) (next : Next C) → ((c : C) → next ≡ Run c → ⊥) → TakesNext before next after → before.unbegun ≡ []
none_left before after (Run c) other taken = absurd (other c refl)
none_left before after (Lend site) other taken = taken.all_begun
none_left before after Nothing other taken = taken.0.all_begun

size_set : {A : Type 0} (xs : List A) (i : ℕ) (x : A) → length (slice_set xs i x) ≡ length xs
size_set [] i x = refl
size_set (y ∷ xs) zero x = refl
size_set (y ∷ xs) (suc i) x = ap suc (size_set xs i x)

-- A job returned, as a piece or as a failure.
pub came_back : {C : Type 0} (begin : JobParts → C) (book : BookParts) (agenda : AgendaParts C) (k : ℕ) (mark : Mark) → (mark ≡ Open → ⊥) → Stands begin book agenda k (suc k) →
    Stands begin (marked_book book k mark) agenda (suc k) (suc k)
came_back begin book agenda k mark closed stands = record {
  none_ready = stands.none_ready;
  unbegun = stands.unbegun;
  back = λ i less is. elim (cases_eq i k) [
    | inl e ↦ closed (sym (at_same book.places k mark Open (subst (λ x. slice_get (slice_set book.places k mark) x ≡ Some Open) e is)))
    | inr n ↦ stands.back i (omega arith) (sym (at_other book.places k i mark n) ∙ is)
  ];
  away = λ i up within. at_other book.places k i mark (λ e. omega arith) ∙ stands.away i (omega arith) within;
  each = size_set book.places k mark ∙ stands.each;
  own = stands.own;
}

-- The job that is out has its own slot, and the slot is open.
pub out_place : {C : Type 0} (begin : JobParts → C) (book : BookParts) (agenda : AgendaParts C) (job : JobParts) (k : ℕ) → slice_get book.jobs k ≡ Some job → Stands begin book agenda k (suc k) →
    (job.place ≡ k) × IsMarked book k Open × IsPlaceOf book k job
out_place begin book agenda job k is stands = (stands.own k job is, stands.away k (omega arith) (slice_get_within book.jobs k job is), (job, is, refl))

-- A callback changes only the wishes.
pub heard : {C : Type 0} (begin : JobParts → C) (book : BookParts) (agenda : AgendaParts C) (wishes : WishList) (done begun : ℕ) → Stands begin book agenda done begun →
    Stands begin book (record agenda { wishes = wishes }) done begun
heard begin book agenda wishes done begun stands = record {
  none_ready = stands.none_ready;
  unbegun = stands.unbegun;
  back = stands.back;
  away = stands.away;
  each = stands.each;
  own = stands.own;
}

-- If the book is full, all its jobs returned.
pub all_back : {C : Type 0} (begin : JobParts → C) (book : BookParts) (agenda : AgendaParts C) (done begun : ℕ) → Stands begin book agenda done begun → IsFull book → length book.jobs ≤ done
all_back begin book agenda done begun stands is_full = elim (cases_lt done (length book.jobs)) [
  | inl less ↦ absurd (is_full done (stands.away done (omega arith) less))
  | inr up ↦ up
]

-- The slot that was open is marked.
pub marked_now : (places : List Mark) (i : ℕ) (mark other : Mark) → slice_get places i ≡ Some other → slice_get (slice_set places i mark) i ≡ Some mark
marked_now [] i mark other is = cc
marked_now (p ∷ ps) zero mark other is = refl
marked_now (p ∷ ps) (suc i) mark other is = marked_now ps i mark other is

-- The jobs of a phase, by their models.
pub seen_job : (jobs : List JobParts) (trees : List JobTree) (k : ℕ) (job : JobParts) → map job_of jobs ≡ trees → slice_get jobs k ≡ Some job → slice_get trees k ≡ Some (job_of job)
seen_job jobs trees k job same is = ap (λ js. slice_get js k) (sym same) ∙ slice_get-map job_of jobs k ∙ ap (option_map job_of) is

-- Pieces that are due and fail, one by one.
use Rattle.std.proofs.Common.{◌≡◌, ◌⊎◌, inl, inr, ℕ, zero, suc, ◌+◌, ◌*◌, ◌<◌, ◌≤◌, Bool, true, false, List, [], ◌∷◌, ◌++◌, Some, None, Option, sym, ap, ◌∙◌, subst, arith}
use Rattle.std.specs.Prelude.{slice_get, if◌then◌else◌, ◌↔◌}
use Rattle.std.proofs.lemmas.Option.{same_Some}
use Rattle.array_jobs.specs.Jobs.{JobParts}
use Rattle.pipe_sched.specs.Slots.{Mark, Waiting, Barred, Out, Filled, Lost, PipeParts, phases_in, IsDue, failed_mark, failed_pipe, follows, changed_where}
use Rattle.pipe_sched.specs.Pipes.{GivesDue, FailWhenDue, GivesAfterFailing}
use Rattle.pipe_sched.proofs.Kept.{it_follows_at}

-- One more piece fails.
pub one_more_fails : (before left after : PipeParts) (failed : List (ℕ × ℕ)) (j k : ℕ) → FailWhenDue before failed left → IsDue left j k →
    after ≡ failed_pipe left j k → FailWhenDue before (failed ++ (j, k) ∷ []) after
one_more_fails before left after [] j k same due e =
    (subst (λ p. IsDue p j k) same due, e ∙ ap (λ p. failed_pipe p j k) same)
one_more_fails before left after ((i, h) ∷ failed) j k fail due e =
    (fail.0, one_more_fails (failed_pipe before i h) left after failed j k fail.1 due e)

-- ---- the number of waiting pieces

abbrev pub waits : Mark → ℕ
waits Waiting = 1
waits Barred = 0
waits Out = 0
waits Filled = 0
waits Lost = 0

abbrev pub waiting_in : List Mark → ℕ
waiting_in [] = 0
waiting_in (mark ∷ marks) = waits mark + waiting_in marks

no_wait_begins : (b : Bool) (mark : Mark) → waits (if b then failed_mark mark else mark) ≤ waits mark
no_wait_begins false mark = omega arith
no_wait_begins true Waiting = omega arith
no_wait_begins true Barred = omega arith
no_wait_begins true Out = omega arith
no_wait_begins true Filled = omega arith
no_wait_begins true Lost = omega arith

no_more_wait : (test : ℕ → Bool) (s : ℕ) (marks : List Mark) → waiting_in (changed_where test failed_mark s marks) ≤ waiting_in marks
no_more_wait test s [] = omega arith
no_more_wait test s (mark ∷ marks) =
    let first = no_wait_begins (test s) mark in
    let rest = no_more_wait test (s + 1) marks in
    omega (arith, first, rest)

one_less_waits : (test : ℕ → Bool) (s : ℕ) (marks : List Mark) (i : ℕ) → slice_get marks i ≡ Some Waiting → test (s + i) ≡ true →
    waiting_in (changed_where test failed_mark s marks) < waiting_in marks
one_less_waits test s [] i e passes = absurd (cc)
one_less_waits test s (mark ∷ marks) zero e passes =
    let own : mark ≡ Waiting = same_Some mark Waiting e in
    let none : s + 0 ≡ s = omega arith in
    let here : test s ≡ true = ap test (sym none) ∙ passes in
    let first : waits (if test s then failed_mark mark else mark) ≡ 0
    = ap (λ b. waits (if b then failed_mark mark else mark)) here ∙ ap (λ m. waits (failed_mark m)) own in
    let was : waits mark ≡ 1 = ap waits own in
    let rest = no_more_wait test (s + 1) marks in
    omega (arith, first, was, rest)
one_less_waits test s (mark ∷ marks) (suc i) e passes =
    let next : s + 1 + i ≡ s + suc i = omega arith in
    let first = no_wait_begins (test s) mark in
    let rest = one_less_waits test (s + 1) marks i e (ap test next ∙ passes) in
    omega (arith, first, rest)

-- Fewer pieces wait after one that is due fails.
pub fewer_wait : (pipe after : PipeParts) (j k : ℕ) → IsDue pipe j k → after ≡ failed_pipe pipe j k → waiting_in after.marks < waiting_in pipe.marks
fewer_wait pipe after j k due e =
    let n = phases_in pipe.nested in
    let here = due.ready.waits in
    let less = one_less_waits (follows n j k) 0 pipe.marks (j * n + k) here.1 (it_follows_at n j k j k here.0 (omega arith) (omega arith)) in
    subst (λ (p : PipeParts). waiting_in p.marks < waiting_in pipe.marks) (sym e) less

-- ---- the construct is unchanged

pub failing_stays : (before left : PipeParts) (failed : List (ℕ × ℕ)) → FailWhenDue before failed left → left.nested ≡ before.nested
failing_stays before left [] same = ap (λ p. p.nested) same
failing_stays before left ((j, k) ∷ failed) fail = failing_stays (failed_pipe before j k) left failed fail.1

giving_stays : (before after : PipeParts) (given : Option JobParts) → GivesDue before given after → after.nested ≡ before.nested
giving_stays before after (Some job) gives = ap (λ p. p.nested) gives.marked
giving_stays before after None gives = ap (λ p. p.nested) gives.1

pub given_stays : (before after : PipeParts) (given : Option JobParts) → GivesAfterFailing before given after → after.nested ≡ before.nested
given_stays before after given gives = giving_stays gives.left after given gives.gives ∙ failing_stays before gives.left gives.failed gives.fail

-- ---- at most one piece is due

pub same_due : (pipe : PipeParts) (j k i h : ℕ) → IsDue pipe j k → IsDue pipe i h → (j ≡ i) × (k ≡ h)
same_due pipe j k i h a b = both (a.least i h b.ready) (b.least j k a.ready)
  where
    both : (j < i) ⊎ ((j ≡ i) × (k ≤ h)) → (i < j) ⊎ ((i ≡ j) × (h ≤ k)) → (j ≡ i) × (k ≡ h)
    both (inl lower) (inl higher) = absurd (omega arith)
    both (inl lower) (inr (same, le)) = absurd (omega arith)
    both (inr (same, le)) (inl higher) = absurd (omega arith)
    both (inr (same, le)) (inr (back, ge)) = (same, omega arith)

pub due_is_it : (pipe : PipeParts) (j k i h : ℕ) → IsDue pipe j k → ((j ≡ i) × (k ≡ h)) ↔ IsDue pipe i h
due_is_it pipe j k i h due = (
  λ same. subst (λ m. IsDue pipe m h) same.0 (subst (λ m. IsDue pipe j m) same.1 due),
  λ other. same_due pipe j k i h due other,
)

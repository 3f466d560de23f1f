-- The entered sites of two parts in sequence are those of the first, then those of the second.
use Rattle.std.proofs.Common.{◌≡◌, ℕ, zero, suc, ◌+◌, ◌*◌, ◌<◌, ◌≤◌, Bool, List, [], ◌∷◌, ◌++◌, map, length, drop, get_or, drop-cons, add-one, append_assoc, ℤ, pos, ◌+ℤ◌, ◌<ℤ◌, refl, sym, ap, ◌∙◌, arith}
use Rattle.std.proofs.lemmas.List.{append-nil}
use Rattle.array_tree.specs.declared.tree.Stmt.{Stmt}
use Rattle.array_tree.specs.declared.tree.Block.{Block}
use Rattle.array_tree.specs.Trees.{Sequence, statement_of, sequence_of, sequence, sequences}
use Rattle.array_meaning.specs.Stores.{Arrays, Vars}
use Rattle.array_meaning.specs.Steps.{followed_by, exec, writes_of}
use Rattle.array_meaning.specs.Work.{turns, span, loop, sequence_work}
use Rattle.array_meaning.specs.Plans.{sites_in}
use Rattle.array_meaning.specs.Entered.{Part, entered_then, turns_entered, sequence_entered, statement_part, sequence_part, branches_part, loop_part, phases_part}
use Rattle.array_meaning.proofs.StepLemmas.{span_next, span_none}
use Rattle.array_meaning.proofs.EnteredLemmas.{sequence_length, turns_length}
use Rattle.array_eval.specs.Traces.{Trace, traced}
use Rattle.array_eval.proofs.TraceLemmas.{traced_followed_by, cells_after}
use Rattle.site_counts.specs.Capped.{capped}
use Rattle.entered_sites.specs.Recorded.{Recorded, recorded}

abbrev made : Trace → List Bool → Recorded
made trace sites = record { trace = trace; sites = sites }

same_parts : (s t : Trace) (a b : List Bool) → s ≡ t → a ≡ b → made s a ≡ made t b
same_parts s t a b e f = ap (λ x. made x a) e ∙ ap (λ x. made t x) f

recorded_followed : (arrays : Arrays) (p q : Part) (t : Recorded) →
    recorded arrays (followed_by p.0 q.0, entered_then arrays p q.1) t ≡ recorded arrays q (recorded arrays p t)
recorded_followed arrays p q t = same_parts
    (traced arrays (followed_by p.0 q.0) t.trace)
    (traced arrays q.0 (traced arrays p.0 t.trace))
    (t.sites ++ (p.1 t.trace.cells ++ q.1 (exec arrays p.0 t.trace.cells)))
    ((t.sites ++ p.1 t.trace.cells) ++ q.1 (traced arrays p.0 t.trace).cells)
    (traced_followed_by arrays p.0 q.0 t.trace)
    (sym (append_assoc t.sites (p.1 t.trace.cells) (q.1 (exec arrays p.0 t.trace.cells)))
    ∙ ap (λ cells. (t.sites ++ p.1 t.trace.cells) ++ q.1 cells) (sym (cells_after (writes_of arrays p.0 t.trace.cells) t.trace)))

-- ---- the first part is split off

pub statements_left : (arrays : Arrays) (ss : List Stmt) (i : ℕ) (d : Stmt) (vars : Vars) (t : Recorded) → i < length ss →
    recorded arrays (sequence_part arrays (sequence (map statement_of (drop i ss))) vars) t
    ≡ recorded arrays (sequence_part arrays (sequence (map statement_of (drop (i + 1) ss))) vars) (recorded arrays (statement_part arrays (statement_of (get_or ss i d)) vars) t)
statements_left arrays ss i d vars t h =
    let s = statement_of (get_or ss i d) in
    let rest = sequence (map statement_of (drop (suc i) ss)) in
    ap (λ left. recorded arrays (sequence_part arrays (sequence (map statement_of left)) vars) t) (drop-cons ss i d h)
    ∙ rw add-one (recorded_followed arrays (statement_part arrays s vars) (sequence_part arrays rest vars) t)

pub branches_left : (arrays : Arrays) (bs : List Block) (i : ℕ) (d : Block) (vars : Vars) (t : Recorded) → i < length bs →
    recorded arrays (branches_part arrays (sequences (map sequence_of (drop i bs))) vars) t
    ≡ recorded arrays (branches_part arrays (sequences (map sequence_of (drop (i + 1) bs))) vars) (recorded arrays (sequence_part arrays (sequence_of (get_or bs i d)) vars) t)
branches_left arrays bs i d vars t h =
    let s = sequence_of (get_or bs i d) in
    let rest = sequences (map sequence_of (drop (suc i) bs)) in
    ap (λ left. recorded arrays (branches_part arrays (sequences (map sequence_of left)) vars) t) (drop-cons bs i d h)
    ∙ rw add-one (recorded_followed arrays (sequence_part arrays s vars) (branches_part arrays rest vars) t)

pub phases_left : (arrays : Arrays) (bs : List Block) (i : ℕ) (d : Block) (var : List ℕ) (low high : ℤ) (vars : Vars) (t : Recorded) → i < length bs →
    recorded arrays (phases_part arrays (sequences (map sequence_of (drop i bs))) var low high vars) t
    ≡ recorded arrays (phases_part arrays (sequences (map sequence_of (drop (i + 1) bs))) var low high vars) (recorded arrays (loop_part arrays var low high (sequence_part arrays (sequence_of (get_or bs i d))) vars) t)
phases_left arrays bs i d var low high vars t h =
    let s = sequence_of (get_or bs i d) in
    let rest = sequences (map sequence_of (drop (suc i) bs)) in
    ap (λ left. recorded arrays (phases_part arrays (sequences (map sequence_of left)) var low high vars) t) (drop-cons bs i d h)
    ∙ rw add-one (recorded_followed arrays (loop_part arrays var low high (sequence_part arrays s) vars) (phases_part arrays rest var low high vars) t)

abbrev turns_recorded : Arrays → List ℕ → ℤ → ℕ → Sequence → Vars → Recorded → Recorded
turns_recorded arrays var low n body vars = recorded arrays
    (turns (λ x. sequence_work body ((var, x) ∷ vars)) low n, turns_entered arrays (λ x. sequence_part arrays body ((var, x) ∷ vars)) low n)

pub turns_left : (arrays : Arrays) (var : List ℕ) (x high : ℤ) (body : Sequence) (vars : Vars) (t : Recorded) → x <ℤ high →
    recorded arrays (loop_part arrays var x high (sequence_part arrays body) vars) t ≡ recorded arrays (loop_part arrays var (x +ℤ pos 1) high (sequence_part arrays body) vars) (recorded arrays (sequence_part arrays body ((var, x) ∷ vars)) t)
turns_left arrays var x high body vars t h =
    ap (λ n. turns_recorded arrays var x n body vars t) (span_next x high h)
    ∙ recorded_followed arrays (sequence_part arrays body ((var, x) ∷ vars)) (loop_part arrays var (x +ℤ pos 1) high (sequence_part arrays body) vars) t

-- ---- nothing is left

ended : (t : Recorded) → made t.trace (t.sites ++ []) ≡ t
ended t = ap (λ sites. made t.trace sites) (append-nil t.sites)

drop_all : {A : Type 0} → (xs : List A) (i : ℕ) → length xs ≤ i → drop i xs ≡ []
drop_all [] zero h = refl
drop_all [] (suc i) h = refl
drop_all (x ∷ xs) zero h = absurd (omega (arith, h))
drop_all (x ∷ xs) (suc i) h = drop_all xs i (omega (arith, h))

pub statements_ended : (arrays : Arrays) (ss : List Stmt) (i : ℕ) (vars : Vars) (t : Recorded) → length ss ≤ i →
    recorded arrays (sequence_part arrays (sequence (map statement_of (drop i ss))) vars) t ≡ t
statements_ended arrays ss i vars t h =
    ap (λ left. recorded arrays (sequence_part arrays (sequence (map statement_of left)) vars) t) (drop_all ss i h) ∙ ended t

pub branches_ended : (arrays : Arrays) (bs : List Block) (i : ℕ) (vars : Vars) (t : Recorded) → length bs ≤ i →
    recorded arrays (branches_part arrays (sequences (map sequence_of (drop i bs))) vars) t ≡ t
branches_ended arrays bs i vars t h =
    ap (λ left. recorded arrays (branches_part arrays (sequences (map sequence_of left)) vars) t) (drop_all bs i h) ∙ ended t

pub phases_ended : (arrays : Arrays) (bs : List Block) (i : ℕ) (var : List ℕ) (low high : ℤ) (vars : Vars) (t : Recorded) → length bs ≤ i →
    recorded arrays (phases_part arrays (sequences (map sequence_of (drop i bs))) var low high vars) t ≡ t
phases_ended arrays bs i var low high vars t h =
    ap (λ left. recorded arrays (phases_part arrays (sequences (map sequence_of left)) var low high vars) t) (drop_all bs i h) ∙ ended t

pub turns_ended : (arrays : Arrays) (var : List ℕ) (x high : ℤ) (body : Sequence) (vars : Vars) (t : Recorded) → (x <ℤ high → ⊥) →
    recorded arrays (loop_part arrays var x high (sequence_part arrays body) vars) t ≡ t
turns_ended arrays var x high body vars t h = ap (λ n. turns_recorded arrays var x n body vars t) (span_none x high h) ∙ ended t

-- ---- parts without sites

none : (sites : List Bool) → length sites ≡ 0 → sites ≡ []
none [] e = refl
none (b ∷ sites) e = absurd (omega (arith, e))

uncapped : (n : ℕ) → capped n ≡ 0 → n ≡ 0
uncapped n e = omega (arith, e)

-- A part without sites.
plain : (arrays : Arrays) (part : Part) (before after : Recorded) → length (part.1 before.trace.cells) ≡ 0 →
    after.trace ≡ traced arrays part.0 before.trace → after.sites ≡ before.sites → after ≡ recorded arrays part before
plain arrays part before after e same_trace same_sites =
    same_parts after.trace (traced arrays part.0 before.trace) after.sites (before.sites ++ part.1 before.trace.cells) same_trace
    (same_sites ∙ sym (ap (λ sites. before.sites ++ sites) (none (part.1 before.trace.cells) e) ∙ append-nil before.sites))

pub plain_block : (arrays : Arrays) (s : Sequence) (vars : Vars) (before after : Recorded) → capped (sites_in s) ≡ 0 →
    after.trace ≡ traced arrays (sequence_work s vars) before.trace → after.sites ≡ before.sites → after ≡ recorded arrays (sequence_part arrays s vars) before
plain_block arrays s vars before after e =
    plain arrays (sequence_part arrays s vars) before after
    (sequence_length arrays s vars before.trace.cells ∙ uncapped (sites_in s) e)

pub plain_loop : (arrays : Arrays) (var : List ℕ) (low high : ℤ) (s : Sequence) (vars : Vars) (before after : Recorded) → capped (sites_in s) ≡ 0 →
    after.trace ≡ traced arrays (loop var low high (sequence_work s) vars) before.trace → after.sites ≡ before.sites →
    after ≡ recorded arrays (loop_part arrays var low high (sequence_part arrays s) vars) before
plain_loop arrays var low high s vars before after e =
    plain arrays (loop_part arrays var low high (sequence_part arrays s) vars) before after
    (turns_length arrays (span low high) 0 (λ x. sequence_work s ((var, x) ∷ vars)) (λ x. sequence_entered arrays s ((var, x) ∷ vars)) low
    (λ x store. sequence_length arrays s ((var, x) ∷ vars) store ∙ uncapped (sites_in s) e) before.trace.cells
    ∙ times_none (span low high))
  where
    times_none : (n : ℕ) → n * 0 ≡ 0
    times_none n = omega arith

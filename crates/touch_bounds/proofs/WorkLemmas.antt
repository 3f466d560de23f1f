-- The recorded stretches of works with several parts.
use Rattle.std.proofs.Common.{ℕ, zero, suc, ◌+◌, ◌<◌, ◌≤◌, List, [], ◌∷◌, ◌++◌, map, length, drop, get_or, drop-cons, add-one, ℤ, pos, ◌+ℤ◌, ◌≤ℤ◌, ◌<ℤ◌, refl, sym, subst, arith}
use Rattle.std.proofs.lemmas.Int.{ints}
use Rattle.std.proofs.lemmas.List.{drop_all}
use Rattle.array_tree.specs.declared.tree.Stmt.{Stmt}
use Rattle.array_tree.specs.declared.tree.Block.{Block}
use Rattle.array_tree.specs.Trees.{Expression, Sequence, statement_of, sequence_of, sequence, sequences}
use Rattle.array_meaning.specs.Stores.{Arrays}
use Rattle.array_meaning.specs.Steps.{Steps, followed_by}
use Rattle.array_meaning.specs.Work.{Work, turns, span, loop, statement_work, sequence_work, branches_work, phases_work}
use Rattle.array_meaning.specs.Touch.{walk, reads_in}
use Rattle.array_meaning.proofs.FrameLemmas.{walk_followed_by}
use Rattle.touch_bounds.specs.declared.interval.Interval.{Interval}
use Rattle.touch_bounds.specs.declared.touch.Touch.{Touch}
use Rattle.touch_bounds.specs.Intervals.{LiesIn}
use Rattle.touch_bounds.specs.Ranges.{Bounds}
use Rattle.touch_bounds.specs.Touches.{Widens, AreVisitsNoted, AreReadsNoted, IsWorkNoted, IsChoiceNoted}
use Rattle.touch_bounds.proofs.NotedLemmas.{noted_append, noted_wider, wider_trans}

pub steps_noted : (arrays : Arrays) (t : List Touch) (a b : Steps) → AreVisitsNoted arrays t (walk arrays a) → AreVisitsNoted arrays t (walk arrays b) →
    AreVisitsNoted arrays t (walk arrays (followed_by a b))
steps_noted arrays t a b h k =
    subst (AreVisitsNoted arrays t) (sym (walk_followed_by arrays a b)) (noted_append arrays t (walk arrays a) (walk arrays b) h k)

pub work_wider : (arrays : Arrays) (s t : List Touch) (bounds : Bounds) (work : Work) → Widens s t → IsWorkNoted arrays s bounds work → IsWorkNoted arrays t bounds work
work_wider arrays s t bounds work w h vars within = noted_wider arrays s t (walk arrays (work vars)) w (h vars within)

-- ---- the first of several parts, and the others

pub statements_noted : (arrays : Arrays) (t : List Touch) (bounds : Bounds) (ss : List Stmt) (i : ℕ) (d : Stmt) → i < length ss →
    IsWorkNoted arrays t bounds (statement_work (statement_of (get_or ss i d))) →
    IsWorkNoted arrays t bounds (sequence_work (sequence (map statement_of (drop (i + 1) ss)))) →
    IsWorkNoted arrays t bounds (sequence_work (sequence (map statement_of (drop i ss))))
statements_noted arrays t bounds ss i d small first rest =
    subst (λ more. IsWorkNoted arrays t bounds (sequence_work (sequence (map statement_of more)))) (sym (drop-cons ss i d small))
    (λ vars within. steps_noted arrays t (statement_work (statement_of (get_or ss i d)) vars) (sequence_work (sequence (map statement_of (drop (suc i) ss))) vars)
    (first vars within) (subst (λ k. AreVisitsNoted arrays t (walk arrays (sequence_work (sequence (map statement_of (drop k ss))) vars))) (add-one i) (rest vars within)))

pub branches_noted : (arrays : Arrays) (t : List Touch) (bounds : Bounds) (bs : List Block) (i : ℕ) (d : Block) → i < length bs →
    IsWorkNoted arrays t bounds (sequence_work (sequence_of (get_or bs i d))) →
    IsWorkNoted arrays t bounds (branches_work (sequences (map sequence_of (drop (i + 1) bs)))) →
    IsWorkNoted arrays t bounds (branches_work (sequences (map sequence_of (drop i bs))))
branches_noted arrays t bounds bs i d small first rest =
    subst (λ more. IsWorkNoted arrays t bounds (branches_work (sequences (map sequence_of more)))) (sym (drop-cons bs i d small))
    (λ vars within. steps_noted arrays t (sequence_work (sequence_of (get_or bs i d)) vars) (branches_work (sequences (map sequence_of (drop (suc i) bs))) vars)
    (first vars within) (subst (λ k. AreVisitsNoted arrays t (walk arrays (branches_work (sequences (map sequence_of (drop k bs))) vars))) (add-one i) (rest vars within)))

pub phases_noted : (arrays : Arrays) (t : List Touch) (bounds : Bounds) (bs : List Block) (i : ℕ) (d : Block) (var : List ℕ) (low high : ℤ) → i < length bs →
    IsWorkNoted arrays t bounds (loop var low high (sequence_work (sequence_of (get_or bs i d)))) →
    IsWorkNoted arrays t bounds (λ vars. phases_work (sequences (map sequence_of (drop (i + 1) bs))) var low high vars) →
    IsWorkNoted arrays t bounds (λ vars. phases_work (sequences (map sequence_of (drop i bs))) var low high vars)
phases_noted arrays t bounds bs i d var low high small first rest =
    subst (λ more. IsWorkNoted arrays t bounds (λ vars. phases_work (sequences (map sequence_of more)) var low high vars)) (sym (drop-cons bs i d small))
    (λ vars within. steps_noted arrays t (loop var low high (sequence_work (sequence_of (get_or bs i d))) vars) (phases_work (sequences (map sequence_of (drop (suc i) bs))) var low high vars)
    (first vars within) (subst (λ k. AreVisitsNoted arrays t (walk arrays (phases_work (sequences (map sequence_of (drop k bs))) var low high vars))) (add-one i) (rest vars within)))

-- No phase is left.
pub no_phase_noted : (arrays : Arrays) (t : List Touch) (bounds : Bounds) (bs : List Block) (i : ℕ) (var : List ℕ) (low high : ℤ) → length bs ≤ i →
    IsWorkNoted arrays t bounds (λ vars. phases_work (sequences (map sequence_of (drop i bs))) var low high vars)
no_phase_noted arrays t bounds bs i var low high none =
    subst (λ more. IsWorkNoted arrays t bounds (λ vars. phases_work (sequences (map sequence_of more)) var low high vars)) (sym (drop_all i bs none)) (λ vars within. tt)

pub choice_noted : (arrays : Arrays) (r s t : List Touch) (bounds : Bounds) (test : Expression) (left right : Sequence) → AreReadsNoted arrays r bounds test → Widens r s →
    IsWorkNoted arrays s bounds (sequence_work left) → Widens s t → IsWorkNoted arrays t bounds (sequence_work right) → IsChoiceNoted arrays t bounds test left right
choice_noted arrays r s t bounds test left right reads u first w second line vars within =
    noted_append arrays t (reads_in arrays line vars test) (walk arrays (sequence_work left vars) ++ (walk arrays (sequence_work right vars) ++ []))
    (noted_wider arrays r t (reads_in arrays line vars test) (wider_trans r s t u w) (reads line vars within))
    (noted_append arrays t (walk arrays (sequence_work left vars)) (walk arrays (sequence_work right vars) ++ [])
    (noted_wider arrays s t (walk arrays (sequence_work left vars)) w (first vars within))
    (noted_append arrays t (walk arrays (sequence_work right vars)) [] (second vars within) tt))

-- ---- loops

turns_noted : (arrays : Arrays) (t : List Touch) (body : ℤ → Steps) (x : ℤ) (n : ℕ) →
    ((y : ℤ) → x ≤ℤ y → y <ℤ (x +ℤ pos n) → AreVisitsNoted arrays t (walk arrays (body y))) → AreVisitsNoted arrays t (walk arrays (turns body x n))
turns_noted arrays t body x zero each = tt
turns_noted arrays t body x (suc n) each =
    steps_noted arrays t (body x) (turns body (x +ℤ pos 1) n) (each x (omega (arith, ints)) (omega (arith, ints)))
    (turns_noted arrays t body (x +ℤ pos 1) n (λ y low high. each y (omega (arith, ints)) (omega (arith, ints))))

pub span_reaches : (low high y : ℤ) → low <ℤ high → y <ℤ (low +ℤ pos (span low high)) → y <ℤ high
span_reaches low high y some h = grind (arith, ints)

pub loop_noted : (arrays : Arrays) (t : List Touch) (bounds : Bounds) (var : List ℕ) (low high : ℤ) (within : Interval) (body : Work) → low <ℤ high →
    ((x : ℤ) → low ≤ℤ x → x <ℤ high → LiesIn within x) → IsWorkNoted arrays t ((var, within) ∷ bounds) body → IsWorkNoted arrays t bounds (loop var low high body)
loop_noted arrays t bounds var low high within body some lies noted vars inside =
    turns_noted arrays t (λ x. body ((var, x) ∷ vars)) low (span low high)
    (λ y from to. noted ((var, y) ∷ vars) (refl, lies y from (span_reaches low high y some to), inside))

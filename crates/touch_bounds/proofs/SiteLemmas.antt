-- Sites in sequence whose pieces are apart.
use Rattle.std.proofs.Common.{ℕ, zero, suc, ◌+◌, ◌<◌, List, [], ◌∷◌, ◌++◌, map, length, drop, get_or, drop-cons, add-one, ℤ, pos, ◌+ℤ◌, ◌<ℤ◌, ◌≤ℤ◌, refl, sym, subst, arith}
use Rattle.std.proofs.lemmas.Int.{ints}
use Rattle.array_tree.specs.declared.tree.Stmt.{Stmt}
use Rattle.array_tree.specs.declared.tree.Block.{Block}
use Rattle.array_tree.specs.Trees.{statement_of, sequence_of, sequence, sequences}
use Rattle.array_meaning.specs.Stores.{Arrays, Vars}
use Rattle.array_meaning.specs.Work.{span}
use Rattle.array_meaning.specs.Sites.{Site, AreSitesApart, turn_sites, loop_sites, statement_sites, sequence_sites, branches_sites, phases_sites}
use Rattle.touch_bounds.specs.declared.interval.Interval.{Interval}
use Rattle.touch_bounds.specs.Intervals.{LiesIn}
use Rattle.touch_bounds.specs.Ranges.{Bounds}
use Rattle.touch_bounds.specs.Pieces.{AreAllSitesApart}
use Rattle.touch_bounds.proofs.WorkLemmas.{span_reaches}

pub apart_append : (arrays : Arrays) (xs ys : List Site) → AreSitesApart arrays xs → AreSitesApart arrays ys → AreSitesApart arrays (xs ++ ys)
apart_append arrays [] ys first rest = rest
apart_append arrays (x ∷ xs) ys first rest = (first.0, apart_append arrays xs ys first.1 rest)

pub both_apart : (arrays : Arrays) (bounds : Bounds) (first rest : Vars → List Site) → AreAllSitesApart arrays bounds first → AreAllSitesApart arrays bounds rest →
    AreAllSitesApart arrays bounds (λ vars. first vars ++ rest vars)
both_apart arrays bounds first rest h k vars within = apart_append arrays (first vars) (rest vars) (h vars within) (k vars within)

-- ---- the first of the remaining parts, and the others

pub statements_apart : (arrays : Arrays) (bounds : Bounds) (ss : List Stmt) (i : ℕ) (d : Stmt) → i < length ss →
    AreAllSitesApart arrays bounds (statement_sites (statement_of (get_or ss i d))) →
    AreAllSitesApart arrays bounds (sequence_sites (sequence (map statement_of (drop (i + 1) ss)))) →
    AreAllSitesApart arrays bounds (sequence_sites (sequence (map statement_of (drop i ss))))
statements_apart arrays bounds ss i d small first rest =
    subst (λ more. AreAllSitesApart arrays bounds (sequence_sites (sequence (map statement_of more)))) (sym (drop-cons ss i d small))
    (both_apart arrays bounds (statement_sites (statement_of (get_or ss i d))) (sequence_sites (sequence (map statement_of (drop (suc i) ss)))) first
    (subst (λ k. AreAllSitesApart arrays bounds (sequence_sites (sequence (map statement_of (drop k ss))))) (add-one i) rest))

pub branches_apart : (arrays : Arrays) (bounds : Bounds) (bs : List Block) (i : ℕ) (d : Block) → i < length bs →
    AreAllSitesApart arrays bounds (sequence_sites (sequence_of (get_or bs i d))) →
    AreAllSitesApart arrays bounds (branches_sites (sequences (map sequence_of (drop (i + 1) bs)))) →
    AreAllSitesApart arrays bounds (branches_sites (sequences (map sequence_of (drop i bs))))
branches_apart arrays bounds bs i d small first rest =
    subst (λ more. AreAllSitesApart arrays bounds (branches_sites (sequences (map sequence_of more)))) (sym (drop-cons bs i d small))
    (both_apart arrays bounds (sequence_sites (sequence_of (get_or bs i d))) (branches_sites (sequences (map sequence_of (drop (suc i) bs)))) first
    (subst (λ k. AreAllSitesApart arrays bounds (branches_sites (sequences (map sequence_of (drop k bs))))) (add-one i) rest))

pub phases_apart : (arrays : Arrays) (bounds : Bounds) (bs : List Block) (i : ℕ) (d : Block) (var : List ℕ) (low high : ℤ) → i < length bs →
    AreAllSitesApart arrays bounds (loop_sites var low high (sequence_sites (sequence_of (get_or bs i d)))) →
    AreAllSitesApart arrays bounds (phases_sites (sequences (map sequence_of (drop (i + 1) bs))) var low high) →
    AreAllSitesApart arrays bounds (phases_sites (sequences (map sequence_of (drop i bs))) var low high)
phases_apart arrays bounds bs i d var low high small first rest =
    subst (λ more. AreAllSitesApart arrays bounds (phases_sites (sequences (map sequence_of more)) var low high)) (sym (drop-cons bs i d small))
    (both_apart arrays bounds (loop_sites var low high (sequence_sites (sequence_of (get_or bs i d)))) (phases_sites (sequences (map sequence_of (drop (suc i) bs))) var low high) first
    (subst (λ k. AreAllSitesApart arrays bounds (phases_sites (sequences (map sequence_of (drop k bs))) var low high)) (add-one i) rest))

-- ---- loops

turns_apart : (arrays : Arrays) (body : ℤ → List Site) (x : ℤ) (n : ℕ) →
    ((y : ℤ) → x ≤ℤ y → y <ℤ (x +ℤ pos n) → AreSitesApart arrays (body y)) → AreSitesApart arrays (turn_sites body x n)
turns_apart arrays body x zero each = tt
turns_apart arrays body x (suc n) each =
    apart_append arrays (body x) (turn_sites body (x +ℤ pos 1) n) (each x (omega (arith, ints)) (omega (arith, ints)))
    (turns_apart arrays body (x +ℤ pos 1) n (λ y low high. each y (omega (arith, ints)) (omega (arith, ints))))

pub loop_apart : (arrays : Arrays) (bounds : Bounds) (var : List ℕ) (low high : ℤ) (within : Interval) (body : Vars → List Site) → low <ℤ high →
    ((x : ℤ) → low ≤ℤ x → x <ℤ high → LiesIn within x) → AreAllSitesApart arrays ((var, within) ∷ bounds) body → AreAllSitesApart arrays bounds (loop_sites var low high body)
loop_apart arrays bounds var low high within body some lies apart vars inside =
    turns_apart arrays (λ x. body ((var, x) ∷ vars)) low (span low high)
    (λ y from to. apart ((var, y) ∷ vars) (refl, lies y from (span_reaches low high y some to), inside))

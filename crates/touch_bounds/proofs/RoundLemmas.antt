-- Rounds of which each piece is recorded.
use Rattle.std.proofs.Common.{◌≡◌, ℕ, suc, ◌+◌, ◌-◌, ◌<◌, Bool, true, List, [], ◌∷◌, ◌++◌, map, length, drop, get_or, drop-cons, add-one, ℤ, refl, sym, subst, ap, ◌∙◌, arith}
use Rattle.std.specs.Prelude.{◌&&◌, IsTrue}
use Rattle.array_tree.specs.declared.tree.Block.{Block}
use Rattle.array_tree.specs.Trees.{sequence_of, sequences}
use Rattle.array_meaning.specs.Stores.{Arrays, Vars, length_of}
use Rattle.array_meaning.specs.Steps.{Steps}
use Rattle.array_meaning.specs.Work.{Work, sequence_work}
use Rattle.array_meaning.specs.Members.{member_work, member_works}
use Rattle.array_meaning.specs.Sites.{branch_works}
use Rattle.array_meaning.specs.Touch.{Visit, walk}
use Rattle.array_meaning.specs.Accepted.{is_inside, are_inside}
use Rattle.touch_bounds.specs.declared.apart.Piece.{Piece}
use Rattle.touch_bounds.specs.declared.touch.Touch.{Touch}
use Rattle.touch_bounds.specs.Touches.{AreVisitsNoted}
use Rattle.touch_bounds.specs.Pieces.{tables_of, ArePiecesNoted}

tables_push : (pieces : List Piece) (p : Piece) (more : List (List Touch)) → tables_of (pieces ++ p ∷ []) ++ more ≡ tables_of pieces ++ (p.touches.items ∷ more)
tables_push [] p more = refl
tables_push (q ∷ pieces) p more = ap (λ ts. q.touches.items ∷ ts) (tables_push pieces p more)

-- These pieces and any records of the rest are records of all pieces.
abbrev pub Completes : Arrays → List Piece → List Steps → List Steps → Type 0
Completes arrays pieces rest all = (more : List (List Touch)) → ArePiecesNoted arrays more rest → ArePiecesNoted arrays (tables_of pieces ++ more) all

completes_next : (arrays : Arrays) (pieces : List Piece) (p : Piece) (first : Steps) (rest all : List Steps) → Completes arrays pieces (first ∷ rest) all →
    AreVisitsNoted arrays p.touches.items (walk arrays first) → Completes arrays (pieces ++ p ∷ []) rest all
completes_next arrays pieces p first rest all before noted more h =
    subst (λ ts. ArePiecesNoted arrays ts all) (sym (tables_push pieces p more)) (before (p.touches.items ∷ more) (noted, h))

tables_end : (pieces : List Piece) → tables_of pieces ++ [] ≡ tables_of pieces
tables_end [] = refl
tables_end (p ∷ pieces) = ap (λ ts. p.touches.items ∷ ts) (tables_end pieces)

pub completed : (arrays : Arrays) (pieces : List Piece) (all : List Steps) → Completes arrays pieces [] all → ArePiecesNoted arrays (tables_of pieces) all
completed arrays pieces all h = subst (λ ts. ArePiecesNoted arrays ts all) (tables_end pieces) (h [] tt)

-- The branch at index i.
pub branch_next : (arrays : Arrays) (pieces : List Piece) (p : Piece) (bs : List Block) (i : ℕ) (d : Block) (vars : Vars) (all : List Steps) → i < length bs →
    Completes arrays pieces (branch_works (sequences (map sequence_of (drop i bs))) vars) all →
    AreVisitsNoted arrays p.touches.items (walk arrays (sequence_work (sequence_of (get_or bs i d)) vars)) →
    Completes arrays (pieces ++ p ∷ []) (branch_works (sequences (map sequence_of (drop (i + 1) bs))) vars) all
branch_next arrays pieces p bs i d vars all small before noted =
    subst (λ k. Completes arrays (pieces ++ p ∷ []) (branch_works (sequences (map sequence_of (drop k bs))) vars) all) (sym (add-one i))
    (completes_next arrays pieces p (sequence_work (sequence_of (get_or bs i d)) vars) (branch_works (sequences (map sequence_of (drop (suc i) bs))) vars) all
    (subst (λ left. Completes arrays pieces (branch_works (sequences (map sequence_of left)) vars) all) (drop-cons bs i d small) before) noted)

-- Member j.
pub member_next : (arrays : Arrays) (pieces : List Piece) (p : Piece) (var : List ℕ) (low high : ℤ) (m : ℕ) (body : Work) (j : ℕ) (vars : Vars) (all : List Steps) → j < m →
    Completes arrays pieces (member_works var low high m body j (m - j) vars) all →
    AreVisitsNoted arrays p.touches.items (walk arrays (member_work var low high m body j vars)) →
    Completes arrays (pieces ++ p ∷ []) (member_works var low high m body (j + 1) (m - (j + 1)) vars) all
member_next arrays pieces p var low high m body j vars all small before noted =
    let one : m - j ≡ suc (m - (j + 1)) = omega arith in
    completes_next arrays pieces p (member_work var low high m body j vars) (member_works var low high m body (j + 1) (m - (j + 1)) vars) all
    (subst (λ k. Completes arrays pieces (member_works var low high m body j k vars) all) one before) noted

-- Recorded visits are inside their arrays.
pub noted_inside : (arrays : Arrays) (t : List Touch) (vs : List Visit) → AreVisitsNoted arrays t vs → IsTrue (are_inside arrays vs)
noted_inside arrays t [] h = refl
noted_inside arrays t (v ∷ vs) h = both (is_inside (length_of arrays v.array) v.index) (are_inside arrays vs) h.0.reach.inside (noted_inside arrays t vs h.1)
  where
    both : (a b : Bool) → a ≡ true → b ≡ true → (a && b) ≡ true
    both a b e f = ap (λ x. x && b) e ∙ f

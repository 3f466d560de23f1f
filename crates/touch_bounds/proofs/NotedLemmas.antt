-- The recorded stretches of several visits; recording more keeps them.
use Rattle.std.proofs.Common.{ℕ, true, false, List, [], ◌∷◌, ◌++◌}
use Rattle.array_tree.specs.Trees.{Expression, Read, Binary}
use Rattle.array_tree.specs.declared.tree.Op.{Op}
use Rattle.array_meaning.specs.Stores.{Arrays}
use Rattle.array_meaning.specs.Touch.{Visit, visit, reads_in}
use Rattle.array_eval.specs.Layouts.{number_of}
use Rattle.touch_bounds.specs.declared.touch.Touch.{Touch}
use Rattle.touch_bounds.specs.Ranges.{Bounds}
use Rattle.touch_bounds.specs.Touches.{Widens, IsVisitNoted, AreVisitsNoted, IsIndexNoted, AreReadsNoted, IsAssignNoted}

-- ---- recording more keeps what is recorded

pub wider_refl : (touches : List Touch) → Widens touches touches
wider_refl touches = record { kept = λ number writes cell h. h }

pub wider_trans : (a b c : List Touch) → Widens a b → Widens b c → Widens a c
wider_trans a b c p q = record { kept = λ number writes cell h. q.kept number writes cell (p.kept number writes cell h) }

pub visit_wider : (arrays : Arrays) (s t : List Touch) (v : Visit) → Widens s t → IsVisitNoted arrays s v → IsVisitNoted arrays t v
visit_wider arrays s t v w h = record {
  known = h.known;
  reach = record { inside = h.reach.inside; covered = λ cell c. w.kept (number_of arrays v.array) v.writes cell (h.reach.covered cell c) };
}

pub noted_wider : (arrays : Arrays) (s t : List Touch) (vs : List Visit) → Widens s t → AreVisitsNoted arrays s vs → AreVisitsNoted arrays t vs
noted_wider arrays s t [] w h = tt
noted_wider arrays s t (v ∷ vs) w h = (visit_wider arrays s t v w h.0, noted_wider arrays s t vs w h.1)

pub noted_append : (arrays : Arrays) (t : List Touch) (xs ys : List Visit) → AreVisitsNoted arrays t xs → AreVisitsNoted arrays t ys → AreVisitsNoted arrays t (xs ++ ys)
noted_append arrays t [] ys h k = k
noted_append arrays t (v ∷ xs) ys h k = (h.0, noted_append arrays t xs ys h.1 k)

-- ---- the visits of expressions and assignments

pub read_noted : (arrays : Arrays) (s t : List Touch) (bounds : Bounds) (array : List ℕ) (index : Expression) → AreReadsNoted arrays s bounds index → Widens s t →
    IsIndexNoted arrays t bounds false array index → AreReadsNoted arrays t bounds (Read array index)
read_noted arrays s t bounds array index first w here line vars within =
    noted_append arrays t (reads_in arrays line vars index) (visit arrays line false vars array index ∷ [])
    (noted_wider arrays s t (reads_in arrays line vars index) w (first line vars within)) (here line vars within, tt)

pub binary_noted : (arrays : Arrays) (s t : List Touch) (bounds : Bounds) (op : Op) (left right : Expression) → AreReadsNoted arrays s bounds left → Widens s t →
    AreReadsNoted arrays t bounds right → AreReadsNoted arrays t bounds (Binary op left right)
binary_noted arrays s t bounds op left right first w second line vars within =
    noted_append arrays t (reads_in arrays line vars left) (reads_in arrays line vars right)
    (noted_wider arrays s t (reads_in arrays line vars left) w (first line vars within)) (second line vars within)

pub assign_noted : (arrays : Arrays) (r s t : List Touch) (bounds : Bounds) (array : List ℕ) (index value : Expression) → AreReadsNoted arrays r bounds index → Widens r s →
    AreReadsNoted arrays s bounds value → Widens s t → IsIndexNoted arrays t bounds true array index → IsAssignNoted arrays t bounds array index value
assign_noted arrays r s t bounds array index value first u second w target line vars within =
    noted_append arrays t (reads_in arrays line vars index) (reads_in arrays line vars value ++ visit arrays line true vars array index ∷ [])
    (noted_wider arrays r t (reads_in arrays line vars index) (wider_trans r s t u w) (first line vars within))
    (noted_append arrays t (reads_in arrays line vars value) (visit arrays line true vars array index ∷ [])
    (noted_wider arrays s t (reads_in arrays line vars value) w (second line vars within)) (target line vars within, tt))

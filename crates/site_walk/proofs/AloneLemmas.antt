-- Fewer than two pieces overlap on no cell.
use Rattle.std.proofs.Common.{◌≡◌, ℕ, zero, suc, ◌<◌, Bool, true, false, List, [], ◌∷◌, length, map, None, ℤ, refl, arith}
use Rattle.std.specs.Prelude.{◌&&◌, ◌||◌}
use Rattle.array_tree.specs.Trees.{sequences, sequence_of}
use Rattle.array_tree.specs.declared.tree.Block.{Block}
use Rattle.array_meaning.specs.Stores.{Arrays, Vars}
use Rattle.array_meaning.specs.Steps.{Steps}
use Rattle.array_meaning.specs.Work.{Work, sequence_work}
use Rattle.array_meaning.specs.Members.{member_work, team_works}
use Rattle.array_meaning.specs.Touch.{walk}
use Rattle.array_meaning.specs.Overlap.{changed, read, overlaps, overlap}
use Rattle.array_meaning.specs.Sites.{branch_works}
use Rattle.site_walk.proofs.PieceLemmas.{first_none}

none_clash : (w r : Bool) → ((w && (false || false) || r && false) || false) ≡ false
none_clash true true = refl
none_clash true false = refl
none_clash false true = refl
none_clash false false = refl

none_overlap : (arrays : Arrays) (cells : ℕ) → overlap arrays cells [] ≡ None
none_overlap arrays cells = first_none (overlaps arrays false false []) 0 cells (λ c small. refl)

one_overlap : (arrays : Arrays) (cells : ℕ) (piece : Steps) → overlap arrays cells (piece ∷ []) ≡ None
one_overlap arrays cells piece =
    first_none (overlaps arrays false false (piece ∷ [])) 0 cells
    (λ c small. none_clash (changed arrays (walk arrays piece) c) (read arrays (walk arrays piece) c))

pub branches_alone : (arrays : Arrays) (cells : ℕ) (branches : List Block) (vars : Vars) → length branches < 2 →
    overlap arrays cells (branch_works (sequences (map sequence_of branches)) vars) ≡ None
branches_alone arrays cells [] vars few = none_overlap arrays cells
branches_alone arrays cells (b ∷ []) vars few = one_overlap arrays cells (sequence_work (sequence_of b) vars)
branches_alone arrays cells (a ∷ b ∷ more) vars few = absurd (omega arith)

pub members_alone : (arrays : Arrays) (cells : ℕ) (var : List ℕ) (low high : ℤ) (members : ℕ) (body : Work) (vars : Vars) → members < 2 →
    overlap arrays cells (team_works var low high members body vars) ≡ None
members_alone arrays cells var low high zero body vars few = none_overlap arrays cells
members_alone arrays cells var low high (suc zero) body vars few = one_overlap arrays cells (member_work var low high 1 body 0 vars)
members_alone arrays cells var low high (suc (suc more)) body vars few = absurd (omega arith)

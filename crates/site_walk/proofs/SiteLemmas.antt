-- Rounds and pieces in sequence: the first of the remaining ones, and then the others.
use Rattle.std.proofs.Common.{◌≡◌, ℕ, suc, ◌+◌, ◌-◌, ◌<◌, List, [], ◌∷◌, map, length, drop, get_or, drop-cons, add-one, Option, Some, None, false, ℤ, refl, sym, ap, ◌∙◌, arith}
use Rattle.std.specs.Option.{is_some}
use Rattle.std.proofs.lemmas.Bool.{false≢true}
use Rattle.array_tree.specs.declared.tree.Block.{Block}
use Rattle.array_tree.specs.Trees.{sequence_of, sequences}
use Rattle.array_meaning.specs.Stores.{Arrays, Vars, cells_of}
use Rattle.array_meaning.specs.Work.{Work, sequence_work}
use Rattle.array_meaning.specs.Members.{member_work, member_works, team_works}
use Rattle.array_meaning.specs.Overlap.{overlap}
use Rattle.array_meaning.specs.Sites.{branch_works, phase_rounds}
use Rattle.site_walk.specs.declared.fault.WalkFault.{WalkFault}
use Rattle.site_walk.specs.declared.fault.WalkFault.TheVariants.{Overlap}
use Rattle.site_walk.specs.declared.table.Table.{Table}
use Rattle.std.specs.Option.{option_or}
use Rattle.site_walk.specs.FirstOverlap.{cell_fault, rounds_fault}
use Rattle.site_walk.specs.Inside.Marks.{with_piece, with_pieces}
use Rattle.array_meaning.proofs.LastLemmas.{or_assoc, or_none}

pub round_next : (arrays : Arrays) (line : ℕ) (bs : List Block) (i : ℕ) (d : Block) (var : List ℕ) (low high : ℤ) (m : ℕ) (vars : Vars) (s : Option WalkFault) → i < length bs →
    option_or s (rounds_fault arrays line (phase_rounds (sequences (map sequence_of (drop i bs))) var low high m vars))
    ≡ option_or (option_or s (rounds_fault arrays line (team_works var low high m (sequence_work (sequence_of (get_or bs i d))) vars ∷ [])))
    (rounds_fault arrays line (phase_rounds (sequences (map sequence_of (drop (i + 1) bs))) var low high m vars))
round_next arrays line bs i d var low high m vars s h =
    let here = cell_fault line (overlap arrays (cells_of arrays) (team_works var low high m (sequence_work (sequence_of (get_or bs i d))) vars)) in
    let rest = rounds_fault arrays line (phase_rounds (sequences (map sequence_of (drop (suc i) bs))) var low high m vars) in
    ap (λ ps. option_or s (rounds_fault arrays line (phase_rounds (sequences (map sequence_of ps)) var low high m vars))) (drop-cons bs i d h)
    ∙ rw add-one (sym (or_assoc s here rest) ∙ ap (λ f. option_or (option_or s f) rest) (sym (or_none here)))

pub piece_next : (arrays : Arrays) (bs : List Block) (i : ℕ) (d : Block) (vars : Vars) (t : Table) → i < length bs →
    with_pieces arrays i (branch_works (sequences (map sequence_of (drop i bs))) vars) t
    ≡ with_pieces arrays (i + 1) (branch_works (sequences (map sequence_of (drop (i + 1) bs))) vars) (with_piece arrays i (sequence_work (sequence_of (get_or bs i d)) vars) t)
piece_next arrays bs i d vars t h =
    ap (λ rest. with_pieces arrays i (branch_works (sequences (map sequence_of rest)) vars) t) (drop-cons bs i d h)
    ∙ ap (λ k. with_pieces arrays (i + 1) (branch_works (sequences (map sequence_of (drop k bs))) vars) (with_piece arrays i (sequence_work (sequence_of (get_or bs i d)) vars) t)) (sym (add-one i))

pub member_next : (arrays : Arrays) (var : List ℕ) (low high : ℤ) (m : ℕ) (body : Work) (j : ℕ) (vars : Vars) (t : Table) → j < m →
    with_pieces arrays j (member_works var low high m body j (m - j) vars) t
    ≡ with_pieces arrays (j + 1) (member_works var low high m body (j + 1) (m - (j + 1)) vars) (with_piece arrays j (member_work var low high m body j vars) t)
member_next arrays var low high m body j vars t h =
    ap (λ k. with_pieces arrays j (member_works var low high m body j k vars) t) (let e : m - j ≡ suc (m - (j + 1)) = omega arith in e)

-- ---- an earlier overlap, or none

pub keep_cell : (found : Option WalkFault) (line cell : ℕ) (o : Option ℕ) → is_some found ≡ false → o ≡ Some cell →
    Some (Overlap line cell) ≡ option_or found (option_or (cell_fault line o) None)
keep_cell None line cell o h e = sym (ap (λ x. option_or (cell_fault line x) None) e)
keep_cell (Some f) line cell o h e = absurd (false≢true (sym h))

pub keep_none : (found : Option WalkFault) (line : ℕ) (o : Option ℕ) → is_some found ≡ false → o ≡ None →
    found ≡ option_or found (option_or (cell_fault line o) None)
keep_none None line o h e = sym (ap (λ x. option_or (cell_fault line x) None) e)
keep_none (Some f) line o h e = refl

-- The sites of a part are inside the construct around it or inside one another.
use Rattle.std.proofs.Common.{ℕ, zero, suc, ◌+◌, ◌<◌, ◌≤◌, inl, inr, ⊎_elim, List, [], ◌∷◌, ◌++◌, length, refl, arith}
use Rattle.array_tree.specs.Trees.{Statement, Assign, For, If, Par, Team, Sequence, ended, followed, Sequences, no_more, beside}
use Rattle.array_meaning.specs.Work.{span}
use Rattle.array_meaning.specs.Plans.{Parents, and_then, repeated, construct, statement_parents, sequence_parents, branches_parents, phases_parents, AreInside, AreOutside, StayInside}
use Rattle.array_meaning.specs.Laws.{StayInsideParts, LaterPartsAreOutside}

-- Sites that are inside from `first` on are inside from an earlier site on.
inside_wider : (around first wider : ℕ) (ps : List ℕ) → wider ≤ first → AreInside around first ps → AreInside around wider ps
inside_wider around first wider [] le h = tt
inside_wider around first wider (p ∷ ps) le h = (⊎_elim (λ same. inl same) (λ far. inr (omega (arith, far, le))) h.0, inside_wider around first wider ps le h.1)

inside_append : (around first : ℕ) (ps qs : List ℕ) → AreInside around first ps → AreInside around first qs → AreInside around first (ps ++ qs)
inside_append around first [] qs h k = k
inside_append around first (p ∷ ps) qs h k = (h.0, inside_append around first ps qs h.1 k)

-- Sites inside a construct are inside from the construct's own site on.
inside_construct : (around first : ℕ) (ps : List ℕ) → AreInside first (first + 1) ps → AreInside around first ps
inside_construct around first [] h = tt
inside_construct around first (p ∷ ps) h = (⊎_elim (λ same. inr (omega (arith, same))) (λ far. inr (omega (arith, far))) h.0, inside_construct around first ps h.1)

then_inside : (first rest : Parents) → StayInside first → StayInside rest → StayInside (and_then first rest)
then_inside first rest h k around next =
    inside_append around next (first around next) (rest around (next + length (first around next))) (h around next)
    (inside_wider around (next + length (first around next)) next (rest around (next + length (first around next))) (omega arith) (k around (next + length (first around next))))

repeated_inside : (n : ℕ) (body : Parents) → StayInside body → StayInside (repeated n body)
repeated_inside zero body h around next = tt
repeated_inside (suc n) body h around next = then_inside body (repeated n body) h (repeated_inside n body h) around next

construct_inside : (inner : Parents) → StayInside inner → StayInside (construct inner)
construct_inside inner h around next = (inl refl, inside_construct around next (inner next (next + 1)) (h next (next + 1)))

mutual
  statement_inside : (s : Statement) → StayInside (statement_parents s)
  statement_inside (Assign line array index value) around next = tt
  statement_inside (For line var low high body) around next = repeated_inside (span low high) (sequence_parents body) (sequence_inside body) around next
  statement_inside (If line cond then_block else_block) around next =
      then_inside (sequence_parents then_block) (sequence_parents else_block) (sequence_inside then_block) (sequence_inside else_block) around next
  statement_inside (Par line branches) around next = construct_inside (branches_parents branches) (branches_inside branches) around next
  statement_inside (Team line var low high members phases) around next =
      construct_inside (phases_parents phases (span low high)) (phases_inside phases (span low high)) around next

  sequence_inside : (s : Sequence) → StayInside (sequence_parents s)
  sequence_inside ended around next = tt
  sequence_inside (followed first rest) around next = then_inside (statement_parents first) (sequence_parents rest) (statement_inside first) (sequence_inside rest) around next

  branches_inside : (bs : Sequences) → StayInside (branches_parents bs)
  branches_inside no_more around next = tt
  branches_inside (beside first rest) around next = then_inside (sequence_parents first) (branches_parents rest) (sequence_inside first) (branches_inside rest) around next

  phases_inside : (bs : Sequences) (n : ℕ) → StayInside (phases_parents bs n)
  phases_inside no_more n around next = tt
  phases_inside (beside first rest) n around next =
      then_inside (repeated n (sequence_parents first)) (phases_parents rest n) (repeated_inside n (sequence_parents first) (sequence_inside first)) (phases_inside rest n) around next

pub stay_inside_parts : StayInsideParts
stay_inside_parts = record {
  statements = statement_inside;
  sequences = sequence_inside;
  turns = λ n s. repeated_inside n (sequence_parents s) (sequence_inside s);
  branches = branches_inside;
  phases = phases_inside;
}

later_outside : (around first n : ℕ) (ps : List ℕ) → around < first → AreInside around (first + n) ps → AreOutside first n ps
later_outside around first n [] below h = tt
later_outside around first n (p ∷ ps) below h = (⊎_elim (λ same. inl (omega (arith, same, below))) (λ far. inr far) h.0, later_outside around first n ps below h.1)

pub later_parts_are_outside : LaterPartsAreOutside
later_parts_are_outside part stay around first n below = later_outside around first n (part around (first + n)) below (stay around (first + n))

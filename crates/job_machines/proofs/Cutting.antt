-- A part of a plan that is cut in two.
use Rattle.std.proofs.Common.{◌≡◌, ℕ, suc, ◌+◌, inl, inr, ⊎_elim, List, [], ◌∷◌, ◌++◌, length, sym, ap, ◌∙◌, arith, append_assoc, length-append}
use Rattle.transfer_table.specs.Plan.{Plan}
use Rattle.array_meaning.specs.Plans.{AreInside, AreOutside}
use Rattle.array_meaning.proofs.NestingLemmas.{later_parts_are_outside}
use Rattle.entered_laws.specs.Meant.{HasPartFrom}
use Rattle.job_machines.proofs.ParentLemmas.{Cuts}

inside_first : (around s : ℕ) (a b : List ℕ) → AreInside around s (a ++ b) → AreInside around s a
inside_first around s [] b h = tt
inside_first around s (q ∷ a) b h = (h.0, inside_first around s a b h.1)

outside_both : (s n : ℕ) (a b : List ℕ) → AreOutside s n a → AreOutside s n b → AreOutside s n (a ++ b)
outside_both s n [] b h k = k
outside_both s n (q ∷ a) b h k = (h.0, outside_both s n a b h.1 k)

-- A site outside of some sites is outside of the first ones, and of the last ones.
outside_first : (s all n m : ℕ) (ps : List ℕ) → all ≡ n + m → AreOutside s all ps → AreOutside s n ps
outside_first s all n m [] e h = tt
outside_first s all n m (q ∷ ps) e h = (⊎_elim (λ low. inl low) (λ high. inr (omega (arith, e, high))) h.0, outside_first s all n m ps e h.1)

outside_last : (s all n m : ℕ) (ps : List ℕ) → all ≡ n + m → AreOutside s all ps → AreOutside (s + n) m ps
outside_last s all n m [] e h = tt
outside_last s all n m (q ∷ ps) e h = (⊎_elim (λ low. inl (omega (arith, low))) (λ high. inr (omega (arith, e, high))) h.0, outside_last s all n m ps e h.1)

pub part_cuts : (p : Plan) (around : ℕ) → Cuts (HasPartFrom p around) around
part_cuts p around s a f stay has =
    let below = has.below in
    let place = has.place in
    let b = f around (s + length a) in
    let sizes = length-append a b in
    let joined : p.parents ≡ has.before ++ (a ++ (b ++ has.after)) = has.is ∙ ap (λ xs. has.before ++ xs) (append_assoc a b has.after) in
    let front = length-append has.before a in (
      record {
        before = has.before;
        after = b ++ has.after;
        place = place;
        is = joined;
        below = below;
        inside = inside_first around s a b has.inside;
        behind = outside_both s (length a) b has.after (later_parts_are_outside f stay around s (length a) below) (outside_first s (length (a ++ b)) (length a) (length b) has.after sizes has.behind);
      },
      record {
        before = has.before ++ a;
        after = has.after;
        place = omega (arith, front, place);
        is = joined ∙ sym (append_assoc has.before a (b ++ has.after));
        below = omega (arith, below);
        inside = stay around (s + length a);
        behind = outside_last s (length (a ++ b)) (length a) (length b) has.after sizes has.behind;
      },
    )

-- The sites inside a construct are a part inside the construct's site.
pub inside_cut : (p : Plan) (around s : ℕ) (part : List ℕ) → AreInside s (s + 1) part → HasPartFrom p around s (around ∷ part) → HasPartFrom p s (s + 1) part
inside_cut p around s part within has =
    let place = has.place in
    let front = length-append has.before (around ∷ []) in
    record {
      before = has.before ++ (around ∷ []);
      after = has.after;
      place = omega (arith, front, place);
      is = has.is ∙ sym (append_assoc has.before (around ∷ []) (part ++ has.after));
      below = omega arith;
      inside = within;
      behind = outside_last s (suc (length part)) 1 (length part) has.after (omega arith) has.behind;
    }

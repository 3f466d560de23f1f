-- Parts of a plan are spans of its sites.
use Rattle.std.proofs.Common.{◌≡◌, ℕ, zero, suc, ◌+◌, ◌-◌, ◌<◌, ◌≤◌, ◌⊎◌, List, [], ◌∷◌, ◌++◌, length, slice_index, sym, ap, ◌∙◌, arith, length-append, append-nil}
use Rattle.transfer_table.specs.Plan.{Plan, IsSite, parent, site_count}
use Rattle.transfer_table.proofs.AccountEnds.{all_over_is_complete}
use Rattle.array_meaning.specs.Stores.{arrays_of}
use Rattle.array_meaning.specs.Work.{first_store}
use Rattle.array_meaning.specs.Plans.{plan_of, AreInside, AreOutside}
use Rattle.array_meaning.specs.Entered.{entered_of}
use Rattle.array_meaning.proofs.EnteredLemmas as entered
use Rattle.array_meaning.proofs.PlanLemmas as plans
use Rattle.array_meaning.proofs.NestingLemmas.{stay_inside_parts}
use Rattle.entered_laws.specs.Meant.{HasPartFrom, PartsAreSpans, ProgramsAreParts, EnteredIsComplete, EverySiteHasAFlag}

-- An index behind a list.
at_right : (xs ys : List ℕ) (i : ℕ) → slice_index (xs ++ ys) (length xs + i) ≡ slice_index ys i
at_right [] ys i = let z : 0 + i ≡ i = omega arith in ap (slice_index ys) z
at_right (x ∷ xs) ys i = let z : suc (length xs) + i ≡ suc (length xs + i) = omega arith in ap (slice_index (x ∷ (xs ++ ys))) z ∙ at_right xs ys i

inside_at : (around s : ℕ) (part after : List ℕ) (i : ℕ) → i < length part → AreInside around s part
    → (slice_index (part ++ after) i ≡ around) ⊎ (s ≤ slice_index (part ++ after) i)
inside_at around s [] after i small h = absurd (omega (arith, small))
inside_at around s (q ∷ part) after zero small h = h.0
inside_at around s (q ∷ part) after (suc i) small h = inside_at around s part after i (omega (arith, small)) h.1

outside_at : (s n : ℕ) (after : List ℕ) (i : ℕ) → i < length after → AreOutside s n after → (slice_index after i < s) ⊎ (s + n ≤ slice_index after i)
outside_at s n [] i small h = absurd (omega (arith, small))
outside_at s n (q ∷ after) zero small h = h.0
outside_at s n (q ∷ after) (suc i) small h = outside_at s n after i (omega (arith, small)) h.1

module _ (p : Plan) (around s : ℕ) (part : List ℕ) (has : HasPartFrom p around s part) where
  sizes : site_count p ≡ length has.before + (length part + length has.after)
  sizes = ap length has.is ∙ length-append has.before (part ++ has.after) ∙ ap (λ n. length has.before + n) (length-append part has.after)

  -- The parent of the site at index i from s on.
  parent_at : (x i : ℕ) → x ≡ s + i → parent p x ≡ slice_index (part ++ has.after) i
  parent_at x i e =
      let place = has.place in
      let z : x - 1 ≡ length has.before + i = omega (arith, e, place) in
      ap (slice_index p.parents) z ∙ ap (λ ps. slice_index ps (length has.before + i)) has.is ∙ at_right has.before (part ++ has.after) i

  within : (x : ℕ) → s ≤ x → x < s + length part → IsSite p x × ((parent p x ≡ around) ⊎ (s ≤ parent p x))
  within x low high =
      let place = has.place in
      let all = sizes in
      let e : x ≡ s + (x - s) = omega (arith, low) in
      let there = inside_at around s part has.after (x - s) (omega (arith, low, high)) has.inside in
      ((omega (arith, low, place), omega (arith, high, place, all)), rw (parent_at x (x - s) e) there)

  later : (x : ℕ) → IsSite p x → s + length part ≤ x → (parent p x < s) ⊎ (s + length part ≤ parent p x)
  later x site far =
      let place = has.place in
      let all = sizes in
      let top = site.1 in
      let i = x - (s + length part) in
      let e : x ≡ s + (length part + i) = omega (arith, far) in
      let there = outside_at s (length part) has.after i (omega (arith, far, place, all, top)) has.behind in
      rw (parent_at x (length part + i) e, at_right part has.after i) there

pub parts_are_spans : PartsAreSpans
parts_are_spans p around s part has = record { below = has.below; inside = within p around s part has; behind = later p around s part has }

pub programs_are_parts : ProgramsAreParts
programs_are_parts program p is = record {
  before = [];
  after = [];
  place = omega arith;
  is = is ∙ sym (append-nil (plan_of program));
  below = omega arith;
  inside = stay_inside_parts.sequences program.body 0 1;
  behind = tt;
}

pub every_site_has_a_flag : EverySiteHasAFlag
every_site_has_a_flag program p is =
    let arrays = arrays_of program.arrays in
    entered.sequence_length arrays program.body [] (first_store arrays) ∙ sym (plans.sequence_length program.body 0 1) ∙ sym (ap length is)

pub entered_is_complete : EnteredIsComplete
entered_is_complete program p es t is plan leads over = all_over_is_complete p (entered_of program) es t plan leads (every_site_has_a_flag program p is) over

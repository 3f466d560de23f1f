-- A program fails none of the conditions iff it is accepted.
use Rattle.std.proofs.Common.{◌≡◌, ℕ, true, List, [], ◌∷◌, Option, Some, None, refl, sym, ap, ◌∙◌}
use Rattle.std.specs.Option.{option_map}
use Rattle.array_tree.specs.Trees.{ProgramTree}
use Rattle.array_meaning.specs.Stores.{AreSized, arrays_of}
use Rattle.array_meaning.specs.Work.{sequence_work}
use Rattle.array_meaning.specs.Touch.{walk}
use Rattle.array_meaning.specs.Accepted.{has_indices_inside}
use Rattle.site_walk.specs.declared.fault.WalkFault.{WalkFault}
use Rattle.std.specs.Option.{option_or}
use Rattle.site_walk.specs.Outside.{out_of_range_of}
use Rattle.site_walk.specs.FirstOverlap.{overlap_of, walk_fault_of}
use Rattle.site_walk.proofs.OutsideLemmas.{inside_of_none, none_of_inside}
use Rattle.site_walk.proofs.ApartLemmas.{apart_of_none, none_of_apart}
use Rattle.disjoint_check.specs.declared.fault.CheckFault.{CheckFault}
use Rattle.disjoint_check.specs.Faults.{first_fault}
use Rattle.disjoint_check.specs.LimitFault.{limit_fault_of}
use Rattle.disjoint_check.specs.FaultOf.{of_walk, meaning_fault_of, check_fault_of}
use Rattle.disjoint_check.specs.Meaning.{HasMeaningFor, IsAcceptedFor}
use Rattle.disjoint_check.proofs.Conditions.{limits_from, limits_to, limits_of, sized_from}

-- The walk's fault is the first of its two faults.
either_of_walk : (a b : Option WalkFault) → first_fault (option_map of_walk a ∷ option_map of_walk b ∷ []) ≡ option_map of_walk (option_or a b)
either_of_walk None None = refl
either_of_walk None (Some g) = refl
either_of_walk (Some f) b = refl

none_first : (a b : Option WalkFault) → option_or a b ≡ None → (a ≡ None) × (b ≡ None)
none_first None b h = (refl, h)
none_first (Some f) b h = cc

none_both : (a b : Option WalkFault) → a ≡ None → b ≡ None → option_or a b ≡ None
none_both a b h k = ap (λ o. option_or o b) h ∙ k

none_of_walk : (o : Option WalkFault) → option_map of_walk o ≡ None → o ≡ None
none_of_walk None h = refl
none_of_walk (Some f) h = cc

after_limits : (limit : Option CheckFault) (a b : Option WalkFault) → limit ≡ None →
    first_fault (limit ∷ option_map of_walk a ∷ option_map of_walk b ∷ []) ≡ option_map of_walk (option_or a b)
after_limits limit a b h = ap (λ o. first_fault (o ∷ option_map of_walk a ∷ option_map of_walk b ∷ [])) h ∙ either_of_walk a b

no_limit : (limit : Option CheckFault) (more : List (Option CheckFault)) → first_fault (limit ∷ more) ≡ None → limit ≡ None
no_limit None more h = refl
no_limit (Some f) more h = cc

-- A failed condition on names, ranges or size is reported first.
pub limit_is_first : (program : ProgramTree) (harts : ℕ) (why : CheckFault) → limit_fault_of program harts ≡ Some why → check_fault_of program harts ≡ Some why
limit_is_first program harts why h = ap (λ o. first_fault (o ∷ option_map of_walk (out_of_range_of program) ∷ option_map of_walk (overlap_of program) ∷ [])) h

pub limit_before_meaning : (program : ProgramTree) (harts : ℕ) (why : CheckFault) → limit_fault_of program harts ≡ Some why → meaning_fault_of program harts ≡ Some why
limit_before_meaning program harts why h = ap (λ o. first_fault (o ∷ option_map of_walk (out_of_range_of program) ∷ [])) h

-- If these conditions hold, the walk's fault is reported.
pub walk_is_next : (program : ProgramTree) (harts : ℕ) (f : WalkFault) → limit_fault_of program harts ≡ None → walk_fault_of program ≡ Some f → check_fault_of program harts ≡ Some (of_walk f)
walk_is_next program harts f none h =
    after_limits (limit_fault_of program harts) (out_of_range_of program) (overlap_of program) none ∙ ap (option_map of_walk) h

meaning_after_limits : (limit : Option CheckFault) (a : Option WalkFault) → limit ≡ None → first_fault (limit ∷ option_map of_walk a ∷ []) ≡ option_map of_walk a
meaning_after_limits limit None h = ap (λ o. first_fault (o ∷ None ∷ [])) h
meaning_after_limits limit (Some f) h = ap (λ o. first_fault (o ∷ Some (of_walk f) ∷ [])) h

pub index_is_next : (program : ProgramTree) (harts : ℕ) (f : WalkFault) → limit_fault_of program harts ≡ None → out_of_range_of program ≡ Some f → meaning_fault_of program harts ≡ Some (of_walk f)
index_is_next program harts f none h = meaning_after_limits (limit_fault_of program harts) (out_of_range_of program) none ∙ ap (option_map of_walk) h

-- A program within the limits can be walked through.
pub sized : (program : ProgramTree) (harts : ℕ) → limit_fault_of program harts ≡ None → AreSized (arrays_of program.arrays)
sized program harts none = sized_from program (limits_from program harts none).ranges

indices_from : (program : ProgramTree) → out_of_range_of program ≡ None → has_indices_inside program ≡ true
indices_from program h = inside_of_none (arrays_of program.arrays) (walk (arrays_of program.arrays) (sequence_work program.body [])) h

pub meaning_from : (program : ProgramTree) (harts : ℕ) → limit_fault_of program harts ≡ None → out_of_range_of program ≡ None → HasMeaningFor program harts
meaning_from program harts none inside = record { limits = limits_from program harts none; indices = indices_from program inside }

pub meaning_of_none : (program : ProgramTree) (harts : ℕ) → meaning_fault_of program harts ≡ None → HasMeaningFor program harts
meaning_of_none program harts h =
    let none = no_limit (limit_fault_of program harts) (option_map of_walk (out_of_range_of program) ∷ []) h in
    meaning_from program harts none
    (none_of_walk (out_of_range_of program) (sym (meaning_after_limits (limit_fault_of program harts) (out_of_range_of program) none) ∙ h))

pub none_of_meaning : (program : ProgramTree) (harts : ℕ) → HasMeaningFor program harts → meaning_fault_of program harts ≡ None
none_of_meaning program harts m =
    let arrays = arrays_of program.arrays in
    meaning_after_limits (limit_fault_of program harts) (out_of_range_of program) (limits_to program harts m.limits)
    ∙ ap (option_map of_walk) (none_of_inside arrays (walk arrays (sequence_work program.body [])) m.indices)

pub accepted_from : (program : ProgramTree) (harts : ℕ) → limit_fault_of program harts ≡ None → walk_fault_of program ≡ None → IsAcceptedFor program harts
accepted_from program harts none walked =
    let m = limits_from program harts none in
    let both = none_first (out_of_range_of program) (overlap_of program) walked in
    let inside = indices_from program both.0 in
    record {
      accepted = record {
        single_names = m.single_names;
        known_names = m.known_names;
        ranges = m.ranges;
        levels = m.levels;
        work = m.work;
        sites = m.sites;
        pieces = m.pieces;
        indices = inside;
        apart = apart_of_none program m.known_names inside both.1;
      };
      entries = m.entries;
    }

pub accepted_of_none : (program : ProgramTree) (harts : ℕ) → check_fault_of program harts ≡ None → IsAcceptedFor program harts
accepted_of_none program harts h =
    let none = no_limit (limit_fault_of program harts) (option_map of_walk (out_of_range_of program) ∷ option_map of_walk (overlap_of program) ∷ []) h in
    accepted_from program harts none
    (none_of_walk (walk_fault_of program) (sym (after_limits (limit_fault_of program harts) (out_of_range_of program) (overlap_of program) none) ∙ h))

pub none_of_accepted : (program : ProgramTree) (harts : ℕ) → IsAcceptedFor program harts → check_fault_of program harts ≡ None
none_of_accepted program harts a =
    let arrays = arrays_of program.arrays in
    let none = limits_to program harts (limits_of a.accepted a.entries) in
    after_limits (limit_fault_of program harts) (out_of_range_of program) (overlap_of program) none
    ∙ ap (option_map of_walk)
    (none_both (out_of_range_of program) (overlap_of program) (none_of_inside arrays (walk arrays (sequence_work program.body [])) a.accepted.indices)
    (none_of_apart program a.accepted.apart))

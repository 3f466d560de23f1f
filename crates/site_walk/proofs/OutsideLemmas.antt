-- A walk without a fault has its indexes inside, and the reverse.
use Rattle.std.proofs.Common.{◌≡◌, List, [], ◌∷◌, Bool, true, false, ℤ, Option, Some, None, refl}
use Rattle.std.specs.Prelude.{◌&&◌, if◌then◌else◌}
use Rattle.array_meaning.specs.Stores.{Arrays, length_of}
use Rattle.array_meaning.specs.Touch.{Visit}
use Rattle.site_walk.specs.declared.fault.WalkFault.{WalkFault}
use Rattle.array_meaning.specs.Accepted.{is_inside, are_inside}
use Rattle.site_walk.specs.declared.fault.WalkFault.TheVariants.{OutOfRange}
use Rattle.std.specs.Option.{option_or}
use Rattle.site_walk.specs.Firsts.{first_of}
use Rattle.site_walk.specs.Outside.{index_fault, visit_fault}

pub inside_of_none : (arrays : Arrays) (vs : List Visit) → first_of (visit_fault arrays) vs ≡ None → are_inside arrays vs ≡ true
inside_of_none arrays [] h = refl
inside_of_none arrays (v ∷ vs) h = cases v.index (inside_of_none arrays vs) h
  where
    test : (b : Bool) (f : WalkFault) → (first_of (visit_fault arrays) vs ≡ None → are_inside arrays vs ≡ true) →
        option_or (if b then None else Some f) (first_of (visit_fault arrays) vs) ≡ None → (b && are_inside arrays vs) ≡ true
    test true f rest h = rest h
    test false f rest h = absurd (cc)

    cases : (index : Option ℤ) → (first_of (visit_fault arrays) vs ≡ None → are_inside arrays vs ≡ true) →
        option_or (index_fault v.line (length_of arrays v.array) index) (first_of (visit_fault arrays) vs) ≡ None →
        (is_inside (length_of arrays v.array) index && are_inside arrays vs) ≡ true
    cases None rest h = rest h
    cases (Some i) rest h = test (is_inside (length_of arrays v.array) (Some i)) (OutOfRange v.line i (length_of arrays v.array)) rest h

pub none_of_inside : (arrays : Arrays) (vs : List Visit) → are_inside arrays vs ≡ true → first_of (visit_fault arrays) vs ≡ None
none_of_inside arrays [] h = refl
none_of_inside arrays (v ∷ vs) h = cases v.index (none_of_inside arrays vs) h
  where
    test : (b : Bool) (f : WalkFault) → (are_inside arrays vs ≡ true → first_of (visit_fault arrays) vs ≡ None) →
        (b && are_inside arrays vs) ≡ true → option_or (if b then None else Some f) (first_of (visit_fault arrays) vs) ≡ None
    test true f rest h = rest h
    test false f rest h = absurd (cc)

    cases : (index : Option ℤ) → (are_inside arrays vs ≡ true → first_of (visit_fault arrays) vs ≡ None) →
        (is_inside (length_of arrays v.array) index && are_inside arrays vs) ≡ true →
        option_or (index_fault v.line (length_of arrays v.array) index) (first_of (visit_fault arrays) vs) ≡ None
    cases None rest h = rest h
    cases (Some i) rest h = test (is_inside (length_of arrays v.array) (Some i)) (OutOfRange v.line i (length_of arrays v.array)) rest h

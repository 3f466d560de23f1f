-- The first of several faults.
use Rattle.std.specs.Prelude.{Bool, true, false, List, [], ◌∷◌, Option, Some, None}

-- The fault unless the test holds.
abbrev pub unless : {A : Type 0} → Bool → A → Option A
unless true fault = None
unless false fault = Some fault

-- The first of several faults, if there is one.
abbrev pub first_fault : {A : Type 0} → List (Option A) → Option A
first_fault [] = None
first_fault (None ∷ more) = first_fault more
first_fault (Some fault ∷ more) = Some fault

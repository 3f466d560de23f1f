-- The first of a list of possible causes.
use Rattle.std.specs.Prelude.{Bool, true, false, List, [], ◌∷◌, Option, Some, None}

-- The cause if the test holds; else nothing.
abbrev pub cause_if : {A : Type 0} → Bool → A → Option A
cause_if true a = Some a
cause_if false a = None

-- The first cause in the list, if there is one.
abbrev pub first_cause : {A : Type 0} → List (Option A) → Option A
first_cause [] = None
first_cause (None ∷ cs) = first_cause cs
first_cause (Some a ∷ cs) = Some a

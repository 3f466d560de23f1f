-- What the absence of a cause means.
use Rattle.std.proofs.Common.{◌≡◌, Bool, true, false, List, ◌∷◌, Option, Some, None, refl}
use Rattle.std.specs.Option.{option_map}
use Rattle.transfer_table.specs.Causes.{cause_if, first_cause}

-- The first test fails, and there is no other cause.
pub unmet : {A : Type 0} (b : Bool) (a : A) (cs : List (Option A)) → first_cause (cause_if b a ∷ cs) ≡ None → (b ≡ false) × (first_cause cs ≡ None)
unmet true a cs e = absurd (cc)
unmet false a cs e = (refl, e)

-- The first scan finds nothing, and there is no other cause.
pub unfound : {A B : Type 0} (o : Option B) (f : B → A) (cs : List (Option A)) → first_cause (option_map f o ∷ cs) ≡ None → (o ≡ None) × (first_cause cs ≡ None)
unfound (Some b) f cs e = absurd (cc)
unfound None f cs e = (refl, e)

-- Counts of refusals, which rise up to the last value of their type.
use Rattle.std.specs.Prelude.{◌≡◌, ℕ, ◌<◌, ◌-◌, ◌^◌, ◌⊎◌, Result, Ok, Err}
use Rattle.hart_port.specs.declared.port.Entered.{Entered}
use Rattle.hart_port.specs.declared.port.Entered.TheVariants.{Inside, NotWanted, Moved}

-- The count has risen, or stays at its last value.
abbrev pub Rose : ℕ → ℕ → Type 0
Rose before after = (before < after) ⊎ ((before ≡ 2 ^ 64 - 1) × (after ≡ before))

-- The count of refusals rose if the call was refused, and is unchanged otherwise.
abbrev pub RoseIfErr : {A E : Type 0} → Result A E → ℕ → ℕ → Type 0
RoseIfErr (Ok done) before after = after ≡ before
RoseIfErr (Err why) before after = Rose before after

-- The count of refusals rose unless the hart is inside: any other result of a try to enter is a refusal.
abbrev pub RoseUnlessInside : Entered → ℕ → ℕ → Type 0
RoseUnlessInside Inside before after = after ≡ before
RoseUnlessInside (NotWanted shown) before after = Rose before after
RoseUnlessInside (Moved read found) before after = Rose before after

-- The steps of a machine.
use Rattle.std.specs.Prelude.{ℕ, ℤ, List, ◌<◌}
use Rattle.contexts.specs.declared.machine.Step.{Step}
use Rattle.contexts.specs.declared.machine.Step.TheVariants.{More, Nest, Finished, NoMemory}
use Rattle.hart_work.specs.declared.found.Found.{Found}
use Rattle.hart_work.specs.declared.found.Found.TheVariants as found

-- The number of remaining steps falls with each step that goes on, and the job is unchanged. Then the machine is ready for a
-- step, or awaits the writes of the construct that it handed out.
abbrev pub Goes : {N : Type 0} → (N → List (ℕ × ℤ)) → Step (Found N) → ℕ → ℕ → Type 0
    → (List (ℕ × ℤ) → Type 0) → Type 0 → Type 0
Goes writes More before after ready awaits same = (after < before) × ready × same
Goes writes (Nest (found.Nest nested)) before after ready awaits same =
    (after < before) × awaits (writes nested) × same
Goes writes (Nest (found.Pass first end)) before after ready awaits same =
    (after < before) × ready × same
Goes writes Finished before after ready awaits same = same
Goes writes NoMemory before after ready awaits same = Unit {0}

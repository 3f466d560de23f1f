-- The work that a machine has left, and what a step does to it.
use Rattle.std.specs.Prelude.{◌≡◌, ℕ, ℤ, ◌<◌, List, [], ◌++◌, Bool, false}
use Rattle.contexts.specs.declared.machine.Step.{Step}
use Rattle.contexts.specs.declared.machine.Step.TheVariants.{More, Nest, Finished, NoMemory}

-- The work that a machine has left.
pub record Work : Type 0 where
  -- What is still to be written: pairs of a cell and a value, in order.
  pub rest : List (ℕ × ℤ)
  -- Whether a nested piece of work still waits for its writes.
  pub awaits : Bool
  -- A number that falls with each step that leaves work, and is 0 exactly if a step returns Finished, so NoMemory comes only
  -- before.
  pub left : ℕ

-- More: the step may write the first of what was still to be written, the machine waits for nothing, and `left` falls. Nest:
-- the step writes nothing, `left` falls, and the machine may wait for the writes. Finished: exactly if `left` is 0, and it
-- stays so. NoMemory: no statement.
abbrev pub Steps : {N : Type 0} → Work → Step N → Work → Type 0
Steps before More after =
    ((written : List (ℕ × ℤ)) × (before.rest ≡ written ++ after.rest)) × (after.awaits ≡ false)
    × (after.left < before.left)
Steps before (Nest nested) after = (after.rest ≡ before.rest) × (after.left < before.left)
Steps before Finished after = (before.left ≡ 0) × (before.rest ≡ []) × (after ≡ before)
Steps before NoMemory after = 0 < before.left

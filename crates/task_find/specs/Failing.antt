-- The error of a range of a search.
use Rattle.std.specs.Prelude.{◌≡◌, ℕ, Bool, List}
use Rattle.task_find.specs.Passing.{FirstPass}
use Rattle.task_find.specs.declared.find.Found.{Found}
use Rattle.task_find.specs.declared.find.Found.TheVariants.{At}

-- The error has the index of the range's first element that passes.
abbrev pub FailsRange : {A : Type 0} → (A → Bool) → List A → ℕ → ℕ → Found → Type 0
FailsRange passes xs low high error = (index : ℕ) × (error ≡ At index) × FirstPass passes xs low high index

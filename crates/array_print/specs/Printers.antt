-- Texts that grow.
use Rattle.std.specs.Prelude.{◌≡◌, ℕ, List, ◌++◌}
use Rattle.array_print.specs.declared.printer.Printer.{Printer}

-- The text grew by this one, and the margin is unchanged.
pub record Adds (before : Printer) (added : List ℕ) (after : Printer) : Type 0 where
  pub text : after.text.items ≡ before.text.items ++ added
  pub margin : after.margin.items ≡ before.margin.items

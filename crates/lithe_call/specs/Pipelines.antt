-- Programs whose members may overtake: they are accepted, and at none of their sites do two pieces cross.
use Rattle.std.specs.Prelude.{ℕ, ◌≤◌, List, length}
use Rattle.array_tree.specs.Trees.{ProgramTree}
use Rattle.array_lang.specs.Spelled.{Spells}
use Rattle.array_meaning.specs.Bounds.{most_bytes}
use Rattle.disjoint_check.specs.Meaning.{IsAcceptedFor}
use Rattle.phase_order.specs.Crossings.{HasNoCrossings}

-- The program is accepted for so many harts, and no two of its pieces cross.
pub record IsPiped (harts : ℕ) (program : ProgramTree) : Type 0 where
  pub accepted : IsAcceptedFor program harts
  pub uncrossed : HasNoCrossings program

-- These bytes spell a program that may be piped by so many harts.
pub record SpellPiped (harts : ℕ) (bytes : List ℕ) (program : ProgramTree) : Type 0 where
  pub short : length bytes ≤ most_bytes
  pub spelled : Spells bytes program
  pub piped : IsPiped harts program

-- Programs that are tallied: branches and members may add into one cell of an array whose name ends in `_sum`. Such a program
-- has a meaning of its own, and runs as the program in which each branch or member adds into a row of its own.
use Rattle.std.specs.Prelude.{◌≡◌, ℕ, ◌≤◌, List, length, None}
use Rattle.array_tree.specs.Trees.{ProgramTree}
use Rattle.array_lang.specs.Spelled.{Spells}
use Rattle.array_meaning.specs.Bounds.{most_bytes}
use Rattle.disjoint_check.specs.Meaning.{HasMeaningFor, IsAcceptedFor}
use Rattle.spread_laws.specs.Faults.{spread_fault_of}
use Rattle.spread_laws.specs.Spread.{spread_of}

-- A program may be tallied by so many harts if it meets all conditions but that its pieces are apart, its adds can have rows,
-- and the program with rows is accepted.
pub record IsTallied (harts : ℕ) (program : ProgramTree) : Type 0 where
  pub meaning : HasMeaningFor program harts
  pub shaped : spread_fault_of program ≡ None
  pub accepted : IsAcceptedFor (spread_of program) harts

-- These bytes spell a program that may be tallied by so many harts.
pub record SpellTallied (harts : ℕ) (bytes : List ℕ) (program : ProgramTree) : Type 0 where
  pub short : length bytes ≤ most_bytes
  pub spelled : Spells bytes program
  pub tallied : IsTallied harts program

-- The meaning of a check that finds no fault.
use Rattle.std.specs.Prelude.{◌≡◌, ◌↔◌, ℕ, None, IsTrue}
use Rattle.array_tree.specs.Trees.{ProgramTree}
use Rattle.array_meaning.specs.Names.{has_single_names, has_only_known_names}
use Rattle.array_meaning.specs.Limits.{is_in_range}
use Rattle.disjoint_check.specs.FirstNames.{duplicate_name, unknown_name}
use Rattle.disjoint_check.specs.FirstRanges.{range_fault}
use Rattle.disjoint_check.specs.LimitFault.{limit_fault_of, MeetsLimits}
use Rattle.disjoint_check.specs.FaultOf.{meaning_fault_of, check_fault_of}
use Rattle.disjoint_check.specs.Meaning.{HasMeaningFor, IsAcceptedFor}

-- The search for a failed condition finds nothing exactly if the program meets the condition.
pub record IsTested (program : ProgramTree) : Type 0 where
  pub single_names : (duplicate_name program ≡ None) ↔ IsTrue (has_single_names program)
  pub known_names : (unknown_name program ≡ None) ↔ IsTrue (has_only_known_names program)
  pub ranges : (range_fault program ≡ None) ↔ IsTrue (is_in_range program)
  pub limits : (harts : ℕ) → (limit_fault_of program harts ≡ None) ↔ MeetsLimits program harts

-- The tests of the conditions decide them, for each program.
abbrev pub AreConditionsTested : Type 0
AreConditionsTested = (program : ProgramTree) → IsTested program

-- A program fails none of the conditions exactly if it has a meaning, or if it is accepted.
pub record IsChecked (program : ProgramTree) (harts : ℕ) : Type 0 where
  pub meaning : (meaning_fault_of program harts ≡ None) ↔ HasMeaningFor program harts
  pub accepted : (check_fault_of program harts ≡ None) ↔ IsAcceptedFor program harts

-- The check finds each failed condition, for each program and number of harts.
abbrev pub AreConditionsChecked : Type 0
AreConditionsChecked = (program : ProgramTree) (harts : ℕ) → IsChecked program harts

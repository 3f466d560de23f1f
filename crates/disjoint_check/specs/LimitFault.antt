-- The first condition that a program fails, and its fault.
use Rattle.std.specs.Prelude.{ℕ, ◌-◌, ◌*◌, ◌^◌, ◌≤◌, IsTrue, ◌&&◌, min, [], ◌∷◌, Option, nat_le}
use Rattle.std.specs.Option.{option_map}
use Rattle.transfer_table.specs.Plan.{most_entries}
use Rattle.array_tree.specs.Trees.{ProgramTree}
use Rattle.array_meaning.specs.Bounds.{most_depth, most_units, most_sites, most_pieces}
use Rattle.array_meaning.specs.Names.{has_single_names, has_only_known_names}
use Rattle.array_meaning.specs.Limits.{is_in_range, depth_of, units_of, pieces_in}
use Rattle.array_meaning.specs.Plans.{sites_in}
use Rattle.site_counts.specs.Capped.{capped}
use Rattle.disjoint_check.specs.Faults.{unless, first_fault}
use Rattle.disjoint_check.specs.FirstNames.{duplicate_name, unknown_name}
use Rattle.disjoint_check.specs.FirstRanges.{range_fault}
use Rattle.disjoint_check.specs.declared.fault.CheckFault.{CheckFault}
use Rattle.disjoint_check.specs.declared.fault.CheckFault.TheVariants.{DuplicateName, UnknownName, TooDeep, TooMuchWork, TooManySites, TooManyPieces}

-- The greatest depth as it is reported: at most the greatest number of 32 bits.
abbrev pub clamped_depth : ℕ → ℕ
clamped_depth depth = min depth (2 ^ 32 - 1)

-- The number of entries that the journal of a run with so many sites and harts may have.
abbrev pub room_for : ℕ → ℕ → ℕ
room_for sites harts = sites * (3 * harts - 1)

-- The first of the conditions on names, ranges and size that fails, for so many harts.
abbrev pub limit_fault_of : ProgramTree → ℕ → Option CheckFault
limit_fault_of program harts = first_fault
    (option_map DuplicateName (duplicate_name program)
    ∷ option_map UnknownName (unknown_name program)
    ∷ range_fault program
    ∷ unless (nat_le (depth_of program.body) most_depth)
    (TooDeep (clamped_depth (depth_of program.body)))
    ∷ unless (nat_le (units_of program.body) most_units)
    (TooMuchWork (capped (units_of program.body)))
    ∷ unless (nat_le (sites_in program.body) most_sites
    && nat_le (room_for (sites_in program.body) harts) most_entries)
    (TooManySites (capped (sites_in program.body)))
    ∷ unless (nat_le (pieces_in program.body) most_pieces)
    (TooManyPieces (capped (pieces_in program.body)))
    ∷ [])

-- The conditions on names, ranges and size. For up to five harts, the limit on sites implies that the journal's entries have
-- room.
pub record MeetsLimits (program : ProgramTree) (harts : ℕ) : Type 0 where
  pub single_names : IsTrue (has_single_names program)
  pub known_names : IsTrue (has_only_known_names program)
  pub ranges : IsTrue (is_in_range program)
  pub levels : depth_of program.body ≤ most_depth
  pub work : units_of program.body ≤ most_units
  pub sites : sites_in program.body ≤ most_sites
  pub pieces : pieces_in program.body ≤ most_pieces
  pub entries : room_for (sites_in program.body) harts ≤ most_entries

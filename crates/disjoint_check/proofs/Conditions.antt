-- There is no fault of names, ranges and size iff these conditions hold.
use Rattle.std.proofs.Common.{◌≡◌, ◌<◌, ◌≤◌, ℕ, ℤ, pos, negsuc, Bool, true, ◌&&◌, List, [], ◌∷◌, length, Option, None, refl, sym, ◌∙◌, arith, nat_le, unsigned_abs}
use Rattle.std.specs.Option.{option_map}
use Rattle.std.proofs.lemmas.Bool.{and_parts, and_from}
use Rattle.std.proofs.lemmas.Bool.Decides.{nat_tests}
use Rattle.std.proofs.lemmas.Int.{ints}
use Rattle.array_tree.specs.Trees.{ProgramTree, Declaration}
use Rattle.array_meaning.specs.Accepted.{IsAccepted}
use Rattle.array_meaning.specs.Stores.{arrays_of, cells_of, HaveCells, AreSized}
use Rattle.array_meaning.specs.Limits.{is_up_to, have_right_lengths, has_right_ranges, is_in_range, depth_of, units_of, pieces_in}
use Rattle.array_meaning.specs.Plans.{sites_in}
use Rattle.disjoint_check.specs.declared.fault.CheckFault.{CheckFault}
use Rattle.disjoint_check.specs.declared.fault.CheckFault.TheVariants.{DuplicateName, UnknownName, TooDeep, TooMuchWork, TooManySites, TooManyPieces}
use Rattle.disjoint_check.specs.Faults.{unless, first_fault}
use Rattle.disjoint_check.specs.FirstNames.{duplicate_name, unknown_name}
use Rattle.disjoint_check.specs.FirstRanges.{range_fault}
use Rattle.site_counts.specs.Capped.{capped}
use Rattle.disjoint_check.specs.LimitFault.{clamped_depth, room_for, limit_fault_of, MeetsLimits}
use Rattle.disjoint_check.proofs.Firsts.{is_none, none_from, to_none, none_cons, none_map, none_unless}
use Rattle.disjoint_check.proofs.NameLaws.{single_names, only_known_names}
use Rattle.disjoint_check.proofs.RangeLaws.{in_range}

apart : {A : Type 0} (o : Option A) (more : List (Option A)) → is_none (first_fault (o ∷ more)) ≡ true →
    (is_none o ≡ true) × (is_none (first_fault more) ≡ true)
apart o more h = and_parts (is_none o) (is_none (first_fault more)) (sym (none_cons o more) ∙ h)

along : {A : Type 0} (o : Option A) (more : List (Option A)) → is_none o ≡ true → is_none (first_fault more) ≡ true →
    is_none (first_fault (o ∷ more)) ≡ true
along o more h k = none_cons o more ∙ and_from (is_none o) (is_none (first_fault more)) h k

true_le : (a b : ℕ) → nat_le a b ≡ true → a ≤ b
true_le a b h = grind (arith, nat_tests)

le_true : (a b : ℕ) → a ≤ b → nat_le a b ≡ true
le_true a b h = grind (arith, nat_tests)

-- The limits on the number of sites.
abbrev are_few : ProgramTree → ℕ → Bool
are_few p harts = nat_le (sites_in p.body) 4095 && nat_le (room_for (sites_in p.body) harts) 65535

abbrev size_faults : ProgramTree → ℕ → List (Option CheckFault)
size_faults p harts =
    unless (nat_le (depth_of p.body) 3) (TooDeep (clamped_depth (depth_of p.body)))
    ∷ unless (nat_le (units_of p.body) 1048576) (TooMuchWork (capped (units_of p.body)))
    ∷ unless (are_few p harts) (TooManySites (capped (sites_in p.body)))
    ∷ unless (nat_le (pieces_in p.body) 16384) (TooManyPieces (capped (pieces_in p.body)))
    ∷ []

pub limits_from : (p : ProgramTree) (harts : ℕ) → limit_fault_of p harts ≡ None → MeetsLimits p harts
limits_from p harts h =
    let a = apart (option_map DuplicateName (duplicate_name p)) _ (to_none (limit_fault_of p harts) h) in
    let b = apart (option_map UnknownName (unknown_name p)) _ a.1 in
    let c = apart (range_fault p) (size_faults p harts) b.1 in
    let d = apart (unless (nat_le (depth_of p.body) 3) _) _ c.1 in
    let e = apart (unless (nat_le (units_of p.body) 1048576) _) _ d.1 in
    let f = apart (unless (are_few p harts) _) _ e.1 in
    let g = apart (unless (nat_le (pieces_in p.body) 16384) _) [] f.1 in
    let few = and_parts (nat_le (sites_in p.body) 4095) (nat_le (room_for (sites_in p.body) harts) 65535) (sym (none_unless (are_few p harts) _) ∙ f.0) in
    record {
      single_names = sym (none_map DuplicateName (duplicate_name p) ∙ single_names p) ∙ a.0;
      known_names = sym (none_map UnknownName (unknown_name p) ∙ only_known_names p) ∙ b.0;
      ranges = sym (in_range p) ∙ c.0;
      levels = true_le _ _ (sym (none_unless (nat_le (depth_of p.body) 3) _) ∙ d.0);
      work = true_le _ _ (sym (none_unless (nat_le (units_of p.body) 1048576) _) ∙ e.0);
      sites = true_le _ _ few.0;
      pieces = true_le _ _ (sym (none_unless (nat_le (pieces_in p.body) 16384) _) ∙ g.0);
      entries = true_le _ _ few.1;
    }

pub limits_to : (p : ProgramTree) (harts : ℕ) → MeetsLimits p harts → limit_fault_of p harts ≡ None
limits_to p harts m = none_from (limit_fault_of p harts)
    (along (option_map DuplicateName (duplicate_name p)) _ (none_map DuplicateName (duplicate_name p) ∙ single_names p ∙ m.single_names)
    (along (option_map UnknownName (unknown_name p)) _ (none_map UnknownName (unknown_name p) ∙ only_known_names p ∙ m.known_names)
    (along (range_fault p) (size_faults p harts) (in_range p ∙ m.ranges)
    (along (unless (nat_le (depth_of p.body) 3) _) _ (none_unless (nat_le (depth_of p.body) 3) _ ∙ le_true _ _ m.levels)
    (along (unless (nat_le (units_of p.body) 1048576) _) _ (none_unless (nat_le (units_of p.body) 1048576) _ ∙ le_true _ _ m.work)
    (along (unless (are_few p harts) _) _ (none_unless (are_few p harts) _ ∙ and_from _ _ (le_true _ _ m.sites) (le_true _ _ m.entries))
    (along (unless (nat_le (pieces_in p.body) 16384) _) [] (none_unless (nat_le (pieces_in p.body) 16384) _ ∙ le_true _ _ m.pieces) refl)))))))

pub limits_of : {p : ProgramTree} {harts : ℕ} → IsAccepted p → room_for (sites_in p.body) harts ≤ 65535 → MeetsLimits p harts
limits_of a room = record {
  single_names = a.single_names;
  known_names = a.known_names;
  ranges = a.ranges;
  levels = a.levels;
  work = a.work;
  sites = a.sites;
  pieces = a.pieces;
  entries = room;
}

some_cells : (z : ℤ) → is_up_to (pos 4096) z ≡ true → 0 < unsigned_abs z
some_cells (pos k) h = grind (arith, ints, nat_tests)
some_cells (negsuc k) h = cc

have_cells : (ds : List Declaration) → have_right_lengths ds ≡ true → HaveCells (arrays_of ds)
have_cells [] h = tt
have_cells (d ∷ ds) h =
    let both = and_parts (is_up_to (pos 4096) d.length) (have_right_lengths ds) h in
    (some_cells d.length both.0, have_cells ds both.1)

-- A program in range has arrays that can be walked through.
pub sized_from : (p : ProgramTree) → is_in_range p ≡ true → AreSized (arrays_of p.arrays)
sized_from p h =
    let all = and_parts (have_right_lengths p.arrays && (nat_le (length p.arrays) 64 && nat_le (cells_of (arrays_of p.arrays)) 4096)) (has_right_ranges p.body) h in
    let lengths = and_parts (have_right_lengths p.arrays) (nat_le (length p.arrays) 64 && nat_le (cells_of (arrays_of p.arrays)) 4096) all.0 in
    let sums = and_parts (nat_le (length p.arrays) 64) (nat_le (cells_of (arrays_of p.arrays)) 4096) lengths.1 in
    record { each = have_cells p.arrays lengths.0; whole = true_le _ _ sums.1 }

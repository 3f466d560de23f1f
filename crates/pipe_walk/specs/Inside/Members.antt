-- The members of a `team` that touched a cell in a phase.
-- Only the private contracts and the proofs of this crate need these.
use Rattle.std.specs.Prelude.{ℕ, Bool, false, List, min, max, nat_lt, slice_index_or, if◌then◌else◌}
use Rattle.pipe_walk.specs.declared.members.Members.{Members}
use Rattle.pipe_walk.specs.declared.members.Members.TheVariants.{NoMember, Between}
use Rattle.pipe_walk.specs.declared.touch.Touch.{Touch}

-- The members of both sets.
abbrev pub joined_members : Members → Members → Members
joined_members NoMember other = other
joined_members (Between first last) NoMember = Between first last
joined_members (Between first last) (Between low high) = Between (min first low) (max last high)

-- The test decides whether some of the members is below this one.
abbrev pub starts_below : ℕ → Members → Bool
starts_below member NoMember = false
starts_below member (Between first last) = nat_lt first member

-- The last of the members; 0 also if there is none.
abbrev pub last_of : Members → ℕ
last_of NoMember = 0
last_of (Between first last) = last

-- The touches of both.
abbrev pub joined : Touch → Touch → Touch
joined a b = record { read = joined_members a.read b.read; changed = joined_members a.changed b.changed }

-- No member reads or changes the cell.
abbrev pub untouched : Touch
untouched = record { read = NoMember; changed = NoMember }

-- The touch at an index of a list; none after its end.
abbrev pub touch_in : List Touch → ℕ → Touch
touch_in list place = slice_index_or list place untouched

-- The touch of one member, which reads or changes the cell.
abbrev pub touch_by : ℕ → Bool → Touch
touch_by member writes = record {
  read = if writes then NoMember else Between member member;
  changed = if writes then Between member member else NoMember;
}

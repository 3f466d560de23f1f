-- Where things stand in the picture, in its units. The places of a list follow one another in rows; a row is at most 1,500 units
-- wide.
use Rattle.std.specs.Prelude.{ℕ, ◌+◌, ◌-◌, ◌*◌, ◌/◌, ◌%◌, nat_le, nat_lt, min, max, Bool, if◌then◌else◌, ◌||◌, length}
use Rattle.journal_picture.specs.TextPicture.{depth_of}
use Rattle.journal_picture.specs.Views.{View}

-- The width of a place: at most 72, at least 8. A list has one place more than entries.
abbrev pub step_of : View → ℕ
step_of v = max 8 (min 72 (8328 / (length v.list + 1)))

-- The number of places in a row.
abbrev pub per_row : View → ℕ
per_row v = 1388 / step_of v

-- The row of a place.
abbrev pub row_of : View → ℕ → ℕ
row_of v place = place / per_row v

-- The number of rows of the list.
abbrev pub rows_of : View → ℕ
rows_of v = row_of v (length v.list) + 1

-- Whether a row is shown. If the list has more than 32 rows, its first 16 and its last 16 are shown.
abbrev pub is_shown : View → ℕ → Bool
is_shown v row = nat_lt row 16 || nat_le (rows_of v) (row + 16)

-- The position of a row that is shown.
abbrev pub slot_of : View → ℕ → ℕ
slot_of v row = if nat_lt row 16 then row else min 31 (row - (rows_of v - 32))

-- The left end of a place.
abbrev pub place_x : View → ℕ → ℕ
place_x v place = 56 + step_of v * (place % per_row v)

-- The right end of a place: there stands the entry that has its number.
abbrev pub entry_x : View → ℕ → ℕ
entry_x v place = place_x v place + step_of v

-- The height of a row: its axis, a lane of 44 units for each hart, and the strip.
abbrev pub row_height : View → ℕ
row_height v = 96 + 44 * v.plan.harts

-- The upper end of a row.
abbrev pub row_y : View → ℕ → ℕ
row_y v row = 76 + row_height v * slot_of v row

-- The upper end of a row's strip.
abbrev pub strip_y : View → ℕ → ℕ
strip_y v row = row_y v row + 44 + 44 * v.plan.harts

-- The upper end of a hart's lane in a row that begins at this height.
abbrev pub lane_y : ℕ → ℕ → ℕ
lane_y top h = top + 40 + 44 * h

-- The level of a site's bars: the depth of the site, and 3 at most.
abbrev pub level_of : View → ℕ → ℕ
level_of v s = min 3 (depth_of v.plan s)

-- The upper end of a bar at this level in a hart's lane. A higher level has a higher bar.
abbrev pub bar_y : ℕ → ℕ → ℕ → ℕ
bar_y top h level = lane_y top h + 26 - 6 * level

-- The lower end of all rows.
abbrev pub rows_bottom : View → ℕ
rows_bottom v = 76 + row_height v * min 32 (rows_of v)

-- The width of the picture.
abbrev pub width_of : View → ℕ
width_of v = max 700 (112 + step_of v * min (per_row v) (length v.list + 1))

-- The distance between two entries that are numbered.
abbrev pub every : View → ℕ
every v = 1 + 36 / step_of v

-- Intervals of values.
use Rattle.std.specs.Prelude.{ℤ, ◌≤ℤ◌}
use Rattle.touch_bounds.specs.declared.interval.Interval.{Interval}

-- The value lies between the least and the greatest.
pub record LiesIn (within : Interval) (value : ℤ) : Type 0 where
  pub low : within.least ≤ℤ value
  pub high : value ≤ℤ within.greatest

-- If a value lies in an interval, the function's result lies in the reported one.
abbrev pub LeadsInto : (ℤ → ℤ) → Interval → Interval → Type 0
LeadsInto f within noted = (x : ℤ) → LiesIn within x → LiesIn noted (f x)

-- If two values lie each in its interval, the function's result lies in the reported one.
abbrev pub LeadInto : (ℤ → ℤ → ℤ) → Interval → Interval → Interval → Type 0
LeadInto f left right noted = (x y : ℤ) → LiesIn left x → LiesIn right y → LiesIn noted (f x y)

-- The interval with one value.
abbrev pub exactly : ℤ → Interval
exactly value = record { least = value; greatest = value }

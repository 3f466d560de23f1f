-- The effect of the calls on a hart's deques.
use Rattle.std.specs.Prelude.{◌≡◌, ◌⊎◌, ℕ, ◌-◌, [], ◌∷◌, slice_index_or, slice_set, Option, Some, None}
use Rattle.deque_rows.specs.declared.account.Log.{Log}
use Rattle.deque_rows.specs.declared.hart.HartRows.{HartRows}
use Rattle.deque_rows.specs.declared.stolen.Stolen.{Stolen}
use Rattle.deque_rows.specs.declared.stolen.Stolen.TheVariants.{Code, Empty}
use Rattle.deque_rows.specs.Account.{idle, after_push, after_steal, Pops, HeldAtMost, Rose}
use Rattle.deque_rows.specs.Rows.{IsLevel, place, home_logs, pass_logs, bares, home_log, pass_log, bare}

-- By what the hart knows, the deque at this index was empty at some moment: the hart's own deque held no index, and another
-- hart's deque held at most one.
abbrev pub WasBare : HartRows → ℕ → Type 0
WasBare rows row =
    ((level : ℕ) × IsLevel level × (row ≡ place rows.hart level) × HeldAtMost 0 (home_log rows level))
    ⊎ HeldAtMost 1 (slice_index_or (pass_logs rows) row idle)

-- The counter of empty looks at this deque rose, and the counters of other deques are unchanged.
abbrev pub FoundBare : HartRows → ℕ → ℕ → HartRows → Type 0
FoundBare old hart level new =
    (n : ℕ) × Rose (bare old hart level) n
    × (bares new ≡ slice_set (bares old) (place hart level) n)

-- The hart pushed an index onto its own deque of this level.
abbrev pub Pushes : HartRows → ℕ → ℕ → HartRows → Type 0
Pushes old level code new =
    (home_logs new ≡ slice_set (home_logs old) (level - 1)
    (after_push (home_log old level) (code ∷ []))) × (pass_logs new ≡ pass_logs old)
    × (bares new ≡ bares old)

-- The result of a pop is the last index that the home kept; or none, and the deque was empty at some moment.
abbrev pub PopGives : HartRows → ℕ → Option ℕ → HartRows → Type 0
PopGives old level (Some code) new =
    (w : Log) × Pops (home_log old level) (code ∷ []) w
    × (home_logs new ≡ slice_set (home_logs old) (level - 1) w) × (pass_logs new ≡ pass_logs old)
    × (bares new ≡ bares old)
PopGives old level None new =
    HeldAtMost 0 (home_log old level) × FoundBare old old.hart level new
    × (home_logs new ≡ home_logs old) × (pass_logs new ≡ pass_logs old)

-- The result of a steal is an index of the deque; or none, and the deque held at most one index at some moment.
abbrev pub StealGives : HartRows → ℕ → ℕ → Stolen → HartRows → Type 0
StealGives old hart level (Code code) new =
    (pass_logs new ≡ slice_set (pass_logs old) (place hart level)
    (after_steal (pass_log old hart level) (code ∷ []))) × (home_logs new ≡ home_logs old)
    × (bares new ≡ bares old)
StealGives old hart level Empty new =
    HeldAtMost 1 (pass_log old hart level) × FoundBare old hart level new
    × (home_logs new ≡ home_logs old) × (pass_logs new ≡ pass_logs old)

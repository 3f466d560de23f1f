-- The indices pushed onto a deque are the popped indices, the stolen indices and the indices that the deque holds.
use Rattle.std.specs.Prelude.{◌≡◌, ℕ, ◌+◌, ◌-◌, ◌<◌, ◌≤◌, ◌^◌, ◌⊎◌, Bool, true, false, List, [], ◌∷◌, ◌++◌, length, if◌then◌else◌, ◌==◌}
use mathlib.Core.Option.{some}
use lib.ListN.{get_elem?}
use Rattle.deque_rows.specs.declared.account.Log.{Log}

-- The number of times that x occurs in the list.
abbrev pub times : ℕ → List ℕ → ℕ
times x [] = 0
times x (y ∷ ys) = (if y == x then 1 else 0) + times x ys

-- The first list is the second with some of its elements left out.
abbrev pub InOrder : List ℕ → List ℕ → Type 0
InOrder [] ys = Unit {0}
InOrder (x ∷ xs) [] = ⊥
InOrder (x ∷ xs) (y ∷ ys) = ((x ≡ y) × InOrder xs ys) ⊎ InOrder (x ∷ xs) ys

-- The sum of f over the logs of all passes.
abbrev pub total : (Log → ℕ) → List Log → ℕ
total f [] = 0
total f (v ∷ vs) = f v + total f vs

-- An empty log with so many parts.
abbrev pub blank : ℕ → Bool → Log
blank parts is_home = record {
  parts = parts;
  is_home = is_home;
  pushed = [];
  popped = [];
  kept = [];
  stolen = [];
}

-- An empty log without any part.
abbrev pub idle : Log
idle = blank 0 false

-- The home popped or kept each index that it pushed, and the kept indices are in the order of the pushes.
pub record IsKept (pushed popped kept : List ℕ) : Type 0 where
  pub counts : (x : ℕ) → times x pushed ≡ times x popped + times x kept
  pub order : InOrder kept pushed

-- One log fits the deque. `home` is the number of the home's pass, and `gone` has what all steals took, in their order.
pub record Fits (home : ℕ) (gone items : List ℕ) (port : ℕ) (v : Log) : Type 0 where
  pub homes : v.is_home ≡ true
      → (port ≡ home) × (v.kept ≡ gone ++ items) × IsKept v.pushed v.popped v.kept
  pub spent : v.parts ≡ 0 → v.stolen ≡ []

-- The invariant of a deque, over its indices, the oldest first, and the logs of all passes. The indices that the home pushed and
-- didn't pop are the stolen indices, followed by the indices that the deque holds.
pub record RowStands (items : List ℕ) (logs : List Log) : Type 0 where
  pub home : ℕ
  pub gone : List ℕ
  pub parts : total (λ (v : Log). v.parts) logs ≡ 64
  pub stolen : (x : ℕ) → total (λ (v : Log). times x v.stolen) logs ≡ times x gone
  pub each : (port : ℕ) (v : Log) → get_elem? logs port ≡ some v → Fits home gone items port v

-- The log after the home pushed these indices.
abbrev pub after_push : Log → List ℕ → Log
after_push v xs = record v { pushed = v.pushed ++ xs; kept = v.kept ++ xs }

-- The log after a thief stole these indices.
abbrev pub after_steal : Log → List ℕ → Log
after_steal v xs = record v { stolen = v.stolen ++ xs }

-- The home popped the last indices that it kept.
abbrev pub Pops : Log → List ℕ → Log → Type 0
Pops v xs w = (v.kept ≡ w.kept ++ xs) × (w ≡ record v { popped = v.popped ++ xs; kept = w.kept })

-- The log of a pass after another pass was joined into it.
abbrev pub joined : Log → Log → Log
joined v w = record v { parts = v.parts + w.parts; stolen = v.stolen ++ w.stolen }

-- At some moment the deque held at most so many indices, and this was the log of a pass.
abbrev pub HeldAtMost : ℕ → Log → Type 0
HeldAtMost most v = (items : List ℕ) × (logs : List Log) × (port : ℕ) × (length items ≤ most)
    × RowStands items logs × (get_elem? logs port ≡ some v)

-- A log with all parts determines the indices of the deque: the kept indices are the stolen indices, followed by these.
abbrev pub Determines : Log → List ℕ → Type 0
Determines v items = (gone : List ℕ) × (v.kept ≡ gone ++ items) × IsKept v.pushed v.popped v.kept
    × ((x : ℕ) → times x v.stolen ≡ times x gone)

-- The account of a deque: `stolen` has the stolen indices, `left` the indices that the deque holds. Each pushed index was popped,
-- was stolen or is left. The indices left are in the order of the pushes. Of the indices not popped, steals took the first and
-- left the last.
pub record IsSettled (v : Log) (stolen : List ℕ) : Type 0 where
  pub left : List ℕ
  pub gone : List ℕ
  pub counts : (x : ℕ) → times x v.pushed ≡ times x v.popped + times x stolen + times x left
  pub order : InOrder left v.pushed
  pub kept : v.kept ≡ gone ++ left
  pub steals : (x : ℕ) → times x stolen ≡ times x gone

-- The counter rose, or stays at its last value.
abbrev pub Rose : ℕ → ℕ → Type 0
Rose before after = (before < after) ⊎ ((before ≡ 2 ^ 64 - 1) × (after ≡ before))

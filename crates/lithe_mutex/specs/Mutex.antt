-- A mutex: free with its value, or held while others wait, the first to wait first.
use Rattle.std.specs.Prelude.{◌≡◌, ℕ, ◌<◌, List, [], ◌∷◌, ◌++◌, Option, Some, None, length}
use Rattle.lithe_mutex.specs.declared.state.Acquired.{Acquired}
use Rattle.lithe_mutex.specs.declared.state.Acquired.TheVariants.{Got, Kept}
use Rattle.lithe_mutex.specs.declared.state.Released.{Released}
use Rattle.lithe_mutex.specs.declared.state.Released.TheVariants as released

-- The value is at the free mutex, or with the holder. No context waits at a free mutex.
pub data Possession (T C : Type 0) : Type 0 where
  Free : (value : T) → Possession T C
  Held : (waiting : List C) → Possession T C

-- A mutex, with how many may wait at it.
pub record MutexParts (T C : Type 0) : Type 0 where
  pub possession : Possession T C
  pub room : ℕ

-- The fields in memory: a value, and the contexts that wait if there is none.
abbrev pub possession_of : {T C : Type 0} → Option T → List C → Possession T C
possession_of (Some value) waiting = Free value
possession_of None waiting = Held waiting

-- Free, or held with room for one more to wait.
abbrev pub CanAcquire : {T C : Type 0} → Possession T C → ℕ → Type 0
CanAcquire (Free value) room = Unit {0}
CanAcquire (Held waiting) room = length waiting < room

-- A context gets the value of a free mutex, which is held then; a held mutex puts it last.
abbrev pub Acquires : {T C : Type 0} → Possession T C → C → Acquired T C → Possession T C → Type 0
Acquires (Free value) c answer after = (answer ≡ Got value c) × (after ≡ Held [])
Acquires (Held waiting) c answer after = (answer ≡ Kept) × (after ≡ Held (waiting ++ c ∷ []))

-- The mutex is held.
abbrev pub IsHeld : {T C : Type 0} → Possession T C → Type 0
IsHeld (Free value) = ⊥
IsHeld (Held waiting) = Unit {0}

-- The holder's value goes to the first waiting context, which holds the mutex then; if none waits, the mutex is free with the
-- value.
abbrev pub Releases : {T C : Type 0} → Possession T C → T → Released T C → Possession T C → Type 0
Releases (Free kept) value answer after = ⊥
Releases (Held []) value answer after = (answer ≡ released.Free) × (after ≡ Free value)
Releases (Held (first ∷ more)) value answer after =
    (answer ≡ released.Handed value first) × (after ≡ Held more)

-- The value of a free mutex.
abbrev pub value_in : {T C : Type 0} → Possession T C → Option T
value_in (Free value) = Some value
value_in (Held waiting) = None

-- The results of a shared mutex, without knowledge of the lock-protected state: an argument that it returns is the given one.
use Rattle.std.specs.Prelude.{◌≡◌}
use Rattle.lithe_mutex.specs.declared.state.Acquired.{Acquired}
use Rattle.lithe_mutex.specs.declared.state.Acquired.TheVariants.{Got, Kept}
use Rattle.lithe_mutex.specs.declared.state.Released.{Released}
use Rattle.lithe_mutex.specs.declared.state.Released.TheVariants.{Free, Handed}
use Rattle.lithe_mutex.specs.declared.shared.Reply.{Reply}
use Rattle.lithe_mutex.specs.declared.shared.Reply.TheVariants.{Did, NoRoom, NotHeld}

-- The context is kept, or is returned, with the value or for lack of room.
abbrev pub AnswersTo : {T C : Type 0} → C → Reply (Acquired T C) C → Type 0
AnswersTo c (Did (Got value back)) = back ≡ c
AnswersTo c (Did Kept) = Unit {0}
AnswersTo c (NoRoom back) = back ≡ c
AnswersTo c (NotHeld back) = ⊥

-- The value is at the free mutex, is handed on, or is returned.
abbrev pub ReturnsFrom : {T C : Type 0} → T → Reply (Released T C) T → Type 0
ReturnsFrom value (Did Free) = Unit {0}
ReturnsFrom value (Did (Handed given first)) = given ≡ value
ReturnsFrom value (NoRoom back) = ⊥
ReturnsFrom value (NotHeld back) = back ≡ value

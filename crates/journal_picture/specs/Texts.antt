-- Texts that grow.
use Rattle.std.specs.Prelude.{◌≡◌, ℕ, List, ◌++◌, String, string_bytes}

-- The text grew by these bytes, which stand at its end.
abbrev pub Adds : {A : Type 0} → String A → List ℕ → String A → Type 0
Adds before added after = string_bytes after ≡ string_bytes before ++ added

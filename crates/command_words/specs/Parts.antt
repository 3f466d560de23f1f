-- What a command has.
use Rattle.std.specs.Prelude.{ℕ, ◌≤◌}
use Rattle.command_words.specs.declared.command.Command.{Command}
use Rattle.command_words.specs.declared.command.Command.TheVariants.{Run, Tally, Pipe, Solo, Audit, Make}

-- How many harts a command's plan has: `solo` makes no transfer, so one will do.
abbrev pub harts_in : Command → ℕ
harts_in (Run harts) = harts
harts_in (Tally harts) = harts
harts_in (Pipe harts) = harts
harts_in Solo = 1
harts_in (Audit harts) = harts
harts_in (Make seed size harts) = harts

-- The size of the program that a command makes, and 1 where it makes none.
abbrev pub size_in : Command → ℕ
size_in (Make seed size harts) = size
size_in command = 1

-- One to sixteen harts, and a size of one to forty.
abbrev pub AreFew : Command → Type 0
AreFew command = (1 ≤ harts_in command) × (harts_in command ≤ 16) × (1 ≤ size_in command)
    × (size_in command ≤ 40)

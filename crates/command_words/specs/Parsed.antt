-- The command of clap's matches.
use Rattle.std.specs.Prelude.{ℕ, ◌-◌, ◌^◌, Bool, if◌then◌else◌, List, codes, Option, Some, None}
use Rattle.std.specs.List.{list_any}
use Rattle.std.specs.Option.{option_map, option_and_then}
use Rattle.std.specs.Str.{bytes_eq}
use Rattle.clap.specs.Words.{Row, Text, first_of}
use Rattle.command_words.specs.Form.{number_in, harts_command}
use Rattle.command_words.specs.declared.command.Command.{Command}
use Rattle.command_words.specs.declared.command.Command.TheVariants.{Solo, Make}

-- The number of an option that was found.
abbrev pub number_at : ℕ → ℕ → List ℕ → List Row → Option ℕ
number_at least most name rows = option_and_then (number_in least most) (first_of name rows)

-- The number of harts that was found.
abbrev pub harts_at : List Row → Option ℕ
harts_at rows = number_at 1 16 (codes "harts") rows

-- The command `make` of the numbers that were found.
abbrev pub make_at : List Row → Option Command
make_at rows =
    option_and_then (λ seed. option_and_then (λ size. option_map (Make seed size) (harts_at rows))
    (number_at 1 40 (codes "size") rows)) (number_at 0 (2 ^ 64 - 1) (codes "seed") rows)

-- The command of this name, with the options that were found.
abbrev pub command_at : Text → List Row → Option Command
command_at name rows =
    if bytes_eq name (codes "solo") then Some Solo else
    if bytes_eq name (codes "make") then make_at rows else
    option_and_then (λ command. option_map command (harts_at rows)) (harts_command name)

-- The command of the matches of a subcommand.
abbrev pub parsed_from : Option (Text × List Row) → Option Command
parsed_from None = None
parsed_from (Some (name, rows)) = command_at name rows

-- A word is `--` alone.
abbrev pub has_dashes : List Text → Bool
has_dashes words = list_any (λ word. bytes_eq word (codes "--")) words

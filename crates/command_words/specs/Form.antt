-- The forms of the command line: a command, and then each of its options once, in any order, as two words `--name value`
-- or as one word `--name=value`. Values are numbers of one to twenty decimal digits.
use Rattle.std.specs.Prelude.{ℕ, ◌+◌, ◌-◌, ◌^◌, ◌==◌, ◌&&◌, Bool, nat_le, if◌then◌else◌, List, [], ◌∷◌, length, codes, Option, Some, None, find}
use Rattle.std.specs.List.{list_all, list_any}
use Rattle.std.specs.Option.{option_map, option_and_then}
use Rattle.std.specs.Str.{bytes_eq, all_ascii_digits}
use Rattle.std.specs.Str.Parse.{digits_value}
use Rattle.clap.specs.Lexer.{long_of}
use Rattle.command_words.specs.declared.command.Command.{Command}
use Rattle.command_words.specs.declared.command.Command.TheVariants.{Run, Tally, Pipe, Solo, Audit, Make}

-- An option with its value.
abbrev pub Given : Type 0
Given = List ℕ × List ℕ

-- The options with one more.
abbrev pub with_option : Given → Option (List Given) → Option (List Given)
with_option option rest = option_map (λ more. option ∷ more) rest

-- What an option's word comes to: with its value, or without it.
abbrev pub option_at : Option (List ℕ × Option (List ℕ)) → (Option (List ℕ) → Option (List Given))
    → Option (List Given)
option_at None rest = None
option_at (Some (name, Some value)) rest = with_option (name, value) (rest None)
option_at (Some (name, None)) rest = rest (Some name)

-- The options that words give, where an option may wait for the word that is its value: `long_of` takes `--name` or
-- `--name=value` apart.
abbrev pub options_from : Option (List ℕ) → List (List ℕ) → Option (List Given)
options_from None [] = Some []
options_from (Some name) [] = None
options_from None (word ∷ more) = option_at (long_of word) (λ waits. options_from waits more)
options_from (Some name) (word ∷ more) = with_option (name, word) (options_from None more)

-- The options of words.
abbrev pub options_of : List (List ℕ) → Option (List Given)
options_of words = options_from None words

-- How many of the options have the name.
abbrev pub times : List ℕ → List Given → ℕ
times name [] = 0
times name (option ∷ more) = if bytes_eq option.0 name then 1 + times name more else times name more

-- Whether the name is one of these.
abbrev pub is_known : List (List ℕ) → List ℕ → Bool
is_known names name = list_any (λ known. bytes_eq known name) names

-- Each of these names is an option's, once, and no other is.
abbrev pub are_these : List (List ℕ) → List Given → Bool
are_these names options =
    list_all (λ name. times name options == 1) names
    && list_all (λ option. is_known names option.0) options

-- The value of the option with this name.
abbrev pub value_of : List ℕ → List Given → Option (List ℕ)
value_of name options = option_map (λ option. option.1)
    (find (λ option. bytes_eq option.0 name) options)

-- The number from least to most that the value is.
abbrev pub number_in : ℕ → ℕ → List ℕ → Option ℕ
number_in least most value =
    let number = digits_value 10 value in
    if nat_le 1 (length value) && nat_le (length value) 20 && all_ascii_digits value
    && nat_le least number && nat_le number most then Some number else None

-- The number of an option.
abbrev pub number_of : ℕ → ℕ → List ℕ → List Given → Option ℕ
number_of least most name options = option_and_then (number_in least most) (value_of name options)

-- The number of harts.
abbrev pub harts_given : List Given → Option ℕ
harts_given options = number_of 1 16 (codes "harts") options

-- The options, if they are those with these names.
abbrev pub these : List (List ℕ) → List (List ℕ) → Option (List Given)
these names words = option_and_then (λ options. if are_these names options then Some options
    else None) (options_of words)

-- The options of a command that has a number of harts alone, and those of `make`.
abbrev pub harts_alone : List (List ℕ)
harts_alone = codes "harts" ∷ []

-- The options of `make`.
abbrev pub made_from : List (List ℕ)
made_from = codes "seed" ∷ codes "size" ∷ codes "harts" ∷ []

-- The command `make` of these options.
abbrev pub make_of : List Given → Option Command
make_of options =
    option_and_then (λ seed. option_and_then
    (λ size. option_map (Make seed size) (harts_given options))
    (number_of 1 40 (codes "size") options)) (number_of 0 (2 ^ 64 - 1) (codes "seed") options)

-- The commands that have a number of harts alone, and what such a number makes of each.
abbrev pub harts_commands : List (List ℕ × (ℕ → Command))
harts_commands =
    (codes "run", Run) ∷ (codes "tally", Tally) ∷ (codes "pipe", Pipe) ∷ (codes "audit", Audit) ∷ []

-- The one of these with this name.
abbrev pub harts_command : List ℕ → Option (ℕ → Command)
harts_command name =
    option_map (λ known. known.1) (find (λ known. bytes_eq name known.0) harts_commands)

-- The command that the words behind its name make of their number of harts.
abbrev pub with_harts : List (List ℕ) → (ℕ → Command) → Option Command
with_harts words command =
    option_and_then (λ options. option_map command (harts_given options)) (these harts_alone words)

-- The command that the words give, or nothing.
abbrev pub form_of : List (List ℕ) → Option Command
form_of [] = None
form_of (name ∷ words) =
    if bytes_eq name (codes "solo") then option_map (λ options. Solo) (these [] words) else
    if bytes_eq name (codes "make") then option_and_then make_of (these made_from words) else
    option_and_then (with_harts words) (harts_command name)

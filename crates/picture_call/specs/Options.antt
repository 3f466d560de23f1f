-- Options cut off words one by one.
use Rattle.std.specs.Prelude.{ℕ, if◌then◌else◌, List, [], ◌∷◌, codes, Option, Some, None}
use Rattle.std.specs.Option.{option_map, option_and_then}
use Rattle.clap.specs.Lexer.{long_of}
use Rattle.command_words.specs.Form.{Given, options_of, value_of}
use Rattle.picture_call.specs.Words.{has_picture_options}

-- The option of a word, `--name=value` or `--name` with the next word as its value, and the words behind it.
abbrev pub option_by : Option (List ℕ × Option (List ℕ)) → List (List ℕ) → Option (Given × List (List ℕ))
option_by None words = None
option_by (Some (name, Some value)) words = Some ((name, value), words)
option_by (Some (name, None)) [] = None
option_by (Some (name, None)) (value ∷ words) = Some ((name, value), words)

-- The first option of words, and the words behind it.
abbrev pub first_option : List (List ℕ) → Option (Given × List (List ℕ))
first_option [] = None
first_option (word ∷ words) = option_by (long_of word) words

-- The value of `--harts`, and that of `--of` if it is there.
abbrev pub values_in : List Given → Option (List ℕ × Option (List ℕ))
values_in options =
    if has_picture_options options
    then option_map (λ harts. (harts, value_of (codes "of") options)) (value_of (codes "harts") options)
    else None

-- The same of the options that words give.
abbrev pub values_of : List (List ℕ) → Option (List ℕ × Option (List ℕ))
values_of words = option_and_then values_in (options_of words)

-- The words of a picture: its form, and then `--harts N` and maybe `--of C`, in any order.
use Rattle.std.specs.Prelude.{ℕ, ◌||◌, Bool, if◌then◌else◌, List, [], ◌∷◌, codes, Option, Some, None}
use Rattle.std.specs.Option.{option_map, option_and_then}
use Rattle.std.specs.Str.{bytes_eq}
use Rattle.command_words.specs.Form.{Given, options_of, are_these, value_of, harts_alone, harts_given}
use Rattle.picture_call.specs.declared.picture.Form.{Form}
use Rattle.picture_call.specs.declared.picture.Form.TheVariants.{Text, Svg}
use Rattle.picture_call.specs.declared.runner.Runner.{Runner}
use Rattle.picture_call.specs.declared.runner.Runner.TheVariants.{Run, Tally, Pipe}

-- A word names this form.
abbrev pub form_named : List ℕ → Option Form
form_named word =
    if bytes_eq word (codes "text") then Some Text else
    if bytes_eq word (codes "svg") then Some Svg else None

-- The words request a picture of this form.
abbrev pub parsed_form : List (List ℕ) → Option Form
parsed_form [] = None
parsed_form (word ∷ options) = form_named word

-- The command that `--of` names; without `--of` it is `run`.
abbrev pub runner_named : Option (List ℕ) → Option Runner
runner_named None = Some Run
runner_named (Some name) =
    if bytes_eq name (codes "run") then Some Run else
    if bytes_eq name (codes "tally") then Some Tally else
    if bytes_eq name (codes "pipe") then Some Pipe else None

-- The options are `--harts`, or `--harts` and `--of`, each once.
abbrev pub has_picture_options : List Given → Bool
has_picture_options options =
    are_these harts_alone options || are_these (codes "of" ∷ harts_alone) options

-- The command whose output is drawn, and its number of harts.
abbrev pub run_given : List Given → Option (Runner × ℕ)
run_given options =
    if has_picture_options options then option_and_then
    (λ runner. option_map (λ harts. (runner, harts)) (harts_given options))
    (runner_named (value_of (codes "of") options))
    else None

-- The same of the words behind a first word; if that word names no form, there is none.
abbrev pub run_behind : Option Form → List (List ℕ) → Option (Runner × ℕ)
run_behind None words = None
run_behind (Some form) words = option_and_then run_given (options_of words)

-- The command whose output the words request a picture of, and its number of harts.
abbrev pub parsed_run : List (List ℕ) → Option (Runner × ℕ)
parsed_run [] = None
parsed_run (word ∷ options) = run_behind (form_named word) options

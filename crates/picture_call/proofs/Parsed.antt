-- What the values of the options request.
use Rattle.std.proofs.Common.{◌≡◌, ◌∙◌, ℕ, Bool, true, false, cond, List, [], ◌∷◌, codes, Option, Some, None, refl, ap}
use Rattle.std.specs.Option.{option_map, option_and_then}
use Rattle.std.proofs.lemmas.Option.{same_Some}
use Rattle.command_words.specs.Form.{Given, form_of, number_in, options_of, value_of}
use Rattle.command_words.specs.Parts.{harts_in}
use Rattle.command_words.specs.declared.command.Command.{Command}
use Rattle.command_words.specs.declared.command.Command.TheVariants as command
use Rattle.picture_call.specs.declared.picture.Form.{Form}
use Rattle.picture_call.specs.declared.runner.Runner.{Runner}
use Rattle.lithe_call.specs.Faults.{IsNoCommand}
use Rattle.lithe_call.specs.declared.fault.Fault.{Fault}
use Rattle.lithe_call.specs.declared.fault.Fault.TheVariants as fault
use Rattle.picture_call.specs.Causes.{IsUnparsed}
use Rattle.picture_call.specs.Options.{values_in, values_of}
use Rattle.picture_call.specs.Words.{form_named, has_picture_options, parsed_run, run_behind, run_given, runner_named}

-- The number of harts that `run` reads.
by_number : (found : Option ℕ) (c : Command) → option_map command.Run found ≡ Some c → found ≡ Some (harts_in c)
by_number None c e = cc e
by_number (Some k) c e = ap (λ (made : Command). Some (harts_in made)) (same_Some (command.Run k) c e)

pub run_number : (value : List ℕ) (c : Command) → form_of (codes "run" ∷ codes "--harts" ∷ value ∷ []) ≡ Some c → number_in 1 16 value ≡ Some (harts_in c)
run_number value c e = by_number (number_in 1 16 value) c e

no_number : (found : Option ℕ) → option_map command.Run found ≡ None → found ≡ None
no_number None e = refl
no_number (Some k) e = cc e

pub run_no_number : (value : List ℕ) → form_of (codes "run" ∷ codes "--harts" ∷ value ∷ []) ≡ None → number_in 1 16 value ≡ None
run_no_number value e = no_number (number_in 1 16 value) e

-- The command and the number that two values give.
abbrev pub run_by : Option Runner → Option ℕ → Option (Runner × ℕ)
run_by runner number = option_and_then (λ r. option_map (λ harts. (r, harts)) number) runner

no_harts : (runner : Option Runner) → run_by runner None ≡ None
no_harts None = refl
no_harts (Some runner) = refl

in_options : (test : Bool) (harts of : Option (List ℕ)) (value : List ℕ) (named : Option (List ℕ)) → cond test (option_map {U = List ℕ × Option (List ℕ)} (λ h. (h, of)) harts) None ≡ Some (value, named)
    → cond test (run_by (runner_named of) (option_and_then (number_in 1 16) harts)) None ≡ run_by (runner_named named) (number_in 1 16 value)
in_options true None of value named e = cc e
in_options true (Some found) of value named e =
    ap (λ (v : List ℕ × Option (List ℕ)). run_by (runner_named v.1) (number_in 1 16 v.0)) (same_Some (found, of) (value, named) e)
in_options false harts of value named e = cc e

in_no_options : (test : Bool) (harts of : Option (List ℕ)) → cond test (option_map {U = List ℕ × Option (List ℕ)} (λ h. (h, of)) harts) None ≡ None
    → cond test (run_by (runner_named of) (option_and_then (number_in 1 16) harts)) None ≡ None
in_no_options true None of e = no_harts (runner_named of)
in_no_options true (Some found) of e = cc e
in_no_options false harts of e = refl

given_by : (options : Option (List Given)) (value : List ℕ) (named : Option (List ℕ)) → option_and_then values_in options ≡ Some (value, named)
    → option_and_then run_given options ≡ run_by (runner_named named) (number_in 1 16 value)
given_by None value named e = cc e
given_by (Some options) value named e =
    in_options (has_picture_options options) (value_of (codes "harts") options) (value_of (codes "of") options) value named e

not_given : (options : Option (List Given)) → option_and_then values_in options ≡ None → option_and_then run_given options ≡ None
not_given None e = refl
not_given (Some options) e = in_no_options (has_picture_options options) (value_of (codes "harts") options) (value_of (codes "of") options) e

-- ---- the words
module _ (word : List ℕ) (options : List (List ℕ)) where
  pub no_form : form_named word ≡ None → parsed_run (word ∷ options) ≡ None
  no_form e = ap (λ (f : Option Form). run_behind f options) e

  module _ (form : Form) (named : form_named word ≡ Some form) where
    pub no_values : values_of options ≡ None → parsed_run (word ∷ options) ≡ None
    no_values e = ap (λ (f : Option Form). run_behind f options) named ∙ not_given (options_of options) e

    module _ (value : List ℕ) (of : Option (List ℕ)) (values : values_of options ≡ Some (value, of)) where
      by_values : parsed_run (word ∷ options) ≡ run_by (runner_named of) (number_in 1 16 value)
      by_values = ap (λ (f : Option Form). run_behind f options) named ∙ given_by (options_of options) value of values

      pub no_runner : runner_named of ≡ None → parsed_run (word ∷ options) ≡ None
      no_runner e = by_values ∙ ap (λ (r : Option Runner). run_by r (number_in 1 16 value)) e

      pub no_count : (runner : Runner) → runner_named of ≡ Some runner → form_of (codes "run" ∷ codes "--harts" ∷ value ∷ []) ≡ None → parsed_run (word ∷ options) ≡ None
      no_count runner is e =
          by_values ∙ ap (λ (r : Option Runner). run_by r (number_in 1 16 value)) is ∙ ap (λ (n : Option ℕ). run_by (Some runner) n) (run_no_number value e)

      pub all_given : (runner : Runner) (c : Command) → runner_named of ≡ Some runner → form_of (codes "run" ∷ codes "--harts" ∷ value ∷ []) ≡ Some c
          → parsed_run (word ∷ options) ≡ Some (runner, harts_in c)
      all_given runner c is e =
          by_values ∙ ap (λ (r : Option Runner). run_by r (number_in 1 16 value)) is ∙ ap (λ (n : Option ℕ). run_by (Some runner) n) (run_number value c e)

-- Words that `run` doesn't read are no form.
pub unparsed : (words run : List (List ℕ)) (why : Fault) → IsNoCommand run why → (form_of run ≡ None → parsed_run words ≡ None) → IsUnparsed words why
unparsed words run fault.Usage h none = none h
unparsed words run fault.TooLong h none = absurd h
unparsed words run fault.ReadFault h none = absurd h
unparsed words run (fault.Syntax line) h none = absurd h
unparsed words run (fault.Refused line) h none = absurd h
unparsed words run fault.Memory h none = tt

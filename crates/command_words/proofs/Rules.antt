-- The options of a command, as a walk through words finds them.
use Rattle.std.proofs.Common.{◌≡◌, ℕ, Bool, true, false, ◌||◌, cond, List, [], ◌∷◌, map, Option, Some, None, refl, ap}
use Rattle.std.specs.Str.{bytes_eq}
use Rattle.std.proofs.lemmas.Slice.Eq.{bytes_eq-Decides}
use Rattle.clap.specs.Walk.{Rule, Text, Row, arg_by_long, arg_by_id, arg_by_short, arg_by_index, reading_by}
use Rattle.clap.specs.Simple.{filled, with_index}
use Rattle.clap.specs.declared.parser.matches.ValueSource.TheVariants.{CommandLine}
use Rattle.command_words.specs.App.{needed}
use Rattle.command_words.specs.Form.{Given, is_known}

-- An option of a command that is built.
abbrev pub option_rule : Text → Rule
option_rule name = with_index 1 (filled (needed name))

abbrev pub option_rules : List Text → List Rule
option_rules names = map option_rule names

pub text_is : (a b : Text) → bytes_eq a b ≡ true → a ≡ b
text_is a b e = (bytes_eq-Decides a b).0 e

pub text_same : (a : Text) → bytes_eq a a ≡ true
text_same a = (bytes_eq-Decides a a).1 refl

true_false : true ≡ false → ⊥
true_false e = cc e

pub either : (a b : Bool) → (a || b) ≡ true → a ≡ false → b ≡ true
either true b e other = absurd (true_false other)
either false b e other = e

pub neither : (a b : Bool) → (a || b) ≡ false → (a ≡ false) × (b ≡ false)
neither true b e = cc e
neither false b e = (refl, e)

found_in : (yes : Bool) (known name : Text) (rest : Option Rule) → (yes ≡ true → known ≡ name) → (yes ≡ false → rest ≡ Some (option_rule name))
    → cond yes (Some (option_rule known)) rest ≡ Some (option_rule name)
found_in true known name rest same other = ap (λ (n : Text). Some (option_rule n)) (same refl)
found_in false known name rest same other = other refl

pub or_false : (b : Bool) → (b || false) ≡ b
or_false true = refl
or_false false = refl

pub known_long : (names : List Text) (name : Text) → is_known names name ≡ true → arg_by_long (option_rules names) name ≡ Some (option_rule name)
known_long [] name e = cc e
known_long (first ∷ more) name e =
    rw (or_false (bytes_eq first name))
    (found_in (bytes_eq first name) first name (arg_by_long (option_rules more) name) (text_is first name) (λ other. known_long more name (either (bytes_eq first name) (is_known more name) e other)))

pub unknown_long : (names : List Text) (name : Text) → is_known names name ≡ false → arg_by_long (option_rules names) name ≡ None
unknown_long [] name e = refl
unknown_long (first ∷ more) name e =
    let parts = neither (bytes_eq first name) (is_known more name) e in
    rw (parts.0) (unknown_long more name parts.1)

pub known_id : (names : List Text) (name : Text) → is_known names name ≡ true → arg_by_id (option_rules names) name ≡ Some (option_rule name)
known_id [] name e = cc e
known_id (first ∷ more) name e =
    found_in (bytes_eq first name) first name (arg_by_id (option_rules more) name) (text_is first name) (λ other. known_id more name (either (bytes_eq first name) (is_known more name) e other))

pub no_short : (names : List Text) (c : ℕ) → arg_by_short (option_rules names) c ≡ None
no_short [] c = refl
no_short (first ∷ more) c = no_short more c

pub no_index : (names : List Text) (i : ℕ) → arg_by_index (option_rules names) i ≡ None
no_index [] i = refl
no_index (first ∷ more) i = no_index more i

-- The row of an option that was found.
abbrev pub row_for : Given → Row
row_for option = record { id = option.0; values = option.1 ∷ []; count = None; source = Some CommandLine; reading = reading_by (option_rule option.0) }

abbrev pub rows_for : List Given → List Row
rows_for options = map row_for options

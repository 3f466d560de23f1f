-- Options whose values are numbers.
use Rattle.std.proofs.Common.{◌≡◌, ◌+◌, ◌≤◌, ℕ, Bool, true, false, cond, List, [], ◌∷◌, Option, Some, None, refl, sym, ap, subst, ◌∙◌, arith, find}
use Rattle.std.specs.Option.{option_map}
use Rattle.std.specs.Str.{bytes_eq, all_ascii_digits}
use Rattle.clap.specs.Lexer.{long_of}
use Rattle.clap.specs.Walk.{Text}
use Rattle.command_words.specs.Form.{Given, times, value_of, options_from, option_at}
use Rattle.command_words.proofs.Rules.{text_is, text_same}
use Rattle.command_words.proofs.Turns.{is_dashes}
use Rattle.command_words.proofs.Sound.{NoDashes}
use Rattle.command_words.proofs.Complete.{ArePlain, first_and_rest}
use Rattle.command_words.proofs.Values.{digits_plain}

abbrev pub IsNumber : Text → Type 0
IsNumber value = all_ascii_digits value ≡ true

abbrev pub AreNumbers : List Given → Type 0
AreNumbers [] = Unit {0}
AreNumbers (o ∷ more) = IsNumber o.1 × AreNumbers more

pub numbers_plain : (options : List Given) → AreNumbers options → ArePlain options
numbers_plain [] are = tt
numbers_plain (o ∷ more) are = (digits_plain o.1 are.0, numbers_plain more are.1)

-- If a value is found for a name, an option has the name.
value_cases : (b : Bool) (name : Text) (o : Given) (more : List Given) (value : Text) → option_map (λ (x : Given). x.1) (cond b (Some o) (find (λ x. bytes_eq x.0 name) more)) ≡ Some value
    → (value_of name more ≡ Some value → 1 ≤ times name more) → 1 ≤ cond b (1 + times name more) (times name more)
value_cases true name o more value e next = omega arith
value_cases false name o more value e next = next e

pub value_times : (name : Text) (options : List Given) (value : Text) → value_of name options ≡ Some value → 1 ≤ times name options
value_times name [] value e = cc e
value_times name (o ∷ more) value e = value_cases (bytes_eq o.0 name) name o more value e (value_times name more value)

here_cases : (b : Bool) (name : Text) (o : Given) (more : List Given) (value : Text) → cond b (1 + times name more) (times name more) ≤ 1 → 1 ≤ times name more → value_of name more ≡ Some value
    → option_map (λ (x : Given). x.1) (cond b (Some o) (find (λ x. bytes_eq x.0 name) more)) ≡ Some value
here_cases true name o more value few some e = absurd (omega (arith, few, some))
here_cases false name o more value few some e = e

here_value : (name : Text) (o : Given) (more : List Given) (value : Text) → times name (o ∷ more) ≤ 1 → value_of name more ≡ Some value → value_of name (o ∷ more) ≡ Some value
here_value name o more value few e = here_cases (bytes_eq o.0 name) name o more value few (value_times name more value e) e

less_cases : (b : Bool) (n : ℕ) → cond b (1 + n) n ≤ 1 → n ≤ 1
less_cases true n few = omega (arith, few)
less_cases false n few = few

less_times : (name : Text) (o : Given) (more : List Given) → times name (o ∷ more) ≤ 1 → times name more ≤ 1
less_times name o more few = less_cases (bytes_eq o.0 name) (times name more) few

pub all_numbers : (options : List Given) → ((name : Text) → times name options ≤ 1) → ((name value : Text) → value_of name options ≡ Some value → IsNumber value) → AreNumbers options
all_numbers [] once each = tt
all_numbers (o ∷ more) once each = (
  each o.0 o.1 (rw (text_same o.0) refl),
  all_numbers more (λ name. less_times name o more (once name)) (λ name value e. each name value (here_value name o more value (once name) e)),
)

-- A word that gives an option isn't `--` alone.
long_cases : (b : Bool) (word : Text) (option : Text × Option Text) → long_of word ≡ Some option → (b ≡ true → word ≡ 45 ∷ 45 ∷ []) → b ≡ false
long_cases true word option long is = let none : None ≡ Some option = sym (ap long_of (is refl)) ∙ long in cc none
long_cases false word option long is = refl

digits_cases : (b : Bool) (word : Text) → IsNumber word → (b ≡ true → word ≡ 45 ∷ 45 ∷ []) → b ≡ false
digits_cases true word are is = let bad : false ≡ true = sym (ap all_ascii_digits (is refl)) ∙ are in cc bad
digits_cases false word are is = refl

long_plain : (word : Text) (option : Text × Option Text) → long_of word ≡ Some option → is_dashes word ≡ false
long_plain word option long = long_cases (is_dashes word) word option long (text_is word (45 ∷ 45 ∷ []))

digits_other : (word : Text) → IsNumber word → is_dashes word ≡ false
digits_other word are = digits_cases (is_dashes word) word are (text_is word (45 ∷ 45 ∷ []))

dashes_at : (word : Text) (more : List Text) (options : List Given) → ((waits : Option Text) (options : List Given) → options_from waits more ≡ Some options → AreNumbers options → NoDashes more)
    → (long : Option (Text × Option Text)) → long_of word ≡ long → option_at long (λ waits. options_from waits more) ≡ Some options → AreNumbers options → NoDashes (word ∷ more)
dashes_at word more options next None long read are = cc read
dashes_at word more options next (Some (name, None)) long read are = (long_plain word (name, None) long, next (Some name) options read are)
dashes_at word more options next (Some (name, Some value)) long read are =
    let parts = first_and_rest (name, value) (options_from None more) options read in
    (long_plain word (name, Some value) long, next None parts.0 parts.1 (subst AreNumbers (sym parts.2) are).1)

pub no_dashes : (words : List Text) (waits : Option Text) (options : List Given) → options_from waits words ≡ Some options → AreNumbers options → NoDashes words
no_dashes [] waits options read are = tt
no_dashes (word ∷ more) (Some name) options read are =
    let parts = first_and_rest (name, word) (options_from None more) options read in
    let numbers = subst AreNumbers (sym parts.2) are in (digits_other word numbers.0, no_dashes more None parts.0 parts.1 numbers.1)
no_dashes (word ∷ more) None options read are = dashes_at word more options (λ waits options' read' are'. no_dashes more waits options' read' are') (long_of word) refl read are

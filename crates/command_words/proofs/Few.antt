-- The numbers of a command that words give are within limits.
use Rattle.std.proofs.Common.{◌≡◌, ◌≤◌, ◌&&◌, ◌-◌, ◌^◌, ℕ, Bool, true, false, cond, nat_le, List, [], ◌∷◌, length, codes, Option, Some, None, refl, subst, arith, rules, find}
use Rattle.std.specs.Option.{option_map, option_and_then}
use Rattle.std.specs.Str.{bytes_eq, all_ascii_digits}
use Rattle.std.specs.Str.Parse.{digits_value}
use Rattle.std.proofs.lemmas.Bool.{and_parts, leb-true}
use Rattle.std.proofs.lemmas.Option.{option_and_then_some, same_Some}
use Rattle.command_words.specs.Form.{Given, these, value_of, number_in, number_of, harts_given, made_from, make_of, harts_alone, harts_commands, harts_command, with_harts, form_of}
use Rattle.command_words.specs.Parts.{AreFew}
use Rattle.command_words.specs.declared.command.Command.{Command}
use Rattle.command_words.specs.declared.command.Command.TheVariants.{Solo, Make}

some_cases : (b : Bool) (n m : ℕ) → cond b (Some n) None ≡ Some m → (b ≡ true) × (n ≡ m)
some_cases true n m e = (refl, same_Some n m e)
some_cases false n m e = cc e

within : (least most : ℕ) (value : List ℕ) (n : ℕ) → number_in least most value ≡ Some n → (least ≤ n) × (n ≤ most)
within least most value n e =
    let number = digits_value 10 value in
    let is = some_cases (nat_le 1 (length value) && nat_le (length value) 20 && all_ascii_digits value && nat_le least number && nat_le number most) number n e in
    let last = and_parts (nat_le 1 (length value) && nat_le (length value) 20 && all_ascii_digits value && nat_le least number) (nat_le number most) is.0 in
    let more = and_parts (nat_le 1 (length value) && nat_le (length value) 20 && all_ascii_digits value) (nat_le least number) last.0 in
    let low : least ≤ number = leb-true least number more.1 in
    let high : number ≤ most = leb-true number most last.1 in
    (subst (λ (k : ℕ). least ≤ k) is.1 low, subst (λ (k : ℕ). k ≤ most) is.1 high)

number_within : (least most : ℕ) (name : List ℕ) (options : List Given) (n : ℕ) → number_of least most name options ≡ Some n → (least ≤ n) × (n ≤ most)
number_within least most name options n e = option_and_then_some (number_in least most) (value_of name options) n e (λ value there given. within least most value n given)

-- ---- the limits of a form
-- One to sixteen harts make a command with few harts.
abbrev MakesFew : (ℕ → Command) → Type 0
MakesFew made = (harts : ℕ) → 1 ≤ harts → harts ≤ 16 → AreFew (made harts)

made_few : (made : ℕ → Command) → MakesFew made → (found : Option ℕ) → ((k : ℕ) → found ≡ Some k → (1 ≤ k) × (k ≤ 16)) → (command : Command) → option_map made found ≡ Some command → AreFew command
made_few made few None each command e = cc e
made_few made few (Some k) each command e = let in_range = each k refl in subst AreFew (same_Some (made k) command e) (few k in_range.0 in_range.1)

harts_few : (made : ℕ → Command) → MakesFew made → (options : List Given) (command : Command) → option_map made (harts_given options) ≡ Some command → AreFew command
harts_few made few options command e = made_few made few (harts_given options) (λ k found. number_within 1 16 (codes "harts") options k found) command e

found_few : (b : Bool) (here : List ℕ × (ℕ → Command)) (later : Option (List ℕ × (ℕ → Command))) (made : ℕ → Command) → MakesFew here.1 → (option_map (λ k. k.1) later ≡ Some made → MakesFew made)
    → option_map (λ k. k.1) (cond b (Some here) later) ≡ Some made → MakesFew made
found_few true here later made few next e = subst MakesFew (same_Some here.1 made e) few
found_few false here later made few next e = next e

abbrev AllMakeFew : List (List ℕ × (ℕ → Command)) → Type 0
AllMakeFew [] = Unit {0}
AllMakeFew (k ∷ more) = MakesFew k.1 × AllMakeFew more

list_few : (known : List (List ℕ × (ℕ → Command))) → AllMakeFew known → (name : List ℕ) (made : ℕ → Command) → option_map (λ k. k.1) (find (λ k. bytes_eq name k.0) known) ≡ Some made → MakesFew made
list_few [] all name made e = cc e
list_few (k ∷ more) all name made e = found_few (bytes_eq name k.0) k (find (λ k. bytes_eq name k.0) more) made all.0 (λ later. list_few more all.1 name made later) e

all_few : AllMakeFew harts_commands
all_few = search rules

solo_few : (found : Option (List Given)) (command : Command) → option_map (λ options. Solo) found ≡ Some command → AreFew command
solo_few None command e = cc e
solo_few (Some options) command e = subst AreFew (same_Some Solo command e) (omega arith, omega arith, omega arith, omega arith)

make_few : (options : List Given) (command : Command) → make_of options ≡ Some command → AreFew command
make_few options command e =
    option_and_then_some (λ seed. option_and_then (λ size. option_map (Make seed size) (harts_given options)) (number_of 1 40 (codes "size") options))
    (number_of 0 (2 ^ 64 - 1) (codes "seed") options) command e
    (λ seed _ sized. option_and_then_some (λ size. option_map (Make seed size) (harts_given options)) (number_of 1 40 (codes "size") options) command sized
    (λ size found given. let within = number_within 1 40 (codes "size") options size found in
    harts_few (Make seed size) (λ k some most. (some, most, within.0, within.1)) options command given))

with_few : (words : List (List ℕ)) (made : ℕ → Command) → MakesFew made → (command : Command) → with_harts words made ≡ Some command → AreFew command
with_few words made few command e =
    option_and_then_some (λ options. option_map made (harts_given options)) (these harts_alone words) command e (λ options _ given. harts_few made few options command given)

either : (b : Bool) (one other : Option Command) (command : Command) → (one ≡ Some command → AreFew command) → (other ≡ Some command → AreFew command) → cond b one other ≡ Some command → AreFew command
either true one other command first second e = first e
either false one other command first second e = second e

pub form_few : (words : List (List ℕ)) (command : Command) → form_of words ≡ Some command → AreFew command
form_few [] command e = cc e
form_few (name ∷ words) command e =
    either (bytes_eq name (codes "solo")) _ _ command (solo_few (these [] words) command)
    (either (bytes_eq name (codes "make")) _ _ command (λ given. option_and_then_some make_of (these made_from words) command given (λ options _ made. make_few options command made))
    (λ given. option_and_then_some (with_harts words) (harts_command name) command given (λ made found is. with_few words made (list_few harts_commands all_few name made found) command is))) e

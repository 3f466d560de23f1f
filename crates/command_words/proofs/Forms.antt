-- Clap finds the form of the words.
use Rattle.std.proofs.Common.{◌≡◌, ◌-◌, ◌^◌, ◌||◌, ◌==◌, ℕ, Bool, true, false, cond, List, [], ◌∷◌, codes, Option, Some, None, refl, sym, ap, subst, ◌∙◌, arith}
use Rattle.std.specs.List.{list_all}
use Rattle.std.specs.Option.{option_map, option_and_then}
use Rattle.std.specs.Str.{bytes_eq}
use Rattle.std.proofs.lemmas.Bool.{and_parts}
use Rattle.clap.specs.Walk.{Text, Row}
use Rattle.clap.specs.Simple.{subcommand_of}
use Rattle.clap.specs.Faults.{fault_of}
use Rattle.command_words.specs.App.{lithe_app}
use Rattle.command_words.specs.Parsed.{number_at, harts_at, make_at, command_at, parsed_from}
use Rattle.command_words.specs.Form.{Given, is_known, times, are_these, options_of, these, value_of, number_in, number_of, harts_given, made_from, make_of, harts_alone, harts_command, with_harts, form_of}
use Rattle.command_words.specs.declared.command.Command.{Command}
use Rattle.command_words.specs.declared.command.Command.TheVariants.{Solo, Make}
use Rattle.command_words.proofs.Rules.{rows_for, text_is, or_false}
use Rattle.command_words.proofs.Turns.{leaf, is_dashes}
use Rattle.command_words.proofs.Sound.{NoDashes}
use Rattle.command_words.proofs.Lists.{first_value_is}
use Rattle.command_words.proofs.Leaves.{leaf_fault, leaf_sound, leaf_complete, ReadsThese, once_from, unknown_none}
use Rattle.command_words.proofs.Numbers.{IsNumber, all_numbers, numbers_plain, no_dashes, value_times}
use Rattle.command_words.proofs.Values.{number_digits}
use Rattle.command_words.proofs.Tops.{sub_at, IsElse, else_sub, named_fault, named_rows, other_fault, nothing_fault}

-- ---- the number of an option
same_number : (least most : ℕ) (name : Text) (options : List Given) → number_at least most name (rows_for options) ≡ number_of least most name options
same_number least most name options = ap (option_and_then (number_in least most)) (first_value_is name options)

same_make : (options : List Given) → make_at (rows_for options) ≡ make_of options
same_make options = rw (same_number 0 (2 ^ 64 - 1) (codes "seed") options, same_number 1 40 (codes "size") options, same_number 1 16 (codes "harts") options) refl

these_are : (names words : List Text) (read : ReadsThese names words) → these names words ≡ Some read.options
these_are names words read = rw (read.read, read.these) refl

-- ---- a word is a command's name, or isn't
pub data Named : Text → Type 0 where
  is_solo : Named (codes "solo")
  is_make : Named (codes "make")
  has_harts : {word : Text} → IsElse word → (command : ℕ → Command) → harts_command word ≡ Some command → Named word
  is_other : {word : Text} → IsElse word → harts_command word ≡ None → Named word

named_by : (word : Text) (a b : Bool) (found : Option (ℕ → Command)) → bytes_eq word (codes "solo") ≡ a → bytes_eq word (codes "make") ≡ b → harts_command word ≡ found → Named word
named_by word true b found ea eb ef = subst Named (sym (text_is word (codes "solo") ea)) is_solo
named_by word false true found ea eb ef = subst Named (sym (text_is word (codes "make") eb)) is_make
named_by word false false (Some command) ea eb ef = has_harts (record { solo = ea; make = eb }) command ef
named_by word false false None ea eb ef = is_other (record { solo = ea; make = eb }) ef

named : (word : Text) → Named word
named word = named_by word (bytes_eq word (codes "solo")) (bytes_eq word (codes "make")) (harts_command word) refl refl refl

solo_sub : sub_at (codes "solo") ≡ Some (leaf (codes "solo") [])
solo_sub = refl

make_sub : sub_at (codes "make") ≡ Some (leaf (codes "make") made_from)
make_sub = refl

harts_sub : (word : Text) (command : ℕ → Command) → IsElse word → harts_command word ≡ Some command → sub_at word ≡ Some (leaf word harts_alone)
harts_sub word command is found = else_sub word is ∙ ap (option_map (λ (_ : ℕ → Command). leaf word harts_alone)) found

other_sub : (word : Text) → IsElse word → harts_command word ≡ None → sub_at word ≡ None
other_sub word is found = else_sub word is ∙ ap (option_map (λ (_ : ℕ → Command). leaf word harts_alone)) found

third : {A : Type 0} (a b : Bool) (x y z : A) → a ≡ false → b ≡ false → cond a x (cond b y z) ≡ z
third true b x y z ea eb = cc ea
third false true x y z ea eb = cc eb
third false false x y z ea eb = refl

harts_form : (word : Text) (rest : List Text) (found : Option (ℕ → Command)) → IsElse word → harts_command word ≡ found → form_of (word ∷ rest) ≡ option_and_then (with_harts rest) found
harts_form word rest found is e =
    third (bytes_eq word (codes "solo")) (bytes_eq word (codes "make")) (option_map (λ (options : List Given). Solo) (these [] rest)) (option_and_then make_of (these made_from rest)) (option_and_then (with_harts rest) (harts_command word)) is.solo is.make
    ∙ ap (option_and_then (with_harts rest)) e

abbrev at_rows : List Row → (ℕ → Command) → Option Command
at_rows rows command = option_map command (harts_at rows)

-- ---- words without a fault
solo_right : (rest : List Text) → NoDashes rest → fault_of lithe_app (codes "solo" ∷ rest) ≡ [] → parsed_from (subcommand_of lithe_app (codes "solo" ∷ rest)) ≡ form_of (codes "solo" ∷ rest)
solo_right rest none e =
    let read = leaf_sound (codes "solo") [] rest none (sym (named_fault (codes "solo") [] rest solo_sub) ∙ e) in
    ap parsed_from (named_rows (codes "solo") [] rest solo_sub) ∙ ap (option_map (λ (options : List Given). Solo)) (sym (these_are [] rest read))

make_right : (rest : List Text) → NoDashes rest → fault_of lithe_app (codes "make" ∷ rest) ≡ [] → parsed_from (subcommand_of lithe_app (codes "make" ∷ rest)) ≡ form_of (codes "make" ∷ rest)
make_right rest none e =
    let read = leaf_sound (codes "make") made_from rest none (sym (named_fault (codes "make") made_from rest make_sub) ∙ e) in
    ap parsed_from (named_rows (codes "make") made_from rest make_sub) ∙ ap make_at read.rows ∙ same_make read.options ∙ ap (option_and_then make_of) (sym (these_are made_from rest read))

harts_right : (word : Text) (rest : List Text) (command : ℕ → Command) → IsElse word → harts_command word ≡ Some command → NoDashes rest → fault_of lithe_app (word ∷ rest) ≡ []
    → parsed_from (subcommand_of lithe_app (word ∷ rest)) ≡ form_of (word ∷ rest)
harts_right word rest command is found none e =
    let sub = harts_sub word command is found in
    let read = leaf_sound word harts_alone rest none (sym (named_fault word harts_alone rest sub) ∙ e) in
    let parsed : command_at word (rows_for read.options) ≡ option_map command (harts_at (rows_for read.options)) =
    third (bytes_eq word (codes "solo")) (bytes_eq word (codes "make")) (Some Solo) (make_at (rows_for read.options)) (option_and_then (at_rows (rows_for read.options)) (harts_command word)) is.solo is.make
    ∙ ap (option_and_then (at_rows (rows_for read.options))) found in
    ap parsed_from (named_rows word harts_alone rest sub) ∙ ap (command_at word) read.rows ∙ parsed ∙ ap (option_map command) (same_number 1 16 (codes "harts") read.options)
    ∙ ap (option_and_then (λ (options : List Given). option_map command (harts_given options))) (sym (these_are harts_alone rest read))
    ∙ sym (harts_form word rest (Some command) is found)

right_at : (word : Text) (rest : List Text) → Named word → NoDashes (word ∷ rest) → fault_of lithe_app (word ∷ rest) ≡ [] → parsed_from (subcommand_of lithe_app (word ∷ rest)) ≡ form_of (word ∷ rest)
right_at word rest is_solo none e = solo_right rest none.1 e
right_at word rest is_make none e = make_right rest none.1 e
right_at word rest (has_harts is command found) none e = harts_right word rest command is found none.1 e
right_at word rest (is_other is found) none e = absurd (other_fault word rest (other_sub word is found) none.0 e)

pub parsed_right : (words : List Text) → NoDashes words → fault_of lithe_app words ≡ [] → parsed_from (subcommand_of lithe_app words) ≡ form_of words
parsed_right [] none e = absurd (nothing_fault e)
parsed_right (word ∷ rest) none e = right_at word rest (named word) none e

-- ---- a form has no fault
pub record Serves (words : List Text) : Type 0 where
  pub dashes : NoDashes words
  pub fault : fault_of lithe_app words ≡ []

these_if : (b : Bool) (read options : List Given) → cond b (Some read) None ≡ Some options → (b ≡ true) × (read ≡ options)
these_if true read options e = (refl, cc e)
these_if false read options e = cc e

these_cases : (names : List Text) (read : Option (List Given)) (options : List Given) → option_and_then (λ options. cond (are_these names options) (Some options) None) read ≡ Some options
    → (read ≡ Some options) × (are_these names options ≡ true)
these_cases names None options e = cc e
these_cases names (Some read) options e =
    let parts = these_if (are_these names read) read options e in (ap Some parts.1, subst (λ (o : List Given). are_these names o ≡ true) parts.1 parts.0)

found_these : (names words : List Text) (options : List Given) → these names words ≡ Some options → (options_of words ≡ Some options) × (are_these names options ≡ true)
found_these names words options e = these_cases names (options_of words) options e

each_value : (names : List Text) (options : List Given) (name value : Text) → are_these names options ≡ true → value_of name options ≡ Some value → (known : Bool) → is_known names name ≡ known
    → (is_known names name ≡ true → (value : Text) → value_of name options ≡ Some value → IsNumber value) → IsNumber value
each_value names options name value are v true known each = each known value v
each_value names options name value are v false known each =
    let parts = and_parts (list_all (λ name. times name options == 1) names) (list_all (λ (o : Given). is_known names o.0) options) are in
    absurd (omega (arith, value_times name options value v, unknown_none names options name known parts.1))

serves_leaf : (command : Text) (names rest : List Text) (options : List Given) → these names rest ≡ Some options
    → ((name : Text) → is_known names name ≡ true → (value : Text) → value_of name options ≡ Some value → IsNumber value)
    → NoDashes rest × (leaf_fault command names rest ≡ [])
serves_leaf command names rest options e each =
    let parts = found_these names rest options e in
    let numbers = all_numbers options (λ name. once_from names options parts.1 name (is_known names name) refl)
    (λ name value v. each_value names options name value parts.1 v (is_known names name) refl (each name)) in
    (no_dashes rest None options parts.0 numbers, (leaf_complete command names rest options (no_dashes rest None options parts.0 numbers) parts.0 parts.1 (numbers_plain options numbers)).0)

number_cases : (least most : ℕ) (found : Option Text) (n : ℕ) → option_and_then (number_in least most) found ≡ Some n → (value : Text) → found ≡ Some value → IsNumber value
number_cases least most found n e value v = number_digits least most value n (sym (ap (option_and_then (number_in least most)) v) ∙ e)

number_here : (least most : ℕ) (name : Text) (options : List Given) (n : ℕ) → number_of least most name options ≡ Some n → (value : Text) → value_of name options ≡ Some value → IsNumber value
number_here least most name options n e value v = number_cases least most (value_of name options) n e value v

harts_number : (options : List Given) (n : ℕ) → harts_given options ≡ Some n → (name : Text) → is_known harts_alone name ≡ true → (value : Text) → value_of name options ≡ Some value → IsNumber value
harts_number options n e name known value v =
    let same : codes "harts" ≡ name = text_is (codes "harts") name (sym (or_false (bytes_eq (codes "harts") name)) ∙ known) in
    number_here 1 16 (codes "harts") options n e value (ap (λ (x : Text). value_of x options) same ∙ v)

then_some : {A B : Type 0} (f : A → Option B) (o : Option A) (y : B) → option_and_then f o ≡ Some y → (x : A) × (o ≡ Some x) × (f x ≡ Some y)
then_some f None y e = cc e
then_some f (Some x) y e = (x, refl, e)

map_some : {A B : Type 0} (f : A → B) (o : Option A) (y : B) → option_map f o ≡ Some y → (x : A) × (o ≡ Some x)
map_some f None y e = cc e
map_some f (Some x) y e = (x, refl)

make_known : (name : Text) (options : List Given) (seed size harts : ℕ) → number_of 0 (2 ^ 64 - 1) (codes "seed") options ≡ Some seed → number_of 1 40 (codes "size") options ≡ Some size → harts_given options ≡ Some harts
    → (a b c : Bool) → bytes_eq (codes "seed") name ≡ a → bytes_eq (codes "size") name ≡ b → bytes_eq (codes "harts") name ≡ c → (a || (b || (c || false))) ≡ true → (value : Text) → value_of name options ≡ Some value → IsNumber value
make_known name options seed size harts x k n true b c ea eb ec known value v = number_here 0 (2 ^ 64 - 1) (codes "seed") options seed x value (ap (λ (t : Text). value_of t options) (text_is (codes "seed") name ea) ∙ v)
make_known name options seed size harts x k n false true c ea eb ec known value v = number_here 1 40 (codes "size") options size k value (ap (λ (t : Text). value_of t options) (text_is (codes "size") name eb) ∙ v)
make_known name options seed size harts x k n false false true ea eb ec known value v = number_here 1 16 (codes "harts") options harts n value (ap (λ (t : Text). value_of t options) (text_is (codes "harts") name ec) ∙ v)
make_known name options seed size harts x k n false false false ea eb ec known value v = cc known

solo_serves : (rest : List Text) (command : Command) → form_of (codes "solo" ∷ rest) ≡ Some command → Serves (codes "solo" ∷ rest)
solo_serves rest command e =
    let options = map_some (λ (options : List Given). Solo) (these [] rest) command e in
    let leaf = serves_leaf (codes "solo") [] rest options.0 options.1 (λ name known value v. cc known) in
    record { dashes = (refl, leaf.0); fault = named_fault (codes "solo") [] rest solo_sub ∙ leaf.1 }

make_serves : (rest : List Text) (command : Command) → form_of (codes "make" ∷ rest) ≡ Some command → Serves (codes "make" ∷ rest)
make_serves rest command e =
    let options = then_some make_of (these made_from rest) command e in
    let seed = then_some (λ seed. option_and_then (λ size. option_map (Make seed size) (harts_given options.0)) (number_of 1 40 (codes "size") options.0)) (number_of 0 (2 ^ 64 - 1) (codes "seed") options.0) command options.2 in
    let size = then_some (λ size. option_map (Make seed.0 size) (harts_given options.0)) (number_of 1 40 (codes "size") options.0) command seed.2 in
    let harts = map_some (Make seed.0 size.0) (harts_given options.0) command size.2 in
    let leaf = serves_leaf (codes "make") made_from rest options.0 options.1
    (λ name known value v. make_known name options.0 seed.0 size.0 harts.0 seed.1 size.1 harts.1 (bytes_eq (codes "seed") name) (bytes_eq (codes "size") name) (bytes_eq (codes "harts") name) refl refl refl known value v) in
    record { dashes = (refl, leaf.0); fault = named_fault (codes "make") made_from rest make_sub ∙ leaf.1 }

-- `--` isn't the name of a command.
dashes_case : (b : Bool) (word : Text) (command : ℕ → Command) → harts_command word ≡ Some command → (b ≡ true → word ≡ 45 ∷ 45 ∷ []) → b ≡ false
dashes_case true word command found is = let bad : None ≡ Some command = sym (ap harts_command (is refl)) ∙ found in cc bad
dashes_case false word command found is = refl

harts_serves : (word : Text) (rest : List Text) (made : ℕ → Command) (command : Command) → IsElse word → harts_command word ≡ Some made → form_of (word ∷ rest) ≡ Some command → Serves (word ∷ rest)
harts_serves word rest made command is found e =
    let options = then_some (λ (options : List Given). option_map made (harts_given options)) (these harts_alone rest) command (sym (harts_form word rest (Some made) is found) ∙ e) in
    let harts = map_some made (harts_given options.0) command options.2 in
    let leaf = serves_leaf word harts_alone rest options.0 options.1 (harts_number options.0 harts.0 harts.1) in
    record { dashes = (dashes_case (is_dashes word) word made found (text_is word (45 ∷ 45 ∷ [])), leaf.0); fault = named_fault word harts_alone rest (harts_sub word made is found) ∙ leaf.1 }

serves_at : (word : Text) (rest : List Text) (command : Command) → Named word → form_of (word ∷ rest) ≡ Some command → Serves (word ∷ rest)
serves_at word rest command is_solo e = solo_serves rest command e
serves_at word rest command is_make e = make_serves rest command e
serves_at word rest command (has_harts is made found) e = harts_serves word rest made command is found e
serves_at word rest command (is_other is found) e = let bad : None ≡ Some command = sym (harts_form word rest None is found) ∙ e in cc bad

pub forms_serve : (words : List Text) (command : Command) → form_of words ≡ Some command → Serves words
forms_serve [] command e = cc e
forms_serve (word ∷ rest) command e = serves_at word rest command (named word) e

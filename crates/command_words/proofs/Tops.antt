-- The first word, and the command it names.
use Rattle.std.proofs.Common.{◌≡◌, ◌&&◌, ℕ, Bool, true, false, cond, List, [], ◌∷◌, map, codes, Option, Some, None, is_some, refl, sym, ap, ap₂, ◌∙◌, find, fold}
use Rattle.std.specs.Option.{option_map, option_map_or}
use Rattle.std.specs.Str.{bytes_eq}
use Rattle.clap.specs.Lexer.{long_of, short_of}
use Rattle.clap.specs.Walk.{Rule, Text, Names, Walk, idle, walked, walk, walk_from, nothing_held, finished, rows_after, settled, subcommand_met, answers_to}
use Rattle.clap.specs.Simple.{Shape, built, names_of, label_of, entered, rows_at, subcommand_of}
use Rattle.clap.specs.Faults.{fault_of, entered_fault, level_fault, walk_fault, turn_fault, settle_fault, defaults_fault, check_fault}
use Rattle.clap.specs.Kinds.{Kinds, or_else}
use Rattle.clap.proofs.OnLiterals.{clap_on_literals}
use Rattle.clap.proofs.FaultLemmas.{stopped_fault}
use Rattle.clap.proofs.WalkLemmas.{walk_stopped, find-map}
use Rattle.clap.specs.declared.error.kind.ErrorKind.TheVariants.{UnknownArgument, InvalidSubcommand}
use Rattle.command_words.specs.App.{lithe_app}
use Rattle.command_words.specs.Form.{harts_alone, harts_commands, harts_command}
use Rattle.command_words.specs.declared.command.Command.{Command}
use Rattle.command_words.proofs.Rules.{option_rules, or_false, text_is, text_same}
use Rattle.command_words.proofs.Turns.{leaf, is_dashes}
use Rattle.command_words.proofs.Leaves.{leaf_fault}
use Rattle.command_words.proofs.Sound.{IsDashed, refuses, passes, dashed}
use Rattle.command_words.proofs.Walks.{nil_both, cons_nil}

-- The program that is built, the names of its commands, and the command that a word names.
abbrev top_shape : Shape
top_shape = (built lithe_app).top

abbrev top_names : Names
top_names = names_of (built lithe_app)

abbrev pub sub_at : Text → Option Shape
sub_at word = find (λ s. answers_to word (label_of s)) (built lithe_app).subs

-- ---- the commands with only a number of harts
-- the word is the name of none of the others
pub record IsElse (word : Text) : Type 0 where
  pub solo : bytes_eq word (codes "solo") ≡ false
  pub make : bytes_eq word (codes "make") ≡ false

same_cases : (a b : Bool) → (a ≡ true → b ≡ true) → (b ≡ true → a ≡ true) → a ≡ b
same_cases true b to back = sym (to refl)
same_cases false true to back = back refl
same_cases false false to back = refl

either_way : (a b : Text) → bytes_eq a b ≡ bytes_eq b a
either_way a b = same_cases (bytes_eq a b) (bytes_eq b a) (λ e. ap (bytes_eq b) (text_is a b e) ∙ text_same b) (λ e. ap (bytes_eq a) (text_is b a e) ∙ text_same a)

abbrev with_number : Text → Option (ℕ → Command) → Option Shape
with_number word found = option_map (λ _. leaf word harts_alone) found

this_or_later : (b : Bool) (name word : Text) (command : Text × (ℕ → Command)) (subs : Option Shape) (later : Option (Text × (ℕ → Command))) → (b ≡ true → name ≡ word)
    → subs ≡ with_number word (option_map (λ known. known.1) later)
    → cond b (Some (leaf name harts_alone)) subs ≡ with_number word (option_map (λ known. known.1) (cond b (Some command) later))
this_or_later true name word command subs later same e = ap (λ (n : Text). Some (leaf n harts_alone)) (same refl)
this_or_later false name word command subs later same e = e

in_list : (known : List (Text × (ℕ → Command))) (word : Text) → find (λ s. answers_to word (label_of s)) (map (λ k. leaf k.0 harts_alone) known)
    ≡ with_number word (option_map (λ k. k.1) (find (λ k. bytes_eq word k.0) known))
in_list [] word = refl
in_list (k ∷ more) word =
    rw (or_false (bytes_eq k.0 word), either_way k.0 word)
    (this_or_later (bytes_eq word k.0) k.0 word k (find (λ s. answers_to word (label_of s)) (map (λ k. leaf k.0 harts_alone) more)) (find (λ k. bytes_eq word k.0) more) (λ e. sym (text_is word k.0 e)) (in_list more word))

pub else_sub : (word : Text) → IsElse word → sub_at word ≡ with_number word (harts_command word)
else_sub word is =
    let solo : bytes_eq (codes "solo") word ≡ false = either_way (codes "solo") word ∙ is.solo in
    let make : bytes_eq (codes "make") word ≡ false = either_way (codes "make") word ∙ is.make in
    rw (solo, make) (in_list harts_commands word)

-- ---- a word that names a command
-- the fault of all words, by the walk's end and fault
abbrev whole_fault : Walk → Kinds → Kinds
whole_fault w fault =
    let a = built lithe_app in
    or_else fault
    (or_else (entered_fault a w.stopped) (or_else (settle_fault a.top.rules a.top.args_override_self w.held)
    (or_else (defaults_fault (settled a.top.rules w.held).rows a.top.rules)
    (check_fault a.top (finished a.top.rules w.held) (is_some (entered a w.stopped))))))

abbrev top_walk : List Text → Walk
top_walk words = walk top_shape.rules top_names nothing_held words

abbrev top_fault : List Text → Kinds
top_fault words = walk_fault top_shape top_names (walk_from nothing_held) words

fault_is : (words : List Text) → fault_of lithe_app words ≡ whole_fault (top_walk words) (top_fault words)
fault_is words = refl

abbrev stopped_at : Text → List Text → Walk
stopped_at name rest = record { held = nothing_held; waiting = idle; position = 1; is_trailing = false; stopped = Some (name, rest) }

names_only : (found : Option Shape) → option_map (λ (s : Text × List Text). s.0) (option_map label_of found) ≡ option_map (λ (s : Shape). s.name) found
names_only None = refl
names_only (Some s) = refl

met_is : (word : Text) → subcommand_met top_names idle word ≡ option_map (λ (s : Shape). s.name) (sub_at word)
met_is word = ap (option_map (λ s. s.0)) (sym (find-map (answers_to word) label_of (built lithe_app).subs)) ∙ names_only (sub_at word)

stops : (rules : List Rule) (names : Names) (word : Text) → subcommand_met names idle word ≡ Some word → walked rules names (walk_from nothing_held) word ≡ stopped_at word []
unfolding walked
stops rules names word met = rw met refl

and_false : (b : Bool) → (b && false) ≡ false
and_false true = refl
and_false false = refl

turn_stops : (s : Shape) (names : Names) (word : Text) → s.disable_help_subcommand ≡ true → subcommand_met names idle word ≡ Some word → turn_fault s names (walk_from nothing_held) word ≡ []
turn_stops s names word no_help met = rw (met, no_help, and_false (bytes_eq word (codes "help"))) refl

named_met : (word : Text) (names : List Text) → sub_at word ≡ Some (leaf word names) → subcommand_met top_names idle word ≡ Some word
named_met word names is = met_is word ∙ ap (option_map (λ (s : Shape). s.name)) is

named_walk : (word : Text) (rest : List Text) → subcommand_met top_names idle word ≡ Some word → top_walk (word ∷ rest) ≡ stopped_at word rest
named_walk word rest met =
    ap (λ (w : Walk). fold (walked top_shape.rules top_names) w rest) (stops top_shape.rules top_names word met)
    ∙ sym (walk_stopped top_shape.rules top_names (stopped_at word []) word [] rest)

named_top : (word : Text) (rest : List Text) → subcommand_met top_names idle word ≡ Some word → top_fault (word ∷ rest) ≡ []
unfolding walk_fault
named_top word rest met =
    ap₂ or_else (turn_stops top_shape top_names word refl met)
    (ap (λ (w : Walk). walk_fault top_shape top_names w rest) (stops top_shape.rules top_names word met) ∙ stopped_fault top_shape top_names (stopped_at word []) (word, []) rest)

or_nil : (kinds : Kinds) → or_else kinds [] ≡ kinds
or_nil [] = refl
or_nil (k ∷ ks) = refl

-- The fault of the words after a word, if it names the command that was found.
abbrev behind : List Text → Option Shape → Kinds
behind rest found =
    or_else (option_map_or (λ (s : Shape). level_fault s [] nothing_held rest false []) found [])
    (check_fault top_shape [] (is_some (option_map (λ (s : Shape). rows_at s rest) found)))

behind_is : (word : Text) (rest : List Text) → whole_fault (stopped_at word rest) [] ≡ behind rest (sub_at word)
unfolding defaults_fault
behind_is word rest = refl

pub named_fault : (word : Text) (names rest : List Text) → sub_at word ≡ Some (leaf word names) → fault_of lithe_app (word ∷ rest) ≡ leaf_fault word names rest
named_fault word names rest is =
    let met = named_met word names is in
    fault_is (word ∷ rest) ∙ ap₂ whole_fault (named_walk word rest met) (named_top word rest met) ∙ behind_is word rest ∙ ap (behind rest) is ∙ or_nil (leaf_fault word names rest)

pub named_rows : (word : Text) (names rest : List Text) → sub_at word ≡ Some (leaf word names) → subcommand_of lithe_app (word ∷ rest) ≡ Some (word, rows_after (option_rules names) [] rest)
named_rows word names rest is =
    ap (λ (w : Walk). entered (built lithe_app) w.stopped) (named_walk word rest (named_met word names is)) ∙ ap (option_map (λ (s : Shape). rows_at s rest)) is

-- ---- a word that names none
abbrev turn_in : Names → Text → Kinds
turn_in names word = turn_fault top_shape names (walk_from nothing_held) word

other_dashed : (names : Names) (word flags : Text) → subcommand_met names idle word ≡ None → is_dashes word ≡ false → long_of word ≡ None → short_of word ≡ Some flags → IsDashed [] [] None flags → turn_in names word ≡ [] → ⊥
other_dashed names word flags none plain long short (refuses fault) e =
    let bad : turn_in names word ≡ UnknownArgument ∷ [] = rw (none, plain, long, short, fault false) refl in cons_nil UnknownArgument [] (sym bad ∙ e)
other_dashed names word flags none plain long short (passes fault met) e =
    let bad : turn_in names word ≡ UnknownArgument ∷ InvalidSubcommand ∷ [] = rw (none, plain, long, short, fault false, met) refl in cons_nil UnknownArgument (InvalidSubcommand ∷ []) (sym bad ∙ e)

other_short : (names : Names) (word : Text) → subcommand_met names idle word ≡ None → is_dashes word ≡ false → long_of word ≡ None → (short : Option Text) → short_of word ≡ short → turn_in names word ≡ [] → ⊥
other_short names word none plain long None short e =
    let bad : turn_in names word ≡ UnknownArgument ∷ InvalidSubcommand ∷ [] = rw (none, plain, long, short) refl in cons_nil UnknownArgument (InvalidSubcommand ∷ []) (sym bad ∙ e)
other_short names word none plain long (Some flags) short e = other_dashed names word flags none plain long short (dashed [] [] None word flags short) e

other_turn : (names : Names) (word : Text) → subcommand_met names idle word ≡ None → is_dashes word ≡ false → (long : Option (Text × Option Text)) → long_of word ≡ long → turn_in names word ≡ [] → ⊥
other_turn names word none plain None long e = other_short names word none plain long (short_of word) refl e
other_turn names word none plain (Some p) long e =
    let bad : turn_in names word ≡ UnknownArgument ∷ [] = rw (none, plain, long) refl in cons_nil UnknownArgument [] (sym bad ∙ e)

top_first : (word : Text) (rest : List Text) → top_fault (word ∷ rest) ≡ [] → turn_in top_names word ≡ []
unfolding walk_fault
top_first word rest e = (nil_both (turn_in top_names word) (walk_fault top_shape top_names (walked top_shape.rules top_names (walk_from nothing_held) word) rest) e).0

pub other_fault : (word : Text) (rest : List Text) → sub_at word ≡ None → is_dashes word ≡ false → fault_of lithe_app (word ∷ rest) ≡ [] → ⊥
other_fault word rest none plain e =
    let w = top_walk (word ∷ rest) in
    let a = built lithe_app in
    let first = nil_both (top_fault (word ∷ rest)) (or_else (entered_fault a w.stopped) (or_else (settle_fault a.top.rules a.top.args_override_self w.held)
    (or_else (defaults_fault (settled a.top.rules w.held).rows a.top.rules)
    (check_fault a.top (finished a.top.rules w.held) (is_some (entered a w.stopped)))))) e in
    other_turn top_names word (met_is word ∙ ap (option_map (λ (s : Shape). s.name)) none) plain (long_of word) refl (top_first word rest first.0)

pub nothing_fault : fault_of lithe_app [] ≡ [] → ⊥
unfolding clap_on_literals
nothing_fault e = cc e

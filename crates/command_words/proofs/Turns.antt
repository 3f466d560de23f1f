-- The effect of one word on the walk through the words after a command.
use Rattle.std.proofs.Common.{◌≡◌, Bool, true, false, List, [], ◌∷◌, Option, Some, None, refl}
use Rattle.std.specs.Str.{bytes_eq}
use Rattle.clap.specs.Lexer.{long_of, short_of}
use Rattle.clap.specs.Walk.{Text, Row, Held, Walk, Waiting, idle, option, walked, used, settled_rows}
use Rattle.clap.specs.Simple.{Shape, built_leaf, inherited}
use Rattle.clap.specs.Faults.{turn_fault, settle_fault, react_fault}
use Rattle.clap.specs.Kinds.{or_else}
use Rattle.clap.specs.declared.error.kind.ErrorKind.TheVariants.{UnknownArgument}
use Rattle.command_words.specs.App.{lithe_app, command_with}
use Rattle.command_words.specs.Form.{is_known}
use Rattle.command_words.proofs.Rules.{option_rule, option_rules, known_long, unknown_long, known_id, no_index, text_same}

-- A command that is built.
abbrev pub leaf : Text → List Text → Shape
leaf name names = record (built_leaf (inherited lithe_app.top (command_with name []))) { rules = option_rules names }

abbrev pub held : List Row → Option (Text × List Text) → Held
held rows pending = record { rows = rows; pending = pending; skip = 0 }

abbrev pub at : List Row → Option (Text × List Text) → Waiting → Walk
at rows pending waiting = record { held = held rows pending; waiting = waiting; position = 1; is_trailing = false; stopped = None }

abbrev pub is_dashes : Text → Bool
is_dashes word = bytes_eq word (45 ∷ 45 ∷ [])

-- `--name=value`
pub joined_fault : (command : Text) (names : List Text) (rows : List Row) (pending : Option (Text × List Text)) (waiting : Waiting) (word name value : Text)
    → is_dashes word ≡ false → long_of word ≡ Some (name, Some value) → is_known names name ≡ true
    → turn_fault (leaf command names) [] (at rows pending waiting) word ≡ or_else (react_fault (option_rules names) false (option_rule name) (value ∷ []) (held rows pending)) []
joined_fault command names rows pending idle word name value plain long known = rw (plain, long, known_long names name known) refl
joined_fault command names rows pending waiting word name value plain long known = rw (plain, long, known_long names name known) refl

pub joined_walk : (names : List Text) (rows : List Row) (pending : Option (Text × List Text)) (waiting : Waiting) (word name value : Text)
    → is_dashes word ≡ false → long_of word ≡ Some (name, Some value) → is_known names name ≡ true
    → walked (option_rules names) [] (at rows pending waiting) word ≡ at (used (option_rule name) (value ∷ []) (settled_rows (option_rules names) pending rows)) None idle
unfolding walked
joined_walk names rows pending idle word name value plain long known = rw (plain, long, known_long names name known) refl
joined_walk names rows pending waiting word name value plain long known = rw (plain, long, known_long names name known) refl

-- `--name`
pub bare_fault : (command : Text) (names : List Text) (rows : List Row) (pending : Option (Text × List Text)) (waiting : Waiting) (word name : Text)
    → is_dashes word ≡ false → long_of word ≡ Some (name, None) → is_known names name ≡ true
    → turn_fault (leaf command names) [] (at rows pending waiting) word ≡ or_else (settle_fault (option_rules names) false (held rows pending)) []
bare_fault command names rows pending idle word name plain long known = rw (plain, long, known_long names name known) refl
bare_fault command names rows pending waiting word name plain long known = rw (plain, long, known_long names name known) refl

pub bare_walk : (names : List Text) (rows : List Row) (pending : Option (Text × List Text)) (waiting : Waiting) (word name : Text)
    → is_dashes word ≡ false → long_of word ≡ Some (name, None) → is_known names name ≡ true
    → walked (option_rules names) [] (at rows pending waiting) word ≡ at (settled_rows (option_rules names) pending rows) (Some (name, [])) (option name)
unfolding walked
bare_walk names rows pending idle word name plain long known = rw (plain, long, known_long names name known) refl
bare_walk names rows pending waiting word name plain long known = rw (plain, long, known_long names name known) refl

-- An option that the command doesn't have.
pub unknown_fault : (command : Text) (names : List Text) (rows : List Row) (pending : Option (Text × List Text)) (waiting : Waiting) (word name : Text) (value : Option Text)
    → is_dashes word ≡ false → long_of word ≡ Some (name, value) → is_known names name ≡ false
    → turn_fault (leaf command names) [] (at rows pending waiting) word ≡ UnknownArgument ∷ []
unknown_fault command names rows pending idle word name value plain long known = rw (plain, long, unknown_long names name known) refl
unknown_fault command names rows pending waiting word name value plain long known = rw (plain, long, unknown_long names name known) refl

-- A word that is no flag, after an option that waits for a value, and after none.
pub value_fault : (command : Text) (names : List Text) (rows : List Row) (name word : Text) → is_dashes word ≡ false → long_of word ≡ None → short_of word ≡ None → is_known names name ≡ true
    → turn_fault (leaf command names) [] (at rows (Some (name, [])) (option name)) word ≡ []
value_fault command names rows name word plain long short known = rw (plain, long, short) refl

pub value_walk : (names : List Text) (rows : List Row) (name word : Text) → is_dashes word ≡ false → long_of word ≡ None → short_of word ≡ None → is_known names name ≡ true
    → walked (option_rules names) [] (at rows (Some (name, [])) (option name)) word ≡ at rows (Some (name, word ∷ [])) idle
unfolding walked
value_walk names rows name word plain long short known = rw (plain, long, short, known_id names name known, text_same name) refl

pub stray_fault : (command : Text) (names : List Text) (rows : List Row) (pending : Option (Text × List Text)) (word : Text) → is_dashes word ≡ false → long_of word ≡ None → short_of word ≡ None
    → turn_fault (leaf command names) [] (at rows pending idle) word ≡ UnknownArgument ∷ []
stray_fault command names rows pending word plain long short = rw (plain, long, short, no_index names 1) refl

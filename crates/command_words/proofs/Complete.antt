-- The walk through words that give options has no fault, and finds these options.
use Rattle.std.proofs.Common.{◌≡◌, ◌+◌, ℕ, Bool, true, false, cond, List, [], ◌∷◌, ◌++◌, Option, Some, None, refl, sym, ap, subst, ◌∙◌, arith, append_assoc, append-nil, fold}
use Rattle.std.specs.List.{list_all}
use Rattle.std.specs.Str.{bytes_eq}
use Rattle.std.proofs.lemmas.Bool.{and_parts}
use Rattle.std.proofs.lemmas.List.Folds.{list_all-append}
use Rattle.clap.specs.Lexer.{long_of, short_of}
use Rattle.clap.specs.Walk.{Text, Row, Walk, idle, option, walked, used, settled_rows, has_row}
use Rattle.clap.specs.Faults.{turn_fault, settle_fault, react_fault, use_fault, walk_fault}
use Rattle.clap.specs.Kinds.{Kinds, or_else}
use Rattle.command_words.specs.Form.{Given, is_known, times, options_from, option_at, with_option}
use Rattle.command_words.proofs.Rules.{option_rule, option_rules, rows_for, known_id, text_same}
use Rattle.command_words.proofs.Turns.{leaf, held, at, is_dashes, joined_fault, joined_walk, bare_fault, bare_walk, value_fault, value_walk}
use Rattle.command_words.proofs.Walks.{State, between, waits, open_one, walk_at, with_last, found_in, waiting_in, AreOnce, new_use, settle_last}
use Rattle.command_words.proofs.Sound.{NoDashes, end_of, Turns}
use Rattle.command_words.proofs.Lists.{used_new, none_rows}

-- A value that can't be read as an option.
abbrev pub IsPlain : Text → Type 0
IsPlain value = (long_of value ≡ None) × (short_of value ≡ None)

abbrev pub ArePlain : List Given → Type 0
ArePlain [] = Unit {0}
ArePlain (o ∷ more) = IsPlain o.1 × ArePlain more

-- ---- options that occur once
both_cases : (b : Bool) (m n k : ℕ) → m ≡ n + k → cond b (1 + m) m ≡ cond b (1 + n) n + k
both_cases true m n k e = omega arith
both_cases false m n k e = e

times_both : (name : Text) (a b : List Given) → times name (a ++ b) ≡ times name a + times name b
times_both name [] b = omega arith
times_both name (x ∷ more) b = both_cases (bytes_eq x.0 name) (times name (more ++ b)) (times name more) (times name b) (times_both name more b)

pub front_once : (names : List Text) (a b : List Given) → AreOnce names (a ++ b) → AreOnce names a
front_once names a b are = record {
  once = λ name. omega (arith, times_both name a b, are.once name);
  known = (and_parts (list_all (λ (o : Given). is_known names o.0) a) (list_all (λ (o : Given). is_known names o.0) b) (sym (list_all-append (λ (o : Given). is_known names o.0) a b) ∙ are.known)).0;
}

next_known : (names : List Text) (a : List Given) (o : Given) (b : List Given) → AreOnce names (a ++ o ∷ b) → is_known names o.0 ≡ true
next_known names a o b are =
    let parts = and_parts (list_all (λ (o : Given). is_known names o.0) a) (list_all (λ (o : Given). is_known names o.0) (o ∷ b)) (sym (list_all-append (λ (o : Given). is_known names o.0) a (o ∷ b)) ∙ are.known) in
    (and_parts (is_known names o.0) (list_all (λ (o : Given). is_known names o.0) b) parts.1).0

next_new : (names : List Text) (a : List Given) (o : Given) (b : List Given) → AreOnce names (a ++ o ∷ b) → has_row o.0 (rows_for a) ≡ false
next_new names a o b are =
    let here : times o.0 (o ∷ b) ≡ 1 + times o.0 b = rw (text_same o.0) refl in
    none_rows o.0 a (omega (arith, times_both o.0 a (o ∷ b), here, are.once o.0))

-- ---- settling
pub settles_well : (names : List Text) (found : List Given) (last : Option Given) → AreOnce names (with_last found last)
    → (settle_fault (option_rules names) false (held (rows_for found) (open_one last)) ≡ []) × (settled_rows (option_rules names) (open_one last) (rows_for found) ≡ rows_for (with_last found last))
settles_well names found None are = (refl, refl)
settles_well names found (Some o) are =
    let known = next_known names found o [] are in
    let none = next_new names found o [] are in (
      settle_last names (rows_for found) o known ∙ new_use o.0 o.1 (rows_for found) none,
      rw (known_id names o.0 known) (used_new o.0 o.1 found none),
    )

-- ---- the walk
pub record WalksWell (command : Text) (names : List Text) (state : State) (words : List Text) (options : List Given) : Type 0 where
  pub walks : walk_fault (leaf command names) [] (walk_at state) words ≡ []
  pub settled : settle_fault (option_rules names) false (end_of names state words).held ≡ []
  pub rows : settled_rows (option_rules names) (end_of names state words).held.pending (end_of names state words).held.rows ≡ rows_for options

pub nil_nil : (a b : Kinds) → a ≡ [] → b ≡ [] → or_else a b ≡ []
nil_nil a b ea eb = rw (ea, eb) refl

well_after : (command : Text) (names : List Text) (state next : State) (word : Text) (more : List Text) (options : List Given)
    → turn_fault (leaf command names) [] (walk_at state) word ≡ [] → Turns names state word next → WalksWell command names next more options → WalksWell command names state (word ∷ more) options
unfolding walk_fault
well_after command names state next word more options fault turn behind =
    record {
      walks = nil_nil (turn_fault (leaf command names) [] (walk_at state) word) (walk_fault (leaf command names) [] (walked (option_rules names) [] (walk_at state) word) more) fault
          (subst (λ (w : Walk). walk_fault (leaf command names) [] w more ≡ []) (sym turn) behind.walks);
      settled = subst (λ (w : Walk). settle_fault (option_rules names) false (fold (walked (option_rules names) []) w more).held ≡ []) (sym turn) behind.settled;
      rows = subst (λ (w : Walk). settled_rows (option_rules names) (fold (walked (option_rules names) []) w more).held.pending (fold (walked (option_rules names) []) w more).held.rows ≡ rows_for options) (sym turn) behind.rows;
    }

abbrev Behind : Text → List Text → List Text → Type 0
Behind command names more = (state : State) (options : List Given) → options_from (waiting_in state) more ≡ Some options → AreOnce names (found_in state ++ options) → ArePlain options
    → WalksWell command names state more (found_in state ++ options)

pub first_and_rest : (o : Given) (rest : Option (List Given)) (options : List Given) → with_option o rest ≡ Some options → (more : List Given) × (rest ≡ Some more) × (o ∷ more ≡ options)
first_and_rest o None options e = cc e
first_and_rest o (Some more) options e = (more, refl, cc e)

-- `--name=value`
joined_well : (command : Text) (names : List Text) (found : List Given) (last : Option Given) (word name value : Text) (more : List Text) (rest : List Given) → is_dashes word ≡ false → Behind command names more
    → long_of word ≡ Some (name, Some value) → options_from None more ≡ Some rest → AreOnce names (with_last found last ++ (name, value) ∷ rest) → ArePlain rest
    → WalksWell command names (between found last) (word ∷ more) (with_last found last ++ (name, value) ∷ rest)
joined_well command names found last word name value more rest other behind long read are plain =
    let all = with_last found last in
    let known = next_known names all (name, value) rest are in
    let none = next_new names all (name, value) rest are in
    let done = settles_well names found last (front_once names all ((name, value) ∷ rest) are) in
    let whole : (all ++ (name, value) ∷ []) ++ rest ≡ all ++ (name, value) ∷ rest = append_assoc all ((name, value) ∷ []) rest in
    let uses : use_fault false (option_rule name) (value ∷ []) (settled_rows (option_rules names) (open_one last) (rows_for found)) ≡ [] =
    ap (λ (rows : List Row). use_fault false (option_rule name) (value ∷ []) rows) done.1 ∙ new_use name value (rows_for all) none in
    let fault : turn_fault (leaf command names) [] (walk_at (between found last)) word ≡ [] =
    joined_fault command names (rows_for found) (open_one last) idle word name value other long known
    ∙ nil_nil (react_fault (option_rules names) false (option_rule name) (value ∷ []) (held (rows_for found) (open_one last))) []
    (nil_nil (settle_fault (option_rules names) false (held (rows_for found) (open_one last))) (use_fault false (option_rule name) (value ∷ []) (settled_rows (option_rules names) (open_one last) (rows_for found))) done.0 uses) refl in
    let turn : Turns names (between found last) word (between (all ++ (name, value) ∷ []) None) =
    joined_walk names (rows_for found) (open_one last) idle word name value other long known
    ∙ ap (λ (rows : List Row). at (used (option_rule name) (value ∷ []) rows) None idle) done.1
    ∙ ap (λ (rows : List Row). at rows None idle) (used_new name value all none) in
    subst (WalksWell command names (between found last) (word ∷ more)) whole (
    well_after command names (between found last) (between (all ++ (name, value) ∷ []) None) word more ((all ++ (name, value) ∷ []) ++ rest) fault turn
    (behind (between (all ++ (name, value) ∷ []) None) rest read (subst (AreOnce names) (sym whole) are) plain)
    )

-- `--name`, with its value behind it
bare_well : (command : Text) (names : List Text) (found : List Given) (last : Option Given) (word name : Text) (more : List Text) (options : List Given) → is_dashes word ≡ false → Behind command names more
    → long_of word ≡ Some (name, None) → options_from (Some name) more ≡ Some options → is_known names name ≡ true → AreOnce names (with_last found last ++ options) → ArePlain options
    → WalksWell command names (between found last) (word ∷ more) (with_last found last ++ options)
bare_well command names found last word name more options other behind long read known are plain =
    let all = with_last found last in
    let done = settles_well names found last (front_once names all options are) in
    let fault : turn_fault (leaf command names) [] (walk_at (between found last)) word ≡ [] =
    bare_fault command names (rows_for found) (open_one last) idle word name other long known
    ∙ nil_nil (settle_fault (option_rules names) false (held (rows_for found) (open_one last))) [] done.0 refl in
    let turn : Turns names (between found last) word (waits all name) =
    bare_walk names (rows_for found) (open_one last) idle word name other long known ∙ ap (λ (rows : List Row). at rows (Some (name, [])) (option name)) done.1 in
    well_after command names (between found last) (waits all name) word more (all ++ options) fault turn (behind (waits all name) options read are plain)

-- The option that waits for a value is among those that are read.
waits_known : (names : List Text) (found : List Given) (name : Text) (more : List Text) (options : List Given) → options_from (Some name) more ≡ Some options → AreOnce names (found ++ options) → is_known names name ≡ true
waits_known names found name [] options e are = cc e
waits_known names found name (word ∷ more) options e are =
    let parts = first_and_rest (name, word) (options_from None more) options e in
    next_known names found (name, word) parts.0 (subst (λ (o : List Given). AreOnce names (found ++ o)) (sym parts.2) are)

between_well : (command : Text) (names : List Text) (found : List Given) (last : Option Given) (word : Text) (more : List Text) (options : List Given) → is_dashes word ≡ false → Behind command names more
    → (long : Option (Text × Option Text)) → long_of word ≡ long → option_at long (λ waits. options_from waits more) ≡ Some options → AreOnce names (with_last found last ++ options) → ArePlain options
    → WalksWell command names (between found last) (word ∷ more) (with_last found last ++ options)
between_well command names found last word more options other behind None long read are plain = cc read
between_well command names found last word more options other behind (Some (name, None)) long read are plain =
    bare_well command names found last word name more options other behind long read (waits_known names (with_last found last) name more options read are) are plain
between_well command names found last word more options other behind (Some (name, Some value)) long read are plain =
    let parts = first_and_rest (name, value) (options_from None more) options read in
    subst (λ (o : List Given). WalksWell command names (between found last) (word ∷ more) (with_last found last ++ o)) parts.2 (
    joined_well command names found last word name value more parts.0 other behind long parts.1
    (subst (λ (o : List Given). AreOnce names (with_last found last ++ o)) (sym parts.2) are) (subst ArePlain (sym parts.2) plain).1
    )

waits_well : (command : Text) (names : List Text) (found : List Given) (name word : Text) (more : List Text) (rest : List Given) → is_dashes word ≡ false → Behind command names more
    → options_from None more ≡ Some rest → AreOnce names (found ++ (name, word) ∷ rest) → IsPlain word → ArePlain rest
    → WalksWell command names (waits found name) (word ∷ more) (found ++ (name, word) ∷ rest)
waits_well command names found name word more rest other behind read are plain plains =
    let known = next_known names found (name, word) rest are in
    let whole : (found ++ (name, word) ∷ []) ++ rest ≡ found ++ (name, word) ∷ rest = append_assoc found ((name, word) ∷ []) rest in
    subst (WalksWell command names (waits found name) (word ∷ more)) whole (
    well_after command names (waits found name) (between found (Some (name, word))) word more ((found ++ (name, word) ∷ []) ++ rest)
    (value_fault command names (rows_for found) name word other plain.0 plain.1 known) (value_walk names (rows_for found) name word other plain.0 plain.1 known)
    (behind (between found (Some (name, word))) rest read (subst (AreOnce names) (sym whole) are) plains)
    )

pub complete : (command : Text) (names : List Text) (words : List Text) (state : State) (options : List Given) → NoDashes words → options_from (waiting_in state) words ≡ Some options
    → AreOnce names (found_in state ++ options) → ArePlain options → WalksWell command names state words (found_in state ++ options)
unfolding walk_fault
complete command names [] (between found last) options none read are plain =
    let same : [] ≡ options = cc read in
    let whole : with_last found last ≡ with_last found last ++ options = sym (append-nil (with_last found last)) ∙ ap (λ (o : List Given). with_last found last ++ o) same in
    let done = settles_well names found last (subst (AreOnce names) (sym whole) are) in
    record { walks = refl; settled = done.0; rows = done.1 ∙ ap rows_for whole }
complete command names [] (waits found name) options none read are plain = cc read
complete command names (word ∷ more) (between found last) options none read are plain =
    between_well command names found last word more options none.0 (λ state options' read' are' plain'. complete command names more state options' none.1 read' are' plain') (long_of word) refl read are plain
complete command names (word ∷ more) (waits found name) options none read are plain =
    let parts = first_and_rest (name, word) (options_from None more) options read in
    let plains = subst ArePlain (sym parts.2) plain in
    subst (λ (o : List Given). WalksWell command names (waits found name) (word ∷ more) (found ++ o)) parts.2 (
    waits_well command names found name word more parts.0 none.0 (λ state options' read' are' plain'. complete command names more state options' none.1 read' are' plain') parts.1
    (subst (λ (o : List Given). AreOnce names (found ++ o)) (sym parts.2) are) plains.0 plains.1
    )

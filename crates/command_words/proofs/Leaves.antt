-- A command's own words have no fault iff they give the command's options, each once.
use Rattle.std.proofs.Common.{◌≡◌, ◌+◌, ◌≤◌, ◌&&◌, ◌==◌, ℕ, Bool, true, false, cond, not, List, [], ◌∷◌, Some, None, refl, sym, ap, subst, ◌∙◌, arith}
use Rattle.std.specs.List.{list_any, list_all}
use Rattle.std.specs.Str.{bytes_eq}
use Rattle.std.proofs.lemmas.Bool.{and_parts, eqb-true}
use Rattle.std.proofs.lemmas.Bool.Decides.{nat_tests}
use Rattle.clap.specs.Walk.{Rule, Text, Row, nothing_held, rows_after, finished, settled_rows}
use Rattle.clap.specs.Faults.{level_fault, walk_fault, settle_fault, defaults_fault, check_fault}
use Rattle.clap.specs.Kinds.{Kinds, or_else}
use Rattle.clap.specs.Takes.{is_given}
use Rattle.clap.specs.declared.error.kind.ErrorKind.TheVariants.{MissingRequiredArgument}
use Rattle.command_words.specs.Form.{Given, is_known, times, are_these, options_of}
use Rattle.command_words.proofs.Rules.{option_rules, rows_for, neither, either, text_is}
use Rattle.command_words.proofs.Turns.{leaf}
use Rattle.command_words.proofs.Walks.{between, walk_at, AreOnce, nil_both, cons_nil}
use Rattle.command_words.proofs.Sound.{NoDashes, end_of, sound}
use Rattle.command_words.proofs.Complete.{ArePlain, complete, nil_nil}
use Rattle.command_words.proofs.Lists.{given_rows, no_defaults, finished_as}

abbrev pub leaf_fault : Text → List Text → List Text → Kinds
leaf_fault command names words = level_fault (leaf command names) [] nothing_held words false []

abbrev missing : List Text → List Row → Bool
missing names rows = list_any (λ (a : Rule). a.required && not (is_given a.id rows)) (option_rules names)

missing_kinds : (b : Bool) → cond b (MissingRequiredArgument ∷ []) [] ≡ [] → b ≡ false
missing_kinds true e = absurd (cons_nil MissingRequiredArgument [] e)
missing_kinds false e = refl

one_given : (n : ℕ) → n ≤ 1 → (b : Bool) → b ≡ not (n == 0) → not b ≡ false → (n == 1) ≡ true
one_given n few b is there = grind (arith, nat_tests)

given_one : (n : ℕ) (b : Bool) → b ≡ not (n == 0) → (n == 1) ≡ true → not b ≡ false
given_one n b is one = grind (arith, nat_tests)

each_once : (names all : List Text) (options : List Given) → AreOnce all options → missing names (rows_for options) ≡ false → list_all (λ name. times name options == 1) names ≡ true
each_once [] all options are e = refl
each_once (name ∷ more) all options are e =
    let parts = neither (not (is_given name (rows_for options))) (missing more (rows_for options)) e in
    rw (one_given (times name options) (are.once name) (is_given name (rows_for options)) (given_rows name options) parts.0, each_once more all options are parts.1) refl

none_missing : (names : List Text) (options : List Given) → list_all (λ name. times name options == 1) names ≡ true → missing names (rows_for options) ≡ false
none_missing [] options e = refl
none_missing (name ∷ more) options e =
    let parts = and_parts (times name options == 1) (list_all (λ name. times name options == 1) more) e in
    rw (given_one (times name options) (is_given name (rows_for options)) (given_rows name options) parts.0, none_missing more options parts.1) refl

-- The options that a command without a fault has read.
pub record ReadsThese (names : List Text) (words : List Text) : Type 0 where
  pub options : List Given
  pub read : options_of words ≡ Some options
  pub these : are_these names options ≡ true
  pub rows : rows_after (option_rules names) [] words ≡ rows_for options

pub leaf_sound : (command : Text) (names words : List Text) → NoDashes words → leaf_fault command names words ≡ [] → ReadsThese names words
leaf_sound command names words none e =
    let start = between [] None in
    let end = (end_of names start words).held in
    let walked = nil_both (walk_fault (leaf command names) [] (walk_at start) words) (or_else (settle_fault (option_rules names) false end) (or_else (defaults_fault (settled_rows (option_rules names) end.pending end.rows) (option_rules names)) (check_fault (leaf command names) (finished (option_rules names) end) false))) e in
    let settled = nil_both (settle_fault (option_rules names) false end) (or_else (defaults_fault (settled_rows (option_rules names) end.pending end.rows) (option_rules names)) (check_fault (leaf command names) (finished (option_rules names) end) false)) walked.1 in
    let checked = nil_both (defaults_fault (settled_rows (option_rules names) end.pending end.rows) (option_rules names)) (check_fault (leaf command names) (finished (option_rules names) end) false) settled.1 in
    let read = sound command names words start none (record { once = λ name. omega arith; known = refl }) walked.0 settled.0 in
    let rows : finished (option_rules names) end ≡ rows_for read.options = finished_as names end ∙ read.rows in
    let there : missing names (rows_for read.options) ≡ false = missing_kinds (missing names (rows_for read.options)) (subst (λ (r : List Row). check_fault (leaf command names) r false ≡ []) rows checked.1) in
    record {
      options = read.options;
      read = read.read;
      these = rw (each_once names names read.options read.once there, read.once.known) refl;
      rows = rows;
    }

-- A command's options, each given once, have no fault.
known_cases : (b : Bool) (first name : Text) (n m : ℕ) → (b ≡ true → first ≡ name) → (first ≡ name → m ≡ n) → m ≡ 1 → (b ≡ false → n ≡ 1) → n ≡ 1
known_cases true first name n m same to one other = sym (to (same refl)) ∙ one
known_cases false first name n m same to one other = other refl

known_once : (names : List Text) (options : List Given) (name : Text) → is_known names name ≡ true → list_all (λ name. times name options == 1) names ≡ true → times name options ≡ 1
known_once [] options name e all = cc e
known_once (first ∷ more) options name e all =
    let parts = and_parts (times first options == 1) (list_all (λ name. times name options == 1) more) all in
    known_cases (bytes_eq first name) first name (times name options) (times first options) (text_is first name) (λ same. ap (λ (n : Text). times n options) same)
    (eqb-true (times first options) 1 parts.0) (λ other. known_once more options name (either (bytes_eq first name) (is_known more name) e other) parts.1)

unknown_cases : (b : Bool) (n : ℕ) → (b ≡ true → ⊥) → n ≡ 0 → cond b (1 + n) n ≡ 0
unknown_cases true n never e = absurd (never refl)
unknown_cases false n never e = e

true_never : (b : Bool) → b ≡ false → b ≡ true → ⊥
true_never true e f = cc e
true_never false e f = cc f

pub unknown_none : (names : List Text) (options : List Given) (name : Text) → is_known names name ≡ false → list_all (λ (o : Given). is_known names o.0) options ≡ true → times name options ≡ 0
unknown_none names [] name e all = refl
unknown_none names (o ∷ more) name e all =
    let parts = and_parts (is_known names o.0) (list_all (λ (o : Given). is_known names o.0) more) all in
    unknown_cases (bytes_eq o.0 name) (times name more)
    (λ same. true_never (is_known names name) e (subst (λ (n : Text). is_known names n ≡ true) (text_is o.0 name same) parts.0))
    (unknown_none names more name e parts.1)

pub once_from : (names : List Text) (options : List Given) → are_these names options ≡ true → (name : Text) → (known : Bool) → is_known names name ≡ known → times name options ≤ 1
once_from names options these name true e =
    let parts = and_parts (list_all (λ name. times name options == 1) names) (list_all (λ (o : Given). is_known names o.0) options) these in
    omega (arith, known_once names options name e parts.0)
once_from names options these name false e =
    let parts = and_parts (list_all (λ name. times name options == 1) names) (list_all (λ (o : Given). is_known names o.0) options) these in
    omega (arith, unknown_none names options name e parts.1)

pub leaf_complete : (command : Text) (names words : List Text) (options : List Given) → NoDashes words → options_of words ≡ Some options → are_these names options ≡ true → ArePlain options
    → (leaf_fault command names words ≡ []) × (rows_after (option_rules names) [] words ≡ rows_for options)
leaf_complete command names words options none read these plain =
    let start = between [] None in
    let end = (end_of names start words).held in
    let parts = and_parts (list_all (λ name. times name options == 1) names) (list_all (λ (o : Given). is_known names o.0) options) these in
    let well = complete command names words start options none read (record { once = λ name. once_from names options these name (is_known names name) refl; known = parts.1 }) plain in
    let rows : finished (option_rules names) end ≡ rows_for options = finished_as names end ∙ well.rows in
    let check : check_fault (leaf command names) (finished (option_rules names) end) false ≡ [] = rw (rows, none_missing names options parts.0) refl in (
      nil_nil (walk_fault (leaf command names) [] (walk_at start) words) (or_else (settle_fault (option_rules names) false end) (or_else (defaults_fault (settled_rows (option_rules names) end.pending end.rows) (option_rules names)) (check_fault (leaf command names) (finished (option_rules names) end) false))) well.walks
          (nil_nil (settle_fault (option_rules names) false end) (or_else (defaults_fault (settled_rows (option_rules names) end.pending end.rows) (option_rules names)) (check_fault (leaf command names) (finished (option_rules names) end) false)) well.settled
          (nil_nil (defaults_fault (settled_rows (option_rules names) end.pending end.rows) (option_rules names)) (check_fault (leaf command names) (finished (option_rules names) end) false) (no_defaults (settled_rows (option_rules names) end.pending end.rows) names) check)),
      rows,
    )

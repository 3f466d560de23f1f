-- The walk through the words after a command, and the options that these words give.
use Rattle.std.proofs.Common.{◌≡◌, ◌+◌, ◌≤◌, ◌&&◌, Bool, true, false, cond, List, [], ◌∷◌, ◌++◌, Option, Some, None, refl, sym, ap, ◌∙◌, arith}
use Rattle.std.specs.List.{list_all}
use Rattle.std.specs.Str.{bytes_eq}
use Rattle.clap.specs.Walk.{Text, Row, Walk, idle, option, settled_rows, has_row}
use Rattle.clap.specs.Faults.{settle_fault, use_fault}
use Rattle.clap.specs.Kinds.{Kinds, or_else}
use Rattle.clap.specs.declared.error.kind.ErrorKind.{ErrorKind}
use Rattle.clap.specs.declared.error.kind.ErrorKind.TheVariants.{ArgumentConflict, InvalidValue}
use Rattle.std.proofs.lemmas.List.Folds.{list_all-append}
use Rattle.command_words.specs.Form.{Given, is_known, times}
use Rattle.command_words.proofs.Rules.{option_rule, option_rules, rows_for, known_id, text_is}
use Rattle.command_words.proofs.Turns.{held, at}
use Rattle.command_words.proofs.Lists.{times_push, one_if, rows_none, used_new}

pub cons_nil : (k : ErrorKind) (ks : Kinds) → k ∷ ks ≡ [] → ⊥
cons_nil k ks e = cc e

pub nil_both : (a b : Kinds) → or_else a b ≡ [] → (a ≡ []) × (b ≡ [])
nil_both [] b e = (refl, e)
nil_both (k ∷ ks) b e = absurd (cons_nil k ks e)

-- The state of the walk: the settled options, and one that isn't settled yet or waits for its value.
pub data State : Type 0 where
  between : List Given → Option Given → State
  waits : List Given → Text → State

abbrev pub open_one : Option Given → Option (Text × List Text)
open_one None = None
open_one (Some o) = Some (o.0, o.1 ∷ [])

abbrev pub walk_at : State → Walk
walk_at (between found last) = at (rows_for found) (open_one last) idle
walk_at (waits found name) = at (rows_for found) (Some (name, [])) (option name)

abbrev pub with_last : List Given → Option Given → List Given
with_last found None = found
with_last found (Some o) = found ++ o ∷ []

abbrev pub found_in : State → List Given
found_in (between found last) = with_last found last
found_in (waits found name) = found

abbrev pub waiting_in : State → Option Text
waiting_in (between found last) = None
waiting_in (waits found name) = Some name

-- The options have names of the command, each at most once.
pub record AreOnce (names : List Text) (options : List Given) : Type 0 where
  pub once : (name : Text) → times name options ≤ 1
  pub known : list_all (λ (o : Given). is_known names o.0) options ≡ true

abbrev pub IsGood : List Text → State → Type 0
IsGood names (between found None) = AreOnce names found
IsGood names (between found (Some o)) = AreOnce names found × (is_known names o.0 ≡ true)
IsGood names (waits found name) = AreOnce names found × (is_known names name ≡ true)

-- ---- settling
once_of : (b : Bool) (name other : Text) (found : List Given) → (b ≡ true → other ≡ name) → times other found ≡ 0 → times name found ≤ 1 → times name found + one_if b ≤ 1
once_of true name other found same none one = let t : times other found ≡ times name found = ap (λ (n : Text). times n found) (same refl) in omega (arith, t, none)
once_of false name other found same none one = omega (arith, one)

once_case : (names : List Text) (name : Text) (found : List Given) (o : Given) → AreOnce names found → has_row o.0 (rows_for found) ≡ false → times name (found ++ o ∷ []) ≤ 1
once_case names name found o are none =
    let more = times_push name found o in
    let few = once_of (bytes_eq o.0 name) name o.0 found (text_is o.0 name) (rows_none o.0 found none) (are.once name) in omega (arith, more, few)

all_more : (names : List Text) (found : List Given) (o : Given) → list_all (λ (o : Given). is_known names o.0) found ≡ true → is_known names o.0 ≡ true → list_all (λ (o : Given). is_known names o.0) (found ++ o ∷ []) ≡ true
all_more names found o all known = list_all-append (λ (o : Given). is_known names o.0) found (o ∷ []) ∙ rw (all, known) refl

pub once_more : (names : List Text) (found : List Given) (o : Given) → AreOnce names found → is_known names o.0 ≡ true → has_row o.0 (rows_for found) ≡ false → AreOnce names (found ++ o ∷ [])
once_more names found o are known none = record {
  once = λ name. once_case names name found o are none;
  known = all_more names found o are.known known;
}

repeated : (b : Bool) → or_else (cond (b && true) (ArgumentConflict ∷ []) []) [] ≡ [] → b ≡ false
repeated true e = absurd (cons_nil ArgumentConflict [] e)
repeated false e = refl

pub use_new : (name value : Text) (rows : List Row) → use_fault false (option_rule name) (value ∷ []) rows ≡ [] → has_row name rows ≡ false
use_new name value rows e = repeated (has_row name rows) e

pub new_use : (name value : Text) (rows : List Row) → has_row name rows ≡ false → use_fault false (option_rule name) (value ∷ []) rows ≡ []
new_use name value rows e = rw e refl

waits_is : (names : List Text) (rows : List Row) (name : Text) → is_known names name ≡ true → settle_fault (option_rules names) false (held rows (Some (name, []))) ≡ InvalidValue ∷ []
waits_is names rows name known = rw (known_id names name known) refl

pub never_waits : (names : List Text) (rows : List Row) (name : Text) → is_known names name ≡ true → settle_fault (option_rules names) false (held rows (Some (name, []))) ≡ [] → ⊥
never_waits names rows name known e =
    let bad : InvalidValue ∷ [] ≡ [] = sym (waits_is names rows name known) ∙ e in cons_nil InvalidValue [] bad

pub settle_last : (names : List Text) (rows : List Row) (o : Given) → is_known names o.0 ≡ true → settle_fault (option_rules names) false (held rows (Some (o.0, o.1 ∷ []))) ≡ use_fault false (option_rule o.0) (o.1 ∷ []) rows
settle_last names rows o known = rw (known_id names o.0 known) refl

-- The settling of an option that isn't settled yet.
pub settles : (names : List Text) (found : List Given) (last : Option Given) → IsGood names (between found last) → settle_fault (option_rules names) false (held (rows_for found) (open_one last)) ≡ []
    → AreOnce names (with_last found last) × (settled_rows (option_rules names) (open_one last) (rows_for found) ≡ rows_for (with_last found last))
settles names found None good e = (good, refl)
settles names found (Some o) good e =
    let none : has_row o.0 (rows_for found) ≡ false = use_new o.0 o.1 (rows_for found) (sym (settle_last names (rows_for found) o good.1) ∙ e) in (
      once_more names found o good.0 good.1 none,
      rw (known_id names o.0 good.1) (used_new o.0 o.1 found none),
    )

-- Options that were found, and the rows that clap has for them.
use Rattle.std.proofs.Common.{◌≡◌, ◌+◌, ◌||◌, ◌==◌, ℕ, Bool, true, false, cond, not, List, [], ◌∷◌, ◌++◌, Some, refl, ap, ◌∙◌, arith, find, slice_get, fold}
use Rattle.std.specs.Option.{option_map, option_map_or, option_and_then}
use Rattle.std.specs.Str.{bytes_eq}
use Rattle.clap.specs.Walk.{Text, Row, Held, has_row, used, settled_rows, first_of, finished, with_default, without, with_values, more_values, reading_by}
use Rattle.clap.specs.Takes.{is_given}
use Rattle.clap.specs.Facts.{explicit_source}
use Rattle.clap.specs.declared.parser.matches.ValueSource.TheVariants.{CommandLine}
use Rattle.std.proofs.lemmas.Bool.Decides.{nat_tests}
use Rattle.clap.specs.Faults.{defaults_fault}
use Rattle.clap.specs.Kinds.{or_else}
use Rattle.command_words.specs.Form.{Given, times, value_of}
use Rattle.command_words.proofs.Rules.{option_rule, option_rules, row_for, rows_for}

-- The number of further options: 1 or 0.
abbrev pub one_if : Bool → ℕ
one_if true = 1
one_if false = 0

first_time : (b : Bool) → cond b (1 + 0) 0 ≡ 0 + one_if b
first_time true = refl
first_time false = refl

later_time : (b : Bool) (m n k : ℕ) → m ≡ n + k → cond b (1 + m) m ≡ cond b (1 + n) n + k
later_time true m n k e = omega arith
later_time false m n k e = e

pub times_push : (name : Text) (options : List Given) (o : Given) → times name (options ++ o ∷ []) ≡ times name options + one_if (bytes_eq o.0 name)
times_push name [] o = first_time (bytes_eq o.0 name)
times_push name (x ∷ more) o = later_time (bytes_eq x.0 name) (times name (more ++ o ∷ [])) (times name more) (one_if (bytes_eq o.0 name)) (times_push name more o)

-- If no option has the name, there is no row of the name.
none_cases : (b rest : Bool) (n : ℕ) → (rest ≡ false → n ≡ 0) → (b || rest) ≡ false → cond b (1 + n) n ≡ 0
none_cases true rest n next e = cc e
none_cases false rest n next e = next e

cases_none : (b rest : Bool) (n : ℕ) → (n ≡ 0 → rest ≡ false) → cond b (1 + n) n ≡ 0 → (b || rest) ≡ false
cases_none true rest n next e = absurd (omega arith)
cases_none false rest n next e = next e

pub rows_none : (name : Text) (options : List Given) → has_row name (rows_for options) ≡ false → times name options ≡ 0
rows_none name [] e = refl
rows_none name (x ∷ more) e = none_cases (bytes_eq x.0 name) (has_row name (rows_for more)) (times name more) (rows_none name more) e

pub none_rows : (name : Text) (options : List Given) → times name options ≡ 0 → has_row name (rows_for options) ≡ false
none_rows name [] e = refl
none_rows name (x ∷ more) e = cases_none (bytes_eq x.0 name) (has_row name (rows_for more)) (times name more) (none_rows name more) e

one_more : (n : ℕ) → (1 + n == 0) ≡ false
one_more n = grind (arith, nat_tests)

given_cases : (b : Bool) (name : Text) (x : Given) (more : List Given) → is_given name (rows_for more) ≡ not (times name more == 0)
    → option_map_or (λ (r : Row). explicit_source r.source) (cond b (Some (row_for x)) (find (λ r. bytes_eq r.id name) (rows_for more))) false
    ≡ not (cond b (1 + times name more) (times name more) == 0)
given_cases true name x more e = rw (one_more (times name more)) refl
given_cases false name x more e = e

pub given_rows : (name : Text) (options : List Given) → is_given name (rows_for options) ≡ not (times name options == 0)
given_rows name [] = refl
given_rows name (x ∷ more) = given_cases (bytes_eq x.0 name) name x more (given_rows name more)

value_cases : (b : Bool) (name : Text) (x : Given) (more : List Given) → first_of name (rows_for more) ≡ value_of name more
    → option_and_then (λ (r : Row). slice_get r.values 0) (cond b (Some (row_for x)) (find (λ r. bytes_eq r.id name) (rows_for more)))
    ≡ option_map (λ (option : Given). option.1) (cond b (Some x) (find (λ option. bytes_eq option.0 name) more))
value_cases true name x more e = refl
value_cases false name x more e = e

pub first_value_is : (name : Text) (options : List Given) → first_of name (rows_for options) ≡ value_of name options
first_value_is name [] = refl
first_value_is name (x ∷ more) = value_cases (bytes_eq x.0 name) name x more (first_value_is name more)

without_cases : (b rest : Bool) (x : Row) (more others : List Row) → (rest ≡ false → others ≡ more) → (b || rest) ≡ false → cond b ([] ++ more) (x ∷ others) ≡ x ∷ more
without_cases true rest x more others next e = cc e
without_cases false rest x more others next e = ap (λ (rows : List Row). x ∷ rows) (next e)

without_none : (name : Text) (options : List Given) → has_row name (rows_for options) ≡ false → without name (rows_for options) ≡ rows_for options
without_none name [] e = refl
without_none name (x ∷ more) e =
    without_cases (bytes_eq x.0 name) (has_row name (rows_for more)) (row_for x) (rows_for more) (without name (rows_for more)) (without_none name more) e

abbrev with_row : Text → Text → List Row → List Row
with_row name value rows = with_values name (reading_by (option_rule name)) CommandLine (value ∷ []) rows

appended_cases : (b rest : Bool) (x : Row) (changed more others new : List Row) → (rest ≡ false → others ≡ new) → (b || rest) ≡ false → cond b (changed ++ more) (x ∷ others) ≡ x ∷ new
appended_cases true rest x changed more others new next e = cc e
appended_cases false rest x changed more others new next e = ap (λ (rows : List Row). x ∷ rows) (next e)

appended : (name value : Text) (options : List Given) → has_row name (rows_for options) ≡ false → with_row name value (rows_for options) ≡ rows_for (options ++ (name, value) ∷ [])
appended name value [] e = refl
appended name value (x ∷ more) e =
    appended_cases (bytes_eq x.0 name) (has_row name (rows_for more)) (row_for x) (more_values CommandLine (value ∷ []) (row_for x)) (rows_for more) (with_row name value (rows_for more))
    (rows_for (more ++ (name, value) ∷ [])) (appended name value more) e

-- An option is used that wasn't used before.
pub used_new : (name value : Text) (options : List Given) → has_row name (rows_for options) ≡ false
    → used (option_rule name) (value ∷ []) (rows_for options) ≡ rows_for (options ++ (name, value) ∷ [])
used_new name value options none = ap (with_row name value) (without_none name options none) ∙ appended name value options none

-- Options have no defaults.
same_rows : (b : Bool) (rows : List Row) → cond b rows rows ≡ rows
same_rows true rows = refl
same_rows false rows = refl

default_cases : (b : Bool) (rows : List Row) (name : Text) (more : List Text) → defaults_fault rows (option_rules more) ≡ []
    → or_else (cond (b || true) [] []) (defaults_fault (cond b rows rows) (option_rules more)) ≡ []
default_cases true rows name more e = e
default_cases false rows name more e = e

pub no_defaults : (rows : List Row) (names : List Text) → defaults_fault rows (option_rules names) ≡ []
unfolding defaults_fault
no_defaults rows [] = refl
no_defaults rows (name ∷ more) = default_cases (has_row name rows) rows name more (no_defaults rows more)

defaulted : (names : List Text) (rows : List Row) → fold with_default rows (option_rules names) ≡ rows
defaulted [] rows = refl
defaulted (name ∷ more) rows = ap (λ (r : List Row). fold with_default r (option_rules more)) (same_rows (has_row name rows) rows) ∙ defaulted more rows

pub finished_as : (names : List Text) (h : Held) → finished (option_rules names) h ≡ settled_rows (option_rules names) h.pending h.rows
finished_as names h = defaulted names (settled_rows (option_rules names) h.pending h.rows)

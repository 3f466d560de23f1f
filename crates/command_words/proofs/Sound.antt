-- A walk without a fault has read the options of the words.
use Rattle.std.proofs.Common.{◌≡◌, ◌<◌, ◌==◌, ℕ, Bool, true, false, cond, List, [], ◌∷◌, ◌++◌, length, Option, Some, None, refl, sym, ap, subst, ◌∙◌, arith, append_assoc, append-nil, fold}
use Rattle.std.specs.Option.{option_and_then}
use Rattle.std.specs.Prelude.{slice_get}
use Rattle.std.specs.Str.{chars}
use Rattle.clap.specs.Lexer.{long_of, short_of, short_of_rest}
use Rattle.clap.specs.Walk.{Text, Row, Walk, Waiting, idle, option, walked, used, settled, settled_rows, has_row, bundle_met, plain}
use Rattle.clap.specs.Faults.{turn_fault, settle_fault, react_fault, use_fault, walk_fault, flags_fault}
use Rattle.clap.specs.declared.error.kind.ErrorKind.TheVariants.{UnknownArgument}
use Rattle.command_words.specs.Form.{Given, is_known, options_from}
use Rattle.command_words.proofs.Rules.{option_rule, option_rules, rows_for, known_id, no_short, no_index, text_same}
use Rattle.command_words.proofs.Turns.{leaf, held, at, is_dashes, joined_fault, joined_walk, bare_fault, bare_walk, unknown_fault, value_walk, stray_fault}
use Rattle.command_words.proofs.Walks.{State, between, waits, open_one, walk_at, with_last, found_in, waiting_in, AreOnce, IsGood, nil_both, cons_nil, settles, use_new, never_waits, once_more}
use Rattle.command_words.proofs.Lists.{used_new}

-- No word is `--` alone.
abbrev pub NoDashes : List Text → Type 0
NoDashes [] = Unit {0}
NoDashes (word ∷ more) = (is_dashes word ≡ false) × NoDashes more

-- The state in which the walk ends.
abbrev pub end_of : List Text → State → List Text → Walk
end_of names state words = fold (walked (option_rules names) []) (walk_at state) words

-- The options of the words were read, and the walk found them.
pub record HasRead (names : List Text) (state : State) (words : List Text) : Type 0 where
  pub options : List Given
  pub read : options_from (waiting_in state) words ≡ Some options
  pub once : AreOnce names (found_in state ++ options)
  pub rows : settled_rows (option_rules names) (end_of names state words).held.pending (end_of names state words).held.rows ≡ rows_for (found_in state ++ options)

-- A word leads from one state to another.
abbrev pub Turns : List Text → State → Text → State → Type 0
Turns names state word next = walked (option_rules names) [] (walk_at state) word ≡ walk_at next

-- A word and the words after it.
after_word : (names : List Text) (state next : State) (word : Text) (more : List Text) (given : List Given)
    → Turns names state word next → found_in next ≡ found_in state ++ given
    → ((rest : List Given) → options_from (waiting_in next) more ≡ Some rest → options_from (waiting_in state) (word ∷ more) ≡ Some (given ++ rest))
    → HasRead names next more → HasRead names state (word ∷ more)
after_word names state next word more given turn found reads rest =
    let all : found_in next ++ rest.options ≡ found_in state ++ (given ++ rest.options) = ap (λ (l : List Given). l ++ rest.options) found ∙ append_assoc (found_in state) given rest.options in
    let end : end_of names next more ≡ end_of names state (word ∷ more) = ap (λ (w : Walk). fold (walked (option_rules names) []) w more) (sym turn) in
    record {
      options = given ++ rest.options;
      read = reads rest.options rest.read;
      once = subst (AreOnce names) all rest.once;
      rows = ap (λ (w : Walk). settled_rows (option_rules names) w.held.pending w.held.rows) (sym end) ∙ rest.rows ∙ ap rows_for all;
    }

walk_parts : (command : Text) (names : List Text) (state next : State) (word : Text) (more : List Text) → walk_fault (leaf command names) [] (walk_at state) (word ∷ more) ≡ []
    → (turn_fault (leaf command names) [] (walk_at state) word ≡ []) × (walk_fault (leaf command names) [] (walked (option_rules names) [] (walk_at state) word) more ≡ [])
unfolding walk_fault
walk_parts command names state next word more e = nil_both (turn_fault (leaf command names) [] (walk_at state) word) (walk_fault (leaf command names) [] (walked (option_rules names) [] (walk_at state) word) more) e

-- A word that begins with one `-` is no option: it is refused, or read without a flag.
pub data IsDashed (names : List Text) (rows : List Row) (pending : Option (Text × List Text)) (flags : Text) : Type 0 where
  refuses : ((again : Bool) → flags_fault (option_rules names) again (length flags) flags 0 (held rows pending) ≡ UnknownArgument ∷ []) → IsDashed names rows pending flags
  passes : ((again : Bool) → flags_fault (option_rules names) again (length flags) flags 0 (held rows pending) ≡ []) → bundle_met (option_rules names) (length flags) flags 0 plain (held rows pending) ≡ (held rows pending, plain) → IsDashed names rows pending flags

dashed_cases : (names : List Text) (rows : List Row) (pending : Option (Text × List Text)) (first : ℕ) (more : Text) (character : Option ℕ) → slice_get (chars (first ∷ more)) 0 ≡ character → IsDashed names rows pending (first ∷ more)
unfolding flags_fault bundle_met
dashed_cases names rows pending first more None e = passes (λ again. rw e refl) (rw e refl)
dashed_cases names rows pending first more (Some c) e = refuses (λ again. rw (e, no_short names c) refl)

rest_case : (b : Bool) (x : ℕ) (xs flags : Text) → cond b None (Some (x ∷ xs)) ≡ Some flags → 0 < length flags
rest_case true x xs flags e = cc e
rest_case false x xs flags e = let same : x ∷ xs ≡ flags = cc e in subst (λ (f : Text). 0 < length f) same (omega arith)

flags_case : (b : Bool) (more flags : Text) → option_and_then short_of_rest (cond b (Some more) None) ≡ Some flags → 0 < length flags
flags_case false more flags e = cc e
flags_case true [] flags e = cc e
flags_case true (x ∷ xs) flags e = rest_case (x == 45) x xs flags e

flags_some : (word flags : Text) → short_of word ≡ Some flags → 0 < length flags
flags_some [] flags e = cc e
flags_some (first ∷ more) flags e = flags_case (first == 45) more flags e

some_flags : (names : List Text) (rows : List Row) (pending : Option (Text × List Text)) (flags : Text) → 0 < length flags → IsDashed names rows pending flags
some_flags names rows pending [] some = absurd (omega arith)
some_flags names rows pending (first ∷ more) some = dashed_cases names rows pending first more (slice_get (chars (first ∷ more)) 0) refl

pub dashed : (names : List Text) (rows : List Row) (pending : Option (Text × List Text)) (word flags : Text) → short_of word ≡ Some flags → IsDashed names rows pending flags
dashed names rows pending word flags short = some_flags names rows pending flags (flags_some word flags short)

idle_cases : (command : Text) (names : List Text) (rows : List Row) (pending : Option (Text × List Text)) (word flags : Text) → is_dashes word ≡ false → long_of word ≡ None → short_of word ≡ Some flags
    → turn_fault (leaf command names) [] (at rows pending idle) word ≡ [] → IsDashed names rows pending flags → ⊥
idle_cases command names rows pending word flags other long short e (refuses fault) =
    let bad : turn_fault (leaf command names) [] (at rows pending idle) word ≡ UnknownArgument ∷ [] = rw (other, long, short, fault false) refl in
    cons_nil UnknownArgument [] (sym bad ∙ e)
idle_cases command names rows pending word flags other long short e (passes fault met) =
    let bad : turn_fault (leaf command names) [] (at rows pending idle) word ≡ UnknownArgument ∷ [] = rw (other, long, short, fault false, met, no_index names 1) refl in
    cons_nil UnknownArgument [] (sym bad ∙ e)

waiting_cases : (command : Text) (names : List Text) (rows : List Row) (name word flags : Text) → is_dashes word ≡ false → long_of word ≡ None → short_of word ≡ Some flags → is_known names name ≡ true
    → turn_fault (leaf command names) [] (at rows (Some (name, [])) (option name)) word ≡ [] → IsDashed names rows (Some (name, [])) flags
    → walked (option_rules names) [] (at rows (Some (name, [])) (option name)) word ≡ at rows (Some (name, word ∷ [])) idle
unfolding walked
waiting_cases command names rows name word flags other long short known e (refuses fault) =
    let bad : turn_fault (leaf command names) [] (at rows (Some (name, [])) (option name)) word ≡ UnknownArgument ∷ [] = rw (other, long, short, fault false) refl in
    absurd (cons_nil UnknownArgument [] (sym bad ∙ e))
waiting_cases command names rows name word flags other long short known e (passes fault met) = rw (other, long, short, met, known_id names name known, text_same name) refl

dashed_fault : (command : Text) (names : List Text) (rows : List Row) (pending : Option (Text × List Text)) (word flags : Text) → is_dashes word ≡ false → long_of word ≡ None → short_of word ≡ Some flags
    → turn_fault (leaf command names) [] (at rows pending idle) word ≡ [] → ⊥
dashed_fault command names rows pending word flags other long short e = idle_cases command names rows pending word flags other long short e (dashed names rows pending word flags short)

dashed_walk : (command : Text) (names : List Text) (rows : List Row) (name word flags : Text) → is_dashes word ≡ false → long_of word ≡ None → short_of word ≡ Some flags → is_known names name ≡ true
    → turn_fault (leaf command names) [] (at rows (Some (name, [])) (option name)) word ≡ []
    → walked (option_rules names) [] (at rows (Some (name, [])) (option name)) word ≡ at rows (Some (name, word ∷ [])) idle
dashed_walk command names rows name word flags other long short known e = waiting_cases command names rows name word flags other long short known e (dashed names rows (Some (name, [])) word flags short)

-- The words after a word, from any state.
abbrev Next : Text → List Text → List Text → Type 0
Next command names more = (state : State) → IsGood names state → walk_fault (leaf command names) [] (walk_at state) more ≡ []
    → settle_fault (option_rules names) false (end_of names state more).held ≡ [] → HasRead names state more

-- The walk continues after a word that was read.
go_on : (command : Text) (names : List Text) (state next : State) (word : Text) (more : List Text) (given : List Given) → Next command names more
    → walk_fault (leaf command names) [] (walk_at state) (word ∷ more) ≡ [] → settle_fault (option_rules names) false (end_of names state (word ∷ more)).held ≡ []
    → Turns names state word next → IsGood names next → found_in next ≡ found_in state ++ given
    → ((rest : List Given) → options_from (waiting_in next) more ≡ Some rest → options_from (waiting_in state) (word ∷ more) ≡ Some (given ++ rest))
    → HasRead names state (word ∷ more)
go_on command names state next word more given behind walks settled turn good found reads =
    let parts = walk_parts command names state next word more walks in
    after_word names state next word more given turn found reads (
    behind next good (subst (λ (w : Walk). walk_fault (leaf command names) [] w more ≡ []) turn parts.1)
    (subst (λ (w : Walk). settle_fault (option_rules names) false (fold (walked (option_rules names) []) w more).held ≡ []) turn settled)
    )

word_fault_none : (command : Text) (names : List Text) (state : State) (word : Text) (more : List Text) → walk_fault (leaf command names) [] (walk_at state) (word ∷ more) ≡ [] → turn_fault (leaf command names) [] (walk_at state) word ≡ []
word_fault_none command names state word more walks = (walk_parts command names state state word more walks).0

unknown_never : (command : Text) (names : List Text) (rows : List Row) (pending : Option (Text × List Text)) (waiting : Waiting) (word name : Text) (value : Option Text)
    → is_dashes word ≡ false → long_of word ≡ Some (name, value) → is_known names name ≡ false → turn_fault (leaf command names) [] (at rows pending waiting) word ≡ [] → ⊥
unknown_never command names rows pending waiting word name value other long unknown e =
    cons_nil UnknownArgument [] (sym (unknown_fault command names rows pending waiting word name value other long unknown) ∙ e)

joined_next : (command : Text) (names : List Text) (found : List Given) (last : Option Given) (word name value : Text) (more : List Text) → is_dashes word ≡ false → IsGood names (between found last)
    → walk_fault (leaf command names) [] (walk_at (between found last)) (word ∷ more) ≡ [] → settle_fault (option_rules names) false (end_of names (between found last) (word ∷ more)).held ≡ []
    → Next command names more → long_of word ≡ Some (name, Some value) → (known : Bool) → is_known names name ≡ known → HasRead names (between found last) (word ∷ more)
joined_next command names found last word name value more other good walks settled behind long false known =
    absurd (unknown_never command names (rows_for found) (open_one last) idle word name (Some value) other long known (word_fault_none command names (between found last) word more walks))
joined_next command names found last word name value more other good walks settled behind long true known =
    let turn = word_fault_none command names (between found last) word more walks in
    let react = nil_both (react_fault (option_rules names) false (option_rule name) (value ∷ []) (held (rows_for found) (open_one last))) []
    (sym (joined_fault command names (rows_for found) (open_one last) idle word name value other long known) ∙ turn) in
    let both = nil_both (settle_fault (option_rules names) false (held (rows_for found) (open_one last)))
    (use_fault false (option_rule name) (value ∷ []) (settled_rows (option_rules names) (open_one last) (rows_for found))) react.0 in
    let done = settles names found last good both.0 in
    let none : has_row name (rows_for (with_last found last)) ≡ false =
    subst (λ (rows : List Row). has_row name rows ≡ false) done.1 (use_new name value (settled_rows (option_rules names) (open_one last) (rows_for found)) both.1) in
    let moved : Turns names (between found last) word (between (with_last found last ++ (name, value) ∷ []) None) =
    joined_walk names (rows_for found) (open_one last) idle word name value other long known
    ∙ ap (λ (rows : List Row). at (used (option_rule name) (value ∷ []) rows) None idle) done.1
    ∙ ap (λ (rows : List Row). at rows None idle) (used_new name value (with_last found last) none) in
    go_on command names (between found last) (between (with_last found last ++ (name, value) ∷ []) None) word more ((name, value) ∷ []) behind walks settled moved
    (once_more names (with_last found last) (name, value) done.0 known none) refl
    (λ rest e. rw (long, e) refl)

bare_next : (command : Text) (names : List Text) (found : List Given) (last : Option Given) (word name : Text) (more : List Text) → is_dashes word ≡ false → IsGood names (between found last)
    → walk_fault (leaf command names) [] (walk_at (between found last)) (word ∷ more) ≡ [] → settle_fault (option_rules names) false (end_of names (between found last) (word ∷ more)).held ≡ []
    → Next command names more → long_of word ≡ Some (name, None) → (known : Bool) → is_known names name ≡ known → HasRead names (between found last) (word ∷ more)
bare_next command names found last word name more other good walks settled behind long false known =
    absurd (unknown_never command names (rows_for found) (open_one last) idle word name None other long known (word_fault_none command names (between found last) word more walks))
bare_next command names found last word name more other good walks settled behind long true known =
    let turn = word_fault_none command names (between found last) word more walks in
    let both = nil_both (settle_fault (option_rules names) false (held (rows_for found) (open_one last))) []
    (sym (bare_fault command names (rows_for found) (open_one last) idle word name other long known) ∙ turn) in
    let done = settles names found last good both.0 in
    let moved : Turns names (between found last) word (waits (with_last found last) name) =
    bare_walk names (rows_for found) (open_one last) idle word name other long known ∙ ap (λ (rows : List Row). at rows (Some (name, [])) (option name)) done.1 in
    go_on command names (between found last) (waits (with_last found last) name) word more [] behind walks settled moved (done.0, known) (sym (append-nil (with_last found last)))
    (λ rest e. rw long e)

other_next : (command : Text) (names : List Text) (found : List Given) (last : Option Given) (word : Text) → is_dashes word ≡ false → long_of word ≡ None
    → turn_fault (leaf command names) [] (walk_at (between found last)) word ≡ [] → (short : Option Text) → short_of word ≡ short → ⊥
other_next command names found last word other long turn None short =
    cons_nil UnknownArgument [] (sym (stray_fault command names (rows_for found) (open_one last) word other long short) ∙ turn)
other_next command names found last word other long turn (Some flags) short = dashed_fault command names (rows_for found) (open_one last) word flags other long short turn

between_word : (command : Text) (names : List Text) (found : List Given) (last : Option Given) (word : Text) (more : List Text) → is_dashes word ≡ false → IsGood names (between found last)
    → walk_fault (leaf command names) [] (walk_at (between found last)) (word ∷ more) ≡ [] → settle_fault (option_rules names) false (end_of names (between found last) (word ∷ more)).held ≡ []
    → Next command names more → (long : Option (Text × Option Text)) → long_of word ≡ long → HasRead names (between found last) (word ∷ more)
between_word command names found last word more other good walks settled behind None long =
    absurd (other_next command names found last word other long (word_fault_none command names (between found last) word more walks) (short_of word) refl)
between_word command names found last word more other good walks settled behind (Some (name, None)) long = bare_next command names found last word name more other good walks settled behind long (is_known names name) refl
between_word command names found last word more other good walks settled behind (Some (name, Some value)) long = joined_next command names found last word name value more other good walks settled behind long (is_known names name) refl

-- If an option waits for its value, the next word is no option.
option_never : (command : Text) (names : List Text) (found : List Given) (name word next : Text) (value : Option Text) → is_dashes word ≡ false → is_known names name ≡ true → long_of word ≡ Some (next, value)
    → turn_fault (leaf command names) [] (walk_at (waits found name)) word ≡ [] → (known : Bool) → is_known names next ≡ known → ⊥
option_never command names found name word next value other good long turn false known = unknown_never command names (rows_for found) (Some (name, [])) (option name) word next value other long known turn
option_never command names found name word next None other good long turn true known =
    let both = nil_both (settle_fault (option_rules names) false (held (rows_for found) (Some (name, [])))) []
    (sym (bare_fault command names (rows_for found) (Some (name, [])) (option name) word next other long known) ∙ turn) in never_waits names (rows_for found) name good both.0
option_never command names found name word next (Some value) other good long turn true known =
    let react = nil_both (react_fault (option_rules names) false (option_rule next) (value ∷ []) (held (rows_for found) (Some (name, [])))) []
    (sym (joined_fault command names (rows_for found) (Some (name, [])) (option name) word next value other long known) ∙ turn) in
    let both = nil_both (settle_fault (option_rules names) false (held (rows_for found) (Some (name, []))))
    (use_fault false (option_rule next) (value ∷ []) (settled_rows (option_rules names) (Some (name, [])) (rows_for found))) react.0 in never_waits names (rows_for found) name good both.0

value_turns : (command : Text) (names : List Text) (found : List Given) (name word : Text) → is_dashes word ≡ false → is_known names name ≡ true → long_of word ≡ None
    → turn_fault (leaf command names) [] (walk_at (waits found name)) word ≡ [] → (short : Option Text) → short_of word ≡ short → Turns names (waits found name) word (between found (Some (name, word)))
value_turns command names found name word other known long turn None short = value_walk names (rows_for found) name word other long short known
value_turns command names found name word other known long turn (Some flags) short = dashed_walk command names (rows_for found) name word flags other long short known turn

waits_word : (command : Text) (names : List Text) (found : List Given) (name word : Text) (more : List Text) → is_dashes word ≡ false → IsGood names (waits found name)
    → walk_fault (leaf command names) [] (walk_at (waits found name)) (word ∷ more) ≡ [] → settle_fault (option_rules names) false (end_of names (waits found name) (word ∷ more)).held ≡ []
    → Next command names more → (long : Option (Text × Option Text)) → long_of word ≡ long → HasRead names (waits found name) (word ∷ more)
waits_word command names found name word more other good walks settled behind None long =
    let turn = word_fault_none command names (waits found name) word more walks in
    go_on command names (waits found name) (between found (Some (name, word))) word more ((name, word) ∷ []) behind walks settled
    (value_turns command names found name word other good.1 long turn (short_of word) refl) good refl
    (λ rest e. rw e refl)
waits_word command names found name word more other good walks settled behind (Some next) long =
    absurd (option_never command names found name word next.0 next.1 other good.1 long (word_fault_none command names (waits found name) word more walks) (is_known names next.0) refl)

-- A walk without a fault has read the options of the words.
pub sound : (command : Text) (names : List Text) (words : List Text) (state : State) → NoDashes words → IsGood names state
    → walk_fault (leaf command names) [] (walk_at state) words ≡ [] → settle_fault (option_rules names) false (end_of names state words).held ≡ [] → HasRead names state words
sound command names [] (between found last) none good walks settled =
    let done = settles names found last good settled in
    record {
      options = [];
      read = refl;
      once = subst (AreOnce names) (sym (append-nil (with_last found last))) done.0;
      rows = done.1 ∙ ap rows_for (sym (append-nil (with_last found last)));
    }
sound command names [] (waits found name) none good walks settled = absurd (never_waits names (rows_for found) name good.1 settled)
sound command names (word ∷ more) (between found last) none good walks settled =
    between_word command names found last word more none.0 good walks settled (λ state good' walks' settled'. sound command names more state none.1 good' walks' settled') (long_of word) refl
sound command names (word ∷ more) (waits found name) none good walks settled =
    waits_word command names found name word more none.0 good walks settled (λ state good' walks' settled'. sound command names more state none.1 good' walks' settled') (long_of word) refl

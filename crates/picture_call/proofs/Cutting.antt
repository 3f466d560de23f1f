-- Options that are cut off words one by one, and how many there may be.
use Rattle.std.proofs.Common.{◌≡◌, ◌∙◌, ◌≤◌, ◌<◌, ◌+◌, ◌&&◌, ◌||◌, ◌==◌, ℕ, Bool, true, false, cond, List, [], ◌∷◌, codes, length, Option, Some, None, refl, sym, ap, subst, arith}
use Rattle.std.specs.List.{list_all}
use Rattle.std.specs.Option.{option_map, option_and_then}
use Rattle.std.specs.Str.{bytes_eq}
use Rattle.std.proofs.lemmas.Bool.{and_parts, eqb-true}
use Rattle.std.proofs.lemmas.Option.{same_Some}
use Rattle.std.proofs.lemmas.Slice.Eq.{bytes_eq-Decides}
use Rattle.clap.specs.Lexer.{long_of}
use Rattle.command_words.specs.Form.{Given, times, is_known, are_these, options_of, options_from, with_option, option_at, harts_alone, value_of}
use Rattle.picture_call.specs.Words.{has_picture_options}
use Rattle.picture_call.specs.Options.{option_by, first_option, values_in, values_of}

-- ---- tests
both : (x y : Bool) → (x ≡ true → y ≡ true) → (y ≡ true → x ≡ true) → x ≡ y
both true true there back = refl
both true false there back = sym (there refl)
both false true there back = back refl
both false false there back = refl

flip : (a b : List ℕ) → bytes_eq a b ≡ bytes_eq b a
flip a b = both (bytes_eq a b) (bytes_eq b a)
    (λ e. (bytes_eq-Decides b a).1 (sym ((bytes_eq-Decides a b).0 e)))
    (λ e. (bytes_eq-Decides a b).1 (sym ((bytes_eq-Decides b a).0 e)))

never : (b : Bool) → (b ≡ true → ⊥) → b ≡ false
never true not = absurd (not refl)
never false not = refl

neither : (a b : Bool) → a ≡ false → b ≡ false → (a || b) ≡ false
neither true b ea eb = ea
neither false b ea eb = eb

-- ---- options that are each one of these names, once, are no more than the names
total : List (List ℕ) → List Given → ℕ
total [] options = 0
total (name ∷ names) options = times name options + total names options

fewer_times : (b : Bool) (n : ℕ) → n ≤ cond b (1 + n) n
fewer_times true n = omega arith
fewer_times false n = omega arith

fewer : (names : List (List ℕ)) (option : Given) (more : List Given) → total names more ≤ total names (option ∷ more)
unfolding total
fewer [] option more = omega arith
fewer (name ∷ names) option more = omega (arith, fewer_times (bytes_eq option.0 name) (times name more), fewer names option more)

one_more : (b : Bool) (n : ℕ) → b ≡ true → cond b (1 + n) n ≡ 1 + n
one_more true n e = refl
one_more false n e = cc e

known_cases : (b : Bool) (rest : Bool) (small small' large large' : ℕ) → (b || rest) ≡ true → (b ≡ true → large ≡ 1 + small) → small ≤ large
    → small' ≤ large' → (rest ≡ true → 1 + small' ≤ large') → 1 + (small + small') ≤ large + large'
known_cases true rest small small' large large' e here least least' later = omega (arith, here refl, least')
known_cases false rest small small' large large' e here least least' later = omega (arith, later e, least)

counted : (names : List (List ℕ)) (option : Given) (more : List Given) → is_known names option.0 ≡ true → 1 + total names more ≤ total names (option ∷ more)
unfolding total
counted [] option more e = cc e
counted (name ∷ names) option more e =
    known_cases (bytes_eq name option.0) (is_known names option.0) (times name more) (total names more) (times name (option ∷ more)) (total names (option ∷ more)) e
    (λ is. one_more (bytes_eq option.0 name) (times name more) (flip option.0 name ∙ is)) (fewer_times (bytes_eq option.0 name) (times name more))
    (fewer names option more) (counted names option more)

all_counted : (names : List (List ℕ)) (options : List Given) → list_all (λ (o : Given). is_known names o.0) options ≡ true → length options ≤ total names options
all_counted names [] e = omega arith
all_counted names (option ∷ more) e =
    let parts = and_parts (is_known names option.0) (list_all (λ (o : Given). is_known names o.0) more) e in
    omega (arith, all_counted names more parts.1, counted names option more parts.0)

each_once : (names : List (List ℕ)) (options : List Given) → list_all (λ (name : List ℕ). times name options == 1) names ≡ true → total names options ≡ length names
unfolding total
each_once [] options e = refl
each_once (name ∷ names) options e =
    let parts = and_parts (times name options == 1) (list_all (λ (n : List ℕ). times n options == 1) names) e in
    omega (arith, eqb-true (times name options) 1 parts.0, each_once names options parts.1)

few : (names : List (List ℕ)) (options : List Given) → are_these names options ≡ true → length options ≤ length names
few names options e =
    let parts = and_parts (list_all (λ (name : List ℕ). times name options == 1) names) (list_all (λ (o : Given). is_known names o.0) options) e in
    omega (arith, all_counted names options parts.1, each_once names options parts.0)

too_many : (options : List Given) → 2 < length options → has_picture_options options ≡ false
too_many options many = neither (are_these harts_alone options) (are_these (codes "of" ∷ harts_alone) options)
    (never (are_these harts_alone options) (λ e. let most : length options ≤ 1 = few harts_alone options e in absurd (omega (arith, many, most))))
    (never (are_these (codes "of" ∷ harts_alone) options) (λ e. let most : length options ≤ 2 = few (codes "of" ∷ harts_alone) options e in absurd (omega (arith, many, most))))

-- ---- without `--harts` there are none
no_value : (test : Bool) (found : Option (List ℕ × Option (List ℕ))) → test ≡ false → cond test found None ≡ None
no_value true found e = cc e
no_value false found e = refl

two_alone : (once known : Bool) → once ≡ false → ((once && true) && known) ≡ false
two_alone true known e = cc e
two_alone false known e = refl

two_both : (other once known : Bool) → once ≡ false → ((other && (once && true)) && known) ≡ false
two_both true true known e = cc e
two_both true false known e = refl
two_both false once known e = refl

no_harts : (options : List Given) → (times (codes "harts") options == 1) ≡ false → values_in options ≡ None
no_harts options e =
    no_value (has_picture_options options) (option_map (λ harts. (harts, value_of (codes "of") options)) (value_of (codes "harts") options))
    (neither (are_these harts_alone options) (are_these (codes "of" ∷ harts_alone) options)
    (two_alone (times (codes "harts") options == 1) (list_all (λ (o : Given). is_known harts_alone o.0) options) e)
    (two_both (times (codes "of") options == 1) (times (codes "harts") options == 1) (list_all (λ (o : Given). is_known (codes "of" ∷ harts_alone) o.0) options) e))

-- ---- one option
pub alone : (name value : List ℕ) → name ≡ codes "harts" → values_in ((name, value) ∷ []) ≡ Some (value, None)
alone name value e = subst (λ (n : List ℕ). values_in ((n, value) ∷ []) ≡ Some (value, None)) (sym e) refl

once_if : (b : Bool) → b ≡ false → (cond b (1 + 0) 0 == 1) ≡ false
once_if true e = cc e
once_if false e = refl

pub alone_other : (name value : List ℕ) → bytes_eq name (codes "harts") ≡ false → values_in ((name, value) ∷ []) ≡ None
alone_other name value e = no_harts ((name, value) ∷ []) (once_if (bytes_eq name (codes "harts")) e)

-- ---- two options
pub first_harts : (name value second other : List ℕ) → name ≡ codes "harts" → second ≡ codes "of"
    → values_in ((name, value) ∷ (second, other) ∷ []) ≡ Some (value, Some other)
first_harts name value second other e f =
    subst (λ (n : List ℕ). values_in ((n, value) ∷ (second, other) ∷ []) ≡ Some (value, Some other)) (sym e)
    (subst (λ (m : List ℕ). values_in ((codes "harts", value) ∷ (m, other) ∷ []) ≡ Some (value, Some other)) (sym f) refl)

pub first_of : (name value second other : List ℕ) → name ≡ codes "of" → second ≡ codes "harts"
    → values_in ((name, value) ∷ (second, other) ∷ []) ≡ Some (other, Some value)
first_of name value second other e f =
    subst (λ (n : List ℕ). values_in ((n, value) ∷ (second, other) ∷ []) ≡ Some (other, Some value)) (sym e)
    (subst (λ (m : List ℕ). values_in ((codes "of", value) ∷ (m, other) ∷ []) ≡ Some (other, Some value)) (sym f) refl)

-- The tests of two options, by whether the first is `harts`, the second is, the first is `of`, and the second is.
tests : Bool → Bool → Bool → Bool → Bool
tests a b c d =
    ((cond a (1 + cond b (1 + 0) 0) (cond b (1 + 0) 0) == 1) && true) && ((a || false) && ((b || false) && true))
    || ((cond c (1 + cond d (1 + 0) 0) (cond d (1 + 0) 0) == 1) && ((cond a (1 + cond b (1 + 0) 0) (cond b (1 + 0) 0) == 1) && true))
    && ((c || (a || false)) && ((d || (b || false)) && true))

fails : (a b c d : Bool) → (a && d) ≡ false → (c && b) ≡ false → (a && c) ≡ false → tests a b c d ≡ false
unfolding tests
fails true b c true ad cb ac = cc ad
fails true b true d ad cb ac = cc ac
fails true true false false ad cb ac = refl
fails true false false false ad cb ac = refl
fails false true true d ad cb ac = cc cb
fails false false true true ad cb ac = refl
fails false false true false ad cb ac = refl
fails false true false true ad cb ac = refl
fails false true false false ad cb ac = refl
fails false false false true ad cb ac = refl
fails false false false false ad cb ac = refl

same_tests : (n v m w : List ℕ) → has_picture_options ((n, v) ∷ (m, w) ∷ [])
    ≡ tests (bytes_eq n (codes "harts")) (bytes_eq m (codes "harts")) (bytes_eq n (codes "of")) (bytes_eq m (codes "of"))
unfolding tests
same_tests n v m w = rw (flip (codes "harts") n, flip (codes "harts") m, flip (codes "of") n, flip (codes "of") m) refl

apart : (n : List ℕ) → (bytes_eq n (codes "harts") && bytes_eq n (codes "of")) ≡ false
apart n = never (bytes_eq n (codes "harts") && bytes_eq n (codes "of")) (λ e.
    let parts = and_parts (bytes_eq n (codes "harts")) (bytes_eq n (codes "of")) e in
    let one = (bytes_eq-Decides n (codes "harts")).0 parts.0 in
    let other = (bytes_eq-Decides n (codes "of")).0 parts.1 in
    let bad : bytes_eq (codes "harts") (codes "of") ≡ true = (bytes_eq-Decides (codes "harts") (codes "of")).1 (sym one ∙ other) in
    cc bad)

pub other_pair : (name value second other : List ℕ) → (bytes_eq name (codes "harts") && bytes_eq second (codes "of")) ≡ false
    → (bytes_eq name (codes "of") && bytes_eq second (codes "harts")) ≡ false → values_in ((name, value) ∷ (second, other) ∷ []) ≡ None
other_pair name value second other e f =
    let options = (name, value) ∷ (second, other) ∷ [] in
    no_value (has_picture_options options) (option_map (λ harts. (harts, value_of (codes "of") options)) (value_of (codes "harts") options))
    (same_tests name value second other ∙ fails (bytes_eq name (codes "harts")) (bytes_eq second (codes "harts")) (bytes_eq name (codes "of")) (bytes_eq second (codes "of")) e f (apart name))

-- ---- the first option of words
cut : (long : Option (List ℕ × Option (List ℕ))) (more : List (List ℕ)) (given : Given) (rest : List (List ℕ)) → option_by long more ≡ Some (given, rest)
    → option_at long (λ waits. options_from waits more) ≡ with_option given (options_of rest)
cut None more given rest e = cc e
cut (Some (name, Some value)) more given rest e =
    let same = same_Some ((name, value), more) (given, rest) e in
    ap (λ (p : Given × List (List ℕ)). with_option p.0 (options_of p.1)) same
cut (Some (name, None)) [] given rest e = cc e
cut (Some (name, None)) (value ∷ words) given rest e =
    let same = same_Some ((name, value), words) (given, rest) e in
    ap (λ (p : Given × List (List ℕ)). with_option p.0 (options_of p.1)) same

first_cut : (words : List (List ℕ)) (given : Given) (rest : List (List ℕ)) → first_option words ≡ Some (given, rest) → options_of words ≡ with_option given (options_of rest)
first_cut [] given rest e = cc e
first_cut (word ∷ more) given rest e = cut (long_of word) more given rest e

uncut : (long : Option (List ℕ × Option (List ℕ))) (more : List (List ℕ)) → option_by long more ≡ None → option_at long (λ waits. options_from waits more) ≡ None
uncut None more e = refl
uncut (Some (name, Some value)) more e = cc e
uncut (Some (name, None)) [] e = refl
uncut (Some (name, None)) (value ∷ words) e = cc e

none_first : (words : List (List ℕ)) → 0 < length words → first_option words ≡ None → options_of words ≡ None
none_first [] some e = absurd (omega (arith, some))
none_first (word ∷ more) some e = uncut (long_of word) more e

-- Options of words are at least one where there is a word.
behind_some : (option : Given) (rest : Option (List Given)) (options : List Given) → with_option option rest ≡ Some options → 0 < length options
behind_some option None options e = cc e
behind_some option (Some more) options e = subst (λ (o : List Given). 0 < length o) (same_Some (option ∷ more) options e) (omega arith)

some_options : (words : List (List ℕ)) (options : List Given) → 0 < length words → options_of words ≡ Some options → 0 < length options
some_options words options some e = by_first (first_option words) refl
  where
    by_first : (found : Option (Given × List (List ℕ))) → first_option words ≡ found → 0 < length options
    by_first None is = let bad : None ≡ Some options = sym (none_first words some is) ∙ e in cc bad
    by_first (Some (given, rest)) is = behind_some given (options_of rest) options (sym (first_cut words given rest is) ∙ e)

pub values_none : (words : List (List ℕ)) → first_option words ≡ None → values_of words ≡ None
values_none [] e = refl
values_none (word ∷ more) e = ap (option_and_then values_in) (none_first (word ∷ more) (omega arith) e)

pub values_one : (words : List (List ℕ)) (given : Given) (rest : List (List ℕ)) → first_option words ≡ Some (given, rest) → rest ≡ []
    → values_of words ≡ values_in (given ∷ [])
values_one words given rest e none =
    ap (option_and_then values_in) (first_cut words given rest e ∙ ap (λ (r : List (List ℕ)). with_option given (options_of r)) none)

pub values_stopped : (words : List (List ℕ)) (given : Given) (rest : List (List ℕ)) → first_option words ≡ Some (given, rest) → 0 < length rest → first_option rest ≡ None
    → values_of words ≡ None
values_stopped words given rest e some stops =
    ap (option_and_then values_in) (first_cut words given rest e ∙ ap (with_option given) (none_first rest some stops))

pub values_two : (words : List (List ℕ)) (given second : Given) (rest last : List (List ℕ)) → first_option words ≡ Some (given, rest) → first_option rest ≡ Some (second, last) → last ≡ []
    → values_of words ≡ values_in (given ∷ second ∷ [])
values_two words given second rest last e f none =
    ap (option_and_then values_in) (first_cut words given rest e ∙ ap (with_option given) (first_cut rest second last f ∙ ap (λ (r : List (List ℕ)). with_option second (options_of r)) none))

longer : (given second : Given) (found : Option (List Given)) → ((options : List Given) → found ≡ Some options → 0 < length options)
    → option_and_then values_in (with_option given (with_option second found)) ≡ None
longer given second None some = refl
longer given second (Some options) some =
    let all = given ∷ second ∷ options in
    no_value (has_picture_options all) (option_map (λ harts. (harts, value_of (codes "of") all)) (value_of (codes "harts") all)) (too_many all (omega (arith, some options refl)))

pub values_more : (words : List (List ℕ)) (given second : Given) (rest last : List (List ℕ)) → first_option words ≡ Some (given, rest) → first_option rest ≡ Some (second, last) → 0 < length last
    → values_of words ≡ None
values_more words given second rest last e f some =
    ap (option_and_then values_in) (first_cut words given rest e ∙ ap (with_option given) (first_cut rest second last f))
    ∙ longer given second (options_of last) (λ options is. some_options last options some is)

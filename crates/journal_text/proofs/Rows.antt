-- The row of an entry: the words of its line. The words are read as the entry.
use Rattle.std.proofs.Common.{◌≡◌, ◌&&◌, ◌+◌, ◌≤◌, ℕ, Bool, true, false, cond, List, [], ◌∷◌, ◌++◌, drop, codes, Option, Some, None, Result, Ok, Err, refl, sym, ap, ap₂, subst, ◌∙◌, arith, append_assoc}
use Rattle.std.specs.Fmt.{decimal}
use Rattle.std.specs.List.{join_with_byte}
use Rattle.std.specs.Option.{option_map, option_and_then}
use Rattle.std.proofs.lemmas.Bool.{eqb-true}
use Rattle.transfer_table.specs.Plan.{Plan, parent}
use Rattle.transfer_table.specs.declared.entry.Entry.{Entry}
use Rattle.transfer_table.specs.declared.entry.Entry.TheVariants.{Register, Request, Enter, Yield, Unregister, Skip}
use Rattle.journal_text.specs.declared.fault.TextFault.{TextFault}
use Rattle.journal_text.specs.declared.fault.TextFault.TheVariants.{BadLine, BadNumber}
use Rattle.journal_text.specs.JournalText.{line_text}
use Rattle.journal_text.specs.Journals.{IsEntry}
use Rattle.journal_text.specs.Reading.{Row, Deed, registers, requests, enters, yields, unregisters, skips, row_with, row_of, deed_of, is_word, is_lettered, spells, number_up_to, entry_by, entry_in, entry_of, or_fault, and_then}
use Rattle.journal_text.proofs.Numbers.{word_is, is_word_itself, number_of_decimal, number_spelled}

abbrev pub action_of : Deed → List ℕ
action_of (registers around) = codes "register"
action_of (requests count) = codes "request"
action_of enters = codes "enter"
action_of yields = codes "yield"
action_of unregisters = codes "unregister"
action_of skips = codes "skip"

abbrev pub words_behind : Deed → List (List ℕ)
words_behind (registers around) = codes "under" ∷ (115 ∷ around) ∷ []
words_behind (requests count) = count ∷ []
words_behind enters = []
words_behind yields = []
words_behind unregisters = []
words_behind skips = []

abbrev pub row_rest : Row → List (List ℕ)
row_rest row = (104 ∷ row.hart) ∷ action_of row.deed ∷ (115 ∷ row.site) ∷ words_behind row.deed

abbrev pub row_words : Row → List (List ℕ)
row_words row = row.place ∷ row_rest row

-- The row of an entry at an index.
abbrev pub row_for : Plan → ℕ → Entry → Row
row_for plan place (Register hart site) = row_with (decimal place) (decimal hart) (decimal site) (registers (decimal (parent plan site)))
row_for plan place (Request hart site count) = row_with (decimal place) (decimal hart) (decimal site) (requests (decimal count))
row_for plan place (Enter hart site) = row_with (decimal place) (decimal hart) (decimal site) enters
row_for plan place (Yield hart site) = row_with (decimal place) (decimal hart) (decimal site) yields
row_for plan place (Unregister hart site) = row_with (decimal place) (decimal hart) (decimal site) unregisters
row_for plan place (Skip hart site) = row_with (decimal place) (decimal hart) (decimal site) skips

-- An entry's line is its row's words, separated by spaces, and a newline.
pub line_is_row : (plan : Plan) (place : ℕ) (entry : Entry) → line_text plan place entry ≡ join_with_byte 32 (row_words (row_for plan place entry)) ++ 10 ∷ []
line_is_row plan place (Register hart site) = simp append_assoc
line_is_row plan place (Request hart site count) = simp append_assoc
line_is_row plan place (Enter hart site) = simp append_assoc
line_is_row plan place (Yield hart site) = simp append_assoc
line_is_row plan place (Unregister hart site) = simp append_assoc
line_is_row plan place (Skip hart site) = simp append_assoc

-- A deed is read back from its words.
deed_of_words : (deed : Deed) → deed_of (action_of deed) (words_behind deed) ≡ Some deed
deed_of_words (registers around) = refl
deed_of_words (requests count) = refl
deed_of_words enters = refl
deed_of_words yields = refl
deed_of_words unregisters = refl
deed_of_words skips = refl

pub row_of_words : (row : Row) → row_of (row_words row) ≡ Some row
row_of_words row = ap (option_map (row_with row.place row.hart row.site)) (deed_of_words row.deed)

pub entry_of_row : (plan : Plan) (place : ℕ) (entry : Entry) → IsEntry entry → entry_in plan place (row_for plan place entry) ≡ Some entry
entry_of_row plan place (Register hart site) small =
    rw (is_word_itself (decimal place), number_of_decimal 255 hart (omega arith) small.hart, number_of_decimal 65535 site (omega arith) small.site, is_word_itself (decimal (parent plan site))) refl
entry_of_row plan place (Request hart site count) small =
    rw (is_word_itself (decimal place), number_of_decimal 255 hart (omega arith) small.hart, number_of_decimal 65535 site (omega arith) small.site, number_of_decimal 255 count (omega arith) small.count) refl
entry_of_row plan place (Enter hart site) small =
    rw (is_word_itself (decimal place), number_of_decimal 255 hart (omega arith) small.hart, number_of_decimal 65535 site (omega arith) small.site) refl
entry_of_row plan place (Yield hart site) small =
    rw (is_word_itself (decimal place), number_of_decimal 255 hart (omega arith) small.hart, number_of_decimal 65535 site (omega arith) small.site) refl
entry_of_row plan place (Unregister hart site) small =
    rw (is_word_itself (decimal place), number_of_decimal 255 hart (omega arith) small.hart, number_of_decimal 65535 site (omega arith) small.site) refl
entry_of_row plan place (Skip hart site) small =
    rw (is_word_itself (decimal place), number_of_decimal 255 hart (omega arith) small.hart, number_of_decimal 65535 site (omega arith) small.site) refl

pub entry_is_read : (plan : Plan) (place : ℕ) (entry : Entry) → IsEntry entry → entry_of plan place (row_words (row_for plan place entry)) ≡ Ok entry
entry_is_read plan place entry small = rw (row_of_words (row_for plan place entry), entry_of_row plan place entry small) refl

-- ---- from words to an entry
if_some : {A : Type 0} (b : Bool) (o : Option A) (y : A) → cond b o None ≡ Some y → (b ≡ true) × (o ≡ Some y)
if_some true o y e = (refl, e)
if_some false o y e = cc e

both : (a b : Bool) → (a && b) ≡ true → (a ≡ true) × (b ≡ true)
both true true e = (refl, refl)
both true false e = cc e
both false b e = cc e

mapped : {A B : Type 0} (f : A → B) (o : Option A) (y : B) → option_map f o ≡ Some y → (x : A) × (o ≡ Some x) × (f x ≡ y)
mapped f None y e = cc e
mapped f (Some x) y e = (x, refl, cc e)

then_some : {A B : Type 0} (f : A → Option B) (o : Option A) (y : B) → option_and_then f o ≡ Some y → (x : A) × (o ≡ Some x) × (f x ≡ Some y)
then_some f None y e = cc e
then_some f (Some x) y e = (x, refl, e)

lettered : (letter : ℕ) (word : List ℕ) → is_lettered letter word ≡ true → word ≡ letter ∷ drop 1 word
lettered letter [] e = cc e
lettered letter (first ∷ rest) e = ap (λ (x : ℕ). x ∷ rest) (eqb-true first letter e)

bare_cases : (a b c d : Bool) (action : List ℕ) (deed : Deed) → (a ≡ true → action ≡ codes "enter") → (b ≡ true → action ≡ codes "yield") → (c ≡ true → action ≡ codes "unregister") → (d ≡ true → action ≡ codes "skip")
    → cond a (Some enters) (cond b (Some yields) (cond c (Some unregisters) (cond d (Some skips) None))) ≡ Some deed → (action ≡ action_of deed) × (words_behind deed ≡ [])
bare_cases true b c d action deed ea eb ec ed e = let same : enters ≡ deed = cc e in subst (λ (d : Deed). (action ≡ action_of d) × (words_behind d ≡ [])) same (ea refl, refl)
bare_cases false true c d action deed ea eb ec ed e = let same : yields ≡ deed = cc e in subst (λ (d : Deed). (action ≡ action_of d) × (words_behind d ≡ [])) same (eb refl, refl)
bare_cases false false true d action deed ea eb ec ed e = let same : unregisters ≡ deed = cc e in subst (λ (d : Deed). (action ≡ action_of d) × (words_behind d ≡ [])) same (ec refl, refl)
bare_cases false false false true action deed ea eb ec ed e = let same : skips ≡ deed = cc e in subst (λ (d : Deed). (action ≡ action_of d) × (words_behind d ≡ [])) same (ed refl, refl)
bare_cases false false false false action deed ea eb ec ed e = cc e

-- An action with no word behind the site.
bare_deed : (action : List ℕ) (deed : Deed) → deed_of action [] ≡ Some deed → (action ≡ action_of deed) × (words_behind deed ≡ [])
bare_deed action deed e = bare_cases (is_word (codes "enter") action) (is_word (codes "yield") action) (is_word (codes "unregister") action) (is_word (codes "skip") action) action deed
    (word_is (codes "enter") action) (word_is (codes "yield") action) (word_is (codes "unregister") action) (word_is (codes "skip") action) e

deed_words : (action : List ℕ) (more : List (List ℕ)) (deed : Deed) → deed_of action more ≡ Some deed → (action ≡ action_of deed) × (more ≡ words_behind deed)
deed_words action [] deed e = let bare = bare_deed action deed e in (bare.0, sym bare.1)
deed_words action (count ∷ []) deed e =
    let parts = if_some (is_word (codes "request") action) (Some (requests count)) deed e in
    let same : requests count ≡ deed = cc parts.1 in
    subst (λ (d : Deed). (action ≡ action_of d) × (count ∷ [] ≡ words_behind d)) same (word_is (codes "request") action parts.0, refl)
deed_words action (under ∷ around ∷ []) deed e =
    let parts = if_some (is_word (codes "register") action && is_word (codes "under") under && is_lettered 115 around) (Some (registers (drop 1 around))) deed e in
    let tests = both (is_word (codes "register") action && is_word (codes "under") under) (is_lettered 115 around) parts.0 in
    let words = both (is_word (codes "register") action) (is_word (codes "under") under) tests.0 in
    let same : registers (drop 1 around) ≡ deed = cc parts.1 in
    subst (λ (d : Deed). (action ≡ action_of d) × (under ∷ around ∷ [] ≡ words_behind d)) same (
      word_is (codes "register") action words.0,
      ap₂ (λ (u a : List ℕ). u ∷ a ∷ []) (word_is (codes "under") under words.1) (lettered 115 around tests.1),
    )
deed_words action (a ∷ b ∷ c ∷ more) deed e = cc e

row_words_of : (words : List (List ℕ)) (row : Row) → row_of words ≡ Some row → words ≡ row_words row
row_words_of (place ∷ hart ∷ action ∷ site ∷ more) row e =
    let parts = if_some (is_lettered 104 hart && is_lettered 115 site) (option_map (row_with place (drop 1 hart) (drop 1 site)) (deed_of action more)) row e in
    let letters = both (is_lettered 104 hart) (is_lettered 115 site) parts.0 in
    let deed = mapped (row_with place (drop 1 hart) (drop 1 site)) (deed_of action more) row parts.1 in
    let rest = deed_words action more deed.0 deed.1 in
    let words : place ∷ hart ∷ action ∷ site ∷ more ≡ row_words (row_with place (drop 1 hart) (drop 1 site) deed.0) =
    ap₂ (λ (h : List ℕ) (s : List ℕ). place ∷ h ∷ action ∷ s ∷ more) (lettered 104 hart letters.0) (lettered 115 site letters.1)
    ∙ ap₂ (λ (a : List ℕ) (m : List (List ℕ)). place ∷ (104 ∷ drop 1 hart) ∷ a ∷ (115 ∷ drop 1 site) ∷ m) rest.0 rest.1 in
    words ∙ ap row_words deed.2
row_words_of [] row e = cc e
row_words_of (a ∷ []) row e = cc e
row_words_of (a ∷ b ∷ []) row e = cc e
row_words_of (a ∷ b ∷ c ∷ []) row e = cc e

-- The row of an entry that was read.
abbrev IsRowFor : Plan → ℕ → Row → Entry → Type 0
IsRowFor plan place row entry = (row ≡ row_for plan place entry) × IsEntry entry

row_is : (row : Row) (place hart site : List ℕ) (deed : Deed) → row.place ≡ place → row.hart ≡ hart → row.site ≡ site → row.deed ≡ deed → row ≡ row_with place hart site deed
row_is row place hart site deed p h s d =
    ap₂ (λ (x y : List ℕ). row_with x y row.site row.deed) p h ∙ ap₂ (λ (x : List ℕ) (y : Deed). row_with place hart x y) s d

rows_by : (plan : Plan) (place : ℕ) (row : Row) (hart site : ℕ) (deed : Deed) (entry : Entry) → row.place ≡ decimal place → row.hart ≡ decimal hart → hart ≤ 255 → row.site ≡ decimal site → site ≤ 65535
    → row.deed ≡ deed → entry_by plan hart site deed ≡ Some entry → IsRowFor plan place row entry
rows_by plan place row hart site (registers around) entry p h hs s ss d e =
    let parts = if_some (spells (parent plan site) around) (Some (Register hart site)) entry e in
    let same : Register hart site ≡ entry = cc parts.1 in
    subst (IsRowFor plan place row) same (
      row_is row (decimal place) (decimal hart) (decimal site) (registers (decimal (parent plan site))) p h s (d ∙ ap registers (word_is (decimal (parent plan site)) around parts.0)),
      record { hart = hs; site = ss; count = omega arith },
    )
rows_by plan place row hart site (requests count) entry p h hs s ss d e =
    let parts = mapped (Request hart site) (number_up_to 255 count) entry e in
    let number = number_spelled 255 count parts.0 parts.1 in
    subst (IsRowFor plan place row) parts.2 (
      row_is row (decimal place) (decimal hart) (decimal site) (requests (decimal parts.0)) p h s (d ∙ ap requests number.1),
      record { hart = hs; site = ss; count = number.0 },
    )
rows_by plan place row hart site enters entry p h hs s ss d e =
    let same : Enter hart site ≡ entry = cc e in
    subst (IsRowFor plan place row) same (row_is row (decimal place) (decimal hart) (decimal site) enters p h s d, record { hart = hs; site = ss; count = omega arith })
rows_by plan place row hart site yields entry p h hs s ss d e =
    let same : Yield hart site ≡ entry = cc e in
    subst (IsRowFor plan place row) same (row_is row (decimal place) (decimal hart) (decimal site) yields p h s d, record { hart = hs; site = ss; count = omega arith })
rows_by plan place row hart site unregisters entry p h hs s ss d e =
    let same : Unregister hart site ≡ entry = cc e in
    subst (IsRowFor plan place row) same (row_is row (decimal place) (decimal hart) (decimal site) unregisters p h s d, record { hart = hs; site = ss; count = omega arith })
rows_by plan place row hart site skips entry p h hs s ss d e =
    let same : Skip hart site ≡ entry = cc e in
    subst (IsRowFor plan place row) same (row_is row (decimal place) (decimal hart) (decimal site) skips p h s d, record { hart = hs; site = ss; count = omega arith })

row_for_entry : (plan : Plan) (place : ℕ) (row : Row) (entry : Entry) → entry_in plan place row ≡ Some entry → IsRowFor plan place row entry
row_for_entry plan place row entry e =
    let parts = if_some (spells place row.place) (option_and_then (λ hart. option_and_then (λ site. entry_by plan hart site row.deed) (number_up_to 65535 row.site)) (number_up_to 255 row.hart)) entry e in
    let hart = then_some (λ hart. option_and_then (λ site. entry_by plan hart site row.deed) (number_up_to 65535 row.site)) (number_up_to 255 row.hart) entry parts.1 in
    let site = then_some (λ site. entry_by plan hart.0 site row.deed) (number_up_to 65535 row.site) entry hart.2 in
    let h = number_spelled 255 row.hart hart.0 hart.1 in
    let s = number_spelled 65535 row.site site.0 site.1 in
    rows_by plan place row hart.0 site.0 row.deed entry (word_is (decimal place) row.place parts.0) h.1 h.0 s.1 s.0 refl site.2

pub or_ok : {A : Type 0} (fault : TextFault) (o : Option A) (x : A) → or_fault fault o ≡ Ok x → o ≡ Some x
or_ok fault None x e = cc e
or_ok fault (Some y) x e = let same : y ≡ x = cc e in ap Some same

pub and_ok : {A B : Type 0} (f : A → Result B TextFault) (r : Result A TextFault) (y : B) → and_then f r ≡ Ok y → (x : A) × (r ≡ Ok x) × (f x ≡ Ok y)
and_ok f (Ok x) y e = (x, refl, e)
and_ok f (Err why) y e = cc e

-- Words that are read as an entry are the words of its row.
pub words_are_read : (plan : Plan) (place : ℕ) (words : List (List ℕ)) (entry : Entry) → entry_of plan place words ≡ Ok entry → (words ≡ row_words (row_for plan place entry)) × IsEntry entry
words_are_read plan place words entry e =
    let parts = and_ok (λ row. or_fault (BadNumber (place + 2)) (entry_in plan place row)) (or_fault (BadLine (place + 2)) (row_of words)) entry e in
    let form = or_ok (BadLine (place + 2)) (row_of words) parts.0 parts.1 in
    let right = row_for_entry plan place parts.0 entry (or_ok (BadNumber (place + 2)) (entry_in plan place parts.0) entry parts.2) in
    (row_words_of words parts.0 form ∙ ap row_words right.0, right.1)

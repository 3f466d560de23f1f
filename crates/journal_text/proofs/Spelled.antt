-- A text is read iff it is the journal of a list; the result is that list.
use Rattle.std.proofs.Common.{◌≡◌, ◌+◌, ◌-◌, ◌<◌, ◌≤◌, ◌==◌, ◌^◌, ℕ, Bool, true, false, cond, List, [], ◌∷◌, ◌++◌, length, get_or, codes, All, Result, Ok, Err, IfOk, refl, sym, ap, ap₂, inl, inr, subst, ◌∙◌, arith, append_assoc}
use Rattle.std.specs.Fmt.{decimal}
use Rattle.std.specs.List.{slice_split, join_with_byte}
use Rattle.std.proofs.lemmas.Bool.{eqb-true, cases_lt}
use Rattle.std.proofs.lemmas.Grind.{common_steps}
use Rattle.std.proofs.lemmas.List.Elements.{All-head, All-tail, All-cons, All-nil}
use Rattle.std.proofs.lemmas.List.Splits.{slice_split_at, join_with_byte-slice_split}
use Rattle.transfer_table.specs.Plan.{Plan, IsPlan, parent}
use Rattle.transfer_table.specs.declared.entry.Entry.{Entry}
use Rattle.transfer_table.specs.declared.entry.Entry.TheVariants.{Register, Request, Enter, Yield, Unregister, Skip}
use Rattle.journal_text.specs.declared.fault.TextFault.{TextFault}
use Rattle.journal_text.specs.declared.fault.TextFault.TheVariants as fault
use Rattle.journal_text.specs.JournalText.{line_text, lines_text}
use Rattle.journal_text.specs.Journals.{IsEntry, IsJournalOf}
use Rattle.journal_text.specs.Reading.{lines_of, words_of, is_word, number_up_to, count_in, entry_of, entries_of, if_counted, journal_in, journal_of, and_then, or_fault}
use Rattle.journal_text.specs.Seen.{Reads}
use Rattle.journal_text.proofs.Free.{IsFree, AreFree, split_joined, joined_free, decimal_free, lettered_free, high_free}
use Rattle.journal_text.proofs.Numbers.{word_is, number_of_decimal, number_spelled}
use Rattle.journal_text.proofs.Rows.{row_words, row_rest, row_for, line_is_row, entry_is_read, words_are_read, and_ok, or_ok}
use Rattle.journal_text.proofs.Steps.{entries_step, all_read, counted_right, with_first}

-- ---- a written journal is read
parent_within : (plan : Plan) → IsPlan plan → (k : ℕ) → get_or plan.parents k 0 < 2 ^ 64
parent_within plan right k =
    elim (cases_lt k (length plan.parents)) [
      | inl inside ↦ let below : get_or plan.parents (k + 1 - 1) 0 < k + 1 = right.below (k + 1) (omega arith) (omega arith) in
          let same : get_or plan.parents (k + 1 - 1) 0 ≡ get_or plan.parents k 0 = ap (λ (i : ℕ). get_or plan.parents i 0) (omega arith) in
          omega (arith, below, same, right.few_sites)
      | inr past ↦ let none : get_or plan.parents k 0 ≡ 0 = grind (arith, common_steps) in omega (arith, none)
    ]

bare_free : (place hart site : ℕ) (action : List ℕ) (c : ℕ) → c < 48 → place < 2 ^ 32 → hart ≤ 255 → site ≤ 65535 → IsFree c action
    → AreFree c (decimal place ∷ (104 ∷ decimal hart) ∷ action ∷ (115 ∷ decimal site) ∷ [])
bare_free place hart site action c low small h s free = (
  decimal_free c place low (omega arith),
  (lettered_free c 104 hart low (omega arith) (omega arith), (free, (lettered_free c 115 site low (omega arith) (omega arith), tt))),
)

-- The words of a row have only letters and digits.
row_free : (plan : Plan) → IsPlan plan → (place : ℕ) → place < 2 ^ 32 → (entry : Entry) → IsEntry entry → (c : ℕ) → c < 48 → AreFree c (row_words (row_for plan place entry))
row_free plan right place small (Register hart site) fits c low = (
  decimal_free c place low (omega arith),
  (
    lettered_free c 104 hart low (omega arith) (omega (arith, fits.hart)),
    (
      high_free c low (codes "register") refl,
      (
        lettered_free c 115 site low (omega arith) (omega (arith, fits.site)),
        (high_free c low (codes "under") refl, (lettered_free c 115 (parent plan site) low (omega arith) (parent_within plan right (site - 1)), tt)),
      ),
    ),
  ),
)
row_free plan right place small (Request hart site count) fits c low = (
  decimal_free c place low (omega arith),
  (
    lettered_free c 104 hart low (omega arith) (omega (arith, fits.hart)),
    (
      high_free c low (codes "request") refl,
      (lettered_free c 115 site low (omega arith) (omega (arith, fits.site)), (decimal_free c count low (omega (arith, fits.count)), tt)),
    ),
  ),
)
row_free plan right place small (Enter hart site) fits c low =
    bare_free place hart site (codes "enter") c low small fits.hart fits.site (high_free c low (codes "enter") refl)
row_free plan right place small (Yield hart site) fits c low =
    bare_free place hart site (codes "yield") c low small fits.hart fits.site (high_free c low (codes "yield") refl)
row_free plan right place small (Unregister hart site) fits c low =
    bare_free place hart site (codes "unregister") c low small fits.hart fits.site (high_free c low (codes "unregister") refl)
row_free plan right place small (Skip hart site) fits c low =
    bare_free place hart site (codes "skip") c low small fits.hart fits.site (high_free c low (codes "skip") refl)

-- The words of an entry's line, and that the line has no newline.
words_written : (plan : Plan) → IsPlan plan → (place : ℕ) → place < 2 ^ 32 → (entry : Entry) → IsEntry entry
    → words_of (join_with_byte 32 (row_words (row_for plan place entry))) ≡ row_words (row_for plan place entry)
words_written plan right place small entry fits = split_joined 32 (row_for plan place entry).place (row_rest (row_for plan place entry)) (row_free plan right place small entry fits 32 (omega arith))

line_free : (plan : Plan) → IsPlan plan → (place : ℕ) → place < 2 ^ 32 → (entry : Entry) → IsEntry entry
    → IsFree 10 (join_with_byte 32 (row_words (row_for plan place entry)))
line_free plan right place small entry fits = joined_free 10 32 (row_for plan place entry).place (row_rest (row_for plan place entry)) refl (row_free plan right place small entry fits 10 (omega arith))

cut_line : (line rest : List ℕ) → IsFree 10 line → lines_of (line ++ 10 ∷ [] ++ rest) ≡ line ∷ lines_of rest
cut_line line rest free = rw append_assoc (slice_split_at (λ byte. byte == 10) line 10 rest free refl)

entries_written : (plan : Plan) → IsPlan plan → (place : ℕ) (list : List Entry) → place + length list < 2 ^ 32 → All IsEntry list → entries_of plan place (lines_of (lines_text plan place list)) ≡ Ok list
entries_written plan right place [] small fits = refl
entries_written plan right place (entry ∷ more) small fits =
    let fit = All-head IsEntry entry more fits in
    let row = join_with_byte 32 (row_words (row_for plan place entry)) in
    let rest = lines_text plan (place + 1) more in
    let line : lines_of (lines_text plan place (entry ∷ more)) ≡ row ∷ lines_of rest =
    ap (λ (text : List ℕ). lines_of (text ++ rest)) (line_is_row plan place entry) ∙ cut_line row rest (line_free plan right place (omega arith) entry fit) in
    let read : entry_of plan place (words_of row) ≡ Ok entry =
    ap (entry_of plan place) (words_written plan right place (omega arith) entry fit) ∙ entry_is_read plan place entry fit in
    ap (entries_of plan place) line ∙ entries_step plan place row rest
    ∙ ap (and_then (λ entry. with_first entry (entries_of plan (place + 1) (lines_of rest)))) read
    ∙ ap (with_first entry) (entries_written plan right (place + 1) more (omega arith) (All-tail IsEntry entry more fits))

pub journal_written : (plan : Plan) → IsPlan plan → (list : List Entry) (text : List ℕ) → IsJournalOf plan list text → journal_of plan text ≡ Ok list
journal_written plan right list text is =
    let first = codes "transfers " ++ decimal (length list) in
    let rest = lines_text plan 0 list in
    let free : AreFree 32 (codes "transfers" ∷ decimal (length list) ∷ []) = (high_free 32 (omega arith) (codes "transfers") refl, (decimal_free 32 (length list) (omega arith) (omega (arith, is.few)), tt)) in
    let ended : IsFree 10 first =
    joined_free 10 32 (codes "transfers") (decimal (length list) ∷ []) refl (high_free 10 (omega arith) (codes "transfers") refl, (decimal_free 10 (length list) (omega arith) (omega (arith, is.few)), tt)) in
    let cut : lines_of text ≡ first ∷ lines_of rest = ap lines_of is.spelled ∙ cut_line first rest ended in
    let said : count_in (words_of first) ≡ Ok (length list) =
    ap count_in (split_joined 32 (codes "transfers") (decimal (length list) ∷ []) free)
    ∙ ap (or_fault (fault.BadNumber 1)) (number_of_decimal 65535 (length list) (omega arith) is.few) in
    all_read plan text first rest cut (length list) said list (entries_written plan right 0 list (omega (arith, is.few)) is.entries) ∙ counted_right (length list) list refl

-- ---- a text that is read is a written journal
line_joined : (c : ℕ) (text : List ℕ) → join_with_byte c (slice_split (λ byte. byte == c) text) ≡ text
line_joined c text = join_with_byte-slice_split c text

if_ok : {A : Type 0} (b : Bool) (r : Result A TextFault) (why : TextFault) (x : A) → cond b r (Err why) ≡ Ok x → (b ≡ true) × (r ≡ Ok x)
if_ok true r why x e = (refl, e)
if_ok false r why x e = cc e

last_is : (plan : Plan) (place : ℕ) (last : List ℕ) (list : List Entry) → entries_of plan place (last ∷ []) ≡ Ok list → (last ≡ []) × (list ≡ [])
last_is plan place [] list e = (refl, cc e)
last_is plan place (byte ∷ more) list e =
    let parts = if_ok (length (byte ∷ more) == 0) (Ok []) (fault.BadLine (place + 2)) list e in
    absurd (omega (arith, eqb-true (length (byte ∷ more)) 0 parts.0))

lines_read : (plan : Plan) (place : ℕ) (line : List ℕ) (more : List (List ℕ)) (list : List Entry) → entries_of plan place (line ∷ more) ≡ Ok list
    → (join_with_byte 10 (line ∷ more) ≡ lines_text plan place list) × All IsEntry list
lines_read plan place last [] list e =
    let parts = last_is plan place last list e in
    subst (λ (l : List Entry). (join_with_byte 10 (last ∷ []) ≡ lines_text plan place l) × All IsEntry l) (sym parts.1) (parts.0, All-nil IsEntry)
lines_read plan place line (next ∷ more) list e =
    let one = and_ok (λ entry. and_then (λ rest. Ok (entry ∷ rest)) (entries_of plan (place + 1) (next ∷ more))) (entry_of plan place (words_of line)) list e in
    let others = and_ok (λ rest. Ok (one.0 ∷ rest)) (entries_of plan (place + 1) (next ∷ more)) list one.2 in
    let row = words_are_read plan place (words_of line) one.0 one.1 in
    let behind = lines_read plan (place + 1) next more others.0 others.1 in
    let same : one.0 ∷ others.0 ≡ list = cc others.2 in
    let text : line ++ 10 ∷ [] ≡ line_text plan place one.0 =
    ap (λ (l : List ℕ). l ++ 10 ∷ []) (sym (line_joined 32 line) ∙ ap (join_with_byte 32) row.0) ∙ sym (line_is_row plan place one.0) in
    subst (λ (l : List Entry). (join_with_byte 10 (line ∷ next ∷ more) ≡ lines_text plan place l) × All IsEntry l) same (
      sym (append_assoc line (10 ∷ []) (join_with_byte 10 (next ∷ more))) ∙ ap₂ (λ (x y : List ℕ). x ++ y) text behind.0,
      All-cons IsEntry one.0 others.0 row.1 behind.1,
    )

count_words : (words : List (List ℕ)) (said : ℕ) → count_in words ≡ Ok said → (words ≡ codes "transfers" ∷ decimal said ∷ []) × (said ≤ 65535)
count_words (word ∷ number ∷ []) said e =
    let parts = if_ok (is_word (codes "transfers") word) (or_fault (fault.BadNumber 1) (number_up_to 65535 number)) (fault.BadLine 1) said e in
    let spelled = number_spelled 65535 number said (or_ok (fault.BadNumber 1) (number_up_to 65535 number) said parts.1) in
    (ap₂ (λ (w n : List ℕ). w ∷ n ∷ []) (word_is (codes "transfers") word parts.0) spelled.1, spelled.0)
count_words [] said e = cc e
count_words (a ∷ []) said e = cc e
count_words (a ∷ b ∷ c ∷ more) said e = cc e

counted : (said : ℕ) (found list : List Entry) → if_counted said found ≡ Ok list → (found ≡ list) × (length list ≡ said)
counted said found list e =
    let parts = if_ok (length found == said) (Ok found) (fault.WrongCount said (length found)) list e in
    let same : found ≡ list = cc parts.1 in
    (same, sym (ap length same) ∙ eqb-true (length found) said parts.0)

journal_parts : (plan : Plan) (lines : List (List ℕ)) (list : List Entry) → journal_in plan lines ≡ Ok list → IsJournalOf plan list (join_with_byte 10 lines)
journal_parts plan (first ∷ next ∷ more) list e =
    let said = and_ok (λ said. and_then (if_counted said) (entries_of plan 0 (next ∷ more))) (count_in (words_of first)) list e in
    let found = and_ok (if_counted said.0) (entries_of plan 0 (next ∷ more)) list said.2 in
    let words = count_words (words_of first) said.0 said.1 in
    let right = counted said.0 found.0 list found.2 in
    let behind = lines_read plan 0 next more found.0 found.1 in
    let number : said.0 ≡ length list = sym right.1 in
    let head : first ≡ codes "transfers " ++ decimal (length list) =
    sym (line_joined 32 first) ∙ ap (join_with_byte 32) words.0 ∙ ap (λ (n : ℕ). codes "transfers " ++ decimal n) number in
    record {
      few = omega (arith, words.1, number);
      entries = subst (All IsEntry) right.0 behind.1;
      spelled = ap₂ (λ (x y : List ℕ). x ++ 10 ∷ y) head (behind.0 ∙ ap (lines_text plan 0) right.0) ∙ simp append_assoc;
    }
journal_parts plan [] list e = cc e
journal_parts plan (only ∷ []) list e = cc e

pub journal_read : (plan : Plan) (text : List ℕ) (list : List Entry) → journal_of plan text ≡ Ok list → IsJournalOf plan list text
journal_read plan text list e = subst (IsJournalOf plan list) (line_joined 10 text) (journal_parts plan (lines_of text) list e)

-- ---- from the contract of a reader
pub reads_found : (plan : Plan) (text : List ℕ) (result : Result (List Entry) TextFault) → Reads (λ list. list) (journal_of plan text) result → IfOk result (λ list. IsJournalOf plan list text)
reads_found plan text (Ok list) reads = journal_read plan text list reads
reads_found plan text (Err why) reads = tt

pub reads_only : (plan : Plan) → IsPlan plan → (text : List ℕ) (result : Result (List Entry) TextFault) → Reads (λ list. list) (journal_of plan text) result
    → (list : List Entry) → IsJournalOf plan list text → Reads (λ list. list) (Ok list) result
reads_only plan right text result reads list is =
    subst (λ (wanted : Result (List Entry) TextFault). Reads (λ list. list) wanted result) (journal_written plan right list text is) reads

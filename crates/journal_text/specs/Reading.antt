-- The entries of a journal's text, or its first fault. A text is cut at its newlines and a line at its spaces, so words may be
-- empty.
use Rattle.std.specs.Prelude.{ℕ, ◌+◌, ◌==◌, ◌&&◌, Bool, false, if◌then◌else◌, nat_eq, nat_le, List, [], ◌∷◌, length, drop, codes, Option, Some, None, Result, Ok, Err}
use Rattle.std.specs.Cmp.Lexicographic.{pointwise}
use Rattle.std.specs.Fmt.{decimal}
use Rattle.std.specs.List.{slice_split}
use Rattle.std.specs.Option.{option_map, option_and_then}
use Rattle.std.specs.Str.Parse.{digits_value}
use Rattle.transfer_table.specs.Plan.{Plan, parent, most_entries}
use Rattle.transfer_table.specs.declared.entry.Entry.{Entry}
use Rattle.transfer_table.specs.declared.entry.Entry.TheVariants.{Register, Request, Enter, Yield, Unregister, Skip}
use Rattle.journal_text.specs.declared.fault.TextFault.{TextFault}
use Rattle.journal_text.specs.declared.fault.TextFault.TheVariants.{BadLine, BadNumber, WrongCount}

-- The pieces of a text between its newlines, and of a line between its spaces.
abbrev pub lines_of : List ℕ → List (List ℕ)
lines_of text = slice_split (λ byte. byte == 10) text

-- The words of a line.
abbrev pub words_of : List ℕ → List (List ℕ)
words_of line = slice_split (λ byte. byte == 32) line

-- The word is this text.
abbrev pub is_word : List ℕ → List ℕ → Bool
is_word text word = pointwise nat_eq word text

-- The word spells this number, in decimal without leading zeros.
abbrev pub spells : ℕ → List ℕ → Bool
spells number word = is_word (decimal number) word

-- The number that the word spells, if it spells one of at most this.
abbrev pub number_up_to : ℕ → List ℕ → Option ℕ
number_up_to most word =
    let number = digits_value 10 word in if nat_le number most && spells number word
    then Some number else None

-- The word begins with this letter.
abbrev pub is_lettered : ℕ → List ℕ → Bool
is_lettered letter [] = false
is_lettered letter (first ∷ rest) = first == letter

-- What the hart does at the site in a line, with the words of further numbers.
pub data Deed : Type 0 where
  registers : List ℕ → Deed
  requests : List ℕ → Deed
  enters yields unregisters skips : Deed

-- The deed of an action and the words behind the site.
abbrev pub deed_of : List ℕ → List (List ℕ) → Option Deed
deed_of action [] =
    if is_word (codes "enter") action then Some enters else
    if is_word (codes "yield") action then Some yields else
    if is_word (codes "unregister") action then Some unregisters else
    if is_word (codes "skip") action then Some skips else None
deed_of action (count ∷ []) =
    if is_word (codes "request") action then Some (requests count) else None
deed_of action (under ∷ around ∷ []) =
    if is_word (codes "register") action && is_word (codes "under") under && is_lettered 115 around
    then Some (registers (drop 1 around)) else None
deed_of action more = None

-- A line that has the form of a row: the words of its index, its hart and its site, and its deed.
pub record Row : Type 0 where
  pub place : List ℕ
  pub hart : List ℕ
  pub site : List ℕ
  pub deed : Deed

-- The row of these words.
abbrev pub row_with : List ℕ → List ℕ → List ℕ → Deed → Row
row_with place hart site deed = record { place = place; hart = hart; site = site; deed = deed }

-- The row that words have the form of, with the letters `h` and `s` in front of the numbers of a hart and a site.
abbrev pub row_of : List (List ℕ) → Option Row
row_of (place ∷ hart ∷ action ∷ site ∷ more) =
    if is_lettered 104 hart && is_lettered 115 site
    then option_map (row_with place (drop 1 hart) (drop 1 site)) (deed_of action more)
    else None
row_of words = None

-- The greatest numbers of a hart, a site and a count in a text: those of one byte, of two, and of one. The table decides
-- whether the plan has such a hart and site.
abbrev pub most_hart : ℕ
most_hart = 255

-- The greatest number of a site.
abbrev pub most_site : ℕ
most_site = 65535

-- The greatest number of requested harts.
abbrev pub most_count : ℕ
most_count = 255

-- The entry of a hart and a site, if the words for further numbers are right.
abbrev pub entry_by : Plan → ℕ → ℕ → Deed → Option Entry
entry_by plan hart site (registers around) =
    if spells (parent plan site) around then Some (Register hart site) else None
entry_by plan hart site (requests count) = option_map (Request hart site) (number_up_to most_count count)
entry_by plan hart site enters = Some (Enter hart site)
entry_by plan hart site yields = Some (Yield hart site)
entry_by plan hart site unregisters = Some (Unregister hart site)
entry_by plan hart site skips = Some (Skip hart site)

-- The entry of a row at this index, if all its numbers are right: the first number is the index.
abbrev pub entry_in : Plan → ℕ → Row → Option Entry
entry_in plan place row =
    if spells place row.place
    then option_and_then (λ hart. option_and_then (λ site. entry_by plan hart site row.deed)
    (number_up_to most_site row.site)) (number_up_to most_hart row.hart)
    else None

-- The value, or else this fault.
abbrev pub or_fault : {A : Type 0} → TextFault → Option A → Result A TextFault
or_fault fault None = Err fault
or_fault fault (Some x) = Ok x

-- The result of f on a value, or the fault.
abbrev pub and_then : {A B : Type 0} → (A → Result B TextFault) → Result A TextFault
    → Result B TextFault
and_then f (Ok x) = f x
and_then f (Err fault) = Err fault

-- The entry of the line that has these words; the line of index 0 is the second.
abbrev pub entry_of : Plan → ℕ → List (List ℕ) → Result Entry TextFault
entry_of plan place words =
    and_then (λ row. or_fault (BadNumber (place + 2)) (entry_in plan place row))
    (or_fault (BadLine (place + 2)) (row_of words))

-- The number of transfers that the first line says.
abbrev pub count_in : List (List ℕ) → Result ℕ TextFault
count_in (word ∷ number ∷ []) =
    if is_word (codes "transfers") word then or_fault (BadNumber 1) (number_up_to most_entries number)
    else Err (BadLine 1)
count_in words = Err (BadLine 1)

-- The entries of the lines from this index on; the text after the last newline is a line without one.
abbrev pub entries_of : Plan → ℕ → List (List ℕ) → Result (List Entry) TextFault
entries_of plan place [] = Ok []
entries_of plan place (last ∷ []) = if length last == 0 then Ok [] else Err (BadLine (place + 2))
entries_of plan place (line ∷ next ∷ more) =
    and_then (λ entry. and_then (λ rest. Ok (entry ∷ rest))
    (entries_of plan (place + 1) (next ∷ more))) (entry_of plan place (words_of line))

-- The entries, if their number is that in the first line.
abbrev pub if_counted : ℕ → List Entry → Result (List Entry) TextFault
if_counted said list = if length list == said then Ok list else Err (WrongCount said (length list))

-- The entries of a text that is cut into these lines.
abbrev pub journal_in : Plan → List (List ℕ) → Result (List Entry) TextFault
journal_in plan (first ∷ next ∷ more) =
    and_then (λ said. and_then (if_counted said) (entries_of plan 0 (next ∷ more)))
    (count_in (words_of first))
journal_in plan lines = Err (BadLine 1)

-- The entries of which the text is the journal, or the text's first fault.
abbrev pub journal_of : Plan → List ℕ → Result (List Entry) TextFault
journal_of plan text = journal_in plan (lines_of text)

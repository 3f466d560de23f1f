-- The line of a journal's fault is a line of the journal.
use Rattle.std.proofs.Common.{◌+◌, ◌≤◌, ◌==◌, ℕ, Bool, true, false, cond, List, [], ◌∷◌, codes, length, Option, Some, None, Result, Ok, Err, subst, arith}
use Rattle.std.proofs.lemmas.List.Splits.{length-slice_split}
use Rattle.std.proofs.lemmas.List.Sums.{count_by-le-length}
use Rattle.transfer_table.specs.Plan.{Plan}
use Rattle.transfer_table.specs.declared.entry.Entry.{Entry}
use Rattle.journal_text.specs.declared.fault.TextFault.{TextFault}
use Rattle.journal_text.specs.declared.fault.TextFault.TheVariants as fault
use Rattle.journal_text.specs.Reading.{lines_of, words_of, and_then, or_fault, row_of, entry_in, entry_of, entries_of, count_in, if_counted, journal_in, journal_of, is_word, number_up_to}
use Rattle.journal_text.specs.Seen.{Reads}
use Rattle.run_audit.specs.Found.{IsWithin}

abbrev FailsWithin : {A : Type 0} → ℕ → Result A TextFault → Type 0
FailsWithin most (Ok x) = Unit {0}
FailsWithin most (Err why) = IsWithin most why

pub wider : (few most : ℕ) → few ≤ most → (why : TextFault) → IsWithin few why → IsWithin most why
wider few most le (fault.BadLine line) within = omega (arith, within)
wider few most le (fault.BadNumber line) within = omega (arith, within)
wider few most le (fault.WrongCount said found) within = tt
wider few most le fault.Memory within = tt

wider_fails : {A : Type 0} (few most : ℕ) → few ≤ most → (r : Result A TextFault) → FailsWithin few r → FailsWithin most r
wider_fails few most le (Ok x) within = tt
wider_fails few most le (Err why) within = wider few most le why within

then_within : {A B : Type 0} (most : ℕ) (f : A → Result B TextFault) (r : Result A TextFault) → FailsWithin most r → ((x : A) → FailsWithin most (f x)) → FailsWithin most (and_then f r)
then_within most f (Ok x) within each = each x
then_within most f (Err why) within each = within

or_within : {A : Type 0} (most : ℕ) (why : TextFault) (o : Option A) → IsWithin most why → FailsWithin most (or_fault why o)
or_within most why None within = within
or_within most why (Some x) within = tt

entry_within : (plan : Plan) (place : ℕ) (words : List (List ℕ)) → FailsWithin (place + 2) (entry_of plan place words)
entry_within plan place words =
    then_within (place + 2) (λ row. or_fault (fault.BadNumber (place + 2)) (entry_in plan place row)) (or_fault (fault.BadLine (place + 2)) (row_of words))
    (or_within (place + 2) (fault.BadLine (place + 2)) (row_of words) (omega arith))
    (λ row. or_within (place + 2) (fault.BadNumber (place + 2)) (entry_in plan place row) (omega arith))

last_within : (done : Bool) (place most : ℕ) → place + 2 ≤ most → FailsWithin {A = List Entry} most (cond done (Ok []) (Err (fault.BadLine (place + 2))))
last_within true place most le = tt
last_within false place most le = le

lines_within : (plan : Plan) (place : ℕ) (line : List ℕ) (more : List (List ℕ)) (most : ℕ) → place + length more + 2 ≤ most → FailsWithin most (entries_of plan place (line ∷ more))
lines_within plan place last [] most le = last_within (length last == 0) place most (omega (arith, le))
lines_within plan place line (next ∷ more) most le =
    then_within most (λ entry. and_then (λ rest. Ok (entry ∷ rest)) (entries_of plan (place + 1) (next ∷ more))) (entry_of plan place (words_of line))
    (wider_fails (place + 2) most (omega (arith, le)) (entry_of plan place (words_of line)) (entry_within plan place (words_of line)))
    (λ entry. then_within most (λ rest. Ok (entry ∷ rest)) (entries_of plan (place + 1) (next ∷ more)) (lines_within plan (place + 1) next more most (omega (arith, le))) (λ rest. tt))

if_within : (right : Bool) (r : Result ℕ TextFault) → FailsWithin 1 r → FailsWithin 1 (cond right r (Err (fault.BadLine 1)))
if_within true r within = within
if_within false r within = omega arith

count_within : (words : List (List ℕ)) → FailsWithin 1 (count_in words)
count_within [] = omega arith
count_within (a ∷ []) = omega arith
count_within (word ∷ number ∷ []) = if_within (is_word (codes "transfers") word) (or_fault (fault.BadNumber 1) (number_up_to 65535 number)) (or_within 1 (fault.BadNumber 1) (number_up_to 65535 number) (omega arith))
count_within (a ∷ b ∷ c ∷ more) = omega arith

counted_cases : (same : Bool) (said most : ℕ) (list : List Entry) → FailsWithin most (cond same (Ok list) (Err (fault.WrongCount said (length list))))
counted_cases true said most list = tt
counted_cases false said most list = tt

counted_within : (said most : ℕ) (list : List Entry) → FailsWithin most (if_counted said list)
counted_within said most list = counted_cases (length list == said) said most list

journal_within : (plan : Plan) (lines : List (List ℕ)) (most : ℕ) → 1 ≤ most → length lines ≤ most → FailsWithin most (journal_in plan lines)
journal_within plan [] most one le = one
journal_within plan (only ∷ []) most one le = one
journal_within plan (first ∷ next ∷ more) most one le =
    then_within most (λ said. and_then (if_counted said) (entries_of plan 0 (next ∷ more))) (count_in (words_of first))
    (wider_fails 1 most one (count_in (words_of first)) (count_within (words_of first)))
    (λ said. then_within most (if_counted said) (entries_of plan 0 (next ∷ more)) (lines_within plan 0 next more most (omega (arith, le))) (counted_within said most))

few_lines : (text : List ℕ) → length (lines_of text) ≤ length text + 1
few_lines text = omega (arith, length-slice_split (λ byte. byte == 10) text, count_by-le-length (λ byte. byte == 10) text)

reads_fault : {A B : Type 0} (seen : A → B) (most : ℕ) (wanted : Result B TextFault) (why : TextFault) → Reads seen wanted (Err why) → FailsWithin most wanted → IsWithin most why
reads_fault seen most wanted fault.Memory reads within = tt
reads_fault seen most wanted (fault.BadLine line) reads within = subst (FailsWithin most) reads within
reads_fault seen most wanted (fault.BadNumber line) reads within = subst (FailsWithin most) reads within
reads_fault seen most wanted (fault.WrongCount said found) reads within = tt

-- The line of a fault that was read is a line of the text.
pub read_within : (plan : Plan) (text : List ℕ) (why : TextFault) → Reads {A = List Entry} (λ list. list) (journal_of plan text) (Err why) → IsWithin (length text + 1) why
read_within plan text why reads =
    reads_fault {A = List Entry} (λ list. list) (length text + 1) (journal_of plan text) why reads
    (journal_within plan (lines_of text) (length text + 1) (omega arith) (few_lines text))

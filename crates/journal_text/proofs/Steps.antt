-- Reading a text line by line.
use Rattle.std.proofs.Common.{◌≡◌, ◌+◌, ℕ, Bool, cond, true, false, ◌==◌, List, [], ◌∷◌, ◌++◌, length, take, Result, Ok, Err, refl, sym, ap, ◌∙◌, append_assoc}
use Rattle.std.specs.List.{slice_split, onto_first}
use Rattle.std.proofs.lemmas.Bool.{eqb-true, eq-eqb}
use Rattle.transfer_table.specs.Plan.{Plan}
use Rattle.transfer_table.specs.declared.entry.Entry.{Entry}
use Rattle.journal_text.specs.declared.fault.TextFault.{TextFault}
use Rattle.journal_text.specs.Reading.{lines_of, words_of, count_in, row_of, and_then, entry_of, entries_of, if_counted, journal_of}
use Rattle.journal_text.specs.Seen.{Reads}
use Rattle.journal_text.specs.declared.fault.TextFault.TheVariants as fault

pub not_equal : (b : Bool) → (b ≡ true → ⊥) → b ≡ false
not_equal true never = absurd (never refl)
not_equal false never = refl

-- The entries that follow these.
abbrev pub behind : List Entry → Result (List Entry) TextFault → Result (List Entry) TextFault
behind front (Ok rest) = Ok (front ++ rest)
behind front (Err fault) = Err fault

abbrev pub with_first : Entry → Result (List Entry) TextFault → Result (List Entry) TextFault
with_first entry rest = and_then (λ more. Ok (entry ∷ more)) rest

-- A list that is cut has a piece.
some_onto : {X : Type 0} (x : X) (parts : List (List X)) → (first : List X) × (more : List (List X)) × (onto_first x parts ≡ first ∷ more)
some_onto x [] = (x ∷ [], [], refl)
some_onto x (part ∷ parts) = (x ∷ part, parts, refl)

some_choice : {X : Type 0} (yes : Bool) (x : X) (parts : List (List X)) → (first : List X) × (more : List (List X)) × (cond yes ([] ∷ parts) (onto_first x parts) ≡ first ∷ more)
some_choice true x parts = ([], parts, refl)
some_choice false x parts = some_onto x parts

pub some_piece : {X : Type 0} (p : X → Bool) (xs : List X) → (first : List X) × (more : List (List X)) × (slice_split p xs ≡ first ∷ more)
some_piece p [] = ([], [], refl)
some_piece p (x ∷ xs) = some_choice (p x) x (slice_split p xs)

-- The lines of a text after one line.
pub entries_step : (plan : Plan) (place : ℕ) (line rest : List ℕ) → entries_of plan place (line ∷ lines_of rest) ≡ and_then (λ entry. with_first entry (entries_of plan (place + 1) (lines_of rest))) (entry_of plan place (words_of line))
entries_step plan place line rest = let piece = some_piece (λ byte. byte == 10) rest in rw piece.2 refl

-- The first seven words of a line determine its count.
pub count_of_few : (words : List (List ℕ)) → count_in (take 7 words) ≡ count_in words
count_of_few [] = refl
count_of_few (a ∷ []) = refl
count_of_few (a ∷ b ∷ []) = refl
count_of_few (a ∷ b ∷ c ∷ more) = refl

pub row_of_few : (words : List (List ℕ)) → row_of (take 7 words) ≡ row_of words
row_of_few [] = refl
row_of_few (a ∷ []) = refl
row_of_few (a ∷ b ∷ []) = refl
row_of_few (a ∷ b ∷ c ∷ []) = refl
row_of_few (a ∷ b ∷ c ∷ d ∷ []) = refl
row_of_few (a ∷ b ∷ c ∷ d ∷ e ∷ []) = refl
row_of_few (a ∷ b ∷ c ∷ d ∷ e ∷ f ∷ []) = refl
row_of_few (a ∷ b ∷ c ∷ d ∷ e ∷ f ∷ g ∷ more) = refl

pub entry_of_few : (plan : Plan) (place : ℕ) (words : List (List ℕ)) → entry_of plan place (take 7 words) ≡ entry_of plan place words
entry_of_few plan place words = rw (row_of_few words) refl

-- A result that equals the wanted one is a correct read.
pub reads_exactly : {A : Type 0} (wanted result : Result A TextFault) → result ≡ wanted → Reads (λ x. x) wanted result
reads_exactly wanted (Ok x) e = sym e
reads_exactly wanted (Err fault.Memory) e = tt
reads_exactly wanted (Err (fault.BadLine line)) e = sym e
reads_exactly wanted (Err (fault.BadNumber line)) e = sym e
reads_exactly wanted (Err (fault.WrongCount said found)) e = sym e

-- A fault that is passed on.
pub reads_on : {A B C D : Type 0} (seen : A → B) (seen' : C → D) (wanted : Result B TextFault) (wanted' : Result D TextFault) (why : TextFault)
    → Reads seen wanted (Err why) → ((e : TextFault) → wanted ≡ Err e → wanted' ≡ Err e) → Reads seen' wanted' (Err why)
reads_on seen seen' wanted wanted' fault.Memory reads same = tt
reads_on seen seen' wanted wanted' (fault.BadLine line) reads same = same (fault.BadLine line) reads
reads_on seen seen' wanted wanted' (fault.BadNumber line) reads same = same (fault.BadNumber line) reads
reads_on seen seen' wanted wanted' (fault.WrongCount said found) reads same = same (fault.WrongCount said found) reads

-- These entries, one more, and then the rest.
behind_one : (front : List Entry) (entry : Entry) (rest : Result (List Entry) TextFault) → behind front (with_first entry rest) ≡ behind (front ++ entry ∷ []) rest
behind_one front entry (Ok more) = ap Ok (sym (append_assoc front (entry ∷ []) more))
behind_one front entry (Err why) = refl

-- A line with a fault.
pub line_fails : (plan : Plan) (all : Result (List Entry) TextFault) (front : List Entry) (place : ℕ) (text line after : List ℕ)
    → all ≡ behind front (entries_of plan place (lines_of text)) → lines_of text ≡ line ∷ lines_of after
    → (why : TextFault) → entry_of plan place (words_of line) ≡ Err why → all ≡ Err why
line_fails plan all front place text line after same cut why e =
    same ∙ ap (λ (lines : List (List ℕ)). behind front (entries_of plan place lines)) cut
    ∙ ap (behind front) (entries_step plan place line after ∙ ap (and_then (λ entry. with_first entry (entries_of plan (place + 1) (lines_of after)))) e)

-- A line with an entry.
pub line_read : (plan : Plan) (all : Result (List Entry) TextFault) (front : List Entry) (place : ℕ) (text line after : List ℕ)
    → all ≡ behind front (entries_of plan place (lines_of text)) → lines_of text ≡ line ∷ lines_of after
    → (entry : Entry) → entry_of plan place (words_of line) ≡ Ok entry → all ≡ behind (front ++ entry ∷ []) (entries_of plan (place + 1) (lines_of after))
line_read plan all front place text line after same cut entry e =
    same ∙ ap (λ (lines : List (List ℕ)). behind front (entries_of plan place lines)) cut
    ∙ ap (behind front) (entries_step plan place line after ∙ ap (and_then (λ entry. with_first entry (entries_of plan (place + 1) (lines_of after)))) e)
    ∙ behind_one front entry (entries_of plan (place + 1) (lines_of after))

-- The first line, and the rest of the text.
pub journal_step : (plan : Plan) (text first rest : List ℕ) → lines_of text ≡ first ∷ lines_of rest
    → journal_of plan text ≡ and_then (λ said. and_then (if_counted said) (entries_of plan 0 (lines_of rest))) (count_in (words_of first))
journal_step plan text first rest cut = let piece = some_piece (λ byte. byte == 10) rest in rw (cut, piece.2) refl

pub counted_right : (said : ℕ) (list : List Entry) → length list ≡ said → if_counted said list ≡ Ok list
counted_right said list e = rw (eq-eqb (length list) said e) refl

pub counted_wrong : (said : ℕ) (list : List Entry) → (length list ≡ said → ⊥) → if_counted said list ≡ Err (fault.WrongCount said (length list))
counted_wrong said list other = rw (not_equal (length list == said) (λ e. other (eqb-true (length list) said e))) refl

-- The fault of the first line is found before those of the rest.
pub first_fails : (plan : Plan) (text first rest : List ℕ) → lines_of text ≡ first ∷ lines_of rest
    → (why : TextFault) → count_in (words_of first) ≡ Err why → journal_of plan text ≡ Err why
first_fails plan text first rest cut why e =
    journal_step plan text first rest cut ∙ ap (and_then (λ said. and_then (if_counted said) (entries_of plan 0 (lines_of rest)))) e

pub rest_fails : (plan : Plan) (text first rest : List ℕ) → lines_of text ≡ first ∷ lines_of rest
    → (said : ℕ) → count_in (words_of first) ≡ Ok said → (why : TextFault) → entries_of plan 0 (lines_of rest) ≡ Err why → journal_of plan text ≡ Err why
rest_fails plan text first rest cut said e why f =
    journal_step plan text first rest cut ∙ ap (and_then (λ said. and_then (if_counted said) (entries_of plan 0 (lines_of rest)))) e ∙ ap (and_then (if_counted said)) f

pub all_read : (plan : Plan) (text first rest : List ℕ) → lines_of text ≡ first ∷ lines_of rest
    → (said : ℕ) → count_in (words_of first) ≡ Ok said → (list : List Entry) → entries_of plan 0 (lines_of rest) ≡ Ok list → journal_of plan text ≡ if_counted said list
all_read plan text first rest cut said e list f =
    journal_step plan text first rest cut ∙ ap (and_then (λ said. and_then (if_counted said) (entries_of plan 0 (lines_of rest)))) e ∙ ap (and_then (if_counted said)) f

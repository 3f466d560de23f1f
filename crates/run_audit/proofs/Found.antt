-- An output that the audit finds legal.
use Rattle.std.proofs.Common.{◌≡◌, ◌+◌, ◌-◌, ◌*◌, ◌≤◌, ◌==◌, ◌∙◌, ℕ, Bool, true, false, cond, List, [], ◌∷◌, ◌++◌, length, Option, Some, None, Result, Ok, Err, refl, sym, ap, subst, arith}
use Rattle.std.specs.List.{join_with_byte}
use Rattle.std.proofs.lemmas.List.Elements.{All-weaker}
use Rattle.std.proofs.lemmas.List.Splits.{join_with_byte-slice_split}
use Rattle.transfer_table.specs.Plan.{Plan, IsPlan, site_count}
use Rattle.transfer_table.specs.Journal.{IsComplete, first_fault_of}
use Rattle.transfer_table.specs.Laws.{IsEntryOf}
use Rattle.transfer_table.specs.declared.entry.Entry.{Entry}
use Rattle.transfer_table.specs.declared.fault.Fault.{Fault}
use Rattle.transfer_table.proofs.Faults.{complete, first_fault_of-complete}
use Rattle.transfer_table.proofs.Bounds.{few_entries}
use Rattle.transfer_table.proofs.LawsHold.{entries_are_in_the_plan}
use Rattle.journal_text.specs.Journals.{IsEntry, IsJournalOf}
use Rattle.journal_text.specs.JournalText.{journal_text}
use Rattle.journal_text.specs.Reading.{lines_of, is_word, and_then, journal_in}
use Rattle.journal_text.specs.declared.fault.TextFault.{TextFault}
use Rattle.journal_text.proofs.Free.{AreFree, split_joined}
use Rattle.journal_text.proofs.Numbers.{word_is, is_word_itself}
use Rattle.journal_text.proofs.Rows.{and_ok}
use Rattle.journal_text.proofs.Spelled.{journal_written, journal_read}
use Rattle.journal_text.proofs.Steps.{some_piece}
use Rattle.array_eval.specs.ArrayText.{array_text}
use Rattle.run_audit.specs.Audit.{Compared, after_line, compared, behind, of_fault, verdict_of, audited, audit_of}
use Rattle.run_audit.specs.Legal.{IsLegalOutput, LegalOutputsAreFound}
use Rattle.run_audit.specs.declared.verdict.Verdict.TheVariants as verdict
use Rattle.run_audit.proofs.Pieces.{IsOfLines, pieces_free, joined_behind, lines_behind, own_lines, text_whole}

-- ---- the wanted lines and the rest
abbrev after_wanted : ℕ → List (List ℕ) → ℕ
after_wanted number [] = number
after_wanted number (line ∷ more) = after_wanted (number + 1) more

same_line : (number : ℕ) (line : List ℕ) (rest : Compared) → rest.differs ≡ None → after_line number line line rest ≡ rest
same_line number line rest none = ap (λ (b : Bool). record rest { differs = cond b rest.differs (Some (number + 1)) }) (is_word_itself line)

itself : (number : ℕ) (lines : List (List ℕ)) (first : List ℕ) (more : List (List ℕ))
    → compared number (lines ++ [] ∷ []) (lines ++ first ∷ more) ≡ Ok record { differs = None; lines = after_wanted number lines; rest = first ∷ more }
itself number [] first more = refl
itself number (line ∷ []) first more = ap Ok (same_line number line record { differs = None; lines = number + 1; rest = first ∷ more } refl)
itself number (line ∷ next ∷ lines) first more =
    ap (and_then (λ (rest : Compared). Ok (after_line number line line rest))) (itself (number + 1) (next ∷ lines) first more)
    ∙ ap Ok (same_line number line record { differs = None; lines = after_wanted (number + 1) (next ∷ lines); rest = first ∷ more } refl)

-- ---- a complete list is one that a journal may have
is_entry : (plan : Plan) → IsPlan plan → (entry : Entry) → IsEntryOf plan entry → IsEntry entry
is_entry plan is entry of = record {
  hart = omega (arith, of.0, is.few_harts);
  site = omega (arith, of.1.1, is.few_sites);
  count = omega (arith, of.2, is.few_harts);
}

is_journal : (plan : Plan) → IsPlan plan → (meant : List Bool) (list : List Entry) → IsComplete plan meant list → IsJournalOf plan list (journal_text plan list)
is_journal plan is meant list done =
    record {
      few = few_entries plan is list done.0 done.1;
      entries = All-weaker (IsEntryOf plan) IsEntry (is_entry plan is) list (entries_are_in_the_plan plan list done.0 is done.1);
      spelled = refl;
    }

-- ---- an output of a run is found legal
pub legal_found : (plan : Plan) → IsPlan plan → (meant : List Bool) → length meant ≡ site_count plan → (arrays : List ℕ) → IsOfLines arrays → (entries : ℕ) (output : List ℕ) → IsLegalOutput plan meant arrays entries output
    → audit_of plan meant arrays output ≡ Ok (verdict.Legal entries)
legal_found plan is meant many arrays whole entries output legal =
    let text = journal_text plan legal.list in
    let piece = some_piece (λ byte. byte == 10) text in
    let found : Compared = record { differs = None; lines = after_wanted 0 whole.lines; rest = piece.0 ∷ piece.1 } in
    let wanted : lines_of arrays ≡ whole.lines ++ [] ∷ [] = own_lines arrays whole in
    let own : lines_of output ≡ whole.lines ++ piece.0 ∷ piece.1 = ap lines_of legal.whole ∙ lines_behind arrays text whole ∙ ap (λ (l : List (List ℕ)). whole.lines ++ l) piece.2 in
    let same : compared 0 (lines_of arrays) (lines_of output) ≡ Ok found =
    ap (λ (l : List (List ℕ)). compared 0 l (lines_of output)) wanted ∙ ap (compared 0 (whole.lines ++ [] ∷ [])) own ∙ itself 0 whole.lines piece.0 piece.1 in
    let read : journal_in plan (piece.0 ∷ piece.1) ≡ Ok legal.list = ap (journal_in plan) (sym piece.2) ∙ journal_written plan is legal.list text (is_journal plan is meant legal.list legal.complete) in
    let none : first_fault_of plan meant legal.list ≡ None = first_fault_of-complete plan is meant legal.list many legal.complete in
    ap (and_then (audited plan meant)) same
    ∙ ap (λ (r : Result (List Entry) TextFault). and_then (λ list. Ok (verdict_of plan meant None list)) (behind found.lines r)) read
    ∙ ap (λ (fault : Option Fault). Ok (of_fault fault (length legal.list))) none
    ∙ ap (λ (n : ℕ). Ok (verdict.Legal n)) legal.many

-- ---- no other output is found legal
behind_ok : {A : Type 0} (lines : ℕ) (r : Result A TextFault) (x : A) → behind lines r ≡ Ok x → r ≡ Ok x
behind_ok lines (Ok y) x e = e
behind_ok lines (Err why) x e = cc e

of_none : (fault : Option Fault) (many entries : ℕ) → of_fault fault many ≡ verdict.Legal entries → (fault ≡ None) × (many ≡ entries)
of_none None many entries e = (refl, cc e)
of_none (Some fault) many entries e = cc e

of_legal : (plan : Plan) (meant : List Bool) (differs : Option ℕ) (list : List Entry) (entries : ℕ) → verdict_of plan meant differs list ≡ verdict.Legal entries → (differs ≡ None) × (first_fault_of plan meant list ≡ None) × (length list ≡ entries)
of_legal plan meant None list entries e = let own = of_none (first_fault_of plan meant list) (length list) entries e in (refl, own.0, own.1)
of_legal plan meant (Some line) list entries e = cc e

-- Lines without a difference are the wanted lines and the rest.
abbrev StandsBefore : List (List ℕ) → List (List ℕ) → List (List ℕ) → Type 0
StandsBefore lines others rest = (others ≡ lines ++ rest) × AreFree 10 rest

one_more : (number : ℕ) (wanted found : List ℕ) (rest : Compared) (b : Bool) → is_word wanted found ≡ b → cond b rest.differs (Some (number + 1)) ≡ None → (found ≡ wanted) × (rest.differs ≡ None)
one_more number wanted found rest true is none = (word_is wanted found is, none)
one_more number wanted found rest false is none = cc none

next_line : (number : ℕ) (line : List ℕ) (lines : List (List ℕ)) (found : List ℕ) (others : List (List ℕ)) (all : Compared) (r : Result Compared TextFault)
    → ((rest : Compared) → r ≡ Ok rest → rest.differs ≡ None → StandsBefore lines others rest.rest)
    → and_then (λ (rest : Compared). Ok (after_line number line found rest)) r ≡ Ok all → all.differs ≡ None → StandsBefore (line ∷ lines) (found ∷ others) all.rest
next_line number line lines found others all (Ok rest) each e none =
    let same : after_line number line found rest ≡ all = cc e in
    let word = one_more number line found rest (is_word line found) refl (ap (λ (c : Compared). c.differs) same ∙ none) in
    let more = each rest refl word.1 in
    let left : rest.rest ≡ all.rest = ap (λ (c : Compared). c.rest) same in
    let own : found ∷ others ≡ line ∷ (lines ++ all.rest) =
    ap (λ (l : List ℕ). l ∷ others) word.0 ∙ ap (λ (ls : List (List ℕ)). line ∷ ls) (more.0 ∙ ap (λ (ls : List (List ℕ)). lines ++ ls) left) in
    (own, subst (AreFree 10) left more.1)
next_line number line lines found others all (Err why) each e none = cc e

no_difference : (number : ℕ) (lines others : List (List ℕ)) (all : Compared) → AreFree 10 others → compared number (lines ++ [] ∷ []) others ≡ Ok all → all.differs ≡ None → StandsBefore lines others all.rest
no_difference number [] others all free e none = let rest : others ≡ all.rest = cc e in (rest, subst (AreFree 10) rest free)
no_difference number (line ∷ []) [] all free e none = cc e
no_difference number (line ∷ []) (found ∷ []) all free e none = cc e
no_difference number (line ∷ []) (found ∷ after ∷ others) all free e none =
    next_line number line [] found (after ∷ others) all (compared (number + 1) ([] ∷ []) (after ∷ others)) (λ rest is same. no_difference (number + 1) [] (after ∷ others) rest free.1 is same) e none
no_difference number (line ∷ next ∷ lines) [] all free e none = cc e
no_difference number (line ∷ next ∷ lines) (found ∷ []) all free e none = cc e
no_difference number (line ∷ next ∷ lines) (found ∷ after ∷ others) all free e none =
    next_line number line (next ∷ lines) found (after ∷ others) all (compared (number + 1) ((next ∷ lines) ++ [] ∷ []) (after ∷ others))
    (λ rest is same. no_difference (number + 1) (next ∷ lines) (after ∷ others) rest free.1 is same) e none

rest_is_journal : (plan : Plan) (arrays output : List ℕ) (whole : IsOfLines arrays) (list : List Entry) (rest : List (List ℕ))
    → lines_of output ≡ whole.lines ++ rest → AreFree 10 rest → journal_in plan rest ≡ Ok list → output ≡ arrays ++ journal_text plan list
rest_is_journal plan arrays output whole list [] same free read = cc read
rest_is_journal plan arrays output whole list (first ∷ more) same free read =
    let text = join_with_byte 10 (first ∷ more) in
    let cut : lines_of text ≡ first ∷ more = split_joined 10 first more free in
    let journal : IsJournalOf plan list text = journal_read plan text list (ap (journal_in plan) cut ∙ read) in
    sym (join_with_byte-slice_split 10 output) ∙ ap (join_with_byte 10) same ∙ sym (joined_behind whole.lines first more)
    ∙ ap (λ (t : List ℕ). t ++ text) (sym whole.joined) ∙ ap (λ (t : List ℕ). arrays ++ t) journal.spelled

found_legal : (plan : Plan) → IsPlan plan → (meant : List Bool) → length meant ≡ site_count plan → (arrays : List ℕ) → IsOfLines arrays → (entries : ℕ) (output : List ℕ) → audit_of plan meant arrays output ≡ Ok (verdict.Legal entries)
    → IsLegalOutput plan meant arrays entries output
found_legal plan is meant many arrays whole entries output e =
    let all = and_ok (audited plan meant) (compared 0 (lines_of arrays) (lines_of output)) (verdict.Legal entries) e in
    let list = and_ok (λ list. Ok (verdict_of plan meant all.0.differs list)) (behind all.0.lines (journal_in plan all.0.rest)) (verdict.Legal entries) all.2 in
    let read = behind_ok all.0.lines (journal_in plan all.0.rest) list.0 list.1 in
    let same : verdict_of plan meant all.0.differs list.0 ≡ verdict.Legal entries = let own = list.2 in cc own in
    let legal = of_legal plan meant all.0.differs list.0 entries same in
    let parts = no_difference 0 whole.lines (lines_of output) all.0 (pieces_free 10 output) (ap (λ (l : List (List ℕ)). compared 0 l (lines_of output)) (sym (own_lines arrays whole)) ∙ all.1) legal.0 in
    record {
      list = list.0;
      complete = complete plan is meant list.0 many legal.1;
      many = legal.2;
      whole = rest_is_journal plan arrays output whole list.0 all.0.rest parts.0 parts.1 read;
    }

pub legal_outputs : LegalOutputsAreFound
legal_outputs plan is meant many program store output entries =
    let whole = text_whole program store in (
      found_legal plan is meant many (array_text program store) whole entries output,
      legal_found plan is meant many (array_text program store) whole entries output,
    )

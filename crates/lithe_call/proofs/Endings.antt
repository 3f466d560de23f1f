-- Each input has one status.
use Rattle.std.proofs.Common.{◌≡◌, ◌⊎◌, ◌∙◌, ◌≤◌, ◌<◌, ℕ, Bool, true, false, cond, List, [], ◌∷◌, ◌++◌, codes, length, length-append, Option, Some, None, Ok, Err, sym, ap, subst, arith, refl, inl, inr}
use Rattle.std.specs.List.{join_with_byte}
use Rattle.std.specs.Option.{option_map}
use Rattle.std.proofs.lemmas.Option.{same_Some}
use Rattle.std.proofs.lemmas.List.Splits.{join_with_byte-slice_split}
use Rattle.outside_io.specs.Outside.{Rose}
use Rattle.array_tree.specs.Trees.{ProgramTree}
use Rattle.array_lang.specs.Spelled.{Spells}
use Rattle.array_lang.proofs.OneProgram.{one_text}
use Rattle.disjoint_check.specs.Meaning.{IsAcceptedFor}
use Rattle.journal_text.specs.Reading.{lines_of, is_word}
use Rattle.run_audit.specs.Parts.{parts_of, parts_in, with_front}
use Rattle.run_audit.specs.declared.verdict.Verdict.{Verdict}
use Rattle.command_words.specs.declared.command.Command.{Command}
use Rattle.command_words.specs.declared.command.Command.TheVariants.{Run, Tally, Pipe, Solo, Audit, Make}
use Rattle.lithe_call.specs.Inputs.{limit_of, AreInput, ReadsAll, GivesTooMuch, FailsToRead}
use Rattle.command_words.specs.Form.{form_of}
use Rattle.lithe_call.specs.Programs.{SpellAccepted, made_text}
use Rattle.lithe_call.specs.Tallies.{IsTallied}
use Rattle.lithe_call.specs.Pipelines.{IsPiped}
use Rattle.lithe_call.specs.Auditing.{HasParts, AreFound, found_in, status_by}
use Rattle.lithe_call.specs.Output.{IsOutputOf, EndsMade, EndsWith}
use Rattle.lithe_call.specs.Faults.{SpellNothing, SpellUnfit, SpellRefused, IsUnaccepted, IsUntallied, IsUnpiped, AreNoOutput, IsNoText, IsRefused, IsLong, IsFault, IsNoOutput, HaveNoVerdict}
use Rattle.lithe_call.specs.FaultOf.{status_of}
use Rattle.lithe_call.specs.Lines.{ReportsSyntax, ReportsRefusal}
use Rattle.lithe_call.specs.Served.{IsOutputFor, IsTooLong, IsPrintedOf, IsTextOf}
use Rattle.lithe_call.specs.Printed.{IsLineOf}
use Rattle.lithe_call.specs.declared.fault.Fault.{Fault}
use Rattle.lithe_call.specs.declared.fault.Fault.TheVariants as fault
use Rattle.lithe_call.specs.declared.status.Status.{Status}
use Rattle.lithe_call.specs.declared.status.Status.TheVariants as status
use Rattle.program_maker.proofs.Writing.{made_spelled}
use Rattle.lithe_call.proofs.Causes.{given_bytes, more_of_left, syntax_for, syntax_no_output, refusal_no_output, refused_line}

-- ---- the second part is at most as long as the input
part_cases : (b : Bool) (line rest : List ℕ) (found : Option (List ℕ × List ℕ)) (first second : List ℕ) → ((f s : List ℕ) → found ≡ Some (f, s) → length s ≤ length rest)
    → cond b (Some ([], rest)) (option_map (with_front (line ++ 10 ∷ [])) found) ≡ Some (first, second) → length second ≤ length (line ++ 10 ∷ rest)
part_cases true line rest found first second each e =
    let same : rest ≡ second = ap (λ (p : List ℕ × List ℕ). p.1) (same_Some ([], rest) (first, second) e) in
    omega (arith, ap length same, length-append line (10 ∷ rest))
part_cases false line rest None first second each e = cc e
part_cases false line rest (Some parts) first second each e =
    let same : parts.1 ≡ second = ap (λ (p : List ℕ × List ℕ). p.1) (same_Some (with_front (line ++ 10 ∷ []) parts) (first, second) e) in
    omega (arith, ap length same, each parts.0 parts.1 refl, length-append line (10 ∷ rest))

part_short : (lines : List (List ℕ)) (first second : List ℕ) → parts_in lines ≡ Some (first, second) → length second ≤ length (join_with_byte 10 lines)
part_short [] first second e = cc e
part_short (last ∷ []) first second e = cc e
part_short (line ∷ next ∷ more) first second e =
    part_cases (is_word (codes "%%") line) line (join_with_byte 10 (next ∷ more)) (parts_in (next ∷ more)) first second (λ f s is. part_short (next ∷ more) f s is) e

pub second_short : (bytes first second : List ℕ) → parts_of bytes ≡ Some (first, second) → length second ≤ length bytes
second_short bytes first second e = subst (λ (t : List ℕ). length second ≤ length t) (join_with_byte-slice_split 10 bytes) (part_short (lines_of bytes) first second e)

-- ---- an input has one pair of parts, one program and one verdict
pub same_parts : (bytes first second f s : List ℕ) → parts_of bytes ≡ Some (first, second) → parts_of bytes ≡ Some (f, s) → (first ≡ f) × (second ≡ s)
same_parts bytes first second f s one other =
    let same = same_Some (first, second) (f, s) (sym one ∙ other) in (ap (λ (p : List ℕ × List ℕ). p.0) same, ap (λ (p : List ℕ × List ℕ). p.1) same)

nothing_spelled : (bytes line : List ℕ) (harts : ℕ) (program : ProgramTree) → SpellNothing bytes line → SpellAccepted harts bytes program → ⊥
nothing_spelled bytes line harts program fails is = fails.nothing program is.spelled

unfit_fit : (IsFit : ProgramTree → Type 0) (IsWhy : ProgramTree → List ℕ → Type 0) (bytes line : List ℕ) (program : ProgramTree) → SpellUnfit IsFit IsWhy bytes line
    → Spells bytes program → IsFit program → ⊥
unfit_fit IsFit IsWhy bytes line program fails spelled fit = fails.refused (subst IsFit (one_text bytes program fails.program spelled fails.spelled) fit)

refused_accepted : (harts : ℕ) (bytes line : List ℕ) (program : ProgramTree) → SpellRefused harts bytes line → SpellAccepted harts bytes program → ⊥
refused_accepted harts bytes line program fails is =
    unfit_fit (λ program. IsAcceptedFor program harts) (IsUnaccepted harts) bytes line program fails is.spelled is.accepted

pub parts_meet : (P Q : List ℕ → List ℕ → Type 0) (bytes : List ℕ) → ((first second : List ℕ) → P first second → Q first second → ⊥) → HasParts P bytes → HasParts Q bytes → ⊥
parts_meet P Q bytes never p q =
    let same = same_parts bytes p.first p.second q.first q.second p.parts q.parts in
    never q.first q.second (subst (λ (s : List ℕ). P q.first s) same.1 (subst (λ (f : List ℕ). P f p.second) same.0 p.are)) q.are

no_output_found : (harts : ℕ) (line first second : List ℕ) (verdict : Verdict) → AreNoOutput harts line first second → AreFound harts verdict first second → ⊥
no_output_found harts line first second verdict fails is =
    let one = one_text first fails.program is.program fails.input.spelled is.input.spelled in
    let bad : Err fails.fault ≡ Ok verdict = sym fails.found ∙ ap (λ (p : ProgramTree). found_in harts p second) one ∙ is.found in cc bad

pub no_text_ends : (command : Command) (bytes line : List ℕ) (status : Status) → IsNoText command bytes line → EndsWith command bytes status → ⊥
no_text_ends (Run harts) bytes line status fails ends = nothing_spelled bytes line harts ends.1.0 fails ends.1.1
no_text_ends (Tally harts) bytes line status fails ends = fails.nothing ends.1.0 ends.1.1.spelled
no_text_ends (Pipe harts) bytes line status fails ends = fails.nothing ends.1.0 ends.1.1.spelled
no_text_ends Solo bytes line status fails ends = nothing_spelled bytes line 1 ends.1.0 fails ends.1.1
no_text_ends (Audit harts) bytes line status (inl mark) ends = let bad : None ≡ Some (ends.1.1.first, ends.1.1.second) = sym mark.none ∙ ends.1.1.parts in cc bad
no_text_ends (Audit harts) bytes line status (inr parts) ends =
    parts_meet (λ first second. SpellNothing first line ⊎ AreNoOutput harts line first second) (AreFound harts ends.1.0) bytes (λ first second fails is. elim fails [
      | inl nothing ↦ nothing_spelled first line harts is.program nothing is.input
      | inr other ↦ no_output_found harts line first second ends.1.0 other is
    ]) parts ends.1.1
no_text_ends (Make seed size harts) bytes line status fails ends = absurd fails

refused_made : (harts : ℕ) (text line : List ℕ) (ended : Status) → SpellRefused harts text line → EndsMade harts text ended → ended ≡ status.Refused
refused_made harts text line status.Done fails ends = absurd (refused_accepted harts text line ends.0 fails ends.1)
refused_made harts text line status.Illegal fails ends = absurd ends
refused_made harts text line status.Usage fails ends = absurd ends
refused_made harts text line status.Syntax fails ends = absurd ends
refused_made harts text line status.Refused fails ends = refl
refused_made harts text line status.TooLong fails ends = absurd ends
refused_made harts text line status.ReadFault fails ends = absurd ends
refused_made harts text line status.WriteFault fails ends = absurd ends
refused_made harts text line status.NoMemory fails ends = absurd ends

-- A refused input ends only with the status `Refused`.
pub refused_ends : (command : Command) (bytes line : List ℕ) (ended : Status) → IsRefused command bytes line → EndsWith command bytes ended → ended ≡ status.Refused
refused_ends (Run harts) bytes line ended fails ends = absurd (refused_accepted harts bytes line ends.1.0 fails ends.1.1)
refused_ends (Tally harts) bytes line ended fails ends = absurd (unfit_fit (IsTallied harts) (IsUntallied harts) bytes line ends.1.0 fails ends.1.1.spelled ends.1.1.tallied)
refused_ends (Pipe harts) bytes line ended fails ends = absurd (unfit_fit (IsPiped harts) (IsUnpiped harts) bytes line ends.1.0 fails ends.1.1.spelled ends.1.1.piped)
refused_ends Solo bytes line ended fails ends = absurd (refused_accepted 1 bytes line ends.1.0 fails ends.1.1)
refused_ends (Audit harts) bytes line ended fails ends =
    absurd (parts_meet (λ first second. SpellRefused harts first line) (AreFound harts ends.1.0) bytes (λ first second fails is. refused_accepted harts first line is.program fails is.input) fails ends.1.1)
refused_ends (Make seed size harts) bytes line ended fails ends = refused_made harts (made_text seed size) line ended fails ends

pub long_ends : (command : Command) (bytes : List ℕ) (status : Status) → IsLong command bytes → EndsWith command bytes status → ⊥
long_ends (Run harts) bytes status fails ends = absurd fails
long_ends (Tally harts) bytes status fails ends = absurd fails
long_ends (Pipe harts) bytes status fails ends = absurd fails
long_ends Solo bytes status fails ends = absurd fails
long_ends (Audit harts) bytes status fails ends =
    parts_meet (λ first second. 65536 < length first) (AreFound harts ends.1.0) bytes (λ first second long is. absurd (omega (arith, long, is.input.short))) fails ends.1.1
long_ends (Make seed size harts) bytes status fails ends = absurd fails

-- ---- an input is what was read
pub too_much : (command : Command) (left left' : Option (List ℕ)) (bytes : List ℕ) → GivesTooMuch command left left' → AreInput command left bytes → limit_of command < length bytes
too_much (Run harts) left left' bytes more e = more_of_left left left' 65536 more bytes e
too_much (Tally harts) left left' bytes more e = more_of_left left left' 65536 more bytes e
too_much (Pipe harts) left left' bytes more e = more_of_left left left' 65536 more bytes e
too_much Solo left left' bytes more e = more_of_left left left' 65536 more bytes e
too_much (Audit harts) left left' bytes more e = more_of_left left left' 4194304 more bytes e
too_much (Make seed size harts) left left' bytes more e = absurd more

much_ends : (command : Command) (left left' : Option (List ℕ)) (bytes : List ℕ) (status : Status) → GivesTooMuch command left left' → AreInput command left bytes → EndsWith command bytes status → ⊥
much_ends (Run harts) left left' bytes status more e ends = absurd (omega (arith, too_much (Run harts) left left' bytes more e, ends.1.1.short))
much_ends (Tally harts) left left' bytes status more e ends = absurd (omega (arith, too_much (Tally harts) left left' bytes more e, ends.1.1.short))
much_ends (Pipe harts) left left' bytes status more e ends = absurd (omega (arith, too_much (Pipe harts) left left' bytes more e, ends.1.1.short))
much_ends Solo left left' bytes status more e ends = absurd (omega (arith, too_much Solo left left' bytes more e, ends.1.1.short))
much_ends (Audit harts) left left' bytes status more e ends = absurd (omega (arith, too_much (Audit harts) left left' bytes more e, ends.0))
much_ends (Make seed size harts) left left' bytes status more e ends = absurd more

-- A property of the command with the bytes read holds for the input; a property of `make` holds for any bytes.
pub with_input : (IsSo : Command → List ℕ → Type 0) → ((seed size harts : ℕ) (a b : List ℕ) → IsSo (Make seed size harts) a → IsSo (Make seed size harts) b)
    → (command : Command) (bytes read : List ℕ) (left left' : Option (List ℕ)) → AreInput command left bytes → ReadsAll command left read left' → IsSo command read → IsSo command bytes
with_input IsSo any (Run harts) bytes read left left' e all is = subst (λ (b : List ℕ). IsSo (Run harts) b) (sym (given_bytes bytes read left left' e all.given)) is
with_input IsSo any (Tally harts) bytes read left left' e all is = subst (λ (b : List ℕ). IsSo (Tally harts) b) (sym (given_bytes bytes read left left' e all.given)) is
with_input IsSo any (Pipe harts) bytes read left left' e all is = subst (λ (b : List ℕ). IsSo (Pipe harts) b) (sym (given_bytes bytes read left left' e all.given)) is
with_input IsSo any Solo bytes read left left' e all is = subst (λ (b : List ℕ). IsSo Solo b) (sym (given_bytes bytes read left left' e all.given)) is
with_input IsSo any (Audit harts) bytes read left left' e all is = subst (λ (b : List ℕ). IsSo (Audit harts) b) (sym (given_bytes bytes read left left' e all.given)) is
with_input IsSo any (Make seed size harts) bytes read left left' e all is = any seed size harts read bytes is

-- The same for the command that the words give.
pub of_words : (IsSo : Command → List ℕ → Type 0) → ((seed size harts : ℕ) (a b : List ℕ) → IsSo (Make seed size harts) a → IsSo (Make seed size harts) b)
    → (words : List (List ℕ)) (own command : Command) (bytes read : List ℕ) (left left' : Option (List ℕ)) → form_of words ≡ Some own → form_of words ≡ Some command
    → AreInput command left bytes → ReadsAll own left read left' → IsSo own read → IsSo command bytes
of_words IsSo any words own command bytes read left left' one other e all is =
    let same : own ≡ command = same_Some own command (sym one ∙ other) in
    with_input IsSo any command bytes read left left' e (subst (λ (c : Command). ReadsAll c left read left') same all) (subst (λ (c : Command). IsSo c read) same is)

-- ---- a command's only faults are its ending and an allocation failure, unless the source fails
pub only_memory : (words : List (List ℕ)) (why : Fault) (left left' : Option (List ℕ)) (faults faults' : ℕ) → IsFault words why left left' faults faults'
    → (command : Command) → form_of words ≡ Some command → (bytes : List ℕ) → AreInput command left bytes → (ended : Status) → EndsWith command bytes ended → (FailsToRead command faults faults' → ⊥)
    → (status_of why ≡ ended) ⊎ (status_of why ≡ status.NoMemory)
only_memory words fault.Usage left left' faults faults' h command form bytes e ended ends calm = let bad : None ≡ Some command = sym h ∙ form in cc bad
only_memory words fault.TooLong left left' faults faults' h command form bytes e ended ends calm =
    let same : h.0 ≡ command = same_Some h.0 command (sym h.1 ∙ form) in
    elim h.2 [
      | inl more ↦ absurd (much_ends command left left' bytes ended (subst (λ (c : Command). GivesTooMuch c left left') same more) e ends)
      | inr long ↦ absurd (long_ends command bytes ended (of_words IsLong (λ seed size harts a b is. is) words h.0 command bytes long.0 left left' h.1 form e long.1 long.2) ends)
    ]
only_memory words fault.ReadFault left left' faults faults' h command form bytes e ended ends calm =
    let same : h.0 ≡ command = same_Some h.0 command (sym h.1 ∙ form) in absurd (calm (subst (λ (c : Command). FailsToRead c faults faults') same h.2))
only_memory words (fault.Syntax line) left left' faults faults' h command form bytes e ended ends calm =
    absurd (no_text_ends command bytes line.items ended
    (of_words (λ c b. IsNoText c b line.items) (λ seed size harts a b is. is) words h.0 command bytes h.2.0 left left' h.1 form e h.2.1 h.2.2) ends)
only_memory words (fault.Refused line) left left' faults faults' h command form bytes e ended ends calm =
    inl (sym (refused_ends command bytes line.items ended
    (of_words (λ c b. IsRefused c b line.items) (λ seed size harts a b is. is) words h.0 command bytes h.2.0 left left' h.1 form e h.2.1 h.2.2) ends))
only_memory words fault.Memory left left' faults faults' h command form bytes e ended ends calm = inr refl

-- ---- the output's status is the input's ending
verdicts_one : (harts : ℕ) (bytes : List ℕ) (one other : Verdict) → HasParts (AreFound harts one) bytes → HasParts (AreFound harts other) bytes → one ≡ other
verdicts_one harts bytes one other p q =
    let same = same_parts bytes p.first p.second q.first q.second p.parts q.parts in
    let here : AreFound harts one q.first q.second = subst (λ (s : List ℕ). AreFound harts one q.first s) same.1 (subst (λ (f : List ℕ). AreFound harts one f p.second) same.0 p.are) in
    let tree = one_text q.first here.program q.are.program here.input.spelled q.are.input.spelled in
    let both : Ok one ≡ Ok other = sym here.found ∙ ap (λ (t : ProgramTree). found_in harts t q.second) tree ∙ q.are.found in cc both

made_done : (harts : ℕ) (text : List ℕ) (ended : Status) (program : ProgramTree) → SpellAccepted harts text program → EndsMade harts text ended → ended ≡ status.Done
made_done harts text status.Done program is ends = refl
made_done harts text status.Illegal program is ends = absurd ends
made_done harts text status.Usage program is ends = absurd ends
made_done harts text status.Syntax program is ends = absurd ends
made_done harts text status.Refused program is ends = absurd (ends.2 (subst (λ (p : ProgramTree). IsAcceptedFor p harts) (one_text text program ends.0 is.spelled ends.1) is.accepted))
made_done harts text status.TooLong program is ends = absurd ends
made_done harts text status.ReadFault program is ends = absurd ends
made_done harts text status.WriteFault program is ends = absurd ends
made_done harts text status.NoMemory program is ends = absurd ends

ends_one : (command : Command) (bytes : List ℕ) (status ending : Status) (text : List ℕ) → IsOutputOf command bytes ending text → EndsWith command bytes status → ending ≡ status
ends_one (Run harts) bytes status ending text out ends = out.0 ∙ sym ends.0
ends_one (Tally harts) bytes status ending text out ends = out.0 ∙ sym ends.0
ends_one (Pipe harts) bytes status ending text out ends = out.0 ∙ sym ends.0
ends_one Solo bytes status ending text out ends = out.0 ∙ sym ends.0
ends_one (Audit harts) bytes status ending text out ends = out.same ∙ ap status_by (verdicts_one harts bytes out.verdict ends.1.0 out.has ends.1.1) ∙ sym ends.1.2
ends_one (Make seed size harts) bytes status ending text out ends = out.0 ∙ sym (made_done harts (made_text seed size) status out.1.program out.1.input ends)

-- The written text is the output for the input.
pub output_printed : (words : List (List ℕ)) (left left' : Option (List ℕ)) (ending : Status) (text : List ℕ) → IsOutputFor words left left' ending text
    → (command : Command) → form_of words ≡ Some command → (bytes : List ℕ) → AreInput command left bytes → IsOutputOf command bytes ending text
output_printed words left left' ending text out command form bytes e =
    of_words (λ c b. IsOutputOf c b ending text) (λ seed size harts a b is. is) words out.command command bytes out.bytes left left' out.form form e out.given out.output

pub one_ending : (words : List (List ℕ)) (left left' : Option (List ℕ)) (ending : Status) (text : List ℕ) → IsOutputFor words left left' ending text
    → (command : Command) → form_of words ≡ Some command → (bytes : List ℕ) → AreInput command left bytes → (status : Status) → EndsWith command bytes status → ending ≡ status
one_ending words left left' ending text out command form bytes e status ends =
    ends_one command bytes status ending text (output_printed words left left' ending text out command form bytes e) ends

-- ---- each fault in terms of the words
pub too_long_printed : (words : List (List ℕ)) (why : Fault) (left left' : Option (List ℕ)) (faults faults' : ℕ) → IsFault words why left left' faults faults' → status_of why ≡ status.TooLong → IsTooLong words left left'
too_long_printed words fault.Usage left left' faults faults' h e = cc e
too_long_printed words fault.TooLong left left' faults faults' h e = record { command = h.0; form = h.1; longer = h.2 }
too_long_printed words fault.ReadFault left left' faults faults' h e = cc e
too_long_printed words (fault.Syntax line) left left' faults faults' h e = cc e
too_long_printed words (fault.Refused line) left left' faults faults' h e = cc e
too_long_printed words fault.Memory left left' faults faults' h e = cc e

failed_rose : (command : Command) (faults faults' : ℕ) → FailsToRead command faults faults' → Rose faults faults'
failed_rose (Run harts) faults faults' h = h
failed_rose (Tally harts) faults faults' h = h
failed_rose (Pipe harts) faults faults' h = h
failed_rose Solo faults faults' h = h
failed_rose (Audit harts) faults faults' h = h
failed_rose (Make seed size harts) faults faults' h = absurd h

pub read_fault_printed : (words : List (List ℕ)) (why : Fault) (left left' : Option (List ℕ)) (faults faults' : ℕ) → IsFault words why left left' faults faults' → status_of why ≡ status.ReadFault → Rose faults faults'
read_fault_printed words fault.Usage left left' faults faults' h e = cc e
read_fault_printed words fault.TooLong left left' faults faults' h e = cc e
read_fault_printed words fault.ReadFault left left' faults faults' h e = failed_rose h.0 faults faults' h.2
read_fault_printed words (fault.Syntax line) left left' faults faults' h e = cc e
read_fault_printed words (fault.Refused line) left left' faults faults' h e = cc e
read_fault_printed words fault.Memory left left' faults faults' h e = cc e

pub syntax_no_verdict : (harts : ℕ) (first second : List ℕ) (why : Fault) → ReportsSyntax (SpellNothing first) why → HaveNoVerdict harts first second why
syntax_no_verdict harts first second fault.Usage reports = reports
syntax_no_verdict harts first second fault.TooLong reports = reports
syntax_no_verdict harts first second fault.ReadFault reports = reports
syntax_no_verdict harts first second (fault.Syntax line) reports = inl reports
syntax_no_verdict harts first second (fault.Refused line) reports = absurd reports
syntax_no_verdict harts first second fault.Memory reports = tt

refusal_no_verdict : (harts : ℕ) (first second : List ℕ) (why : Fault) → ReportsRefusal (SpellRefused harts first) why → HaveNoVerdict harts first second why
refusal_no_verdict harts first second fault.Usage reports = reports
refusal_no_verdict harts first second fault.TooLong reports = reports
refusal_no_verdict harts first second fault.ReadFault reports = reports
refusal_no_verdict harts first second (fault.Syntax line) reports = absurd reports
refusal_no_verdict harts first second (fault.Refused line) reports = reports
refusal_no_verdict harts first second fault.Memory reports = tt

pub refused_no_verdict : (harts : ℕ) (first second : List ℕ) (program : ProgramTree) (why : Fault) → length first ≤ 65536 → Spells first program → ReportsRefusal (IsUnaccepted harts program) why
    → HaveNoVerdict harts first second why
refused_no_verdict harts first second program why short spelled reports = refusal_no_verdict harts first second why (refused_line harts first program why short spelled reports)

-- ---- the line of a status, if the source's bytes are known
reported_of : (IsSo : Command → List ℕ → List ℕ → Type 0) → ((seed size harts : ℕ) (a b line : List ℕ) → IsSo (Make seed size harts) a line → IsSo (Make seed size harts) b line)
    → (words : List (List ℕ)) (left left' : Option (List ℕ)) (line : List ℕ) → IsPrintedOf IsSo words left left' line
    → (command : Command) → form_of words ≡ Some command → (bytes : List ℕ) → AreInput command left bytes → IsSo command bytes line
reported_of IsSo any words left left' line is command form bytes e =
    of_words (λ c b. IsSo c b line) (λ seed size harts a b own. any seed size harts a b line own) words is.command command bytes is.bytes left left' is.form form e is.given is.is

pub too_long_input : (words : List (List ℕ)) (left left' : Option (List ℕ)) → IsTooLong words left left' → (command : Command) → form_of words ≡ Some command
    → (bytes : List ℕ) → AreInput command left bytes → (limit_of command < length bytes) ⊎ IsLong command bytes
too_long_input words left left' long command form bytes e =
    let same : long.command ≡ command = same_Some long.command command (sym long.form ∙ form) in
    elim long.longer [
      | inl more ↦ inl (too_much command left left' bytes (subst (λ (c : Command). GivesTooMuch c left left') same more) e)
      | inr part ↦ inr (of_words IsLong (λ seed size harts a b is. is) words long.command command bytes part.0 left left' long.form form e part.1 part.2)
    ]

pub line_printed : (words : List (List ℕ)) (ended : Status) (left left' : Option (List ℕ)) (line : List ℕ) → IsTextOf words ended left left' line
    → (command : Command) → form_of words ≡ Some command → (bytes : List ℕ) → AreInput command left bytes → IsLineOf command ended bytes line
line_printed words status.Syntax left left' line is command form bytes e = reported_of IsNoText (λ seed size harts a b l own. own) words left left' line is command form bytes e
line_printed words status.Refused left left' line is command form bytes e = reported_of IsRefused (λ seed size harts a b l own. own) words left left' line is command form bytes e
line_printed words status.Done left left' line is command form bytes e = is
line_printed words status.Illegal left left' line is command form bytes e = is
line_printed words status.Usage left left' line is command form bytes e = is
line_printed words status.TooLong left left' line is command form bytes e = is
line_printed words status.ReadFault left left' line is command form bytes e = is
line_printed words status.WriteFault left left' line is command form bytes e = is
line_printed words status.NoMemory left left' line is command form bytes e = is

-- ---- the text of a made program spells it
pub made_no_syntax : (seed size harts : ℕ) (bytes text : List ℕ) (why : Fault) → size ≤ 40 → text ≡ made_text seed size → ReportsSyntax (SpellNothing text) why
    → IsNoOutput (Make seed size harts) bytes why
made_no_syntax seed size harts bytes text why few same reports =
    syntax_no_output (Make seed size harts) bytes why (syntax_for (SpellNothing text) (λ line. ⊥) why (λ line is.
    let spelled = made_spelled seed size few in
    is.nothing spelled.0 (subst (λ (t : List ℕ). Spells t spelled.0) (sym same) spelled.1)) reports)

pub made_refused : (seed size harts : ℕ) (bytes text : List ℕ) (program : ProgramTree) (why : Fault) → text ≡ made_text seed size → length text ≤ 65536 → Spells text program
    → ReportsRefusal (IsUnaccepted harts program) why → IsNoOutput (Make seed size harts) bytes why
made_refused seed size harts bytes text program why same short spelled reports =
    refusal_no_output (Make seed size harts) bytes why
    (subst (λ (t : List ℕ). ReportsRefusal (SpellRefused harts t) why) same (refused_line harts text program why short spelled reports))

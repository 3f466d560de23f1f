-- Why a program isn't tallied, and the cells of the given program after a run of the spread one.
use Rattle.std.proofs.Common.{◌≡◌, ◌≢◌, ◌⊎◌, ◌≤◌, ◌∙◌, ℕ, List, length, take, Option, Some, None, refl, sym, ap, subst, inl, inr, arith}
use Rattle.std.specs.Option.{option_map}
use Rattle.std.proofs.lemmas.List.{length-take}
use Rattle.std.proofs.lemmas.Option.{same_Some}
use Rattle.array_tree.specs.Trees.{ProgramTree}
use Rattle.array_lang.specs.Spelled.{Spells}
use Rattle.array_meaning.specs.Stores.{Store, arrays_of, cells_of}
use Rattle.array_meaning.specs.Work.{final_store}
use Rattle.disjoint_check.specs.declared.fault.CheckFault.{CheckFault}
use Rattle.disjoint_check.specs.declared.fault.CheckFault.TheVariants as check
use Rattle.disjoint_check.specs.FaultOf.{meaning_fault_of}
use Rattle.disjoint_check.specs.Meaning.{HasMeaningFor}
use Rattle.disjoint_check.proofs.Accepting.{none_of_meaning, none_of_accepted}
use Rattle.spread_laws.specs.Faults.{SpreadFault, spread_fault_of}
use Rattle.spread_laws.specs.Served.{HasMeaning, IsTallyKept}
use Rattle.spread_laws.specs.Spread.{spread_of}
use Rattle.tally_cells.specs.FaultOf.{reported_of}
use Rattle.tally_cells.specs.declared.fault.TallyFault.{TallyFault}
use Rattle.tally_cells.specs.declared.fault.TallyFault.TheVariants as tally
use Rattle.error_text.specs.TallyText.{tally_text}
use Rattle.lithe_call.specs.Faults.{IsPrintedFault, IsUnaccepted, IsUntallied, SpellUntallied, IsNoOutput, PrintsUntallied}
use Rattle.lithe_call.specs.Lines.{PrintsRefusal, PrintsTally, ReportsRefusal}
use Rattle.lithe_call.specs.Tallies.{IsTallied}
use Rattle.lithe_call.specs.declared.fault.Fault.{Fault}
use Rattle.command_words.specs.declared.command.Command.TheVariants.{Tally}
use Rattle.lithe_call.proofs.Causes.{refusal_for, refusal_no_output, refusal_printed}
use Rattle.lithe_call.proofs.Runs.{final_cells}

-- ---- a program with a meaning for some harts has a meaning
pub meaning_of : (program : ProgramTree) (harts : ℕ) → HasMeaningFor program harts → HasMeaning program
meaning_of program harts m = record {
  single_names = m.limits.single_names;
  known_names = m.limits.known_names;
  ranges = m.limits.ranges;
  levels = m.limits.levels;
  work = m.limits.work;
  sites = m.limits.sites;
  pieces = m.limits.pieces;
  indices = m.indices;
}

-- ---- why a program isn't tallied
untallied_refused : (harts : ℕ) (program : ProgramTree) (line : List ℕ) → IsUntallied harts program line → IsTallied harts program → ⊥
untallied_refused harts program line (inl meaning) is =
    let none = none_of_meaning program harts is.meaning in
    let bad : None ≡ Some meaning.fault = sym none ∙ meaning.is in cc bad
untallied_refused harts program line (inr (inl adds)) is =
    let bad : None ≡ Some adds.fault = sym is.shaped ∙ adds.first in cc bad
untallied_refused harts program line (inr (inr rows)) is =
    let none = none_of_accepted (spread_of program) harts is.accepted in
    let bad : None ≡ Some rows.first.fault = sym none ∙ rows.first.is in cc bad

pub untallied_line : (harts : ℕ) (bytes : List ℕ) (program : ProgramTree) (why : Fault) → length bytes ≤ 65536 → Spells bytes program
    → PrintsUntallied harts program why → IsNoOutput (Tally harts) bytes why
untallied_line harts bytes program why short spelled prints =
    refusal_no_output (Tally harts) bytes why (refusal_for (IsUntallied harts program) (SpellUntallied harts bytes) why (λ line is. record {
      short = short;
      program = program;
      spelled = spelled;
      refused = untallied_refused harts program line is;
      first = is;
    }) prints)

-- The program's meaning is refused.
pub meaning_printed : (harts : ℕ) (program : ProgramTree) (cause : CheckFault) (why : Fault) → PrintsRefusal program cause why
    → (cause ≡ check.Memory) ⊎ (meaning_fault_of program harts ≡ Some cause) → PrintsUntallied harts program why
meaning_printed harts program cause why prints first =
    refusal_for (IsPrintedFault (meaning_fault_of program harts) program) (IsUntallied harts program) why (λ line is. inl is)
    (refusal_printed (meaning_fault_of program harts) program cause why prints first)

-- The program's adds are refused.
given_fault : (found : Option SpreadFault) (cause : TallyFault) → option_map reported_of found ≡ Some cause → (f : SpreadFault) × (found ≡ Some f) × (reported_of f ≡ cause)
given_fault None cause e = cc e
given_fault (Some f) cause e = (f, refl, same_Some (reported_of f) cause e)

pub adds_printed : (harts : ℕ) (program : ProgramTree) (cause : TallyFault) (why : Fault) → HasMeaningFor program harts → PrintsTally cause why
    → (cause ≡ tally.Memory) ⊎ (option_map reported_of (spread_fault_of program) ≡ Some cause) → PrintsUntallied harts program why
adds_printed harts program cause why meaning prints first =
    refusal_for (λ line. (cause ≢ tally.Memory) × (line ≡ tally_text cause)) (IsUntallied harts program) why (λ line is. elim first [
      | inl memory ↦ absurd (is.0 memory)
      | inr same ↦ let given = given_fault (spread_fault_of program) cause same in
          inr (inl (record { meaning = meaning; fault = given.0; first = given.1; printed = is.1 ∙ ap tally_text (sym given.2) }))
    ]) prints

-- The spread program is refused.
pub rows_refused : (harts : ℕ) (program rows : ProgramTree) (why : Fault) → HasMeaningFor program harts → spread_fault_of program ≡ None
    → rows ≡ spread_of program → ReportsRefusal (IsUnaccepted harts rows) why → PrintsUntallied harts program why
rows_refused harts program rows why meaning shaped same reports =
    refusal_for (IsUnaccepted harts rows) (IsUntallied harts program) why (λ line is. inr (inr (record {
      meaning = meaning;
      shaped = shaped;
      first = subst (λ (p : ProgramTree). IsUnaccepted harts p line) same is;
    }))) reports

pub rows_no_output : (harts : ℕ) (bytes : List ℕ) (program rows : ProgramTree) (why : Fault) → length bytes ≤ 65536 → Spells bytes program → HasMeaningFor program harts
    → spread_fault_of program ≡ None → rows ≡ spread_of program → ReportsRefusal (IsUnaccepted harts rows) why → IsNoOutput (Tally harts) bytes why
rows_no_output harts bytes program rows why short spelled meaning shaped same reports =
    untallied_line harts bytes program why short spelled (rows_refused harts program rows why meaning shaped same reports)

-- ---- the cells of the given program are the first cells of the spread one
pub kept_cells : (program rows : ProgramTree) (store : Store) → IsTallyKept program rows → store ≡ final_store rows
    → take (cells_of (arrays_of program.arrays)) store ≡ final_store program
kept_cells program rows store kept same = ap (take (cells_of (arrays_of program.arrays))) same ∙ kept.store

pub enough_cells : (program rows : ProgramTree) (store : Store) → IsTallyKept program rows → store ≡ final_store rows → cells_of (arrays_of program.arrays) ≤ length store
enough_cells program rows store kept same =
    let cells = cells_of (arrays_of program.arrays) in
    let long = ap length (kept_cells program rows store kept same) ∙ final_cells program in
    omega (arith, length-take cells store, long)

-- The lines that report a verdict, and the faults of an input's second part.
use Rattle.std.specs.Prelude.{ℕ, true, false, List, [], ◌∷◌, ◌++◌, codes}
use Rattle.std.specs.Fmt.{decimal}
use Rattle.transfer_table.specs.declared.entry.NotAdmitted.{NotAdmitted}
use Rattle.transfer_table.specs.declared.entry.NotAdmitted.TheVariants as refusal
use Rattle.transfer_table.specs.declared.fault.Why.{Why}
use Rattle.transfer_table.specs.declared.fault.Why.TheVariants.{Refused, Unfinished, Unmeant}
use Rattle.journal_text.specs.declared.fault.TextFault.{TextFault}
use Rattle.journal_text.specs.declared.fault.TextFault.TheVariants as fault
use Rattle.run_audit.specs.declared.verdict.Verdict.{Verdict}
use Rattle.run_audit.specs.declared.verdict.Verdict.TheVariants as verdict

-- The words of each refusal of an entry.
abbrev pub refusal_text : NotAdmitted → List ℕ
refusal_text refusal.NoSuchHart = codes "no such hart"
refusal_text refusal.NoSuchSite = codes "no such site"
refusal_text (refusal.NotOwner owner) = codes "owner is s" ++ decimal owner
refusal_text refusal.NotNew = codes "not new"
refusal_text refusal.NotLive = codes "not live"
refusal_text (refusal.NotHome home) = codes "home is h" ++ decimal home
refusal_text refusal.NoWish = codes "no wish"
refusal_text (refusal.TooManyWished asked) = codes "asked " ++ decimal asked ++ codes " already"
refusal_text refusal.IsHome = codes "is home"
refusal_text (refusal.HartInside hart) = codes "h" ++ decimal hart ++ codes " is inside"
refusal_text (refusal.ChildLeft site) = codes "s" ++ decimal site ++ codes " is left"
refusal_text refusal.NoCount = codes "count is 0"

-- The words of each cause of a fault.
abbrev pub cause_text : Why → List ℕ
cause_text (Refused refused) = refusal_text refused
cause_text (Unfinished site) = codes "s" ++ decimal site ++ codes " is unfinished"
cause_text (Unmeant site true) = codes "s" ++ decimal site ++ codes " isn't skipped"
cause_text (Unmeant site false) = codes "s" ++ decimal site ++ codes " is skipped"

-- The line of a verdict.
abbrev pub verdict_text : Verdict → List ℕ
verdict_text (verdict.Legal entries) = codes "legal " ++ decimal entries ++ 10 ∷ []
verdict_text (verdict.Differs line) =
    codes "illegal: line " ++ decimal line ++ codes " differs" ++ 10 ∷ []
verdict_text (verdict.Illegal found) =
    codes "illegal: entry " ++ decimal found.place ++ codes ", " ++ cause_text found.why ++ 10 ∷ []

-- The line of a fault of the second part; none for an allocation failure.
abbrev pub text_fault_text : TextFault → List ℕ
text_fault_text (fault.BadLine line) =
    codes "syntax: bad line " ++ decimal line ++ codes " after %%" ++ 10 ∷ []
text_fault_text (fault.BadNumber line) =
    codes "syntax: bad number in line " ++ decimal line ++ codes " after %%" ++ 10 ∷ []
text_fault_text (fault.WrongCount said found) =
    codes "syntax: " ++ decimal said ++ codes " transfers said, " ++ decimal found
    ++ codes " found" ++ 10 ∷ []
text_fault_text fault.Memory = []

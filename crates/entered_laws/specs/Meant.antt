-- The accounts of a program's sites: the parts of its plan, and the law of complete journals.
use Rattle.std.specs.Prelude.{◌≡◌, ℕ, ◌+◌, ◌<◌, false, List, ◌++◌, length, IsTrue}
use Rattle.transfer_table.specs.Plan.{Plan, IsPlan, site_count}
use Rattle.transfer_table.specs.Table.{TableState}
use Rattle.transfer_table.specs.Journal.{Reaches, IsComplete, all_meant}
use Rattle.transfer_table.specs.declared.entry.Entry.{Entry}
use Rattle.transfer_table.specs.Accounts.{AreOverAs, IsSpan}
use Rattle.array_tree.specs.Trees.{ProgramTree}
use Rattle.array_meaning.specs.Plans.{plan_of, AreInside, AreOutside}
use Rattle.array_meaning.specs.Choices.{has_no_site_under_if}
use Rattle.array_meaning.specs.Entered.{entered_of}

-- From site s on, the plan has the parents of a part inside the site `around`, and no later site is inside the part.
pub record HasPartFrom (p : Plan) (around s : ℕ) (part : List ℕ) : Type 0 where
  pub before : List ℕ
  pub after : List ℕ
  pub place : length before + 1 ≡ s
  pub is : p.parents ≡ before ++ (part ++ after)
  pub below : around < s
  pub inside : AreInside around s part
  pub behind : AreOutside s (length part) after

-- The sites of a part are whole subtrees inside the site around it.
abbrev pub PartsAreSpans : Type 0
PartsAreSpans = (p : Plan) (around s : ℕ) (part : List ℕ) → HasPartFrom p around s part
    → IsSpan p around s (length part)

-- The whole program is such a part inside the base.
abbrev pub ProgramsAreParts : Type 0
ProgramsAreParts = (program : ProgramTree) (p : Plan) → p.parents ≡ plan_of program
    → HasPartFrom p 0 1 (plan_of program)

-- A legal list is complete if at its end each site of a program has ended as the meaning enters it.
abbrev pub EnteredIsComplete : Type 0
EnteredIsComplete = (program : ProgramTree) (p : Plan) (es : List Entry) (t : TableState)
    → p.parents ≡ plan_of program → IsPlan p → Reaches p es t
    → AreOverAs p es 1 (entered_of program)
    → IsComplete p (entered_of program) es

-- There is a flag for each site of a program's plan, whether the meaning enters the site.
abbrev pub EverySiteHasAFlag : Type 0
EverySiteHasAFlag = (program : ProgramTree) (p : Plan) → p.parents ≡ plan_of program
    → length (entered_of program) ≡ site_count p

-- A program without a construct under an `if` enters every site of its plan.
abbrev pub AllSitesAreEntered : Type 0
AllSitesAreEntered = (program : ProgramTree) (p : Plan) → p.parents ≡ plan_of program
    → IsTrue (has_no_site_under_if program.body false)
    → entered_of program ≡ all_meant p

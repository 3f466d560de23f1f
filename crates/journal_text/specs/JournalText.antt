-- The text of a journal. Numbers are decimal without leading zeros, and each line ends by a newline.
use Rattle.std.specs.Prelude.{ℕ, ◌+◌, List, [], ◌∷◌, ◌++◌, length, codes}
use Rattle.std.specs.Fmt.{decimal}
use Rattle.transfer_table.specs.Plan.{Plan, parent}
use Rattle.transfer_table.specs.declared.entry.Entry.{Entry}
use Rattle.transfer_table.specs.declared.entry.Entry.TheVariants.{Register, Request, Enter, Yield, Unregister, Skip}

-- The beginning of each line: the entry's index, its hart, what it does and its site.
abbrev pub start_text : ℕ → ℕ → List ℕ → ℕ → List ℕ
start_text place hart action site =
    decimal place ++ codes " h" ++ decimal hart ++ codes " " ++ action ++ codes " s" ++ decimal site

-- The end of the line of a registration under a parent.
abbrev pub under_text : ℕ → List ℕ
under_text around = codes " under s" ++ decimal around ++ 10 ∷ []

-- The line of the entry at an index.
abbrev pub line_text : Plan → ℕ → Entry → List ℕ
line_text plan place (Register hart site) =
    start_text place hart (codes "register") site ++ under_text (parent plan site)
line_text plan place (Request hart site count) =
    start_text place hart (codes "request") site ++ (codes " " ++ decimal count ++ 10 ∷ [])
line_text plan place (Enter hart site) = start_text place hart (codes "enter") site ++ 10 ∷ []
line_text plan place (Yield hart site) = start_text place hart (codes "yield") site ++ 10 ∷ []
line_text plan place (Unregister hart site) =
    start_text place hart (codes "unregister") site ++ 10 ∷ []
line_text plan place (Skip hart site) = start_text place hart (codes "skip") site ++ 10 ∷ []

-- The lines of entries, the first of which is at this index.
abbrev pub lines_text : Plan → ℕ → List Entry → List ℕ
lines_text plan place [] = []
lines_text plan place (entry ∷ more) =
    line_text plan place entry ++ lines_text plan (place + 1) more

-- The journal.
abbrev pub journal_text : Plan → List Entry → List ℕ
journal_text plan list =
    codes "transfers " ++ decimal (length list) ++ 10 ∷ [] ++ lines_text plan 0 list

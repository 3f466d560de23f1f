-- The entries of a journal, and the kinds of journals.
use Rattle.std.specs.Prelude.{◌≡◌, ◌≤◌, ◌<◌, ℕ, List}
use Rattle.transfer_table.specs.declared.entry.Entry.{Entry}
use Rattle.hart_loop.specs.declared.outcome.Journal.{Journal}
use Rattle.hart_loop.specs.declared.outcome.Journal.TheVariants.{Listed, Board, Wide}

-- The entries of a journal, from its list or its board.
abbrev pub entries_in : Journal → List Entry
entries_in (Listed entries) = entries
entries_in (Board entries) = entries
entries_in (Wide entries) = entries

-- The journal is the list that a single hart kept.
abbrev pub IsListed : Journal → Type 0
IsListed (Listed entries) = Unit {0}
IsListed journal = ⊥

-- The journal is that of a closed word board.
abbrev pub IsBoard : Journal → Type 0
IsBoard (Board entries) = Unit {0}
IsBoard journal = ⊥

-- The journal is that of a closed wide board.
abbrev pub IsWide : Journal → Type 0
IsWide (Wide entries) = Unit {0}
IsWide journal = ⊥

-- The journal is of the kind for this number of harts.
pub record IsOfKind (harts : ℕ) (journal : Journal) : Type 0 where
  pub listed : harts ≡ 1 → IsListed journal
  pub board : 2 ≤ harts → harts ≤ 4 → IsBoard journal
  pub wide : 4 < harts → IsWide journal

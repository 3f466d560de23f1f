-- A site's row as its word shows it.
use Rattle.std.specs.Prelude.{ℕ, ◌+◌, nat_le, if◌then◌else◌, Bool, List}
use Rattle.transfer_table.specs.Table.{TableState, row, blank}
use Rattle.transfer_table.specs.Entry.{registers, skips}
use Rattle.transfer_table.specs.declared.entry.Row.{Row}
use Rattle.transfer_table.specs.declared.entry.Stage.{Stage}
use Rattle.transfer_table.specs.declared.entry.Stage.TheVariants.{New, Live, Gone}
use Rattle.transfer_table.specs.declared.entry.Entry.{Entry}

-- 1 for a site that isn't new; 0 for a new site.
abbrev pub started : Stage → ℕ
started New = 0
started Live = 1
started Gone = 1

-- Whether the site was registered, or skipped by an entry of its own.
abbrev pub has_begun : List Entry → ℕ → Bool
has_begun es x = nat_le 1 (registers x es + skips x es)

-- A site's row as the site's word shows it. A skip of a site around doesn't change the word, so the word then shows a new site.
abbrev pub shown : List Entry → TableState → ℕ → Row
shown es t x = if has_begun es x then row t x else blank

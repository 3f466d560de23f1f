use Rattle.std.proofs.Common.{◌≡◌, ◌≤◌, List, take, vec_len, vec_capacity}
use Rattle.std.specs.Mem.Slots.{slots_items}
use Rattle.transfer_table.specs.declared.entry.Entry.{Entry}
use Rattle.transfer_table.specs.Plan.{room}
use Rattle.board_rule.specs.Ends.{Spells}
use Rattle.lent_board.proofs.ending.read_journal.Given as goal

-- The list has the entries below this index.
abbrev pub invariant-loop-i : goal.invariant-loop-i
invariant-loop-i g l = (room l.plan ≤ vec_capacity l.list) × (vec_len l.list ≡ l.i) × ((es : List Entry) → Spells g.L.Laid.layout l.plan (slots_items l.closed.words) es → l.list.items ≡ take l.i es)

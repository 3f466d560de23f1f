-- Room in the journal.
use Rattle.std.proofs.Common.{◌<◌, List, length}
use Rattle.transfer_table.specs.Plan.{Plan, IsPlan, room}
use Rattle.transfer_table.specs.Table.{TableState, effect_of}
use Rattle.transfer_table.specs.Journal.{Reaches}
use Rattle.transfer_table.specs.Allowed.{IsAllowed}
use Rattle.transfer_table.specs.declared.entry.Entry.{Entry}
use Rattle.transfer_table.proofs.Admits.{admits}
use Rattle.transfer_table.proofs.Positions.{legal_position}
use Rattle.transfer_table.proofs.Bounds.{legal_room}

-- An allowed entry has an index within the journal.
pub has_room : (p : Plan) → IsPlan p → (es : List Entry) (t : TableState) (e : Entry) → Reaches p es t → IsAllowed p t e → length es < room p
has_room p plan es t e leads a = legal_room p plan es t (effect_of p t e) e leads (admits p t e (legal_position p plan es t leads) a)

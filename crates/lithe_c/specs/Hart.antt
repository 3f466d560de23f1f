-- The block of a hart's seat, which a hart of C owns.
use base.Fml.{Fml}
use base.Stored.{Coded}
use denote.RawPtr.{Ptr}
use Rattle.std.specs.Box.Ownership.{box_owns}
use Rattle.std.specs.Global.{Global}
use Rattle.std_heap.specs.contracts.GlobalAllocator.TheImpl.{ghosts}
use Rattle.lithe_c.specs.contracts.lent.Lent.{the_row}

-- The pointer is to a block of the C library, which is owned and has this content.
abbrev pub hart_owns : Global → Ptr → the_row.Denot → Fml
hart_owns alloc = box_owns (ghosts.dealloc_token alloc) the_row

-- The encoding of a block's contents in the logic.
abbrev pub lent_coded : Coded the_row.Denot
lent_coded = the_row.coded

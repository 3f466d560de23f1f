-- The effect of each call of C on the hart's block, and the status that it returns. The board is unchanged. The call is one of
-- the board's checked calls on the hart's seat, and the status is that of its result.
use Rattle.std.specs.Prelude.{◌≡◌, ℕ, Bool, Result}
use Rattle.std.specs.Arc.{arc_value}
use Rattle.open_rule.specs.declared.view.View.{View}
use Rattle.open_board.specs.Calls.{Registers}
use Rattle.open_board.specs.Checked.{ChecksRegisterWishing, ChecksEnd, ChecksYieldLast, ChecksWithdraw, ChecksReadHome, ChecksReadSite, ChecksRequest, ChecksEnter, ChecksYield, ChecksClose, ChecksLook, ChecksUnregister}
use Rattle.open_board.specs.declared.board.OpenBoard.{OpenBoard}
use Rattle.open_board.specs.declared.board.Entered.{Entered}
use Rattle.open_board.specs.declared.board.Seen.{Seen}
use Rattle.open_board.specs.declared.board.TooDeep.{TooDeep}
use Rattle.open_board.specs.declared.checked.Refused.{Refused}
use Rattle.open_board.specs.declared.wishes.Counts.{Counts}
use Rattle.open_board.specs.declared.wishes.Withdrawn.{Withdrawn}
use Rattle.open_board.specs.declared.composed.Finish.{Finish}
use Rattle.open_board.specs.declared.composed.NotRegistered.{NotRegistered}
use Rattle.lithe_c.specs.Status.{plain_status, register_status, register_wishing_status, site_after, enter_status, look_status, end_status, withdraw_status, wishes_after, guests_after, last_after}
use Rattle.lithe_c.specs.declared.lent.Lent.{Lent}

-- The board of the hart.
abbrev pub board_of : Lent → OpenBoard
board_of l = arc_value l.seated.board

-- The hart's view.
abbrev pub view_of : Lent → View
view_of l = l.seated.seat.seat.me.0

-- A register, with the value at the site's number before and after.
abbrev pub ReturnsRegister : Lent → ℕ → ℕ → ℕ → Lent → Type 0
ReturnsRegister l before status after m = (board_of m ≡ board_of l)
    × ((r : Result ℕ TooDeep) × Registers (view_of l) r (view_of m) × (status ≡ register_status r) × (after ≡ site_after before r))

-- A register with wishes, likewise.
abbrev pub ReturnsRegisterWishing : Lent → ℕ → ℕ → ℕ → ℕ → Lent → Type 0
ReturnsRegisterWishing l count before status after m = (board_of m ≡ board_of l)
    × ((r : Result ℕ NotRegistered) × ChecksRegisterWishing (board_of l).size (view_of l) count r (view_of m)
    × (status ≡ register_wishing_status r) × (after ≡ site_after before r))

-- A request.
abbrev pub ReturnsRequest : Lent → ℕ → ℕ → Lent → Type 0
ReturnsRequest l count status m = (board_of m ≡ board_of l)
    × ((r : Result (Unit {0}) Refused) × ChecksRequest (board_of l).size (view_of l) count r (view_of m) × (status ≡ plain_status r))

-- A try to enter.
abbrev pub ReturnsEnter : Lent → ℕ → ℕ → Lent → Type 0
ReturnsEnter l site status m = (board_of m ≡ board_of l)
    × ((r : Result Entered Refused) × ChecksEnter (board_of l).size (view_of l) site r (view_of m) × (status ≡ enter_status r))

-- A yield.
abbrev pub ReturnsYield : Lent → ℕ → Lent → Type 0
ReturnsYield l status m = (board_of m ≡ board_of l)
    × ((r : Result (Unit {0}) Refused) × ChecksYield (view_of l) r (view_of m) × (status ≡ plain_status r))

-- A close.
abbrev pub ReturnsClose : Lent → ℕ → Lent → Type 0
ReturnsClose l status m = (board_of m ≡ board_of l)
    × ((r : Result (Unit {0}) Refused) × ChecksClose (view_of l) r (view_of m) × (status ≡ plain_status r))

-- A check whether the owner is empty.
abbrev pub ReturnsLook : Lent → ℕ → Lent → Type 0
ReturnsLook l status m = (board_of m ≡ board_of l)
    × ((r : Result Seen Refused) × ChecksLook (view_of l) r (view_of m) × (status ≡ look_status r))

-- An unregister.
abbrev pub ReturnsUnregister : Lent → ℕ → Lent → Type 0
ReturnsUnregister l status m = (board_of m ≡ board_of l)
    × ((r : Result (Unit {0}) Refused) × ChecksUnregister (view_of l) r (view_of m) × (status ≡ plain_status r))

-- A try to end the owner if it is empty.
abbrev pub ReturnsEnd : Lent → ℕ → Lent → Type 0
ReturnsEnd l status m = (board_of m ≡ board_of l)
    × ((r : Result Finish Refused) × ChecksEnd (view_of l) r (view_of m) × (status ≡ end_status r))

-- A yield that writes whether the hart was the last guest, with the value there before and after.
abbrev pub ReturnsYieldLast : Lent → ℕ → ℕ → ℕ → Lent → Type 0
ReturnsYieldLast l before status after m = (board_of m ≡ board_of l)
    × ((r : Result Bool Refused) × ChecksYieldLast (view_of l) r (view_of m) × (status ≡ plain_status r) × (after ≡ last_after before r))

-- A try to withdraw wishes.
abbrev pub ReturnsWithdraw : Lent → ℕ → ℕ → Lent → Type 0
ReturnsWithdraw l count status m = (board_of m ≡ board_of l)
    × ((r : Result Withdrawn Refused) × ChecksWithdraw (view_of l) count r (view_of m) × (status ≡ withdraw_status r))

-- The counts that a read wrote: the status, and the values at the wishes and the guests before and after.
abbrev pub Writes : Result Counts Refused → ℕ → ℕ → ℕ → ℕ → ℕ → Type 0
Writes r wishes guests status wishes' guests' = (status ≡ plain_status r) × (wishes' ≡ wishes_after wishes r)
    × (guests' ≡ guests_after guests r)

-- A read of the owner's word by its home.
abbrev pub ReturnsReadHome : Lent → ℕ → ℕ → ℕ → ℕ → ℕ → Lent → Type 0
ReturnsReadHome l wishes guests status wishes' guests' m = (board_of m ≡ board_of l)
    × ((r : Result Counts Refused) × ChecksReadHome (view_of l) r (view_of m) × Writes r wishes guests status wishes' guests')

-- A read of a site's word.
abbrev pub ReturnsReadSite : Lent → ℕ → ℕ → ℕ → ℕ → ℕ → ℕ → Lent → Type 0
ReturnsReadSite l site wishes guests status wishes' guests' m = (board_of m ≡ board_of l)
    × ((r : Result Counts Refused) × ChecksReadSite (board_of l).size (view_of l) site r (view_of m) × Writes r wishes guests status wishes' guests')

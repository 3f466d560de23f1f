-- The status of each result.
use Rattle.std.specs.Prelude.{◌≡◌, ℕ, ◌<◌, Bool, true, false, Result, Ok, Err, List, length, slice_index_or}
use Rattle.open_board.specs.declared.board.Entered.{Entered}
use Rattle.open_board.specs.declared.board.Entered.TheVariants.{Inside, NotWanted, Moved}
use Rattle.open_board.specs.declared.board.Seen.{Seen}
use Rattle.open_board.specs.declared.board.Seen.TheVariants.{Empty, Busy}
use Rattle.open_board.specs.declared.board.TooDeep.{TooDeep}
use Rattle.open_board.specs.declared.composed.Finish.{Finish}
use Rattle.open_board.specs.declared.composed.Finish.TheVariants as finish
use Rattle.open_board.specs.declared.composed.NotRegistered.{NotRegistered}
use Rattle.open_board.specs.declared.composed.NotRegistered.TheVariants as unregistered
use Rattle.open_board.specs.declared.wishes.Counts.{Counts}
use Rattle.open_board.specs.declared.wishes.Withdrawn.{Withdrawn}
use Rattle.open_board.specs.declared.wishes.Withdrawn.TheVariants as withdrawn
use Rattle.open_board.specs.declared.checked.Refused.{Refused}
use Rattle.open_board.specs.declared.checked.Refused.TheVariants.{NotHome, NotGuest, TooManyWished, IsClosed, NotClosed, NotEmpty, NoSuchSite}

-- The status of each refusal.
abbrev pub refusal_status : Refused → ℕ
refusal_status NotHome = 1
refusal_status NotGuest = 2
refusal_status TooManyWished = 3
refusal_status IsClosed = 4
refusal_status NotClosed = 5
refusal_status (NotEmpty shown) = 6
refusal_status NoSuchSite = 7

-- The status of a call that does nothing only if it is refused.
abbrev pub plain_status : {A : Type 0} → Result A Refused → ℕ
plain_status (Ok done) = 0
plain_status (Err refused) = refusal_status refused

-- The status of a register.
abbrev pub register_status : Result ℕ TooDeep → ℕ
register_status (Ok site) = 0
register_status (Err deep) = 8

-- The status of a register with wishes.
abbrev pub register_wishing_status : Result ℕ NotRegistered → ℕ
register_wishing_status (Ok site) = 0
register_wishing_status (Err unregistered.TooDeep) = 8
register_wishing_status (Err unregistered.TooManyWished) = 3

-- The value at the site's number after a register: the number, or the value before.
abbrev pub site_after : {E : Type 0} → ℕ → Result ℕ E → ℕ
site_after before (Ok site) = site
site_after before (Err refused) = before

-- The status of a try to enter.
abbrev pub enter_status : Result Entered Refused → ℕ
enter_status (Ok Inside) = 0
enter_status (Ok (NotWanted shown)) = 9
enter_status (Ok (Moved read found)) = 10
enter_status (Err refused) = refusal_status refused

-- The status of a check.
abbrev pub look_status : Result Seen Refused → ℕ
look_status (Ok Empty) = 0
look_status (Ok (Busy shown)) = 6
look_status (Err refused) = refusal_status refused

-- The status of a try to end an empty site.
abbrev pub end_status : Result Finish Refused → ℕ
end_status (Ok finish.Gone) = 0
end_status (Ok (finish.Busy shown)) = 6
end_status (Ok (finish.Moved read found)) = 10
end_status (Err refused) = refusal_status refused

-- The status of a try to withdraw wishes.
abbrev pub withdraw_status : Result Withdrawn Refused → ℕ
withdraw_status (Ok withdrawn.Done) = 0
withdraw_status (Ok (withdrawn.TooFew shown)) = 15
withdraw_status (Ok (withdrawn.Moved read found)) = 10
withdraw_status (Err refused) = refusal_status refused

-- The values at the wishes and the guests after a read: the counts, or the values before.
abbrev pub wishes_after : ℕ → Result Counts Refused → ℕ
wishes_after before (Ok counts) = counts.wishes
wishes_after before (Err refused) = before

-- The guests likewise.
abbrev pub guests_after : ℕ → Result Counts Refused → ℕ
guests_after before (Ok counts) = counts.guests
guests_after before (Err refused) = before

-- The value at `last` after a yield: 1 if the hart was the last guest of a closing site, 0 if not, or the value before.
abbrev pub last_after : ℕ → Result Bool Refused → ℕ
last_after before (Ok true) = 1
last_after before (Ok false) = 0
last_after before (Err refused) = before

-- A text that was written: if there was room, it ends within it, with a 0.
abbrev pub EndsText : List ℕ → ℕ → List ℕ → Type 0
EndsText before count after = (length after ≡ length before)
    × (0 < length before → (count < length before) × (slice_index_or after count 0 ≡ 0))

-- The source and the sink in memory that fail at listed calls.
use Rattle.std.specs.Prelude.{ℕ, ◌+◌, ◌-◌, ◌^◌, ◌==◌, Bool, min, List, [], ◌++◌, length, take, drop, if◌then◌else◌}
use Rattle.std.specs.List.{list_any}
use Rattle.outside_io.specs.Feed.{Feed}
use Rattle.outside_io.specs.Tray.{Tray}
use Rattle.outside_io.specs.Sure.{sure_fill}
use Rattle.outside_io.specs.declared.source.Fill.{Fill}
use Rattle.outside_io.specs.declared.source.Fill.TheVariants as fill
use Rattle.outside_io.specs.declared.sink.Put.{Put}
use Rattle.outside_io.specs.declared.sink.Put.TheVariants as put

-- One more, up to the last value of a count.
abbrev pub risen : ℕ → ℕ
risen count = min (count + 1) (2 ^ 64 - 1)

-- The call's number is listed.
abbrev pub is_listed : List ℕ → ℕ → Bool
is_listed failing call = list_any (λ listed. listed == call) failing

-- The result of a call of the source with a buffer of this size: a failure at a listed call; else the end if no byte is left,
-- and otherwise the least of what a call gives at most, the buffer's length and the number of bytes left.
abbrev pub feed_fill : Feed → ℕ → Fill
feed_fill feed size = if is_listed feed.failing (risen feed.calls) then fill.Failed
    else sure_fill feed.left (min feed.most size)

-- The source after a call with this result.
abbrev pub fed : Feed → Fill → Feed
fed feed (fill.Got count) = record feed { left = drop count feed.left; calls = risen feed.calls }
fed feed fill.End = record feed { calls = risen feed.calls }
fed feed fill.Failed = record feed { calls = risen feed.calls; faults = risen feed.faults }

-- A fault where no room is left, and otherwise so many bytes as are offered or as there is room for.
abbrev pub put_within : ℕ → ℕ → Put
put_within offered room = if room == 0 then put.Failed else put.Took (min offered room)

-- The result of a call of the sink with so many bytes: a failure at a listed call and if no room is left; otherwise it takes
-- the least of what a call takes at most, the number of bytes and the room left.
abbrev pub tray_put : Tray → ℕ → Put
tray_put tray size =
    if is_listed tray.failing (risen tray.calls) then put.Failed
    else put_within (min tray.most size) (tray.room - length tray.taken)

-- The sink after a call with these bytes and this result.
abbrev pub laid_in : Tray → List ℕ → Put → Tray
laid_in tray piece (put.Took count) = record tray {
  taken = tray.taken ++ take count piece;
  calls = risen tray.calls;
}
laid_in tray piece put.Failed = record tray { calls = risen tray.calls; faults = risen tray.faults }

-- A source of these bytes, and a sink with this room, that were never called.
abbrev pub new_feed : List ℕ → ℕ → List ℕ → Feed
new_feed bytes most failing = record {
  left = bytes;
  most = most;
  failing = failing;
  calls = 0;
  faults = 0;
}

-- A sink with this room that was never called.
abbrev pub new_tray : ℕ → ℕ → List ℕ → Tray
new_tray room most failing = record {
  taken = [];
  room = room;
  most = most;
  failing = failing;
  calls = 0;
  faults = 0;
}

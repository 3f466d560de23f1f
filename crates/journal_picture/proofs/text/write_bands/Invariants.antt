use Rattle.std.proofs.Common.{◌≡◌, ◌++◌, ◌-◌, length, string_bytes}
use Rattle.journal_picture.specs.TextPicture.{bands_text, band_count}
use Rattle.journal_picture.proofs.text.write_bands.Given as goal

-- The text so far, and the other bands.
abbrev pub invariant-loop-band : goal.invariant-loop-band
invariant-loop-band l =
    string_bytes l.text ++ bands_text l.faulty l.drawing.list.now l.lanes l.strip l.band (l.count - l.band)
    ≡ string_bytes l.fn.text ++ bands_text l.faulty l.drawing.list.now l.lanes l.strip 0 (band_count (length l.drawing.list.now))

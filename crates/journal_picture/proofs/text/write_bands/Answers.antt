use Rattle.std.proofs.Common.{◌-◌, ◌+◌, ◌*◌, ◌<◌, string_bytes, rules}
use Rattle.journal_picture.specs.TextPicture.{band_text, bands_text}
use Rattle.journal_picture.proofs.Turns.{bands_more}
use Rattle.journal_picture.proofs.Written.{turn}
use Rattle.journal_picture.proofs.text.write_bands.Goals as goal

pub loop-band-preserved : goal.loop-band-preserved
loop-band-preserved c =
    let faulty = c.args.faulty in
    let es = c.args.drawing.now.list.now in
    let lanes = c.args.lanes.now in
    let strip = c.args.strip.now in
    let n = c.band_count-count.result in
    let i = c.loop-band.band in
    let within : i < n = search rules in
    turn (string_bytes c.loop-band.text) (string_bytes c.write_band.new.text) (band_text faulty es lanes strip (14 * i))
    (bands_text faulty es lanes strip i (n - i)) (bands_text faulty es lanes strip (i + 1) (n - (i + 1))) _ c.loop-band.invariant
    (bands_more faulty es lanes strip n i within) c.in_ok-write_band.ensures

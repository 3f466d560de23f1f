use Rattle.std.proofs.Common.{◌-◌, ◌+◌, string_bytes, rules}
use Rattle.std.specs.Prelude.{codes}
use Rattle.journal_picture.specs.TextPicture.{blanks}
use Rattle.journal_picture.proofs.Turns.{replicate_more}
use Rattle.journal_picture.proofs.Written.{turn}
use Rattle.journal_picture.proofs.words.write_blanks.Goals as goal

pub loop-i-preserved : goal.loop-i-preserved
loop-i-preserved c =
    turn (string_bytes c.loop-i.text) (string_bytes c.push_str.new.self) (codes " ") (blanks (c.args.count - c.loop-i._i))
    (blanks (c.args.count - (c.loop-i._i + 1))) _ c.loop-i.invariant
    (replicate_more c.args.count c.loop-i._i 32 (search rules)) (search rules)

use Rattle.std.proofs.Common.{arith}
use Rattle.claim_words.proofs.Seats.{splits}
use Rattle.claim_words.proofs.table.ClaimTable.another.Goals as goal

pub split_seat-requires : goal.split_seat-requires
split_seat-requires c = (
  c.requires.of,
  (let wide = c.args.self.now.wide in omega (arith, wide)),
  splits c.args.self.now.table.shared.key.items _ _ c.requires.parts c.requires.new,
)

use Rattle.std.proofs.Common.{alloc_error, arith}
use Rattle.task_table.specs.Slots.{Ends, list_of}
use Rattle.task_table.proofs.Steps.{sits}
use Rattle.task_table.proofs.table.TaskTable.seat.Goals as goal

pub load_new_seat-requires : goal.load_new_seat-requires
load_new_seat-requires g c = (
  omega (arith, c.requires, c.args.self.now.words, c.args.self.now.counts),
  sits g.T.TaskKind.ready (Ends g.T.TaskKind.gives g.T.TaskKind.fails (g.T.Error.From.from_gives alloc_error)) list_of c.args.self.now.table.shared.key _,
)

use Rattle.std.proofs.Common.{alloc_error, ap, sym, ◌∙◌, ◌∷◌, arith}
use Rattle.atomic_table.specs.Table.{rest}
use Rattle.task_table.specs.declared.slot.TaskSlot.TheVariants.{Ended}
use Rattle.task_table.specs.Slots.{Ends, list_of}
use Rattle.task_table.proofs.Steps.{collect_moves}
use Rattle.task_table.proofs.table.TaskTable.collect.Goals as goal

pub compare_exchange-found-requires : goal.compare_exchange-found-requires
compare_exchange-found-requires g c = (
  c.requires.of,
  omega (arith, c.args.self.now.words, c.args.self.now.counts),
  collect_moves g.T.TaskKind.ready (Ends g.T.TaskKind.gives g.T.TaskKind.fails (g.T.Error.From.from_gives alloc_error)) list_of c.args.self.now.table.shared.key _ _ _ c.args.seat.now.me c.requires.knows c.requires.place,
)

pub exchange-requires : goal.exchange-requires
exchange-requires g c =
    let t = c.compare_exchange-found.ensures.2.1 c.if-found-eq2.true in (
      c.compare_exchange-found.ensures.0 ∙ c.requires.of,
      (Ended t.1, t.4 ∙ ap (λ l. (c.args.place, Ended t.1) ∷ rest l) (sym t.4)),
    )

use Rattle.std.proofs.Common.{alloc_error, ap, ◌∙◌, arith}
use Rattle.atomic_table.specs.Table.{rest}
use Rattle.task_table.specs.Slots.{Ends, list_of}
use Rattle.task_table.proofs.Steps.{give_moves, given}
use Rattle.task_table.proofs.table.TaskTable.give.Goals as goal

pub store-requires : goal.store-requires
store-requires g c = (
  c.exchange-out.ensures.0 ∙ c.requires.of,
  omega (arith, c.args.self.now.words, c.args.self.now.counts),
  give_moves g.T.TaskKind.ready (Ends g.T.TaskKind.gives g.T.TaskKind.fails (g.T.Error.From.from_gives alloc_error)) list_of c.args.self.now.table.shared.key _ _ _ c.exchange-out.new.seat.me c.args.seat.now.me.0 c.args.outcome (rest c.args.seat.now.me.1) c.exchange-out.ensures.3 c.requires.place c.requires.ends,
)

pub returns-clause-knows : goal.returns-clause-knows
returns-clause-knows g c =
    ap (λ m. m.0.tasks) (given c.args.place c.args.outcome c.args.seat.now.me c.exchange-out.new.seat.me c.store.new.seat.me c.exchange-out.ensures.3 c.store.ensures.2)

pub returns-clause-given : goal.returns-clause-given
returns-clause-given g c =
    ap (λ m. m.1) (given c.args.place c.args.outcome c.args.seat.now.me c.exchange-out.new.seat.me c.store.new.seat.me c.exchange-out.ensures.3 c.store.ensures.2)

pub returns-clause-took : goal.returns-clause-took
returns-clause-took g c =
    ap (λ m. m.0.took) (given c.args.place c.args.outcome c.args.seat.now.me c.exchange-out.new.seat.me c.store.new.seat.me c.exchange-out.ensures.3 c.store.ensures.2)

pub returns-clause-gave : goal.returns-clause-gave
returns-clause-gave g c =
    ap (λ m. m.0.gave) (given c.args.place c.args.outcome c.args.seat.now.me c.exchange-out.new.seat.me c.store.new.seat.me c.exchange-out.ensures.3 c.store.ensures.2)

pub returns-clause-got : goal.returns-clause-got
returns-clause-got g c =
    ap (λ m. m.0.got) (given c.args.place c.args.outcome c.args.seat.now.me c.exchange-out.new.seat.me c.store.new.seat.me c.exchange-out.ensures.3 c.store.ensures.2)

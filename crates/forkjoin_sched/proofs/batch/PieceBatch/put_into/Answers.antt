use Rattle.std.proofs.Common.{sym, subst, ◌∙◌}
use Rattle.array_meaning.specs.Stores.{Store}
use Rattle.forkjoin_sched.specs.Pools.{StartFrom}
use Rattle.forkjoin_sched.proofs.Handed.{none_put, more_put, all_put, bare_batch, fewer_left}
use Rattle.forkjoin_sched.proofs.batch.PieceBatch.put_into.Goals as goal

pub pieces-init : goal.pieces-init
pieces-init c = none_put c.starts_as-known.result c.args.self.now c.args.pool.now c.starts_as-known.ensures.all

pub put_in-requires : goal.put_in-requires
put_in-requires c = λ is. subst (λ (s : Store). StartFrom s c.pieces.pool.book.jobs) (sym c.in-Some.ensures.0) (c.pieces.invariant.starts is)

pub pieces-preserved : goal.pieces-preserved
pieces-preserved c =
    more_put c.starts_as-known.result c.args.self.now c.args.pool.now c.pieces.self c.pieces.pool c.in-Some.piece c.take.new.self c.put_in.result c.put_in.new.self
    c.pieces.invariant c.in-Some.ensures c.put_in.ensures.book c.starts_as-known.ensures.known c.put_in.ensures.rest

pub pieces-preserved-in-Some : goal.pieces-preserved-in-Some
pieces-preserved-in-Some c =
    more_put c.starts_as-known.result c.args.self.now c.args.pool.now c.pieces.self c.pieces.pool c.in-Some.piece c.take.new.self c.put_in.result c.put_in.new.self
    c.pieces.invariant c.in-Some.ensures c.put_in.ensures.book c.starts_as-known.ensures.known c.put_in.ensures.rest

pub pieces-preserved-in-Some-2 : goal.pieces-preserved-in-Some-2
pieces-preserved-in-Some-2 c =
    more_put c.starts_as-known.result c.args.self.now c.args.pool.now c.pieces.self c.pieces.pool c.in-Some.piece c.take.new.self c.put_in.result c.put_in.new.self
    c.pieces.invariant c.in-Some.ensures c.put_in.ensures.book c.starts_as-known.ensures.known c.put_in.ensures.rest

pub pieces-smaller : goal.pieces-smaller
pieces-smaller c = fewer_left c.pieces.self c.in-Some.piece c.take.new.self c.in-Some.ensures

pub returns-clause-batch : goal.returns-clause-batch
returns-clause-batch c = c.in_default.ensures.1 ∙ bare_batch c.args.self.now c.pieces.self c.pieces.invariant.start c.in_default.ensures.0

pub returns-clause-book : goal.returns-clause-book
returns-clause-book c =
    (all_put c.starts_as-known.result c.args.self.now c.args.pool.now c.pieces.self c.pieces.pool c.pieces.invariant c.in_default.ensures.0).0

pub returns-clause-known : goal.returns-clause-known
returns-clause-known c =
    (all_put c.starts_as-known.result c.args.self.now c.args.pool.now c.pieces.self c.pieces.pool c.pieces.invariant c.in_default.ensures.0).1

pub returns-clause-rest : goal.returns-clause-rest
returns-clause-rest c = c.pieces.invariant.rest

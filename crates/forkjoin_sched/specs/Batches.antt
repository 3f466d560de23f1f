-- Pieces of a pool that one hart made and hasn't handed over yet.
use Rattle.std.specs.Prelude.{◌≡◌, ◌↔◌, Bool, IsTrue, List, [], ◌∷◌, ◌++◌, Option, Some, None, Result, Ok, Err}
use Rattle.array_meaning.specs.Stores.{Store}
use Rattle.array_jobs.specs.PieceParts.{PieceParts}
use Rattle.join_book.specs.Books.{BookParts, Puts}
use Rattle.join_book.specs.declared.book.Deposit.{Deposit}
use Rattle.forkjoin_sched.specs.Pools.{PoolParts, start_of}
use Rattle.forkjoin_sched.specs.declared.batch.NotAdded.{NotAdded}
use Rattle.forkjoin_sched.specs.declared.batch.NotAdded.TheVariants.{OtherStart, OutOfMemory}

-- The parts of a batch that contracts see: the store from which the jobs of all its pieces start, and the pieces.
pub record BatchParts : Type 0 where
  pub start : Store
  pub pieces : List PieceParts

-- A batch without pieces, for jobs that start from the store.
abbrev pub new_batch : Store → BatchParts
new_batch start = record { start = start; pieces = [] }

-- The batch without its pieces.
abbrev pub emptied : BatchParts → BatchParts
emptied batch = record batch { pieces = [] }

-- The job of the piece starts from the store.
abbrev pub Starts : Store → PieceParts → Type 0
Starts start piece = piece.job.store ≡ start

-- A piece is kept behind the others, if its job starts from the batch's store. Otherwise, or if an allocation fails, it is
-- returned, and the batch is unchanged.
abbrev pub Adds : BatchParts → PieceParts → Result (Unit {0}) NotAdded → BatchParts → Type 0
Adds before piece (Ok done) after =
    Starts before.start piece × (after ≡ record before { pieces = before.pieces ++ piece ∷ [] })
Adds before piece (Err (OtherStart back)) after =
    (¬ Starts before.start piece) × (back ≡ piece) × (after ≡ before)
Adds before piece (Err (OutOfMemory back)) after =
    Starts before.start piece × (back ≡ piece) × (after ≡ before)

-- The last piece is taken off, if there is one.
abbrev pub Takes : BatchParts → Option PieceParts → BatchParts → Type 0
Takes before (Some piece) after =
    Starts before.start piece × (before ≡ record after { pieces = after.pieces ++ piece ∷ [] })
Takes before None after = (before.pieces ≡ []) × (after ≡ before)

-- The pieces are put into the book one after another, the last of them first.
abbrev pub PutsAll : List PieceParts → BookParts → BookParts → Type 0
PutsAll [] before after = after ≡ before
PutsAll (piece ∷ pieces) before after =
    (now : BookParts) × (deposit : Deposit) × PutsAll pieces before now × Puts now piece deposit after

-- Whether a pool's start is known after these pieces of a batch were put in, whose jobs start from this store: exactly if the
-- pool was known to start from it. No piece changes nothing.
abbrev pub KnowsAfter : List PieceParts → Store → PoolParts → Bool → Type 0
KnowsAfter [] start pool known = known ≡ pool.knows_start
KnowsAfter (piece ∷ pieces) start pool known =
    IsTrue known ↔ (start_of pool.knows_start pool.book.jobs ≡ Some start)

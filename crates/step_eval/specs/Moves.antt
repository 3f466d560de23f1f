-- The effect of one step: it begins or ends one statement or one turn of a loop.
use Rattle.std.specs.Prelude.{ℕ, ◌+◌, ◌*◌, List, [], ◌∷◌, ◌++◌, pos, ◌+ℤ◌, int_lt, if◌then◌else◌}
use Rattle.array_tree.specs.Trees.{Statement, Assign, For, If, Par, Team, Sequence, ended, followed}
use Rattle.array_meaning.specs.Values.{holds}
use Rattle.array_meaning.specs.Stores.{Arrays, Vars, Store, Write, is_dynamic, cell_of, value_of}
use Rattle.array_meaning.specs.Work.{span, statement_work}
use Rattle.array_meaning.specs.Plans.{sites_in, statement_sites_in}
use Rattle.array_meaning.specs.Pieces.{piece_of}
use Rattle.array_jobs.specs.Works.{WorkTree, branch_of, member_of}
use Rattle.step_eval.specs.Rest.{WorkAt, at, before}

-- The works that remain of a statement once it has begun: a loop's turns, or one side of an `if`. The first side has the sites
-- of the second after it. An assignment leaves none, and others run the works of a construct.
abbrev pub begun : Arrays → Store → Statement → Vars → List WorkAt
begun arrays store (Assign line array index value) vars = []
begun arrays store (For line var low high body) vars = at (member_of var low high body) vars ∷ []
begun arrays store (If line cond then_block else_block) vars =
    (if holds (value_of arrays vars cond store)
    then before (branch_of then_block) vars (sites_in else_block)
    else at (branch_of else_block) vars) ∷ []
begun arrays store (Par line branches) vars = []
begun arrays store (Team line var low high members phases) vars = []

-- The works that remain after one step of a work with so many sites after it: the first statement or the first turn has begun,
-- and the rest keeps the sites after the work. A work without a statement is ended.
abbrev pub work_moved : Arrays → Store → WorkTree → Vars → ℕ → List WorkAt
work_moved arrays store (branch_of ended) vars n = []
work_moved arrays store (branch_of (followed first rest)) vars n =
    begun arrays store first vars ++ before (branch_of rest) vars n ∷ []
work_moved arrays store (member_of var low high body) vars n =
    if int_lt low high
    then (at (branch_of body) ((var, low) ∷ vars)
    ∷ before (member_of var (low +ℤ pos 1) high body) vars n ∷ [])
    else []

-- The works that replace a work after one step of it.
abbrev pub moved : Arrays → Store → WorkAt → List WorkAt
moved arrays store w = work_moved arrays store w.work w.vars w.after

-- The writes of a statement when it begins: an assignment writes its cell, and a construct, once its pieces are done, all their
-- writes, each cell with its last value.
abbrev pub begun_writes : Arrays → Store → Statement → Vars → List Write
begun_writes arrays store (Assign line array index value) vars = (
  cell_of arrays array (is_dynamic index) (value_of arrays vars index store),
  value_of arrays
      vars value store,
) ∷ []
begun_writes arrays store (For line var low high body) vars = []
begun_writes arrays store (If line cond then_block else_block) vars = []
begun_writes arrays store (Par line branches) vars =
    piece_of arrays (statement_work (Par line branches) vars) store
begun_writes arrays store (Team line var low high members phases) vars =
    piece_of arrays (statement_work (Team line var low high members phases) vars) store

-- The writes of one step of a work.
abbrev pub moved_writes : Arrays → Store → WorkTree → Vars → List Write
moved_writes arrays store (branch_of ended) vars = []
moved_writes arrays store (branch_of (followed first rest)) vars =
    begun_writes arrays store first vars
moved_writes arrays store (member_of var low high body) vars = []

-- The number of sites that the beginning of a statement passes: all of a construct, and those of the first side of an `if`
-- whose second side runs.
abbrev pub begun_sites : Arrays → Store → Statement → Vars → ℕ
begun_sites arrays store (Assign line array index value) vars = 0
begun_sites arrays store (For line var low high body) vars = 0
begun_sites arrays store (If line cond then_block else_block) vars =
    if holds (value_of arrays vars cond store) then 0 else sites_in then_block
begun_sites arrays store (Par line branches) vars = statement_sites_in (Par line branches)
begun_sites arrays store (Team line var low high members phases) vars =
    statement_sites_in (Team line var low high members phases)

-- The number of sites that one step of a work passes: those after the work if it ends.
abbrev pub work_passes : Arrays → Store → WorkTree → Vars → ℕ → ℕ
work_passes arrays store (branch_of ended) vars n = n
work_passes arrays store (branch_of (followed first rest)) vars n =
    begun_sites arrays store first vars
work_passes arrays store (member_of var low high body) vars n = if int_lt low high then 0 else n

-- The number of sites that a step of a work passes.
abbrev pub moved_sites : Arrays → Store → WorkAt → ℕ
moved_sites arrays store w = work_passes arrays store w.work w.vars w.after

-- An upper bound of the number of steps of statements: one to begin each, and one to end its remaining work.
abbrev mutual
  pub sequence_left : Sequence → ℕ
  sequence_left ended = 0
  sequence_left (followed first rest) = statement_left first + sequence_left rest

  pub statement_left : Statement → ℕ
  statement_left (Assign line array index value) = 1
  statement_left (For line var low high body) = 2 + span low high * (2 + sequence_left body)
  statement_left (If line cond then_block else_block) =
      3 + (sequence_left then_block + sequence_left else_block)
  statement_left (Par line branches) = 1
  statement_left (Team line var low high members phases) = 1

-- An upper bound of the number of steps of a work: each turn of a loop begins and ends, and the work itself ends.
abbrev pub work_left : WorkTree → ℕ
work_left (branch_of body) = 1 + sequence_left body
work_left (member_of var low high body) = 1 + span low high * (2 + sequence_left body)

-- An upper bound of the number of steps of all works.
abbrev pub rest_left : List WorkAt → ℕ
rest_left [] = 0
rest_left (w ∷ more) = work_left w.work + rest_left more

-- The remaining works of a machine's frames.
-- Only the private contracts and the proofs of this crate need these.
use Rattle.std.specs.Prelude.{◌≡◌, ℕ, suc, ◌+◌, List, [], ◌∷◌, ◌++◌, Bool, true, false, Option, Some, None, map, drop, reverse, length, ℤ}
use Rattle.std.specs.Borrow.{Bor}
use Rattle.array_tree.specs.declared.tree.Block.{Block}
use Rattle.array_tree.specs.declared.tree.Stmt.{Stmt}
use Rattle.array_tree.specs.Trees.{Statement, Sequence, sequence, statement_of, sequence_of}
use Rattle.array_meaning.specs.Stores.{Arrays, Vars}
use Rattle.array_eval.specs.Views.{stacked}
use Rattle.array_eval.specs.Traces.{Trace, noted_all, traced}
use Rattle.array_jobs.specs.Works.{WorkTree, branch_of, member_of, steps_of, sites_of}
use Rattle.step_eval.specs.declared.frames.Frame.{Frame}
use Rattle.step_eval.specs.declared.frames.Frame.TheVariants.{Statements, Turns}
use Rattle.step_eval.specs.declared.frames.Frames.{Frames}
use Rattle.step_eval.specs.declared.reported.Reported.{Reported}
use Rattle.step_eval.specs.declared.reported.Reported.TheVariants.{Nothing, Skips}
use Rattle.step_eval.specs.Rest.{WorkAt, at, before}
use Rattle.step_eval.specs.Moves.{moved, moved_writes, moved_sites}
use Rattle.step_eval.specs.Passes.{pass_of}
use Rattle.step_eval.specs.Machines.{construct_of, next_construct}

-- The statements of a block from one on.
abbrev pub statements_from : Block → ℕ → Sequence
statements_from block from = sequence (map statement_of (drop from block.statements.items))

-- The works of frames, the next one first, with all loop variables around. A loop's own variable is the innermost of those
-- around its turns.
abbrev pub works_in : List Frame → Vars → List WorkAt
works_in [] vars = []
works_in (Statements block from after ∷ below) vars =
    before (branch_of (statements_from block.now from)) vars after ∷ works_in below vars
works_in (Turns body next high ∷ below) [] = []
works_in (Turns body next high ∷ below) (v ∷ outer) =
    at (member_of v.0 next high (sequence_of body.now)) outer ∷ works_in below outer

-- The loop variables around the next work, given those around the whole.
abbrev pub vars_in : Frames → Vars → Vars
vars_in frames around = stacked frames.vars.items ++ around

-- The frame before the others, if there is one.
abbrev pub on_top : Option Frame → List Frame → List Frame
on_top None below = []
on_top (Some frame) below = frame ∷ below

-- The frames, the top one first.
abbrev pub frames_in : Frames → List Frame
frames_in frames = on_top frames.top (reverse frames.below.items)

-- The remaining works, given the loop variables around the whole.
abbrev pub works_of : Frames → Vars → List WorkAt
works_of frames around = works_in (frames_in frames) (vars_in frames around)

-- The remaining works with this frame on top.
abbrev pub works_with : Frame → Frames → Vars → List WorkAt
works_with top frames around = works_in (top ∷ reverse frames.below.items) (vars_in frames around)

-- At least one work remains.
abbrev pub IsMore : List WorkAt → Type 0
IsMore [] = ⊥
IsMore (w ∷ more) = Unit {0}

-- The number of loops that have begun.
abbrev pub loops_in : List Frame → ℕ
loops_in [] = 0
loops_in (Statements block from after ∷ below) = loops_in below
loops_in (Turns body next high ∷ below) = suc (loops_in below)

-- Each loop that has begun has its variable on the stack.
abbrev pub IsStacked : Frames → Type 0
IsStacked frames = length frames.vars.items ≡ loops_in (frames_in frames)

-- Each loop that has begun has its variable on the stack, with this frame on top.
abbrev pub IsStackedWith : Frame → Frames → Type 0
IsStackedWith top frames = length frames.vars.items ≡ loops_in (top ∷ reverse frames.below.items)

-- All of a work remains, for any variables around it.
abbrev pub AreAll : WorkTree → Frames → Type 0
AreAll work frames = (around : Vars) → works_of frames around ≡ at work around ∷ []

-- One more work has begun on top of this frame, with so many sites after it and the same variables around.
abbrev pub HasBegun : WorkTree → ℕ → Frame → Frames → Frames → Type 0
HasBegun work n rest start now =
    (around : Vars) → works_of now around ≡ before work (vars_in start around) n
    ∷ works_with rest start around

-- The top frame was removed.
abbrev pub IsEnded : Frames → Frames → Type 0
IsEnded before after = (frames_in after ≡ reverse before.below.items)
    × (after.vars.items ≡ before.vars.items)

-- The first of these works has moved, and the others are unchanged. The number of the next site has changed.
abbrev pub HaveMoved : Arrays → List WorkAt → Trace → ℕ → List WorkAt → Trace → ℕ → Type 0
HaveMoved arrays [] store next after store_after next_after = ⊥
HaveMoved arrays (w ∷ more) store next after store_after next_after =
    (after ≡ moved arrays store.cells w ++ more)
    × (store_after ≡ noted_all (moved_writes arrays store.cells w.work w.vars) store)
    × (next_after ≡ next + moved_sites arrays store.cells w)

-- The sites that a hart has to skip.
abbrev pub span_reported : Reported → Option (ℕ × ℕ)
span_reported Nothing = None
span_reported (Skips first end) = Some (first, end)

-- The works have moved, and these are the sites that the hart has to skip.
abbrev pub HaveReported : Arrays → Reported → List WorkAt → Trace → ℕ → List WorkAt → Trace → ℕ → Type 0
HaveReported arrays reported works store next after store_after next_after =
    (pass_of arrays store.cells next works ≡ span_reported reported)
    × HaveMoved arrays works store next after store_after next_after

-- If a step was taken, the first work has moved. If not, no work remains.
abbrev pub Went : Arrays → Option Reported → List WorkAt → Trace → ℕ → List WorkAt → Trace → ℕ
    → Type 0
Went arrays None works store next after store_after next_after =
    (works ≡ []) × (after ≡ works) × (store_after ≡ store) × (next_after ≡ next)
Went arrays (Some reported) works store next after store_after next_after =
    HaveReported arrays reported works store next after store_after next_after

-- The loop on top has moved. It has no site after it, so no number is passed.
abbrev pub HasTurned : Bor Block → ℤ → ℤ → Frames → Frames → Type 0
HasTurned body turn high before after =
    (arrays : Arrays) (around : Vars) (store : Trace) (next : ℕ) →
    HaveMoved arrays (works_with (Turns body turn high) before around) store next
    (works_of after around) store next

-- The first work has moved past its construct, for any writes of the construct.
abbrev pub IsPast : Arrays → Trace → List WorkAt → List WorkAt → Type 0
IsPast arrays store [] after = ⊥
IsPast arrays store (w ∷ more) after = after ≡ moved arrays store.cells w ++ more

-- The frame is the other one, moved past its construct.
abbrev pub IsBehind : Frame → Frame → Type 0
IsBehind (Statements block from sites) after = after ≡ Statements block (from + 1) sites
IsBehind (Turns body next high) after = ⊥

-- The next construct was passed.
abbrev pub HasPassed : Frames → Frames → Type 0
HasPassed before after = (arrays : Arrays) (around : Vars) (store : Trace)
    → IsPast arrays store (works_of before around) (works_of after around)

-- The tree of a construct, which contracts see.
abbrev pub seen : Option (Bor Stmt) → Option Statement
seen None = None
seen (Some construct) = Some (statement_of construct.now)

-- The next construct, or there is none.
abbrev pub IsConstruct : Option (Bor Stmt) → Frames → Type 0
IsConstruct construct frames =
    (around : Vars) → seen construct ≡ next_construct (works_of frames around)

-- The construct at this index of the block, or there is none.
abbrev pub IsConstructAt : Option (Bor Stmt) → Block → ℕ → Type 0
IsConstructAt construct block place =
    seen construct ≡ construct_of (branch_of (statements_from block place))

-- The first of these works ran completely.
abbrev pub HaveRun : Arrays → List WorkAt → Trace → List WorkAt → Trace → Type 0
HaveRun arrays [] store after store_after = ⊥
HaveRun arrays (w ∷ more) store after store_after =
    (after ≡ more) × (store_after ≡ traced arrays (steps_of w.work w.vars) store)

-- The first of these works comes to no site, and no site is after it.
abbrev pub HasNoSite : List WorkAt → Type 0
HasNoSite [] = ⊥
HasNoSite (w ∷ more) = sites_of w.work + w.after ≡ 0

-- If true, the first work, which comes to no site, ran completely. If false, nothing has changed.
abbrev pub Ran : Arrays → Bool → List WorkAt → Trace → List WorkAt → Trace → Type 0
Ran arrays false works store after store_after = (after ≡ works) × (store_after ≡ store)
Ran arrays true works store after store_after =
    HasNoSite works × HaveRun arrays works store after store_after

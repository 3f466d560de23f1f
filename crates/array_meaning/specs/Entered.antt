-- The sites that the meaning enters. Both sides of an `if` have their sites in the plan, and the meaning enters those of one
-- side.
use Rattle.std.specs.Prelude.{◌≡◌, ℕ, zero, suc, ◌+◌, Bool, true, false, if◌then◌else◌, List, [], ◌∷◌, ◌++◌, length, replicate, ℤ, pos, ◌+ℤ◌}
use Rattle.array_tree.specs.Trees.{Statement, Assign, For, If, Par, Team, Sequence, ended, followed, Sequences, no_more, beside, ProgramTree}
use Rattle.array_meaning.specs.Values.{holds}
use Rattle.array_meaning.specs.Stores.{Arrays, Vars, Store, arrays_of, value_of, at_cell}
use Rattle.array_meaning.specs.Steps.{Steps, exec}
use Rattle.array_meaning.specs.Work.{span, loop, statement_work, sequence_work, branches_work, phases_work, first_store}
use Rattle.array_meaning.specs.Plans.{sites_in}
use Rattle.array_meaning.specs.Touch.{reads_of}
use Rattle.array_meaning.specs.Members.{start_of}

-- An entering returns, for each site of a part, in the order of the plan, whether the meaning enters the site from a store.
abbrev pub Entering : Type 0
Entering = Store → List Bool

-- A part of a program has its steps, and which of its sites they enter.
abbrev pub Part : Type 0
Part = Steps × Entering

-- One part enters its sites, and then the next its own from the store that the first one leaves.
abbrev pub entered_then : Arrays → Part → Entering → Entering
entered_then arrays first rest store = first.1 store ++ rest (exec arrays first.0 store)

-- The sites that so many turns enter, one after another.
abbrev pub turns_entered : Arrays → (ℤ → Part) → ℤ → ℕ → Entering
turns_entered arrays turn low zero store = []
turns_entered arrays turn low (suc n) store =
    entered_then arrays (turn low) (turns_entered arrays turn (low +ℤ pos 1) n) store

-- The sites that the turns of a loop enter, each with the value of the variable.
abbrev pub loop_entered : Arrays → List ℕ → ℤ → ℤ → (Vars → Part) → Vars → Entering
loop_entered arrays var low high body vars store =
    turns_entered arrays (λ x. body ((var, x) ∷ vars)) low (span low high) store

-- A loop is a part: its work and the sites that its turns enter.
abbrev pub loop_part : Arrays → List ℕ → ℤ → ℤ → (Vars → Part) → Vars → Part
loop_part arrays var low high body vars =
    (loop var low high (λ there. (body there).0) vars, loop_entered arrays var low high body vars)

-- The sites that a statement enters. The sites of an `if`'s side are entered only if that side runs.
abbrev mutual
  pub statement_entered : Arrays → Statement → Vars → Entering
  statement_entered arrays (Assign line array index value) vars store = []
  statement_entered arrays (For line var low high body) vars store =
      loop_entered arrays var low high
      (λ there. (sequence_work body there, sequence_entered arrays body there)) vars store
  statement_entered arrays (If line cond then_block else_block) vars store =
      if holds (value_of arrays vars cond store)
      then sequence_entered arrays then_block vars store ++ replicate (sites_in else_block) false
      else replicate (sites_in then_block) false ++ sequence_entered arrays else_block vars store
  statement_entered arrays (Par line branches) vars store =
      true ∷ branches_entered arrays branches vars store
  statement_entered arrays (Team line var low high members phases) vars store =
      true ∷ phases_entered arrays phases var low high vars store

  pub sequence_entered : Arrays → Sequence → Vars → Entering
  sequence_entered arrays ended vars store = []
  sequence_entered arrays (followed first rest) vars store =
      entered_then arrays (statement_work first vars, statement_entered arrays first vars)
      (sequence_entered arrays rest vars) store

  -- Branches run from left to right.
  pub branches_entered : Arrays → Sequences → Vars → Entering
  branches_entered arrays no_more vars store = []
  branches_entered arrays (beside first rest) vars store =
      entered_then arrays (sequence_work first vars, sequence_entered arrays first vars)
      (branches_entered arrays rest vars) store

  -- Phases run one after another, each a loop.
  pub phases_entered : Arrays → Sequences → List ℕ → ℤ → ℤ → Vars → Entering
  phases_entered arrays no_more var low high vars store = []
  phases_entered arrays (beside first rest) var low high vars store =
      entered_then arrays (loop_part arrays var low high
      (λ there. (sequence_work first there, sequence_entered arrays first there)) vars)
      (phases_entered arrays rest var low high vars) store

-- A statement is a part: its work and the sites that it enters.
abbrev pub statement_part : Arrays → Statement → Vars → Part
statement_part arrays s vars = (statement_work s vars, statement_entered arrays s vars)

-- The part of a sequence is its work and the sites that it enters.
abbrev pub sequence_part : Arrays → Sequence → Vars → Part
sequence_part arrays s vars = (sequence_work s vars, sequence_entered arrays s vars)

-- The part of branches is their work, one after another, and the sites that they enter.
abbrev pub branches_part : Arrays → Sequences → Vars → Part
branches_part arrays bs vars = (branches_work bs vars, branches_entered arrays bs vars)

-- The part of phases is their work, phase after phase, and the sites that they enter.
abbrev pub phases_part : Arrays → Sequences → List ℕ → ℤ → ℤ → Vars → Part
phases_part arrays bs var low high vars =
    (phases_work bs var low high vars, phases_entered arrays bs var low high vars)

-- For each site of a program whether the meaning enters it: for site s at index s - 1.
abbrev pub entered_of : ProgramTree → List Bool
entered_of program =
    let arrays = arrays_of program.arrays in
    sequence_entered arrays program.body [] (first_store arrays)

-- An entering depends on no cells of a store but those that steps read.
abbrev pub DependsOnReads : Arrays → Steps → Entering → Type 0
DependsOnReads arrays steps entering = (a b : Store) → length a ≡ length b
    → ((cell : ℕ) → reads_of arrays steps cell → at_cell a cell ≡ at_cell b cell)
    → entering a ≡ entering b

-- The sites that the branches enter, each from the same store.
abbrev pub branches_alone : Arrays → Sequences → Vars → Entering
branches_alone arrays no_more vars store = []
branches_alone arrays (beside first rest) vars store =
    sequence_entered arrays first vars store ++ branches_alone arrays rest vars store

-- The sites that so many of the m members enter in a phase, from member j on: each from the same store, over its own
-- iterations.
abbrev pub members_alone : Arrays → List ℕ → ℤ → ℤ → ℕ → Sequence → ℕ → ℕ → Vars → Entering
members_alone arrays var low high m body j zero vars store = []
members_alone arrays var low high m body j (suc k) vars store =
    loop_entered arrays var (start_of low high m j) (start_of low high m (j + 1))
    (sequence_part arrays body) vars store
    ++ members_alone arrays var low high m body (j + 1) k vars store

-- The sites that all members enter in a phase.
abbrev pub team_alone : Arrays → List ℕ → ℤ → ℤ → ℕ → Sequence → Vars → Entering
team_alone arrays var low high m body vars store =
    members_alone arrays var low high m body 0 m vars store

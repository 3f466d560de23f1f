-- Works that are pushed and popped.
use Rattle.std.proofs.Common.{◌≡◌, ℕ, zero, suc, ◌+◌, List, [], ◌∷◌, ◌++◌, map, drop, length, reverse, ℤ, Result, Ok, Err, None, refl, sym, ap, ◌∙◌, arith}
use Rattle.std.specs.Prelude.{IfErr}
use Rattle.std.proofs.lemmas.Bool.{false≢true}
use Rattle.std.proofs.lemmas.List.{length-reverse, length-map, length-append}
use Rattle.array_eval.specs.Views.{loop_var, stacked}
use Rattle.array_eval.specs.Traces.{Trace}
use Rattle.step_eval.specs.declared.frames.Frames.{Frames}
use Rattle.std.specs.Borrow.{Bor}
use Rattle.array_tree.specs.declared.tree.Block.{Block}
use Rattle.step_eval.specs.declared.frames.Frame.{Frame}
use Rattle.step_eval.specs.declared.frames.Frame.TheVariants.{Statements, Turns}
use Rattle.std.specs.Prelude.{IsSome}
use Rattle.array_tree.specs.declared.tree.Stmt.{Stmt}
use Rattle.array_tree.specs.Trees.{Statement, Assign, For, If, Par, Team, Sequence, followed, sequence, statement_of}
use Rattle.array_meaning.specs.Stores.{Arrays, Vars, Store}
use Rattle.array_jobs.specs.Works.{branch_of}
use Rattle.step_eval.specs.Rest.{before}
use Rattle.step_eval.specs.Moves.{work_moved}
use Rattle.step_eval.specs.Machines.{construct_of, next_construct}
use Rattle.step_eval.specs.declared.reported.Reported.TheVariants.{Nothing}
use Rattle.step_eval.specs.Passes.{pass_of}
use Rattle.step_eval.specs.Inside.Frames.{IsMore, IsStackedWith, statements_from, works_in, works_of, works_with, HaveReported, HasTurned, IsPast, IsBehind, vars_in}

-- A construct leaves the statements after it.
past_first : (arrays : Arrays) (store : Store) (first : Statement) (rest : Sequence) (vars : Vars) (n : ℕ) → IsSome (construct_of (branch_of (followed first rest))) →
    work_moved arrays store (branch_of (followed first rest)) vars n ≡ before (branch_of rest) vars n ∷ []
past_first arrays store (Assign line array index value) rest vars n h = absurd (false≢true h)
past_first arrays store (For line var low high body) rest vars n h = absurd (false≢true h)
past_first arrays store (If line cond then_block else_block) rest vars n h = absurd (false≢true h)
past_first arrays store (Par line branches) rest vars n h = refl
past_first arrays store (Team line var low high members phases) rest vars n h = refl

drop_next : {A : Type 0} (xs ys : List A) (n : ℕ) (y : A) → drop n xs ≡ y ∷ ys → drop (n + 1) xs ≡ ys
drop_next [] ys zero y e = cc
drop_next [] ys (suc n) y e = cc
drop_next (x ∷ xs) ys zero y e = cc
drop_next (x ∷ xs) ys (suc n) y e = let one : suc n + 1 ≡ suc (n + 1) = omega arith in rw one (drop_next xs ys n y e)

pub passed : (arrays : Arrays) (store : Store) (block : Block) (from : ℕ) (vars : Vars) (n : ℕ) → IsSome (construct_of (branch_of (statements_from block from))) →
    work_moved arrays store (branch_of (statements_from block from)) vars n ≡ before (branch_of (statements_from block (from + 1))) vars n ∷ []
passed arrays store block from vars n h = cases (drop from block.statements.items) refl h
  where
    cases : (ss : List Stmt) → drop from block.statements.items ≡ ss → IsSome (construct_of (branch_of (sequence (map statement_of ss)))) →
        work_moved arrays store (branch_of (sequence (map statement_of ss))) vars n ≡ before (branch_of (statements_from block (from + 1))) vars n ∷ []
    cases [] e h = absurd (false≢true h)
    cases (s ∷ ss) e h =
        past_first arrays store (statement_of s) (sequence (map statement_of ss)) vars n h
        ∙ ap (λ q. before (branch_of (sequence (map statement_of q))) vars n ∷ []) (sym (drop_next block.statements.items ss from s e))

-- A loop that has begun has a variable, so its turns are left to run.
pub more_turns : (frames : Frames) (body : Bor Block) (next high : ℤ) (around : Vars) → IsStackedWith (Turns body next high) frames →
    IsMore (works_with (Turns body next high) frames around)
more_turns frames body next high around stacked_ones = cases (vars_in frames around) refl
  where
    cases : (vars : Vars) → vars_in frames around ≡ vars → IsMore (works_in (Turns body next high ∷ reverse frames.below.items) vars)
    cases [] e =
        let all : length (stacked frames.vars.items) ≡ length frames.vars.items
        = length-reverse (map loop_var frames.vars.items) ∙ length-map frames.vars.items loop_var in
        let none : length (stacked frames.vars.items) + length around ≡ 0 = sym (length-append (stacked frames.vars.items) around) ∙ ap length e in
        absurd (omega (arith, stacked_ones, all, none))
    cases (v ∷ vars) e = tt

pub more_on_top : (frames : Frames) (top : Frame) (around : Vars) → IsStackedWith top frames → IsMore (works_with top frames around)
more_on_top frames (Statements block from after) around stacked_ones = tt
more_on_top frames (Turns body next high) around stacked_ones = more_turns frames body next high around stacked_ones

-- The frame after a construct is what the construct leaves.
pub passed_on_top : (arrays : Arrays) (store : Trace) (top behind : Frame) (below : List Frame) (vars outer : Vars) →
    IsSome (next_construct (works_in (top ∷ below) outer)) → IsBehind top behind → IsPast arrays store (works_in (top ∷ below) vars) (works_in (behind ∷ below) vars)
passed_on_top arrays store (Statements block from after) behind below vars outer some is =
    rw is (sym (ap (λ ws. ws ++ works_in below vars) (passed arrays store.cells block.now from vars after some)))
passed_on_top arrays store (Turns body next high) behind below vars outer some is = absurd is

-- A turn of a loop passes no span of sites.
turn_reports_nothing : (arrays : Arrays) (store : Store) (next : ℕ) (body : Bor Block) (turn high : ℤ) (below : List Frame) (vars : Vars) →
    pass_of arrays store next (works_in (Turns body turn high ∷ below) vars) ≡ None
turn_reports_nothing arrays store next body turn high below [] = refl
turn_reports_nothing arrays store next body turn high below (v ∷ vars) = refl

pub turned_reported : (arrays : Arrays) (store : Trace) (next : ℕ) (start now : Frames) (body : Bor Block) (turn high : ℤ) (around : Vars) →
    HasTurned body turn high start now → HaveReported arrays Nothing (works_with (Turns body turn high) start around) store next (works_of now around) store next
turned_reported arrays store next start now body turn high around turned =
    (turn_reports_nothing arrays store.cells next body turn high (reverse start.below.items) (vars_in start around), turned arrays around store next)

-- A property that holds in any case holds if the result is an error.
pub always_err : {A B P : Type 0} (result : Result A B) → P → IfErr result (λ x. P)
always_err (Ok x) holds = tt
always_err (Err e) holds = holds

-- Turns of loops, and how many shapes a program has.
use Rattle.std.proofs.Common.{◌≡◌, ◌∙◌, ℕ, zero, suc, ◌+◌, ◌*◌, ◌-◌, ◌<◌, List, [], ◌++◌, length, length-append, append-nil, refl, sym, ap, arith}
use Rattle.array_tree.specs.Trees.{Statement, Assign, For, If, Par, Team, Sequence, ended, followed, Sequences, no_more, beside, ProgramTree}
use Rattle.array_meaning.specs.Work.{span}
use Rattle.array_meaning.specs.Plans.{sites_in, statement_sites_in, branches_sites_in, plan_of}
use Rattle.array_meaning.proofs.PlanLemmas.{sequence_length}
use Rattle.journal_picture.specs.declared.shape.Kind.{Kind}
use Rattle.journal_picture.specs.declared.shape.Shape.{Shape}
use Rattle.picture_call.specs.Shapes.{turns_of, statement_shapes, sequence_shapes, branches_shapes, phases_shapes, shapes_of}

pub turns_none : (n : ℕ) → turns_of n [] ≡ []
turns_none zero = refl
turns_none (suc n) = turns_none n

-- Nothing, so many times, adds nothing.
pub none_added : (n : ℕ) (old once : List Shape) → once ≡ [] → old ≡ old ++ turns_of n once
none_added n old once e = sym (ap (λ xs. old ++ turns_of n xs) e ∙ ap (λ xs. old ++ xs) (turns_none n) ∙ append-nil old)

pub turns_more : (n i : ℕ) (body : List Shape) → i < n → turns_of (n - i) body ≡ body ++ turns_of (n - (i + 1)) body
turns_more n i body lt = ap (λ k. turns_of k body) (let e : n - i ≡ suc (n - (i + 1)) = omega arith in e)

turns_length : (n k : ℕ) (body : List Shape) → length body ≡ k → length (turns_of n body) ≡ n * k
turns_length zero k body is = omega arith
turns_length (suc n) k body is = length-append body (turns_of n body) ∙ grind (arith, is, turns_length n k body is)

mutual
  statement_count : (teams : Kind) (s : Statement) → length (statement_shapes teams s) ≡ statement_sites_in s
  statement_count teams (Assign line array index value) = refl
  statement_count teams (For line var low high body) = turns_length (span low high) (sites_in body) (sequence_shapes teams body) (sequence_count teams body)
  statement_count teams (If line cond t e) = length-append (sequence_shapes teams t) (sequence_shapes teams e) ∙ omega (arith, sequence_count teams t, sequence_count teams e)
  statement_count teams (Par line branches) = omega (arith, branches_count teams branches)
  statement_count teams (Team line var low high members phases) = omega (arith, phases_count teams phases (span low high))

  sequence_count : (teams : Kind) (s : Sequence) → length (sequence_shapes teams s) ≡ sites_in s
  sequence_count teams ended = refl
  sequence_count teams (followed first rest) = length-append (statement_shapes teams first) (sequence_shapes teams rest) ∙ omega (arith, statement_count teams first, sequence_count teams rest)

  branches_count : (teams : Kind) (s : Sequences) → length (branches_shapes teams s) ≡ branches_sites_in s
  branches_count teams no_more = refl
  branches_count teams (beside first rest) = length-append (sequence_shapes teams first) (branches_shapes teams rest) ∙ omega (arith, sequence_count teams first, branches_count teams rest)

  phases_count : (teams : Kind) (s : Sequences) (n : ℕ) → length (phases_shapes teams s n) ≡ n * branches_sites_in s
  phases_count teams no_more n = omega arith
  phases_count teams (beside first rest) n =
      length-append (turns_of n (sequence_shapes teams first)) (phases_shapes teams rest n)
      ∙ grind (arith, turns_length n (sites_in first) (sequence_shapes teams first) (sequence_count teams first), phases_count teams rest n)

-- A program has a shape for each site of its plan.
pub shape_count : (teams : Kind) (program : ProgramTree) → length (shapes_of teams program) ≡ length (plan_of program)
shape_count teams program = sequence_count teams program.body ∙ sym (sequence_length program.body 0 1)

-- Small programs, and the values of the definitions for them.
use Rattle.std.proofs.Common.{◌≡◌, ℕ, List, [], ◌∷◌, ℤ, pos, true, false, Some, refl}
use Rattle.std.specs.Prelude.{IsTrue}
use Rattle.std.specs.Int.{int_wrap}
use Rattle.array_tree.specs.declared.tree.Op.TheVariants.{Add, Mul}
use Rattle.array_tree.specs.Trees.{Number, Var, Read, Binary, Statement, Assign, For, If, Par, Team, Sequence, ended, followed, Sequences, no_more, beside, Declaration, ProgramTree}
use Rattle.array_meaning.specs.Work.{final_store}
use Rattle.array_meaning.specs.Entered.{entered_of}
use Rattle.array_meaning.specs.Plans.{plan_of}
use Rattle.array_meaning.specs.Sites.{branch_works}
use Rattle.array_meaning.specs.Overlap.{overlap}
use Rattle.array_meaning.specs.Names.{has_single_names, has_only_known_names}
use Rattle.array_meaning.specs.Limits.{is_in_range, units_of}
use Rattle.array_meaning.specs.Accepted.{has_indices_inside}

abbrev a : List ℕ
a = 97 ∷ []

abbrev i : List ℕ
i = 105 ∷ []

abbrev k : List ℕ
k = 107 ∷ []

abbrev declared : List ℕ → ℤ → Declaration
declared name length = record { line = 1; name = name; length = length }

-- Cell x of array a becomes y.
abbrev assign : ℤ → ℤ → Statement
assign x y = Assign 1 a (Number x) (Number y)

abbrev alone : Statement → Sequence
alone s = followed s ended

-- array a[4]; par { { a[0] = 1; } { a[1] = 2; } }
abbrev two_branches : ProgramTree
two_branches = record {
  arrays = declared a (pos 4) ∷ [];
  body = alone (Par 1 (beside (alone (assign (pos 0) (pos 1))) (beside (alone (assign (pos 1) (pos 2))) no_more)));
}

two_branches-store : final_store two_branches ≡ pos 1 ∷ pos 2 ∷ pos 0 ∷ pos 0 ∷ []
two_branches-store = refl

two_branches-plan : plan_of two_branches ≡ 0 ∷ []
two_branches-plan = refl

two_branches-names : IsTrue (has_single_names two_branches) × IsTrue (has_only_known_names two_branches)
two_branches-names = (refl, refl)

two_branches-ranges : IsTrue (is_in_range two_branches) × IsTrue (has_indices_inside two_branches)
two_branches-ranges = (refl, refl)

-- array a[4]; par { { team i in 0..2 by 2 { a[i] = i + 5; } } { a[3] = 9; } }
abbrev team_in_par : ProgramTree
team_in_par = record {
  arrays = declared a (pos 4) ∷ [];
  body = alone (Par 1 (beside
      (alone (Team 1 i (pos 0) (pos 2) (pos 2) (beside (alone (Assign 1 a (Var i) (Binary Add (Var i) (Number (pos 5))))) no_more)))
      (beside (alone (assign (pos 3) (pos 9))) no_more)));
}

team_in_par-plan : plan_of team_in_par ≡ 0 ∷ 1 ∷ []
team_in_par-plan = refl

team_in_par-store : final_store team_in_par ≡ pos 5 ∷ pos 6 ∷ pos 0 ∷ pos 9 ∷ []
unfolding int_wrap
team_in_par-store = refl

-- array a[3]; for k in 0..3 { par { { a[k] = k * k; } } }
abbrev par_in_loop : ProgramTree
par_in_loop = record {
  arrays = declared a (pos 3) ∷ [];
  body = alone (For 1 k (pos 0) (pos 3) (alone (Par 1 (beside (alone (Assign 1 a (Var k) (Binary Mul (Var k) (Var k)))) no_more))));
}

par_in_loop-plan : plan_of par_in_loop ≡ 0 ∷ 0 ∷ 0 ∷ []
par_in_loop-plan = refl

par_in_loop-store : final_store par_in_loop ≡ pos 0 ∷ pos 1 ∷ pos 4 ∷ []
unfolding int_wrap
par_in_loop-store = refl

-- array a[2]; par { { a[0] = 1; } { a[0] = 2; } }
abbrev overlapping : Sequences
overlapping = beside (alone (assign (pos 0) (pos 1))) (beside (alone (assign (pos 0) (pos 2))) no_more)

overlapping-cell : overlap ((a, 2) ∷ []) 2 (branch_works overlapping []) ≡ Some 0
overlapping-cell = refl

-- array a[4]; if 0 { a[4] = 1; }
abbrev outside : ProgramTree
outside = record { arrays = declared a (pos 4) ∷ []; body = alone (If 1 (Number (pos 0)) (alone (assign (pos 4) (pos 1))) ended) }

outside-index : has_indices_inside outside ≡ false
outside-index = refl

-- for k in 0..1048575 { }
long_loop-units : units_of (alone (For 1 k (pos 0) (pos 1048575) ended)) ≡ 1048576
long_loop-units = refl

-- array a[2]; if a[0] { par { { par { { } } } } } else { par { { a[1] = 4; } } }
abbrev under_if : ProgramTree
under_if = record {
  arrays = declared a (pos 2) ∷ [];
  body = alone (If 1 (Read a (Number (pos 0))) (alone (Par 1 (beside (alone (Par 1 (beside ended no_more))) no_more))) (alone (Par 1 (beside (alone (assign (pos 1) (pos 4))) no_more))));
}

under_if-plan : plan_of under_if ≡ 0 ∷ 1 ∷ 0 ∷ []
under_if-plan = refl

under_if-entered : entered_of under_if ≡ false ∷ false ∷ true ∷ []
under_if-entered = refl

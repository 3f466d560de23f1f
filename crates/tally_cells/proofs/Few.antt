-- In a program in range each construct has at most 64 rows.
use Rattle.std.proofs.Common.{◌≡◌, ℕ, ◌≤◌, Bool, true, false, cond, List, [], ◌∷◌, ◌++◌, pos, arith}
use Rattle.std.specs.Prelude.{◌&&◌, max, int_le, unsigned_abs}
use Rattle.std.proofs.Math.Nat.{max-le}
use Rattle.std.proofs.lemmas.Bool.{and_parts}
use Rattle.array_tree.specs.Trees.{Statement, Assign, For, If, Par, Team, Sequence, ended, followed}
use Rattle.array_meaning.specs.Limits.{is_up_to, count_of, has_right_ranges, statement_has_right_ranges, have_right_ranges}
use Rattle.spread_laws.specs.Adds.{statement_has_add}
use Rattle.spread_laws.specs.Rows.{rows_with, statement_rows_with, greatest}
use Rattle.spread_laws.proofs.Teams.{at_least_one}

greatest_both : (xs ys : List ℕ) → greatest xs ≤ 64 → greatest ys ≤ 64 → greatest (xs ++ ys) ≤ 64
greatest_both [] ys p q = q
greatest_both (x ∷ xs) ys p q =
    let rest : greatest (xs ++ ys) ≤ 64 = greatest_both xs ys (omega (arith, p)) q in
    let first : x ≤ 64 = omega (arith, p) in
    max-le first rest

one_number : (test : Bool) (n : ℕ) → n ≤ 64 → greatest (cond test (n ∷ []) []) ≤ 64
one_number true n few = max-le few (let one : 1 ≤ 64 = omega arith in one)
one_number false n few = omega arith

mutual
  statement_few : (x : List ℕ) (s : Statement) → statement_has_right_ranges s ≡ true → greatest (statement_rows_with x s) ≤ 64
  statement_few x (Assign line array index value) h = omega arith
  statement_few x (For line var low high body) h = rows_few x body (and_parts (int_le low high) (has_right_ranges body) h).1
  statement_few x (If line test a b) h =
      let p = and_parts (has_right_ranges a) (has_right_ranges b) h in
      greatest_both (rows_with x a) (rows_with x b) (rows_few x a p.0) (rows_few x b p.1)
  statement_few x (Par line branches) h =
      let p = and_parts (is_up_to (pos 64) (pos (count_of branches))) (have_right_ranges branches) h in
      one_number (statement_has_add x (Par line branches)) (count_of branches) (at_least_one 64 (pos (count_of branches)) p.0).2
  statement_few x (Team line var low high members phases) h =
      let p = and_parts (int_le low high && is_up_to (pos 64) members) (is_up_to (pos 8) (pos (count_of phases)) && have_right_ranges phases) h in
      let q = and_parts (int_le low high) (is_up_to (pos 64) members) p.0 in
      one_number (statement_has_add x (Team line var low high members phases)) (unsigned_abs members) (at_least_one 64 members q.1).2

  pub rows_few : (x : List ℕ) (s : Sequence) → has_right_ranges s ≡ true → greatest (rows_with x s) ≤ 64
  rows_few x ended h = omega arith
  rows_few x (followed first rest) h =
      let p = and_parts (statement_has_right_ranges first) (has_right_ranges rest) h in
      greatest_both (statement_rows_with x first) (rows_with x rest) (statement_few x first p.0) (rows_few x rest p.1)

pub par_few : (line : ℕ) (branches : _) → statement_has_right_ranges (Par line branches) ≡ true → count_of branches ≤ 64
par_few line branches h = (at_least_one 64 (pos (count_of branches)) (and_parts (is_up_to (pos 64) (pos (count_of branches))) (have_right_ranges branches) h).0).2

pub team_few : (line : ℕ) (var : List ℕ) (low high members : _) (phases : _) → statement_has_right_ranges (Team line var low high members phases) ≡ true → unsigned_abs members ≤ 64
team_few line var low high members phases h =
    let p = and_parts (int_le low high && is_up_to (pos 64) members) (is_up_to (pos 8) (pos (count_of phases)) && have_right_ranges phases) h in
    (at_least_one 64 members (and_parts (int_le low high) (is_up_to (pos 64) members) p.0).1).2

pub greatest_some : (ns : List ℕ) → max 1 (greatest ns) ≡ greatest ns
greatest_some [] = omega arith
greatest_some (n ∷ ns) = let rest = greatest_some ns in omega (arith, rest)

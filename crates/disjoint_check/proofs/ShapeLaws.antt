-- The shapes that unrolling gives are those of the program's sites.
use Rattle.std.proofs.Common.{◌≡◌, ℕ, ℤ, pos, negsuc, zero, suc, ◌≤◌, true, ◌&&◌, List, [], ◌∷◌, ◌++◌, arith, ap, sym, ◌∙◌, append_assoc, int_le, unsigned_abs}
use Rattle.std.proofs.lemmas.List.{append-nil, map-append}
use Rattle.std.proofs.lemmas.Bool.{and_parts}
use Rattle.std.proofs.lemmas.Bool.Decides.{nat_tests}
use Rattle.std.proofs.lemmas.Int.{ints}
use Rattle.array_tree.specs.Trees.{Statement, Assign, For, If, Par, Team, Sequence, ended, followed, Sequences, no_more, beside, ProgramTree}
use Rattle.array_meaning.specs.Work.{span}
use Rattle.array_meaning.specs.Limits.{is_up_to, count_of, has_right_ranges, statement_has_right_ranges, have_right_ranges, is_in_range}
use Rattle.disjoint_check.specs.declared.unroll.Site.{Site}
use Rattle.disjoint_check.specs.Shapes.{Shape, turns_of_shapes, statement_shapes, sequence_shapes, branches_shapes, phases_shapes, shapes_of}
use Rattle.disjoint_check.specs.Inside.Unrolled.{Rows, shape, shapes_in, last_site, parts, row, repeat, with_statement, with_sequence, with_branches, with_phases}

-- Unrolling adds sites of these shapes.
abbrev Shows : (Rows → Rows) → List Shape → Type 0
Shows f shapes = (rows : Rows) → shapes_in (f rows) ≡ shapes_in rows ++ shapes

in_turn : (f g : Rows → Rows) (b c : List Shape) → Shows f b → Shows g c → Shows (λ rows. g (f rows)) (b ++ c)
in_turn f g b c h k rows = k (f rows) ∙ ap (λ xs. xs ++ c) (h rows) ∙ append_assoc (shapes_in rows) b c

many : (n : ℕ) (f : Rows → Rows) (b : List Shape) → Shows f b → Shows (λ rows. repeat n f rows) (turns_of_shapes n b)
many zero f b h rows = sym (append-nil (shapes_in rows))
many (suc n) f b h rows = in_turn f (λ r. repeat n f r) b (turns_of_shapes n b) h (many n f b h) rows

opened : (x : Site) (inside : ℕ → Rows → Rows) (b : List Shape) → ((a : ℕ) → Shows (λ rows. inside a rows) b) →
    Shows (λ rows. inside (last_site (rows ++ x ∷ [])) (rows ++ x ∷ [])) (shape x ∷ b)
opened x inside b h rows =
    h (last_site (rows ++ x ∷ [])) (rows ++ x ∷ [])
    ∙ ap (λ xs. xs ++ b) (map-append shape rows (x ∷ []))
    ∙ append_assoc (shapes_in rows) (shape x ∷ []) b

up_to_most : (most : ℕ) (z : ℤ) → is_up_to (pos most) z ≡ true → unsigned_abs z ≤ most
up_to_most most (pos k) h = grind (arith, ints, nat_tests)
up_to_most most (negsuc k) h = cc

parts_small : (n : ℕ) → n ≤ 64 → parts n ≡ n
parts_small n h = omega (arith, h)

parts_few : (n : ℕ) → n ≤ 8 → parts n ≡ n
parts_few n h = omega (arith, h)

mutual
  sequence_shows : (p : Sequence) (around : ℕ) → has_right_ranges p ≡ true → Shows (λ rows. with_sequence p around rows) (sequence_shapes p)
  sequence_shows ended around h rows = sym (append-nil (shapes_in rows))
  sequence_shows (followed s p) around h rows =
      let parts = and_parts (statement_has_right_ranges s) (has_right_ranges p) h in
      in_turn (λ r. with_statement s around r) (λ r. with_sequence p around r) (statement_shapes s) (sequence_shapes p)
      (statement_shows s around parts.0) (sequence_shows p around parts.1) rows

  statement_shows : (s : Statement) (around : ℕ) → statement_has_right_ranges s ≡ true → Shows (λ rows. with_statement s around rows) (statement_shapes s)
  statement_shows (Assign line array index value) around h rows = sym (append-nil (shapes_in rows))
  statement_shows (For line var low high body) around h rows =
      let both = and_parts (int_le low high) (has_right_ranges body) h in
      many (span low high) (λ r. with_sequence body around r) (sequence_shapes body) (sequence_shows body around both.1) rows
  statement_shows (If line cond t e) around h rows =
      let both = and_parts (has_right_ranges t) (has_right_ranges e) h in
      in_turn (λ r. with_sequence t around r) (λ r. with_sequence e around r) (sequence_shapes t) (sequence_shapes e)
      (sequence_shows t around both.0) (sequence_shows e around both.1) rows
  statement_shows (Par line branches) around h rows =
      let both = and_parts (is_up_to (pos 64) (pos (count_of branches))) (have_right_ranges branches) h in
      opened (row around (parts (count_of branches)) 0) (with_branches branches) (branches_shapes branches)
      (λ a. branches_show branches a both.1) rows
      ∙ ap (λ n. shapes_in rows ++ (n, 0) ∷ branches_shapes branches) (parts_small (count_of branches) (up_to_most 64 (pos (count_of branches)) both.0))
  statement_shows (Team line var low high members phases) around h rows =
      let both = and_parts (int_le low high && is_up_to (pos 64) members) (is_up_to (pos 8) (pos (count_of phases)) && have_right_ranges phases) h in
      let left = and_parts (int_le low high) (is_up_to (pos 64) members) both.0 in
      let right = and_parts (is_up_to (pos 8) (pos (count_of phases))) (have_right_ranges phases) both.1 in
      opened (row around (parts (unsigned_abs members)) (parts (count_of phases))) (with_phases phases (span low high))
      (phases_shapes phases (span low high)) (λ a. phases_show phases (span low high) a right.1) rows
      ∙ ap (λ n. shapes_in rows ++ (n, parts (count_of phases)) ∷ phases_shapes phases (span low high))
      (parts_small (unsigned_abs members) (up_to_most 64 members left.1))
      ∙ ap (λ n. shapes_in rows ++ (unsigned_abs members, n) ∷ phases_shapes phases (span low high))
      (parts_few (count_of phases) (up_to_most 8 (pos (count_of phases)) right.0))

  branches_show : (bs : Sequences) (around : ℕ) → have_right_ranges bs ≡ true → Shows (λ rows. with_branches bs around rows) (branches_shapes bs)
  branches_show no_more around h rows = sym (append-nil (shapes_in rows))
  branches_show (beside p bs) around h rows =
      let both = and_parts (has_right_ranges p) (have_right_ranges bs) h in
      in_turn (λ r. with_sequence p around r) (λ r. with_branches bs around r) (sequence_shapes p) (branches_shapes bs)
      (sequence_shows p around both.0) (branches_show bs around both.1) rows

  phases_show : (bs : Sequences) (n around : ℕ) → have_right_ranges bs ≡ true → Shows (λ rows. with_phases bs n around rows) (phases_shapes bs n)
  phases_show no_more n around h rows = sym (append-nil (shapes_in rows))
  phases_show (beside p bs) n around h rows =
      let both = and_parts (has_right_ranges p) (have_right_ranges bs) h in
      in_turn (λ r. repeat n (with_sequence p around) r) (λ r. with_phases bs n around r) (turns_of_shapes n (sequence_shapes p)) (phases_shapes bs n)
      (many n (λ r. with_sequence p around r) (sequence_shapes p) (sequence_shows p around both.0)) (phases_show bs n around both.1) rows

-- The shapes of a program with right ranges.
pub shapes_are : (program : ProgramTree) → is_in_range program ≡ true → shapes_in (with_sequence program.body 0 []) ≡ shapes_of program
shapes_are program h = sequence_shows program.body 0 (and_parts _ (has_right_ranges program.body) h).1 []

-- There is no first position outside a limit iff everything is inside.
use Rattle.std.proofs.Common.{◌≡◌, inl, inr, ℕ, suc, ◌+◌, ◌≤◌, ◌<◌, Bool, true, false, ◌&&◌, List, [], ◌∷◌, length, refl, ap, ◌∙◌, sym, arith, nat_lt, nat_le, int_le, pos, unsigned_abs}
use Rattle.std.proofs.lemmas.Bool.{cases_lt}
use Rattle.std.proofs.lemmas.Bool.Decides.{nat_tests}
use Rattle.array_tree.specs.Trees.{Statement, Assign, For, If, Par, Team, Sequence, ended, followed, Sequences, no_more, beside, Declaration, ProgramTree}
use Rattle.array_meaning.specs.Stores.{arrays_of, cells_of}
use Rattle.array_meaning.specs.Limits.{is_up_to, count_of, have_right_lengths, has_right_ranges, statement_has_right_ranges, have_right_ranges, is_in_range}
use Rattle.disjoint_check.specs.FirstRanges.{declarations_fault, range_fault_in, statement_range_fault, range_fault_among, range_fault}
use Rattle.disjoint_check.proofs.Firsts.{is_none, none_unless, both, three}

regroup : (p q r s : Bool) → ((p && (q && r)) && s) ≡ ((p && q) && (r && s))
regroup true true r s = refl
regroup true false r s = refl
regroup false q r s = refl

mutual
  right_ranges : (p : Sequence) → is_none (range_fault_in p) ≡ has_right_ranges p
  right_ranges ended = refl
  right_ranges (followed s p) = both _ _ _ _ (statement_right_ranges s) (right_ranges p)

  statement_right_ranges : (s : Statement) → is_none (statement_range_fault s) ≡ statement_has_right_ranges s
  statement_right_ranges (Assign line array index value) = refl
  statement_right_ranges (For line var low high body) = both _ _ _ _ (none_unless (int_le low high) _) (right_ranges body)
  statement_right_ranges (If line cond then_block else_block) = both _ _ _ _ (right_ranges then_block) (right_ranges else_block)
  statement_right_ranges (Par line branches) =
      both _ _ _ _ (none_unless (is_up_to (pos 64) (pos (count_of branches))) _) (right_ranges_among branches)
  statement_right_ranges (Team line var low high members phases) =
      both _ _ _ _
      (three _ _ _ _ _ _ (none_unless (int_le low high) _) (none_unless (is_up_to (pos 64) members) _)
      (none_unless (is_up_to (pos 8) (pos (count_of phases))) _))
      (right_ranges_among phases)
      ∙ regroup (int_le low high) (is_up_to (pos 64) members) (is_up_to (pos 8) (pos (count_of phases))) (have_right_ranges phases)

  right_ranges_among : (bs : Sequences) → is_none (range_fault_among bs) ≡ have_right_ranges bs
  right_ranges_among no_more = refl
  right_ranges_among (beside p bs) = both _ _ _ _ (right_ranges p) (right_ranges_among bs)

le_true : (a b : ℕ) → a ≤ b → nat_le a b ≡ true
le_true a b h = grind (arith, nat_tests)

le_false : (a b : ℕ) → b < a → nat_le a b ≡ false
le_false a b h = grind (arith, nat_tests)

lt_true : (a b : ℕ) → a < b → nat_lt a b ≡ true
lt_true a b h = grind (arith, nat_tests)

lt_false : (a b : ℕ) → b ≤ a → nat_lt a b ≡ false
lt_false a b h = grind (arith, nat_tests)

no_third : (a b x : Bool) → b ≡ false → (a && (x && b)) ≡ false
no_third true b true h = h
no_third true b false h = refl
no_third false b x h = refl

no_second : (a b x : Bool) → b ≡ false → (a && (b && x)) ≡ false
no_second true b x h = ap (λ t. t && x) h
no_second false b x h = refl

swap : (up rest b c : Bool) → ((up && true) && (rest && (b && c))) ≡ ((up && rest) && (b && c))
swap true rest b c = refl
swap false rest b c = refl

stop : (up a b rest : Bool) → (a && b) ≡ false → ((up && (a && b)) && rest) ≡ false
stop true a b rest h = ap (λ t. t && rest) h
stop false a b rest h = refl

second_false : (a b : Bool) → b ≡ false → (a && b) ≡ false
second_false true b h = h
second_false false b h = refl

first_false : (a b : Bool) → a ≡ false → (a && b) ≡ false
first_false a b h = ap (λ t. t && b) h

same_arrays : (a n : ℕ) → a + 1 + n ≡ a + suc n
same_arrays a n = omega arith

same_cells : (c x n : ℕ) → c + x + n ≡ c + (x + n)
same_cells c x n = omega arith

-- One more declaration; `rest` is the result for the remaining ones.
step : (up lengths : Bool) (arrays cells size count sum : ℕ) (rest : Bool) → arrays ≤ 64 → cells ≤ 4096 →
    (arrays + 1 ≤ 64 → cells + size ≤ 4096 → rest ≡ (lengths && (nat_le (arrays + 1 + count) 64 && nat_le (cells + size + sum) 4096))) →
    ((up && (nat_lt arrays 64 && nat_le (cells + size) 4096)) && rest)
    ≡ ((up && lengths) && (nat_le (arrays + suc count) 64 && nat_le (cells + (size + sum)) 4096))
step up lengths arrays cells size count sum rest h k more =
    elim (cases_lt arrays 64) [
      | inl room ↦ elim (cases_lt 4096 (cells + size)) [
        | inl over ↦
            stop up (nat_lt arrays 64) (nat_le (cells + size) 4096) rest (second_false (nat_lt arrays 64) (nat_le (cells + size) 4096) (le_false (cells + size) 4096 over))
            ∙ sym (no_third (up && lengths) (nat_le (cells + (size + sum)) 4096) (nat_le (arrays + suc count) 64) (le_false (cells + (size + sum)) 4096 (omega (arith, over))))
        | inr fits ↦
            ap (λ t. (up && (t && nat_le (cells + size) 4096)) && rest) (lt_true arrays 64 room)
            ∙ ap (λ t. (up && t) && rest) (le_true (cells + size) 4096 fits)
            ∙ ap (λ t. (up && true) && t) (more (omega (arith, room)) fits)
            ∙ swap up lengths (nat_le (arrays + 1 + count) 64) (nat_le (cells + size + sum) 4096)
            ∙ ap (λ n. (up && lengths) && (nat_le n 64 && nat_le (cells + size + sum) 4096)) (same_arrays arrays count)
            ∙ ap (λ n. (up && lengths) && (nat_le (arrays + suc count) 64 && nat_le n 4096)) (same_cells cells size sum)
      ]
      | inr full ↦
          stop up (nat_lt arrays 64) (nat_le (cells + size) 4096) rest (first_false (nat_lt arrays 64) (nat_le (cells + size) 4096) (lt_false arrays 64 full))
          ∙ sym (no_second (up && lengths) (nat_le (arrays + suc count) 64) (nat_le (cells + (size + sum)) 4096) (le_false (arrays + suc count) 64 (omega (arith, full))))
    ]

right_lengths : (ds : List Declaration) (arrays cells : ℕ) → arrays ≤ 64 → cells ≤ 4096 →
    is_none (declarations_fault ds arrays cells)
    ≡ (have_right_lengths ds && (nat_le (arrays + length ds) 64 && nat_le (cells + cells_of (arrays_of ds)) 4096))
right_lengths [] arrays cells h k =
    sym (ap (λ t. t && nat_le (cells + 0) 4096) (le_true (arrays + 0) 64 (omega arith)) ∙ le_true (cells + 0) 4096 (omega arith))
right_lengths (d ∷ ds) arrays cells h k =
    let size = unsigned_abs d.length in
    let rest = declarations_fault ds (arrays + 1) (cells + size) in
    both _ rest _ (is_none rest)
    (three _ _ _ _ _ _ (none_unless (is_up_to (pos 4096) d.length) _) (none_unless (nat_lt arrays 64) _) (none_unless (nat_le (cells + size) 4096) _)) refl
    ∙ step (is_up_to (pos 4096) d.length) (have_right_lengths ds) arrays cells size (length ds) (cells_of (arrays_of ds)) (is_none rest) h k
    (λ more fits. right_lengths ds (arrays + 1) (cells + size) more fits)

pub in_range : (program : ProgramTree) → is_none (range_fault program) ≡ is_in_range program
in_range program =
    both _ _ _ _
    (right_lengths program.arrays 0 0 (omega arith) (omega arith)
    ∙ ap (λ n. have_right_lengths program.arrays && (nat_le n 64 && nat_le (0 + cells_of (arrays_of program.arrays)) 4096)) (no_more_than (length program.arrays))
    ∙ ap (λ n. have_right_lengths program.arrays && (nat_le (length program.arrays) 64 && nat_le n 4096)) (no_more_than (cells_of (arrays_of program.arrays))))
    (right_ranges program.body)
  where
    no_more_than : (n : ℕ) → 0 + n ≡ n
    no_more_than n = omega arith

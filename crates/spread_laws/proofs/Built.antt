-- In a program with a meaning and no fault, each construct's arrays and their rows stand where they should.
use Rattle.std.proofs.Common.{◌≡◌, ℕ, ◌+◌, ◌*◌, ◌<◌, ◌≤◌, Bool, true, false, cond, List, [], ◌∷◌, ◌++◌, map, Option, Some, None, pos, refl, sym, ap, ◌∙◌, subst, ◌⊎◌, inl, inr, ⊎_elim, arith}
use Rattle.std.specs.Prelude.{◌&&◌, ◌||◌, nat_le, length, int_le, unsigned_abs}
use Rattle.std.specs.List.{filter}
use Rattle.std.specs.Cmp.Lexicographic.{same_text}
use Rattle.std.proofs.Math.Nat.{mul-le-mul_right, le-mul_of_pos_right}
use Rattle.std.proofs.lemmas.Bool.{false≢true, both_ways, and_parts, false_from_ne_true, cases_Bool}
use Rattle.array_tree.specs.Trees.{Statement, Assign, For, If, Par, Team, Sequence, ended, followed, ProgramTree}
use Rattle.array_tree.specs.Equal.{name_eq}
use Rattle.array_meaning.specs.Stores.{Arrays, HaveCells, arrays_of, base_of, length_of, cells_of}
use Rattle.array_meaning.specs.Work.{span}
use Rattle.array_meaning.specs.Names.{is_among, names_of, are_declared_once, has_new_variables, uses_known_names, has_known_names, statement_has_known_names}
use Rattle.array_meaning.specs.Limits.{is_up_to, count_of, have_right_lengths, has_right_ranges, statement_has_right_ranges, have_right_ranges, units_of, statement_units_of}
use Rattle.array_meaning.specs.Pieces.{IsMember}
use Rattle.array_meaning.proofs.InsideLemmas.{sized_in_range, names_in, names_in_of, array_inside}
use Rattle.array_meaning.proofs.OrderLemmas.{member_map, map_member}
use Rattle.spread_laws.specs.Adds.{is_sum, statement_has_add}
use Rattle.spread_laws.specs.Rows.{rows_name, rows_with, statement_rows_with, is_tallied, greatest, tallied}
use Rattle.spread_laws.specs.Spread.{added_in, spread_of}
use Rattle.spread_laws.specs.Faults.{needed_names, declared_at, looped_at, unshaped, taken_at, spread_fault_of, UnshapedAt, NameTakenAt}
use Rattle.spread_laws.specs.Served.{HasMeaning, IsNarrow, IsTallyKept}
use Rattle.spread_laws.proofs.Owing.{Tally, IsClear, AreClear}
use Rattle.spread_laws.proofs.Inside.{none_or}
use Rattle.spread_laws.proofs.Around.{tally_of}
use Rattle.spread_laws.proofs.Behind.{arrays_append, cells_append, base_behind, names_apart, rows_of, arrays_kept, cells_longer}
use Rattle.spread_laws.proofs.Teams.{at_least_one, small_team}
use Rattle.spread_laws.proofs.Plans.{plan_kept}
use Rattle.spread_laws.proofs.Final.{run_kept}
use Rattle.spread_laws.proofs.Outside.{IsBuilt, AreBuilt, HasBuilt}
use Rattle.spread_laws.proofs.Named.{statement_known, not_declared, rows_needed, AreSingle, single, member_named, member_other, rows_other, name_self}
use Rattle.spread_laws.proofs.Declared.{member_left, member_right, up_to_greatest, tallied_by, chosen_name, chosen_length, rows_named, rows_long}

-- The program has neither fault.
pub no_fault : (program : ProgramTree) → spread_fault_of program ≡ None → (unshaped 0 program.body ≡ None) × (taken_at program ≡ None)
no_fault program h = by_lines (unshaped 0 program.body) (taken_at program) refl refl
  where
    by_lines : (a b : Option ℕ) → unshaped 0 program.body ≡ a → taken_at program ≡ b → (unshaped 0 program.body ≡ None) × (taken_at program ≡ None)
    by_lines None None p q = (p, q)
    by_lines (Some line) b p q = let fault : spread_fault_of program ≡ Some (UnshapedAt line) = rw p refl in cc
    by_lines None (Some line) p q = let fault : spread_fault_of program ≡ Some (NameTakenAt line) = rw (p, q) refl in cc

filter_member : {A : Type 0} (p : A → Bool) (xs : List A) (x : A) → IsMember x (filter p xs) → IsMember x xs × (p x ≡ true)
filter_member p [] x h = absurd h
filter_member p (y ∷ ys) x h = ⊎_elim
    (λ yes.
    let kept : IsMember x (y ∷ filter p ys) = subst (λ b. IsMember x (cond b (y ∷ filter p ys) (filter p ys))) yes h in
    ⊎_elim (λ e. (inl e, subst (λ z. p z ≡ true) e yes)) (λ q. let r = filter_member p ys x q in (inr r.0, r.1)) kept)
    (λ no. let r = filter_member p ys x (subst (λ b. IsMember x (cond b (y ∷ filter p ys) (filter p ys))) no h) in (inr r.0, r.1))
    (cases_Bool (p y))

member_filter : {A : Type 0} (p : A → Bool) (xs : List A) (x : A) → IsMember x xs → p x ≡ true → IsMember x (filter p xs)
member_filter p [] x h t = absurd h
member_filter p (y ∷ ys) x (inl e) t = let here : p y ≡ true = subst (λ z. p z ≡ true) (sym e) t in rw here (inl e)
member_filter p (y ∷ ys) x (inr q) t = ⊎_elim
    (λ yes. rw yes (inr (member_filter p ys x q t)))
    (λ no. rw no (member_filter p ys x q t))
    (cases_Bool (p y))

-- If each array is declared once, the length of an array's name is that of the array.
pub length_single : (arrays : Arrays) → AreSingle arrays → (a : List ℕ × ℕ) → IsMember a arrays → length_of arrays a.0 ≡ a.1
length_single [] once a h = absurd h
length_single (b ∷ more) once a (inl e) = let same : name_eq b.0 a.0 ≡ true = subst (λ z. name_eq b.0 z.0 ≡ true) e (name_self b.0) in rw same (ap (λ (z : List ℕ × ℕ). z.1) e)
length_single (b ∷ more) once a (inr q) = let other = member_other more b.0 a once.0 q in rw other (length_single more once.1 a q)

pub named_member : (arrays : Arrays) (x : List ℕ) → is_among x (names_in arrays) ≡ true → IsMember (x, length_of arrays x) arrays
named_member [] x h = absurd (false≢true h)
named_member (a ∷ more) x h = ⊎_elim
    (λ same. let name : a.0 ≡ x = same_text a.0 x (sym same) in rw same (inl (ap (λ z. (z, a.1)) name)))
    (λ other.
    let rest : IsMember (x, length_of more x) more = named_member more x (subst (λ b. (b || is_among x (names_in more)) ≡ true) other h) in
    let size : length_of more x ≡ length_of (a ∷ more) x = rw other refl in
    inr (subst (λ n. IsMember (x, n) more) size rest))
    (cases_Bool (name_eq a.0 x))

member_cells : (arrays : Arrays) → HaveCells arrays → (a : List ℕ × ℕ) → IsMember a arrays → 0 < a.1
member_cells [] have a h = absurd h
member_cells (b ∷ more) have a (inl e) = subst (λ (z : List ℕ × ℕ). 0 < z.1) e have.0
member_cells (b ∷ more) have a (inr q) = member_cells more have.1 a q

module _ (program : ProgramTree) (meaning : HasMeaning program) (free : taken_at program ≡ None) where
  abbrev old : Arrays
  old = arrays_of program.arrays

  abbrev rows : Arrays
  rows = arrays_of (rows_of program)

  abbrev new : Arrays
  new = arrays_of (spread_of program).arrays

  abbrev end : ℕ
  end = cells_of new

  split : new ≡ old ++ rows
  split = arrays_append program.arrays (rows_of program)

  once : AreSingle old
  once = single program.arrays [] (and_parts (are_declared_once program.arrays []) (has_new_variables program.body (names_of program.arrays)) meaning.single_names).0

  end_is : end ≡ cells_of old + cells_of rows
  end_is = ap (λ q. cells_of q) split ∙ cells_append old rows

  -- An array that is added to in a construct with so many rows.
  record Stands (n : ℕ) (a : List ℕ × ℕ) : Type 0 where
    pub known : is_among a.0 (names_in old) ≡ true
    pub base : base_of new a.0 ≡ base_of old a.0
    pub size : length_of old a.0 ≡ a.1
    pub named : is_among (rows_name a.0) (names_in rows) ≡ true
    pub first : base_of new (rows_name a.0) ≡ cells_of old + base_of rows (rows_name a.0)
    pub room : n * a.1 ≤ length_of rows (rows_name a.0)

  stands : (n : ℕ) (a : List ℕ × ℕ) → IsMember a old → IsMember n (rows_with a.0 program.body) → Stands n a
  stands n a in_old counted =
      let known = member_named old a in_old in
      let declared : is_among a.0 (names_of program.arrays) ≡ true = subst (λ ns. is_among a.0 ns ≡ true) (names_in_of program.arrays) known in
      let test = tallied_by program.body a.0 n counted in
      let chosen = chosen_name (is_tallied program.body) program.arrays a.0 test declared in
      let apart = none_or (declared_at (needed_names (tallied program)) program.arrays) (looped_at (needed_names (tallied program)) program.body) free in
      let behind : is_among (rows_name a.0) (names_of program.arrays) ≡ false = not_declared (needed_names (tallied program)) program.arrays (rows_name a.0) apart.0 (rows_needed (tallied program) a.0 chosen) in
      let behind_old : is_among (rows_name a.0) (names_in old) ≡ false = subst (λ ns. is_among (rows_name a.0) ns ≡ false) (sym (names_in_of program.arrays)) behind in
      let size = length_single old once a in_old in
      let long : length_of rows (rows_name a.0) ≡ greatest (rows_with a.0 program.body) * a.1
      = rows_long program.body (tallied program) a.0 chosen ∙ ap (λ (k : ℕ). greatest (rows_with a.0 program.body) * k) (chosen_length (is_tallied program.body) program.arrays a.0 test ∙ size) in
      let few : n * a.1 ≤ greatest (rows_with a.0 program.body) * a.1 = mul-le-mul_right a.1 (up_to_greatest (rows_with a.0 program.body) n counted) in
      record {
        known = known;
        base = (arrays_kept program).base a.0 known;
        size = size;
        named = rows_named program.body (tallied program) a.0 chosen;
        first = ap (λ q. base_of q (rows_name a.0)) split ∙ base_behind old rows (rows_name a.0) behind_old;
        room = omega (arith, long, few);
      }

  -- Two of the arrays are apart, and so are their rows.
  stand_apart : (n : ℕ) (a b : List ℕ × ℕ) → Stands n a → Stands n b → name_eq a.0 b.0 ≡ false → IsClear n (tally_of new a) (tally_of new b)
  stand_apart n a b s t other = record {
    arrays = by_arrays (names_apart old a.0 b.0 other);
    cells = by_cells (names_apart rows (rows_name a.0) (rows_name b.0) (rows_other a.0 b.0 other));
  }
    where
      by_arrays : (base_of old a.0 + length_of old a.0 ≤ base_of old b.0) ⊎ (base_of old b.0 + length_of old b.0 ≤ base_of old a.0)
          ⊎ (is_among a.0 (names_in old) ≡ false) ⊎ (is_among b.0 (names_in old) ≡ false)
          → (base_of new a.0 + a.1 ≤ base_of new b.0) ⊎ (base_of new b.0 + b.1 ≤ base_of new a.0)
      by_arrays (inl le) = let p = s.base in let q = t.base in let r = s.size in inl (omega (arith, p, q, r, le))
      by_arrays (inr (inl le)) = let p = s.base in let q = t.base in let r = t.size in inr (omega (arith, p, q, r, le))
      by_arrays (inr (inr (inl absent))) = absurd (both_ways _ absent s.known)
      by_arrays (inr (inr (inr absent))) = absurd (both_ways _ absent t.known)

      by_cells : (base_of rows (rows_name a.0) + length_of rows (rows_name a.0) ≤ base_of rows (rows_name b.0)) ⊎ (base_of rows (rows_name b.0) + length_of rows (rows_name b.0) ≤ base_of rows (rows_name a.0))
          ⊎ (is_among (rows_name a.0) (names_in rows) ≡ false) ⊎ (is_among (rows_name b.0) (names_in rows) ≡ false)
          → (base_of new (rows_name a.0) + n * a.1 ≤ base_of new (rows_name b.0)) ⊎ (base_of new (rows_name b.0) + n * b.1 ≤ base_of new (rows_name a.0))
      by_cells (inl le) = let p = s.first in let q = t.first in let r = s.room in inl (omega (arith, p, q, r, le))
      by_cells (inr (inl le)) = let p = s.first in let q = t.first in let r = t.room in inr (omega (arith, p, q, r, le))
      by_cells (inr (inr (inl absent))) = absurd (both_ways _ absent s.named)
      by_cells (inr (inr (inr absent))) = absurd (both_ways _ absent t.named)

  clear : (n : ℕ) (c : Statement) (arrays : Arrays) → AreSingle arrays → ((a : List ℕ × ℕ) → IsMember a arrays → statement_has_add a.0 c ≡ true → Stands n a)
      → AreClear n (map (tally_of new) (added_in arrays c))
  clear n c [] alone all = tt
  clear n c (a ∷ more) alone all =
      let rest : AreClear n (map (tally_of new) (added_in more c)) = clear n c more alone.1 (λ b in_b. all b (inr in_b)) in
      ⊎_elim
      (λ yes. rw yes (
        λ t in_t.
            let m = member_map (tally_of new) (added_in more c) t in_t in
            let f = filter_member (λ b. statement_has_add b.0 c) more m.0 m.1 in
            subst (IsClear n (tally_of new a)) m.2 (stand_apart n a m.0 (all a (inl refl) yes) (all m.0 (inr f.0) f.1) (member_other more a.0 m.0 alone.0 f.0)),
        rest,
      ))
      (λ gone. rw gone rest)
      (cases_Bool (statement_has_add a.0 c))

  -- A construct with so many rows is built as it should be.
  built : (n : ℕ) (c : Statement) → n ≤ 64 → ((x : List ℕ) → statement_has_add x c ≡ true → IsMember n (rows_with x program.body))
      → ((x : List ℕ) → statement_has_add x c ≡ true → (is_sum x ≡ true) × (is_among x (names_in old) ≡ true))
      → IsBuilt old new end n c
  built n c few counted known =
      let sized = sized_in_range program meaning.ranges in
      let each : (a : List ℕ × ℕ) → IsMember a (added_in old c) → IsMember a old × Stands n a
      = λ a in_a. (let f = filter_member (λ b. statement_has_add b.0 c) old a in_a in (f.0, stands n a f.0 (counted a.0 f.1))) in
      let each_tally : (t : Tally) → IsMember t (map (tally_of new) (added_in old c)) → (a : List ℕ × ℕ) × IsMember a (added_in old c) × (tally_of new a ≡ t)
      = λ t in_t. member_map (tally_of new) (added_in old c) t in_t in
      record {
        laid = record {
          longer = cells_longer program;
          below = λ t in_t.
              let m = each_tally t in_t in
              let s = (each m.0 m.1).1 in
              let inside = array_inside old m.0.0 s.known in
              let p = s.base in
              let q = s.size in
              subst (λ (z : Tally). z.base + z.size ≤ cells_of old) m.2 (omega (arith, inside, p, q));
          above = λ t in_t.
              let m = each_tally t in_t in
              let p = (each m.0 m.1).1.first in
              subst (λ (z : Tally). cells_of old ≤ z.first) m.2 (omega (arith, p));
          within = λ t in_t.
              let m = each_tally t in_t in
              let s = (each m.0 m.1).1 in
              let inside = array_inside rows (rows_name m.0.0) s.named in
              let p = s.first in
              let q = s.room in
              subst (λ (z : Tally). z.first + n * z.size ≤ end) m.2 (omega (arith, inside, p, q, end_is));
          clear = clear n c old once (λ a in_a adds. stands n a in_a (counted a.0 adds));
        };
        some = λ a in_a. member_cells old sized.each a (each a in_a).0;
        apart = λ x declared plain t in_t.
            let m = each_tally t in_t in
            let f = filter_member (λ b. statement_has_add b.0 c) old m.0 m.1 in
            let s = (each m.0 m.1).1 in
            let other : name_eq x m.0.0 ≡ false = false_from_ne_true (name_eq x m.0.0) (λ same. both_ways (is_sum x) plain (subst (λ z. is_sum z ≡ true) (sym (same_text x m.0.0 (sym same))) (known m.0.0 f.1).0)) in
            subst (λ (z : Tally). (base_of old x + length_of old x ≤ z.base) ⊎ (z.base + z.size ≤ base_of old x)) m.2 (off x m.0 declared s (names_apart old x m.0.0 other));
        placed = λ y adds.
            let a : List ℕ × ℕ = (y, length_of old y) in
            let in_old = named_member old y (known y adds).1 in
            let in_a = member_filter (λ b. statement_has_add b.0 c) old a in_old adds in
            let s = (each a in_a).1 in
            let inside = array_inside old y s.known in
            let whole = sized.whole in
            let product : n * length_of old y ≤ 64 * length_of old y = mul-le-mul_right (length_of old y) few in
            record {
              tally = tally_of new a;
              member = map_member (tally_of new) (added_in old c) a in_a;
              base_is = s.base;
              size_is = refl;
              first_is = refl;
              small = omega (arith, inside, whole, product);
            };
      }
    where
      off : (x : List ℕ) (a : List ℕ × ℕ) → is_among x (names_in old) ≡ true → Stands n a
          → (base_of old x + length_of old x ≤ base_of old a.0) ⊎ (base_of old a.0 + length_of old a.0 ≤ base_of old x)
          ⊎ (is_among x (names_in old) ≡ false) ⊎ (is_among a.0 (names_in old) ≡ false)
          → (base_of old x + length_of old x ≤ base_of new a.0) ⊎ (base_of new a.0 + a.1 ≤ base_of old x)
      off x a declared s (inl le) = let p = s.base in inl (omega (arith, le, p))
      off x a declared s (inr (inl le)) = let p = s.base in let q = s.size in inr (omega (arith, le, p, q))
      off x a declared s (inr (inr (inl absent))) = absurd (both_ways _ absent declared)
      off x a declared s (inr (inr (inr absent))) = absurd (both_ways _ absent s.known)

  -- The construct's rows are among those of the body.
  abbrev Counts : (List ℕ → List ℕ) → Type 0
  Counts part = (x : List ℕ) (n : ℕ) → IsMember n (part x) → IsMember n (rows_with x program.body)

  mutual
    statement_built : (s : Statement) (vars : List (List ℕ)) → statement_has_known_names s (names_in old) vars ≡ true → statement_has_right_ranges s ≡ true
        → statement_units_of s ≤ 1048576 → Counts (λ x. statement_rows_with x s) → HasBuilt old new end s
    statement_built (Assign line x i e) vars known ranges units counts = tt
    statement_built (For line var low high body) vars known ranges units counts =
        λ turn.
        let r = and_parts (int_le low high) (has_right_ranges body) ranges in
        let most : 1 + units_of body ≤ (1 + units_of body) * span low high = le-mul_of_pos_right (1 + units_of body) turn in
        sequence_built body (var ∷ vars) known r.1 (omega (arith, most, units)) counts
    statement_built (If line test a b) vars known ranges units counts =
        let k = and_parts (uses_known_names test (names_in old) vars) (has_known_names a (names_in old) vars && has_known_names b (names_in old) vars) known in
        let j = and_parts (has_known_names a (names_in old) vars) (has_known_names b (names_in old) vars) k.1 in
        let r = and_parts (has_right_ranges a) (has_right_ranges b) ranges in (
          sequence_built a vars j.0 r.0 (omega (arith, units)) (λ x n h. counts x n (member_left n (rows_with x a) (rows_with x b) h)),
          sequence_built b vars j.1 r.1 (omega (arith, units)) (λ x n h. counts x n (member_right n (rows_with x a) (rows_with x b) h)),
        )
    statement_built (Par line branches) vars known ranges units counts =
        let c = Par line branches in
        let r = and_parts (is_up_to (pos 64) (pos (count_of branches))) (have_right_ranges branches) ranges in
        let m = at_least_one 64 (pos (count_of branches)) r.0 in
        built (count_of branches) c m.2
        (λ x adds. counts x (count_of branches) (subst (λ b. IsMember (count_of branches) (cond b (count_of branches ∷ []) [])) (sym adds) (inl refl)))
        (λ x adds. statement_known x (names_in old) c vars known adds)
    statement_built (Team line var low high members phases) vars known ranges units counts =
        let c = Team line var low high members phases in
        let small = small_team line var low high members phases ranges units in
        let k = unsigned_abs members in (
          built k c small.few
              (λ x adds. counts x k (subst (λ b. IsMember k (cond b (k ∷ []) [])) (sym adds) (inl refl)))
              (λ x adds. statement_known x (names_in old) c vars known adds),
          small,
        )

    sequence_built : (s : Sequence) (vars : List (List ℕ)) → has_known_names s (names_in old) vars ≡ true → has_right_ranges s ≡ true
        → units_of s ≤ 1048576 → Counts (λ x. rows_with x s) → AreBuilt old new end s
    sequence_built ended vars known ranges units counts = tt
    sequence_built (followed first rest) vars known ranges units counts =
        let k = and_parts (statement_has_known_names first (names_in old) vars) (has_known_names rest (names_in old) vars) known in
        let r = and_parts (statement_has_right_ranges first) (has_right_ranges rest) ranges in (
          statement_built first vars k.0 r.0 (omega (arith, units)) (λ x n h. counts x n (member_left n (statement_rows_with x first) (rows_with x rest) h)),
          sequence_built rest vars k.1 r.1 (omega (arith, units)) (λ x n h. counts x n (member_right n (statement_rows_with x first) (rows_with x rest) h)),
        )

  pub program_built : AreBuilt old new end program.body
  program_built =
      let known : has_known_names program.body (names_in old) [] ≡ true = subst (λ ns. has_known_names program.body ns [] ≡ true) (sym (names_in_of program.arrays)) meaning.known_names in
      let arrays_right = have_right_lengths program.arrays && (nat_le (length program.arrays) 64 && nat_le (cells_of old) 4096) in
      sequence_built program.body [] known (and_parts arrays_right (has_right_ranges program.body) meaning.ranges).1 meaning.work (λ x n h. h)

pub tally_kept : (program : ProgramTree) → HasMeaning program → IsNarrow program → spread_fault_of program ≡ None → IsTallyKept program (spread_of program)
tally_kept program meaning narrow sound =
    let f = no_fault program sound in
    let run = run_kept program meaning narrow f.0 (program_built program meaning f.1) in
    record { store = run.0; plan = plan_kept program; entered = run.1 }

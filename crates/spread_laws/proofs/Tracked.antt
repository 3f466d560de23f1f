-- Statements inside a construct touch the same cells in both programs, except for its adds: these touch cells of its row.
use Rattle.std.proofs.Common.{◌≡◌, ℕ, zero, suc, ◌+◌, ◌*◌, ◌<◌, ◌≤◌, Bool, true, false, List, [], ◌∷◌, ◌++◌, Option, Some, None, ℤ, pos, ◌+ℤ◌, refl, sym, ap, ◌∙◌, subst, arith, inl, inr}
use Rattle.std.specs.Prelude.{◌||◌, not, unsigned_abs, if◌then◌else◌}
use Rattle.std.specs.Option.{option_or, is_some}
use Rattle.std.proofs.Math.Nat.{mul-le-mul_right}
use Rattle.std.proofs.lemmas.Bool.{and_parts, not-true, or_left, or_right}
use Rattle.std.proofs.lemmas.Cmp.{nat_list_eq_equiv}
use Rattle.array_tree.specs.declared.tree.Op.TheVariants.{Add}
use Rattle.array_tree.specs.Trees.{Expression, Number, Var, Read, Neg, Binary, Statement, Assign, For, If, Par, Team, Sequence, ended, followed, Sequences, no_more, beside}
use Rattle.array_tree.specs.Equal.{name_eq}
use Rattle.array_meaning.specs.Stores.{Arrays, Vars, base_of, length_of, is_dynamic, cell_of, value_of}
use Rattle.array_meaning.specs.Steps.{Steps, Done, Set, followed_by}
use Rattle.array_meaning.specs.Work.{turns, span, loop, statement_work, sequence_work, branches_work, phases_work}
use Rattle.array_meaning.specs.Touch.{Visit, visit, reads_in, walk, Covers, Touches}
use Rattle.array_meaning.specs.Names.{is_among, has_new_variables, statement_has_new_variables}
use Rattle.array_meaning.specs.Accepted.{is_inside}
use Rattle.array_meaning.specs.Pieces.{IsMember}
use Rattle.array_meaning.proofs.FrameLemmas.{or_false, walk_followed_by}
use Rattle.array_meaning.proofs.InsideLemmas.{names_in}
use Rattle.spread_laws.specs.Adds.{is_sum, reads_sum, added, mentions_sum, is_add, has_add, statement_has_add}
use Rattle.spread_laws.specs.Rows.{rows_name}
use Rattle.spread_laws.specs.Spread.{row_cell, spread_assign, spread_inside, statement_spread_inside}
use Rattle.spread_laws.specs.Faults.{is_unshaped, unshaped, statement_unshaped, any_unshaped}
use Rattle.spread_laws.specs.Apart.{IsSumCell}
use Rattle.spread_laws.proofs.Owing.{Tally}
use Rattle.spread_laws.proofs.Free.{AreFine, AreKept, fine_split, fine_first, then_fine, turns_fine, place_inside}
use Rattle.spread_laws.proofs.Inside.{IsPlaced, added_is, place_value, none_or, none_cond, calm_two, calm_one, sides_fine}
use Rattle.spread_laws.proofs.Mirrors.{HasRow, StaysRow}
use Rattle.spread_laws.proofs.Named.{AreSingle}
use Rattle.spread_laws.proofs.Built.{named_member}
use Rattle.spread_laws.proofs.Tracks.{AreClean, clean_join, static_same, static_reads, IsInRow, Tracks, no_tracks, join_tracks, then_tracks, turns_tracks, reads_tracks, steps_tracks}

-- ---- statements that mention no accumulating array

module _ (old : Arrays) where
  pub reads_clean : (line : ℕ) (vars : Vars) (e : Expression) → reads_sum e ≡ false → AreClean (reads_in old line vars e)
  reads_clean line vars (Number n) h = tt
  reads_clean line vars (Var name) h = tt
  reads_clean line vars (Read x i) h =
      let c = or_false (is_sum x) (reads_sum i) h in
      clean_join (reads_in old line vars i) (visit old line false vars x i ∷ []) (reads_clean line vars i c.1) (c.0, tt)
  reads_clean line vars (Neg e) h = reads_clean line vars e h
  reads_clean line vars (Binary op a b) h =
      let c = or_false (reads_sum a) (reads_sum b) h in
      clean_join (reads_in old line vars a) (reads_in old line vars b) (reads_clean line vars a c.0) (reads_clean line vars b c.1)

  pub assign_clean : (line : ℕ) (vars : Vars) (x : List ℕ) (i e : Expression) → mentions_sum (Assign line x i e) ≡ false → AreClean (walk old (Set line vars x i e Done))
  assign_clean line vars x i e calm =
      let c = or_false (is_sum x) (reads_sum i || reads_sum e) calm in
      let d = or_false (reads_sum i) (reads_sum e) c.1 in
      let target = visit old line true vars x i in
      clean_join (reads_in old line vars i) (reads_in old line vars e ++ target ∷ []) (reads_clean line vars i d.0)
      (clean_join (reads_in old line vars e) (target ∷ []) (reads_clean line vars e d.1) (c.0, tt))

  abbrev Clean : Steps → Type 0
  Clean steps = AreClean (walk old steps)

  then_clean : (a b : Steps) → Clean a → Clean b → Clean (followed_by a b)
  then_clean a b f g = subst AreClean (sym (walk_followed_by old a b)) (clean_join (walk old a) (walk old b) f g)

  turns_clean : (f : ℤ → Steps) (low : ℤ) (n : ℕ) → ((x : ℤ) → Clean (f x)) → Clean (turns f low n)
  turns_clean f low zero each = tt
  turns_clean f low (suc n) each = then_clean (f low) (turns f (low +ℤ pos 1) n) (each low) (turns_clean f (low +ℤ pos 1) n each)

  -- At depth 2 or more, statements touch no accumulating array.
  mutual
    pub statement_clean : (d : ℕ) → 2 ≤ d → (s : Statement) (vars : Vars) → statement_unshaped d s ≡ None → AreClean (walk old (statement_work s vars))
    statement_clean d deep (Assign line x i e) vars shape =
        let p = none_cond (is_unshaped d (Assign line x i e)) line None shape in
        assign_clean line vars x i e (calm_two d (mentions_sum (Assign line x i e)) (is_add (Assign line x i e)) deep p.0)
    statement_clean d deep (For line var low high body) vars shape =
        turns_clean (λ x. sequence_work body ((var, x) ∷ vars)) low (span low high) (λ x. sequence_clean d deep body ((var, x) ∷ vars) shape)
    statement_clean d deep (If line test a b) vars shape =
        let p = none_cond (is_unshaped d (If line test a b)) line (option_or (unshaped d a) (unshaped d b)) shape in
        let q = none_or (unshaped d a) (unshaped d b) p.1 in
        clean_join (reads_in old line vars test) (walk old (sequence_work a vars) ++ (walk old (sequence_work b vars) ++ []))
        (reads_clean line vars test (calm_two d (reads_sum test) false deep p.0))
        (clean_join (walk old (sequence_work a vars)) (walk old (sequence_work b vars) ++ []) (sequence_clean d deep a vars q.0)
        (clean_join (walk old (sequence_work b vars)) [] (sequence_clean d deep b vars q.1) tt))
    statement_clean d deep (Par line branches) vars shape = branches_clean (d + 1) (omega arith) branches vars shape
    statement_clean d deep (Team line var low high members phases) vars shape = phases_clean (d + 1) (omega arith) phases var low high vars shape

    pub sequence_clean : (d : ℕ) → 2 ≤ d → (s : Sequence) (vars : Vars) → unshaped d s ≡ None → AreClean (walk old (sequence_work s vars))
    sequence_clean d deep ended vars shape = tt
    sequence_clean d deep (followed first rest) vars shape =
        let p = none_or (statement_unshaped d first) (unshaped d rest) shape in
        then_clean (statement_work first vars) (sequence_work rest vars) (statement_clean d deep first vars p.0) (sequence_clean d deep rest vars p.1)

    pub branches_clean : (d : ℕ) → 2 ≤ d → (bs : Sequences) (vars : Vars) → any_unshaped d bs ≡ None → AreClean (walk old (branches_work bs vars))
    branches_clean d deep no_more vars shape = tt
    branches_clean d deep (beside first rest) vars shape =
        let p = none_or (unshaped d first) (any_unshaped d rest) shape in
        then_clean (sequence_work first vars) (branches_work rest vars) (sequence_clean d deep first vars p.0) (branches_clean d deep rest vars p.1)

    pub phases_clean : (d : ℕ) → 2 ≤ d → (bs : Sequences) (var : List ℕ) (low high : ℤ) (vars : Vars) → any_unshaped d bs ≡ None → AreClean (walk old (phases_work bs var low high vars))
    phases_clean d deep no_more var low high vars shape = tt
    phases_clean d deep (beside first rest) var low high vars shape =
        let p = none_or (unshaped d first) (any_unshaped d rest) shape in
        then_clean (loop var low high (sequence_work first) vars) (phases_work rest var low high vars)
        (turns_clean (λ x. sequence_work first ((var, x) ∷ vars)) low (span low high) (λ x. sequence_clean d deep first ((var, x) ∷ vars) p.0))
        (phases_clean d deep rest var low high vars p.1)

-- ---- an add

module _ (old new : Arrays) (kept : AreKept old new) (once : AreSingle old) (rows : ℕ) (ts : List Tally) where
  abbrev Like : ℕ → List Visit → List Visit → Type 0
  Like k vs us = Tracks old new rows ts k vs us

  -- The visit of the array's cell, and that of the row's.
  row_visit : (w : Bool) (line : ℕ) (vars : Vars) (x : List ℕ) (e row : Expression) (k : ℕ) → IsPlaced old new rows ts x → k < rows → is_sum x ≡ true
      → is_dynamic e ≡ false → is_dynamic row ≡ false → HasRow new row k vars → AreFine old (visit old line w vars x e ∷ [])
      → Like k (visit old line w vars x e ∷ []) (visit new line w vars (rows_name x) (row_cell old row x e) ∷ [])
  row_visit w line vars x e row k placed lt sum still row_still row_is fine =
      let a = placed.tally in
      let own = fine_first old (visit old line w vars x e) [] fine in
      let i = value_of old vars e [] in
      let index : is_inside (length_of old x) (Some i) ≡ true = subst (λ (d : Bool). is_inside (length_of old x) (if d then None else Some i) ≡ true) still own.1 in
      let place = place_inside (length_of old x) i index in
      let p = unsigned_abs i in
      let less = place.1 in
      let size = placed.size_is in
      let small : p < a.size = omega (arith, less, size) in
      let value : value_of new vars e [] ≡ pos p = static_same old new vars e [] still ∙ place.0 in
      let last : (k + 1) * a.size ≤ rows * a.size = mul-le-mul_right a.size (let le : k + 1 ≤ rows = omega (arith, lt) in le) in
      let most = placed.small in
      let number : value_of new vars (row_cell old row x e) [] ≡ pos (k * a.size + p)
      = rw (row_is [], value, sym placed.size_is) (place_value k a.size p (omega (arith, last, most)) (omega (arith, last, most, small))) in
      let static : is_dynamic (row_cell old row x e) ≡ false = rw (row_still, still) refl in
      record {
        to = λ v c h. inr (in_row a p small number static placed.member (sym placed.first_is) v c h);
        from = λ v c h. inl (in_sum v c h less own.0);
      }
    where
      in_row : (a : Tally) (p : ℕ) → p < a.size → value_of new vars (row_cell old row x e) [] ≡ pos (k * a.size + p) → is_dynamic (row_cell old row x e) ≡ false
          → IsMember a ts → base_of new (rows_name x) ≡ a.first → (v : Bool) (c : ℕ) → Touches new v (visit new line w vars (rows_name x) (row_cell old row x e) ∷ []) c → IsInRow old new rows ts k c
      in_row a p small number static member first v c (inr h) = absurd h
      in_row a p small number static member first v c (inl h) =
          let i = value_of new vars (row_cell old row x e) [] in
          let cov : Covers new (rows_name x) (Some i) c = subst (λ (d : Bool). Covers new (rows_name x) (if d then None else Some i) c) static h.1 in
          let at : cell_of new (rows_name x) false i ≡ base_of new (rows_name x) + (k * a.size + p) = ap (λ (z : ℤ). base_of new (rows_name x) + unsigned_abs z) number in
          record { tally = a; member = member; less = lt; from = omega (arith, cov, at, first); below = omega (arith, cov, at, first, small) }

      in_sum : (v : Bool) (c : ℕ) → Touches old v (visit old line w vars x e ∷ []) c → unsigned_abs (value_of old vars e []) < length_of old x → is_among x (names_in old) ≡ true → IsSumCell old c
      in_sum v c (inr h) less known = absurd h
      in_sum v c (inl h) less known =
          let i = value_of old vars e [] in
          let cov : Covers old x (Some i) c = subst (λ (d : Bool). Covers old x (if d then None else Some i) c) still h.1 in
          record { array = (x, length_of old x); declared = named_member old x known; sum = sum; from = omega (arith, cov); below = omega (arith, cov, less) }

  -- The add, and that to the row.
  add_tracks : (line : ℕ) (vars : Vars) (x : List ℕ) (e v row : Expression) (k : ℕ) → IsPlaced old new rows ts x → k < rows → is_sum x ≡ true
      → is_dynamic e ≡ false → is_dynamic row ≡ false → HasRow new row k vars → reads_sum v ≡ false
      → AreFine old (walk old (Set line vars x e (Binary Add (Read x e) v) Done))
      → Like k (walk old (Set line vars x e (Binary Add (Read x e) v) Done))
      (walk new (Set line vars (rows_name x) (row_cell old row x e) (Binary Add (Read (rows_name x) (row_cell old row x e)) v) Done))
  add_tracks line vars x e v row k placed lt sum still row_still row_is clean fine =
      let cell = row_cell old row x e in
      let static : is_dynamic cell ≡ false = rw (row_still, still) refl in
      let read = visit old line false vars x e in
      let target = visit old line true vars x e in
      let read' = visit new line false vars (rows_name x) cell in
      let target' = visit new line true vars (rows_name x) cell in
      let vs = reads_in old line vars v in
      let us = reads_in new line vars v in
      let f1 = fine_split old (reads_in old line vars e) (reads_in old line vars (Binary Add (Read x e) v) ++ target ∷ []) fine in
      let f2 = fine_split old (reads_in old line vars (Binary Add (Read x e) v)) (target ∷ []) f1.1 in
      let f3 = fine_split old (reads_in old line vars (Read x e)) vs f2.0 in
      let f4 = fine_split old (reads_in old line vars e) (read ∷ []) f3.0 in
      let none : Like k (reads_in old line vars e) (reads_in new line vars cell)
      = subst (λ xs. Like k xs (reads_in new line vars cell)) (sym (static_reads old line vars e still))
      (subst (Like k []) (sym (static_reads new line vars cell static)) (no_tracks old new rows ts k)) in
      join_tracks old new rows ts k (reads_in old line vars e) (reads_in old line vars (Binary Add (Read x e) v) ++ target ∷ [])
      (reads_in new line vars cell) (reads_in new line vars (Binary Add (Read (rows_name x) cell) v) ++ target' ∷ []) none
      (join_tracks old new rows ts k (reads_in old line vars (Binary Add (Read x e) v)) (target ∷ [])
      (reads_in new line vars (Binary Add (Read (rows_name x) cell) v)) (target' ∷ [])
      (join_tracks old new rows ts k (reads_in old line vars (Read x e)) vs (reads_in new line vars (Read (rows_name x) cell)) us
      (join_tracks old new rows ts k (reads_in old line vars e) (read ∷ []) (reads_in new line vars cell) (read' ∷ []) none
      (row_visit false line vars x e row k placed lt sum still row_still row_is f4.1))
      (reads_tracks old new rows ts kept once k line vars v f3.1 (reads_clean old line vars v clean)))
      (row_visit true line vars x e row k placed lt sum still row_still row_is f2.1))

  -- ---- statements inside one construct

  module _ (row : Expression) (row_still : is_dynamic row ≡ false) (k : ℕ) (lt : k < rows) where
    abbrev Fine : Steps → Type 0
    Fine steps = AreFine old (walk old steps)

    abbrev Both : Steps → Steps → Type 0
    Both a b = Like k (walk old a) (walk new b)

    abbrev ArePlaced : (List ℕ → Bool) → Type 0
    ArePlaced adds = (y : List ℕ) → adds y ≡ true → IsPlaced old new rows ts y

    assign_tracks : (line : ℕ) (x : List ℕ) (e value : Expression) (vars : Vars) → HasRow new row k vars
        → statement_unshaped 1 (Assign line x e value) ≡ None → Fine (Set line vars x e value Done)
        → ArePlaced (λ y. statement_has_add y (Assign line x e value))
        → Both (Set line vars x e value Done) (statement_work (spread_assign old row line x e value (added x e value)) vars)
    assign_tracks line x e value vars row_is shape fine placed = by_case (added x e value) refl
      where
        by_case : (o : Option Expression) → added x e value ≡ o → Both (Set line vars x e value Done) (statement_work (spread_assign old row line x e value o) vars)
        by_case None h =
            let p = none_cond (is_unshaped 1 (Assign line x e value)) line None shape in
            let calm = calm_one (mentions_sum (Assign line x e value)) (is_some (added x e value)) p.0 (ap (λ (o : Option Expression). is_some o) h) in
            steps_tracks old new rows ts kept once k (Set line vars x e value Done) fine (assign_clean old line vars x e value calm)
        by_case (Some v) h =
            let a = added_is x e value v h in
            let adds : statement_has_add x (Assign line x e value) ≡ true = rw (nat_list_eq_equiv.refl x, h) refl in
            let fine_add : Fine (Set line vars x e (Binary Add (Read x e) v) Done) = subst (λ z. Fine (Set line vars x e z Done)) a.value_is fine in
            let to = statement_work (spread_assign old row line x e value (Some v)) vars in
            subst (λ z. Both (Set line vars x e z Done) to) (sym a.value_is)
            (add_tracks line vars x e v row k (placed x adds) lt a.sum a.still row_still row_is a.clean fine_add)

    more_taken : (taken : List (List ℕ)) (var : List ℕ) → StaysRow new row k taken → StaysRow new row k (var ∷ taken)
    more_taken taken var stays name x vars new_name = stays name x vars (or_false (name_eq var name) (is_among name taken) new_name).1

    mutual
      pub statement_tracks : (s : Statement) (vars : Vars) (taken : List (List ℕ)) → HasRow new row k vars → StaysRow new row k taken
          → statement_has_new_variables s taken ≡ true → statement_unshaped 1 s ≡ None → AreFine old (walk old (statement_work s vars))
          → ((y : List ℕ) → statement_has_add y s ≡ true → IsPlaced old new rows ts y)
          → Tracks old new rows ts k (walk old (statement_work s vars)) (walk new (statement_work (statement_spread_inside old row s) vars))
      statement_tracks (Assign line x e value) vars taken row_is stays names shape fine placed = assign_tracks line x e value vars row_is shape fine placed
      statement_tracks (For line var low high body) vars taken row_is stays names shape fine placed =
          let n = and_parts (not (is_among var taken)) (has_new_variables body (var ∷ taken)) names in
          turns_tracks old new rows ts k (λ x. sequence_work body ((var, x) ∷ vars)) (λ x. sequence_work (spread_inside old row body) ((var, x) ∷ vars)) low (span low high)
          (λ i less. sequence_tracks body ((var, low +ℤ pos i) ∷ vars) (var ∷ taken) (stays var (low +ℤ pos i) vars (not-true (is_among var taken) n.0) row_is)
          (more_taken taken var stays) n.1 shape (turns_fine old (λ x. sequence_work body ((var, x) ∷ vars)) low (span low high) fine i less) placed)
      statement_tracks (If line test a b) vars taken row_is stays names shape fine placed =
          let n = and_parts (has_new_variables a taken) (has_new_variables b taken) names in
          let p = none_cond (is_unshaped 1 (If line test a b)) line (option_or (unshaped 1 a) (unshaped 1 b)) shape in
          let q = none_or (unshaped 1 a) (unshaped 1 b) p.1 in
          let f = sides_fine old line test a b vars fine in
          let a' = walk new (sequence_work (spread_inside old row a) vars) in
          let b' = walk new (sequence_work (spread_inside old row b) vars) in
          join_tracks old new rows ts k (reads_in old line vars test) (walk old (sequence_work a vars) ++ (walk old (sequence_work b vars) ++ [])) (reads_in new line vars test) (a' ++ (b' ++ []))
          (reads_tracks old new rows ts kept once k line vars test f.0 (reads_clean old line vars test (calm_one (reads_sum test) false p.0 refl)))
          (join_tracks old new rows ts k (walk old (sequence_work a vars)) (walk old (sequence_work b vars) ++ []) a' (b' ++ [])
          (sequence_tracks a vars taken row_is stays n.0 q.0 f.1 (λ y h. placed y (or_left (has_add y a) (has_add y b) h)))
          (join_tracks old new rows ts k (walk old (sequence_work b vars)) [] b' []
          (sequence_tracks b vars taken row_is stays n.1 q.1 f.2 (λ y h. placed y (or_right (has_add y a) (has_add y b) h)))
          (no_tracks old new rows ts k)))
      statement_tracks (Par line branches) vars taken row_is stays names shape fine placed =
          steps_tracks old new rows ts kept once k (branches_work branches vars) fine (branches_clean old 2 (omega arith) branches vars shape)
      statement_tracks (Team line var low high members phases) vars taken row_is stays names shape fine placed =
          steps_tracks old new rows ts kept once k (phases_work phases var low high vars) fine (phases_clean old 2 (omega arith) phases var low high vars shape)

      pub sequence_tracks : (s : Sequence) (vars : Vars) (taken : List (List ℕ)) → HasRow new row k vars → StaysRow new row k taken
          → has_new_variables s taken ≡ true → unshaped 1 s ≡ None → AreFine old (walk old (sequence_work s vars))
          → ((y : List ℕ) → has_add y s ≡ true → IsPlaced old new rows ts y)
          → Tracks old new rows ts k (walk old (sequence_work s vars)) (walk new (sequence_work (spread_inside old row s) vars))
      sequence_tracks ended vars taken row_is stays names shape fine placed = no_tracks old new rows ts k
      sequence_tracks (followed first rest) vars taken row_is stays names shape fine placed =
          let n = and_parts (statement_has_new_variables first taken) (has_new_variables rest taken) names in
          let p = none_or (statement_unshaped 1 first) (unshaped 1 rest) shape in
          let f = then_fine old (statement_work first vars) (sequence_work rest vars) fine in
          then_tracks old new rows ts k (statement_work first vars) (sequence_work rest vars)
          (statement_work (statement_spread_inside old row first) vars) (sequence_work (spread_inside old row rest) vars)
          (statement_tracks first vars taken row_is stays n.0 p.0 f.0 (λ y h. placed y (or_left (statement_has_add y first) (has_add y rest) h)))
          (sequence_tracks rest vars taken row_is stays n.1 p.1 f.1 (λ y h. placed y (or_right (statement_has_add y first) (has_add y rest) h)))

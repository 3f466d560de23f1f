-- The sites inside a construct stay, and their pieces touch the same cells in both programs.
use Rattle.std.proofs.Common.{◌≡◌, ℕ, zero, suc, ◌+◌, ◌-◌, ◌*◌, ◌/◌, ◌<◌, ◌≤◌, List, [], ◌∷◌, Option, Some, None, ℤ, pos, ◌+ℤ◌, ap, ◌∙◌, subst, arith}
use Rattle.std.specs.Prelude.{◌↔◌, unsigned_abs}
use Rattle.std.specs.Option.{option_or}
use Rattle.std.proofs.Math.Nat.{mul-div_cancel, mul-le-mul_right, div-mul-le_self, div-lt_iff_lt-mul}
use Rattle.std.proofs.lemmas.Nat.{le-div}
use Rattle.std.proofs.lemmas.Int.{ints}
use Rattle.array_tree.specs.Trees.{Expression, Statement, Assign, For, If, Par, Team, Sequence, ended, followed, Sequences, no_more, beside}
use Rattle.array_meaning.specs.Stores.{Arrays, Vars, cells_of}
use Rattle.array_meaning.specs.Steps.{Steps}
use Rattle.array_meaning.specs.Work.{Work, span, loop, statement_work, sequence_work, branches_work, phases_work}
use Rattle.array_meaning.specs.Touch.{walk}
use Rattle.array_meaning.specs.Members.{first_of, start_of, member_works, team_works}
use Rattle.array_meaning.specs.Sites.{Site, branch_works, phase_rounds, turn_sites, statement_sites, sequence_sites, branches_sites, phases_sites, AreRoundsApart}
use Rattle.array_meaning.proofs.MemberLemmas.{span_cut, first_of_far}
use Rattle.spread_laws.specs.Adds.{added}
use Rattle.spread_laws.specs.Spread.{spread_assign, spread_inside, statement_spread_inside}
use Rattle.spread_laws.specs.Faults.{is_unshaped, unshaped, statement_unshaped, any_unshaped}
use Rattle.spread_laws.specs.Apart.{AreRoundsApartButForSums}
use Rattle.spread_laws.proofs.Owing.{Tally, AreLaid}
use Rattle.spread_laws.proofs.Free.{AreFine, AreKept, then_fine, turns_fine}
use Rattle.spread_laws.proofs.Inside.{none_or, none_cond, sides_fine}
use Rattle.spread_laws.proofs.Named.{AreSingle}
use Rattle.spread_laws.proofs.Tracks.{Tracks, turns_tracks, steps_tracks}
use Rattle.spread_laws.proofs.Tracked.{sequence_clean}
use Rattle.spread_laws.proofs.Rounds.{both_sides, AreTracked, round_agrees, AreAlike, join_alike}

-- ---- the iterations of a member

-- The row of an iteration is that of its member.
pub member_of : (n m j t : ℕ) → 0 < m → t < n → first_of n m j ≤ t → t < first_of n m (j + 1) → ((t + 1) * m - 1) / n ≡ j
member_of n m j t some less from below =
    let before : n * j < (t + 1) * m = (div-lt_iff_lt-mul some).0 (omega (arith, from)) in
    let whole : n * (j + 1) / m * m ≤ n * (j + 1) = div-mul-le_self (n * (j + 1)) m in
    let most : (t + 1) * m ≤ n * (j + 1) / m * m = mul-le-mul_right m (omega (arith, below)) in
    let one : 1 * m ≤ (t + 1) * m = mul-le-mul_right m (let le : 1 ≤ t + 1 = omega arith in le) in
    let high : ((t + 1) * m - 1) / n < j + 1 = (div-lt_iff_lt-mul (let positive : 0 < n = omega (arith, less) in positive)).1 (omega (arith, whole, most, one, some)) in
    let low : j ≤ ((t + 1) * m - 1) / n = le-div j ((t + 1) * m - 1) n (omega (arith, less)) (omega (arith, before)) in
    omega (arith, high, low)

module _ (old new : Arrays) (end rows : ℕ) (ts : List Tally) (laid : AreLaid (cells_of old) end rows ts) where
  -- A member's work touches what its iterations touch.
  module _ (var : List ℕ) (low high : ℤ) (m : ℕ) (body body' : Work) (vars : Vars)
      (each : (j t : ℕ) → t < span low high → first_of (span low high) m j ≤ t → t < first_of (span low high) m (j + 1)
      → Tracks old new rows ts j (walk old (body ((var, low +ℤ pos t) ∷ vars))) (walk new (body' ((var, low +ℤ pos t) ∷ vars)))) where
    pub members_tracked : (j k : ℕ) → j + k ≡ m → AreTracked old new end rows ts laid j (member_works var low high m body j k vars) (member_works var low high m body' j k vars)
    members_tracked j zero all = tt
    members_tracked j (suc k) all =
        let n = span low high in
        let a = first_of n m j in
        let b = first_of n m (j + 1) in
        let next : j + 1 + k ≡ m = omega (arith, all) in
        let some : 0 < m = omega (arith, all) in
        let most : b ≤ first_of n m (j + 1 + k) = first_of_far n m (j + 1) k in
        let whole : first_of n m (j + 1 + k) ≡ n = ap (λ (x : ℕ). n * x / m) next ∙ mul-div_cancel n some in
        let ordered : a ≤ b = first_of_far n m j 1 in
        let count : span (start_of low high m j) (start_of low high m (j + 1)) ≡ b - a = span_cut low a b ordered in (
          turns_tracks old new rows ts j (λ x. body ((var, x) ∷ vars)) (λ x. body' ((var, x) ∷ vars)) (start_of low high m j) (span (start_of low high m j) (start_of low high m (j + 1)))
              (λ i less.
              let at : low +ℤ pos (a + i) ≡ start_of low high m j +ℤ pos i = omega (arith, ints) in
              subst (λ x. Tracks old new rows ts j (walk old (body ((var, x) ∷ vars))) (walk new (body' ((var, x) ∷ vars)))) at
              (each j (a + i) (omega (arith, less, count, most, whole)) (omega arith) (omega (arith, less, count)))),
          members_tracked (j + 1) k next,
        )

  pub turns_alike : (f g : ℤ → List Site) (low : ℤ) (n : ℕ) → ((i : ℕ) → i < n → AreAlike old new (f (low +ℤ pos i)) (g (low +ℤ pos i)))
      → AreAlike old new (turn_sites f low n) (turn_sites g low n)
  turns_alike f g low zero each = tt
  turns_alike f g low (suc n) each =
      let none : low +ℤ pos 0 ≡ low = omega (arith, ints) in
      join_alike old new (f low) (g low) (turn_sites f (low +ℤ pos 1) n) (turn_sites g (low +ℤ pos 1) n)
      (subst (λ x. AreAlike old new (f x) (g x)) none (each 0 (omega arith)))
      (turns_alike f g (low +ℤ pos 1) n (λ i lt.
      let next : low +ℤ pos (suc i) ≡ low +ℤ pos 1 +ℤ pos i = omega (arith, ints) in
      subst (λ x. AreAlike old new (f x) (g x)) next (each (suc i) (omega (arith, lt)))))

  module _ (kept : AreKept old new) (once : AreSingle old) where
    abbrev Fine : Steps → Type 0
    Fine steps = AreFine old (walk old steps)

    -- ---- statements that stay

    branches_stay : (d : ℕ) → 2 ≤ d → (k : ℕ) (bs : Sequences) (vars : Vars) → any_unshaped d bs ≡ None → Fine (branches_work bs vars)
        → AreTracked old new end rows ts laid k (branch_works bs vars) (branch_works bs vars)
    branches_stay d deep k no_more vars shape fine = tt
    branches_stay d deep k (beside first rest) vars shape fine =
        let p = none_or (unshaped d first) (any_unshaped d rest) shape in
        let f = then_fine old (sequence_work first vars) (branches_work rest vars) fine in (
          steps_tracks old new rows ts kept once k (sequence_work first vars) f.0 (sequence_clean old d deep first vars p.0),
          branches_stay d deep (k + 1) rest vars p.1 f.1,
        )

    phases_stay : (d : ℕ) → 2 ≤ d → (bs : Sequences) (var : List ℕ) (low high : ℤ) (m : ℕ) (vars : Vars) → any_unshaped d bs ≡ None → Fine (phases_work bs var low high vars)
        → AreRoundsApart new (phase_rounds bs var low high m vars) ↔ AreRoundsApartButForSums old (phase_rounds bs var low high m vars)
    phases_stay d deep no_more var low high m vars shape fine = (λ p. tt, λ p. tt)
    phases_stay d deep (beside first rest) var low high m vars shape fine =
        let p = none_or (unshaped d first) (any_unshaped d rest) shape in
        let f = then_fine old (loop var low high (sequence_work first) vars) (phases_work rest var low high vars) fine in
        let works = team_works var low high m (sequence_work first) vars in
        both_sides
        (round_agrees old new end rows ts laid works works
        (members_tracked var low high m (sequence_work first) (sequence_work first) vars
        (λ j t less from below. steps_tracks old new rows ts kept once j (sequence_work first ((var, low +ℤ pos t) ∷ vars))
        (turns_fine old (λ x. sequence_work first ((var, x) ∷ vars)) low (span low high) f.0 t less) (sequence_clean old d deep first ((var, low +ℤ pos t) ∷ vars) p.0))
        0 m (omega arith)))
        (phases_stay d deep rest var low high m vars p.1 f.1)

    mutual
      pub statement_stays : (d : ℕ) → 1 ≤ d → (s : Statement) (vars : Vars) → statement_unshaped d s ≡ None → AreFine old (walk old (statement_work s vars))
          → AreAlike old new (statement_sites s vars) (statement_sites s vars)
      statement_stays d deep (Assign line x i e) vars shape fine = tt
      statement_stays d deep (For line var low high body) vars shape fine =
          turns_alike (λ x. sequence_sites body ((var, x) ∷ vars)) (λ x. sequence_sites body ((var, x) ∷ vars)) low (span low high)
          (λ i less. sequence_stays d deep body ((var, low +ℤ pos i) ∷ vars) shape (turns_fine old (λ x. sequence_work body ((var, x) ∷ vars)) low (span low high) fine i less))
      statement_stays d deep (If line test a b) vars shape fine =
          let p = none_cond (is_unshaped d (If line test a b)) line (option_or (unshaped d a) (unshaped d b)) shape in
          let q = none_or (unshaped d a) (unshaped d b) p.1 in
          let f = sides_fine old line test a b vars fine in
          join_alike old new (sequence_sites a vars) (sequence_sites a vars) (sequence_sites b vars) (sequence_sites b vars)
          (sequence_stays d deep a vars q.0 f.1) (sequence_stays d deep b vars q.1 f.2)
      statement_stays d deep (Par line branches) vars shape fine = (
        both_sides (round_agrees old new end rows ts laid (branch_works branches vars) (branch_works branches vars)
            (branches_stay (d + 1) (omega (arith, deep)) 0 branches vars shape fine)) (λ p. tt, λ p. tt),
        branches_stays (d + 1) (omega (arith, deep)) branches vars shape fine,
      )
      statement_stays d deep (Team line var low high members phases) vars shape fine = (
        phases_stay (d + 1) (omega (arith, deep)) phases var low high (unsigned_abs members) vars shape fine,
        phases_stays (d + 1) (omega (arith, deep)) phases var low high vars shape fine,
      )

      pub sequence_stays : (d : ℕ) → 1 ≤ d → (s : Sequence) (vars : Vars) → unshaped d s ≡ None → AreFine old (walk old (sequence_work s vars))
          → AreAlike old new (sequence_sites s vars) (sequence_sites s vars)
      sequence_stays d deep ended vars shape fine = tt
      sequence_stays d deep (followed first rest) vars shape fine =
          let p = none_or (statement_unshaped d first) (unshaped d rest) shape in
          let f = then_fine old (statement_work first vars) (sequence_work rest vars) fine in
          join_alike old new (statement_sites first vars) (statement_sites first vars) (sequence_sites rest vars) (sequence_sites rest vars)
          (statement_stays d deep first vars p.0 f.0) (sequence_stays d deep rest vars p.1 f.1)

      branches_stays : (d : ℕ) → 1 ≤ d → (bs : Sequences) (vars : Vars) → any_unshaped d bs ≡ None → Fine (branches_work bs vars)
          → AreAlike old new (branches_sites bs vars) (branches_sites bs vars)
      branches_stays d deep no_more vars shape fine = tt
      branches_stays d deep (beside first rest) vars shape fine =
          let p = none_or (unshaped d first) (any_unshaped d rest) shape in
          let f = then_fine old (sequence_work first vars) (branches_work rest vars) fine in
          join_alike old new (sequence_sites first vars) (sequence_sites first vars) (branches_sites rest vars) (branches_sites rest vars)
          (sequence_stays d deep first vars p.0 f.0) (branches_stays d deep rest vars p.1 f.1)

      phases_stays : (d : ℕ) → 1 ≤ d → (bs : Sequences) (var : List ℕ) (low high : ℤ) (vars : Vars) → any_unshaped d bs ≡ None → Fine (phases_work bs var low high vars)
          → AreAlike old new (phases_sites bs var low high vars) (phases_sites bs var low high vars)
      phases_stays d deep no_more var low high vars shape fine = tt
      phases_stays d deep (beside first rest) var low high vars shape fine =
          let p = none_or (unshaped d first) (any_unshaped d rest) shape in
          let f = then_fine old (loop var low high (sequence_work first) vars) (phases_work rest var low high vars) fine in
          let turn : ℤ → List Site = λ x. sequence_sites first ((var, x) ∷ vars) in
          join_alike old new (turn_sites turn low (span low high)) (turn_sites turn low (span low high)) (phases_sites rest var low high vars) (phases_sites rest var low high vars)
          (turns_alike turn turn low (span low high)
          (λ i less. sequence_stays d deep first ((var, low +ℤ pos i) ∷ vars) p.0 (turns_fine old (λ x. sequence_work first ((var, x) ∷ vars)) low (span low high) f.0 i less)))
          (phases_stays d deep rest var low high vars p.1 f.1)

    -- ---- statements in a branch or an iteration

    module _ (row : Expression) where
      assign_sites : (line : ℕ) (x : List ℕ) (e value : Expression) (vars : Vars) (o : Option Expression) → AreAlike old new [] (statement_sites (spread_assign old row line x e value o) vars)
      assign_sites line x e value vars None = tt
      assign_sites line x e value vars (Some v) = tt

      mutual
        statement_sites_alike : (s : Statement) (vars : Vars) → statement_unshaped 1 s ≡ None → Fine (statement_work s vars)
            → AreAlike old new (statement_sites s vars) (statement_sites (statement_spread_inside old row s) vars)
        statement_sites_alike (Assign line x e value) vars shape fine = assign_sites line x e value vars (added x e value)
        statement_sites_alike (For line var low high body) vars shape fine =
            turns_alike (λ x. sequence_sites body ((var, x) ∷ vars)) (λ x. sequence_sites (spread_inside old row body) ((var, x) ∷ vars)) low (span low high)
            (λ i less. sequence_sites_alike body ((var, low +ℤ pos i) ∷ vars) shape (turns_fine old (λ x. sequence_work body ((var, x) ∷ vars)) low (span low high) fine i less))
        statement_sites_alike (If line test a b) vars shape fine =
            let p = none_cond (is_unshaped 1 (If line test a b)) line (option_or (unshaped 1 a) (unshaped 1 b)) shape in
            let q = none_or (unshaped 1 a) (unshaped 1 b) p.1 in
            let f = sides_fine old line test a b vars fine in
            join_alike old new (sequence_sites a vars) (sequence_sites (spread_inside old row a) vars) (sequence_sites b vars) (sequence_sites (spread_inside old row b) vars)
            (sequence_sites_alike a vars q.0 f.1) (sequence_sites_alike b vars q.1 f.2)
        statement_sites_alike (Par line branches) vars shape fine = statement_stays 1 (omega arith) (Par line branches) vars shape fine
        statement_sites_alike (Team line var low high members phases) vars shape fine = statement_stays 1 (omega arith) (Team line var low high members phases) vars shape fine

        pub sequence_sites_alike : (s : Sequence) (vars : Vars) → unshaped 1 s ≡ None → AreFine old (walk old (sequence_work s vars))
            → AreAlike old new (sequence_sites s vars) (sequence_sites (spread_inside old row s) vars)
        sequence_sites_alike ended vars shape fine = tt
        sequence_sites_alike (followed first rest) vars shape fine =
            let p = none_or (statement_unshaped 1 first) (unshaped 1 rest) shape in
            let f = then_fine old (statement_work first vars) (sequence_work rest vars) fine in
            join_alike old new (statement_sites first vars) (statement_sites (statement_spread_inside old row first) vars) (sequence_sites rest vars) (sequence_sites (spread_inside old row rest) vars)
            (statement_sites_alike first vars p.0 f.0) (sequence_sites_alike rest vars p.1 f.1)

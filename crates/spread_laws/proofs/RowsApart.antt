-- The sites of the spread program are apart iff those of the given one are, up to accumulating arrays.
use Rattle.std.proofs.Common.{◌≡◌, ℕ, zero, suc, ◌+◌, ◌*◌, ◌<◌, ◌≤◌, true, false, List, [], ◌∷◌, ◌++◌, map, None, ℤ, pos, ◌+ℤ◌, refl, sym, ap, ◌∙◌, subst, arith}
use Rattle.std.specs.Prelude.{◌↔◌, not, unsigned_abs}
use Rattle.std.specs.Option.{option_or}
use Rattle.std.proofs.lemmas.Bool.{and_parts, or_left, or_right}
use Rattle.array_tree.specs.Trees.{Expression, Number, Statement, Assign, For, If, Par, Team, Sequence, ended, followed, Sequences, no_more, beside, ProgramTree}
use Rattle.array_meaning.specs.Stores.{Arrays, Vars, arrays_of, cells_of, is_dynamic}
use Rattle.array_meaning.specs.Steps.{Steps}
use Rattle.array_meaning.specs.Work.{span, loop, statement_work, sequence_work, branches_work, phases_work}
use Rattle.array_meaning.specs.Touch.{walk}
use Rattle.array_meaning.specs.Names.{is_among, are_declared_once, names_of, has_new_variables, statement_has_new_variables, have_new_variables, has_known_names}
use Rattle.array_meaning.specs.Limits.{count_of}
use Rattle.array_meaning.specs.Members.{first_of, team_works}
use Rattle.array_meaning.specs.Sites.{Site, branch_works, phase_rounds, turn_sites, statement_sites, sequence_sites, branches_sites, phases_sites, AreRoundsApart}
use Rattle.array_meaning.specs.Accepted.{HasApartSites}
use Rattle.array_meaning.proofs.InsideLemmas.{names_in, names_in_of}
use Rattle.array_meaning.proofs.KnownLemmas.{sequence_known}
use Rattle.spread_laws.specs.Adds.{has_add, have_add}
use Rattle.spread_laws.specs.Spread.{zero_loop, fold_loop, added_in, with_loops, and_rest, spread_inside, spread_branches, spread_phases, member_row, spread_sequence, spread_statement, spread_of}
use Rattle.spread_laws.specs.Faults.{is_unshaped, unshaped, statement_unshaped, any_unshaped, spread_fault_of}
use Rattle.spread_laws.specs.Served.{HasMeaning, IsNarrow, IsNarrowSequence, IsNarrowStatement}
use Rattle.spread_laws.specs.Apart.{AreRoundsApartButForSums, HasApartSitesButForSums}
use Rattle.spread_laws.proofs.Owing.{Tally, AreLaid}
use Rattle.spread_laws.proofs.Free.{AreFine, AreKept, then_fine, turns_fine}
use Rattle.spread_laws.proofs.Inside.{IsPlaced, none_or, none_cond, sides_fine}
use Rattle.spread_laws.proofs.Mirrors.{HasRow, StaysRow}
use Rattle.spread_laws.proofs.MemberRows.{row_still, member_at, member_less, has_row, stays_row}
use Rattle.spread_laws.proofs.Plans.{rest_append}
use Rattle.spread_laws.proofs.Around.{tally_of}
use Rattle.spread_laws.proofs.Behind.{arrays_kept}
use Rattle.spread_laws.proofs.Named.{AreSingle, single}
use Rattle.spread_laws.proofs.Outside.{AreBuilt, HasBuilt}
use Rattle.spread_laws.proofs.Built.{no_fault, program_built}
use Rattle.spread_laws.proofs.Tracked.{sequence_tracks}
use Rattle.spread_laws.proofs.Rounds.{both_sides, AreTracked, round_agrees, AreAlike, join_alike, sites_agree}
use Rattle.spread_laws.proofs.InnerSites.{member_of, members_tracked, turns_alike, sequence_sites_alike}

-- ---- the loops around a construct have no sites

no_turn_sites : (low : ℤ) (n : ℕ) → turn_sites (λ x. []) low n ≡ []
no_turn_sites low zero = refl
no_turn_sites low (suc n) = no_turn_sites (low +ℤ pos 1) n

zero_sites : (line rows : ℕ) (a : List ℕ × ℕ) (vars : Vars) → statement_sites (zero_loop line rows a) vars ≡ []
zero_sites line rows a vars = no_turn_sites (pos 0) (span (pos 0) (pos (rows * a.1)))

fold_sites : (line rows : ℕ) (a : List ℕ × ℕ) (vars : Vars) → statement_sites (fold_loop line rows a) vars ≡ []
fold_sites line rows a vars = no_turn_sites (pos 0) (span (pos 0) (pos (rows * a.1)))

no_sites_first : (f : List ℕ × ℕ → Statement) (vars : Vars) → ((a : List ℕ × ℕ) → statement_sites (f a) vars ≡ []) → (cs : Arrays) (rest : Sequence)
    → sequence_sites (and_rest (map f cs) rest) vars ≡ sequence_sites rest vars
no_sites_first f vars none [] rest = refl
no_sites_first f vars none (c ∷ more) rest =
    ap (λ xs. xs ++ sequence_sites (and_rest (map f more) rest) vars) (none c) ∙ no_sites_first f vars none more rest

loops_sites : (line rows : ℕ) (cs : Arrays) (c : Statement) (rest : Sequence) (vars : Vars)
    → sequence_sites (and_rest (with_loops line rows cs c) rest) vars ≡ statement_sites c vars ++ sequence_sites rest vars
loops_sites line rows cs c rest vars =
    ap (λ s. sequence_sites s vars) (rest_append (map (zero_loop line rows) cs) (c ∷ map (fold_loop line rows) cs) rest)
    ∙ no_sites_first (zero_loop line rows) vars (λ a. zero_sites line rows a vars) cs (followed c (and_rest (map (fold_loop line rows) cs) rest))
    ∙ ap (λ xs. statement_sites c vars ++ xs) (no_sites_first (fold_loop line rows) vars (λ a. fold_sites line rows a vars) cs rest)

module _ (old new : Arrays) (kept : AreKept old new) (once : AreSingle old) (end : ℕ) where
  abbrev Fine : Steps → Type 0
  Fine steps = AreFine old (walk old steps)

  -- ---- a construct

  module _ (rows : ℕ) (ts : List Tally) (laid : AreLaid (cells_of old) end rows ts) where
    branches_tracked : (from : ℕ) (bs : Sequences) (vars : Vars) (taken : List (List ℕ)) → from + count_of bs ≤ rows
        → have_new_variables bs taken ≡ true → any_unshaped 1 bs ≡ None → Fine (branches_work bs vars)
        → ((y : List ℕ) → have_add y bs ≡ true → IsPlaced old new rows ts y)
        → AreTracked old new end rows ts laid from (branch_works bs vars) (branch_works (spread_branches old from bs) vars)
    branches_tracked from no_more vars taken room names shape fine placed = tt
    branches_tracked from (beside first rest) vars taken room names shape fine placed =
        let n = and_parts (has_new_variables first taken) (have_new_variables rest taken) names in
        let p = none_or (unshaped 1 first) (any_unshaped 1 rest) shape in
        let f = then_fine old (sequence_work first vars) (branches_work rest vars) fine in (
          sequence_tracks old new kept once rows ts (Number (pos from)) refl from (omega (arith, room)) first vars taken (λ t. refl) (λ name x vs no h. λ t. refl) n.0 p.0 f.0
              (λ y h. placed y (or_left (has_add y first) (have_add y rest) h)),
          branches_tracked (from + 1) rest vars taken (omega (arith, room)) n.1 p.1 f.1 (λ y h. placed y (or_right (has_add y first) (have_add y rest) h)),
        )

    branches_alike : (from : ℕ) (bs : Sequences) (vars : Vars) → any_unshaped 1 bs ≡ None → Fine (branches_work bs vars)
        → AreAlike old new (branches_sites bs vars) (branches_sites (spread_branches old from bs) vars)
    branches_alike from no_more vars shape fine = tt
    branches_alike from (beside first rest) vars shape fine =
        let p = none_or (unshaped 1 first) (any_unshaped 1 rest) shape in
        let f = then_fine old (sequence_work first vars) (branches_work rest vars) fine in
        join_alike old new (sequence_sites first vars) (sequence_sites (spread_inside old (Number (pos from)) first) vars) (branches_sites rest vars) (branches_sites (spread_branches old (from + 1) rest) vars)
        (sequence_sites_alike old new end rows ts laid kept once (Number (pos from)) first vars p.0 f.0)
        (branches_alike (from + 1) rest vars p.1 f.1)

    -- The row expression of a team has for each iteration the row of its member.
    abbrev IsDealt : Expression → List ℕ → ℤ → ℤ → ℕ → Vars → List (List ℕ) → Type 0
    IsDealt row var low high m vars taken = (j t : ℕ) → t < span low high → first_of (span low high) m j ≤ t → t < first_of (span low high) m (j + 1)
        → (j < rows) × HasRow new row j ((var, low +ℤ pos t) ∷ vars) × StaysRow new row j (var ∷ taken)

    phases_tracked : (row : Expression) → is_dynamic row ≡ false → (bs : Sequences) (var : List ℕ) (low high : ℤ) (m : ℕ) (vars : Vars) (taken : List (List ℕ))
        → IsDealt row var low high m vars taken
        → have_new_variables bs (var ∷ taken) ≡ true → any_unshaped 1 bs ≡ None → Fine (phases_work bs var low high vars)
        → ((y : List ℕ) → have_add y bs ≡ true → IsPlaced old new rows ts y)
        → AreRoundsApart new (phase_rounds (spread_phases old row bs) var low high m vars) ↔ AreRoundsApartButForSums old (phase_rounds bs var low high m vars)
    phases_tracked row still no_more var low high m vars taken deal names shape fine placed = (λ p. tt, λ p. tt)
    phases_tracked row still (beside first rest) var low high m vars taken deal names shape fine placed =
        let n = and_parts (has_new_variables first (var ∷ taken)) (have_new_variables rest (var ∷ taken)) names in
        let p = none_or (unshaped 1 first) (any_unshaped 1 rest) shape in
        let f = then_fine old (loop var low high (sequence_work first) vars) (phases_work rest var low high vars) fine in
        both_sides
        (round_agrees old new end rows ts laid (team_works var low high m (sequence_work first) vars) (team_works var low high m (sequence_work (spread_inside old row first)) vars)
        (members_tracked old new end rows ts laid var low high m (sequence_work first) (sequence_work (spread_inside old row first)) vars
        (λ j t less from below. let d = deal j t less from below in
        sequence_tracks old new kept once rows ts row still j d.0 first ((var, low +ℤ pos t) ∷ vars) (var ∷ taken) d.1 d.2 n.0 p.0
        (turns_fine old (λ x. sequence_work first ((var, x) ∷ vars)) low (span low high) f.0 t less) (λ y h. placed y (or_left (has_add y first) (have_add y rest) h)))
        0 m (omega arith)))
        (phases_tracked row still rest var low high m vars taken deal n.1 p.1 f.1 (λ y h. placed y (or_right (has_add y first) (have_add y rest) h)))

    phases_alike : (row : Expression) (bs : Sequences) (var : List ℕ) (low high : ℤ) (vars : Vars) → any_unshaped 1 bs ≡ None → Fine (phases_work bs var low high vars)
        → AreAlike old new (phases_sites bs var low high vars) (phases_sites (spread_phases old row bs) var low high vars)
    phases_alike row no_more var low high vars shape fine = tt
    phases_alike row (beside first rest) var low high vars shape fine =
        let p = none_or (unshaped 1 first) (any_unshaped 1 rest) shape in
        let f = then_fine old (loop var low high (sequence_work first) vars) (phases_work rest var low high vars) fine in
        let turn : ℤ → List Site = λ x. sequence_sites first ((var, x) ∷ vars) in
        let spread_turn : ℤ → List Site = λ x. sequence_sites (spread_inside old row first) ((var, x) ∷ vars) in
        join_alike old new (turn_sites turn low (span low high)) (turn_sites spread_turn low (span low high)) (phases_sites rest var low high vars) (phases_sites (spread_phases old row rest) var low high vars)
        (turns_alike old new end rows ts laid turn spread_turn low (span low high)
        (λ i less. sequence_sites_alike old new end rows ts laid kept once row first ((var, low +ℤ pos i) ∷ vars) p.0
        (turns_fine old (λ x. sequence_work first ((var, x) ∷ vars)) low (span low high) f.0 i less)))
        (phases_alike row rest var low high vars p.1 f.1)

  -- ---- statements outside constructs

  no_tallies : AreLaid (cells_of old) (cells_of old) 0 []
  no_tallies = record { longer = omega arith; below = λ a in_a. absurd in_a; above = λ a in_a. absurd in_a; within = λ a in_a. absurd in_a; clear = tt }

  mutual
    statement_alike : (s : Statement) (rest rest' : Sequence) (vars : Vars) (taken : List (List ℕ)) → IsNarrowStatement s → HasBuilt old new end s
        → statement_has_new_variables s taken ≡ true → statement_unshaped 0 s ≡ None → Fine (statement_work s vars)
        → AreAlike old new (sequence_sites rest vars) (sequence_sites rest' vars)
        → AreAlike old new (statement_sites s vars ++ sequence_sites rest vars) (sequence_sites (and_rest (spread_statement old s) rest') vars)
    statement_alike (Assign line x i e) rest rest' vars taken narrow built names shape fine more = more
    statement_alike (For line var low high body) rest rest' vars taken narrow built names shape fine more =
        let m = and_parts (not (is_among var taken)) (has_new_variables body (var ∷ taken)) names in
        let turn : ℤ → List Site = λ x. sequence_sites body ((var, x) ∷ vars) in
        let spread_turn : ℤ → List Site = λ x. sequence_sites (spread_sequence old body) ((var, x) ∷ vars) in
        join_alike old new (turn_sites turn low (span low high)) (turn_sites spread_turn low (span low high)) (sequence_sites rest vars) (sequence_sites rest' vars)
        (turns_alike old new (cells_of old) 0 [] no_tallies turn spread_turn low (span low high)
        (λ i less. sequence_alike body ((var, low +ℤ pos i) ∷ vars) (var ∷ taken) narrow.1.1 (built (omega (arith, less))) m.1 shape
        (turns_fine old (λ x. sequence_work body ((var, x) ∷ vars)) low (span low high) fine i less)))
        more
    statement_alike (If line test a b) rest rest' vars taken narrow built names shape fine more =
        let m = and_parts (has_new_variables a taken) (has_new_variables b taken) names in
        let p = none_cond (is_unshaped 0 (If line test a b)) line (option_or (unshaped 0 a) (unshaped 0 b)) shape in
        let q = none_or (unshaped 0 a) (unshaped 0 b) p.1 in
        let f = sides_fine old line test a b vars fine in
        let a' = sequence_sites (spread_sequence old a) vars in
        let b' = sequence_sites (spread_sequence old b) vars in
        join_alike old new (sequence_sites a vars ++ sequence_sites b vars) (a' ++ b') (sequence_sites rest vars) (sequence_sites rest' vars)
        (join_alike old new (sequence_sites a vars) a' (sequence_sites b vars) b'
        (sequence_alike a vars taken narrow.1.0 built.0 m.0 q.0 f.1) (sequence_alike b vars taken narrow.1.1 built.1 m.1 q.1 f.2))
        more
    statement_alike (Par line branches) rest rest' vars taken narrow built names shape fine more =
        let c = Par line branches in
        let c' = Par line (spread_branches old 0 branches) in
        let rows = count_of branches in
        let cs = added_in old c in
        let ts = map (tally_of new) cs in
        let own : AreAlike old new (statement_sites c vars) (statement_sites c' vars) = (
          both_sides (round_agrees old new end rows ts built.laid (branch_works branches vars) (branch_works (spread_branches old 0 branches) vars)
              (branches_tracked rows ts built.laid 0 branches vars taken (omega arith) names shape fine built.placed)) (λ p. tt, λ p. tt),
          branches_alike rows ts built.laid 0 branches vars shape fine,
        ) in
        subst (AreAlike old new (statement_sites c vars ++ sequence_sites rest vars)) (sym (loops_sites line rows cs c' rest' vars))
        (join_alike old new (statement_sites c vars) (statement_sites c' vars) (sequence_sites rest vars) (sequence_sites rest' vars) own more)
    statement_alike (Team line var low high members phases) rest rest' vars taken narrow built names shape fine more =
        let m = and_parts (not (is_among var taken)) (have_new_variables phases (var ∷ taken)) names in
        let c = Team line var low high members phases in
        let k = unsigned_abs members in
        let row = member_row var low high members in
        let c' = Team line var low high members (spread_phases old row phases) in
        let cs = added_in old c in
        let ts = map (tally_of new) cs in
        let laid = built.0.laid in
        let team = built.1 in
        let same : member_row var low high (pos k) ≡ row = ap (member_row var low high) (sym team.count) in
        let rounds = phases_tracked k ts laid (member_row var low high (pos k)) (row_still var low high (pos k)) phases var low high k vars taken
        (λ j t less from below.
        let is : member_at new var low high k narrow.0 team.few team.some team.short t ≡ j = member_of (span low high) k j t team.some less from below in (
          subst (λ (x : ℕ). x < k) is (member_less new var low high k narrow.0 team.few team.some team.short t less),
          subst (λ (x : ℕ). HasRow new (member_row var low high (pos k)) x ((var, low +ℤ pos t) ∷ vars)) is (has_row new var low high k narrow.0 team.few team.some team.short t less vars),
          stays_row new var low high k narrow.0 team.few team.some team.short j taken,
        ))
        m.1 shape fine built.0.placed in
        let own : AreAlike old new (statement_sites c vars) (statement_sites c' vars) = (
          subst (λ r. AreRoundsApart new (phase_rounds (spread_phases old r phases) var low high k vars) ↔ AreRoundsApartButForSums old (phase_rounds phases var low high k vars)) same rounds,
          phases_alike k ts laid row phases var low high vars shape fine,
        ) in
        subst (AreAlike old new (statement_sites c vars ++ sequence_sites rest vars)) (sym (loops_sites line k cs c' rest' vars))
        (join_alike old new (statement_sites c vars) (statement_sites c' vars) (sequence_sites rest vars) (sequence_sites rest' vars) own more)

    pub sequence_alike : (s : Sequence) (vars : Vars) (taken : List (List ℕ)) → IsNarrowSequence s → AreBuilt old new end s
        → has_new_variables s taken ≡ true → unshaped 0 s ≡ None → AreFine old (walk old (sequence_work s vars))
        → AreAlike old new (sequence_sites s vars) (sequence_sites (spread_sequence old s) vars)
    sequence_alike ended vars taken narrow built names shape fine = tt
    sequence_alike (followed first rest) vars taken narrow built names shape fine =
        let m = and_parts (statement_has_new_variables first taken) (has_new_variables rest taken) names in
        let p = none_or (statement_unshaped 0 first) (unshaped 0 rest) shape in
        let f = then_fine old (statement_work first vars) (sequence_work rest vars) fine in
        statement_alike first rest (spread_sequence old rest) vars taken narrow.0 built.0 m.0 p.0 f.0
        (sequence_alike rest vars taken narrow.1 built.1 m.1 p.1 f.1)

pub rows_apart : (program : ProgramTree) → HasMeaning program → IsNarrow program → spread_fault_of program ≡ None
    → HasApartSites (spread_of program) ↔ HasApartSitesButForSums program
rows_apart program meaning narrow sound =
    let old = arrays_of program.arrays in
    let new = arrays_of (spread_of program).arrays in
    let fault = no_fault program sound in
    let names = and_parts (are_declared_once program.arrays []) (has_new_variables program.body (names_of program.arrays)) meaning.single_names in
    let known : has_known_names program.body (names_in old) [] ≡ true = subst (λ ns. has_known_names program.body ns [] ≡ true) (sym (names_in_of program.arrays)) meaning.known_names in
    let fine : AreFine old (walk old (sequence_work program.body [])) = record { known = sequence_known old (names_in old) program.body [] [] known; inside = meaning.indices } in
    sites_agree old new (sequence_sites program.body []) (sequence_sites (spread_of program).body [])
    (sequence_alike old new (arrays_kept program) (single program.arrays [] names.0) (cells_of new) program.body [] (names_of program.arrays) narrow (program_built program meaning fault.1) names.1 fault.0 fine)

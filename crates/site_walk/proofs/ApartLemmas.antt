-- If each index is inside its array and each name is known, no overlap means that pieces are apart.
use Rattle.std.proofs.Common.{◌≡◌, ℕ, zero, suc, ◌+◌, ◌<◌, ◌≤◌, cond, Bool, true, false, List, [], ◌∷◌, ◌++◌, Option, Some, None, ℤ, pos, negsuc, ◌+ℤ◌, refl, sym, ap, subst, ◌∙◌, arith}
use Rattle.std.specs.Prelude.{◌&&◌, ◌||◌, not, unsigned_abs, nat_eq, nat_lt}
use Rattle.std.proofs.lemmas.Bool.{false≢true, and_parts}
use Rattle.std.proofs.lemmas.Bool.Decides.{nat_tests}
use Rattle.std.proofs.lemmas.Int.{ints}
use Rattle.array_tree.specs.Trees.{Statement, Assign, For, If, Par, Team, Sequence, ended, followed, Sequences, no_more, beside, ProgramTree}
use Rattle.array_meaning.specs.Stores.{Arrays, Vars, arrays_of, base_of, length_of, cells_of}
use Rattle.array_meaning.specs.Steps.{Steps, followed_by, join}
use Rattle.array_meaning.specs.Work.{Work, turns, span, loop, statement_work, sequence_work, branches_work, phases_work}
use Rattle.array_meaning.specs.Members.{member_works, team_works}
use Rattle.array_meaning.specs.Touch.{Visit, walk, reads_in}
use Rattle.array_meaning.specs.Overlap.{covers, changed, read, overlaps, first_from, overlap}
use Rattle.array_meaning.specs.Sites.{Site, branch_works, phase_rounds, turn_sites, statement_sites, sequence_sites, branches_sites, phases_sites, AreRoundsApart, AreSitesApart}
use Rattle.array_meaning.specs.Names.{is_among, are_known, names_of, has_only_known_names}
use Rattle.array_meaning.specs.Accepted.{is_inside, are_inside, has_indices_inside, HasApartSites}
use Rattle.array_meaning.proofs.InsideLemmas.{names_in, names_in_of, array_inside}
use Rattle.array_meaning.proofs.KnownLemmas.{sequence_known}
use Rattle.array_meaning.proofs.FrameLemmas.{walk_followed_by}
use Rattle.array_meaning.proofs.MemberLemmas.{members_loop}
use Rattle.array_meaning.proofs.OverlapLemmas.{apart_of_clear}
use Rattle.site_walk.specs.declared.fault.WalkFault.{WalkFault}
use Rattle.std.specs.Option.{option_or}
use Rattle.site_walk.specs.Outside.{out_of_range_of}
use Rattle.site_walk.specs.FirstOverlap.{cell_fault, rounds_fault, site_overlap, overlap_of, walk_fault_of}
use Rattle.site_walk.specs.Firsts.{first_of}
use Rattle.site_walk.proofs.OutsideLemmas.{inside_of_none}
use Rattle.site_walk.proofs.SettledLemmas.{sites_none}

-- ---- a property of each visit of a program holds of each visit of each piece

module _ (arrays : Arrays) (P : Visit → Type 0) where
  abbrev Each : List Visit → Type 0
  Each [] = Unit {0}
  Each (v ∷ more) = P v × Each more

  each_left : (xs ys : List Visit) → Each (xs ++ ys) → Each xs
  each_left [] ys h = tt
  each_left (v ∷ xs) ys h = (h.0, each_left xs ys h.1)

  each_right : (xs ys : List Visit) → Each (xs ++ ys) → Each ys
  each_right [] ys h = h
  each_right (v ∷ xs) ys h = each_right xs ys h.1

  each_append : (xs ys : List Visit) → Each xs → Each ys → Each (xs ++ ys)
  each_append [] ys h k = k
  each_append (v ∷ xs) ys h k = (h.0, each_append xs ys h.1 k)

  abbrev EachPiece : List Steps → Type 0
  EachPiece [] = Unit {0}
  EachPiece (p ∷ more) = Each (walk arrays p) × EachPiece more

  abbrev EachRound : List (List Steps) → Type 0
  EachRound [] = Unit {0}
  EachRound (r ∷ more) = EachPiece r × EachRound more

  abbrev EachSite : List Site → Type 0
  EachSite [] = Unit {0}
  EachSite (s ∷ more) = EachRound s.rounds × EachSite more

  site_append : (xs ys : List Site) → EachSite xs → EachSite ys → EachSite (xs ++ ys)
  site_append [] ys h k = k
  site_append (s ∷ xs) ys h k = (h.0, site_append xs ys h.1 k)

  of_followed : (a b : Steps) → Each (walk arrays (followed_by a b)) → Each (walk arrays a) × Each (walk arrays b)
  of_followed a b h =
      let parts : Each (walk arrays a ++ walk arrays b) = subst Each (walk_followed_by arrays a b) h in
      (each_left (walk arrays a) (walk arrays b) parts, each_right (walk arrays a) (walk arrays b) parts)

  of_join : (ps : List Steps) → Each (walk arrays (join ps)) → EachPiece ps
  of_join [] h = tt
  of_join (p ∷ ps) h = let parts = of_followed p (join ps) h in (parts.0, of_join ps parts.1)

  of_branches : (bs : Sequences) (vars : Vars) → Each (walk arrays (branches_work bs vars)) → EachPiece (branch_works bs vars)
  of_branches no_more vars h = tt
  of_branches (beside first rest) vars h =
      let parts = of_followed (sequence_work first vars) (branches_work rest vars) h in (parts.0, of_branches rest vars parts.1)

  of_team : (var : List ℕ) (low high : ℤ) (m : ℕ) (body : Work) (vars : Vars) → Each (walk arrays (loop var low high body vars)) →
      EachPiece (team_works var low high m body vars)
  of_team var low high zero body vars h = tt
  of_team var low high (suc k) body vars h =
      of_join (member_works var low high (suc k) body 0 (suc k) vars)
      (subst (λ w. Each (walk arrays w)) (sym (members_loop var low high (suc k) body vars (let some : 0 < suc k = omega arith in some))) h)

  of_phases : (phases : Sequences) (var : List ℕ) (low high : ℤ) (m : ℕ) (vars : Vars) → Each (walk arrays (phases_work phases var low high vars)) →
      EachRound (phase_rounds phases var low high m vars)
  of_phases no_more var low high m vars h = tt
  of_phases (beside first rest) var low high m vars h =
      let parts = of_followed (loop var low high (sequence_work first) vars) (phases_work rest var low high vars) h in
      (of_team var low high m (sequence_work first) vars parts.0, of_phases rest var low high m vars parts.1)

  of_turns : (work : ℤ → Steps) (sites : ℤ → List Site) → ((x : ℤ) → Each (walk arrays (work x)) → EachSite (sites x)) → (x : ℤ) (n : ℕ) →
      Each (walk arrays (turns work x n)) → EachSite (turn_sites sites x n)
  of_turns work sites one x zero h = tt
  of_turns work sites one x (suc n) h =
      let parts = of_followed (work x) (turns work (x +ℤ pos 1) n) h in
      site_append (sites x) (turn_sites sites (x +ℤ pos 1) n) (one x parts.0) (of_turns work sites one (x +ℤ pos 1) n parts.1)

  mutual
    of_statement : (s : Statement) (vars : Vars) → Each (walk arrays (statement_work s vars)) → EachSite (statement_sites s vars)
    of_statement (Assign line array index value) vars h = tt
    of_statement (For line var low high body) vars h =
        of_turns (λ x. sequence_work body ((var, x) ∷ vars)) (λ x. sequence_sites body ((var, x) ∷ vars)) (λ x. of_sequence body ((var, x) ∷ vars)) low (span low high) h
    of_statement (If line test then_block else_block) vars h =
        let rest = each_right (reads_in arrays line vars test) (walk arrays (sequence_work then_block vars) ++ (walk arrays (sequence_work else_block vars) ++ [])) h in
        let others = each_right (walk arrays (sequence_work then_block vars)) (walk arrays (sequence_work else_block vars) ++ []) rest in
        site_append (sequence_sites then_block vars) (sequence_sites else_block vars)
        (of_sequence then_block vars (each_left (walk arrays (sequence_work then_block vars)) (walk arrays (sequence_work else_block vars) ++ []) rest))
        (of_sequence else_block vars (each_left (walk arrays (sequence_work else_block vars)) [] others))
    of_statement (Par line branches) vars h = ((of_branches branches vars h, tt), of_inner_branches branches vars h)
    of_statement (Team line var low high members phases) vars h =
        (of_phases phases var low high (unsigned_abs members) vars h, of_inner_phases phases var low high vars h)

    pub of_sequence : (s : Sequence) (vars : Vars) → Each (walk arrays (sequence_work s vars)) → EachSite (sequence_sites s vars)
    of_sequence ended vars h = tt
    of_sequence (followed first rest) vars h =
        let parts = of_followed (statement_work first vars) (sequence_work rest vars) h in
        site_append (statement_sites first vars) (sequence_sites rest vars) (of_statement first vars parts.0) (of_sequence rest vars parts.1)

    of_inner_branches : (bs : Sequences) (vars : Vars) → Each (walk arrays (branches_work bs vars)) → EachSite (branches_sites bs vars)
    of_inner_branches no_more vars h = tt
    of_inner_branches (beside first rest) vars h =
        let parts = of_followed (sequence_work first vars) (branches_work rest vars) h in
        site_append (sequence_sites first vars) (branches_sites rest vars) (of_sequence first vars parts.0) (of_inner_branches rest vars parts.1)

    of_inner_phases : (bs : Sequences) (var : List ℕ) (low high : ℤ) (vars : Vars) → Each (walk arrays (phases_work bs var low high vars)) →
        EachSite (phases_sites bs var low high vars)
    of_inner_phases no_more var low high vars h = tt
    of_inner_phases (beside first rest) var low high vars h =
        let parts = of_followed (loop var low high (sequence_work first) vars) (phases_work rest var low high vars) h in
        site_append (turn_sites (λ x. sequence_sites first ((var, x) ∷ vars)) low (span low high)) (phases_sites rest var low high vars)
        (of_turns (λ x. sequence_work first ((var, x) ∷ vars)) (λ x. sequence_sites first ((var, x) ∷ vars)) (λ x. of_sequence first ((var, x) ∷ vars)) low (span low high) parts.0)
        (of_inner_phases rest var low high vars parts.1)

-- ---- no cell past the last one is touched

IsFit : Arrays → Visit → Type 0
IsFit arrays v = (is_inside (length_of arrays v.array) v.index ≡ true) × (base_of arrays v.array + length_of arrays v.array ≤ cells_of arrays)

fit_visit : (arrays : Arrays) (v : Visit) (c : ℕ) → IsFit arrays v → cells_of arrays ≤ c → covers arrays v.array v.index c ≡ false
unfolding IsFit
fit_visit arrays v c fit far = cases v.index fit.0
  where
    cases : (index : Option ℤ) → is_inside (length_of arrays v.array) index ≡ true → covers arrays v.array index c ≡ false
    cases None inside = let room = fit.1 in grind (arith, nat_tests)
    cases (Some (pos n)) inside =
        let below : n < length_of arrays v.array = grind (arith, ints) in
        let room = fit.1 in
        grind (arith, nat_tests)
    cases (Some (negsuc n)) inside = absurd (false≢true inside)

unchanged : (arrays : Arrays) (vs : List Visit) (c : ℕ) → Each arrays (IsFit arrays) vs → cells_of arrays ≤ c → changed arrays vs c ≡ false
unchanged arrays [] c h far = refl
unchanged arrays (v ∷ vs) c h far =
    ap (λ b. (v.writes && b) || changed arrays vs c) (fit_visit arrays v c h.0 far) ∙ ap (λ b. b || changed arrays vs c) (never v.writes) ∙ unchanged arrays vs c h.1 far
  where
    never : (b : Bool) → (b && false) ≡ false
    never true = refl
    never false = refl

unread : (arrays : Arrays) (vs : List Visit) (c : ℕ) → Each arrays (IsFit arrays) vs → cells_of arrays ≤ c → read arrays vs c ≡ false
unread arrays [] c h far = refl
unread arrays (v ∷ vs) c h far =
    ap (λ b. (not v.writes && b) || read arrays vs c) (fit_visit arrays v c h.0 far) ∙ ap (λ b. b || read arrays vs c) (never (not v.writes)) ∙ unread arrays vs c h.1 far
  where
    never : (b : Bool) → (b && false) ≡ false
    never true = refl
    never false = refl

far_clear : (arrays : Arrays) (ps : List Steps) (c : ℕ) → EachPiece arrays (IsFit arrays) ps → cells_of arrays ≤ c → overlaps arrays false false ps c ≡ false
far_clear arrays [] c h far = refl
far_clear arrays (p ∷ ps) c h far =
    rw (unchanged arrays (walk arrays p) c h.0 far, unread arrays (walk arrays p) c h.0 far) (far_clear arrays ps c h.1 far)

-- ---- no least cell

none_below : (f : ℕ → Bool) (i k : ℕ) → first_from f i k ≡ None → (c : ℕ) → i ≤ c → c < i + k → f c ≡ false
none_below f i zero h c low high = absurd (omega arith)
none_below f i (suc k) h c low high = cases (f i) refl h (λ g. none_below f (i + 1) k g c)
  where
    cases : (b : Bool) → f i ≡ b → cond b (Some i) (first_from f (i + 1) k) ≡ None → (first_from f (i + 1) k ≡ None → i + 1 ≤ c → c < i + 1 + k → f c ≡ false) → f c ≡ false
    cases true e h rest = absurd (cc)
    cases false e h rest = here (nat_eq c i) refl
      where
        here : (b : Bool) → nat_eq c i ≡ b → f c ≡ false
        here true same = ap f (let at : c ≡ i = grind (arith, nat_tests) in at) ∙ e
        here false other = rest h (let more : i + 1 ≤ c = grind (arith, nat_tests) in more) (omega arith)

clear_round : (arrays : Arrays) (ps : List Steps) → EachPiece arrays (IsFit arrays) ps → overlap arrays (cells_of arrays) ps ≡ None → (c : ℕ) → overlaps arrays false false ps c ≡ false
clear_round arrays ps fit none c = cases (nat_lt c (cells_of arrays)) refl
  where
    cases : (b : Bool) → nat_lt c (cells_of arrays) ≡ b → overlaps arrays false false ps c ≡ false
    cases true e = none_below (overlaps arrays false false ps) 0 (cells_of arrays) none c (omega arith) (let small : c < 0 + cells_of arrays = grind (arith, nat_tests) in small)
    cases false e = far_clear arrays ps c fit (let far : cells_of arrays ≤ c = grind (arith, nat_tests) in far)

no_cell : (line : ℕ) (o : Option ℕ) → cell_fault line o ≡ None → o ≡ None
no_cell line None h = refl
no_cell line (Some c) h = absurd (cc)

pub no_fault : (a b : Option WalkFault) → option_or a b ≡ None → (a ≡ None) × (b ≡ None)
no_fault None b h = (refl, h)
no_fault (Some f) b h = absurd (cc)

rounds_apart : (arrays : Arrays) (line : ℕ) (rs : List (List Steps)) → EachRound arrays (IsFit arrays) rs → rounds_fault arrays line rs ≡ None → AreRoundsApart arrays rs
rounds_apart arrays line [] fit h = tt
rounds_apart arrays line (r ∷ rs) fit h =
    let parts = no_fault (cell_fault line (overlap arrays (cells_of arrays) r)) (rounds_fault arrays line rs) h in
    (apart_of_clear arrays r (clear_round arrays r fit.0 (no_cell line (overlap arrays (cells_of arrays) r) parts.0)), rounds_apart arrays line rs fit.1 parts.1)

sites_apart : (arrays : Arrays) (sites : List Site) → EachSite arrays (IsFit arrays) sites → first_of (site_overlap arrays) sites ≡ None → AreSitesApart arrays sites
sites_apart arrays [] fit h = tt
sites_apart arrays (s ∷ sites) fit h =
    let parts = no_fault (rounds_fault arrays s.line s.rounds) (first_of (site_overlap arrays) sites) h in
    (rounds_apart arrays s.line s.rounds fit.0 parts.0, sites_apart arrays sites fit.1 parts.1)

-- ---- the sites of a program

fit_visits : (arrays : Arrays) (vs : List Visit) → are_known (names_in arrays) vs ≡ true → are_inside arrays vs ≡ true → Each arrays (IsFit arrays) vs
unfolding IsFit
fit_visits arrays [] known inside = tt
fit_visits arrays (v ∷ vs) known inside =
    let named = and_parts (is_among v.array (names_in arrays)) (are_known (names_in arrays) vs) known in
    let parts = and_parts (is_inside (length_of arrays v.array) v.index) (are_inside arrays vs) inside in
    ((parts.0, array_inside arrays v.array named.0), fit_visits arrays vs named.1 parts.1)

pub apart_of_none : (program : ProgramTree) → has_only_known_names program ≡ true → has_indices_inside program ≡ true → overlap_of program ≡ None → HasApartSites program
apart_of_none program known inside h =
    let arrays = arrays_of program.arrays in
    let visits = walk arrays (sequence_work program.body []) in
    let named : are_known (names_in arrays) visits ≡ true =
    ap (λ names. are_known names visits) (names_in_of program.arrays) ∙ sequence_known arrays (names_of program.arrays) program.body [] [] known in
    sites_apart arrays (sequence_sites program.body []) (of_sequence arrays (IsFit arrays) program.body [] (fit_visits arrays visits named inside)) h

pub none_of_apart : (program : ProgramTree) → HasApartSites program → overlap_of program ≡ None
none_of_apart program h = sites_none (arrays_of program.arrays) (sequence_sites program.body []) h

-- ---- if the walk finds nothing, both conditions hold

pub indices_of_none : (program : ProgramTree) → walk_fault_of program ≡ None → has_indices_inside program ≡ true
indices_of_none program h =
    let arrays = arrays_of program.arrays in
    inside_of_none arrays (walk arrays (sequence_work program.body [])) (no_fault (out_of_range_of program) (overlap_of program) h).0

pub sites_of_none : (program : ProgramTree) → walk_fault_of program ≡ None → has_only_known_names program ≡ true → HasApartSites program
sites_of_none program h known = apart_of_none program known (indices_of_none program h) (no_fault (out_of_range_of program) (overlap_of program) h).1

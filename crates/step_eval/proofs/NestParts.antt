-- The parts of a construct's fitness: the branches of a `par`, and the phases of a `team` with the members' own
-- iterations.
use Rattle.std.proofs.Common.{◌≡◌, ℕ, zero, suc, ◌+◌, ◌-◌, ◌*◌, ◌<◌, ◌≤◌, true, List, [], ◌∷◌, ◌++◌, ℤ, pos, ◌+ℤ◌, refl, sym, ap, subst, ◌∙◌, arith}
use Rattle.std.specs.Prelude.{◌&&◌, not, int_le}
use Rattle.std.proofs.lemmas.Int.{ints}
use Rattle.std.proofs.Math.Nat.{mul-div_cancel, zero-div}
use Rattle.std.proofs.lemmas.Bool.{and_parts}
use Rattle.array_tree.specs.Trees.{For, Par, Team, Sequence, ended, followed, Sequences, no_more, beside, Declaration}
use Rattle.array_meaning.specs.Stores.{Arrays, Vars, arrays_of}
use Rattle.array_meaning.specs.Steps.{Steps}
use Rattle.array_meaning.specs.Work.{turns, span, loop, sequence_work, branches_work, phases_work}
use Rattle.array_meaning.specs.Members.{first_of, start_of}
use Rattle.array_meaning.specs.Touch.{walk}
use Rattle.array_meaning.specs.Sites.{Site, AreSitesApart, turn_sites, loop_sites, sequence_sites, branches_sites, phases_sites}
use Rattle.array_meaning.specs.Names.{is_among, has_new_variables, have_new_variables, names_of, has_known_names, have_known_names}
use Rattle.array_meaning.specs.Limits.{is_up_to, count_of, has_right_ranges, have_right_ranges}
use Rattle.array_meaning.specs.Accepted.{are_inside}
use Rattle.array_meaning.proofs.FrameLemmas.{walk_followed_by}
use Rattle.array_meaning.proofs.MemberLemmas.{span_cut, first_of_far}
use Rattle.array_jobs.specs.Jobs.{names_around}
use Rattle.step_eval.specs.Nests.{phase_at}
use Rattle.step_eval.proofs.FitParts.{AreFitParts, and_true, inside_append, inside_followed, apart_parts, apart_append}

-- ---- the branches of a `par`

-- The parts of branches, each with these loop variables around.
pub record AreFitBranches (arrays : List Declaration) (vars : Vars) (bs : Sequences) : Type 0 where
  pub new_variables : have_new_variables bs (names_around vars ++ names_of arrays) ≡ true
  pub known_names : have_known_names bs (names_of arrays) (names_around vars) ≡ true
  pub ranges : have_right_ranges bs ≡ true
  pub indices : are_inside (arrays_of arrays) (walk (arrays_of arrays) (branches_work bs vars)) ≡ true
  pub apart : AreSitesApart (arrays_of arrays) (branches_sites bs vars)

-- The branches of a fit `par` have their parts, and there are at most 64.
pub par_parts : (arrays : List Declaration) (vars : Vars) (line : ℕ) (bs : Sequences) →
    AreFitParts arrays vars (followed (Par line bs) ended) (branches_work bs vars) →
    AreFitBranches arrays vars bs × (is_up_to (pos 64) (pos (count_of bs)) ≡ true)
par_parts arrays vars line bs parts =
    let ranges = and_parts (is_up_to (pos 64) (pos (count_of bs))) (have_right_ranges bs) (and_parts _ true parts.ranges).0 in (
      record {
        new_variables = (and_parts _ true parts.new_variables).0;
        known_names = (and_parts _ true parts.known_names).0;
        ranges = ranges.1;
        indices = parts.indices;
        apart = (apart_parts (arrays_of arrays) (branches_sites bs vars) [] parts.apart.1).0;
      },
      ranges.0,
    )

-- The first of fit branches is fit, and so are the others.
pub branch_parts : (arrays : List Declaration) (vars : Vars) (first : Sequence) (rest : Sequences) → AreFitBranches arrays vars (beside first rest) →
    AreFitParts arrays vars first (sequence_work first vars) × AreFitBranches arrays vars rest
branch_parts arrays vars first rest parts =
    let taken = names_around vars ++ names_of arrays in
    let names = names_of arrays in
    let around = names_around vars in
    let new_ones = and_parts (has_new_variables first taken) (have_new_variables rest taken) parts.new_variables in
    let known_ones = and_parts (has_known_names first names around) (have_known_names rest names around) parts.known_names in
    let ranges = and_parts (has_right_ranges first) (have_right_ranges rest) parts.ranges in
    let indices = inside_followed (arrays_of arrays) (sequence_work first vars) (branches_work rest vars) parts.indices in
    let apart = apart_parts (arrays_of arrays) (sequence_sites first vars) (branches_sites rest vars) parts.apart in (
      record {
        new_variables = new_ones.0;
        known_names = known_ones.0;
        ranges = ranges.0;
        indices = indices.0;
        apart = apart.0;
      },
      record {
        new_variables = new_ones.1;
        known_names = known_ones.1;
        ranges = ranges.1;
        indices = indices.1;
        apart = apart.1;
      },
    )

-- ---- the phases of a `team`

-- The parts of phases, each a loop with these loop variables around.
pub record AreFitPhases (arrays : List Declaration) (vars : Vars) (var : List ℕ) (low high : ℤ) (ps : Sequences) : Type 0 where
  pub new_variable : not (is_among var (names_around vars ++ names_of arrays)) ≡ true
  pub new_variables : have_new_variables ps (var ∷ names_around vars ++ names_of arrays) ≡ true
  pub known_names : have_known_names ps (names_of arrays) (var ∷ names_around vars) ≡ true
  pub bounds : int_le low high ≡ true
  pub ranges : have_right_ranges ps ≡ true
  pub indices : are_inside (arrays_of arrays) (walk (arrays_of arrays) (phases_work ps var low high vars)) ≡ true
  pub apart : AreSitesApart (arrays_of arrays) (phases_sites ps var low high vars)

-- The phases of a fit `team` have their parts; there are at most 64 members and 8 phases.
pub team_parts : (arrays : List Declaration) (vars : Vars) (line : ℕ) (var : List ℕ) (low high members : ℤ) (ps : Sequences) →
    AreFitParts arrays vars (followed (Team line var low high members ps) ended) (phases_work ps var low high vars) →
    AreFitPhases arrays vars var low high ps × (is_up_to (pos 64) members ≡ true) × (is_up_to (pos 8) (pos (count_of ps)) ≡ true)
team_parts arrays vars line var low high members ps parts =
    let taken = names_around vars ++ names_of arrays in
    let new_ones = and_parts (not (is_among var taken)) (have_new_variables ps (var ∷ taken)) (and_parts _ true parts.new_variables).0 in
    let ranges = and_parts (int_le low high && is_up_to (pos 64) members) (is_up_to (pos 8) (pos (count_of ps)) && have_right_ranges ps)
    (and_parts _ true parts.ranges).0 in
    let bounds = and_parts (int_le low high) (is_up_to (pos 64) members) ranges.0 in
    let counts = and_parts (is_up_to (pos 8) (pos (count_of ps))) (have_right_ranges ps) ranges.1 in (
      record {
        new_variable = new_ones.0;
        new_variables = new_ones.1;
        known_names = (and_parts _ true parts.known_names).0;
        bounds = bounds.0;
        ranges = counts.1;
        indices = parts.indices;
        apart = (apart_parts (arrays_of arrays) (phases_sites ps var low high vars) [] parts.apart.1).0;
      },
      bounds.1,
      counts.0,
    )

-- The parts of the loop over a body.
abbrev pub LoopParts : List Declaration → Vars → List ℕ → ℤ → ℤ → Sequence → Type 0
LoopParts arrays vars var low high body =
    AreFitParts arrays vars (followed (For 0 var low high body) ended) (loop var low high (sequence_work body) vars)

-- The first of fit phases is a fit loop, and the others are fit.
phase_parts : (arrays : List Declaration) (vars : Vars) (var : List ℕ) (low high : ℤ) (first : Sequence) (rest : Sequences) →
    AreFitPhases arrays vars var low high (beside first rest) →
    LoopParts arrays vars var low high first × AreFitPhases arrays vars var low high rest
phase_parts arrays vars var low high first rest parts =
    let taken = names_around vars ++ names_of arrays in
    let names = names_of arrays in
    let around = names_around vars in
    let cells = arrays_of arrays in
    let new_ones = and_parts (has_new_variables first (var ∷ taken)) (have_new_variables rest (var ∷ taken)) parts.new_variables in
    let known_ones = and_parts (has_known_names first names (var ∷ around)) (have_known_names rest names (var ∷ around)) parts.known_names in
    let ranges = and_parts (has_right_ranges first) (have_right_ranges rest) parts.ranges in
    let indices = inside_followed cells (loop var low high (sequence_work first) vars) (phases_work rest var low high vars) parts.indices in
    let sites = loop_sites var low high (sequence_sites first) vars in
    let apart = apart_parts cells sites (phases_sites rest var low high vars) parts.apart in (
      record {
        new_variables = and_true _ true (and_true (not (is_among var taken)) (has_new_variables first (var ∷ taken)) parts.new_variable new_ones.0) refl;
        known_names = and_true (has_known_names first names (var ∷ around)) true known_ones.0 refl;
        ranges = and_true _ true (and_true (int_le low high) (has_right_ranges first) parts.bounds ranges.0) refl;
        indices = indices.0;
        apart = apart_append cells sites [] apart.0 tt;
      },
      record {
        new_variable = parts.new_variable;
        new_variables = new_ones.1;
        known_names = known_ones.1;
        bounds = parts.bounds;
        ranges = ranges.1;
        indices = indices.1;
        apart = apart.1;
      },
    )

-- Each phase is a fit loop.
pub phase_loop : (arrays : List Declaration) (vars : Vars) (var : List ℕ) (low high : ℤ) (ps : Sequences) (phase : ℕ) → phase < count_of ps →
    AreFitPhases arrays vars var low high ps → LoopParts arrays vars var low high (phase_at ps phase)
phase_loop arrays vars var low high no_more phase small parts = absurd (omega arith)
phase_loop arrays vars var low high (beside first rest) zero small parts = (phase_parts arrays vars var low high first rest parts).0
phase_loop arrays vars var low high (beside first rest) (suc phase) small parts =
    phase_loop arrays vars var low high rest phase (omega arith) (phase_parts arrays vars var low high first rest parts).1

-- ---- some turns of a loop

-- A property of a sequence of turns that splits into each turn's own holds for any turns among them.
-- The empty sequence has the property, and a turn and the later turns are split and joined again.
turns_among : (all : ℤ → ℕ → Type 0) (one : ℤ → Type 0) → ((x : ℤ) → all x 0) →
    ((x : ℤ) (n : ℕ) → all x (suc n) → one x × all (x +ℤ pos 1) n) → ((x : ℤ) (n : ℕ) → one x → all (x +ℤ pos 1) n → all x (suc n)) →
    (low : ℤ) (n a k : ℕ) → a + k ≤ n → all low n → all (low +ℤ pos a) k
turns_among all one none split put low n zero k h whole =
    let same : low ≡ low +ℤ pos 0 = omega (arith, ints) in
    subst (λ x. all x k) same (firsts low n k (omega arith) whole)
  where
    firsts : (x : ℤ) (n k : ℕ) → k ≤ n → all x n → all x k
    firsts x n zero h whole = none x
    firsts x zero (suc k) h whole = absurd (omega arith)
    firsts x (suc n) (suc k) h whole =
        let parts = split x n whole in put x k parts.0 (firsts (x +ℤ pos 1) n k (omega arith) parts.1)
turns_among all one none split put low zero (suc a) k h whole = absurd (omega arith)
turns_among all one none split put low (suc n) (suc a) k h whole =
    let same : low +ℤ pos 1 +ℤ pos a ≡ low +ℤ pos (suc a) = omega (arith, ints) in
    subst (λ x. all x k) same (turns_among all one none split put (low +ℤ pos 1) n a k (omega arith) (split low n whole).1)

-- If the indices of all turns are inside, those of some are.
pub inside_turns : (arrays : Arrays) (body : ℤ → Steps) (low : ℤ) (n a k : ℕ) → a + k ≤ n → are_inside arrays (walk arrays (turns body low n)) ≡ true →
    are_inside arrays (walk arrays (turns body (low +ℤ pos a) k)) ≡ true
inside_turns arrays body low n a k h whole =
    turns_among (λ x n. are_inside arrays (walk arrays (turns body x n)) ≡ true) (λ x. are_inside arrays (walk arrays (body x)) ≡ true)
    (λ x. refl) (λ x n all. inside_followed arrays (body x) (turns body (x +ℤ pos 1) n) all)
    (λ x n one all. ap (are_inside arrays) (walk_followed_by arrays (body x) (turns body (x +ℤ pos 1) n))
    ∙ inside_append arrays (walk arrays (body x)) (walk arrays (turns body (x +ℤ pos 1) n)) one all)
    low n a k h whole

-- If the sites of all turns are apart, those of some are.
pub apart_turns : (arrays : Arrays) (body : ℤ → List Site) (low : ℤ) (n a k : ℕ) → a + k ≤ n → AreSitesApart arrays (turn_sites body low n) →
    AreSitesApart arrays (turn_sites body (low +ℤ pos a) k)
apart_turns arrays body low n a k h whole =
    turns_among (λ x n. AreSitesApart arrays (turn_sites body x n)) (λ x. AreSitesApart arrays (body x))
    (λ x. tt) (λ x n all. apart_parts arrays (body x) (turn_sites body (x +ℤ pos 1) n) all)
    (λ x n one all. apart_append arrays (body x) (turn_sites body (x +ℤ pos 1) n) one all)
    low n a k h whole

-- The bounds of some turns are in order.
bounds_cut : (low : ℤ) (a b : ℕ) → a ≤ b → int_le (low +ℤ pos a) (low +ℤ pos b) ≡ true
bounds_cut low a b h = grind (arith, ints)

-- Some turns of a fit loop are a fit loop.
pub loop_parts : (arrays : List Declaration) (vars : Vars) (var : List ℕ) (low high : ℤ) (body : Sequence) (a b : ℕ) → a ≤ b → b ≤ span low high →
    LoopParts arrays vars var low high body → LoopParts arrays vars var (low +ℤ pos a) (low +ℤ pos b) body
loop_parts arrays vars var low high body a b ordered within parts =
    let cells = arrays_of arrays in
    let n = span low high in
    let steps = λ (x : ℤ). sequence_work body ((var, x) ∷ vars) in
    let sites = λ (x : ℤ). sequence_sites body ((var, x) ∷ vars) in
    let room : a + (b - a) ≤ n = omega arith in
    let count = sym (span_cut low a b ordered) in
    let indices = inside_turns cells steps low n a (b - a) room parts.indices in
    let all = apart_parts cells (turn_sites sites low n) [] parts.apart in
    let apart = subst (λ k. AreSitesApart cells (turn_sites sites (low +ℤ pos a) k)) count (apart_turns cells sites low n a (b - a) room all.0) in
    let ranges = and_parts (int_le low high) (has_right_ranges body) (and_parts _ true parts.ranges).0 in
    record {
      new_variables = parts.new_variables;
      known_names = parts.known_names;
      ranges = and_true _ true (and_true (int_le (low +ℤ pos a) (low +ℤ pos b)) (has_right_ranges body) (bounds_cut low a b ordered) ranges.1) refl;
      indices = subst (λ k. are_inside cells (walk cells (turns steps (low +ℤ pos a) k)) ≡ true) count indices;
      apart = apart_append cells (turn_sites sites (low +ℤ pos a) (span (low +ℤ pos a) (low +ℤ pos b))) [] apart tt;
    }

-- ---- the iterations of a member

-- A later member begins no earlier.
pub first_of_grows : (n m j k : ℕ) → j ≤ k → first_of n m j ≤ first_of n m k
first_of_grows n m j k h = let far : j + (k - j) ≡ k = omega (arith, h) in rw (sym far) (first_of_far n m j (k - j))

-- The first member begins with the first iteration.
pub first_of_none : (n m : ℕ) → first_of n m 0 ≡ 0
first_of_none n m = let none : n * 0 ≡ 0 = omega arith in rw none (zero-div m)

-- The last member ends with the last iteration.
pub first_of_all : (n m : ℕ) → 0 < m → first_of n m m ≡ n
first_of_all n m h = mul-div_cancel n h

-- The loop over a member's own iterations is fit.
pub member_loop : (arrays : List Declaration) (vars : Vars) (var : List ℕ) (low high : ℤ) (body : Sequence) (m j : ℕ) → j < m →
    LoopParts arrays vars var low high body → LoopParts arrays vars var (start_of low high m j) (start_of low high m (j + 1)) body
member_loop arrays vars var low high body m j small parts =
    let n = span low high in
    let ordered = first_of_grows n m j (j + 1) (omega arith) in
    let later = first_of_grows n m (j + 1) m (omega arith) in
    let end = first_of_all n m (omega arith) in
    loop_parts arrays vars var low high body (first_of n m j) (first_of n m (j + 1)) ordered (omega (arith, later, end)) parts

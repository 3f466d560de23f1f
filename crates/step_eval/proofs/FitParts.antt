-- The parts of a work's fitness, by the shape of the work.
use Rattle.std.proofs.Common.{◌≡◌, ℕ, ◌+◌, ◌≤◌, Bool, true, false, List, [], ◌∷◌, ◌++◌, ℤ, pos, ◌+ℤ◌, ◌<ℤ◌, refl, sym, ap, subst, ◌∙◌, arith}
use Rattle.std.specs.Prelude.{◌&&◌, length, nat_le, int_lt, int_le}
use Rattle.std.proofs.lemmas.Bool.{false≢true, and_parts}
use Rattle.std.proofs.lemmas.Int.{ints}
use Rattle.array_tree.specs.Trees.{Expression, Statement, For, If, Sequence, ended, followed, Declaration}
use Rattle.array_meaning.specs.Stores.{Arrays, Vars, arrays_of, cells_of}
use Rattle.array_meaning.specs.Steps.{Steps, Done, Choose, followed_by}
use Rattle.array_meaning.specs.Work.{span, loop, statement_work, sequence_work}
use Rattle.array_meaning.specs.Touch.{Visit, reads_in, walk}
use Rattle.array_meaning.specs.Sites.{Site, AreSitesApart, turn_sites, statement_sites, sequence_sites}
use Rattle.array_meaning.specs.Names.{has_new_variables, statement_has_new_variables, names_of, uses_known_names, has_known_names, statement_has_known_names}
use Rattle.array_meaning.specs.Limits.{have_right_lengths, has_right_ranges, statement_has_right_ranges}
use Rattle.array_meaning.specs.Accepted.{are_inside}
use Rattle.array_meaning.proofs.FrameLemmas.{walk_followed_by}
use Rattle.array_meaning.proofs.StepLemmas.{loop_next, span_next}
use Rattle.array_jobs.specs.Works.{steps_of, statements_of, sites_of}
use Rattle.array_jobs.specs.Jobs.{JobTree, IsFit, names_around}
use Rattle.step_eval.specs.Rest.{WorkAt, instead}

-- Two true values have a true conjunction.
pub and_true : (a b : Bool) → a ≡ true → b ≡ true → (a && b) ≡ true
and_true true b e f = f
and_true false b e f = absurd (false≢true e)

-- ---- lists and their parts

-- If the indices of all visits are inside, those of each part are.
pub inside_parts : (arrays : Arrays) (xs ys : List Visit) → are_inside arrays (xs ++ ys) ≡ true →
    (are_inside arrays xs ≡ true) × (are_inside arrays ys ≡ true)
inside_parts arrays [] ys h = (refl, h)
inside_parts arrays (v ∷ xs) ys h =
    let here = and_parts _ (are_inside arrays (xs ++ ys)) h in
    let parts = inside_parts arrays xs ys here.1 in
    (and_true _ (are_inside arrays xs) here.0 parts.0, parts.1)

-- If the indices of each part are inside, those of all visits are.
pub inside_append : (arrays : Arrays) (xs ys : List Visit) → are_inside arrays xs ≡ true → are_inside arrays ys ≡ true →
    are_inside arrays (xs ++ ys) ≡ true
inside_append arrays [] ys h k = k
inside_append arrays (v ∷ xs) ys h k =
    let here = and_parts _ (are_inside arrays xs) h in
    and_true _ (are_inside arrays (xs ++ ys)) here.0 (inside_append arrays xs ys here.1 k)

-- If the indices of steps in sequence are inside, those of each part are.
pub inside_followed : (arrays : Arrays) (a b : Steps) → are_inside arrays (walk arrays (followed_by a b)) ≡ true →
    (are_inside arrays (walk arrays a) ≡ true) × (are_inside arrays (walk arrays b) ≡ true)
inside_followed arrays a b h =
    inside_parts arrays (walk arrays a) (walk arrays b) (sym (ap (are_inside arrays) (walk_followed_by arrays a b)) ∙ h)

-- If the indices of a choice are inside, those of each side are.
pub inside_sides : (arrays : Arrays) (line : ℕ) (vars : Vars) (test : Expression) (left right rest : Steps) →
    are_inside arrays (walk arrays (Choose line vars test left right rest)) ≡ true →
    (are_inside arrays (walk arrays left) ≡ true) × (are_inside arrays (walk arrays right) ≡ true)
inside_sides arrays line vars test left right rest h =
    let tested = inside_parts arrays (reads_in arrays line vars test) (walk arrays left ++ (walk arrays right ++ walk arrays rest)) h in
    let first = inside_parts arrays (walk arrays left) (walk arrays right ++ walk arrays rest) tested.1 in
    let second = inside_parts arrays (walk arrays right) (walk arrays rest) first.1 in
    (first.0, second.0)

-- If all sites are apart, those of each part are.
pub apart_parts : (arrays : Arrays) (xs ys : List Site) → AreSitesApart arrays (xs ++ ys) → AreSitesApart arrays xs × AreSitesApart arrays ys
apart_parts arrays [] ys h = (tt, h)
apart_parts arrays (x ∷ xs) ys h = let parts = apart_parts arrays xs ys h.1 in ((h.0, parts.0), parts.1)

-- If the sites of each part are apart, all are.
pub apart_append : (arrays : Arrays) (xs ys : List Site) → AreSitesApart arrays xs → AreSitesApart arrays ys → AreSitesApart arrays (xs ++ ys)
apart_append arrays [] ys h k = k
apart_append arrays (x ∷ xs) ys h k = (h.0, apart_append arrays xs ys h.1 k)

-- ---- the parts of a fit work

-- The conditions on statements for a fit job, except those on the job itself: for these arrays, these loop variables
-- around, and these steps.
pub record AreFitParts (arrays : List Declaration) (vars : Vars) (s : Sequence) (steps : Steps) : Type 0 where
  pub new_variables : has_new_variables s (names_around vars ++ names_of arrays) ≡ true
  pub known_names : has_known_names s (names_of arrays) (names_around vars) ≡ true
  pub ranges : has_right_ranges s ≡ true
  pub indices : are_inside (arrays_of arrays) (walk (arrays_of arrays) steps) ≡ true
  pub apart : AreSitesApart (arrays_of arrays) (sequence_sites s vars)

-- The parts of a work.
abbrev pub WorkParts : JobTree → WorkAt → Type 0
WorkParts job w = AreFitParts job.arrays w.vars (statements_of w.work) (steps_of w.work w.vars)

-- The limits on arrays alone.
abbrev pub right_arrays : JobTree → Bool
right_arrays job = have_right_lengths job.arrays && (nat_le (length job.arrays) 64 && nat_le (cells_of (arrays_of job.arrays)) 4096)

-- A fit work has its parts.
pub parts_of : (job : JobTree) (next : ℕ) (w : WorkAt) → IsFit (instead job next w) → WorkParts job w
parts_of job next w fit = record {
  new_variables = fit.new_variables;
  known_names = fit.known_names;
  ranges = (and_parts (right_arrays job) (has_right_ranges (statements_of w.work)) fit.ranges).1;
  indices = fit.indices;
  apart = fit.apart;
}

-- A work with its parts, whose sites have room, is fit in place of a fit one.
pub refit : (job : JobTree) (before : ℕ) (old : WorkAt) (next : ℕ) (new : WorkAt) → IsFit (instead job before old) → WorkParts job new →
    next + sites_of new.work ≤ 4096 → IsFit (instead job next new)
refit job before old next new fit parts room = record {
  single_names = fit.single_names;
  new_variables = parts.new_variables;
  known_names = parts.known_names;
  ranges = and_true (right_arrays job) (has_right_ranges (statements_of new.work))
      (and_parts (right_arrays job) (has_right_ranges (statements_of old.work)) fit.ranges).0 parts.ranges;
  indices = parts.indices;
  apart = parts.apart;
  cells = fit.cells;
  phases = fit.phases;
  places = fit.places;
  sites = room;
}

-- ---- the parts of statements, by their shape

-- The parts of a sequence are those of its first statement and those of its rest.
pub sequence_parts : (arrays : List Declaration) (vars : Vars) (first : Statement) (rest : Sequence) →
    AreFitParts arrays vars (followed first rest) (sequence_work (followed first rest) vars) →
    AreFitParts arrays vars (followed first ended) (statement_work first vars) × AreFitParts arrays vars rest (sequence_work rest vars)
sequence_parts arrays vars first rest parts =
    let taken = names_around vars ++ names_of arrays in
    let new_ones = and_parts (statement_has_new_variables first taken) (has_new_variables rest taken) parts.new_variables in
    let names = names_of arrays in
    let around = names_around vars in
    let known_ones = and_parts (statement_has_known_names first names around) (has_known_names rest names around) parts.known_names in
    let ranges = and_parts (statement_has_right_ranges first) (has_right_ranges rest) parts.ranges in
    let indices = inside_followed (arrays_of arrays) (statement_work first vars) (sequence_work rest vars) parts.indices in
    let apart = apart_parts (arrays_of arrays) (statement_sites first vars) (sequence_sites rest vars) parts.apart in (
      record {
        new_variables = and_true (statement_has_new_variables first taken) true new_ones.0 refl;
        known_names = and_true (statement_has_known_names first names around) true known_ones.0 refl;
        ranges = and_true (statement_has_right_ranges first) true ranges.0 refl;
        indices = indices.0;
        apart = apart_append (arrays_of arrays) (statement_sites first vars) [] apart.0 tt;
      },
      record {
        new_variables = new_ones.1;
        known_names = known_ones.1;
        ranges = ranges.1;
        indices = indices.1;
        apart = apart.1;
      },
    )

-- The line of a loop doesn't matter: its parts are those of the work with its turns.
pub member_parts : (arrays : List Declaration) (vars : Vars) (line : ℕ) (var : List ℕ) (low high : ℤ) (body : Sequence) (steps : Steps) →
    AreFitParts arrays vars (followed (For line var low high body) ended) steps → AreFitParts arrays vars (followed (For 0 var low high body) ended) steps
member_parts arrays vars line var low high body steps parts = record {
  new_variables = parts.new_variables;
  known_names = parts.known_names;
  ranges = parts.ranges;
  indices = parts.indices;
  apart = parts.apart;
}

-- A number below the high bound, plus 1, is at most the high bound.
one_more_in_range : (low high : ℤ) → int_lt low high ≡ true → int_le (low +ℤ pos 1) high ≡ true
one_more_in_range low high h = grind (arith, ints)

-- A number that passes the test is below the high bound.
pub below_of_test : (low high : ℤ) → int_lt low high ≡ true → low <ℤ high
below_of_test low high h = grind (arith, ints)

-- The parts of a loop with a turn left are those of the turn, with one more loop variable around, and those of the
-- later turns.
pub turn_parts : (arrays : List Declaration) (vars : Vars) (line : ℕ) (var : List ℕ) (low high : ℤ) (body : Sequence) → int_lt low high ≡ true →
    AreFitParts arrays vars (followed (For line var low high body) ended) (loop var low high (sequence_work body) vars) →
    AreFitParts arrays ((var, low) ∷ vars) body (sequence_work body ((var, low) ∷ vars))
    × AreFitParts arrays vars (followed (For line var (low +ℤ pos 1) high body) ended) (loop var (low +ℤ pos 1) high (sequence_work body) vars)
turn_parts arrays vars line var low high body below parts =
    let taken = names_around vars ++ names_of arrays in
    let names = names_of arrays in
    let around = names_around vars in
    let cells = arrays_of arrays in
    let more = loop var (low +ℤ pos 1) high (sequence_work body) vars in
    let new_ones = and_parts _ (has_new_variables body (var ∷ taken)) (and_parts _ true parts.new_variables).0 in
    let known_one = and_parts (has_known_names body names (var ∷ around)) true parts.known_names in
    let ranges = and_parts (int_le low high) (has_right_ranges body) (and_parts _ true parts.ranges).0 in
    let indices = inside_followed cells (sequence_work body ((var, low) ∷ vars)) more
    (sym (ap (λ steps. are_inside cells (walk cells steps)) (loop_next var low high (sequence_work body) vars (below_of_test low high below)))
    ∙ parts.indices) in
    let turns_left = turn_sites (λ x. sequence_sites body ((var, x) ∷ vars)) (low +ℤ pos 1) (span (low +ℤ pos 1) high) in
    let all = apart_parts cells (turn_sites (λ x. sequence_sites body ((var, x) ∷ vars)) low (span low high)) [] parts.apart in
    let apart = apart_parts cells (sequence_sites body ((var, low) ∷ vars)) turns_left
    (subst (λ n. AreSitesApart cells (turn_sites (λ x. sequence_sites body ((var, x) ∷ vars)) low n))
    (span_next low high (below_of_test low high below)) all.0) in (
      record {
        new_variables = new_ones.1;
        known_names = known_one.0;
        ranges = ranges.1;
        indices = indices.0;
        apart = apart.0;
      },
      record {
        new_variables = parts.new_variables;
        known_names = parts.known_names;
        ranges = and_true (int_le (low +ℤ pos 1) high && has_right_ranges body) true
            (and_true (int_le (low +ℤ pos 1) high) (has_right_ranges body) (one_more_in_range low high below) ranges.1) refl;
        indices = indices.1;
        apart = apart_append cells turns_left [] apart.1 tt;
      },
    )

-- The parts of an `if` are those of each side.
pub side_parts : (arrays : List Declaration) (vars : Vars) (line : ℕ) (cond : Expression) (then_block else_block : Sequence) →
    AreFitParts arrays vars (followed (If line cond then_block else_block) ended) (statement_work (If line cond then_block else_block) vars) →
    AreFitParts arrays vars then_block (sequence_work then_block vars) × AreFitParts arrays vars else_block (sequence_work else_block vars)
side_parts arrays vars line cond then_block else_block parts =
    let taken = names_around vars ++ names_of arrays in
    let names = names_of arrays in
    let around = names_around vars in
    let cells = arrays_of arrays in
    let new_ones = and_parts (has_new_variables then_block taken) (has_new_variables else_block taken) (and_parts _ true parts.new_variables).0 in
    let known_ones = and_parts (has_known_names then_block names around) (has_known_names else_block names around)
    (and_parts (uses_known_names cond names around) _ (and_parts _ true parts.known_names).0).1 in
    let ranges = and_parts (has_right_ranges then_block) (has_right_ranges else_block) (and_parts _ true parts.ranges).0 in
    let indices = inside_sides cells line vars cond (sequence_work then_block vars) (sequence_work else_block vars) Done parts.indices in
    let all = apart_parts cells (sequence_sites then_block vars ++ sequence_sites else_block vars) [] parts.apart in
    let apart = apart_parts cells (sequence_sites then_block vars) (sequence_sites else_block vars) all.0 in (
      record {
        new_variables = new_ones.0;
        known_names = known_ones.0;
        ranges = ranges.0;
        indices = indices.0;
        apart = apart.0;
      },
      record {
        new_variables = new_ones.1;
        known_names = known_ones.1;
        ranges = ranges.1;
        indices = indices.1;
        apart = apart.1;
      },
    )

-- The jobs of a construct's pieces, in sequence.
use Rattle.std.proofs.Common.{◌≡◌, ℕ, zero, suc, ◌+◌, ◌-◌, ◌*◌, ◌<◌, ◌≤◌, true, List, [], ◌∷◌, ◌++◌, map, length, get_or, append_assoc, ℤ, pos, negsuc, refl, sym, ap, subst, ◌∙◌, arith}
use Rattle.std.specs.Prelude.{◌&&◌, unsigned_abs, int_le}
use Rattle.std.proofs.lemmas.Bool.{false≢true, and_parts}
use Rattle.std.proofs.lemmas.List.{map-append}
use Rattle.array_tree.specs.declared.tree.Block.{Block}
use Rattle.array_tree.specs.declared.tree.Blocks.{Blocks}
use Rattle.array_tree.specs.declared.tree.Stmt.TheVariants as stmt
use Rattle.array_tree.specs.declared.tree.Stmt.TheVariants.{rolls-Team}
use Rattle.array_tree.specs.declared.tree.Stmt.TheFolds.{fold-roll-Stmt}
use Rattle.array_tree.specs.Trees.{Statement, Assign, For, If, Par, Team, Sequence, Sequences, no_more, beside, statement_of, sequence_of, sequences_of, sequences, statement_step, block_step, blocks_step}
use Rattle.array_meaning.specs.Stores.{Store}
use Rattle.array_meaning.specs.Members.{start_of}
use Rattle.array_meaning.specs.Plans.{sites_in}
use Rattle.array_meaning.specs.Limits.{is_up_to, count_of, have_right_ranges, statement_has_right_ranges}
use Rattle.site_counts.specs.Capped.{capped}
use Rattle.array_jobs.specs.declared.work.Work.{Work}
use Rattle.array_jobs.specs.Works.{WorkTree, member_of, work_of, sites_of}
use Rattle.step_eval.specs.Nests.{NestedParts, NestedTree, nested_of, phases_of, member_trees, phase_at, piece_trees, sites_before, earlier_sites, numbered, jobs_in, AreFitJobs, IsFitNest}

-- The view of a team, one level deep.
pub team_view : (line : ℕ) (var : List ℕ) (low high members : ℤ) (phases : Blocks) →
    statement_of (stmt.Team line var low high members phases) ≡ Team line var low high members (sequences_of phases)
team_view line var low high members phases =
    ap statement_of (sym (rolls-Team line var low high members phases))
    ∙ fold-roll-Stmt Statement Sequence Sequences statement_step block_step blocks_step _

-- The body of a phase is the block at its index.
pub phase_at_place : (bs : List Block) (i : ℕ) (d : Block) → i < length bs → phase_at (sequences (map sequence_of bs)) i ≡ sequence_of (get_or bs i d)
phase_at_place [] i d h = absurd (omega arith)
phase_at_place (b ∷ bs) zero d h = refl
phase_at_place (b ∷ bs) (suc i) d h = phase_at_place bs i d (omega arith)

-- No sites come before the first phase.
pub none_before : (phases : Sequences) → sites_before phases 0 ≡ 0
none_before no_more = refl
none_before (beside first rest) = refl

-- One more phase adds its sites.
pub one_more_before : (bs : List Block) (i : ℕ) (d : Block) → i < length bs →
    sites_before (sequences (map sequence_of bs)) (suc i) ≡ sites_before (sequences (map sequence_of bs)) i + sites_in (sequence_of (get_or bs i d))
one_more_before [] i d h = absurd (omega arith)
one_more_before (b ∷ bs) zero d h = let none = none_before (sequences (map sequence_of bs)) in omega (arith, none)
one_more_before (b ∷ bs) (suc i) d h = let more = one_more_before bs i d (omega arith) in omega (arith, more)

-- One more phase, in n iterations, adds its sites, if sums stop at the greatest 64-bit number.
pub capped_before : (n : ℕ) (bs : List Block) (i : ℕ) (d : Block) (sites turns sum : ℕ) → i < length bs →
    sites ≡ capped (n * sites_before (sequences (map sequence_of bs)) i) → turns ≡ capped (n * sites_in (sequence_of (get_or bs i d))) →
    sum ≡ capped (sites + turns) → sum ≡ capped (n * sites_before (sequences (map sequence_of bs)) (i + 1))
capped_before n bs i d sites turns sum h e f g =
    let before = sites_before (sequences (map sequence_of bs)) i in
    let here = sites_in (sequence_of (get_or bs i d)) in
    let next : i + 1 ≡ suc i = omega arith in
    let whole : sites_before (sequences (map sequence_of bs)) (i + 1) ≡ before + here
    = ap (sites_before (sequences (map sequence_of bs))) next ∙ one_more_before bs i d h in
    let parts : n * (before + here) ≡ n * before + n * here = omega arith in
    rw (whole, parts) (omega (arith, e, f, g))

-- The works of the members from j on begin with that of member j.
pub member_first : (var : List ℕ) (low high : ℤ) (m : ℕ) (body : Sequence) (j : ℕ) → j < m →
    member_trees var low high m body j (m - j)
    ≡ member_of var (start_of low high m j) (start_of low high m (j + 1)) body ∷ member_trees var low high m body (j + 1) (m - (j + 1))
member_first var low high m body j h =
    let left : m - j ≡ suc (m - (j + 1)) = omega arith in
    ap (member_trees var low high m body j) left

pub one_more_made : (made more : List Work) (work : Work) (left rest all : List WorkTree) → more ≡ made ++ work ∷ [] → left ≡ work_of work ∷ rest →
    map work_of made ++ left ≡ all → map work_of more ++ rest ≡ all
one_more_made made more work left rest all e f whole =
    ap (λ ws. map work_of ws ++ rest) e ∙ ap (λ ws. ws ++ rest) (map-append work_of made (work ∷ []))
    ∙ append_assoc (map work_of made) (work_of work ∷ []) rest ∙ ap (λ ws. map work_of made ++ ws) (sym f) ∙ whole

-- The work of one more member is made.
pub member_made : (made more : List Work) (work : Work) (var : List ℕ) (low high : ℤ) (m : ℕ) (body : Sequence) (j : ℕ) (all : List WorkTree) →
    j < m → more ≡ made ++ work ∷ [] → work_of work ≡ member_of var (start_of low high m j) (start_of low high m (j + 1)) body →
    map work_of made ++ member_trees var low high m body j (m - j) ≡ all →
    map work_of more ++ member_trees var low high m body (j + 1) (m - (j + 1)) ≡ all
member_made made more work var low high m body j all h e f whole =
    let rest = member_trees var low high m body (j + 1) (m - (j + 1)) in
    one_more_made made more work (member_trees var low high m body j (m - j)) rest all e
    (member_first var low high m body j h ∙ ap (λ w. w ∷ rest) (sym f)) whole

-- A fit job is fit with another store of the same size.
refit_store : (nested : NestedTree) (phase : ℕ) (store other : Store) (place first : ℕ) (work : WorkTree) → length other ≡ length store →
    AreFitJobs (numbered nested phase store place first (work ∷ [])) → AreFitJobs (numbered nested phase other place first (work ∷ []))
refit_store nested phase store other place first work e fit =
    let one = fit.0 in (
      record {
        single_names = one.single_names;
        new_variables = one.new_variables;
        known_names = one.known_names;
        ranges = one.ranges;
        indices = one.indices;
        apart = one.apart;
        cells = e ∙ one.cells;
        phases = one.phases;
        places = one.places;
        sites = one.sites;
      },
      tt,
    )

-- The same for the jobs of several works.
pub numbered_other_store : (nested : NestedTree) (phase : ℕ) (store other : Store) (place first : ℕ) (works : List WorkTree) → length other ≡ length store →
    AreFitJobs (numbered nested phase store place first works) → AreFitJobs (numbered nested phase other place first works)
numbered_other_store nested phase store other place first [] e fit = tt
numbered_other_store nested phase store other place first (work ∷ works) e fit = (
  (refit_store nested phase store other place first work e (fit.0, tt)).0,
  numbered_other_store nested phase store other (place + 1) (first + sites_of work) works e fit.1,
)

-- The pieces of a construct that is handed out are fit jobs for each store of the same size.
pub fit_other_store : (nested : NestedTree) → IsFitNest nested → (phase : ℕ) → phase < phases_of nested.construct → (store : Store) →
    length store ≡ length nested.store → AreFitJobs (jobs_in nested phase store)
fit_other_store nested fit phase h store e =
    numbered_other_store nested phase nested.store store 0 _ (piece_trees nested.construct phase) e (fit.jobs phase h)

-- If the first job is fit, its sites have room.
first_small : (nested : NestedTree) (phase : ℕ) (store : Store) (place first : ℕ) (works : List WorkTree) → 0 < length works →
    AreFitJobs (numbered nested phase store place first works) → first ≤ 4096
first_small nested phase store place first [] h fit = absurd (omega arith)
first_small nested phase store place first (work ∷ works) h fit = let sites = fit.0.sites in omega (arith, sites)

pub count_trees : (var : List ℕ) (low high : ℤ) (m : ℕ) (body : Sequence) (j k : ℕ) → length (member_trees var low high m body j k) ≡ k
count_trees var low high m body j zero = refl
count_trees var low high m body j (suc k) = ap suc (count_trees var low high m body (j + 1) k)

pub some_members : (members : ℤ) → is_up_to (pos 64) members ≡ true → 0 < unsigned_abs members
some_members (pos zero) e = absurd (false≢true e)
some_members (pos (suc n)) e = omega arith
some_members (negsuc n) e = absurd (false≢true e)

-- A construct within its limits has a piece in each phase.
pub some_piece : (construct : Statement) (phase : ℕ) → statement_has_right_ranges construct ≡ true → phase < phases_of construct →
    0 < length (piece_trees construct phase)
some_piece (Assign line array index value) phase e h = absurd (omega arith)
some_piece (For line var low high body) phase e h = absurd (omega arith)
some_piece (If line cond then_block else_block) phase e h = absurd (omega arith)
some_piece (Par line no_more) phase e h = absurd (false≢true e)
some_piece (Par line (beside first rest)) phase e h = omega arith
some_piece (Team line var low high members phases) phase e h =
    let parts = and_parts (int_le low high && is_up_to (pos 64) members) (is_up_to (pos 8) (pos (count_of phases)) && have_right_ranges phases) e in
    let some = some_members members (and_parts (int_le low high) (is_up_to (pos 64) members) parts.0).1 in
    let count = count_trees var low high (unsigned_abs members) (phase_at phases phase) 0 (unsigned_abs members) in
    omega (arith, some, count)

-- The number of the first site inside is within the limit.
pub first_site_small : (nested : NestedTree) → IsFitNest nested → (phase : ℕ) → phase < phases_of nested.construct →
    nested.site + 1 + earlier_sites nested.construct phase ≤ 4096
first_site_small nested fit phase h =
    first_small nested phase nested.store 0 _ (piece_trees nested.construct phase) (some_piece nested.construct phase fit.limits h) (fit.jobs phase h)

-- The same for two equal views of a construct.
pub first_site_has_room : (inside view : NestedParts) → inside ≡ view → IsFitNest (nested_of inside) → (phase : ℕ) →
    phase < phases_of (statement_of view.construct) → inside.site + 1 + earlier_sites (statement_of inside.construct) phase ≤ 4096
first_site_has_room inside view e fit phase h =
    first_site_small (nested_of inside) fit phase (subst (λ (n : NestedParts). phase < phases_of (statement_of n.construct)) (sym e) h)

-- The shapes of constructs within their limits.
use Rattle.std.proofs.Common.{◌≡◌, ℕ, ◌<◌, ◌≤◌, ℤ, pos, true, ap, sym, ◌∙◌, arith, length}
use Rattle.std.specs.Prelude.{◌&&◌, int_le}
use Rattle.std.proofs.lemmas.Bool.{false≢true, and_parts}
use Rattle.array_tree.specs.declared.tree.Blocks.{Blocks, out-Blocks}
use Rattle.array_tree.specs.declared.tree.Stmt.TheVariants as stmt
use Rattle.array_tree.specs.declared.tree.Stmt.TheVariants.{rolls-Par}
use Rattle.array_tree.specs.declared.tree.Stmt.TheFolds.{fold-roll-Stmt}
use Rattle.array_tree.specs.Trees.{Statement, Assign, For, If, Par, Team, Sequence, Sequences, no_more, beside, statement_of, sequences_of, statement_step, block_step, blocks_step}
use Rattle.array_tree.proofs.Views.{sequences_of-blocks}
use Rattle.array_meaning.specs.Limits.{is_up_to, count_of, have_right_ranges, statement_has_right_ranges}
use Rattle.site_counts.proofs.Trees.{count_of-sequences}
use Rattle.step_eval.specs.Nests.{phases_of, is_construct}
use Rattle.step_eval.specs.Shapes.{members_of}
use Rattle.step_eval.proofs.NestLemmas.{up_to_number}
use Rattle.step_eval.proofs.PieceLemmas.{some_members}

-- The view of a `par`, one level deep.
pub par_view : (line : ℕ) (branches : Blocks) → statement_of (stmt.Par line branches) ≡ Par line (sequences_of branches)
par_view line branches =
    ap statement_of (sym (rolls-Par line branches))
    ∙ fold-roll-Stmt Statement Sequence Sequences statement_step block_step blocks_step _

-- There are as many sequences as blocks.
pub count_blocks : (blocks : Blocks) → count_of (sequences_of blocks) ≡ length (out-Blocks blocks).blocks.items
count_blocks blocks = ap count_of (sequences_of-blocks blocks) ∙ count_of-sequences (out-Blocks blocks).blocks.items

-- The parts of a team's limits.
team_limits : (low high members : ℤ) (phases : Sequences) →
    ((int_le low high && is_up_to (pos 64) members) && (is_up_to (pos 8) (pos (count_of phases)) && have_right_ranges phases)) ≡ true →
    (is_up_to (pos 64) members ≡ true) × (is_up_to (pos 8) (pos (count_of phases)) ≡ true)
team_limits low high members phases e =
    let parts = and_parts (int_le low high && is_up_to (pos 64) members) (is_up_to (pos 8) (pos (count_of phases)) && have_right_ranges phases) e in
    ((and_parts (int_le low high) (is_up_to (pos 64) members) parts.0).1, (and_parts (is_up_to (pos 8) (pos (count_of phases))) (have_right_ranges phases) parts.1).0)

-- A construct within its limits has at most 64 pieces in each phase.
pub few_pieces : (construct : Statement) → statement_has_right_ranges construct ≡ true → members_of construct ≤ 64
few_pieces (Assign line array index value) e = omega arith
few_pieces (For line var low high body) e = omega arith
few_pieces (If line cond then_block else_block) e = omega arith
few_pieces (Par line branches) e = up_to_number 64 (pos (count_of branches)) (and_parts (is_up_to (pos 64) (pos (count_of branches))) (have_right_ranges branches) e).0
few_pieces (Team line var low high members phases) e = up_to_number 64 members (team_limits low high members phases e).0

-- A construct within its limits has at most 8 phases.
pub few_phases : (construct : Statement) → statement_has_right_ranges construct ≡ true → phases_of construct ≤ 8
few_phases (Assign line array index value) e = omega arith
few_phases (For line var low high body) e = omega arith
few_phases (If line cond then_block else_block) e = omega arith
few_phases (Par line branches) e = omega arith
few_phases (Team line var low high members phases) e = up_to_number 8 (pos (count_of phases)) (team_limits low high members phases e).1

-- A construct within its limits has a phase.
pub some_phases : (construct : Statement) → is_construct construct ≡ true → statement_has_right_ranges construct ≡ true → 0 < phases_of construct
some_phases (Assign line array index value) is e = absurd (false≢true is)
some_phases (For line var low high body) is e = absurd (false≢true is)
some_phases (If line cond then_block else_block) is e = absurd (false≢true is)
some_phases (Par line branches) is e = omega arith
some_phases (Team line var low high members no_more) is e = absurd (false≢true (team_limits low high members no_more e).1)
some_phases (Team line var low high members (beside first rest)) is e = omega arith

-- A construct within its limits has a piece in each phase.
pub some_pieces : (construct : Statement) → is_construct construct ≡ true → statement_has_right_ranges construct ≡ true → 0 < members_of construct
some_pieces (Assign line array index value) is e = absurd (false≢true is)
some_pieces (For line var low high body) is e = absurd (false≢true is)
some_pieces (If line cond then_block else_block) is e = absurd (false≢true is)
some_pieces (Par line no_more) is e = absurd (false≢true e)
some_pieces (Par line (beside first rest)) is e = omega arith
some_pieces (Team line var low high members phases) is e = some_members members (team_limits low high members phases e).0

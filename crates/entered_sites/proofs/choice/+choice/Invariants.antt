use Rattle.std.proofs.Common.{◌≡◌, drop, map}
use Rattle.array_tree.specs.Trees.{statement_of, sequence_of, sequences_of, sequence, sequences}
use Rattle.array_meaning.specs.Choices.{has_no_site_under_if, have_no_site_under_if}
use Rattle.entered_sites.proofs.choice.+choice.Given as goal

abbrev pub invariant-has_no_choice-loop-statement : goal.invariant-has_no_choice-loop-statement
invariant-has_no_choice-loop-statement l =
    has_no_site_under_if (sequence (map statement_of (drop l.statement-index l.statement-items))) l.inside ≡ has_no_site_under_if (sequence_of l.block) l.inside

abbrev pub invariant-have_no_choice-loop-block : goal.invariant-have_no_choice-loop-block
invariant-have_no_choice-loop-block l =
    have_no_site_under_if (sequences (map sequence_of (drop l.block-index l.block-items))) l.inside ≡ have_no_site_under_if (sequences_of l.blocks) l.inside

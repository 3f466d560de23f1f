-- Whether a program chooses its sites by its data.
use Rattle.std.specs.Prelude.{Bool, true, false, ◌&&◌}
use Rattle.array_tree.specs.Trees.{Statement, Assign, For, If, Par, Team, Sequence, ended, followed, Sequences, no_more, beside}

-- Whether no `par` or `team` stands inside a side of an `if`, so that every site is entered. The flag is whether this part
-- stands inside a side.
abbrev mutual
  pub has_no_site_under_if : Sequence → Bool → Bool
  has_no_site_under_if ended inside = true
  has_no_site_under_if (followed first rest) inside =
      statement_has_no_site_under_if first inside && has_no_site_under_if rest inside

  pub statement_has_no_site_under_if : Statement → Bool → Bool
  statement_has_no_site_under_if (Assign line array index value) inside = true
  statement_has_no_site_under_if (For line var low high body) inside =
      has_no_site_under_if body inside
  statement_has_no_site_under_if (If line cond then_block else_block) inside =
      has_no_site_under_if then_block true && has_no_site_under_if else_block true
  statement_has_no_site_under_if (Par line branches) true = false
  statement_has_no_site_under_if (Par line branches) false = have_no_site_under_if branches false
  statement_has_no_site_under_if (Team line var low high members phases) true = false
  statement_has_no_site_under_if (Team line var low high members phases) false =
      have_no_site_under_if phases false

  pub have_no_site_under_if : Sequences → Bool → Bool
  have_no_site_under_if no_more inside = true
  have_no_site_under_if (beside first rest) inside =
      has_no_site_under_if first inside && have_no_site_under_if rest inside

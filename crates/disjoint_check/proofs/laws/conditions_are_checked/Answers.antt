use Rattle.disjoint_check.proofs.Accepting.{meaning_of_none, none_of_meaning, accepted_of_none, none_of_accepted}
use Rattle.disjoint_check.proofs.laws.conditions_are_checked.Goals as goal

pub returns : goal.returns
returns c program harts = record {
  meaning = (meaning_of_none program harts, none_of_meaning program harts);
  accepted = (accepted_of_none program harts, none_of_accepted program harts);
}

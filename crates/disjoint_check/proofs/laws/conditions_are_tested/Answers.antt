use Rattle.std.proofs.Common.{◌≡◌, ◌↔◌, Bool, true, None, Option, sym, ◌∙◌}
use Rattle.disjoint_check.proofs.Firsts.{is_none, none_from, to_none}
use Rattle.disjoint_check.proofs.NameLaws.{single_names, only_known_names}
use Rattle.disjoint_check.proofs.RangeLaws.{in_range}
use Rattle.disjoint_check.proofs.Conditions.{limits_from, limits_to}
use Rattle.disjoint_check.proofs.laws.conditions_are_tested.Goals as goal

tested : {A : Type 0} (o : Option A) (b : Bool) → is_none o ≡ b → (o ≡ None) ↔ (b ≡ true)
tested o b e = (λ h. sym e ∙ to_none o h, λ h. none_from o (e ∙ h))

pub returns : goal.returns
returns c program = record {
  single_names = tested _ _ (single_names program);
  known_names = tested _ _ (only_known_names program);
  ranges = tested _ _ (in_range program);
  limits = λ harts. (limits_from program harts, limits_to program harts);
}

use Rattle.std.proofs.Common.{◌∙◌, sym}
use Rattle.std.specs.Cmp.Derive.Mapped.{pointwise-map}
use Rattle.array_tree.specs.Trees.{declaration_of}
use Rattle.array_tree.specs.Equal.{declaration_eq}
use Rattle.array_tree.specs.EqualLaws.{declarations_decided}
use Rattle.array_tree.proofs.equal.ArraysPartialEq.eq.Goals as goal

pub returns-clause-tested : goal.returns-clause-tested
returns-clause-tested c =
    c.eq.ensures ∙ sym (pointwise-map declaration_of declaration_eq c.args.self.now.declarations.items c.args.other.now.declarations.items)

pub returns-clause-same : goal.returns-clause-same
returns-clause-same c = declarations_decided _ _ _ (returns-clause-tested c)

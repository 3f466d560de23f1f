use Rattle.std.proofs.Common.{ap, sym, ◌∙◌, rules, ◌≡◌, length}
use Rattle.array_tree.specs.declared.tree.Blocks.{out-Blocks}
use Rattle.array_tree.proofs.Views.{sequences_of-blocks}
use Rattle.array_meaning.specs.Limits.{count_of}
use Rattle.site_counts.proofs.Trees.{count_of-sequences}
use Rattle.site_counts.proofs.counts.count_of.Goals as goal

pub returns : goal.returns
returns c =
    let items = (out-Blocks c.args.blocks.now).blocks.items in
    let count : c.len.result ≡ length items = search rules in
    count ∙ sym (count_of-sequences items) ∙ sym (ap count_of (sequences_of-blocks c.args.blocks.now))

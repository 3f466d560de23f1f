use Rattle.std.proofs.Common.{◌∷◌, [], ◌-◌, ◌+◌, replicate, rules}
use Rattle.journal_picture.proofs.Turns.{replicate_more}
use Rattle.journal_picture.proofs.Written.{turn}
use Rattle.journal_picture.proofs.lanes.add_sites.Goals as goal

pub loop-i-preserved : goal.loop-i-preserved
loop-i-preserved c =
    turn c.loop-i.sites.items c.push.new.self.items (c.args.site ∷ []) (replicate (c.args.count - c.loop-i._i) c.args.site)
    (replicate (c.args.count - (c.loop-i._i + 1)) c.args.site) _ c.loop-i.invariant
    (replicate_more c.args.count c.loop-i._i c.args.site (search rules)) (search rules)

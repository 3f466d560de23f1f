use Rattle.std.proofs.Common.{◌≡◌, ◌∷◌, ◌++◌, [], ◌-◌, ◌+◌, ◌<◌, length, rules}
use Rattle.journal_picture.specs.Stays.{stays_of}
use Rattle.journal_picture.specs.TextPicture.{lanes_of, sites_of}
use Rattle.journal_picture.proofs.Turns.{lanes_more}
use Rattle.journal_picture.proofs.Written.{turn}
use Rattle.journal_picture.proofs.lanes.lanes_of.Goals as goal

pub loop-hart-preserved : goal.loop-hart-preserved
loop-hart-preserved c =
    let p = c.args.plan.now in
    let es = c.args.list.now in
    let h = c.loop-hart.hart in
    let lane = sites_of (length es) (stays_of p h es) in
    let within : h < p.harts = search rules in
    let wrote : c.push.new.self.items ≡ c.loop-hart.lanes.items ++ lane ∷ [] = search rules in
    turn c.loop-hart.lanes.items c.push.new.self.items (lane ∷ []) (lanes_of p es h (p.harts - h))
    (lanes_of p es (h + 1) (p.harts - (h + 1))) _ c.loop-hart.invariant (lanes_more p es p.harts h within) wrote

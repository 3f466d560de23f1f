use Rattle.std.proofs.Common.{◌≡◌, ◌∷◌, ◌++◌, [], ◌-◌, ◌+◌, ◌<◌, length, rules}
use Rattle.journal_picture.specs.Travels.{travels_from, travels_in}
use Rattle.journal_picture.proofs.Turns.{travels_more}
use Rattle.journal_picture.proofs.Written.{turn}
use Rattle.journal_picture.proofs.travels.travels_of.Goals as goal

pub loop-hart-preserved : goal.loop-hart-preserved
loop-hart-preserved c =
    let p = c.args.plan.now in
    let es = c.args.list.now in
    let h = c.loop-hart.hart in
    let one = travels_in p es h in
    let within : h < p.harts = search rules in
    let wrote : c.push.new.self.items ≡ c.loop-hart.travels.items ++ one ∷ [] = search rules in
    let long : length c.push.new.self.items ≡ h + 1 = search rules in (
      turn c.loop-hart.travels.items c.push.new.self.items (one ∷ []) (travels_from p es h (p.harts - h))
          (travels_from p es (h + 1) (p.harts - (h + 1))) _ c.loop-hart.invariant.0 (travels_more p es p.harts h within) wrote,
      long,
    )

use Rattle.std.proofs.Common.{arith}
use Rattle.task_loops.proofs.Ranges.{zip_more}
use Rattle.task_loops.proofs.loops.images_of.Goals as goal

pub elements-preserved : goal.elements-preserved
elements-preserved g c =
    zip_more (g.M.Map.image c.args.map.now) c.args.elements.now c.elements.element-index c.elements.images.items c.push.new.self.items c.element-item.result c.in_ok-image.image (omega arith) c.element-item.is c.elements.invariant c.in_ok-image.ensures.image c.in_ok-push.ensures.items

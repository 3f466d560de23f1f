use Rattle.std.proofs.Common.{take}
use Rattle.std.specs.List.{AllZip}
use Rattle.task_loops.proofs.loops.images_of.Given as goal

abbrev pub invariant-elements : goal.invariant-elements
invariant-elements g l = AllZip (g.M.Map.image l.map) (take l.element-index l.elements) l.images.items

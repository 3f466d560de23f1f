use Rattle.task_loops.proofs.Ranges.{zip_ranges}
use Rattle.task_loops.proofs.loops.MappedFold.join.Goals as goal

pub returns-clause-output : goal.returns-clause-output
returns-clause-output g c = λ low middle high h k f b.
    zip_ranges (g.M.Map.image c.args.self.now.map) c.args.self.now.elements.now c.args.front.items c.args.back.items c.append.new.self.items low middle high h k c.in_ok-append.ensures.items f b

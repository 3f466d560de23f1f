use Rattle.job_machines.proofs.Parts.{passes_are_spans}
use Rattle.job_machines.proofs.site_parts.passes_are_spans.Goals as goal

pub returns : goal.returns
returns c = passes_are_spans

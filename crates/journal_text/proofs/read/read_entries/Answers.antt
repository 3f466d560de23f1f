use Rattle.journal_text.proofs.Spelled.{reads_found, reads_only}
use Rattle.journal_text.proofs.read.read_entries.Goals as goal

pub returns-clause-found : goal.returns-clause-found
returns-clause-found c = reads_found c.args.plan.now c.args.text.now c.read.result c.read.ensures

pub returns-clause-only : goal.returns-clause-only
returns-clause-only c = reads_only c.args.plan.now c.harts.ensures.kept c.args.text.now c.read.result c.read.ensures

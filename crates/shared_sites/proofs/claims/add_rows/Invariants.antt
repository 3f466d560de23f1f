use Rattle.std.proofs.Common.{◌≡◌, ◌++◌, replicate, take}
use Rattle.claim_words.specs.declared.table.TheConstants.{MOST_ROWS}
use Rattle.shared_sites.proofs.claims.add_rows.Given as goal

abbrev pub invariant-loop-done : goal.invariant-loop-done
invariant-loop-done l = l.counts.items ≡ take MOST_ROWS (l.initial.counts.items ++ replicate l.done l.members)

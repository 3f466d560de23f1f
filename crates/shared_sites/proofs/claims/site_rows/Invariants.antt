use Rattle.std.proofs.Common.{◌≡◌, ◌≤◌, length, map, take}
use Rattle.claim_words.specs.declared.table.TheConstants.{MOST_ROWS}
use Rattle.shared_sites.specs.ClaimRows.{shape_of}
use Rattle.shared_sites.proofs.ClaimRows.{ArePlaced}
use Rattle.shared_sites.proofs.claims.site_rows.Given as goal

abbrev pub invariant-loop-index : goal.invariant-loop-index
invariant-loop-index l =
    ArePlaced l.sites.items l.counts.items × (length l.counts.items ≤ MOST_ROWS) × (map shape_of l.sites.items ≡ take l.index l.accepted.shapes)

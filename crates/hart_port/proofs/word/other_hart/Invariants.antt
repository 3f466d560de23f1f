-- The harts below this one aren't on the site, and the rest of the word has the fields from this one on.
use Rattle.std.proofs.Common.{◌≡◌, ◌≢◌, ◌<◌, ◌/◌, ◌^◌, ℕ}
use Rattle.hart_port.specs.Words.{owner_field}
use Rattle.hart_port.proofs.word.other_hart.Given as goal

abbrev pub invariant-loop-other : goal.invariant-loop-other
invariant-loop-other l = record { rest : l.rest ≡ l.word / 4096 ^ l.other; before : (g : ℕ) → g < l.other → g ≢ l.hart → owner_field l.word g ≢ l.site }

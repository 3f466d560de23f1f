use Rattle.std.proofs.Common.{◌≡◌, take}
use Rattle.array_eval.proofs.paged.share.Given as goal

abbrev pub invariant-loop-page : goal.invariant-loop-page
invariant-loop-page l = l.shared.items ≡ take l.page-index l.pages

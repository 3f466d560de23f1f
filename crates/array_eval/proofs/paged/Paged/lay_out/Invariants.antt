use Rattle.std.proofs.Common.{◌≡◌, ◌*◌, take, length}
use Rattle.array_eval.specs.Pages.{cells_on}
use Rattle.array_eval.proofs.OverLemmas.{cells_over}
use Rattle.array_eval.proofs.PageLemmas.{AreWhole, filled}
use Rattle.array_eval.proofs.paged.Paged.lay_out.Given as goal

abbrev pub invariant-loop-number : goal.invariant-loop-number
invariant-loop-number l = record {
  laid : cells_on l.pages.items ≡ take (64 * l.number) (filled (cells_over l.self l.copies));
  whole : AreWhole l.pages.items;
  many : length l.pages.items ≡ l.number;
}

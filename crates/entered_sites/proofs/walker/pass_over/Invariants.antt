use Rattle.std.proofs.Common.{◌≡◌, ◌≤◌, ◌++◌, false, replicate, vec_len}
use Rattle.entered_sites.proofs.walker.pass_over.Given as goal

abbrev pub invariant-loop-site : goal.invariant-loop-site
invariant-loop-site l = record {
  recorded : l.sites.items ≡ l.fn.sites.items ++ replicate l._site false;
  long : l._site ≤ vec_len l.sites;
}

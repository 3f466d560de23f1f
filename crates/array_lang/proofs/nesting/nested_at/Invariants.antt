use Rattle.std.proofs.Common.{◌≡◌, ◌≤◌, drop}
use Rattle.array_tokens.specs.Lexemes.{spots}
use Rattle.array_lang.specs.Parsing.Scan.{nested_at, marks_of}
use Rattle.array_lang.proofs.ScanStep.{further}
use Rattle.array_lang.specs.Nesting.{most_marks, most_open}
use Rattle.array_lang.specs.declared.nesting.Reach.TheVariants.{Outside}
use Rattle.array_lang.proofs.nesting.nested_at.Given as goal

abbrev pub invariant-loop-index : goal.invariant-loop-index
invariant-loop-index l = record {
  found : further l.index (nested_at l.reach l.depth (spots (drop l.index l.tokens))) ≡ nested_at Outside 0 (spots l.tokens);
  depth : l.depth ≤ most_open;
  marks : marks_of l.reach ≤ most_marks;
}

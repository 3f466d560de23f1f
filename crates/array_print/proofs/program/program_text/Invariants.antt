use Rattle.std.proofs.Common.{◌≡◌, ◌++◌, [], map, drop}
use Rattle.std.specs.Prelude.{flat_map}
use Rattle.array_tree.specs.Trees.{declaration_of, declarations_of}
use Rattle.array_print.specs.Texts.{declaration_text}
use Rattle.array_print.proofs.program.program_text.Given as goal

-- The text so far, with the text of the remaining declarations, is that of all declarations, and the margin is empty.
abbrev pub invariant-loop-array : goal.invariant-loop-array
invariant-loop-array l =
    (l.printer.text.items ++ flat_map declaration_text (map declaration_of (drop l.array-index l.array-items))
    ≡ flat_map declaration_text (declarations_of l.program.arrays))
    × (l.printer.margin.items ≡ [])

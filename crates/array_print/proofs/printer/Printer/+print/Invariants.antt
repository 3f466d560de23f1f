use Rattle.std.proofs.Common.{◌≡◌, ◌++◌, nat_lt, map, drop, false}
use Rattle.array_tree.specs.Trees.{sequence, sequences, statement_of, sequence_of, sequences_of}
use Rattle.array_print.specs.Texts.{sequence_text, branches_text, phases_text}
use Rattle.array_print.proofs.printer.Printer.+print.Given as goal

-- The text so far, with the text of the remaining statements, is that of all statements.
abbrev pub invariant-statements-loop-statement : goal.invariant-statements-loop-statement
invariant-statements-loop-statement l =
    (l.self.text.items ++ sequence_text l.self.margin.items (sequence (map statement_of (drop l.statement-index l.statement-items)))
    ≡ l.fn.self.text.items ++ sequence_text l.fn.self.margin.items (sequence_of l.block))
    × (l.self.margin.items ≡ l.fn.self.margin.items)

abbrev pub invariant-branches-loop-branch : goal.invariant-branches-loop-branch
invariant-branches-loop-branch l =
    (l.self.text.items ++ branches_text l.self.margin.items (sequences (map sequence_of (drop l.branch-index l.branch-items)))
    ≡ l.fn.self.text.items ++ branches_text l.fn.self.margin.items (sequences_of l.branches))
    × (l.self.margin.items ≡ l.fn.self.margin.items)

abbrev pub invariant-phases-loop-i : goal.invariant-phases-loop-i
invariant-phases-loop-i l =
    (l.self.text.items ++ phases_text (nat_lt 0 l.i) l.self.margin.items (sequences (map sequence_of (drop l.i l.phase-items)))
    ≡ l.fn.self.text.items ++ phases_text false l.fn.self.margin.items (sequences_of l.phases))
    × (l.self.margin.items ≡ l.fn.self.margin.items)

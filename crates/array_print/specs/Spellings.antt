-- Programs that some text spells, and programs that differ only in their line numbers.
use Rattle.std.specs.Prelude.{◌≡◌, ℕ, List, map}
use Rattle.array_tree.specs.Trees.{Statement, Assign, For, If, Par, Team, Sequence, ended, followed, Sequences, no_more, beside, Declaration, ProgramTree}
use Rattle.array_lang.specs.Spelled.{Spells}

-- A tree with 0 for each of its line numbers.
abbrev mutual
  pub lineless_statement : Statement → Statement
  lineless_statement (Assign line array index value) = Assign 0 array index value
  lineless_statement (For line var low high body) = For 0 var low high (lineless_sequence body)
  lineless_statement (If line cond left right) =
      If 0 cond (lineless_sequence left) (lineless_sequence right)
  lineless_statement (Par line branches) = Par 0 (lineless_sequences branches)
  lineless_statement (Team line var low high members phases) =
      Team 0 var low high members (lineless_sequences phases)

  pub lineless_sequence : Sequence → Sequence
  lineless_sequence ended = ended
  lineless_sequence (followed first rest) =
      followed (lineless_statement first) (lineless_sequence rest)

  pub lineless_sequences : Sequences → Sequences
  lineless_sequences no_more = no_more
  lineless_sequences (beside first rest) =
      beside (lineless_sequence first) (lineless_sequences rest)

-- A declaration with line 0.
abbrev pub lineless_declaration : Declaration → Declaration
lineless_declaration array = record { line = 0; name = array.name; length = array.length }

-- A program with 0 for each of its line numbers.
abbrev pub lineless : ProgramTree → ProgramTree
lineless program = record {
  arrays = map lineless_declaration program.arrays;
  body = lineless_sequence program.body;
}

-- The two programs are the same but for their line numbers.
abbrev pub SameButLines : ProgramTree → ProgramTree → Type 0
SameButLines p q = lineless p ≡ lineless q

-- The text spells the program up to its line numbers.
abbrev pub SpellsButLines : List ℕ → ProgramTree → Type 0
SpellsButLines text p = (q : ProgramTree) × Spells text q × SameButLines q p

-- Some text spells the program up to its line numbers.
abbrev pub IsSpelledButLines : ProgramTree → Type 0
IsSpelledButLines p = (text : List ℕ) × SpellsButLines text p

-- The texts that spell a program, and the faults of the others.
use Rattle.std.specs.Prelude.{◌≡◌, ◌≢◌, ℕ, ◌+◌, ◌≤◌, ◌<◌, List, [], ◌∷◌, length, take, drop, Option, Some, None, Result, Ok, Err}
use Rattle.array_tokens.specs.Lexemes.{Spot, tokens_of}
use Rattle.array_tokens.specs.declared.fault.TokenFault.{TokenFault}
use Rattle.array_tokens.specs.declared.fault.TokenFault.TheVariants as cutting
use Rattle.array_tree.specs.Trees.{ProgramTree, program_of}
use Rattle.array_tree.specs.declared.tree.Program.{Program}
use Rattle.array_lang.specs.Grammar.{SpellsProgram, Begins, StopsAt}
use Rattle.array_lang.specs.Nesting.{first_beyond}
use Rattle.array_lang.specs.declared.fault.SyntaxFault.{SyntaxFault}
use Rattle.array_lang.specs.declared.fault.SyntaxFault.TheVariants.{NotAscii, BadToken, Unexpected, NumberTooLarge, Memory, TooNested}

-- The text spells the program: the text is cut into tokens that spell the program, and no token passes a limit on nesting.
pub record Spells (text : List ℕ) (p : ProgramTree) : Type 0 where
  pub tokens : List Spot
  pub cut : tokens_of text ≡ Ok tokens
  pub tree : SpellsProgram tokens p
  pub fits : first_beyond tree ≡ None

-- The position of the first token; the end of the text if there is no token.
abbrev pub place_of : ℕ → List Spot → ℕ
place_of end [] = end
place_of end (t ∷ ts) = t.at

-- The index, if there is one, is n or more.
abbrev pub IsAfter : ℕ → Option ℕ → Type 0
IsAfter n None = Unit {0}
IsAfter n (Some k) = n ≤ k

-- The first token with which no program goes on is at this position. In a program that begins with the tokens before that
-- token, none of these tokens passes a limit.
pub record IsUnexpected (tokens : List Spot) (end at : ℕ) : Type 0 where
  pub rest : List Spot
  pub stops : StopsAt tokens rest
  pub place : at ≡ place_of end rest
  pub within : IsAfter (length stops.front) (first_beyond stops.begins.2)

-- A token of the list is at this position of the text. In a program that begins with the tokens up to and including that
-- token, that token is the first that passes a limit.
pub record IsTooNested (tokens : List Spot) (end at : ℕ) : Type 0 where
  pub index : ℕ
  pub inside : index < length tokens
  pub begins : Begins (take (index + 1) tokens)
  pub beyond : first_beyond begins.2 ≡ Some index
  pub place : at ≡ place_of end (drop index tokens)

-- The text is cut into these tokens, and has this fault.
abbrev pub HasTokenFault : List Spot → ℕ → SyntaxFault → Type 0
HasTokenFault tokens end Memory = Unit {0}
HasTokenFault tokens end (Unexpected at) = IsUnexpected tokens end at
HasTokenFault tokens end (TooNested at) = IsTooNested tokens end at
HasTokenFault tokens end fault = ⊥

-- A fault of cutting as a fault of the text.
abbrev pub cutting_fault : TokenFault → SyntaxFault
cutting_fault (cutting.NotAscii at) = NotAscii at
cutting_fault (cutting.BadToken at) = BadToken at
cutting_fault (cutting.NumberTooLarge at) = NumberTooLarge at
cutting_fault cutting.Memory = Memory

-- The fault is the text's first: a fault of cutting, or else a fault of the tokens. An allocation failure may occur for any
-- text, and is no fault of the text.
pub data HasFault (text : List ℕ) (fault : SyntaxFault) : Type 0 where
  in_cutting : (cause : TokenFault) → tokens_of text ≡ Err cause → fault ≡ cutting_fault cause
      → fault ≢ Memory → HasFault text fault
  in_tokens : (tokens : List Spot) → tokens_of text ≡ Ok tokens
      → HasTokenFault tokens (length text) fault → fault ≢ Memory → HasFault text fault
  no_memory : fault ≡ Memory → HasFault text fault

-- The result is this program, unless an allocation failed.
abbrev pub IsRead : ProgramTree → Result Program SyntaxFault → Type 0
IsRead p (Ok program) = program_of program ≡ p
IsRead p (Err fault) = fault ≡ Memory

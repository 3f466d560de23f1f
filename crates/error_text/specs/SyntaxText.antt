-- The line for a text that spells no program.
use Rattle.std.specs.Prelude.{ℕ, List, [], ◌∷◌, ◌++◌, codes}
use Rattle.std.specs.Fmt.{decimal}
use Rattle.array_lang.specs.declared.fault.SyntaxFault.{SyntaxFault}
use Rattle.array_lang.specs.declared.fault.SyntaxFault.TheVariants.{NotAscii, BadToken, Unexpected, NumberTooLarge, Memory, TooNested}

-- A line with a position, and the texts before and after it.
abbrev pub text_at : List ℕ → ℕ → List ℕ → List ℕ
text_at before at after = codes "syntax: " ++ before ++ decimal at ++ after ++ 10 ∷ []

-- The line of a fault; none for an allocation failure.
abbrev pub syntax_text : SyntaxFault → List ℕ
syntax_text (NotAscii at) = text_at (codes "byte ") at (codes " is not ASCII")
syntax_text (BadToken at) = text_at (codes "no token at byte ") at []
syntax_text (Unexpected at) = text_at (codes "unexpected at byte ") at []
syntax_text (NumberTooLarge at) = text_at (codes "number too large at byte ") at []
syntax_text (TooNested at) = text_at (codes "nested too deep at byte ") at []
syntax_text Memory = []

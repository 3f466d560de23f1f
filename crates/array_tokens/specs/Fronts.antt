-- The fronts that the code finds.
use Rattle.std.specs.Prelude.{ℕ}
use Rattle.array_tokens.specs.Lexemes.{Front, gap, piece, no_token, too_large, lexeme_of}
use Rattle.array_tokens.specs.declared.lexer.Found.{Found}
use Rattle.array_tokens.specs.declared.lexer.Found.TheVariants.{Gap, Piece, NoToken, TooLarge}

-- The front that the code's result represents.
abbrev pub seen : Found → Front
seen Gap = gap
seen (Piece kind) = piece (lexeme_of kind)
seen NoToken = no_token
seen TooLarge = too_large

-- The same, with the length.
abbrev pub fronts : Found × ℕ → Front × ℕ
fronts f = (seen f.0, f.1)

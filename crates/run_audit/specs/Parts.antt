-- The two parts of an input: a program, and after a line that is exactly `%%` an output of its run.
use Rattle.std.specs.Prelude.{ℕ, List, [], ◌∷◌, ◌++◌, codes, Option, Some, None, if◌then◌else◌}
use Rattle.std.specs.List.{join_with_byte}
use Rattle.std.specs.Option.{option_map}
use Rattle.journal_text.specs.Reading.{lines_of, is_word}

-- The input has at most so many bytes.
abbrev pub most_audited : ℕ
most_audited = 4194304

-- The parts with this text before the first.
abbrev pub with_front : List ℕ → List ℕ × List ℕ → List ℕ × List ℕ
with_front front parts = (front ++ parts.0, parts.1)

-- The texts before and after the first line `%%` that ends in a newline, for a text that is cut into these lines.
abbrev pub parts_in : List (List ℕ) → Option (List ℕ × List ℕ)
parts_in [] = None
parts_in (last ∷ []) = None
parts_in (line ∷ next ∷ more) =
    if is_word (codes "%%") line then Some ([], join_with_byte 10 (next ∷ more))
    else option_map (with_front (line ++ 10 ∷ [])) (parts_in (next ∷ more))

-- The parts of a text: the texts before and after its first line `%%`.
abbrev pub parts_of : List ℕ → Option (List ℕ × List ℕ)
parts_of text = parts_in (lines_of text)

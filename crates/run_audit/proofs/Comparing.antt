-- Comparisons of array lines, one by one.
use Rattle.std.proofs.Common.{◌≡◌, ◌+◌, ℕ, Bool, true, false, cond, List, [], ◌∷◌, Option, Some, None, Result, Ok, Err, refl, ap, ◌∙◌, ◌==◌}
use Rattle.journal_text.specs.declared.fault.TextFault.{TextFault}
use Rattle.journal_text.specs.declared.fault.TextFault.TheVariants.{BadLine}
use Rattle.journal_text.specs.Reading.{lines_of, is_word, and_then}
use Rattle.journal_text.proofs.Steps.{some_piece}
use Rattle.run_audit.specs.Audit.{Compared, after_line, earliest, compared}

-- The first line that differs is the one found before, if there is one.
abbrev pub earlier : Option ℕ → Result Compared TextFault → Result Compared TextFault
earlier None rest = rest
earlier (Some line) (Ok rest) = Ok record rest { differs = Some line }
earlier (Some line) (Err why) = Err why

bare : (same : Bool) (number : ℕ) (rest : Result Compared TextFault)
    → and_then (λ (rest : Compared). Ok (record rest { differs = cond same rest.differs (Some (number + 1)) })) rest ≡ earlier (cond same None (Some (number + 1))) rest
bare true number (Ok rest) = refl
bare true number (Err why) = refl
bare false number (Ok rest) = refl
bare false number (Err why) = refl

with_line : (differs : Option ℕ) (number : ℕ) (wanted found : List ℕ) (rest : Result Compared TextFault)
    → earlier differs (and_then (λ rest. Ok (after_line number wanted found rest)) rest) ≡ earlier (earliest differs (number + 1) wanted found) rest
with_line None number wanted found rest = bare (is_word wanted found) number rest
with_line (Some line) number wanted found (Ok rest) = refl
with_line (Some line) number wanted found (Err why) = refl

pub next_line : (differs : Option ℕ) (number : ℕ) (left rest wanted more found after : List ℕ)
    → lines_of left ≡ wanted ∷ lines_of more → lines_of rest ≡ found ∷ lines_of after
    → earlier differs (compared number (lines_of left) (lines_of rest)) ≡ earlier (earliest differs (number + 1) wanted found) (compared (number + 1) (lines_of more) (lines_of after))
next_line differs number left rest wanted more found after cut own =
    let one = some_piece (λ byte. byte == 10) more in
    let two = some_piece (λ byte. byte == 10) after in
    let step : compared number (lines_of left) (lines_of rest) ≡ and_then (λ rest. Ok (after_line number wanted found rest)) (compared (number + 1) (lines_of more) (lines_of after)) =
    rw (cut, own, one.2, two.2) refl in
    ap (earlier differs) step ∙ with_line differs number wanted found (compared (number + 1) (lines_of more) (lines_of after))

failed : (differs : Option ℕ) (why : TextFault) → earlier differs (Err why) ≡ Err why
failed None why = refl
failed (Some line) why = refl

pub no_line : (differs : Option ℕ) (number : ℕ) (left rest wanted more : List ℕ)
    → lines_of left ≡ wanted ∷ lines_of more → lines_of rest ≡ rest ∷ []
    → earlier differs (compared number (lines_of left) (lines_of rest)) ≡ Err (BadLine (number + 1))
no_line differs number left rest wanted more cut own =
    let one = some_piece (λ byte. byte == 10) more in
    let step : compared number (lines_of left) (lines_of rest) ≡ Err (BadLine (number + 1)) = rw (cut, own, one.2) refl in
    ap (earlier differs) step ∙ failed differs (BadLine (number + 1))

at_end : (differs : Option ℕ) (number : ℕ) (rest : List (List ℕ))
    → earlier differs (Ok record { differs = None; lines = number; rest = rest }) ≡ Ok record { differs = differs; lines = number; rest = rest }
at_end None number rest = refl
at_end (Some line) number rest = refl

pub all_compared : (differs : Option ℕ) (number : ℕ) (left rest : List ℕ) → lines_of left ≡ left ∷ []
    → earlier differs (compared number (lines_of left) (lines_of rest)) ≡ Ok record { differs = differs; lines = number; rest = lines_of rest }
all_compared differs number left rest cut =
    ap (λ (lines : List (List ℕ)). earlier differs (compared number lines (lines_of rest))) cut ∙ at_end differs number (lines_of rest)

-- A text that is cut after a line.
use Rattle.std.proofs.Common.{◌≡◌, ◌-◌, ◌==◌, ℕ, true, false, cond, List, [], ◌∷◌, ◌++◌, codes, length, take, drop, Option, Some, None, refl, sym, ap, ap₂, ◌∙◌, arith, append_assoc, length-append, append-nil}
use Rattle.std.specs.List.{join_with_byte}
use Rattle.std.specs.Option.{option_map}
use Rattle.std.proofs.lemmas.Grind.{common_steps}
use Rattle.std.proofs.lemmas.List.{take-append-le, take_all, take-append-drop}
use Rattle.std.proofs.lemmas.List.Splits.{join_with_byte-slice_split}
use Rattle.journal_text.specs.Reading.{lines_of, is_word}
use Rattle.journal_text.proofs.Steps.{some_piece}
use Rattle.run_audit.specs.Parts.{with_front, parts_in, parts_of}

-- A line, its newline, and the rest.
pub cut_text : (rest line after : List ℕ) → lines_of rest ≡ line ∷ lines_of after → rest ≡ line ++ 10 ∷ after
cut_text rest line after cut =
    let piece = some_piece (λ byte. byte == 10) after in
    let back : join_with_byte 10 (piece.0 ∷ piece.1) ≡ after = ap (join_with_byte 10) (sym piece.2) ∙ join_with_byte-slice_split 10 after in
    sym (join_with_byte-slice_split 10 rest) ∙ ap (join_with_byte 10) (cut ∙ ap (λ (lines : List (List ℕ)). line ∷ lines) piece.2) ∙ ap (λ (t : List ℕ). line ++ 10 ∷ t) back

by_back : (text a b : List ℕ) → text ≡ a ++ b → (take (length text - length b) text ≡ a) × (drop (length text - length b) text ≡ b)
by_back text a b e =
    let at : length text - length b ≡ length a = omega (arith, ap length e, length-append a b) in
    let front : take (length a) (a ++ b) ≡ a = take-append-le (length a) a b (omega arith) ∙ take_all (length a) a (omega arith) in
    let back : drop (length a) (a ++ b) ≡ b = grind (arith, common_steps) in (
      ap₂ (λ (k : ℕ) (t : List ℕ). take k t) at e ∙ front,
      ap₂ (λ (k : ℕ) (t : List ℕ). drop k t) at e ∙ back,
    )

pub front_more : (text rest line after : List ℕ) → rest ≡ drop (length text - length rest) text → rest ≡ line ++ 10 ∷ after
    → (take (length text - length after) text ≡ take (length text - length rest) text ++ (line ++ 10 ∷ [])) × (drop (length text - length after) text ≡ after)
front_more text rest line after behind cut =
    let front = take (length text - length rest) text in
    let whole : text ≡ (front ++ (line ++ 10 ∷ [])) ++ after =
    sym (take-append-drop (length text - length rest) text) ∙ ap (λ (t : List ℕ). front ++ t) (sym behind ∙ cut) ∙ simp append_assoc in
    by_back text (front ++ (line ++ 10 ∷ [])) after whole

pub part_step : (rest line after : List ℕ) → lines_of rest ≡ line ∷ lines_of after
    → parts_of rest ≡ cond (is_word (codes "%%") line) (Some ([], after)) (option_map (with_front (line ++ 10 ∷ [])) (parts_of after))
part_step rest line after cut =
    let piece = some_piece (λ byte. byte == 10) after in
    let back : join_with_byte 10 (piece.0 ∷ piece.1) ≡ after = ap (join_with_byte 10) (sym piece.2) ∙ join_with_byte-slice_split 10 after in
    rw (cut, piece.2) (ap (λ (t : List ℕ). cond (is_word (codes "%%") line) (Some ([], t)) (option_map (with_front (line ++ 10 ∷ [])) (parts_in (piece.0 ∷ piece.1)))) back)

fronts : (a b : List ℕ) (o : Option (List ℕ × List ℕ)) → option_map (with_front a) (option_map (with_front b) o) ≡ option_map (with_front (a ++ b)) o
fronts a b None = refl
fronts a b (Some parts) = ap (λ (t : List ℕ). Some (t, parts.1)) (sym (append_assoc a b parts.0))

-- A line that is no mark, and one that is.
pub no_mark : (all : Option (List ℕ × List ℕ)) (front rest line after : List ℕ) → lines_of rest ≡ line ∷ lines_of after → is_word (codes "%%") line ≡ false
    → all ≡ option_map (with_front front) (parts_of rest) → all ≡ option_map (with_front (front ++ (line ++ 10 ∷ []))) (parts_of after)
no_mark all front rest line after cut other same =
    let step : parts_of rest ≡ option_map (with_front (line ++ 10 ∷ [])) (parts_of after) = part_step rest line after cut ∙ rw other refl in
    same ∙ ap (option_map (with_front front)) step ∙ fronts front (line ++ 10 ∷ []) (parts_of after)

pub mark : (all : Option (List ℕ × List ℕ)) (front rest line after : List ℕ) → lines_of rest ≡ line ∷ lines_of after → is_word (codes "%%") line ≡ true
    → all ≡ option_map (with_front front) (parts_of rest) → Some (front, after) ≡ all
mark all front rest line after cut right same =
    let step : parts_of rest ≡ Some ([], after) = part_step rest line after cut ∙ rw right refl in
    sym (same ∙ ap (option_map (with_front front)) step ∙ ap (λ (t : List ℕ). Some (t, after)) (append-nil front))

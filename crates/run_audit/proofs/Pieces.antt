-- Texts of complete lines, and the rest after them.
use Rattle.std.proofs.Common.{◌≡◌, ◌==◌, ◌∙◌, ℕ, Bool, true, false, cond, List, [], ◌∷◌, ◌++◌, refl, sym, ap, subst, append_assoc, take, drop}
use Rattle.std.specs.Prelude.{ℤ, flat_map}
use Rattle.std.specs.Fmt.{signed_decimal}
use Rattle.std.specs.List.{slice_split, onto_first, join_with_byte}
use Rattle.std.proofs.lemmas.List.Elements.{All-cons, All-nil}
use Rattle.std.proofs.lemmas.List.Splits.{join_with_byte-slice_split}
use Rattle.array_tree.specs.Trees.{ProgramTree}
use Rattle.array_meaning.specs.Stores.{Arrays, Store, arrays_of}
use Rattle.array_eval.specs.ArrayText.{array_lines, array_text}
use Rattle.journal_text.specs.Reading.{lines_of}
use Rattle.journal_text.proofs.Free.{AreFree, split_joined}
use Rattle.journal_text.proofs.Steps.{some_piece}

-- The pieces of a text don't have the byte at which it was cut.
step_free : (c x : ℕ) (b : Bool) → (x == c) ≡ b → (pieces : List (List ℕ)) → AreFree c pieces → AreFree c (cond b ([] ∷ pieces) (onto_first x pieces))
step_free c x true e pieces free = (All-nil (λ (byte : ℕ). (byte == c) ≡ false), free)
step_free c x false e [] free = (All-cons (λ (byte : ℕ). (byte == c) ≡ false) x [] e (All-nil (λ (byte : ℕ). (byte == c) ≡ false)), tt)
step_free c x false e (piece ∷ more) free = (All-cons (λ (byte : ℕ). (byte == c) ≡ false) x piece e free.0, free.1)

pub pieces_free : (c : ℕ) (text : List ℕ) → AreFree c (slice_split (λ byte. byte == c) text)
pieces_free c [] = (All-nil (λ (byte : ℕ). (byte == c) ≡ false), tt)
pieces_free c (x ∷ more) = step_free c x (x == c) refl (slice_split (λ byte. byte == c) more) (pieces_free c more)

both_free : (c : ℕ) (a b : List (List ℕ)) → AreFree c a → AreFree c b → AreFree c (a ++ b)
both_free c [] b f g = g
both_free c (piece ∷ a) b f g = (f.0, both_free c a b f.1 g)

-- Lines with a newline each, and the first lines of the rest.
pub joined_behind : (lines : List (List ℕ)) (first : List ℕ) (more : List (List ℕ))
    → join_with_byte 10 (lines ++ [] ∷ []) ++ join_with_byte 10 (first ∷ more) ≡ join_with_byte 10 (lines ++ first ∷ more)
joined_behind [] first more = refl
joined_behind (line ∷ []) first more = append_assoc line (10 ∷ []) (join_with_byte 10 (first ∷ more))
joined_behind (line ∷ next ∷ lines) first more =
    append_assoc line (10 ∷ join_with_byte 10 (next ∷ lines ++ [] ∷ [])) (join_with_byte 10 (first ∷ more))
    ∙ ap (λ (t : List ℕ). line ++ 10 ∷ t) (joined_behind (next ∷ lines) first more)

-- The text consists of complete lines.
pub record IsOfLines (text : List ℕ) : Type 0 where
  pub lines : List (List ℕ)
  pub free : AreFree 10 lines
  pub joined : text ≡ join_with_byte 10 (lines ++ [] ∷ [])

cut_joined : (lines : List (List ℕ)) (first : List ℕ) (more : List (List ℕ)) → AreFree 10 lines → AreFree 10 (first ∷ more)
    → lines_of (join_with_byte 10 (lines ++ first ∷ more)) ≡ lines ++ first ∷ more
cut_joined [] first more f g = split_joined 10 first more g
cut_joined (line ∷ lines) first more f g = split_joined 10 line (lines ++ first ∷ more) (both_free 10 (line ∷ lines) (first ∷ more) f g)

-- The lines of a text of complete lines and of the rest.
pub lines_behind : (text rest : List ℕ) (whole : IsOfLines text) → lines_of (text ++ rest) ≡ whole.lines ++ lines_of rest
lines_behind text rest whole =
    let piece = some_piece (λ byte. byte == 10) rest in
    let free : AreFree 10 (piece.0 ∷ piece.1) = subst (AreFree 10) piece.2 (pieces_free 10 rest) in
    let back : rest ≡ join_with_byte 10 (piece.0 ∷ piece.1) = sym (join_with_byte-slice_split 10 rest) ∙ ap (join_with_byte 10) piece.2 in
    let all : text ++ rest ≡ join_with_byte 10 (whole.lines ++ piece.0 ∷ piece.1) =
    ap (λ (t : List ℕ). t ++ rest) whole.joined ∙ ap (λ (t : List ℕ). join_with_byte 10 (whole.lines ++ [] ∷ []) ++ t) back ∙ joined_behind whole.lines piece.0 piece.1 in
    ap lines_of all ∙ cut_joined whole.lines piece.0 piece.1 whole.free free ∙ ap (λ (ls : List (List ℕ)). whole.lines ++ ls) (sym piece.2)

pub own_lines : (text : List ℕ) (whole : IsOfLines text) → lines_of text ≡ whole.lines ++ [] ∷ []
own_lines text whole = ap lines_of whole.joined ∙ cut_joined whole.lines [] [] whole.free (All-nil (λ (byte : ℕ). (byte == 10) ≡ false), tt)

-- ---- array lines are complete lines
appended : (a b more : List (List ℕ)) → (a ++ b) ++ more ≡ a ++ (b ++ more)
appended [] b more = refl
appended (x ∷ a) b more = ap (λ (l : List (List ℕ)). x ∷ l) (appended a b more)

line_before : (front text : List ℕ) → IsOfLines text → IsOfLines ((front ++ 10 ∷ []) ++ text)
line_before front text whole =
    let own = lines_of front in
    let back : front ++ 10 ∷ [] ≡ join_with_byte 10 (own ++ [] ∷ []) = ended own front (sym (join_with_byte-slice_split 10 front)) (some_piece (λ byte. byte == 10) front) in
    record {
      lines = own ++ whole.lines;
      free = both_free 10 own whole.lines (pieces_free 10 front) whole.free;
      joined = ap (λ (t : List ℕ). t ++ text) back ∙ ap (λ (t : List ℕ). join_with_byte 10 (own ++ [] ∷ []) ++ t) whole.joined
          ∙ behind own whole.lines ∙ ap (join_with_byte 10) (sym (appended own whole.lines ([] ∷ [])));
    }
  where
    ends : (first : List ℕ) (more : List (List ℕ)) → join_with_byte 10 (first ∷ more) ++ 10 ∷ [] ≡ join_with_byte 10 ((first ∷ more) ++ [] ∷ [])
    ends first [] = refl
    ends first (next ∷ more) = append_assoc first (10 ∷ join_with_byte 10 (next ∷ more)) (10 ∷ []) ∙ ap (λ (t : List ℕ). first ++ 10 ∷ t) (ends next more)

    ended : (own : List (List ℕ)) (front : List ℕ) → front ≡ join_with_byte 10 own → ((first : List ℕ) × (more : List (List ℕ)) × (own ≡ first ∷ more)) → front ++ 10 ∷ [] ≡ join_with_byte 10 (own ++ [] ∷ [])
    ended own front e (first, more, is) =
        ap (λ (t : List ℕ). t ++ 10 ∷ []) (e ∙ ap (join_with_byte 10) is) ∙ ends first more ∙ ap (λ (l : List (List ℕ)). join_with_byte 10 (l ++ [] ∷ [])) (sym is)

    behind : (own lines : List (List ℕ)) → join_with_byte 10 (own ++ [] ∷ []) ++ join_with_byte 10 (lines ++ [] ∷ []) ≡ join_with_byte 10 (own ++ (lines ++ [] ∷ []))
    behind own [] = joined_behind own [] []
    behind own (first ∷ more) = joined_behind own first (more ++ [] ∷ [])

lines_whole : (arrays : Arrays) (cells : List ℤ) → IsOfLines (array_lines arrays cells)
lines_whole [] cells = record { lines = []; free = tt; joined = refl }
lines_whole (a ∷ more) cells =
    line_before (a.0 ++ (32 ∷ 61 ∷ []) ++ flat_map (λ value. 32 ∷ signed_decimal value) (take a.1 cells)) (array_lines more (drop a.1 cells)) (lines_whole more (drop a.1 cells))

pub text_whole : (program : ProgramTree) (store : Store) → IsOfLines (array_text program store)
text_whole program store = lines_whole (arrays_of program.arrays) store

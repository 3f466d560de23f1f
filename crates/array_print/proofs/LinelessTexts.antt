-- Line numbers don't affect a printed text.
use Rattle.std.proofs.Common.{◌≡◌, ℕ, Bool, true, false, List, [], ◌∷◌, ◌++◌, map, Result, Ok, Err, IfOk, refl, sym, ap, ap₂, ◌∙◌, subst}
use Rattle.std.specs.Prelude.{codes, flat_map}
use Rattle.array_tree.specs.Trees.{Statement, Assign, For, If, Par, Team, Sequence, ended, followed, Sequences, no_more, beside, Declaration, ProgramTree}
use Rattle.array_lang.specs.Spelled.{Spells}
use Rattle.array_print.specs.Texts.{range_text, dealt_text, wider, block_text, else_text, branch_text, barrier_text, expression_text, statement_text, sequence_text, branches_text, phases_text, declaration_text, printed}
use Rattle.array_print.specs.Spellings.{lineless_statement, lineless_sequence, lineless_sequences, lineless_declaration, lineless, SameButLines, SpellsButLines, IsSpelledButLines}
use Rattle.array_print.proofs.PrintedPrograms.{printed_spells}

else_lineless : (p : Sequence) (block : List ℕ) → else_text (lineless_sequence p) block ≡ else_text p block
else_lineless ended block = refl
else_lineless (followed first rest) block = refl

mutual
  statement_lineless : (margin : List ℕ) (s : Statement) → statement_text margin (lineless_statement s) ≡ statement_text margin s
  statement_lineless margin (Assign line array index value) = refl
  statement_lineless margin (For line var low high body) =
      ap (λ (t : List ℕ). margin ++ codes "for " ++ range_text var low high ++ block_text margin t ++ codes "\n") (sequence_lineless (wider margin) body)
  statement_lineless margin (If line cond left right) =
      ap (λ (t : List ℕ). margin ++ codes "if " ++ expression_text cond ++ block_text margin t
      ++ else_text (lineless_sequence right) (block_text margin (sequence_text (wider margin) (lineless_sequence right))) ++ codes "\n") (sequence_lineless (wider margin) left)
      ∙ ap (λ (t : List ℕ). margin ++ codes "if " ++ expression_text cond ++ block_text margin (sequence_text (wider margin) left) ++ t ++ codes "\n")
      (else_lineless right (block_text margin (sequence_text (wider margin) (lineless_sequence right)))
      ∙ ap (λ (t : List ℕ). else_text right (block_text margin t)) (sequence_lineless (wider margin) right))
  statement_lineless margin (Par line branches) =
      ap (λ (t : List ℕ). margin ++ codes "par {\n" ++ t ++ margin ++ codes "}\n") (branches_lineless (wider margin) branches)
  statement_lineless margin (Team line var low high members phases) =
      ap (λ (t : List ℕ). margin ++ codes "team " ++ dealt_text var low high members ++ t ++ codes "\n") (phases_lineless false margin phases)

  sequence_lineless : (margin : List ℕ) (p : Sequence) → sequence_text margin (lineless_sequence p) ≡ sequence_text margin p
  sequence_lineless margin ended = refl
  sequence_lineless margin (followed first rest) = ap₂ (λ (a b : List ℕ). a ++ b) (statement_lineless margin first) (sequence_lineless margin rest)

  branches_lineless : (margin : List ℕ) (ps : Sequences) → branches_text margin (lineless_sequences ps) ≡ branches_text margin ps
  branches_lineless margin no_more = refl
  branches_lineless margin (beside first rest) =
      ap₂ (λ (a b : List ℕ). branch_text margin a ++ b) (sequence_lineless (wider margin) first) (branches_lineless margin rest)

  phases_lineless : (is_later : Bool) (margin : List ℕ) (ps : Sequences) → phases_text is_later margin (lineless_sequences ps) ≡ phases_text is_later margin ps
  phases_lineless is_later margin no_more = refl
  phases_lineless is_later margin (beside first rest) =
      ap₂ (λ (a b : List ℕ). barrier_text is_later ++ block_text margin a ++ b) (sequence_lineless (wider margin) first) (phases_lineless true margin rest)

declarations_lineless : (arrays : List Declaration) → flat_map declaration_text (map lineless_declaration arrays) ≡ flat_map declaration_text arrays
declarations_lineless [] = refl
declarations_lineless (d ∷ ds) = ap (λ (t : List ℕ). declaration_text d ++ t) (declarations_lineless ds)

printed_lineless : (p : ProgramTree) → printed (lineless p) ≡ printed p
printed_lineless p = ap₂ (λ (a b : List ℕ). a ++ b) (declarations_lineless p.arrays) (sequence_lineless [] p.body)

same_text : (p q : ProgramTree) → SameButLines p q → printed p ≡ printed q
same_text p q same = sym (printed_lineless p) ∙ ap printed same ∙ printed_lineless q

-- If some text spells the program up to line numbers, the printed text does too.
spelled_by_printed : (p : ProgramTree) → IsSpelledButLines p → SpellsButLines (printed p) p
spelled_by_printed p (text, (q, spells, same)) =
    let own = printed_spells text q spells in
    (own.0, subst (λ (t : List ℕ). Spells t own.0) (same_text q p same) own.1, own.2 ∙ same)

-- The same for a function's result.
pub answer_spells : {T F : Type 0} (r : Result T F) (view : T → List ℕ) (p : ProgramTree) → IsSpelledButLines p → IfOk r (λ x. view x ≡ printed p) → IfOk r (λ x. SpellsButLines (view x) p)
answer_spells (Ok x) view p h e = subst (λ text. SpellsButLines text p) (sym e) (spelled_by_printed p h)
answer_spells (Err f) view p h e = tt

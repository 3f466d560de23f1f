-- The printed text of a program that some text spells does so too, up to line numbers.
use Rattle.std.proofs.Common.{◌≡◌, ℕ, ℤ, pos, negsuc, List, [], ◌∷◌, ◌++◌, None, map, refl, ap, ◌∙◌}
use Rattle.std.specs.Prelude.{codes, flat_map}
use Rattle.array_tokens.specs.Lexemes.{name, word, sign, Spot}
use Rattle.array_tokens.specs.declared.token.Word.TheVariants as words
use Rattle.array_tokens.specs.declared.token.Sign.TheVariants as signs
use Rattle.array_tree.specs.Trees.{Sequence, Declaration, ProgramTree}
use Rattle.array_lang.specs.Grammar.{SpellsDeclaration, declaration, SpellsDeclarations, no_declaration, next_declaration, SpellsProgram}
use Rattle.array_lang.specs.Nesting.{declarations_beyond, sequence_beyond, first_beyond}
use Rattle.array_lang.proofs.Marks.{no_true-append, no_true-both, none_true, true_none, declarations_clear}
use Rattle.array_lang.specs.Spelled.{Spells}
use Rattle.array_print.specs.Texts.{declaration_text, printed}
use Rattle.array_print.specs.Spellings.{lineless_sequence, lineless_declaration, lineless, SpellsButLines}
use Rattle.array_print.proofs.Cuts.{One, one, Nothing, nothing, Then, joined, Anything, CutsInto, cuts_both, cuts_as, cuts_none, cuts_space, cuts_newline, Whole, cuts_whole}
use Rattle.array_print.specs.Writable.{IsName, IsNumber, CanFollow, AreDeclarable, IsWritable}
use Rattle.array_print.proofs.Pieces.{cuts_name, cuts_word, cuts_open_index, cuts_close_index, cuts_semicolon, cuts_before}
use Rattle.array_print.proofs.PrintedStatements.{IsSequence, IsLiteral, sequence_cuts, member_cuts}
use Rattle.array_print.proofs.SpelledTokens.{AreGood, tokens_good}
use Rattle.array_print.proofs.SpelledTrees.{sequence_stands}

record IsDeclaration (array : Declaration) (s t : List Spot) : Type 0 where
  tree : Declaration
  d : SpellsDeclaration s t tree
  same : lineless_declaration tree ≡ lineless_declaration array

record AreDeclarations (arrays : List Declaration) (s t : List Spot) : Type 0 where
  trees : List Declaration
  d : SpellsDeclarations s t trees
  same : map lineless_declaration trees ≡ map lineless_declaration arrays

cuts_array : CutsInto (codes "array ") (One (word words.Array)) Anything
cuts_array = cuts_before cuts_space (λ rest. refl) (cuts_word 97 (114 ∷ 114 ∷ 97 ∷ 121 ∷ []) words.Array refl (refl, (refl, (refl, (refl, tt)))) refl)

cuts_length_end : CutsInto (codes "];\n") (Then (One (sign signs.CloseIndex)) (One (sign signs.Semicolon))) Anything
cuts_length_end = cuts_both cuts_close_index (cuts_before cuts_newline (λ rest. tt) cuts_semicolon) (λ rest h. tt)

declaration_is : (line : ℕ) (b : List ℕ) (v : ℤ) {s t : List Spot} →
    Then (Then (Then (Then (One (word words.Array)) (One (name b))) (One (sign signs.OpenIndex))) (IsLiteral v)) (Then (One (sign signs.CloseIndex)) (One (sign signs.Semicolon))) s t →
    IsDeclaration (record { line = line; name = b; length = v }) s t
declaration_is line b (negsuc v) (joined (joined h l) ends) = absurd l
declaration_is line b (pos v) (joined (joined (joined (joined (one {n = n}) one) one) one) (joined one one)) =
    record { tree = record { line = n; name = b; length = pos v }; d = declaration; same = refl }

declaration_cuts : (array : Declaration) → IsName array.name → IsNumber array.length → CutsInto (declaration_text array) (IsDeclaration array) Anything
declaration_cuts array n l =
    cuts_as
    (cuts_both (cuts_both (cuts_both (cuts_both cuts_array (cuts_name array.name n) (λ rest h. tt)) cuts_open_index (λ rest h. refl)) (member_cuts array.length l) (λ rest h. tt)) cuts_length_end (λ rest h. refl))
    (λ s t d. declaration_is array.line array.name array.length d)

no_declarations : {s t : List Spot} → Nothing s t → AreDeclarations [] s t
no_declarations nothing = record { trees = []; d = no_declaration; same = refl }

more_declarations : {array : Declaration} {arrays : List Declaration} {s t : List Spot} → Then (IsDeclaration array) (AreDeclarations arrays) s t → AreDeclarations (array ∷ arrays) s t
more_declarations {array} (joined a r) =
    record {
      trees = a.tree ∷ r.trees;
      d = next_declaration a.d r.d;
      same = ap (λ x. x ∷ map lineless_declaration r.trees) a.same ∙ ap (λ l. lineless_declaration array ∷ l) r.same;
    }

declarations_cut : (arrays : List Declaration) → AreDeclarable arrays → CutsInto (flat_map declaration_text arrays) (AreDeclarations arrays) Anything
declarations_cut [] h = cuts_as cuts_none (λ s t d. no_declarations d)
declarations_cut (d ∷ ds) h = cuts_as (cuts_both (declaration_cuts d h.0 h.1) (declarations_cut ds h.2) (λ rest s. tt)) (λ s t e. more_declarations e)

declarations_good : {s t : List Spot} {ds : List Declaration} → SpellsDeclarations s t ds → AreGood s → AreDeclarable ds × AreGood t
declarations_good no_declaration h = (tt, h)
declarations_good (next_declaration declaration e) h =
    let p = declarations_good e h.1.1.1.1.1.1 in ((h.1.0, h.1.1.1.0, p.0), p.1)

-- The tokens spell the program up to line numbers, within the limits.
record IsProgram (p : ProgramTree) (tokens : List Spot) : Type 0 where
  tree : ProgramTree
  d : SpellsProgram tokens tree
  same : lineless tree ≡ lineless p
  fits : first_beyond d ≡ None

abbrev program : List Declaration → Sequence → ProgramTree
program arrays body = record { arrays = arrays; body = body }

program_is : (p : ProgramTree) {tokens : List Spot} → Then (AreDeclarations p.arrays) (IsSequence 0 p.body) tokens [] → IsProgram p tokens
program_is p (joined {t = body} ds q) =
    record {
      tree = program ds.trees q.tree;
      d = record { body = body; declares = ds.d; does = q.d };
      same = ap (λ l. program l (lineless_sequence q.tree)) ds.same ∙ ap (program (map lineless_declaration p.arrays)) q.same;
      fits = true_none (declarations_beyond ds.d ++ sequence_beyond 0 q.d) (no_true-both (declarations_beyond ds.d) (sequence_beyond 0 q.d) (declarations_clear ds.d) q.fits);
    }

program_cuts : (p : ProgramTree) → AreDeclarable p.arrays → CanFollow 0 p.body → CutsInto (printed p) (Then (AreDeclarations p.arrays) (IsSequence 0 p.body)) Anything
program_cuts p h k = cuts_both (declarations_cut p.arrays h) (sequence_cuts p.body 0 [] cuts_none k) (λ rest s. tt)

whole_spells : (text : List ℕ) (p : ProgramTree) (w : Whole text (Then (AreDeclarations p.arrays) (IsSequence 0 p.body))) → SpellsButLines text p
whole_spells text p w =
    let r = program_is p w.spells in
    (r.tree, record { tokens = w.tokens; cut = w.cut_is; tree = r.d; fits = r.fits }, r.same)

-- The printed text of a writable program spells it, up to line numbers.
pub writable_spells : (p : ProgramTree) → IsWritable p → SpellsButLines (printed p) p
writable_spells p h = whole_spells (printed p) p (cuts_whole (program_cuts p h.declares h.does) tt)

-- A program that some text spells is writable.
pub spelled_writable : (text : List ℕ) (p : ProgramTree) → Spells text p → IsWritable p
spelled_writable text p h =
    let declares = declarations_good h.tree.declares (tokens_good text h.tokens h.cut) in
    let clear = no_true-append (declarations_beyond h.tree.declares) (sequence_beyond 0 h.tree.does) (none_true (declarations_beyond h.tree.declares ++ sequence_beyond 0 h.tree.does) h.fits) in
    let does = sequence_stands h.tree.does 0 declares.1 clear.1 in
    record { declares = declares.0; does = does.0 }

-- If some text spells the program, the printed text does too, up to line numbers.
pub printed_spells : (text : List ℕ) (p : ProgramTree) → Spells text p → SpellsButLines (printed p) p
printed_spells text p h = writable_spells p (spelled_writable text p h)

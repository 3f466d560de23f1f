-- The printed text of statements spells them up to line numbers, within the limits on nesting.
use Rattle.std.proofs.Common.{◌≡◌, ℕ, ℤ, pos, negsuc, ◌+◌, ◌<◌, List, [], ◌∷◌, ◌++◌, Bool, true, false, not, ◌&&◌, nat_le, refl, ap, ◌∙◌, arith}
use Rattle.std.specs.Prelude.{codes, negsuc}
use Rattle.std.specs.Fmt.{signed_decimal}
use Rattle.std.proofs.lemmas.Bool.Decides.{nat_tests}
use Rattle.array_tokens.specs.Lexemes.{name, number, word, sign, Spot}
use Rattle.array_tokens.specs.declared.token.Word.TheVariants as words
use Rattle.array_tokens.specs.declared.token.Sign.TheVariants as signs
use Rattle.array_tree.specs.Trees.{Expression, Statement, Assign, For, If, Par, Team, Sequence, ended, followed, Sequences, no_more, beside}
use Rattle.array_lang.specs.Grammar.{spot, SpellsBound, SpellsRange, range, SpellsStatement, assigned, looped, chosen, chosen_else, parallel, teamed, SpellsBranches, last_branch, next_branch, SpellsPhases, last_phase, next_phase, SpellsBlock, block, SpellsSequence, no_statement, next_statement}
use Rattle.array_lang.specs.Nesting.{expression_beyond, range_beyond, statement_beyond, branches_beyond, phases_beyond, block_beyond, sequence_beyond}
use Rattle.array_lang.proofs.Marks.{no_true, no_true-both, range_clear, few_clear}
use Rattle.array_print.specs.Texts.{target_text, range_text, dealt_text, wider, block_text, else_text, branch_text, statement_text, sequence_text, branches_text, phases_text}
use Rattle.array_print.specs.Spellings.{lineless_statement, lineless_sequence, lineless_sequences}
use Rattle.array_print.proofs.Cuts.{One, one, Nothing, nothing, Then, joined, NoName, Anything, CutsInto, cuts_both, cuts_as, cuts_none, cuts_space, cuts_newline}
use Rattle.array_print.specs.Writable.{IsName, IsNumber, IsBound, IsPrintable, IsWhole, IsSome, CanStand, CanFollow, CanBranch, marks_of}
use Rattle.array_print.proofs.Pieces.{cuts_name, cuts_word, cuts_number, cuts_bound, cuts_open_index, cuts_close_index, cuts_open_block, cuts_close_block, cuts_semicolon, cuts_range, cuts_before, cuts_after_space, cuts_spaced}
use Rattle.array_print.proofs.PrintedExpressions.{IsExpression, expression_cuts}

-- The tokens spell the statement up to line numbers, within the limits, inside this many open braces.
pub record IsStatement (depth : ℕ) (c : Statement) (s t : List Spot) : Type 0 where
  pub tree : Statement
  pub d : SpellsStatement s t tree
  pub same : lineless_statement tree ≡ lineless_statement c
  pub fits : no_true (statement_beyond depth d) ≡ true

pub record IsSequence (depth : ℕ) (p : Sequence) (s t : List Spot) : Type 0 where
  pub tree : Sequence
  pub d : SpellsSequence s t tree
  pub same : lineless_sequence tree ≡ lineless_sequence p
  pub fits : no_true (sequence_beyond depth d) ≡ true

record IsBlock (depth : ℕ) (p : Sequence) (s t : List Spot) : Type 0 where
  tree : Sequence
  d : SpellsBlock s t tree
  same : lineless_sequence tree ≡ lineless_sequence p
  fits : no_true (block_beyond depth d) ≡ true

record IsPhases (depth : ℕ) (ps : Sequences) (s t : List Spot) : Type 0 where
  trees : Sequences
  d : SpellsPhases s t trees
  same : lineless_sequences trees ≡ lineless_sequences ps
  fits : no_true (phases_beyond depth d) ≡ true

record IsBranches (depth : ℕ) (ps : Sequences) (s t : List Spot) : Type 0 where
  trees : Sequences
  d : SpellsBranches s t trees
  same : lineless_sequences trees ≡ lineless_sequences ps
  fits : no_true (branches_beyond depth d) ≡ true

-- Blocks beside one another, and blocks behind barriers.
data Beside (depth : ℕ) : Sequences → List Spot → List Spot → Type 0 where
  none_beside : {s : List Spot} → Beside depth no_more s s
  one_beside : {s t u : List Spot} {p : Sequence} {ps : Sequences} → IsBlock depth p s t → Beside depth ps t u → Beside depth (beside p ps) s u

data Later (depth : ℕ) : Sequences → List Spot → List Spot → Type 0 where
  none_later : {s : List Spot} → Later depth no_more s s
  one_later : {s t u : List Spot} {a n : ℕ} {p : Sequence} {ps : Sequences} → IsBlock depth p s t → Later depth ps t u → Later depth (beside p ps) (spot (word words.Barrier) a n ∷ s) u

and_true : {a b : Bool} → a ≡ true → b ≡ true → (a && b) ≡ true
and_true p q = rw p q

below : (depth : ℕ) → depth < 32 → not (nat_le 32 depth) ≡ true
below depth h = grind (arith, nat_tests)

-- Branches up to the brace behind them.
branches_of : {depth : ℕ} {s t : List Spot} {a n : ℕ} (p : Sequence) (ps : Sequences) {u : List Spot} → IsBlock depth p s u → Beside depth ps u (spot (sign signs.CloseBlock) a n ∷ t) → IsBranches depth (beside p ps) s t
branches_of {depth} p no_more b none_beside = record { trees = beside b.tree no_more; d = last_branch b.d; same = ap (λ q. beside q no_more) b.same; fits = no_true-both (block_beyond depth b.d) (false ∷ []) b.fits refl }
branches_of {depth} p (beside q qs) b (one_beside c rest) =
    let r = branches_of q qs c rest in
    record {
      trees = beside b.tree r.trees;
      d = next_branch b.d r.d;
      same = ap (λ x. beside x (lineless_sequences r.trees)) b.same ∙ ap (beside (lineless_sequence p)) r.same;
      fits = no_true-both (block_beyond depth b.d) (branches_beyond depth r.d) b.fits r.fits;
    }

phases_of : {depth : ℕ} {s u t : List Spot} (p : Sequence) (ps : Sequences) → IsBlock depth p s u → Later depth ps u t → IsPhases depth (beside p ps) s t
phases_of p no_more b none_later = record { trees = beside b.tree no_more; d = last_phase b.d; same = ap (λ q. beside q no_more) b.same; fits = b.fits }
phases_of {depth} p (beside q qs) b (one_later c rest) =
    let r = phases_of q qs c rest in
    record {
      trees = beside b.tree r.trees;
      d = next_phase b.d r.d;
      same = ap (λ x. beside x (lineless_sequences r.trees)) b.same ∙ ap (beside (lineless_sequence p)) r.same;
      fits = no_true-both (block_beyond depth b.d) (false ∷ phases_beyond depth r.d) b.fits r.fits;
    }

-- The words, each with the space behind it.

cuts_for : CutsInto (codes "for ") (One (word words.For)) Anything
cuts_for = cuts_before cuts_space (λ rest. refl) (cuts_word 102 (111 ∷ 114 ∷ []) words.For refl (refl, (refl, tt)) refl)

cuts_in : CutsInto (codes " in ") (One (word words.In)) Anything
cuts_in = cuts_after_space (cuts_before cuts_space (λ rest. refl) (cuts_word 105 (110 ∷ []) words.In refl (refl, tt) refl))

cuts_by : CutsInto (codes " by ") (One (word words.By)) Anything
cuts_by = cuts_after_space (cuts_before cuts_space (λ rest. refl) (cuts_word 98 (121 ∷ []) words.By refl (refl, tt) refl))

cuts_if : CutsInto (codes "if ") (One (word words.If)) Anything
cuts_if = cuts_before cuts_space (λ rest. refl) (cuts_word 105 (102 ∷ []) words.If refl (refl, tt) refl)

cuts_else : CutsInto (codes " else") (One (word words.Else)) NoName
cuts_else = cuts_after_space (cuts_word 101 (108 ∷ 115 ∷ 101 ∷ []) words.Else refl (refl, (refl, (refl, tt))) refl)

cuts_barrier : CutsInto (codes " barrier") (One (word words.Barrier)) NoName
cuts_barrier = cuts_after_space (cuts_word 98 (97 ∷ 114 ∷ 114 ∷ 105 ∷ 101 ∷ 114 ∷ []) words.Barrier refl (refl, (refl, (refl, (refl, (refl, (refl, tt)))))) refl)

cuts_team : CutsInto (codes "team ") (One (word words.Team)) Anything
cuts_team = cuts_before cuts_space (λ rest. refl) (cuts_word 116 (101 ∷ 97 ∷ 109 ∷ []) words.Team refl (refl, (refl, (refl, tt))) refl)

drop_nothing : {R : List Spot → List Spot → Type 0} {s t : List Spot} → Then R Nothing s t → R s t
drop_nothing (joined d nothing) = d

open_line : CutsInto (codes " {\n") (One (sign signs.OpenBlock)) Anything
open_line = cuts_after_space (cuts_before cuts_newline (λ rest. tt) cuts_open_block)

cuts_par : CutsInto (codes "par {\n") (Then (One (word words.Par)) (One (sign signs.OpenBlock))) Anything
cuts_par = cuts_both (cuts_word 112 (97 ∷ 114 ∷ []) words.Par refl (refl, (refl, tt)) refl) open_line (λ rest h. refl)

close_line : CutsInto (codes "}\n") (One (sign signs.CloseBlock)) Anything
close_line = cuts_before cuts_newline (λ rest. tt) cuts_close_block

semicolon_line : CutsInto (codes ";\n") (One (sign signs.Semicolon)) Anything
semicolon_line = cuts_before cuts_newline (λ rest. tt) cuts_semicolon

cuts_target_end : CutsInto (codes "] = ") (Then (One (sign signs.CloseIndex)) (One (sign signs.Assign))) Anything
cuts_target_end = cuts_both cuts_close_index (cuts_spaced 61 [] signs.Assign (refl, tt) (λ rest. refl)) (λ rest h. tt)

-- A loop variable with its bounds.
range_is : {b : List ℕ} {low high : ℤ} {s t : List Spot} → Then (Then (Then (Then (One (name b)) (One (word words.In))) (λ s t. SpellsBound s t low)) (One (sign signs.Range))) (λ s t. SpellsBound s t high) s t → SpellsRange s t b low high
range_is (joined (joined (joined (joined one one) low) one) high) = range low high

range_cuts : (b : List ℕ) (low high : ℤ) → IsName b → IsBound low → IsBound high → CutsInto (range_text b low high) (λ s t. SpellsRange s t b low high) NoName
range_cuts b low high n l h =
    cuts_as
    (cuts_both (cuts_both (cuts_both (cuts_both (cuts_name b n) cuts_in (λ rest s. refl)) (cuts_bound low l) (λ rest s. tt)) cuts_range (λ rest s. refl)) (cuts_bound high h) (λ rest s. tt))
    (λ s t d. range_is d)

abbrev pub IsMargin : List ℕ → Type 0
IsMargin margin = CutsInto margin Nothing Anything

wider_margin : {margin : List ℕ} → IsMargin margin → IsMargin (wider margin)
wider_margin m =
    cuts_as (cuts_both m (cuts_as (cuts_both cuts_space cuts_space (λ rest h. tt)) (λ s t d. drop_nothing d)) (λ rest h. tt)) (λ s t d. drop_nothing d)

block_is : {depth : ℕ} {p : Sequence} {s t : List Spot} → depth < 32 → Then (Then (Then (One (sign signs.OpenBlock)) (IsSequence (depth + 1) p)) Nothing) (One (sign signs.CloseBlock)) s t → IsBlock depth p s t
block_is {depth} h (joined (joined (joined one q) nothing) one) = record { tree = q.tree; d = block q.d; same = q.same; fits = and_true (below depth h) (no_true-both (sequence_beyond (depth + 1) q.d) (false ∷ []) q.fits refl) }

block_cuts : (depth : ℕ) (margin : List ℕ) (p : Sequence) → IsMargin margin → depth < 32 → CutsInto (sequence_text (wider margin) p) (IsSequence (depth + 1) p) Anything → CutsInto (block_text margin (sequence_text (wider margin) p)) (IsBlock depth p) Anything
block_cuts depth margin p m h f =
    cuts_as (cuts_both (cuts_both (cuts_both open_line f (λ rest s. tt)) m (λ rest s. tt)) cuts_close_block (λ rest s. tt)) (λ s t d. block_is h d)

-- A branch, whose brace stands in the margin.
branch_is : {depth : ℕ} {p : Sequence} {s t : List Spot} → depth < 32 → Then (Then (Then (Then Nothing (One (sign signs.OpenBlock))) (IsSequence (depth + 1) p)) Nothing) (One (sign signs.CloseBlock)) s t → IsBlock depth p s t
branch_is {depth} h (joined (joined (joined (joined nothing one) q) nothing) one) = record { tree = q.tree; d = block q.d; same = q.same; fits = and_true (below depth h) (no_true-both (sequence_beyond (depth + 1) q.d) (false ∷ []) q.fits refl) }

branch_line : CutsInto (codes "{\n") (One (sign signs.OpenBlock)) Anything
branch_line = cuts_before cuts_newline (λ rest. tt) cuts_open_block

branch_cuts : (depth : ℕ) (margin : List ℕ) (p : Sequence) → IsMargin margin → depth < 32 → CutsInto (sequence_text (wider margin) p) (IsSequence (depth + 1) p) Anything → CutsInto (branch_text margin (sequence_text (wider margin) p)) (IsBlock depth p) Anything
branch_cuts depth margin p m h f =
    cuts_as
    (cuts_both (cuts_both (cuts_both (cuts_both m branch_line (λ rest s. tt)) f (λ rest s. tt)) m (λ rest s. tt)) close_line (λ rest s. tt))
    (λ s t d. branch_is h d)

-- An `else` side, or none.
data IsElse (depth : ℕ) : Sequence → List Spot → List Spot → Type 0 where
  no_else : {s : List Spot} → IsElse depth ended s s
  some_else : {s t : List Spot} {a n : ℕ} {q : Sequence} → IsBlock depth q s t → IsElse depth q (spot (word words.Else) a n ∷ s) t

no_else_is : {depth : ℕ} {s t : List Spot} → Nothing s t → IsElse depth ended s t
no_else_is nothing = no_else

some_else_is : {depth : ℕ} {q : Sequence} {s t : List Spot} → Then (One (word words.Else)) (IsBlock depth q) s t → IsElse depth q s t
some_else_is (joined one b) = some_else b

else_cuts : (depth : ℕ) (margin inside : List ℕ) (q : Sequence) → CutsInto (block_text margin inside) (IsBlock depth q) Anything → CutsInto (else_text q (block_text margin inside)) (IsElse depth q) Anything
else_cuts depth margin inside ended f = cuts_as cuts_none (λ s t d. no_else_is d)
else_cuts depth margin inside (followed c p) f = cuts_as (cuts_both cuts_else f (λ rest h. refl)) (λ s t d. some_else_is d)

-- An outermost expression has few marks.
whole_fits : {x : Expression} {s t : List Spot} (e : IsExpression x (marks_of x) s t) → IsWhole x → no_true (expression_beyond e.d) ≡ true
whole_fits e w = few_clear e.d (omega (arith, e.few, w.1))

-- The target of an assignment, up to its sign.
abbrev Target : List ℕ → Expression → List Spot → List Spot → Type 0
Target b x s t = Then (Then (Then (One (name b)) (One (sign signs.OpenIndex))) (IsExpression x (marks_of x))) (Then (One (sign signs.CloseIndex)) (One (sign signs.Assign))) s t

target_cuts : (b : List ℕ) (x : Expression) → IsName b → IsPrintable x → CutsInto (target_text b x) (Target b x) Anything
target_cuts b x n h = cuts_both (cuts_both (cuts_both (cuts_name b n) cuts_open_index (λ rest s. refl)) (expression_cuts x h) (λ rest s. tt)) cuts_target_end (λ rest s. refl)

assigned_is : {depth line : ℕ} {b : List ℕ} {x y : Expression} {s t : List Spot} → IsWhole x → IsWhole y →
    Then (Then (Then Nothing (Target b x)) (IsExpression y (marks_of y))) (One (sign signs.Semicolon)) s t → IsStatement depth (Assign line b x y) s t
assigned_is {b} {x} {y} h k (joined (joined (joined nothing (joined (joined (joined (one {n = n}) one) e) (joined one one))) f) one) =
    record { tree = Assign n b x y; d = assigned e.d f.d; same = refl; fits = no_true-both (expression_beyond e.d) (false ∷ false ∷ (expression_beyond f.d ++ false ∷ [])) (whole_fits e h) (no_true-both (expression_beyond f.d) (false ∷ []) (whole_fits f k) refl) }

looped_is : {depth line : ℕ} {b : List ℕ} {low high : ℤ} {p : Sequence} {s t : List Spot} →
    Then (Then (Then (Then Nothing (One (word words.For))) (λ s t. SpellsRange s t b low high)) (IsBlock depth p)) Nothing s t →
    IsStatement depth (For line b low high p) s t
looped_is {depth} {b} {low} {high} (joined (joined (joined (joined nothing (one {n = n})) r) q) nothing) =
    record { tree = For n b low high q.tree; d = looped r q.d; same = ap (For 0 b low high) q.same; fits = no_true-both (range_beyond r) (block_beyond depth q.d) (range_clear r) q.fits }

chosen_is : {depth line : ℕ} {x : Expression} {p q : Sequence} {s t : List Spot} → IsWhole x →
    Then (Then (Then (Then (Then Nothing (One (word words.If))) (IsExpression x (marks_of x))) (IsBlock depth p)) (IsElse depth q)) Nothing s t →
    IsStatement depth (If line x p q) s t
chosen_is {depth} {x} h (joined (joined (joined (joined (joined nothing (one {n = n})) e) b) no_else) nothing) =
    record { tree = If n x b.tree ended; d = chosen e.d b.d; same = ap (λ z. If 0 x z ended) b.same; fits = no_true-both (expression_beyond e.d) (block_beyond depth b.d) (whole_fits e h) b.fits }
chosen_is {depth} {x} {p} h (joined (joined (joined (joined (joined nothing (one {n = n})) e) b) (some_else c)) nothing) =
    record {
      tree = If n x b.tree c.tree;
      d = chosen_else e.d b.d c.d;
      same = ap (λ z. If 0 x z (lineless_sequence c.tree)) b.same ∙ ap (If 0 x (lineless_sequence p)) c.same;
      fits = no_true-both (expression_beyond e.d) (block_beyond depth b.d ++ false ∷ block_beyond depth c.d) (whole_fits e h) (no_true-both (block_beyond depth b.d) (false ∷ block_beyond depth c.d) b.fits c.fits);
    }

parallel_is : {depth line : ℕ} {s t : List Spot} (ps : Sequences) → IsSome ps → depth < 32 →
    Then (Then (Then (Then Nothing (Then (One (word words.Par)) (One (sign signs.OpenBlock)))) (Beside (depth + 1) ps)) Nothing) (One (sign signs.CloseBlock)) s t →
    IsStatement depth (Par line ps) s t
parallel_is no_more some h d = absurd some
parallel_is {depth} (beside p ps) some h (joined (joined (joined (joined nothing (joined (one {n = n}) one)) (one_beside b rest)) nothing) one) =
    let r = branches_of p ps b rest in
    record { tree = Par n r.trees; d = parallel r.d; same = ap (Par 0) r.same; fits = and_true (below depth h) r.fits }

-- The token of a number.
abbrev pub IsLiteral : ℤ → List Spot → List Spot → Type 0
IsLiteral (pos n) s t = One (number n) s t
IsLiteral (negsuc n) s t = ⊥

teamed_is : {depth line : ℕ} {b : List ℕ} {low high members : ℤ} {ps : Sequences} {s t : List Spot} →
    Then (Then (Then (Then Nothing (One (word words.Team))) (Then (Then (λ s t. SpellsRange s t b low high) (One (word words.By))) (IsLiteral members))) (IsPhases depth ps)) Nothing s t →
    IsStatement depth (Team line b low high members ps) s t
teamed_is {depth} {b} {low} {high} {members = negsuc m} (joined (joined (joined (joined nothing one) (joined (joined r one) l)) q) nothing) = absurd l
teamed_is {depth} {b} {low} {high} {members = pos m} (joined (joined (joined (joined nothing (one {n = n})) (joined (joined r one) one)) q) nothing) =
    record { tree = Team n b low high (pos m) q.trees; d = teamed r q.d; same = ap (Team 0 b low high (pos m)) q.same; fits = no_true-both (range_beyond r) (false ∷ false ∷ phases_beyond depth q.d) (range_clear r) q.fits }

pub member_cuts : (v : ℤ) → IsNumber v → CutsInto (signed_decimal v) (IsLiteral v) NoName
member_cuts (pos n) h = cuts_number n h
member_cuts (negsuc n) h = absurd h

dealt_cuts : (b : List ℕ) (low high members : ℤ) → IsName b → IsBound low → IsBound high → IsNumber members → CutsInto (dealt_text b low high members) (Then (Then (λ s t. SpellsRange s t b low high) (One (word words.By))) (IsLiteral members)) NoName
dealt_cuts b low high members n l h k = cuts_both (cuts_both (range_cuts b low high n l h) cuts_by (λ rest s. refl)) (member_cuts members k) (λ rest s. tt)

phases_no_name : (ps : Sequences) (margin rest : List ℕ) → IsSome ps → NoName (phases_text false margin ps ++ rest)
phases_no_name no_more margin rest h = absurd h
phases_no_name (beside p ps) margin rest h = refl

no_statements : {depth : ℕ} {s t : List Spot} → Nothing s t → IsSequence depth ended s t
no_statements nothing = record { tree = ended; d = no_statement; same = refl; fits = refl }

more_statements : {depth : ℕ} {c : Statement} {p : Sequence} {s t : List Spot} → Then (IsStatement depth c) (IsSequence depth p) s t → IsSequence depth (followed c p) s t
more_statements {depth} {c} (joined b q) =
    record {
      tree = followed b.tree q.tree;
      d = next_statement b.d q.d;
      same = ap (λ x. followed x (lineless_sequence q.tree)) b.same ∙ ap (followed (lineless_statement c)) q.same;
      fits = no_true-both (statement_beyond depth b.d) (sequence_beyond depth q.d) b.fits q.fits;
    }

no_branches : {depth : ℕ} {s t : List Spot} → Nothing s t → Beside depth no_more s t
no_branches nothing = none_beside

more_branches : {depth : ℕ} {p : Sequence} {ps : Sequences} {s t : List Spot} → Then (IsBlock depth p) (Beside depth ps) s t → Beside depth (beside p ps) s t
more_branches (joined b rest) = one_beside b rest

no_phases : {depth : ℕ} {s t : List Spot} → Nothing s t → Later depth no_more s t
no_phases nothing = none_later

more_phases : {depth : ℕ} {p : Sequence} {ps : Sequences} {s t : List Spot} → Then (Then (One (word words.Barrier)) (IsBlock depth p)) (Later depth ps) s t → Later depth (beside p ps) s t
more_phases (joined (joined one b) rest) = one_later b rest

first_phase : {depth : ℕ} (p : Sequence) (ps : Sequences) {s t : List Spot} → Then (IsBlock depth p) (Later depth ps) s t → IsPhases depth (beside p ps) s t
first_phase p ps (joined b rest) = phases_of p ps b rest

mutual
  statement_cuts : (c : Statement) (depth : ℕ) (margin : List ℕ) → IsMargin margin → CanStand depth c → CutsInto (statement_text margin c) (IsStatement depth c) Anything
  statement_cuts (Assign line array x y) depth margin m h =
      cuts_as
      (cuts_both (cuts_both (cuts_both m (target_cuts array x h.0 h.1.0) (λ rest s. tt)) (expression_cuts y h.2.0) (λ rest s. tt)) semicolon_line (λ rest s. refl))
      (λ s t d. assigned_is h.1 h.2 d)
  statement_cuts (For line var low high p) depth margin m h =
      cuts_as
      (cuts_both (cuts_both (cuts_both (cuts_both m cuts_for (λ rest s. tt)) (range_cuts var low high h.0 h.1 h.2) (λ rest s. tt))
      (block_cuts depth margin p m h.3 (sequence_cuts p (depth + 1) (wider margin) (wider_margin m) h.4)) (λ rest s. refl)) cuts_newline (λ rest s. tt))
      (λ s t d. looped_is d)
  statement_cuts (If line x p q) depth margin m h =
      cuts_as
      (cuts_both (cuts_both (cuts_both (cuts_both (cuts_both m cuts_if (λ rest s. tt)) (expression_cuts x h.0.0) (λ rest s. tt))
      (block_cuts depth margin p m h.1 (sequence_cuts p (depth + 1) (wider margin) (wider_margin m) h.2)) (λ rest s. refl))
      (else_cuts depth margin (sequence_text (wider margin) q) q (block_cuts depth margin q m h.1 (sequence_cuts q (depth + 1) (wider margin) (wider_margin m) h.3))) (λ rest s. tt))
      cuts_newline (λ rest s. tt))
      (λ s t d. chosen_is h.0 d)
  statement_cuts (Par line ps) depth margin m h =
      cuts_as
      (cuts_both (cuts_both (cuts_both (cuts_both m cuts_par (λ rest s. tt)) (branches_cuts ps (depth + 1) (wider margin) (wider_margin m) h.2) (λ rest s. tt)) m (λ rest s. tt)) close_line (λ rest s. tt))
      (λ s t d. parallel_is ps h.1 h.0 d)
  statement_cuts (Team line var low high members ps) depth margin m h =
      cuts_as
      (cuts_both (cuts_both (cuts_both (cuts_both m cuts_team (λ rest s. tt)) (dealt_cuts var low high members h.0 h.1 h.2 h.3) (λ rest s. tt))
      (phases_cuts ps depth margin m h.4 h.5) (λ rest s. phases_no_name ps margin rest h.4)) cuts_newline (λ rest s. tt))
      (λ s t d. teamed_is d)

  pub sequence_cuts : (p : Sequence) (depth : ℕ) (margin : List ℕ) → IsMargin margin → CanFollow depth p → CutsInto (sequence_text margin p) (IsSequence depth p) Anything
  sequence_cuts ended depth margin m h = cuts_as cuts_none (λ s t d. no_statements d)
  sequence_cuts (followed c p) depth margin m h =
      cuts_as (cuts_both (statement_cuts c depth margin m h.0) (sequence_cuts p depth margin m h.1) (λ rest s. tt)) (λ s t d. more_statements d)

  branches_cuts : (ps : Sequences) (depth : ℕ) (margin : List ℕ) → IsMargin margin → CanBranch depth ps → CutsInto (branches_text margin ps) (Beside depth ps) Anything
  branches_cuts no_more depth margin m h = cuts_as cuts_none (λ s t d. no_branches d)
  branches_cuts (beside p ps) depth margin m h =
      cuts_as
      (cuts_both (branch_cuts depth margin p m h.0 (sequence_cuts p (depth + 1) (wider margin) (wider_margin m) h.1)) (branches_cuts ps depth margin m h.2) (λ rest s. tt))
      (λ s t d. more_branches d)

  phases_cuts : (ps : Sequences) (depth : ℕ) (margin : List ℕ) → IsMargin margin → IsSome ps → CanBranch depth ps → CutsInto (phases_text false margin ps) (IsPhases depth ps) Anything
  phases_cuts no_more depth margin m some h = absurd some
  phases_cuts (beside p ps) depth margin m some h =
      cuts_as
      (cuts_both (block_cuts depth margin p m h.0 (sequence_cuts p (depth + 1) (wider margin) (wider_margin m) h.1)) (later_cuts ps depth margin m h.2) (λ rest s. tt))
      (λ s t d. first_phase p ps d)

  later_cuts : (ps : Sequences) (depth : ℕ) (margin : List ℕ) → IsMargin margin → CanBranch depth ps → CutsInto (phases_text true margin ps) (Later depth ps) Anything
  later_cuts no_more depth margin m h = cuts_as cuts_none (λ s t d. no_phases d)
  later_cuts (beside p ps) depth margin m h =
      cuts_as
      (cuts_both (cuts_both cuts_barrier (block_cuts depth margin p m h.0 (sequence_cuts p (depth + 1) (wider margin) (wider_margin m) h.1)) (λ rest s. refl)) (later_cuts ps depth margin m h.2) (λ rest s. tt))
      (λ s t d. more_phases d)

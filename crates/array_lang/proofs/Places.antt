-- In tokens that spell a program, the scan and the grammar find the same first token that exceeds a limit.
use Rattle.std.proofs.Common.{◌≡◌, ℕ, ℤ, ◌+◌, ◌≤◌, Bool, true, false, ◌&&◌, nat_le, List, [], ◌∷◌, ◌++◌, Option, None, refl, sym, ap, ◌∙◌, arith}
use Rattle.std.specs.Prelude.{if◌then◌else◌}
use Rattle.array_lang.proofs.Marks.{no_true, AreInner, no_token, one_token, inner_tokens, expression_inner, inner_between, marks_behind, few_after, whole_marks, whole_few}
use Rattle.std.proofs.lemmas.Bool.Decides.{nat_tests}
use Rattle.array_tokens.specs.Lexemes.{name, number, word, sign, Spot}
use Rattle.array_tokens.specs.declared.token.Word.TheVariants as words
use Rattle.array_tokens.specs.declared.token.Sign.TheVariants as signs
use Rattle.array_tree.specs.Trees.{Expression, Statement, Sequence, Sequences, Declaration, ProgramTree}
use Rattle.array_lang.specs.Parsing.Scan.{reach_after, depth_after, is_over, nested_at, first_nested}
use Rattle.array_lang.specs.Grammar.{spot, SpellsExpression, SpellsBound, plain_bound, negative_bound, SpellsRange, range, SpellsStatement, assigned, looped, chosen, chosen_else, parallel, teamed, SpellsBranches, last_branch, next_branch, SpellsPhases, last_phase, next_phase, SpellsBlock, block, SpellsSequence, no_statement, next_statement, declaration, SpellsDeclarations, no_declaration, next_declaration, SpellsProgram}
use Rattle.array_lang.specs.Nesting.{is_mark, marks_after, marks_beyond, expression_beyond, bound_beyond, range_beyond, statement_beyond, branches_beyond, phases_beyond, block_beyond, sequence_beyond, declarations_beyond, program_beyond, later, first_over, first_true, first_beyond}
use Rattle.array_lang.specs.declared.nesting.Reach.{Reach}
use Rattle.array_lang.specs.declared.nesting.Reach.TheVariants.{Outside, Target, Inside}

-- The index of the first true one, or else the index found behind these.
abbrev lead : List Bool → Option ℕ → Option ℕ
lead [] o = o
lead (b ∷ bs) o = first_over b (lead bs o)

lead-append : (a b : List Bool) (o : Option ℕ) → lead (a ++ b) o ≡ lead a (lead b o)
lead-append [] b o = refl
lead-append (x ∷ a) b o = ap (first_over x) (lead-append a b o)

lead_none : (a : List Bool) → lead a None ≡ first_true a
lead_none [] = refl
lead_none (x ∷ a) = ap (first_over x) (lead_none a)

-- What follows matters only if none of these is true.
under_lead : (a : List Bool) (o o' : Option ℕ) → (no_true a ≡ true → o ≡ o') → lead a o ≡ lead a o'
under_lead [] o o' h = h refl
under_lead (false ∷ a) o o' h = ap later (under_lead a o o' h)
under_lead (true ∷ a) o o' h = refl

under_first : (b : Bool) (o o' : Option ℕ) → (b ≡ false → o ≡ o') → first_over b o ≡ first_over b o'
under_first false o o' h = ap later (h refl)
under_first true o o' h = refl

few_over : (depth m : ℕ) → depth ≤ 32 → m ≤ 64 → is_over depth (Inside m) ≡ false
few_over depth m h k = grind (arith, nat_tests)

outside_over : (depth : ℕ) → depth ≤ 32 → is_over depth Outside ≡ false
outside_over depth h = grind (arith, nat_tests)

target_over : (depth : ℕ) → depth ≤ 32 → is_over depth Target ≡ false
target_over depth h = grind (arith, nat_tests)

brace_over : (depth : ℕ) → is_over (depth + 1) Outside ≡ nat_le 32 depth
brace_over depth = grind (arith, nat_tests)

deeper : (depth : ℕ) → nat_le 32 depth ≡ false → depth + 1 ≤ 32
deeper depth h = grind (arith, nat_tests)

-- The scan's state after one token.
moves : (r r' : Reach) (depth depth' : ℕ) (t : Spot) (ts : List Spot) → reach_after r t.lexeme ≡ r' → depth_after depth t.lexeme ≡ depth' → nested_at r depth (t ∷ ts) ≡ first_over (is_over depth' r') (nested_at r' depth' ts)
moves r r' depth depth' t ts e f =
    ap (λ q. first_over (is_over (depth_after depth t.lexeme) q) (nested_at q (depth_after depth t.lexeme) ts)) e
    ∙ ap (λ n. first_over (is_over n r') (nested_at r' n ts)) f

-- A token that exceeds no limit.
plain : (r r' : Reach) (depth depth' : ℕ) (t : Spot) (ts : List Spot) → reach_after r t.lexeme ≡ r' → depth_after depth t.lexeme ≡ depth' → is_over depth' r' ≡ false → nested_at r depth (t ∷ ts) ≡ later (nested_at r' depth' ts)
plain r r' depth depth' t ts e f h = moves r r' depth depth' t ts e f ∙ ap (λ b. first_over b (nested_at r' depth' ts)) h

mark_over : (b : Bool) (depth m : ℕ) → depth ≤ 32 → m ≤ 64 → is_over depth (Inside (if b then m + 1 else m)) ≡ (b && nat_le 64 m)
mark_over true depth m h k = grind (arith, nat_tests)
mark_over false depth m h k = grind (arith, nat_tests)

inner_leads : {s t : List Spot} (d : AreInner s t) (m depth : ℕ) → depth ≤ 32 → m ≤ 64 → nested_at (Inside m) depth s ≡ lead (marks_beyond m (inner_tokens d)) (nested_at (Inside (marks_behind m (inner_tokens d))) depth t)
inner_leads no_token m depth h k = refl
inner_leads (one_token {s} {l} {a} {n} i d) m depth h k =
    let e = i m depth in
    moves (Inside m) (Inside (marks_after m l)) depth depth (spot l a n) s e.0 e.1
    ∙ ap (λ b. first_over b (nested_at (Inside (marks_after m l)) depth s)) (mark_over (is_mark l) depth m h k)
    ∙ under_first (is_mark l && nat_le 64 m) _ _ (λ q. inner_leads d (marks_after m l) depth h (few_after (is_mark l) m k q))

whole_leads : {s t : List Spot} {x : Expression} (d : SpellsExpression s t x) (depth : ℕ) → depth ≤ 32 → nested_at (Inside 0) depth s ≡ lead (expression_beyond d) (nested_at (Inside (whole_marks d)) depth t)
whole_leads {s} {t} d depth h =
    inner_leads (expression_inner d) 0 depth h (omega arith)
    ∙ ap (λ front. lead (marks_beyond 0 front) (nested_at (Inside (marks_behind 0 front)) depth t)) (inner_between (expression_inner d))

-- A token outside of expressions.
passed : (depth : ℕ) (t : Spot) (ts : List Spot) → reach_after Outside t.lexeme ≡ Outside → depth_after depth t.lexeme ≡ depth → depth ≤ 32 → nested_at Outside depth (t ∷ ts) ≡ later (nested_at Outside depth ts)
passed depth t ts e f h = plain Outside Outside depth depth t ts e f (outside_over depth h)

-- The value of an assignment, and its end.
value_leads : {s u : List Spot} {x : Expression} {a n : ℕ} (d : SpellsExpression s (spot (sign signs.Semicolon) a n ∷ u) x) (depth : ℕ) → depth ≤ 32 → nested_at (Inside 0) depth s ≡ lead (expression_beyond d ++ false ∷ []) (nested_at Outside depth u)
value_leads {u} {a} {n} d depth h =
    whole_leads d depth h
    ∙ ap (lead (expression_beyond d)) (plain (Inside (whole_marks d)) Outside depth depth (spot (sign signs.Semicolon) a n) u refl refl (outside_over depth h))
    ∙ sym (lead-append (expression_beyond d) (false ∷ []) (nested_at Outside depth u))

-- The signs between the index of a target and its value.
equals_leads : (m depth a n a1 n1 : ℕ) (ts : List Spot) → depth ≤ 32 → m ≤ 64 → nested_at (Inside m) depth (spot (sign signs.CloseIndex) a n ∷ spot (sign signs.Assign) a1 n1 ∷ ts) ≡ later (later (nested_at (Inside 0) depth ts))
equals_leads m depth a n a1 n1 ts h k =
    plain (Inside m) (Inside m) depth depth (spot (sign signs.CloseIndex) a n) (spot (sign signs.Assign) a1 n1 ∷ ts) refl refl (few_over depth m h k)
    ∙ ap later (plain (Inside m) (Inside 0) depth depth (spot (sign signs.Assign) a1 n1) ts refl refl (few_over depth 0 h (omega arith)))

bound_leads : {s t : List Spot} {v : ℤ} (d : SpellsBound s t v) (depth : ℕ) → depth ≤ 32 → nested_at Outside depth s ≡ lead (bound_beyond d) (nested_at Outside depth t)
bound_leads (plain_bound {t} {v} {a} {n}) depth h = passed depth (spot (number v) a n) t refl refl h
bound_leads (negative_bound {t} {v} {a} {n} {a1} {n1}) depth h =
    passed depth (spot (sign signs.Minus) a n) (spot (number v) a1 n1 ∷ t) refl refl h
    ∙ ap later (passed depth (spot (number v) a1 n1) t refl refl h)

range_leads : {s t : List Spot} {b : List ℕ} {low high : ℤ} (d : SpellsRange s t b low high) (depth : ℕ) → depth ≤ 32 → nested_at Outside depth s ≡ lead (range_beyond d) (nested_at Outside depth t)
range_leads (range {s} {t} {u} {b} {a} {n} {a1} {n1} {a2} {n2} d e) depth h =
    plain Outside Target depth depth (spot (name b) a n) (spot (word words.In) a1 n1 ∷ s) refl refl (target_over depth h)
    ∙ ap later (plain Target Outside depth depth (spot (word words.In) a1 n1) s refl refl (outside_over depth h)
    ∙ ap later (bound_leads d depth h
    ∙ ap (lead (bound_beyond d)) (passed depth (spot (sign signs.Range) a2 n2) t refl refl h ∙ ap later (bound_leads e depth h))
    ∙ sym (lead-append (bound_beyond d) (false ∷ bound_beyond e) (nested_at Outside depth u))))

closing : (depth a n : ℕ) (ts : List Spot) → depth ≤ 32 → nested_at Outside (depth + 1) (spot (sign signs.CloseBlock) a n ∷ ts) ≡ later (nested_at Outside depth ts)
closing depth a n ts h = plain Outside Outside (depth + 1) depth (spot (sign signs.CloseBlock) a n) ts refl (omega arith) (outside_over depth h)

opening : (r : Reach) (depth a n : ℕ) (ts : List Spot) → nested_at r depth (spot (sign signs.OpenBlock) a n ∷ ts) ≡ first_over (nat_le 32 depth) (nested_at Outside (depth + 1) ts)
opening r depth a n ts =
    moves r Outside depth (depth + 1) (spot (sign signs.OpenBlock) a n) ts refl refl
    ∙ ap (λ b. first_over b (nested_at Outside (depth + 1) ts)) (brace_over depth)

mutual
  statement_leads : {s t : List Spot} {c : Statement} (d : SpellsStatement s t c) (depth : ℕ) → depth ≤ 32 → nested_at Outside depth s ≡ lead (statement_beyond depth d) (nested_at Outside depth t)
  statement_leads (assigned {s} {t} {u} {b} {a} {n} {a1} {n1} {a2} {n2} {a3} {n3} d e) depth h =
      plain Outside Target depth depth (spot (name b) a n) (spot (sign signs.OpenIndex) a1 n1 ∷ s) refl refl (target_over depth h)
      ∙ ap later (plain Target (Inside 0) depth depth (spot (sign signs.OpenIndex) a1 n1) s refl refl (few_over depth 0 h (omega arith))
      ∙ ap later (whole_leads d depth h
      ∙ under_lead (expression_beyond d) _ _ (λ q. equals_leads (whole_marks d) depth a2 n2 a3 n3 t h (whole_few d q) ∙ ap (λ o. later (later o)) (value_leads e depth h))
      ∙ sym (lead-append (expression_beyond d) (false ∷ false ∷ (expression_beyond e ++ false ∷ [])) (nested_at Outside depth u))))
  statement_leads (looped {s} {u} {a} {n} d e) depth h =
      passed depth (spot (word words.For) a n) s refl refl h
      ∙ ap later (range_leads d depth h
      ∙ ap (lead (range_beyond d)) (block_leads e Outside depth h)
      ∙ sym (lead-append (range_beyond d) (block_beyond depth e) (nested_at Outside depth u)))
  statement_leads (chosen {s} {u} {a} {n} d e) depth h =
      plain Outside (Inside 0) depth depth (spot (word words.If) a n) s refl refl (few_over depth 0 h (omega arith))
      ∙ ap later (whole_leads d depth h
      ∙ ap (lead (expression_beyond d)) (block_leads e (Inside (whole_marks d)) depth h)
      ∙ sym (lead-append (expression_beyond d) (block_beyond depth e) (nested_at Outside depth u)))
  statement_leads (chosen_else {s} {u} {v} {a} {n} {a1} {n1} d e f) depth h =
      plain Outside (Inside 0) depth depth (spot (word words.If) a n) s refl refl (few_over depth 0 h (omega arith))
      ∙ ap later (whole_leads d depth h
      ∙ ap (lead (expression_beyond d)) (block_leads e (Inside (whole_marks d)) depth h
      ∙ ap (lead (block_beyond depth e)) (passed depth (spot (word words.Else) a1 n1) u refl refl h ∙ ap later (block_leads f Outside depth h))
      ∙ sym (lead-append (block_beyond depth e) (false ∷ block_beyond depth f) (nested_at Outside depth v)))
      ∙ sym (lead-append (expression_beyond d) (block_beyond depth e ++ false ∷ block_beyond depth f) (nested_at Outside depth v)))
  statement_leads (parallel {s} {a} {n} {a1} {n1} d) depth h =
      passed depth (spot (word words.Par) a n) (spot (sign signs.OpenBlock) a1 n1 ∷ s) refl refl h
      ∙ ap later (opening Outside depth a1 n1 s
      ∙ under_first (nat_le 32 depth) _ _ (λ q. branches_lead d depth (deeper depth q) h))
  statement_leads (teamed {s} {t} {u} {members} {a} {n} {a1} {n1} {a2} {n2} d e) depth h =
      passed depth (spot (word words.Team) a n) s refl refl h
      ∙ ap later (range_leads d depth h
      ∙ ap (lead (range_beyond d)) (passed depth (spot (word words.By) a1 n1) (spot (number members) a2 n2 ∷ t) refl refl h
      ∙ ap later (passed depth (spot (number members) a2 n2) t refl refl h ∙ ap later (phases_lead e depth h)))
      ∙ sym (lead-append (range_beyond d) (false ∷ false ∷ phases_beyond depth e) (nested_at Outside depth u)))

  branches_lead : {s t : List Spot} {ps : Sequences} (d : SpellsBranches s t ps) (depth : ℕ) → depth + 1 ≤ 32 → depth ≤ 32 → nested_at Outside (depth + 1) s ≡ lead (branches_beyond (depth + 1) d) (nested_at Outside depth t)
  branches_lead (last_branch {t} {a} {n} d) depth k h =
      block_leads d Outside (depth + 1) k
      ∙ ap (lead (block_beyond (depth + 1) d)) (closing depth a n t h)
      ∙ sym (lead-append (block_beyond (depth + 1) d) (false ∷ []) (nested_at Outside depth t))
  branches_lead (next_branch {u} d e) depth k h =
      block_leads d Outside (depth + 1) k
      ∙ ap (lead (block_beyond (depth + 1) d)) (branches_lead e depth k h)
      ∙ sym (lead-append (block_beyond (depth + 1) d) (branches_beyond (depth + 1) e) (nested_at Outside depth u))

  phases_lead : {s t : List Spot} {ps : Sequences} (d : SpellsPhases s t ps) (depth : ℕ) → depth ≤ 32 → nested_at Outside depth s ≡ lead (phases_beyond depth d) (nested_at Outside depth t)
  phases_lead (last_phase d) depth h = block_leads d Outside depth h
  phases_lead (next_phase {t} {u} {a} {n} d e) depth h =
      block_leads d Outside depth h
      ∙ ap (lead (block_beyond depth d)) (passed depth (spot (word words.Barrier) a n) t refl refl h ∙ ap later (phases_lead e depth h))
      ∙ sym (lead-append (block_beyond depth d) (false ∷ phases_beyond depth e) (nested_at Outside depth u))

  block_leads : {s t : List Spot} {p : Sequence} (d : SpellsBlock s t p) (r : Reach) (depth : ℕ) → depth ≤ 32 → nested_at r depth s ≡ lead (block_beyond depth d) (nested_at Outside depth t)
  block_leads (block {s} {t} {a} {n} {a1} {n1} d) r depth h =
      opening r depth a n s
      ∙ under_first (nat_le 32 depth) _ _ (λ q. sequence_leads d (depth + 1) (deeper depth q)
      ∙ ap (lead (sequence_beyond (depth + 1) d)) (closing depth a1 n1 t h)
      ∙ sym (lead-append (sequence_beyond (depth + 1) d) (false ∷ []) (nested_at Outside depth t)))

  sequence_leads : {s t : List Spot} {p : Sequence} (d : SpellsSequence s t p) (depth : ℕ) → depth ≤ 32 → nested_at Outside depth s ≡ lead (sequence_beyond depth d) (nested_at Outside depth t)
  sequence_leads no_statement depth h = refl
  sequence_leads (next_statement {u} d e) depth h =
      statement_leads d depth h
      ∙ ap (lead (statement_beyond depth d)) (sequence_leads e depth h)
      ∙ sym (lead-append (statement_beyond depth d) (sequence_beyond depth e) (nested_at Outside depth u))

declarations_lead : {s t : List Spot} {ds : List Declaration} (d : SpellsDeclarations s t ds) → nested_at Outside 0 s ≡ lead (declarations_beyond d) (nested_at Outside 0 t)
declarations_lead no_declaration = refl
declarations_lead (next_declaration declaration e) = ap (λ o. later (later (later (later (later (later o)))))) (declarations_lead e)

-- The scan finds the first token that exceeds a limit.
pub scan_places : (tokens : List Spot) (p : ProgramTree) (d : SpellsProgram tokens p) → first_nested tokens ≡ first_beyond d
scan_places tokens p d =
    declarations_lead d.declares
    ∙ ap (lead (declarations_beyond d.declares)) (sequence_leads d.does 0 (omega arith))
    ∙ sym (lead-append (declarations_beyond d.declares) (sequence_beyond 0 d.does) None)
    ∙ lead_none (program_beyond d)

-- A tree that tokens spell within the limits is one that its printed text spells.
use Rattle.std.proofs.Common.{◌≡◌, ℕ, zero, suc, ℤ, pos, ◌+◌, ◌<◌, ◌≤◌, List, [], ◌∷◌, ◌++◌, Bool, true, false, not, ◌&&◌, nat_lt, nat_le, Option, None, Some, refl, subst, arith}
use Rattle.std.proofs.lemmas.Bool.Decides.{nat_tests}
use Rattle.std.specs.Prelude.{neg_ℤ}
use Rattle.array_tokens.specs.Lexemes.{Lexeme, sign, Spot}
use Rattle.array_tokens.specs.declared.token.Sign.TheVariants as signs
use Rattle.array_tree.specs.Trees.{Expression, Statement, Sequence, Sequences}
use Rattle.array_tree.specs.declared.tree.Op.{Op}
use Rattle.array_tokens.specs.Literals.{greatest_literal}
use Rattle.array_lang.specs.Grammar.{operator_of, SpellsExpression, lone_sum, compared, SpellsSum, lone_term, added, SpellsTerm, lone_factor, multiplied, SpellsFactor, negated, numbered, named, indexed, grouped, SpellsBound, plain_bound, negative_bound, SpellsRange, range, SpellsStatement, assigned, looped, chosen, chosen_else, parallel, teamed, SpellsBranches, last_branch, next_branch, SpellsPhases, last_phase, next_phase, SpellsBlock, block, SpellsSequence, no_statement, next_statement}
use Rattle.array_lang.specs.Nesting.{expression_beyond, range_beyond, statement_beyond, branches_beyond, phases_beyond, block_beyond, sequence_beyond}
use Rattle.array_lang.specs.Parsing.FirstToken.{pull_at}
use Rattle.array_lang.proofs.Marks.{no_true, no_true-append, mark_count, operator_counts, clear_few}
use Rattle.array_lang.specs.declared.operator.Strength.{Strength}
use Rattle.array_lang.specs.declared.operator.Strength.TheVariants.{Comparison as comparison, Addition as addition, Product as product}
use Rattle.array_print.specs.Texts.{op_strength, strength_of, groups_left, groups_right}
use Rattle.array_print.specs.Writable.{IsName, IsBound, IsPrintable, IsWhole, IsSome, CanStand, CanFollow, CanBranch, parens, marks_of}
use Rattle.array_print.proofs.SpelledTokens.{AreGood}

-- Names and numbers.

mutual
  expression_good : {s t : List Spot} {x : Expression} → SpellsExpression s t x → AreGood s → IsPrintable x × AreGood t
  expression_good (lone_sum d) h = sum_good d h
  expression_good (compared d e f) h = let p = sum_good d h in let q = sum_good f p.1.1 in ((p.0, q.0), q.1)

  sum_good : {s t : List Spot} {x : Expression} → SpellsSum s t x → AreGood s → IsPrintable x × AreGood t
  sum_good (lone_term d) h = term_good d h
  sum_good (added d e f) h = let p = sum_good d h in let q = term_good f p.1.1 in ((p.0, q.0), q.1)

  term_good : {s t : List Spot} {x : Expression} → SpellsTerm s t x → AreGood s → IsPrintable x × AreGood t
  term_good (lone_factor d) h = factor_good d h
  term_good (multiplied d e f) h = let p = term_good d h in let q = factor_good f p.1.1 in ((p.0, q.0), q.1)

  factor_good : {s t : List Spot} {x : Expression} → SpellsFactor s t x → AreGood s → IsPrintable x × AreGood t
  factor_good (negated d) h = factor_good d h.1
  factor_good numbered h = h
  factor_good named h = h
  factor_good (indexed d) h = let p = expression_good d h.1.1 in ((h.0, p.0), p.1.1)
  factor_good (grouped d) h = let p = expression_good d h.1 in (p.0, p.1.1)

-- The printed text has at most as many marks as any text that spells the tree.

parens_less : (a b : Bool) → (a ≡ true → b ≡ true) → parens a ≤ parens b
parens_less true true h = omega arith
parens_less true false h = let e : false ≡ true = h refl in cc
parens_less false b h = omega arith

weaker_less : (n j k : ℕ) → j ≤ k → parens (nat_lt n j) ≤ parens (nat_lt n k)
weaker_less n j k h = parens_less (nat_lt n j) (nat_lt n k) (λ e. grind (arith, nat_tests))

abbrev HasStrength : Option (Strength × Op) → Type 0
HasStrength None = Unit {0}
HasStrength (Some o) = op_strength o.1 ≡ pull_at o.0

strengths : (l : Lexeme) → HasStrength (operator_of l)
strengths (sign signs.Star) = refl
strengths (sign signs.Slash) = refl
strengths (sign signs.Percent) = refl
strengths (sign signs.Less) = refl
strengths (sign signs.LessEq) = refl
strengths (sign signs.Greater) = refl
strengths (sign signs.GreaterEq) = refl
strengths (sign signs.Equal) = refl
strengths (sign signs.NotEqual) = refl
strengths (sign signs.Plus) = refl
strengths (sign signs.Minus) = refl
strengths l = tt

strength_is : (l : Lexeme) (o : Strength × Op) → operator_of l ≡ Some o → op_strength o.1 ≡ pull_at o.0
strength_is l o e = subst HasStrength e (strengths l)

left_weak : (op : Op) (x : Expression) (k : ℕ) → op_strength op ≤ k → 2 ≤ k → parens (groups_left op x) ≤ parens (nat_lt (strength_of x) k)
left_weak op x k h j = parens_less (groups_left op x) (nat_lt (strength_of x) k) (λ e. grind (arith, nat_tests))

right_weak : (op : Op) (y : Expression) (k : ℕ) → op_strength op + 1 ≤ k → parens (groups_right op y) ≤ parens (nat_lt (strength_of y) k)
right_weak op y k h = parens_less (groups_right op y) (nat_lt (strength_of y) k) (λ e. grind (arith, nat_tests))

no_parens : (n k : ℕ) → k ≤ n → parens (nat_lt n k) ≡ 0
no_parens n k h = let e : nat_lt n k ≡ false = grind (arith, nat_tests) in rw e refl

mutual
  expression_least : {s t : List Spot} {x : Expression} (d : SpellsExpression s t x) → marks_of x + mark_count t ≤ mark_count s
  expression_least (lone_sum d) = omega (arith, sum_least d)
  expression_least (compared {t} {x} {y} {l} {op} d e f) =
      let k : op_strength op ≡ 1 = strength_is l (comparison, op) e in
      omega (arith, operator_counts l (comparison, op) (mark_count t) e, sum_least d, sum_least f, left_weak op x 2 (omega arith) (omega arith), right_weak op y 2 (omega arith))

  sum_least : {s t : List Spot} {x : Expression} (d : SpellsSum s t x) → parens (nat_lt (strength_of x) 2) + marks_of x + mark_count t ≤ mark_count s
  sum_least (lone_term {x} d) = omega (arith, term_least d, weaker_less (strength_of x) 2 3 (omega arith))
  sum_least (added {t} {x} {y} {l} {op} d e f) =
      let k : op_strength op ≡ 2 = strength_is l (addition, op) e in
      omega (arith, operator_counts l (addition, op) (mark_count t) e, sum_least d, term_least f, left_weak op x 2 (omega arith) (omega arith), right_weak op y 3 (omega arith), no_parens (op_strength op) 2 (omega arith))

  term_least : {s t : List Spot} {x : Expression} (d : SpellsTerm s t x) → parens (nat_lt (strength_of x) 3) + marks_of x + mark_count t ≤ mark_count s
  term_least (lone_factor {x} d) = omega (arith, factor_least d, weaker_less (strength_of x) 3 4 (omega arith))
  term_least (multiplied {t} {x} {y} {l} {op} d e f) =
      let k : op_strength op ≡ 3 = strength_is l (product, op) e in
      omega (arith, operator_counts l (product, op) (mark_count t) e, term_least d, factor_least f, left_weak op x 3 (omega arith) (omega arith), right_weak op y 4 (omega arith), no_parens (op_strength op) 3 (omega arith))

  factor_least : {s t : List Spot} {x : Expression} (d : SpellsFactor s t x) → parens (nat_lt (strength_of x) 4) + marks_of x + mark_count t ≤ mark_count s
  factor_least (negated d) = omega (arith, factor_least d)
  factor_least numbered = omega arith
  factor_least named = omega arith
  factor_least (indexed d) = omega (arith, expression_least d)
  factor_least (grouped {x} d) = omega (arith, expression_least d, parens_less (nat_lt (strength_of x) 4) true (λ e. refl))

whole_of : {s t : List Spot} {x : Expression} (d : SpellsExpression s t x) → AreGood s → no_true (expression_beyond d) ≡ true → IsWhole x × AreGood t
whole_of {x} d h clear =
    let p = expression_good d h in
    let few : marks_of x ≤ 64 = omega (arith, clear_few d clear, expression_least d) in
    ((p.0, few), p.1)

-- Bounds of loops.

negative_is : (k : ℕ) → k ≤ greatest_literal → IsBound (neg_ℤ (pos k))
negative_is zero h = omega arith
negative_is (suc n) h = h

bound_good : {s t : List Spot} {v : ℤ} → SpellsBound s t v → AreGood s → IsBound v × AreGood t
bound_good plain_bound h = h
bound_good (negative_bound {v}) h = (negative_is v h.1.0, h.1.1)

range_good : {s t : List Spot} {b : List ℕ} {low high : ℤ} → SpellsRange s t b low high → AreGood s → (IsName b × IsBound low × IsBound high) × AreGood t
range_good (range d e) h = let p = bound_good d h.1.1 in let q = bound_good e p.1.1 in ((h.0, p.0, q.0), q.1)

both : (a b : Bool) → (a && b) ≡ true → (a ≡ true) × (b ≡ true)
both true true h = (refl, refl)
both true false h = cc
both false b h = cc

room : (depth : ℕ) → not (nat_le 32 depth) ≡ true → depth < 32
room depth h = grind (arith, nat_tests)

mutual
  statement_stands : {s t : List Spot} {c : Statement} (d : SpellsStatement s t c) (depth : ℕ) → AreGood s → no_true (statement_beyond depth d) ≡ true → CanStand depth c × AreGood t
  statement_stands (assigned d e) depth h clear =
      let k = no_true-append (expression_beyond d) (false ∷ false ∷ (expression_beyond e ++ false ∷ [])) clear in
      let j = no_true-append (expression_beyond e) (false ∷ []) k.1 in
      let p = whole_of d h.1.1 k.0 in
      let q = whole_of e p.1.1.1 j.0 in
      ((h.0, p.0, q.0), q.1.1)
  statement_stands (looped d e) depth h clear =
      let k = no_true-append (range_beyond d) (block_beyond depth e) clear in
      let r = range_good d h.1 in
      let b = block_stands e depth r.1 k.1 in
      ((r.0.0, r.0.1, r.0.2, b.0.0, b.0.1), b.1)
  statement_stands (chosen d e) depth h clear =
      let k = no_true-append (expression_beyond d) (block_beyond depth e) clear in
      let p = whole_of d h.1 k.0 in
      let b = block_stands e depth p.1 k.1 in
      ((p.0, b.0.0, b.0.1, tt), b.1)
  statement_stands (chosen_else d e f) depth h clear =
      let k = no_true-append (expression_beyond d) (block_beyond depth e ++ false ∷ block_beyond depth f) clear in
      let j = no_true-append (block_beyond depth e) (false ∷ block_beyond depth f) k.1 in
      let p = whole_of d h.1 k.0 in
      let b = block_stands e depth p.1 j.0 in
      let q = block_stands f depth b.1.1 j.1 in
      ((p.0, b.0.0, b.0.1, q.0.1), q.1)
  statement_stands (parallel d) depth h clear =
      let k = both _ _ clear in
      let b = branches_stand d (depth + 1) h.1.1 k.1 in
      ((room depth k.0, b.0.0, b.0.1), b.1)
  statement_stands (teamed d e) depth h clear =
      let k = no_true-append (range_beyond d) (false ∷ false ∷ phases_beyond depth e) clear in
      let r = range_good d h.1 in
      let b = phases_stand e depth r.1.1.1 k.1 in
      ((r.0.0, r.0.1, r.0.2, r.1.1.0, b.0.0, b.0.1), b.1)

  branches_stand : {s t : List Spot} {ps : Sequences} (d : SpellsBranches s t ps) (depth : ℕ) → AreGood s → no_true (branches_beyond depth d) ≡ true → (IsSome ps × CanBranch depth ps) × AreGood t
  branches_stand (last_branch d) depth h clear =
      let k = no_true-append (block_beyond depth d) (false ∷ []) clear in
      let b = block_stands d depth h k.0 in ((tt, (b.0.0, b.0.1, tt)), b.1.1)
  branches_stand (next_branch d e) depth h clear =
      let k = no_true-append (block_beyond depth d) (branches_beyond depth e) clear in
      let b = block_stands d depth h k.0 in
      let r = branches_stand e depth b.1 k.1 in
      ((tt, (b.0.0, b.0.1, r.0.1)), r.1)

  phases_stand : {s t : List Spot} {ps : Sequences} (d : SpellsPhases s t ps) (depth : ℕ) → AreGood s → no_true (phases_beyond depth d) ≡ true → (IsSome ps × CanBranch depth ps) × AreGood t
  phases_stand (last_phase d) depth h clear =
      let b = block_stands d depth h clear in ((tt, (b.0.0, b.0.1, tt)), b.1)
  phases_stand (next_phase d e) depth h clear =
      let k = no_true-append (block_beyond depth d) (false ∷ phases_beyond depth e) clear in
      let b = block_stands d depth h k.0 in
      let r = phases_stand e depth b.1.1 k.1 in
      ((tt, (b.0.0, b.0.1, r.0.1)), r.1)

  block_stands : {s t : List Spot} {p : Sequence} (d : SpellsBlock s t p) (depth : ℕ) → AreGood s → no_true (block_beyond depth d) ≡ true → ((depth < 32) × CanFollow (depth + 1) p) × AreGood t
  block_stands (block d) depth h clear =
      let k = both _ _ clear in
      let j = no_true-append (sequence_beyond (depth + 1) d) (false ∷ []) k.1 in
      let q = sequence_stands d (depth + 1) h.1 j.0 in
      ((room depth k.0, q.0), q.1.1)

  pub sequence_stands : {s t : List Spot} {p : Sequence} (d : SpellsSequence s t p) (depth : ℕ) → AreGood s → no_true (sequence_beyond depth d) ≡ true → CanFollow depth p × AreGood t
  sequence_stands no_statement depth h clear = (tt, h)
  sequence_stands (next_statement d e) depth h clear =
      let k = no_true-append (statement_beyond depth d) (sequence_beyond depth e) clear in
      let p = statement_stands d depth h k.0 in
      let q = sequence_stands e depth p.1 k.1 in
      ((p.0, q.0), q.1)

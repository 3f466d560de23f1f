-- Which tokens of an expression exceed the limit on marks.
use Rattle.std.proofs.Common.{◌≡◌, ℕ, ℤ, ◌+◌, ◌≤◌, Bool, true, false, not, ◌&&◌, nat_le, List, [], ◌∷◌, ◌++◌, take, length-append, Option, Some, None, refl, sym, ap, ◌∙◌, arith}
use Rattle.std.specs.Prelude.{if◌then◌else◌, is_some}
use Rattle.std.proofs.lemmas.Bool.Decides.{nat_tests}
use Rattle.std.proofs.Math.Seq.{take-append_seam}
use Rattle.array_tokens.specs.Lexemes.{Lexeme, word, sign, Spot}
use Rattle.array_tokens.specs.declared.token.Word.TheVariants as words
use Rattle.array_tokens.specs.declared.token.Sign.TheVariants as signs
use Rattle.array_tree.specs.Trees.{Expression, Declaration}
use Rattle.array_tree.specs.declared.tree.Op.{Op}
use Rattle.array_lang.specs.Grammar.{operator_of, spot, SpellsExpression, lone_sum, compared, SpellsSum, lone_term, added, SpellsTerm, lone_factor, multiplied, SpellsFactor, negated, numbered, named, indexed, grouped, SpellsBound, plain_bound, negative_bound, SpellsRange, range, SpellsDeclarations, no_declaration, next_declaration}
use Rattle.array_lang.specs.Nesting.{is_mark, marks_after, marks_beyond, between, expression_beyond, bound_beyond, range_beyond, declarations_beyond, later, first_true}
use Rattle.array_lang.specs.Parsing.Scan.{reach_after, depth_after}
use Rattle.array_lang.specs.declared.operator.Strength.{Strength}
use Rattle.array_lang.specs.declared.nesting.Reach.TheVariants.{Inside}

-- None of these is true.
abbrev pub no_true : List Bool → Bool
no_true [] = true
no_true (b ∷ bs) = not b && no_true bs

pub no_true-append : (a b : List Bool) → no_true (a ++ b) ≡ true → (no_true a ≡ true) × (no_true b ≡ true)
no_true-append [] b h = (refl, h)
no_true-append (false ∷ a) b h = no_true-append a b h
no_true-append (true ∷ a) b h = cc

pub no_true-both : (a b : List Bool) → no_true a ≡ true → no_true b ≡ true → no_true (a ++ b) ≡ true
no_true-both [] b h k = k
no_true-both (false ∷ a) b h k = no_true-both a b h k
no_true-both (true ∷ a) b h k = cc

none_later : (o : Option ℕ) → later o ≡ None → o ≡ None
none_later None h = refl
none_later (Some k) h = cc

pub none_true : (a : List Bool) → first_true a ≡ None → no_true a ≡ true
none_true [] h = refl
none_true (false ∷ a) h = none_true a (none_later (first_true a) h)
none_true (true ∷ a) h = cc

pub true_none : (a : List Bool) → no_true a ≡ true → first_true a ≡ None
true_none [] h = refl
true_none (false ∷ a) h = ap later (true_none a h)
true_none (true ∷ a) h = cc

pub clear_first : (b c : Bool) → (not b && c) ≡ true → (b ≡ false) × (c ≡ true)
clear_first false c h = (refl, h)
clear_first true c h = cc

-- Ranges and declarations have no mark and no brace.
bound_clear : {s t : List Spot} {v : ℤ} (d : SpellsBound s t v) (rest : List Bool) → no_true rest ≡ true → no_true (bound_beyond d ++ rest) ≡ true
bound_clear plain_bound rest h = h
bound_clear negative_bound rest h = h

pub range_clear : {s t : List Spot} {b : List ℕ} {low high : ℤ} (d : SpellsRange s t b low high) → no_true (range_beyond d) ≡ true
range_clear (range d e) = bound_clear d (false ∷ bound_beyond e) (last_clear e)
  where
    last_clear : {s t : List Spot} {v : ℤ} (d : SpellsBound s t v) → no_true (bound_beyond d) ≡ true
    last_clear plain_bound = refl
    last_clear negative_bound = refl

pub declarations_clear : {s t : List Spot} {ds : List Declaration} (d : SpellsDeclarations s t ds) → no_true (declarations_beyond d) ≡ true
declarations_clear no_declaration = refl
declarations_clear (next_declaration d e) = declarations_clear e

-- A token that may stand inside an expression. The scan counts it iff it is a mark.
abbrev pub IsInner : Lexeme → Type 0
IsInner l = (m depth : ℕ) → (reach_after (Inside m) l ≡ Inside (marks_after m l)) × (depth_after depth l ≡ depth)

-- Only such tokens stand from s up to t.
pub data AreInner : List Spot → List Spot → Type 0 where
  no_token : {s : List Spot} → AreInner s s
  one_token : {s t : List Spot} {l : Lexeme} {a n : ℕ} → IsInner l → AreInner s t → AreInner (spot l a n ∷ s) t

pub both_inner : {s t u : List Spot} → AreInner s t → AreInner t u → AreInner s u
both_inner no_token e = e
both_inner (one_token i d) e = one_token i (both_inner d e)

operator_inner : (l : Lexeme) (o : Strength × Op) → operator_of l ≡ Some o → IsInner l
operator_inner (word words.If) o e = absurd (cc)
operator_inner (sign signs.Assign) o e = absurd (cc)
operator_inner (sign signs.Semicolon) o e = absurd (cc)
operator_inner (sign signs.OpenBlock) o e = absurd (cc)
operator_inner (sign signs.CloseBlock) o e = absurd (cc)
operator_inner l o e = λ m depth. (refl, refl)

mutual
  pub expression_inner : {s t : List Spot} {x : Expression} → SpellsExpression s t x → AreInner s t
  expression_inner (lone_sum d) = sum_inner d
  expression_inner (compared {l} d e f) = both_inner (sum_inner d) (one_token (operator_inner l _ e) (sum_inner f))

  sum_inner : {s t : List Spot} {x : Expression} → SpellsSum s t x → AreInner s t
  sum_inner (lone_term d) = term_inner d
  sum_inner (added {l} d e f) = both_inner (sum_inner d) (one_token (operator_inner l _ e) (term_inner f))

  term_inner : {s t : List Spot} {x : Expression} → SpellsTerm s t x → AreInner s t
  term_inner (lone_factor d) = factor_inner d
  term_inner (multiplied {l} d e f) = both_inner (term_inner d) (one_token (operator_inner l _ e) (factor_inner f))

  factor_inner : {s t : List Spot} {x : Expression} → SpellsFactor s t x → AreInner s t
  factor_inner (negated d) = one_token (λ m depth. (refl, refl)) (factor_inner d)
  factor_inner numbered = one_token (λ m depth. (refl, refl)) no_token
  factor_inner named = one_token (λ m depth. (refl, refl)) no_token
  factor_inner (indexed d) =
      one_token (λ m depth. (refl, refl)) (one_token (λ m depth. (refl, refl)) (both_inner (expression_inner d) (one_token (λ m depth. (refl, refl)) no_token)))
  factor_inner (grouped d) =
      one_token (λ m depth. (refl, refl)) (both_inner (expression_inner d) (one_token (λ m depth. (refl, refl)) no_token))

abbrev pub inner_tokens : {s t : List Spot} → AreInner s t → List Spot
inner_tokens no_token = []
inner_tokens (one_token {l} {a} {n} i d) = spot l a n ∷ inner_tokens d

pub inner_all : {s t : List Spot} (d : AreInner s t) → s ≡ inner_tokens d ++ t
inner_all no_token = refl
inner_all (one_token {l} {a} {n} i d) = ap (λ r. spot l a n ∷ r) (inner_all d)

pub between-append : (front t : List Spot) → between (front ++ t) t ≡ front
between-append front t =
    ap (λ n. take n (front ++ t)) (omega (arith, length-append front t)) ∙ take-append_seam front t

pub inner_between : {s t : List Spot} (d : AreInner s t) → inner_tokens d ≡ between s t
inner_between {t} d = sym (between-append (inner_tokens d) t) ∙ ap (λ r. between r t) (sym (inner_all d))

-- The number of marks after these tokens, if m stand before.
abbrev pub marks_behind : ℕ → List Spot → ℕ
marks_behind m [] = m
marks_behind m (t ∷ ts) = marks_behind (marks_after m t.lexeme) ts

pub few_after : (b : Bool) (m : ℕ) → m ≤ 64 → (b && nat_le 64 m) ≡ false → (if b then m + 1 else m) ≤ 64
few_after true m k h = grind (arith, nat_tests)
few_after false m k h = k

-- If no token exceeds the limit on marks, at most 64 marks stand after them.
pub few_behind : (m : ℕ) (front : List Spot) → m ≤ 64 → no_true (marks_beyond m front) ≡ true → marks_behind m front ≤ 64
few_behind m [] k h = k
few_behind m (t ∷ ts) k h =
    let q = clear_first (is_mark t.lexeme && nat_le 64 m) (no_true (marks_beyond (marks_after m t.lexeme) ts)) h in
    few_behind (marks_after m t.lexeme) ts (few_after (is_mark t.lexeme) m k q.0) q.1

-- The number of marks in an outermost expression.
abbrev pub whole_marks : {s t : List Spot} {x : Expression} → SpellsExpression s t x → ℕ
whole_marks {s} {t} d = marks_behind 0 (between s t)

pub whole_few : {s t : List Spot} {x : Expression} (d : SpellsExpression s t x) → no_true (expression_beyond d) ≡ true → whole_marks d ≤ 64
whole_few {s} {t} d h = few_behind 0 (between s t) (omega arith) h

-- The marks among these tokens.
abbrev pub mark_count : List Spot → ℕ
mark_count [] = 0
mark_count (t ∷ ts) = marks_after (mark_count ts) t.lexeme

one_counted : (b : Bool) (m k : ℕ) → (if b then m + 1 else m) + k ≡ m + (if b then k + 1 else k)
one_counted true m k = omega arith
one_counted false m k = refl

marks_counted : (m : ℕ) (front t : List Spot) → marks_behind m front + mark_count t ≡ m + mark_count (front ++ t)
marks_counted m [] t = refl
marks_counted m (x ∷ front) t = marks_counted (marks_after m x.lexeme) front t ∙ one_counted (is_mark x.lexeme) m (mark_count (front ++ t))

clear_more : (b : Bool) (m k : ℕ) (c : Bool) → (if b then m + 1 else m) ≤ k → k ≤ 64 → c ≡ true → (not (b && nat_le 64 m) && c) ≡ true
clear_more true m k c h j e = grind (arith, nat_tests)
clear_more false m k c h j e = e

marks_grow : (b : Bool) (m : ℕ) → m ≤ (if b then m + 1 else m)
marks_grow true m = omega arith
marks_grow false m = omega arith

behind_least : (m : ℕ) (front : List Spot) → m ≤ marks_behind m front
behind_least m [] = omega arith
behind_least m (t ∷ ts) = omega (arith, marks_grow (is_mark t.lexeme) m, behind_least (marks_after m t.lexeme) ts)

clear_behind : (m : ℕ) (front : List Spot) → marks_behind m front ≤ 64 → no_true (marks_beyond m front) ≡ true
clear_behind m [] h = refl
clear_behind m (t ∷ ts) h =
    clear_more (is_mark t.lexeme) m (marks_behind (marks_after m t.lexeme) ts) _ (behind_least (marks_after m t.lexeme) ts) h (clear_behind (marks_after m t.lexeme) ts h)

between_all : {s t : List Spot} {x : Expression} → SpellsExpression s t x → s ≡ between s t ++ t
between_all {t} d = inner_all (expression_inner d) ∙ ap (λ r. r ++ t) (inner_between (expression_inner d))

whole_counted : {s t : List Spot} {x : Expression} (d : SpellsExpression s t x) → whole_marks d + mark_count t ≡ mark_count s
whole_counted {s} {t} d = marks_counted 0 (between s t) t ∙ omega (arith, ap mark_count (between_all d))

-- An outermost expression exceeds the limit iff it has more than 64 marks.
pub few_clear : {s t : List Spot} {x : Expression} (d : SpellsExpression s t x) → mark_count s ≤ mark_count t + 64 → no_true (expression_beyond d) ≡ true
few_clear {s} {t} d h = clear_behind 0 (between s t) (omega (arith, whole_counted d))

pub clear_few : {s t : List Spot} {x : Expression} (d : SpellsExpression s t x) → no_true (expression_beyond d) ≡ true → mark_count s ≤ mark_count t + 64
clear_few d h = omega (arith, whole_counted d, whole_few d h)

-- A binary operator is a mark.
operator_marks : (l : Lexeme) (o : Strength × Op) → operator_of l ≡ Some o → is_mark l ≡ true
operator_marks (sign signs.OpenGroup) o e = cc
operator_marks (sign signs.OpenIndex) o e = cc
operator_marks l o e = ap is_some e

pub operator_counts : (l : Lexeme) (o : Strength × Op) (m : ℕ) → operator_of l ≡ Some o → marks_after m l ≡ m + 1
operator_counts l o m e = ap (λ b. if b then m + 1 else m) (operator_marks l o e)

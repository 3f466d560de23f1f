-- The printed text of an expression spells it, with no mark that its tree doesn't need.
use Rattle.std.proofs.Common.{◌≡◌, ℕ, pos, negsuc, ◌+◌, ◌≤◌, List, [], ◌∷◌, ◌++◌, Bool, true, false, nat_lt, nat_le, Some, refl, arith}
use Rattle.std.proofs.lemmas.Bool.Decides.{nat_tests}
use Rattle.array_tokens.specs.Lexemes.{Lexeme, name, number, sign, Spot}
use Rattle.array_tokens.specs.declared.token.Sign.TheVariants as signs
use Rattle.array_tree.specs.Trees.{Expression, Number, Var, Read, Neg, Binary}
use Rattle.array_tree.specs.declared.tree.Op.{Op}
use Rattle.array_tree.specs.declared.tree.Op.TheVariants as ops
use Rattle.array_lang.specs.Grammar.{spot, operator_of, SpellsExpression, lone_sum, compared, SpellsSum, lone_term, added, SpellsTerm, lone_factor, multiplied, SpellsFactor, negated, numbered, named, indexed, grouped}
use Rattle.array_lang.proofs.Marks.{mark_count, operator_counts}
use Rattle.array_lang.specs.declared.operator.Strength.TheVariants.{Comparison as comparison, Addition as addition, Product as product}
use Rattle.array_print.specs.Texts.{op_strength, strength_of, groups_left, groups_right, groups_negated, grouped_text, op_text, expression_text}
use Rattle.array_print.proofs.Cuts.{One, one, Then, joined, NoName, Anything, CutsInto, cuts_both, cuts_as, weaker}
use Rattle.array_print.specs.Writable.{IsPrintable, parens, marks_of}
use Rattle.array_print.proofs.Pieces.{cuts_name, cuts_number, cuts_open_index, cuts_close_index, cuts_open_group, cuts_close_group, cuts_minus, cuts_spaced}

-- The tokens spell the expression with at most m marks.
pub record IsExpression (x : Expression) (m : ℕ) (s t : List Spot) : Type 0 where
  pub d : SpellsExpression s t x
  pub few : mark_count s ≤ mark_count t + m

-- The same at the strength k of an operand.
data Level (x : Expression) (m k : ℕ) : List Spot → List Spot → Type 0 where
  as_factor : {s t : List Spot} → (d : SpellsFactor s t x) → mark_count s ≤ mark_count t + m → Level x m k s t
  as_term : {s t : List Spot} → k ≤ 3 → (d : SpellsTerm s t x) → mark_count s ≤ mark_count t + m → Level x m k s t
  as_sum : {s t : List Spot} → k ≤ 2 → (d : SpellsSum s t x) → mark_count s ≤ mark_count t + m → Level x m k s t
  as_expr : {s t : List Spot} → k ≤ 1 → (d : SpellsExpression s t x) → mark_count s ≤ mark_count t + m → Level x m k s t

to_expr : {x : Expression} {m k : ℕ} {s t : List Spot} → Level x m k s t → (d : SpellsExpression s t x) × (mark_count s ≤ mark_count t + m)
to_expr (as_factor d f) = (lone_sum (lone_term (lone_factor d)), f)
to_expr (as_term h d f) = (lone_sum (lone_term d), f)
to_expr (as_sum h d f) = (lone_sum d, f)
to_expr (as_expr h d f) = (d, f)

to_sum : {x : Expression} {m k : ℕ} {s t : List Spot} → 2 ≤ k → Level x m k s t → (d : SpellsSum s t x) × (mark_count s ≤ mark_count t + m)
to_sum b (as_factor d f) = (lone_term (lone_factor d), f)
to_sum b (as_term h d f) = (lone_term d, f)
to_sum b (as_sum h d f) = (d, f)
to_sum b (as_expr h d f) = absurd (omega arith)

to_term : {x : Expression} {m k : ℕ} {s t : List Spot} → 3 ≤ k → Level x m k s t → (d : SpellsTerm s t x) × (mark_count s ≤ mark_count t + m)
to_term b (as_factor d f) = (lone_factor d, f)
to_term b (as_term h d f) = (d, f)
to_term b (as_sum h d f) = absurd (omega arith)
to_term b (as_expr h d f) = absurd (omega arith)

to_factor : {x : Expression} {m k : ℕ} {s t : List Spot} → 4 ≤ k → Level x m k s t → (d : SpellsFactor s t x) × (mark_count s ≤ mark_count t + m)
to_factor b (as_factor d f) = (d, f)
to_factor b (as_term h d f) = absurd (omega arith)
to_factor b (as_sum h d f) = absurd (omega arith)
to_factor b (as_expr h d f) = absurd (omega arith)

more_marks : {x : Expression} {k : ℕ} {s t : List Spot} (m n : ℕ) → m ≤ n → Level x m k s t → Level x n k s t
more_marks m n h (as_factor d f) = as_factor d (omega arith)
more_marks m n h (as_term b d f) = as_term b d (omega arith)
more_marks m n h (as_sum b d f) = as_sum b d (omega arith)
more_marks m n h (as_expr b d f) = as_expr b d (omega arith)

-- The same at strength j or greater.
record AtLeast (x : Expression) (m j : ℕ) (s t : List Spot) : Type 0 where
  k : ℕ
  bound : j ≤ k
  level : Level x m k s t

in_parentheses : {x : Expression} {m k j : ℕ} {s t : List Spot} → Then (Then (One (sign signs.OpenGroup)) (Level x m k)) (One (sign signs.CloseGroup)) s t → AtLeast x (1 + m) j s t
in_parentheses {j} (joined (joined one d) one) =
    let e = to_expr d in record { k = j; bound = omega arith; level = as_factor (grouped e.0) (omega (arith, e.1)) }

-- An operand, with parentheses or without.
operand_cuts : (j : ℕ) (b : Bool) (x : Expression) → (b ≡ false → j ≤ strength_of x) → CutsInto (expression_text x) (Level x (marks_of x) (strength_of x)) NoName → CutsInto (grouped_text b (expression_text x)) (AtLeast x (parens b + marks_of x) j) NoName
operand_cuts j false x h f = cuts_as f (λ s t d. record { k = strength_of x; bound = h refl; level = more_marks (marks_of x) (0 + marks_of x) (omega arith) d })
operand_cuts j true x h f =
    weaker (λ rest s. tt) (cuts_as (cuts_both (cuts_both cuts_open_group f (λ rest s. tt)) cuts_close_group (λ rest s. refl)) (λ s t d. in_parentheses d))

abbrev left_bound : Op → ℕ
left_bound ops.Less = 2
left_bound ops.Greater = 2
left_bound ops.LessEq = 2
left_bound ops.GreaterEq = 2
left_bound ops.Equal = 2
left_bound ops.NotEqual = 2
left_bound ops.Add = 2
left_bound ops.Sub = 2
left_bound ops.Mul = 3
left_bound ops.Div = 3
left_bound ops.Rem = 3

op_some_strength : (op : Op) → 1 ≤ op_strength op
op_some_strength ops.Add = omega arith
op_some_strength ops.Sub = omega arith
op_some_strength ops.Mul = omega arith
op_some_strength ops.Div = omega arith
op_some_strength ops.Rem = omega arith
op_some_strength ops.Less = omega arith
op_some_strength ops.Greater = omega arith
op_some_strength ops.LessEq = omega arith
op_some_strength ops.GreaterEq = omega arith
op_some_strength ops.Equal = omega arith
op_some_strength ops.NotEqual = omega arith

pub some_strength : (x : Expression) → 1 ≤ strength_of x
some_strength (Binary op x y) = op_some_strength op
some_strength (Number v) = omega arith
some_strength (Var b) = omega arith
some_strength (Read b x) = omega arith
some_strength (Neg x) = omega arith

left_enough : (op : Op) (x : Expression) → groups_left op x ≡ false → left_bound op ≤ strength_of x
left_enough ops.Less x h = grind (arith, nat_tests, some_strength x)
left_enough ops.Greater x h = grind (arith, nat_tests, some_strength x)
left_enough ops.LessEq x h = grind (arith, nat_tests, some_strength x)
left_enough ops.GreaterEq x h = grind (arith, nat_tests, some_strength x)
left_enough ops.Equal x h = grind (arith, nat_tests, some_strength x)
left_enough ops.NotEqual x h = grind (arith, nat_tests, some_strength x)
left_enough ops.Add x h = grind (arith, nat_tests)
left_enough ops.Sub x h = grind (arith, nat_tests)
left_enough ops.Mul x h = grind (arith, nat_tests)
left_enough ops.Div x h = grind (arith, nat_tests)
left_enough ops.Rem x h = grind (arith, nat_tests)

right_enough : (n k : ℕ) → nat_le n k ≡ false → k + 1 ≤ n
right_enough n k h = grind (arith, nat_tests)

negated_enough : (n : ℕ) → nat_lt n 4 ≡ false → 4 ≤ n
negated_enough n h = grind (arith, nat_tests)

abbrev op_lexeme : Op → Lexeme
op_lexeme ops.Less = sign signs.Less
op_lexeme ops.LessEq = sign signs.LessEq
op_lexeme ops.Equal = sign signs.Equal
op_lexeme ops.Add = sign signs.Plus
op_lexeme ops.Sub = sign signs.Minus
op_lexeme ops.Mul = sign signs.Star
op_lexeme ops.Div = sign signs.Slash
op_lexeme ops.Rem = sign signs.Percent
op_lexeme ops.Greater = sign signs.Greater
op_lexeme ops.GreaterEq = sign signs.GreaterEq
op_lexeme ops.NotEqual = sign signs.NotEqual

op_cuts : (op : Op) → CutsInto (op_text op) (One (op_lexeme op)) Anything
op_cuts ops.Less = cuts_spaced 60 [] signs.Less (refl, tt) (λ rest. refl)
op_cuts ops.LessEq = cuts_spaced 60 (61 ∷ []) signs.LessEq (refl, (refl, tt)) (λ rest. refl)
op_cuts ops.Equal = cuts_spaced 61 (61 ∷ []) signs.Equal (refl, (refl, tt)) (λ rest. refl)
op_cuts ops.Add = cuts_spaced 43 [] signs.Plus (refl, tt) (λ rest. refl)
op_cuts ops.Sub = cuts_spaced 45 [] signs.Minus (refl, tt) (λ rest. refl)
op_cuts ops.Mul = cuts_spaced 42 [] signs.Star (refl, tt) (λ rest. refl)
op_cuts ops.Div = cuts_spaced 47 [] signs.Slash (refl, tt) (λ rest. refl)
op_cuts ops.Rem = cuts_spaced 37 [] signs.Percent (refl, tt) (λ rest. refl)
op_cuts ops.Greater = cuts_spaced 62 [] signs.Greater (refl, tt) (λ rest. refl)
op_cuts ops.GreaterEq = cuts_spaced 62 (61 ∷ []) signs.GreaterEq (refl, (refl, tt)) (λ rest. refl)
op_cuts ops.NotEqual = cuts_spaced 33 (61 ∷ []) signs.NotEqual (refl, (refl, tt)) (λ rest. refl)

op_no_name : (op : Op) (rest : List ℕ) → NoName (op_text op ++ rest)
op_no_name ops.Less rest = refl
op_no_name ops.LessEq rest = refl
op_no_name ops.Equal rest = refl
op_no_name ops.Add rest = refl
op_no_name ops.Sub rest = refl
op_no_name ops.Mul rest = refl
op_no_name ops.Div rest = refl
op_no_name ops.Rem rest = refl
op_no_name ops.Greater rest = refl
op_no_name ops.GreaterEq rest = refl
op_no_name ops.NotEqual rest = refl

compared_level : {s u t : List Spot} {op : Op} {x y : Expression} {l : Lexeme} {a n : ℕ} (i j : ℕ) → operator_of l ≡ Some (comparison, op) → AtLeast x i 2 s (spot l a n ∷ u) → AtLeast y j 2 u t → Level (Binary op x y) (i + 1 + j) 1 s t
compared_level {u} {op} {l} i j e p q =
    let d = to_sum p.bound p.level in let f = to_sum q.bound q.level in as_expr (omega arith) (compared d.0 e f.0) (omega (arith, d.1, f.1, operator_counts l (comparison, op) (mark_count u) e))

added_level : {s u t : List Spot} {op : Op} {x y : Expression} {l : Lexeme} {a n : ℕ} (i j : ℕ) → operator_of l ≡ Some (addition, op) → AtLeast x i 2 s (spot l a n ∷ u) → AtLeast y j 3 u t → Level (Binary op x y) (i + 1 + j) 2 s t
added_level {u} {op} {l} i j e p q =
    let d = to_sum p.bound p.level in let f = to_term q.bound q.level in as_sum (omega arith) (added d.0 e f.0) (omega (arith, d.1, f.1, operator_counts l (addition, op) (mark_count u) e))

multiplied_level : {s u t : List Spot} {op : Op} {x y : Expression} {l : Lexeme} {a n : ℕ} (i j : ℕ) → operator_of l ≡ Some (product, op) → AtLeast x i 3 s (spot l a n ∷ u) → AtLeast y j 4 u t → Level (Binary op x y) (i + 1 + j) 3 s t
multiplied_level {u} {op} {l} i j e p q =
    let d = to_term p.bound p.level in let f = to_factor q.bound q.level in as_term (omega arith) (multiplied d.0 e f.0) (omega (arith, d.1, f.1, operator_counts l (product, op) (mark_count u) e))

binary_level : {s t : List Spot} (op : Op) (x y : Expression) (i j : ℕ) → Then (Then (AtLeast x i (left_bound op)) (One (op_lexeme op))) (AtLeast y j (op_strength op + 1)) s t → Level (Binary op x y) (i + 1 + j) (op_strength op) s t
binary_level ops.Less x y i j (joined (joined p one) q) = compared_level i j refl p q
binary_level ops.LessEq x y i j (joined (joined p one) q) = compared_level i j refl p q
binary_level ops.Greater x y i j (joined (joined p one) q) = compared_level i j refl p q
binary_level ops.GreaterEq x y i j (joined (joined p one) q) = compared_level i j refl p q
binary_level ops.Equal x y i j (joined (joined p one) q) = compared_level i j refl p q
binary_level ops.NotEqual x y i j (joined (joined p one) q) = compared_level i j refl p q
binary_level ops.Add x y i j (joined (joined p one) q) = added_level i j refl p q
binary_level ops.Sub x y i j (joined (joined p one) q) = added_level i j refl p q
binary_level ops.Mul x y i j (joined (joined p one) q) = multiplied_level i j refl p q
binary_level ops.Div x y i j (joined (joined p one) q) = multiplied_level i j refl p q
binary_level ops.Rem x y i j (joined (joined p one) q) = multiplied_level i j refl p q

number_level : {v : ℕ} {s t : List Spot} → One (number v) s t → Level (Number (pos v)) 0 5 s t
number_level one = as_factor numbered (omega arith)

name_level : {b : List ℕ} {s t : List Spot} → One (name b) s t → Level (Var b) 0 5 s t
name_level one = as_factor named (omega arith)

read_level : {b : List ℕ} {x : Expression} {m k : ℕ} {s t : List Spot} → Then (Then (Then (One (name b)) (One (sign signs.OpenIndex))) (Level x m k)) (One (sign signs.CloseIndex)) s t → Level (Read b x) (1 + m) 5 s t
read_level (joined (joined (joined one one) d) one) = let e = to_expr d in as_factor (indexed e.0) (omega (arith, e.1))

negated_level : {x : Expression} {m : ℕ} {s t : List Spot} → Then (One (sign signs.Minus)) (AtLeast x m 4) s t → Level (Neg x) (1 + m) 4 s t
negated_level (joined one p) = let e = to_factor p.bound p.level in as_factor (negated e.0) (omega (arith, e.1))

level_cuts : (x : Expression) → IsPrintable x → CutsInto (expression_text x) (Level x (marks_of x) (strength_of x)) NoName
level_cuts (Number (pos n)) p = cuts_as (cuts_number n p) (λ s t d. number_level d)
level_cuts (Number (negsuc n)) p = absurd p
level_cuts (Var b) p = cuts_as (cuts_name b p) (λ s t d. name_level d)
level_cuts (Read b x) p =
    weaker (λ rest h. tt) (cuts_as
    (cuts_both (cuts_both (cuts_both (cuts_name b p.0) cuts_open_index (λ rest h. refl)) (level_cuts x p.1) (λ rest h. tt)) cuts_close_index (λ rest h. refl))
    (λ s t d. read_level d))
level_cuts (Neg x) p =
    cuts_as (cuts_both cuts_minus (operand_cuts 4 (groups_negated x) x (negated_enough (strength_of x)) (level_cuts x p)) (λ rest h. tt)) (λ s t d. negated_level d)
level_cuts (Binary op x y) p =
    cuts_as
    (cuts_both (cuts_both (operand_cuts (left_bound op) (groups_left op x) x (left_enough op x) (level_cuts x p.0)) (op_cuts op) (λ rest h. op_no_name op rest))
    (operand_cuts (op_strength op + 1) (groups_right op y) y (right_enough (strength_of y) (op_strength op)) (level_cuts y p.1)) (λ rest h. tt))
    (λ s t d. binary_level op x y (parens (groups_left op x) + marks_of x) (parens (groups_right op y) + marks_of y) d)

-- The text of an expression becomes tokens that spell it.
pub expression_cuts : (x : Expression) → IsPrintable x → CutsInto (expression_text x) (IsExpression x (marks_of x)) NoName
expression_cuts x p = cuts_as (level_cuts x p) (λ s t d. let e = to_expr d in record { d = e.0; few = e.1 })

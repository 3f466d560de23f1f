-- The grammar, one case per rule: tokens to trees. `SpellsSum s t x` states that the tokens from s up to t spell the sum x. Here
-- s is the list from the sum's first token on, and t is the list after the sum's last token.
use Rattle.std.specs.Prelude.{◌≡◌, ℕ, ℤ, pos, neg_ℤ, List, [], ◌∷◌, ◌++◌, Option, Some, None}
use Rattle.array_tokens.specs.Lexemes.{Lexeme, name, number, word, sign, Spot}
use Rattle.array_tokens.specs.declared.token.Word.TheVariants as words
use Rattle.array_tokens.specs.declared.token.Sign.TheVariants as signs
use Rattle.array_tree.specs.Trees.{Expression, Number, Var, Read, Neg, Binary, Statement, Assign, For, If, Par, Team, Sequence, ended, followed, Sequences, no_more, beside, Declaration, ProgramTree}
use Rattle.array_tree.specs.declared.tree.Op.{Op}
use Rattle.array_tree.specs.declared.tree.Op.TheVariants as ops
use Rattle.array_lang.specs.declared.operator.Strength.{Strength}
use Rattle.array_lang.specs.declared.operator.Strength.TheVariants.{Comparison as comparison, Addition as addition, Product as product}

-- A token at a position of the text, on a line.
abbrev pub spot : Lexeme → ℕ → ℕ → Spot
spot l a n = record { lexeme = l; at = a; line = n }

-- How strongly a binary operator binds.
abbrev pub binding : Op → Strength
binding ops.Less = comparison
binding ops.Greater = comparison
binding ops.LessEq = comparison
binding ops.GreaterEq = comparison
binding ops.Equal = comparison
binding ops.NotEqual = comparison
binding ops.Add = addition
binding ops.Sub = addition
binding ops.Mul = product
binding ops.Div = product
binding ops.Rem = product

-- An operator and how strongly it binds.
abbrev pub bound : Op → Option (Strength × Op)
bound op = Some (binding op, op)

-- The binary operator that a token is, and how strongly the operator binds.
abbrev pub operator_of : Lexeme → Option (Strength × Op)
operator_of (sign signs.Less) = bound ops.Less
operator_of (sign signs.Greater) = bound ops.Greater
operator_of (sign signs.LessEq) = bound ops.LessEq
operator_of (sign signs.GreaterEq) = bound ops.GreaterEq
operator_of (sign signs.Equal) = bound ops.Equal
operator_of (sign signs.NotEqual) = bound ops.NotEqual
operator_of (sign signs.Plus) = bound ops.Add
operator_of (sign signs.Minus) = bound ops.Sub
operator_of (sign signs.Star) = bound ops.Mul
operator_of (sign signs.Slash) = bound ops.Div
operator_of (sign signs.Percent) = bound ops.Rem
operator_of _ = None

mutual
  -- An expression: `expr = sum [ comparison sum ]`.
  pub data SpellsExpression : List Spot → List Spot → Expression → Type 0 where
    -- The case `sum`.
    lone_sum : {s t : List Spot} {x : Expression} → SpellsSum s t x → SpellsExpression s t x
    -- The case `sum comparison sum`.
    compared : {s t u : List Spot} {x y : Expression} {l : Lexeme} {a n : ℕ} {op : Op} →
        SpellsSum s (spot l a n ∷ t) x → operator_of l ≡ Some (comparison, op) → SpellsSum t u y
        → SpellsExpression s u (Binary op x y)

  -- A sum: `sum = term { addition term }`.
  pub data SpellsSum : List Spot → List Spot → Expression → Type 0 where
    -- The case `term`.
    lone_term : {s t : List Spot} {x : Expression} → SpellsTerm s t x → SpellsSum s t x
    -- The case `sum addition term`.
    added : {s t u : List Spot} {x y : Expression} {l : Lexeme} {a n : ℕ} {op : Op} →
        SpellsSum s (spot l a n ∷ t) x → operator_of l ≡ Some (addition, op) → SpellsTerm t u y
        → SpellsSum s u (Binary op x y)

  -- A term: `term = factor { product factor }`.
  pub data SpellsTerm : List Spot → List Spot → Expression → Type 0 where
    -- The case `factor`.
    lone_factor : {s t : List Spot} {x : Expression} → SpellsFactor s t x → SpellsTerm s t x
    -- The case `term product factor`.
    multiplied : {s t u : List Spot} {x y : Expression} {l : Lexeme} {a n : ℕ} {op : Op} →
        SpellsTerm s (spot l a n ∷ t) x → operator_of l ≡ Some (product, op) → SpellsFactor t u y
        → SpellsTerm s u (Binary op x y)

  -- A factor: `factor = "-" factor | atom`, where
  -- `atom = NUMBER | NAME | NAME "[" expr "]" | "(" expr ")"`.
  pub data SpellsFactor : List Spot → List Spot → Expression → Type 0 where
    -- The case `"-" factor`.
    negated : {s t : List Spot} {x : Expression} {a n : ℕ} → SpellsFactor s t x
        → SpellsFactor (spot (sign signs.Minus) a n ∷ s) t (Neg x)
    -- The case `NUMBER`.
    numbered : {t : List Spot} {v a n : ℕ}
        → SpellsFactor (spot (number v) a n ∷ t) t (Number (pos v))
    -- The case `NAME`.
    named : {t : List Spot} {b : List ℕ} {a n : ℕ} → SpellsFactor (spot (name b) a n ∷ t) t (Var b)
    -- The case `NAME "[" expr "]"`.
    indexed : {s t : List Spot} {b : List ℕ} {x : Expression} {a n a1 n1 a2 n2 : ℕ} →
        SpellsExpression s (spot (sign signs.CloseIndex) a2 n2 ∷ t) x →
        SpellsFactor (spot (name b) a n ∷ spot (sign signs.OpenIndex) a1 n1 ∷ s) t (Read b x)
    -- The case `"(" expr ")"`.
    grouped : {s t : List Spot} {x : Expression} {a n a1 n1 : ℕ} →
        SpellsExpression s (spot (sign signs.CloseGroup) a1 n1 ∷ t) x
        → SpellsFactor (spot (sign signs.OpenGroup) a n ∷ s) t x

-- A bound: `bound = [ "-" ] NUMBER`.
pub data SpellsBound : List Spot → List Spot → ℤ → Type 0 where
  -- The case `NUMBER`.
  plain_bound : {t : List Spot} {v a n : ℕ} → SpellsBound (spot (number v) a n ∷ t) t (pos v)
  -- The case `"-" NUMBER`.
  negative_bound : {t : List Spot} {v a n a1 n1 : ℕ}
      → SpellsBound (spot (sign signs.Minus) a n ∷ spot (number v) a1 n1 ∷ t) t (neg_ℤ (pos v))

-- A range: `range = NAME "in" bound ".." bound`.
pub data SpellsRange : List Spot → List Spot → List ℕ → ℤ → ℤ → Type 0 where
  range : {s t u : List Spot} {b : List ℕ} {low high : ℤ} {a n a1 n1 a2 n2 : ℕ} →
      SpellsBound s (spot (sign signs.Range) a2 n2 ∷ t) low → SpellsBound t u high →
      SpellsRange (spot (name b) a n ∷ spot (word words.In) a1 n1 ∷ s) u b low high

mutual
  -- A statement, one case for each kind.
  pub data SpellsStatement : List Spot → List Spot → Statement → Type 0 where
    -- An assignment: `assign = NAME "[" expr "]" "=" expr ";"`.
    assigned : {s t u : List Spot} {b : List ℕ} {x y : Expression}
        {a n a1 n1 a2 n2 a3 n3 a4 n4 : ℕ} →
        SpellsExpression s (spot (sign signs.CloseIndex) a2 n2
        ∷ spot (sign signs.Assign) a3 n3 ∷ t) x →
        SpellsExpression t (spot (sign signs.Semicolon) a4 n4 ∷ u) y →
        SpellsStatement (spot (name b) a n ∷ spot (sign signs.OpenIndex) a1 n1 ∷ s) u
        (Assign n b x y)
    -- A loop: `for = "for" range block`.
    looped : {s t u : List Spot} {b : List ℕ} {low high : ℤ} {p : Sequence} {a n : ℕ} →
        SpellsRange s t b low high → SpellsBlock t u p
        → SpellsStatement (spot (word words.For) a n ∷ s) u (For n b low high p)
    -- A choice: `if = "if" expr block [ "else" block ]`. This is the case without `else`.
    chosen : {s t u : List Spot} {x : Expression} {p : Sequence} {a n : ℕ} →
        SpellsExpression s t x → SpellsBlock t u p
        → SpellsStatement (spot (word words.If) a n ∷ s) u (If n x p ended)
    chosen_else : {s t u v : List Spot} {x : Expression} {p q : Sequence} {a n a1 n1 : ℕ} →
        SpellsExpression s t x → SpellsBlock t (spot (word words.Else) a1 n1 ∷ u) p
        → SpellsBlock u v q →
        SpellsStatement (spot (word words.If) a n ∷ s) v (If n x p q)
    -- Branches: `par = "par" "{" block { block } "}"`.
    parallel : {s t : List Spot} {ps : Sequences} {a n a1 n1 : ℕ} →
        SpellsBranches s t ps → SpellsStatement (spot (word words.Par) a n
        ∷ spot (sign signs.OpenBlock) a1 n1 ∷ s) t (Par n ps)
    -- A team: `team = "team" range "by" NUMBER block { "barrier" block }`.
    teamed : {s t u : List Spot} {b : List ℕ} {low high : ℤ} {ps : Sequences}
        {members a n a1 n1 a2 n2 : ℕ} →
        SpellsRange s (spot (word words.By) a1 n1 ∷ spot (number members) a2 n2 ∷ t) b low high
        → SpellsPhases t u ps →
        SpellsStatement (spot (word words.Team) a n ∷ s) u (Team n b low high (pos members) ps)

  -- The blocks of a `par` from the first on: `block { block } "}"`.
  pub data SpellsBranches : List Spot → List Spot → Sequences → Type 0 where
    -- The last block and `"}"`.
    last_branch : {s t : List Spot} {p : Sequence} {a n : ℕ}
        → SpellsBlock s (spot (sign signs.CloseBlock) a n ∷ t) p
        → SpellsBranches s t (beside p no_more)
    -- A block, and further branches.
    next_branch : {s t u : List Spot} {p : Sequence} {ps : Sequences} → SpellsBlock s t p
        → SpellsBranches t u ps → SpellsBranches s u (beside p ps)

  -- The phases of a `team`: `block { "barrier" block }`.
  pub data SpellsPhases : List Spot → List Spot → Sequences → Type 0 where
    -- The last phase.
    last_phase : {s t : List Spot} {p : Sequence} → SpellsBlock s t p
        → SpellsPhases s t (beside p no_more)
    -- A block, `"barrier"`, and further phases.
    next_phase : {s t u : List Spot} {p : Sequence} {ps : Sequences} {a n : ℕ} →
        SpellsBlock s (spot (word words.Barrier) a n ∷ t) p → SpellsPhases t u ps
        → SpellsPhases s u (beside p ps)

  -- A block: `block = "{" { stmt } "}"`.
  pub data SpellsBlock : List Spot → List Spot → Sequence → Type 0 where
    block : {s t : List Spot} {p : Sequence} {a n a1 n1 : ℕ} →
        SpellsSequence s (spot (sign signs.CloseBlock) a1 n1 ∷ t) p
        → SpellsBlock (spot (sign signs.OpenBlock) a n ∷ s) t p

  -- The statements of a block: `{ stmt }`.
  pub data SpellsSequence : List Spot → List Spot → Sequence → Type 0 where
    no_statement : {s : List Spot} → SpellsSequence s s ended
    -- A statement, and further statements.
    next_statement : {s t u : List Spot} {c : Statement} {p : Sequence} → SpellsStatement s t c
        → SpellsSequence t u p → SpellsSequence s u (followed c p)

-- A declaration: `decl = "array" NAME "[" NUMBER "]" ";"`.
pub data SpellsDeclaration : List Spot → List Spot → Declaration → Type 0 where
  declaration : {t : List Spot} {b : List ℕ} {v a n a1 n1 a2 n2 a3 n3 a4 n4 a5 n5 : ℕ} →
      SpellsDeclaration (spot (word words.Array) a n ∷ spot (name b) a1 n1
      ∷ spot (sign signs.OpenIndex) a2 n2 ∷ spot (number v) a3 n3
      ∷ spot (sign signs.CloseIndex) a4 n4 ∷ spot (sign signs.Semicolon) a5 n5 ∷ t)
      t (record { line = n; name = b; length = pos v })

-- The declarations of a program: `{ decl }`.
pub data SpellsDeclarations : List Spot → List Spot → List Declaration → Type 0 where
  no_declaration : {s : List Spot} → SpellsDeclarations s s []
  -- A declaration, and further declarations.
  next_declaration : {s t u : List Spot} {d : Declaration} {ds : List Declaration}
      → SpellsDeclaration s t d → SpellsDeclarations t u ds → SpellsDeclarations s u (d ∷ ds)

-- The tokens spell the program, but for the limits on nesting.
-- A program: `program = { decl } { stmt }`.
pub record SpellsProgram (tokens : List Spot) (p : ProgramTree) : Type 0 where
  pub body : List Spot
  pub declares : SpellsDeclarations tokens body p.arrays
  pub does : SpellsSequence body [] p.body

-- Some program begins with these tokens.
abbrev pub Begins : List Spot → Type 0
Begins tokens = (more : List Spot) × (p : ProgramTree) × SpellsProgram (tokens ++ more) p

-- No program begins with the tokens and the first token of the rest. If there is no rest, the tokens spell no program.
abbrev pub EndsAt : List Spot → List Spot → Type 0
EndsAt front [] = (p : ProgramTree) → SpellsProgram front p → ⊥
EndsAt front (t ∷ rest) = Begins (front ++ t ∷ []) → ⊥

-- The rest begins with the first token such that no program begins with the tokens up to and including it.
pub record StopsAt (tokens rest : List Spot) : Type 0 where
  pub front : List Spot
  pub all : tokens ≡ front ++ rest
  pub begins : Begins front
  pub ends : EndsAt front rest

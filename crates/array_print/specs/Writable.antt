-- Programs as texts have them: names, numbers, blocks and nesting are such as some text spells.
use Rattle.std.specs.Prelude.{◌≡◌, ◌≤◌, ◌<◌, ◌+◌, ℕ, suc, ℤ, pos, negsuc, Bool, true, false, None, List, [], ◌∷◌}
use Rattle.array_tokens.specs.Literals.{greatest_literal}
use Rattle.array_tokens.specs.Lexemes.{is_letter, is_name_byte, word_of}
use Rattle.array_tree.specs.Trees.{Expression, Number, Var, Read, Neg, Binary, Statement, Assign, For, If, Par, Team, Sequence, ended, followed, Sequences, no_more, beside, Declaration, ProgramTree}
use Rattle.array_lang.specs.Nesting.{most_marks, most_open}
use Rattle.array_print.specs.Texts.{groups_left, groups_right, groups_negated}

-- Each byte may occur in a name.
abbrev pub AreNameBytes : List ℕ → Type 0
AreNameBytes [] = Unit {0}
AreNameBytes (b ∷ bs) = (is_name_byte b ≡ true) × AreNameBytes bs

-- A letter, then letters and digits, and no word.
abbrev pub IsName : List ℕ → Type 0
IsName [] = ⊥
IsName (b ∷ bs) = (is_letter b ≡ true) × AreNameBytes bs × (word_of (b ∷ bs) ≡ None)

-- A number, which has no sign.
abbrev pub IsNumber : ℤ → Type 0
IsNumber (pos n) = n ≤ greatest_literal
IsNumber (negsuc n) = ⊥

-- The bound of a loop, positive or negative.
abbrev pub IsBound : ℤ → Type 0
IsBound (pos n) = n ≤ greatest_literal
IsBound (negsuc n) = suc n ≤ greatest_literal

-- A pair of parentheses is one mark.
abbrev pub parens : Bool → ℕ
parens true = 1
parens false = 0

-- The marks of an expression's printed text.
abbrev pub marks_of : Expression → ℕ
marks_of (Number v) = 0
marks_of (Var b) = 0
marks_of (Read b x) = 1 + marks_of x
marks_of (Neg x) = 1 + (parens (groups_negated x) + marks_of x)
marks_of (Binary op x y) =
    (parens (groups_left op x) + marks_of x) + 1 + (parens (groups_right op y) + marks_of y)

-- An expression whose names and numbers are some that texts spell.
abbrev pub IsPrintable : Expression → Type 0
IsPrintable (Number v) = IsNumber v
IsPrintable (Var b) = IsName b
IsPrintable (Read b x) = IsName b × IsPrintable x
IsPrintable (Neg x) = IsPrintable x
IsPrintable (Binary op x y) = IsPrintable x × IsPrintable y

-- An outermost expression that texts spell within the limit on marks.
abbrev pub IsWhole : Expression → Type 0
IsWhole x = IsPrintable x × (marks_of x ≤ most_marks)

-- There is at least one branch or phase.
abbrev pub IsSome : Sequences → Type 0
IsSome no_more = ⊥
IsSome (beside p rest) = Unit {0}

-- Statements that texts spell inside this many open braces.
abbrev mutual
  pub CanStand : ℕ → Statement → Type 0
  CanStand depth (Assign line array index value) = IsName array × IsWhole index × IsWhole value
  CanStand depth (For line var low high body) =
      IsName var × IsBound low × IsBound high × (depth < most_open) × CanFollow (depth + 1) body
  CanStand depth (If line cond left right) =
      IsWhole cond × (depth < most_open) × CanFollow (depth + 1) left × CanFollow (depth + 1) right
  CanStand depth (Par line branches) =
      (depth < most_open) × IsSome branches × CanBranch (depth + 1) branches
  CanStand depth (Team line var low high members phases) =
      IsName var × IsBound low × IsBound high × IsNumber members × IsSome phases
      × CanBranch depth phases

  pub CanFollow : ℕ → Sequence → Type 0
  CanFollow depth ended = Unit {0}
  CanFollow depth (followed first rest) = CanStand depth first × CanFollow depth rest

  pub CanBranch : ℕ → Sequences → Type 0
  CanBranch depth no_more = Unit {0}
  CanBranch depth (beside first rest) =
      (depth < most_open) × CanFollow (depth + 1) first × CanBranch depth rest

-- Declarations that texts spell.
abbrev pub AreDeclarable : List Declaration → Type 0
AreDeclarable [] = Unit {0}
AreDeclarable (d ∷ ds) = IsName d.name × IsNumber d.length × AreDeclarable ds

-- A program that some text spells.
pub record IsWritable (p : ProgramTree) : Type 0 where
  pub declares : AreDeclarable p.arrays
  pub does : CanFollow 0 p.body

-- A text that is read spells the result: in each state, the tokens so far are the beginning of a text of the grammar.
use Rattle.std.proofs.Common.{◌≡◌, ℕ, zero, suc, ℤ, pos, List, [], ◌∷◌, ◌++◌, Option, Some, None, Result, Ok, refl, subst}
use Rattle.array_tokens.specs.Lexemes.{Lexeme, name, number, word, sign, Spot}
use Rattle.array_tokens.specs.declared.token.Word.TheVariants as words
use Rattle.array_tokens.specs.declared.token.Sign.TheVariants as signs
use Rattle.array_tree.specs.Trees.{Expression, Statement, If, Sequence, ended, sequence, sequences, Declaration, ProgramTree}
use Rattle.array_tree.specs.declared.tree.Op.{Op}
use Rattle.array_lang.specs.Grammar.{operator_of, spot, SpellsExpression, lone_sum, compared, SpellsSum, lone_term, added, SpellsTerm, lone_factor, multiplied, SpellsFactor, negated, numbered, named, indexed, grouped, SpellsBound, plain_bound, negative_bound, SpellsRange, range, SpellsStatement, assigned, looped, chosen, chosen_else, parallel, teamed, SpellsBranches, last_branch, next_branch, SpellsPhases, last_phase, next_phase, SpellsBlock, block, SpellsSequence, no_statement, next_statement, SpellsDeclaration, declaration, SpellsDeclarations, no_declaration, next_declaration, SpellsProgram}
use Rattle.array_lang.specs.Parsing.Machine.{Left, Level, fresh, joined, negs, Outer, group, index, Top, target, value, condition, Operand, bare, called, operand_value, Ranged, looping, teaming, Slot, low_of, high_of, Crew, team_of, Position, array_name, array_open, array_length, array_close, array_end, range_name, range_in, bound, bound_number, range_dots, range_over, team_members, bounded, Mode, declaring, header, operand, after, statement, array, equals, closed, otherwise, par_begun, par_open, par_side, phase_open, phase_closed, Branch, then_side, else_side, in_for, in_par, in_team, Frame, Nest, nest, State, ends, closes, goes_on, step_after, step_operand, step_statement, step_header, close_block, step, program, continued, at_end, run, parse_of}
use Rattle.array_lang.specs.declared.operator.Strength.{Strength}
use Rattle.array_lang.specs.declared.operator.Strength.TheVariants.{Comparison as comparison, Addition as addition, Product as product}

-- A left operand and its operator stand from s up to t, or nothing does.
data CompareAt : List Spot → List Spot → Left → Type 0 where
  no_compare : {s : List Spot} → CompareAt s s None
  compare_left : {s t : List Spot} {x : Expression} {l : Lexeme} {a n : ℕ} {op : Op} → SpellsSum s (spot l a n ∷ t) x → operator_of l ≡ Some (comparison, op) → CompareAt s t (Some (x, op))

data SumAt : List Spot → List Spot → Left → Type 0 where
  no_sum : {s : List Spot} → SumAt s s None
  sum_left : {s t : List Spot} {x : Expression} {l : Lexeme} {a n : ℕ} {op : Op} → SpellsSum s (spot l a n ∷ t) x → operator_of l ≡ Some (addition, op) → SumAt s t (Some (x, op))

data TermAt : List Spot → List Spot → Left → Type 0 where
  no_term : {s : List Spot} → TermAt s s None
  term_left : {s t : List Spot} {x : Expression} {l : Lexeme} {a n : ℕ} {op : Op} → SpellsTerm s (spot l a n ∷ t) x → operator_of l ≡ Some (product, op) → TermAt s t (Some (x, op))

data MinusAt : List Spot → List Spot → ℕ → Type 0 where
  no_minus : {s : List Spot} → MinusAt s s zero
  one_minus : {s t : List Spot} {k a n : ℕ} → MinusAt s (spot (sign signs.Minus) a n ∷ t) k → MinusAt s t (suc k)

-- The unfinished operands of this level stand from s up to t.
data LevelAt : List Spot → List Spot → Level → Type 0 where
  level : {s s1 s2 s3 t : List Spot} {c z w : Left} {k : ℕ} → CompareAt s s1 c → SumAt s1 s2 z → TermAt s2 s3 w → MinusAt s3 t k → LevelAt s t (record { compare = c; sum = z; term = w; minus = k })

negs_factor : {s t u : List Spot} {k : ℕ} {x : Expression} → MinusAt s t k → SpellsFactor t u x → SpellsFactor s u (negs k x)
negs_factor no_minus d = d
negs_factor (one_minus m) d = negs_factor m (negated d)

joined_term : {s t u : List Spot} {w : Left} {x : Expression} → TermAt s t w → SpellsFactor t u x → SpellsTerm s u (joined w x)
joined_term no_term d = lone_factor d
joined_term (term_left e h) d = multiplied e h d

joined_sum : {s t u : List Spot} {w : Left} {x : Expression} → SumAt s t w → SpellsTerm t u x → SpellsSum s u (joined w x)
joined_sum no_sum d = lone_term d
joined_sum (sum_left e h) d = added e h d

joined_expr : {s t u : List Spot} {w : Left} {x : Expression} → CompareAt s t w → SpellsSum t u x → SpellsExpression s u (joined w x)
joined_expr no_compare d = lone_sum d
joined_expr (compare_left e h) d = compared e h d

data OperandAt : List Spot → List Spot → Operand → Type 0 where
  bare_at : {s t : List Spot} {x : Expression} → SpellsFactor s t x → OperandAt s t (bare x)
  called_at : {t : List Spot} {b : List ℕ} {a n : ℕ} → OperandAt (spot (name b) a n ∷ t) t (called b)

operand_factor : {s t : List Spot} {x : Operand} → OperandAt s t x → SpellsFactor s t (operand_value x)
operand_factor (bare_at d) = d
operand_factor called_at = named

-- From s, where an outermost expression begins, up to t, where one inside it does.
data OutersAt : List Spot → List Spot → List Outer → Type 0 where
  outermost : {s : List Spot} → OutersAt s s []
  in_group : {s r t : List Spot} {l : Level} {outers : List Outer} {a n : ℕ} → OutersAt s r outers → LevelAt r (spot (sign signs.OpenGroup) a n ∷ t) l → OutersAt s t (group l ∷ outers)
  in_index : {s r t : List Spot} {b : List ℕ} {l : Level} {outers : List Outer} {a n a1 n1 : ℕ} → OutersAt s r outers → LevelAt r (spot (name b) a n ∷ spot (sign signs.OpenIndex) a1 n1 ∷ t) l → OutersAt s t (index b l ∷ outers)

-- From s, where a statement begins, up to t, where an outermost expression of it does.
data TopAt : List Spot → List Spot → Top → Type 0 where
  target_at : {t : List Spot} {b : List ℕ} {a n a1 n1 : ℕ} → TopAt (spot (name b) a n ∷ spot (sign signs.OpenIndex) a1 n1 ∷ t) t (target n b)
  value_at : {s t : List Spot} {b : List ℕ} {x : Expression} {a n a1 n1 a2 n2 a3 n3 : ℕ} → SpellsExpression s (spot (sign signs.CloseIndex) a2 n2 ∷ spot (sign signs.Assign) a3 n3 ∷ t) x → TopAt (spot (name b) a n ∷ spot (sign signs.OpenIndex) a1 n1 ∷ s) t (value n b x)
  condition_at : {t : List Spot} {a n : ℕ} → TopAt (spot (word words.If) a n ∷ t) t (condition n)

-- From s, where a `for` or a `team` begins, up to t, after its first word.
data RangedAt : List Spot → List Spot → Ranged → ℕ → Type 0 where
  for_word : {t : List Spot} {a n : ℕ} → RangedAt (spot (word words.For) a n ∷ t) t looping n
  team_word : {t : List Spot} {a n : ℕ} → RangedAt (spot (word words.Team) a n ∷ t) t teaming n

data SlotAt : List Spot → List Spot → Slot → Type 0 where
  low_at : {r t : List Spot} {k : Ranged} {b : List ℕ} {line a n a1 n1 : ℕ} →
      RangedAt r (spot (name b) a n ∷ spot (word words.In) a1 n1 ∷ t) k line → SlotAt r t (low_of k line b)
  high_at : {r s t : List Spot} {k : Ranged} {b : List ℕ} {low : ℤ} {line a n a1 n1 a2 n2 : ℕ} →
      RangedAt r (spot (name b) a n ∷ spot (word words.In) a1 n1 ∷ s) k line → SpellsBound s (spot (sign signs.Range) a2 n2 ∷ t) low → SlotAt r t (high_of k line b low)

data PositionAt : List Spot → List Spot → Position → Type 0 where
  name_next : {r t : List Spot} {k : Ranged} {line : ℕ} → RangedAt r t k line → PositionAt r t (range_name k line)
  in_next : {r t : List Spot} {k : Ranged} {b : List ℕ} {line a n : ℕ} → RangedAt r (spot (name b) a n ∷ t) k line → PositionAt r t (range_in k line b)
  bound_next : {r t : List Spot} {slot : Slot} → SlotAt r t slot → PositionAt r t (bound slot)
  number_next : {r t : List Spot} {slot : Slot} {a n : ℕ} → SlotAt r (spot (sign signs.Minus) a n ∷ t) slot → PositionAt r t (bound_number slot)
  dots_next : {r s t : List Spot} {k : Ranged} {b : List ℕ} {low : ℤ} {line a n a1 n1 : ℕ} →
      RangedAt r (spot (name b) a n ∷ spot (word words.In) a1 n1 ∷ s) k line → SpellsBound s t low → PositionAt r t (range_dots k line b low)
  range_done : {r s t : List Spot} {k : Ranged} {b : List ℕ} {low high : ℤ} {line : ℕ} → RangedAt r s k line → SpellsRange s t b low high → PositionAt r t (range_over k line b low high)
  members_next : {s t : List Spot} {b : List ℕ} {low high : ℤ} {a n a1 n1 : ℕ} →
      SpellsRange s (spot (word words.By) a1 n1 ∷ t) b low high → PositionAt (spot (word words.Team) a n ∷ s) t (team_members n b low high)

bounded_at : {r s t : List Spot} {slot : Slot} {v : ℤ} → SlotAt r s slot → SpellsBound s t v → PositionAt r t (bounded slot v)
bounded_at (low_at e) d = dots_next e d
bounded_at (high_at e f) d = range_done e (range f d)

-- From s, where a declaration begins, up to t.
data ArrayAt : List Spot → List Spot → Position → Type 0 where
  after_word : {t : List Spot} {a n : ℕ} → ArrayAt (spot (word words.Array) a n ∷ t) t (array_name n)
  after_name : {t : List Spot} {b : List ℕ} {a n a1 n1 : ℕ} → ArrayAt (spot (word words.Array) a n ∷ spot (name b) a1 n1 ∷ t) t (array_open n b)
  after_open : {t : List Spot} {b : List ℕ} {a n a1 n1 a2 n2 : ℕ} →
      ArrayAt (spot (word words.Array) a n ∷ spot (name b) a1 n1 ∷ spot (sign signs.OpenIndex) a2 n2 ∷ t) t (array_length n b)
  after_length : {t : List Spot} {b : List ℕ} {v a n a1 n1 a2 n2 a3 n3 : ℕ} →
      ArrayAt (spot (word words.Array) a n ∷ spot (name b) a1 n1 ∷ spot (sign signs.OpenIndex) a2 n2 ∷ spot (number v) a3 n3 ∷ t) t (array_close n b (pos v))
  after_close : {t : List Spot} {b : List ℕ} {v a n a1 n1 a2 n2 a3 n3 a4 n4 : ℕ} →
      ArrayAt (spot (word words.Array) a n ∷ spot (name b) a1 n1 ∷ spot (sign signs.OpenIndex) a2 n2 ∷ spot (number v) a3 n3 ∷ spot (sign signs.CloseIndex) a4 n4 ∷ t) t (array_end n b (pos v))

more_declarations : {s t u : List Spot} {d : Declaration} {ds : List Declaration} → SpellsDeclarations s t ds → SpellsDeclaration t u d → SpellsDeclarations s u (ds ++ d ∷ [])
more_declarations no_declaration e = next_declaration e no_declaration
more_declarations (next_declaration f g) e = next_declaration f (more_declarations g e)

-- These blocks stand from s up to t.
data SidesAt : List Spot → List Spot → List Sequence → Type 0 where
  no_side : {s : List Spot} → SidesAt s s []
  one_side : {s t u : List Spot} {p : Sequence} {ps : List Sequence} → SpellsBlock s t p → SidesAt t u ps → SidesAt s u (p ∷ ps)

more_sides : {s t u : List Spot} {p : Sequence} {ps : List Sequence} → SidesAt s t ps → SpellsBlock t u p → SidesAt s u (ps ++ p ∷ [])
more_sides no_side e = one_side e no_side
more_sides (one_side f g) e = one_side f (more_sides g e)

all_sides : {s r t : List Spot} {p : Sequence} {ps : List Sequence} {a k : ℕ} → SidesAt s r ps → SpellsBlock r (spot (sign signs.CloseBlock) a k ∷ t) p → SpellsBranches s t (sequences (ps ++ p ∷ []))
all_sides no_side e = last_branch e
all_sides (one_side f g) e = next_branch f (all_sides g e)

-- These blocks stand from s up to t, each with a `barrier` after it.
data PhasesAt : List Spot → List Spot → List Sequence → Type 0 where
  no_phase : {s : List Spot} → PhasesAt s s []
  one_phase : {s t u : List Spot} {p : Sequence} {ps : List Sequence} {a k : ℕ} → SpellsBlock s (spot (word words.Barrier) a k ∷ t) p → PhasesAt t u ps → PhasesAt s u (p ∷ ps)

more_phases : {s t u : List Spot} {p : Sequence} {ps : List Sequence} {a k : ℕ} → PhasesAt s t ps → SpellsBlock t (spot (word words.Barrier) a k ∷ u) p → PhasesAt s u (ps ++ p ∷ [])
more_phases no_phase e = one_phase e no_phase
more_phases (one_phase f g) e = one_phase f (more_phases g e)

all_phases : {s r t : List Spot} {p : Sequence} {ps : List Sequence} → PhasesAt s r ps → SpellsBlock r t p → SpellsPhases s t (sequences (ps ++ p ∷ []))
all_phases no_phase e = last_phase e
all_phases (one_phase f g) e = next_phase f (all_phases g e)

-- From s, where a team begins, up to t, where its phases do.
data CrewAt : List Spot → List Spot → Crew → Type 0 where
  crew_at : {s t : List Spot} {b : List ℕ} {low high : ℤ} {members a n a1 n1 a2 n2 : ℕ} →
      SpellsRange s (spot (word words.By) a1 n1 ∷ spot (number members) a2 n2 ∷ t) b low high →
      CrewAt (spot (word words.Team) a n ∷ s) t (record { line = n; var = b; low = low; high = high; members = pos members })

whole_team : {s r t : List Spot} {c : Crew} (ps : List Sequence) → CrewAt s r c → SpellsPhases r t (sequences ps) → SpellsStatement s t (team_of c ps)
whole_team ps (crew_at d) e = teamed d e

-- From s, where a statement begins, up to t, where a block of it does.
data BranchAt : List Spot → List Spot → Branch → Type 0 where
  then_at : {s t : List Spot} {x : Expression} {a n a1 n1 : ℕ} → SpellsExpression s (spot (sign signs.OpenBlock) a1 n1 ∷ t) x → BranchAt (spot (word words.If) a n ∷ s) t (then_side n x)
  else_at : {s t u : List Spot} {x : Expression} {p : Sequence} {a n a1 n1 a2 n2 : ℕ} → SpellsExpression s t x → SpellsBlock t (spot (word words.Else) a1 n1 ∷ spot (sign signs.OpenBlock) a2 n2 ∷ u) p → BranchAt (spot (word words.If) a n ∷ s) u (else_side n x p)
  for_at : {s t : List Spot} {b : List ℕ} {low high : ℤ} {a n a1 n1 : ℕ} → SpellsRange s (spot (sign signs.OpenBlock) a1 n1 ∷ t) b low high → BranchAt (spot (word words.For) a n ∷ s) t (in_for n b low high)
  par_at : {s t : List Spot} {ps : List Sequence} {a n a1 n1 a2 n2 : ℕ} → SidesAt s (spot (sign signs.OpenBlock) a2 n2 ∷ t) ps → BranchAt (spot (word words.Par) a n ∷ spot (sign signs.OpenBlock) a1 n1 ∷ s) t (in_par n ps)
  team_at : {s r t : List Spot} {c : Crew} {ps : List Sequence} {a n : ℕ} → CrewAt s r c → PhasesAt r (spot (sign signs.OpenBlock) a n ∷ t) ps → BranchAt s t (in_team c ps)

-- The declarations, the open blocks and the statements so far stand from s up to t.
data NestAt : List Spot → List Spot → List Declaration → List Statement → List Frame → Type 0 where
  outside : {s r t : List Spot} {ds : List Declaration} {d : List Statement} → SpellsDeclarations s r ds → SpellsSequence r t (sequence d) → NestAt s t ds d []
  inside : {s r r1 t : List Spot} {ds : List Declaration} {d : List Statement} {f : Frame} {frames : List Frame} → NestAt s r ds f.before frames → BranchAt r r1 f.branch → SpellsSequence r1 t (sequence d) → NestAt s t ds d (f ∷ frames)

more_statements : {s t u : List Spot} {c : Statement} (d : List Statement) → SpellsSequence s t (sequence d) → SpellsStatement t u c → SpellsSequence s u (sequence (d ++ c ∷ []))
more_statements [] no_statement e = next_statement e no_statement
more_statements (c ∷ d) (next_statement f g) e = next_statement f (more_statements d g e)

with_statement : {s t u : List Spot} {c : Statement} {ds : List Declaration} {d : List Statement} {frames : List Frame} → NestAt s t ds d frames → SpellsStatement t u c → NestAt s u ds (d ++ c ∷ []) frames
with_statement {d} (outside a g) e = outside a (more_statements d g e)
with_statement {d} (inside m b g) e = inside m b (more_statements d g e)

-- The tokens from s up to t lead to the state.
data At : List Spot → List Spot → Mode → Nest → Type 0 where
  at_declaring : {s t : List Spot} {ds : List Declaration} → SpellsDeclarations s t ds → At s t declaring (nest ds [] [])
  at_array_header : {s r t : List Spot} {ds : List Declaration} {q : Position} → SpellsDeclarations s r ds → ArrayAt r t q → At s t (header q) (nest ds [] [])
  at_header : {s r t : List Spot} {n : Nest} {q : Position} → NestAt s r n.arrays n.done n.frames → PositionAt r t q → At s t (header q) n
  at_statement : {s t : List Spot} {n : Nest} → NestAt s t n.arrays n.done n.frames → At s t statement n
  at_array : {s t : List Spot} {n : Nest} {b : List ℕ} {a k : ℕ} → NestAt s (spot (name b) a k ∷ t) n.arrays n.done n.frames → At s t (array k b) n
  at_operand : {s t r r1 r2 : List Spot} {n : Nest} {l : Level} {outers : List Outer} {top : Top} → NestAt s r n.arrays n.done n.frames → TopAt r r1 top → OutersAt r1 r2 outers → LevelAt r2 t l → At s t (operand l outers top) n
  at_after : {s t r r1 r2 r3 : List Spot} {n : Nest} {x : Operand} {l : Level} {outers : List Outer} {top : Top} → NestAt s r n.arrays n.done n.frames → TopAt r r1 top → OutersAt r1 r2 outers → LevelAt r2 r3 l → OperandAt r3 t x → At s t (after x l outers top) n
  at_equals : {s t r : List Spot} {n : Nest} {b : List ℕ} {x : Expression} {a k a1 k1 a2 k2 : ℕ} → NestAt s (spot (name b) a k ∷ spot (sign signs.OpenIndex) a1 k1 ∷ r) n.arrays n.done n.frames → SpellsExpression r (spot (sign signs.CloseIndex) a2 k2 ∷ t) x → At s t (equals k b x) n
  at_closed : {s t r r1 : List Spot} {n : Nest} {x : Expression} {p : Sequence} {a k : ℕ} → NestAt s (spot (word words.If) a k ∷ r) n.arrays n.done n.frames → SpellsExpression r r1 x → SpellsBlock r1 t p → At s t (closed k x p) n
  at_otherwise : {s t r r1 : List Spot} {n : Nest} {x : Expression} {p : Sequence} {a k a1 k1 : ℕ} → NestAt s (spot (word words.If) a k ∷ r) n.arrays n.done n.frames → SpellsExpression r r1 x → SpellsBlock r1 (spot (word words.Else) a1 k1 ∷ t) p → At s t (otherwise k x p) n
  at_par_begun : {s t : List Spot} {n : Nest} {a k : ℕ} → NestAt s (spot (word words.Par) a k ∷ t) n.arrays n.done n.frames → At s t (par_begun k) n
  at_par_open : {s t : List Spot} {n : Nest} {a k a1 k1 : ℕ} → NestAt s (spot (word words.Par) a k ∷ spot (sign signs.OpenBlock) a1 k1 ∷ t) n.arrays n.done n.frames → At s t (par_open k) n
  at_par_side : {s t r r1 : List Spot} {n : Nest} {ps : List Sequence} {p : Sequence} {a k a1 k1 : ℕ} → NestAt s (spot (word words.Par) a k ∷ spot (sign signs.OpenBlock) a1 k1 ∷ r) n.arrays n.done n.frames → SidesAt r r1 ps → SpellsBlock r1 t p → At s t (par_side k ps p) n
  at_phase_open : {s r r1 t : List Spot} {n : Nest} {c : Crew} {ps : List Sequence} → NestAt s r n.arrays n.done n.frames → CrewAt r r1 c → PhasesAt r1 t ps → At s t (phase_open c ps) n
  at_phase_closed : {s r r1 r2 t : List Spot} {n : Nest} {c : Crew} {ps : List Sequence} {p : Sequence} → NestAt s r n.arrays n.done n.frames → CrewAt r r1 c → PhasesAt r1 r2 ps → SpellsBlock r2 t p → At s t (phase_closed c ps p) n

abbrev AtIf : List Spot → List Spot → Option State → Type 0
AtIf s t None = Unit {0}
AtIf s t (Some st) = At s t st.mode st.nest

fresh_at : {s : List Spot} → LevelAt s s fresh
fresh_at = level no_compare no_sum no_term no_minus

ends_at : {s t r r1 : List Spot} {n : Nest} {x : Expression} {top : Top} (l : Lexeme) (a k : ℕ) → NestAt s r n.arrays n.done n.frames → TopAt r r1 top → SpellsExpression r1 (spot l a k ∷ t) x → AtIf s t (ends n x top l)
ends_at (sign signs.CloseIndex) a k m target_at d = at_equals m d
ends_at l a k m target_at d = tt
ends_at (sign signs.Semicolon) a k m (value_at e) d = at_statement (with_statement m (assigned e d))
ends_at l a k m (value_at e) d = tt
ends_at (sign signs.OpenBlock) a k m condition_at d = at_statement (inside m (then_at d) no_statement)
ends_at l a k m condition_at d = tt

closes_at : {s t r r1 r2 : List Spot} {n : Nest} {x : Expression} {top : Top} {outers : List Outer} (l : Lexeme) (a k : ℕ) → NestAt s r n.arrays n.done n.frames → TopAt r r1 top → OutersAt r1 r2 outers → SpellsExpression r2 (spot l a k ∷ t) x → AtIf s t (closes n x outers top l)
closes_at l a k m p outermost d = ends_at l a k m p d
closes_at (sign signs.CloseGroup) a k m p (in_group o e) d = at_after m p o e (bare_at (grouped d))
closes_at l a k m p (in_group o e) d = tt
closes_at (sign signs.CloseIndex) a k m p (in_index o e) d = at_after m p o e (bare_at (indexed d))
closes_at l a k m p (in_index o e) d = tt

goes_on_at : {s t r r1 r2 r3 r4 : List Spot} {n : Nest} {c z : Left} {x : Expression} {top : Top} {outers : List Outer} (l : Lexeme) (a k : ℕ) (o : Option (Strength × Op)) → operator_of l ≡ o → NestAt s r n.arrays n.done n.frames → TopAt r r1 top → OutersAt r1 r2 outers → CompareAt r2 r3 c → SumAt r3 r4 z → SpellsTerm r4 (spot l a k ∷ t) x → AtIf s t (goes_on n c z x outers top l o)
goes_on_at l a k (Some (product, op)) e m p o f g d = at_operand m p o (level f g (term_left d e) no_minus)
goes_on_at l a k (Some (addition, op)) e m p o f g d = at_operand m p o (level f (sum_left (joined_sum g d) e) no_term no_minus)
goes_on_at l a k (Some (comparison, op)) e m p o no_compare g d = at_operand m p o (level (compare_left (joined_sum g d) e) no_sum no_term no_minus)
goes_on_at l a k (Some (comparison, op)) e m p o (compare_left f h) g d = tt
goes_on_at l a k None e m p o f g d = closes_at l a k m p o (joined_expr f (joined_sum g d))

step_after_at : {s t r r1 r2 r3 : List Spot} {n : Nest} {x : Operand} {l : Level} {top : Top} {outers : List Outer} (y : Lexeme) (a k : ℕ) → NestAt s r n.arrays n.done n.frames → TopAt r r1 top → OutersAt r1 r2 outers → LevelAt r2 r3 l → OperandAt r3 (spot y a k ∷ t) x → AtIf s t (step_after n x l outers top y)
step_after_at y a k m p o (level f g h i) (bare_at d) = goes_on_at y a k (operator_of y) refl m p o f g (joined_term h (negs_factor i d))
step_after_at (sign signs.OpenIndex) a k m p o e called_at = at_operand m p (in_index o e) fresh_at
step_after_at y a k m p o (level f g h i) called_at = goes_on_at y a k (operator_of y) refl m p o f g (joined_term h (negs_factor i named))

step_operand_at : {s t r r1 r2 : List Spot} {n : Nest} {l : Level} {top : Top} {outers : List Outer} (y : Lexeme) (a k : ℕ) → NestAt s r n.arrays n.done n.frames → TopAt r r1 top → OutersAt r1 r2 outers → LevelAt r2 (spot y a k ∷ t) l → AtIf s t (step_operand n l outers top y)
step_operand_at (number v) a k m p o e = at_after m p o e (bare_at numbered)
step_operand_at (name b) a k m p o e = at_after m p o e called_at
step_operand_at (sign signs.Minus) a k m p o (level f g h i) = at_operand m p o (level f g h (one_minus i))
step_operand_at (sign signs.OpenGroup) a k m p o e = at_operand m p (in_group o e) fresh_at
step_operand_at y a k m p o e = tt

close_block_at : {s t : List Spot} {ds : List Declaration} {d : List Statement} {frames : List Frame} (a k : ℕ) → NestAt s (spot (sign signs.CloseBlock) a k ∷ t) ds d frames → AtIf s t (close_block ds d frames)
close_block_at a k (outside e g) = tt
close_block_at a k (inside m (then_at e) g) = at_closed m e (block g)
close_block_at a k (inside m (else_at e f) g) = at_statement (with_statement m (chosen_else e f (block g)))
close_block_at a k (inside m (for_at e) g) = at_statement (with_statement m (looped e (block g)))
close_block_at a k (inside m (par_at e) g) = at_par_side m e (block g)
close_block_at a k (inside m (team_at e f) g) = at_phase_closed m e f (block g)

step_statement_at : {s t : List Spot} {n : Nest} (y : Lexeme) (a k : ℕ) → NestAt s (spot y a k ∷ t) n.arrays n.done n.frames → AtIf s t (step_statement n k y)
step_statement_at (name b) a k m = at_array m
step_statement_at (word words.For) a k m = at_header m (name_next for_word)
step_statement_at (word words.If) a k m = at_operand m condition_at outermost fresh_at
step_statement_at (word words.Par) a k m = at_par_begun m
step_statement_at (word words.Team) a k m = at_header m (name_next team_word)
step_statement_at (sign signs.CloseBlock) a k m = close_block_at a k m
step_statement_at y a k m = tt

step_array_at : {s r t : List Spot} {ds : List Declaration} {q : Position} (y : Lexeme) (a k : ℕ) → SpellsDeclarations s r ds → ArrayAt r (spot y a k ∷ t) q → AtIf s t (step_header q (nest ds [] []) y)
step_array_at (name b) a k d after_word = at_array_header d after_name
step_array_at y a k d after_word = tt
step_array_at (sign signs.OpenIndex) a k d after_name = at_array_header d after_open
step_array_at y a k d after_name = tt
step_array_at (number v) a k d after_open = at_array_header d after_length
step_array_at y a k d after_open = tt
step_array_at (sign signs.CloseIndex) a k d after_length = at_array_header d after_close
step_array_at y a k d after_length = tt
step_array_at (sign signs.Semicolon) a k d after_close = at_declaring (more_declarations d declaration)
step_array_at y a k d after_close = tt

step_header_at : {s r t : List Spot} {n : Nest} {q : Position} (y : Lexeme) (a k : ℕ) → NestAt s r n.arrays n.done n.frames → PositionAt r (spot y a k ∷ t) q → AtIf s t (step_header q n y)
step_header_at (name b) a k m (name_next e) = at_header m (in_next e)
step_header_at y a k m (name_next e) = tt
step_header_at (word words.In) a k m (in_next e) = at_header m (bound_next (low_at e))
step_header_at y a k m (in_next e) = tt
step_header_at (sign signs.Minus) a k m (bound_next e) = at_header m (number_next e)
step_header_at (number v) a k m (bound_next e) = at_header m (bounded_at e plain_bound)
step_header_at y a k m (bound_next e) = tt
step_header_at (number v) a k m (number_next e) = at_header m (bounded_at e negative_bound)
step_header_at y a k m (number_next e) = tt
step_header_at (sign signs.Range) a k m (dots_next e f) = at_header m (bound_next (high_at e f))
step_header_at y a k m (dots_next e f) = tt
step_header_at (sign signs.OpenBlock) a k m (range_done for_word f) = at_statement (inside m (for_at f) no_statement)
step_header_at y a k m (range_done for_word f) = tt
step_header_at (word words.By) a k m (range_done team_word f) = at_header m (members_next f)
step_header_at y a k m (range_done team_word f) = tt
step_header_at (number v) a k m (members_next f) = at_phase_open m (crew_at f) no_phase
step_header_at y a k m (members_next f) = tt

step_at : {s t : List Spot} {m : Mode} {n : Nest} (y : Lexeme) (a k : ℕ) → At s (spot y a k ∷ t) m n → AtIf s t (step m n k y)
step_at (word words.Array) a k (at_declaring d) = at_array_header d after_word
step_at y a k (at_declaring d) = step_statement_at y a k (outside {d = []} d no_statement)
step_at y a k (at_array_header d e) = step_array_at y a k d e
step_at y a k (at_header m e) = step_header_at y a k m e
step_at y a k (at_statement m) = step_statement_at y a k m
step_at (sign signs.OpenIndex) a k (at_array m) = at_operand m target_at outermost fresh_at
step_at y a k (at_array m) = tt
step_at y a k (at_operand m p o e) = step_operand_at y a k m p o e
step_at y a k (at_after m p o e d) = step_after_at y a k m p o e d
step_at (sign signs.Assign) a k (at_equals m e) = at_operand m (value_at e) outermost fresh_at
step_at y a k (at_equals m e) = tt
step_at (word words.Else) a k (at_closed m e f) = at_otherwise m e f
step_at y a k (at_closed m e f) = step_statement_at y a k (with_statement m (chosen e f))
step_at (sign signs.OpenBlock) a k (at_otherwise m e f) = at_statement (inside m (else_at e f) no_statement)
step_at y a k (at_otherwise m e f) = tt
step_at (sign signs.OpenBlock) a k (at_par_begun m) = at_par_open m
step_at y a k (at_par_begun m) = tt
step_at (sign signs.OpenBlock) a k (at_par_open m) = at_statement (inside m (par_at no_side) no_statement)
step_at y a k (at_par_open m) = tt
step_at (sign signs.OpenBlock) a k (at_par_side m e f) = at_statement (inside m (par_at (more_sides e f)) no_statement)
step_at (sign signs.CloseBlock) a k (at_par_side m e f) = at_statement (with_statement m (parallel (all_sides e f)))
step_at y a k (at_par_side m e f) = tt
step_at (sign signs.OpenBlock) a k (at_phase_open m e f) = at_statement (inside m (team_at e f) no_statement)
step_at y a k (at_phase_open m e f) = tt
step_at (word words.Barrier) a k (at_phase_closed m e f g) = at_phase_open m e (more_phases f g)
step_at y a k (at_phase_closed m e f g) = step_statement_at y a k (with_statement m (whole_team _ e (all_phases f g)))

end_statement : {s : List Spot} (ds : List Declaration) (d : List Statement) (frames : List Frame) (p : ProgramTree) → NestAt s [] ds d frames → at_end statement ds d frames ≡ Ok p → SpellsProgram s p
end_statement {s} ds d frames p (outside {r} e g) h =
    let q : program ds d ≡ p = cc in
    subst (λ q. SpellsProgram s q) q (record { body = r; declares = e; does = g })
end_statement ds d frames p (inside m b g) h = cc

end_closed : {s : List Spot} (line : ℕ) (x : Expression) (q : Sequence) (ds : List Declaration) (d : List Statement) (frames : List Frame) (p : ProgramTree) → NestAt s [] ds (d ++ If line x q ended ∷ []) frames → at_end (closed line x q) ds d frames ≡ Ok p → SpellsProgram s p
end_closed line x q ds d [] p m h = end_statement ds (d ++ If line x q ended ∷ []) [] p m h
end_closed line x q ds d (f ∷ frames) p m h = cc

end_phase : {s : List Spot} (c : Crew) (ps : List Sequence) (q : Sequence) (ds : List Declaration) (d : List Statement) (frames : List Frame) (p : ProgramTree) → NestAt s [] ds (d ++ team_of c (ps ++ q ∷ []) ∷ []) frames → at_end (phase_closed c ps q) ds d frames ≡ Ok p → SpellsProgram s p
end_phase c ps q ds d [] p m h = end_statement ds (d ++ team_of c (ps ++ q ∷ []) ∷ []) [] p m h
end_phase c ps q ds d (f ∷ frames) p m h = cc

at_the_end : {s : List Spot} {m : Mode} {n : Nest} (p : ProgramTree) → At s [] m n → at_end m n.arrays n.done n.frames ≡ Ok p → SpellsProgram s p
at_the_end p (at_declaring {ds} d) h = end_statement ds [] [] p (outside {d = []} d no_statement) h
at_the_end {n} p (at_statement m) h = end_statement n.arrays n.done n.frames p m h
at_the_end {n} p (at_closed {x} {p = q} {k} m e f) h = end_closed k x q n.arrays n.done n.frames p (with_statement m (chosen e f)) h
at_the_end {n} p (at_phase_closed {c} {ps} {p = q} m e f g) h = end_phase c ps q n.arrays n.done n.frames p (with_statement m (whole_team _ e (all_phases f g))) h
at_the_end p (at_array_header d e) h = cc
at_the_end p (at_header m e) h = cc
at_the_end p (at_array m) h = cc
at_the_end p (at_operand m a b c) h = cc
at_the_end p (at_after m a b c d) h = cc
at_the_end p (at_equals m e) h = cc
at_the_end p (at_otherwise m e f) h = cc
at_the_end p (at_par_begun m) h = cc
at_the_end p (at_par_open m) h = cc
at_the_end p (at_par_side m e f) h = cc
at_the_end p (at_phase_open m e f) h = cc

continued_sound : {s t : List Spot} (here : List Spot) (go : State → Result ProgramTree (List Spot)) (p : ProgramTree) (o : Option State) → AtIf s t o → continued o go here ≡ Ok p → ((st : State) → At s t st.mode st.nest → go st ≡ Ok p → SpellsProgram s p) → SpellsProgram s p
continued_sound here go p None a h f = cc
continued_sound here go p (Some st) a h f = f st a h

run_sound : {s : List Spot} {m : Mode} {n : Nest} (ts : List Spot) (p : ProgramTree) → At s ts m n → run m n ts ≡ Ok p → SpellsProgram s p
run_sound [] p a h = at_the_end p a h
run_sound {m} {n} (t ∷ ts) p a h = continued_sound (t ∷ ts) (λ s. run s.mode s.nest ts) p (step m n t.line t.lexeme) (step_at t.lexeme t.at t.line a) h (λ st b k. run_sound ts p b k)

-- A program that is read is spelled.
pub sound : (tokens : List Spot) (p : ProgramTree) → parse_of tokens ≡ Ok p → SpellsProgram tokens p
sound tokens p h = run_sound tokens p (at_declaring no_declaration) h

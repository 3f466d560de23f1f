-- A machine that reads tokens one after another and keeps the unfinished parts in its state. The machine reads exactly the
-- programs that the grammar spells, and finds the first token with which no program goes on.
use Rattle.std.specs.Prelude.{ℕ, zero, suc, ℤ, pos, neg_ℤ, List, [], ◌∷◌, ◌++◌, Option, Some, None, Result, Ok, Err}
use Rattle.array_tokens.specs.Lexemes.{Lexeme, name, number, word, sign, Spot}
use Rattle.array_tokens.specs.declared.token.Word.TheVariants as words
use Rattle.array_tokens.specs.declared.token.Sign.TheVariants as signs
use Rattle.array_tree.specs.Trees.{Expression, Number, Var, Read, Neg, Binary, Statement, Assign, For, If, Par, Team, Sequence, ended, sequence, sequences, Declaration, ProgramTree}
use Rattle.array_tree.specs.declared.tree.Op.{Op}
use Rattle.array_lang.specs.Grammar.{operator_of}
use Rattle.array_lang.specs.declared.operator.Strength.{Strength}
use Rattle.array_lang.specs.declared.operator.Strength.TheVariants.{Comparison as comparison, Addition as addition, Product as product}

-- A left operand and its operator, which wait for a right operand.
abbrev pub Left : Type 0
Left = Option (Expression × Op)

-- An unfinished expression: the left operand that waits at each strength, and the number of minus signs before the operand.
pub record Level : Type 0 where
  pub compare : Left
  pub sum : Left
  pub term : Left
  pub minus : ℕ

-- An expression of which no token is read.
abbrev pub fresh : Level
fresh = record { compare = None; sum = None; term = None; minus = 0 }

-- The expression x, joined to the waiting left side.
abbrev pub joined : Left → Expression → Expression
joined None x = x
joined (Some w) x = Binary w.1 w.0 x

-- The expression x under n minus signs.
abbrev pub negs : ℕ → Expression → Expression
negs zero x = x
negs (suc n) x = negs n (Neg x)

-- The term that ends with the operand x.
abbrev pub term_value : Level → Expression → Expression
term_value l x = joined l.term (negs l.minus x)

-- What contains an inner expression: a group or an index, with the unfinished expression around.
pub data Outer : Type 0 where
  group : (l : Level) → Outer
  index : (b : List ℕ) (l : Level) → Outer

-- The use of an outermost expression: the index of a target, the value of an assignment, or a condition.
pub data Top : Type 0 where
  target : (line : ℕ) (b : List ℕ) → Top
  value : (line : ℕ) (b : List ℕ) (i : Expression) → Top
  condition : (line : ℕ) → Top

-- An operand. After a name, an index may follow.
pub data Operand : Type 0 where
  bare : (x : Expression) → Operand
  called : (b : List ℕ) → Operand

-- The expression of an operand.
abbrev pub operand_value : Operand → Expression
operand_value (bare x) = x
operand_value (called b) = Var b

-- The two statements that have a range.
pub data Ranged : Type 0 where
  looping : Ranged
  teaming : Ranged

-- The bound of a range that is read.
pub data Slot : Type 0 where
  low_of : (r : Ranged) (line : ℕ) (b : List ℕ) → Slot
  high_of : (r : Ranged) (line : ℕ) (b : List ℕ) (low : ℤ) → Slot

-- A team without its phases.
pub record Crew : Type 0 where
  pub line : ℕ
  pub var : List ℕ
  pub low : ℤ
  pub high : ℤ
  pub members : ℤ

-- The team with these phases.
abbrev pub team_of : Crew → List Sequence → Statement
team_of c ps = Team c.line c.var c.low c.high c.members (sequences ps)

-- A position inside a declaration, or before the first block of a `for` or a `team`, named by the token that comes next.
pub data Position : Type 0 where
  array_name : (line : ℕ) → Position
  array_open : (line : ℕ) (b : List ℕ) → Position
  array_length : (line : ℕ) (b : List ℕ) → Position
  array_close : (line : ℕ) (b : List ℕ) (v : ℤ) → Position
  array_end : (line : ℕ) (b : List ℕ) (v : ℤ) → Position
  range_name : (r : Ranged) (line : ℕ) → Position
  range_in : (r : Ranged) (line : ℕ) (b : List ℕ) → Position
  bound : (s : Slot) → Position
  bound_number : (s : Slot) → Position
  range_dots : (r : Ranged) (line : ℕ) (b : List ℕ) (low : ℤ) → Position
  range_over : (r : Ranged) (line : ℕ) (b : List ℕ) (low high : ℤ) → Position
  team_members : (line : ℕ) (b : List ℕ) (low high : ℤ) → Position

-- What the machine expects next. After a closed block of a choice or of a team, `else` or `barrier` may follow, or a token that
-- may follow the statement.
pub data Mode : Type 0 where
  declaring : Mode
  statement : Mode
  header : (at : Position) → Mode
  operand : (l : Level) (outers : List Outer) (top : Top) → Mode
  after : (x : Operand) (l : Level) (outers : List Outer) (top : Top) → Mode
  array : (line : ℕ) (b : List ℕ) → Mode
  equals : (line : ℕ) (b : List ℕ) (i : Expression) → Mode
  closed : (line : ℕ) (x : Expression) (p : Sequence) → Mode
  otherwise : (line : ℕ) (x : Expression) (p : Sequence) → Mode
  par_begun : (line : ℕ) → Mode
  par_open : (line : ℕ) → Mode
  par_side : (line : ℕ) (ps : List Sequence) (p : Sequence) → Mode
  phase_open : (c : Crew) (ps : List Sequence) → Mode
  phase_closed : (c : Crew) (ps : List Sequence) (p : Sequence) → Mode

-- The statement that a block is a part of, as far as the statement is read.
pub data Branch : Type 0 where
  then_side : (line : ℕ) (x : Expression) → Branch
  else_side : (line : ℕ) (x : Expression) (p : Sequence) → Branch
  in_for : (line : ℕ) (b : List ℕ) (low high : ℤ) → Branch
  in_par : (line : ℕ) (ps : List Sequence) → Branch
  in_team : (c : Crew) (ps : List Sequence) → Branch

-- A block around the current one, with the statements read before the current block.
pub record Frame : Type 0 where
  pub before : List Statement
  pub branch : Branch

-- The declarations, the statements of the current block so far, and the blocks around it.
pub record Nest : Type 0 where
  pub arrays : List Declaration
  pub done : List Statement
  pub frames : List Frame

-- The nest of these parts.
abbrev pub nest : List Declaration → List Statement → List Frame → Nest
nest ds d f = record { arrays = ds; done = d; frames = f }

-- The machine's state: its mode and its nest.
pub record State : Type 0 where
  pub mode : Mode
  pub nest : Nest

-- The state of these parts.
abbrev pub state : Mode → Nest → State
state m n = record { mode = m; nest = n }

-- The nest with one more declaration.
abbrev pub with_array : Nest → Declaration → Nest
with_array n d = nest (n.arrays ++ d ∷ []) n.done n.frames

-- The nest with one more statement.
abbrev pub with_done : Nest → Statement → Nest
with_done n c = nest n.arrays (n.done ++ c ∷ []) n.frames

-- The state after a block has opened.
abbrev pub opened : Nest → Branch → State
opened n b = state statement (nest n.arrays [] (record { before = n.done; branch = b } ∷ n.frames))

-- The state after a token that ends an outermost expression; none if another token comes.
abbrev pub ends : Nest → Expression → Top → Lexeme → Option State
ends n x (target line b) (sign signs.CloseIndex) = Some (state (equals line b x) n)
ends n x (value line b i) (sign signs.Semicolon) =
    Some (state statement (with_done n (Assign line b i x)))
ends n x (condition line) (sign signs.OpenBlock) = Some (opened n (then_side line x))
ends n x top l = None

-- The state after a token that closes a group or an index, or ends the outermost expression; none if another token comes.
abbrev pub closes : Nest → Expression → List Outer → Top → Lexeme → Option State
closes n x [] top l = ends n x top l
closes n x (group o ∷ outers) top (sign signs.CloseGroup) =
    Some (state (after (bare x) o outers top) n)
closes n x (index b o ∷ outers) top (sign signs.CloseIndex) =
    Some (state (after (bare (Read b x)) o outers top) n)
closes n x (o ∷ outers) top l = None

-- The state after a token that follows the term x, by the operator that the token is; the operands c and s wait for x.
abbrev pub goes_on : Nest → Left → Left → Expression → List Outer → Top → Lexeme
    → Option (Strength × Op) → Option State
goes_on n c s x outers top l (Some (product, op)) =
    Some (state (operand (record {
      compare = c;
      sum = s;
      term = Some (x, op);
      minus = 0;
    }) outers top) n)
goes_on n c s x outers top l (Some (addition, op)) =
    Some (state (operand (record {
      compare = c;
      sum = Some (joined s x, op);
      term = None;
      minus = 0;
    }) outers top) n)
goes_on n None s x outers top l (Some (comparison, op)) =
    Some (state (operand (record {
      compare = Some (joined s x, op);
      sum = None;
      term = None;
      minus = 0;
    }) outers top) n)
goes_on n (Some c) s x outers top l (Some (comparison, op)) = None
goes_on n c s x outers top l None = closes n (joined c (joined s x)) outers top l

-- The state after a token that follows an operand.
abbrev pub step_after : Nest → Operand → Level → List Outer → Top → Lexeme → Option State
step_after n (called b) l outers top (sign signs.OpenIndex) =
    Some (state (operand fresh (index b l ∷ outers) top) n)
step_after n x l outers top t =
    goes_on n l.compare l.sum (term_value l (operand_value x)) outers top t (operator_of t)

-- The state after a token where an operand begins.
abbrev pub step_operand : Nest → Level → List Outer → Top → Lexeme → Option State
step_operand n l outers top (number v) = Some (state (after (bare (Number (pos v))) l outers top) n)
step_operand n l outers top (name b) = Some (state (after (called b) l outers top) n)
step_operand n l outers top (sign signs.Minus) =
    Some (state (operand (record {
      compare = l.compare;
      sum = l.sum;
      term = l.term;
      minus = suc l.minus;
    }) outers top) n)
step_operand n l outers top (sign signs.OpenGroup) =
    Some (state (operand fresh (group l ∷ outers) top) n)
step_operand n l outers top t = None

-- The state after a closed block.
abbrev pub close_into : Nest → Branch → Sequence → State
close_into n (then_side line x) p = state (closed line x p) n
close_into n (else_side line x q) p = state statement (with_done n (If line x q p))
close_into n (in_for line b low high) p = state statement (with_done n (For line b low high p))
close_into n (in_par line ps) p = state (par_side line ps p) n
close_into n (in_team c ps) p = state (phase_closed c ps p) n

-- The state after the `}` of a block.
abbrev pub close_block : List Declaration → List Statement → List Frame → Option State
close_block ds done [] = None
close_block ds done (f ∷ frames) =
    Some (close_into (nest ds f.before frames) f.branch (sequence done))

-- The state after a token that begins a statement.
abbrev pub step_statement : Nest → ℕ → Lexeme → Option State
step_statement n line (name b) = Some (state (array line b) n)
step_statement n line (word words.For) = Some (state (header (range_name looping line)) n)
step_statement n line (word words.If) = Some (state (operand fresh [] (condition line)) n)
step_statement n line (word words.Par) = Some (state (par_begun line) n)
step_statement n line (word words.Team) = Some (state (header (range_name teaming line)) n)
step_statement n line (sign signs.CloseBlock) = close_block n.arrays n.done n.frames
step_statement n line t = None

-- The position after a bound.
abbrev pub bounded : Slot → ℤ → Position
bounded (low_of r line b) v = range_dots r line b v
bounded (high_of r line b low) v = range_over r line b low v

-- The state after a token of a declaration's or a statement's head.
abbrev pub step_header : Position → Nest → Lexeme → Option State
step_header (array_name line) n (name b) = Some (state (header (array_open line b)) n)
step_header (array_open line b) n (sign signs.OpenIndex) =
    Some (state (header (array_length line b)) n)
step_header (array_length line b) n (number v) = Some (state (header (array_close line b (pos v))) n)
step_header (array_close line b v) n (sign signs.CloseIndex) =
    Some (state (header (array_end line b v)) n)
step_header (array_end line b v) n (sign signs.Semicolon) =
    Some (state declaring (with_array n (record { line = line; name = b; length = v })))
step_header (range_name r line) n (name b) = Some (state (header (range_in r line b)) n)
step_header (range_in r line b) n (word words.In) =
    Some (state (header (bound (low_of r line b))) n)
step_header (bound s) n (sign signs.Minus) = Some (state (header (bound_number s)) n)
step_header (bound s) n (number v) = Some (state (header (bounded s (pos v))) n)
step_header (bound_number s) n (number v) = Some (state (header (bounded s (neg_ℤ (pos v)))) n)
step_header (range_dots r line b low) n (sign signs.Range) =
    Some (state (header (bound (high_of r line b low))) n)
step_header (range_over looping line b low high) n (sign signs.OpenBlock) =
    Some (opened n (in_for line b low high))
step_header (range_over teaming line b low high) n (word words.By) =
    Some (state (header (team_members line b low high)) n)
step_header (team_members line b low high) n (number v) =
    Some (state (phase_open (record {
      line = line;
      var = b;
      low = low;
      high = high;
      members = pos v;
    }) []) n)
step_header at n t = None

-- The state after a token, in any mode.
abbrev pub step : Mode → Nest → ℕ → Lexeme → Option State
step declaring n line (word words.Array) = Some (state (header (array_name line)) n)
step declaring n line t = step_statement n line t
step statement n line t = step_statement n line t
step (header at) n line t = step_header at n t
step (operand l outers top) n line t = step_operand n l outers top t
step (after x l outers top) n line t = step_after n x l outers top t
step (array at b) n line (sign signs.OpenIndex) = Some (state (operand fresh [] (target at b)) n)
step (array at b) n line t = None
step (equals at b i) n line (sign signs.Assign) = Some (state (operand fresh [] (value at b i)) n)
step (equals at b i) n line t = None
step (closed at x p) n line (word words.Else) = Some (state (otherwise at x p) n)
step (closed at x p) n line t = step_statement (with_done n (If at x p ended)) line t
step (otherwise at x p) n line (sign signs.OpenBlock) = Some (opened n (else_side at x p))
step (otherwise at x p) n line t = None
step (par_begun at) n line (sign signs.OpenBlock) = Some (state (par_open at) n)
step (par_begun at) n line t = None
step (par_open at) n line (sign signs.OpenBlock) = Some (opened n (in_par at []))
step (par_open at) n line t = None
step (par_side at ps p) n line (sign signs.OpenBlock) = Some (opened n (in_par at (ps ++ p ∷ [])))
step (par_side at ps p) n line (sign signs.CloseBlock) =
    Some (state statement (with_done n (Par at (sequences (ps ++ p ∷ [])))))
step (par_side at ps p) n line t = None
step (phase_open c ps) n line (sign signs.OpenBlock) = Some (opened n (in_team c ps))
step (phase_open c ps) n line t = None
step (phase_closed c ps p) n line (word words.Barrier) =
    Some (state (phase_open c (ps ++ p ∷ [])) n)
step (phase_closed c ps p) n line t = step_statement (with_done n (team_of c (ps ++ p ∷ []))) line t

-- The program of these declarations and statements.
abbrev pub program : List Declaration → List Statement → ProgramTree
program ds done = record { arrays = ds; body = sequence done }

-- The program, if the tokens end here.
abbrev pub at_end : Mode → List Declaration → List Statement → List Frame
    → Result ProgramTree (List Spot)
at_end declaring ds done [] = Ok (program ds done)
at_end statement ds done [] = Ok (program ds done)
at_end (closed line x p) ds done [] = Ok (program ds (done ++ If line x p ended ∷ []))
at_end (phase_closed c ps p) ds done [] = Ok (program ds (done ++ team_of c (ps ++ p ∷ []) ∷ []))
at_end m ds done frames = Err []

-- The result from the next state on, or an error at this token.
abbrev pub continued : Option State → (State → Result ProgramTree (List Spot)) → List Spot
    → Result ProgramTree (List Spot)
continued None go here = Err here
continued (Some s) go here = go s

-- The program, or the tokens from the first with which no program goes on.
abbrev pub run : Mode → Nest → List Spot → Result ProgramTree (List Spot)
run m n [] = at_end m n.arrays n.done n.frames
run m n (t ∷ ts) = continued (step m n t.line t.lexeme) (λ s. run s.mode s.nest ts) (t ∷ ts)

-- The nest before the first token.
abbrev pub top_nest : Nest
top_nest = nest [] [] []

-- The result of the machine over all tokens.
abbrev pub parse_of : List Spot → Result ProgramTree (List Spot)
parse_of tokens = run declaring top_nest tokens

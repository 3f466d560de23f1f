-- What each function of the parser does to a run of the machine. A function that reads a part takes every run that waits for
-- the part from the tokens before the part to the tokens after it. Where the function stops, every such run stops.
use Rattle.std.specs.Prelude.{◌≡◌, ◌≢◌, Bool, true, false, ℕ, ◌+◌, ◌≤◌, ℤ, List, [], ◌∷◌, ◌++◌, length, map, Option, Some, None, Result, Ok, Err, IfOk, Vec}
use Rattle.std.specs.Global.{Global}
use Rattle.array_tokens.specs.Lexemes.{Lexeme, name, word, Spot, spots}
use Rattle.array_tokens.specs.declared.token.Word.TheVariants as words
use Rattle.array_tree.specs.Trees.{Expression, expression_of, Statement, Assign, If, Sequence, Declaration, declaration_of, statement_of, sequence_of, ProgramTree, program_of}
use Rattle.array_tree.specs.declared.tree.Expr.{Expr}
use Rattle.array_tree.specs.declared.tree.Stmt.{Stmt}
use Rattle.array_tree.specs.declared.tree.Block.{Block}
use Rattle.array_tree.specs.declared.tree.ArrayDecl.{ArrayDecl}
use Rattle.array_tree.specs.declared.tree.Program.{Program}
use Rattle.array_lang.specs.Grammar.{SpellsProgram, Begins}
use Rattle.array_lang.specs.Parsing.FirstToken.{pull, head_of, Parsed}
use Rattle.array_lang.specs.Parsing.Machine.{Left, Level, fresh, Outer, Top, condition, value, bare, called, looping, teaming, bounded, Crew, team_of, array_name, array_open, range_name, range_over, bound, declaring, header, operand, after, statement, array, closed, par_begun, par_side, phase_open, phase_closed, Mode, Nest, nest, State, state, with_array, with_done, opened, close_into, run, parse_of}
use Rattle.array_lang.specs.Spelled.{HasTokenFault}
use Rattle.array_lang.specs.declared.fault.SyntaxFault.{SyntaxFault}
use Rattle.array_lang.specs.declared.fault.SyntaxFault.TheVariants as faults
use Rattle.array_lang.specs.declared.stop.Stop.{Stop}
use Rattle.array_lang.specs.declared.stop.Stop.TheVariants.{Memory, Unexpected}
use Rattle.array_lang.specs.declared.ranges.LoopRange.{LoopRange}
use Rattle.array_lang.specs.declared.ranges.TeamHead.{TeamHead}

-- The result of the machine from a state on.
abbrev pub run_from : State → List Spot → Result ProgramTree (List Spot)
run_from st s = run st.mode st.nest s

-- A function that stops at a rest stops where the run does. For an allocation failure nothing is stated.
abbrev pub Stops : Stop → (List Spot → Type 0) → Type 0
Stops Memory at = Unit {0}
Stops (Unexpected rest) at = at (spots rest.now)

-- A reading function takes each run that waits for a part at s to the state behind the part at t, which is shorter by at least
-- as many tokens as the part has. Where the function stops, each such run stops. There is a pair of definitions for each number
-- of arguments that select the run.

-- The machine goes from s to t, for each argument that selects a run.
pub record Takes1 {A : Type 0} (least : ℕ) (waits goes_on : A → State)
    (s t : List Spot) : Type 0 where
  pub shorter : length t + least ≤ length s
  pub runs : (a : A) → run_from (waits a) s ≡ run_from (goes_on a) t

-- The result of a function that reads a part, for each argument that selects a run.
abbrev pub Reads1 : {A X : Type 0} → ℕ → (A → State) → (X → A → State) → List Spot
    → Parsed X → Type 0
Reads1 least waits goes_on s (Ok r) = Takes1 least waits (goes_on r.0) s (spots r.1.now)
Reads1 {A} least waits goes_on s (Err e) =
    Stops e (λ rest. (a : A) → run_from (waits a) s ≡ Err rest)

-- The machine goes from s to t, for each two arguments that select a run.
pub record Takes2 {A B : Type 0} (least : ℕ) (waits goes_on : A → B → State)
    (s t : List Spot) : Type 0 where
  pub shorter : length t + least ≤ length s
  pub runs : (a : A) (b : B) → run_from (waits a b) s ≡ run_from (goes_on a b) t

-- The result of a function that reads a part, for each two arguments that select a run.
abbrev pub Reads2 : {A B X : Type 0} → ℕ → (A → B → State) → (X → A → B → State) → List Spot
    → Parsed X → Type 0
Reads2 least waits goes_on s (Ok r) = Takes2 least waits (goes_on r.0) s (spots r.1.now)
Reads2 {A} {B} least waits goes_on s (Err e) =
    Stops e (λ rest. (a : A) (b : B) → run_from (waits a b) s ≡ Err rest)

-- The machine goes from s to t, for each three arguments that select a run.
pub record Takes3 {A B C : Type 0} (least : ℕ) (waits goes_on : A → B → C → State)
    (s t : List Spot) : Type 0 where
  pub shorter : length t + least ≤ length s
  pub runs : (a : A) (b : B) (c : C) → run_from (waits a b c) s ≡ run_from (goes_on a b c) t

-- The result of a function that reads a part, for each three arguments that select a run.
abbrev pub Reads3 : {A B C X : Type 0} → ℕ → (A → B → C → State) → (X → A → B → C → State)
    → List Spot → Parsed X → Type 0
Reads3 least waits goes_on s (Ok r) = Takes3 least waits (goes_on r.0) s (spots r.1.now)
Reads3 {A} {B} {C} least waits goes_on s (Err e) =
    Stops e (λ rest. (a : A) (b : B) (c : C) → run_from (waits a b c) s ≡ Err rest)

-- The machine goes from s to t, for each four arguments that select a run.
pub record Takes4 {A B C D : Type 0} (least : ℕ) (waits goes_on : A → B → C → D → State)
    (s t : List Spot) : Type 0 where
  pub shorter : length t + least ≤ length s
  pub runs : (a : A) (b : B) (c : C) (d : D)
      → run_from (waits a b c d) s ≡ run_from (goes_on a b c d) t

-- The result of a function that reads a part, for each four arguments that select a run.
abbrev pub Reads4 : {A B C D X : Type 0} → ℕ → (A → B → C → D → State) → (X → A → B → C → D → State)
    → List Spot → Parsed X → Type 0
Reads4 least waits goes_on s (Ok r) = Takes4 least waits (goes_on r.0) s (spots r.1.now)
Reads4 {A} {B} {C} {D} least waits goes_on s (Err e) =
    Stops e (λ rest. (a : A) (b : B) (c : C) (d : D) → run_from (waits a b c d) s ≡ Err rest)

-- The machine goes from s to t, for each five arguments that select a run.
pub record Takes5 {A B C D E : Type 0} (least : ℕ) (waits goes_on : A → B → C → D → E → State)
    (s t : List Spot) : Type 0 where
  pub shorter : length t + least ≤ length s
  pub runs : (a : A) (b : B) (c : C) (d : D) (e : E)
      → run_from (waits a b c d e) s ≡ run_from (goes_on a b c d e) t

-- The result of a function that reads a part, for each five arguments that select a run.
abbrev pub Reads5 : {A B C D E X : Type 0} → ℕ → (A → B → C → D → E → State)
    → (X → A → B → C → D → E → State) → List Spot → Parsed X → Type 0
Reads5 least waits goes_on s (Ok r) = Takes5 least waits (goes_on r.0) s (spots r.1.now)
Reads5 {A} {B} {C} {D} {E} least waits goes_on s (Err e) =
    Stops e (λ rest. (a : A) (b : B) (c : C) (d : D) (e : E)
    → run_from (waits a b c d e) s ≡ Err rest)

-- The token after the part that was read binds to the part with strength k at most.
abbrev pub IsFollowed : {X : Type 0} → ℕ → Parsed X → Type 0
IsFollowed k (Ok r) = pull (spots r.1.now) ≤ k
IsFollowed k (Err e) = Unit {0}

-- The state before an operand.
abbrev pub before_operand : Nest → Level → List Outer → Top → State
before_operand n l outers top = state (operand l outers top) n

-- The state after an operand.
abbrev pub behind_operand : Expression → Nest → Level → List Outer → Top → State
behind_operand x n l outers top = state (after (bare x) l outers top) n

-- The result of reading a factor.
abbrev pub IsFactor : List Spot → Parsed Expr → Type 0
IsFactor s r = Reads4 1 before_operand (λ (x : Expr). behind_operand (expression_of x)) s r
    × IsFollowed 3 r

-- The result of reading a factor whose name was read before the tokens.
abbrev pub IsAfterName : List ℕ → List Spot → Parsed Expr → Type 0
IsAfterName b s r = Reads4 0 (λ n l outers top. state (after (called b) l outers top) n)
    (λ (x : Expr). behind_operand (expression_of x)) s r × IsFollowed 3 r

-- An unfinished expression with the operands that wait for a sum and for a term.
abbrev pub waiting : Left → Left → Level
waiting c z = record { compare = c; sum = z; term = None; minus = 0 }

-- The state before a term.
abbrev pub before_term : Nest → Left → Left → List Outer → Top → State
before_term n c z outers top = before_operand n (waiting c z) outers top

-- The state after a term.
abbrev pub behind_term : Expression → Nest → Left → Left → List Outer → Top → State
behind_term x n c z outers top = behind_operand x n (waiting c z) outers top

-- The tokens from s to t are the factors of a term so far, or all its factors.
abbrev pub TakesTerm : ℕ → List Spot → List Spot → Expression → Type 0
TakesTerm k s t x = Takes5 1 before_term (behind_term x) s t × (pull t ≤ k)

-- The result of reading a term.
abbrev pub IsTerm : List Spot → Parsed Expr → Type 0
IsTerm s r = Reads5 1 before_term (λ (x : Expr). behind_term (expression_of x)) s r × IsFollowed 2 r

-- The state before a sum.
abbrev pub before_sum : Nest → Left → List Outer → Top → State
before_sum n c outers top = before_operand n (waiting c None) outers top

-- The state after a sum.
abbrev pub behind_sum : Expression → Nest → Left → List Outer → Top → State
behind_sum x n c outers top = behind_operand x n (waiting c None) outers top

-- The tokens from s to t are the terms of a sum so far, or all its terms.
abbrev pub TakesSum : ℕ → List Spot → List Spot → Expression → Type 0
TakesSum k s t x = Takes4 1 before_sum (behind_sum x) s t × (pull t ≤ k)

-- The result of reading a sum.
abbrev pub IsSum : List Spot → Parsed Expr → Type 0
IsSum s r = Reads4 1 before_sum (λ (x : Expr). behind_sum (expression_of x)) s r × IsFollowed 1 r

-- The result of reading an expression.
abbrev pub IsExpr : List Spot → Parsed Expr → Type 0
IsExpr s r = Reads3 1 (λ n outers top. before_operand n fresh outers top)
    (λ (x : Expr) n outers top. behind_operand (expression_of x) n fresh outers top) s r
    × IsFollowed 0 r

-- The result of reading the index of an assignment's target, up to the value.
abbrev pub IsTarget : List Spot → Parsed Expr → Type 0
IsTarget s r = Reads3 1 (λ n line b. state (array line b) n) (λ (x : Expr) n line b.
    state (operand fresh [] (value line b (expression_of x))) n) s r

-- The result of reading the value of an assignment, up to the assignment's end.
abbrev pub IsValue : List Spot → Parsed Expr → Type 0
IsValue s r = Reads4 1 (λ n line b i. state (operand fresh [] (value line b i)) n)
    (λ (x : Expr) n line b i. state statement (with_done n (Assign line b i (expression_of x)))) s r

-- The result of reading a bound.
abbrev pub IsBound : List Spot → Parsed ℤ → Type 0
IsBound s r = Reads2 1 (λ n slot. state (header (bound slot)) n)
    (λ v n slot. state (header (bounded slot v)) n) s r

-- The result of reading a range.
abbrev pub IsRange : List Spot → Parsed LoopRange → Type 0
IsRange s r = Reads3 1 (λ n of line. state (header (range_name of line)) n)
    (λ (x : LoopRange) n of line. state (header (range_over of line x.var.now x.low x.high)) n) s r

-- The team with this head, without its phases.
abbrev pub crew_of : ℕ → TeamHead → Crew
crew_of line h = record {
  line = line;
  var = h.range.var.now;
  low = h.range.low;
  high = h.range.high;
  members = h.members;
}

-- The result of reading the head of a team.
abbrev pub IsHead : List Spot → Parsed TeamHead → Type 0
IsHead s r = Reads2 1 (λ n line. state (header (range_name teaming line)) n)
    (λ h n line. state (phase_open (crew_of line h) []) n) s r

-- The state after a statement.
abbrev pub behind : Statement → Nest → State
behind c n = state statement (with_done n c)

-- The result of reading the rest of a statement, whose first tokens lead to this mode.
abbrev pub IsRestOf : Mode → List Spot → Parsed Stmt → Type 0
IsRestOf m s r = Reads1 1 (state m) (λ (c : Stmt). behind (statement_of c)) s r

-- The result of reading a block whose `{` is read.
abbrev pub IsBlock : List Spot → Parsed Block → Type 0
IsBlock s r = Reads2 1 opened (λ (p : Block) n b. close_into n b (sequence_of p)) s r

-- The result of reading what follows the first block of a choice.
abbrev pub IsElseBlock : List Spot → Parsed Block → Type 0
IsElseBlock s r = Reads4 0 (λ n line x p. state (closed line x p) n) (λ (q : Block) n line x p.
    behind (If line x p (sequence_of q)) n) s r

-- The result of reading the rest of an assignment.
abbrev pub IsAssign : ℕ → List ℕ → List Spot → Parsed Stmt → Type 0
IsAssign line b s r = IsRestOf (array line b) s r

-- The result of reading the rest of an `if`.
abbrev pub IsChoice : ℕ → List Spot → Parsed Stmt → Type 0
IsChoice line s r = IsRestOf (operand fresh [] (condition line)) s r

-- The result of reading the rest of a `for`.
abbrev pub IsLoop : ℕ → List Spot → Parsed Stmt → Type 0
IsLoop line s r = IsRestOf (header (range_name looping line)) s r

-- The result of reading the rest of a `par`.
abbrev pub IsPar : ℕ → List Spot → Parsed Stmt → Type 0
IsPar line s r = IsRestOf (par_begun line) s r

-- The result of reading the rest of a `team`.
abbrev pub IsTeam : ℕ → List Spot → Parsed Stmt → Type 0
IsTeam line s r = IsRestOf (header (range_name teaming line)) s r

-- The sequences of blocks.
abbrev pub sequence_list : List Block → List Sequence
sequence_list blocks = map sequence_of blocks

-- The tokens from s to t are the branches of a `par` so far, of which the last is q.
pub record TakesBranches (line : ℕ) (s t : List Spot) (all : List Sequence) : Type 0 where
  pub ps : List Sequence
  pub q : Sequence
  pub whole : all ≡ ps ++ q ∷ []
  pub takes : Takes1 1 (state (par_begun line)) (state (par_side line ps q)) s t

-- The state before the phases of a team.
abbrev pub before_phases : Nest → Crew → State
before_phases n c = state (phase_open c []) n

-- The tokens from s to t are the phases of a team so far, of which the last is q.
pub record TakesPhases (s t : List Spot) (all : List Sequence) : Type 0 where
  pub ps : List Sequence
  pub q : Sequence
  pub whole : all ≡ ps ++ q ∷ []
  pub takes : Takes2 1 before_phases (λ n c. state (phase_closed c ps q) n) s t

-- The result of reading the phases of a team.
abbrev pub IsPhases : List Spot → Parsed (Vec Block Global) → Type 0
IsPhases s r = Reads2 1 before_phases (λ (blocks : Vec Block Global) n c.
    behind (team_of c (sequence_list blocks.items)) n) s r

-- Whether a statement begins with the token.
abbrev pub starts : Lexeme → Bool
starts (name b) = true
starts (word words.For) = true
starts (word words.If) = true
starts (word words.Par) = true
starts (word words.Team) = true
starts t = false

-- Whether a statement begins here.
abbrev pub statement_follows : List Spot → Bool
statement_follows [] = false
statement_follows (t ∷ ts) = starts t.lexeme

-- The result of reading a statement; none if no statement begins here.
abbrev pub IsStatement : List Spot → Option (Parsed Stmt) → Type 0
IsStatement s (Some r) = IsRestOf statement s r
IsStatement s None = statement_follows s ≡ false

-- The models of statements.
abbrev pub statements_of : List Stmt → List Statement
statements_of statements = map statement_of statements

-- The state after statements.
abbrev pub behind_all : List Statement → Nest → State
behind_all cs n = state statement (nest n.arrays (n.done ++ cs) n.frames)

-- The result of reading statements, up to a token that begins none.
abbrev pub IsStatements : List Spot → Parsed (Vec Stmt Global) → Type 0
IsStatements s r = Reads1 0 (state statement) (λ (cs : Vec Stmt Global).
    behind_all (statements_of cs.items)) s r × IfOk r
    (λ r. statement_follows (spots r.1.now) ≡ false)

-- The result of reading the length of an array, and the rest of the array's declaration.
abbrev pub IsLength : List Spot → Parsed ℤ → Type 0
IsLength s r = Reads3 1 (λ n line b. state (header (array_open line b)) n) (λ v n line b.
    state declaring (with_array n (record { line = line; name = b; length = v }))) s r

-- The result of reading the rest of a declaration.
abbrev pub IsDeclaration : ℕ → List Spot → Parsed ArrayDecl → Type 0
IsDeclaration line s r =
    Reads1 1 (state (header (array_name line))) (λ (d : ArrayDecl) n.
    state declaring (with_array n (declaration_of d))) s r

-- The models of declarations.
abbrev pub declaration_list : List ArrayDecl → List Declaration
declaration_list declarations = map declaration_of declarations

-- The state after declarations.
abbrev pub declared_all : List Declaration → Nest → State
declared_all ds n = state declaring (nest (n.arrays ++ ds) n.done n.frames)

-- The result of reading declarations, up to a token that begins none.
abbrev pub IsDeclarations : List Spot → Parsed (Vec ArrayDecl Global) → Type 0
IsDeclarations s r = Reads1 0 (state declaring) (λ (ds : Vec ArrayDecl Global).
    declared_all (declaration_list ds.items)) s r × IfOk r
    (λ r. head_of (spots r.1.now) ≢ Some (word words.Array))

-- The result of reading the statements up to the end of the tokens.
abbrev pub IsBody : List Spot → Result Block Stop → Type 0
IsBody s (Ok b) = (ds : List Declaration)
    → run statement (nest ds [] []) s ≡ Ok (record { arrays = ds; body = sequence_of b })
IsBody s (Err e) = Stops e
    (λ rest. (ds : List Declaration) → run statement (nest ds [] []) s ≡ Err rest)

-- The result of parsing all tokens.
abbrev pub IsProgram : List Spot → Result Program Stop → Type 0
IsProgram s (Ok p) = parse_of s ≡ Ok (program_of p)
IsProgram s (Err e) = Stops e (λ rest. parse_of s ≡ Err rest)

-- The result of reading all tokens, if none of them passes a limit.
abbrev pub IsWhole : List Spot → ℕ → Result Program SyntaxFault → Type 0
IsWhole tokens end (Ok program) = parse_of tokens ≡ Ok (program_of program)
IsWhole tokens end (Err fault) =
    HasTokenFault tokens end fault
    × ((p : ProgramTree) → SpellsProgram tokens p → fault ≡ faults.Memory)

-- The result of reading tokens: some program begins with the tokens, or the machine stops where the function stops.
abbrev pub IsReading : {X : Type 0} → List Spot → Result X Stop → Type 0
IsReading tokens (Ok x) = Begins tokens
IsReading tokens (Err e) = Stops e (λ rest. parse_of tokens ≡ Err rest)

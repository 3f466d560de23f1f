-- A text that spells a program is read as that program.
use Rattle.std.proofs.Common.{◌≡◌, ◌≢◌, ℕ, ℤ, pos, suc, ◌≤◌, Bool, true, false, List, [], ◌∷◌, ◌++◌, Option, Some, None, Ok, refl, sym, ap, ◌∙◌, subst, arith, append_assoc, append-nil}
use Rattle.array_tokens.specs.Lexemes.{Lexeme, word, sign, Spot}
use Rattle.array_tokens.specs.declared.token.Word.{Word}
use Rattle.array_tokens.specs.declared.token.Word.TheVariants as words
use Rattle.array_tokens.specs.declared.token.Sign.TheVariants as signs
use Rattle.array_tree.specs.Trees.{Expression, Var, Neg, Statement, If, Par, Team, Sequence, ended, followed, sequence, Sequences, no_more, beside, sequences, Declaration, ProgramTree}
use Rattle.array_tree.specs.declared.tree.Op.{Op}
use Rattle.array_lang.specs.Grammar.{operator_of, spot, SpellsExpression, lone_sum, compared, SpellsSum, lone_term, added, SpellsTerm, lone_factor, multiplied, SpellsFactor, negated, numbered, named, indexed, grouped, SpellsBound, plain_bound, negative_bound, SpellsRange, range, SpellsStatement, assigned, looped, chosen, chosen_else, parallel, teamed, SpellsBranches, last_branch, next_branch, SpellsPhases, last_phase, next_phase, block, SpellsSequence, no_statement, next_statement, SpellsDeclaration, declaration, SpellsDeclarations, no_declaration, next_declaration, SpellsProgram}
use Rattle.array_lang.specs.Parsing.FirstToken.{pull_at, operator_pull, pull_of, pull, head_of}
use Rattle.array_lang.specs.Parsing.Machine.{Left, Level, fresh, joined, term_value, Outer, group, index, Top, target, value, condition, bare, called, Ranged, looping, teaming, Slot, low_of, high_of, Crew, team_of, bound, range_name, range_over, bounded, declaring, statement, header, operand, after, closed, par_open, par_side, phase_open, phase_closed, Branch, then_side, else_side, in_for, in_par, in_team, Frame, Nest, nest, with_array, with_done, opened, close_into, goes_on, step_after, step, at_end, continued, run, top_nest, parse_of}
use Rattle.array_lang.specs.declared.operator.Strength.{Strength}
use Rattle.array_lang.specs.declared.operator.Strength.TheVariants.{Comparison as comparison, Addition as addition, Product as product}

-- The same, except 4 for an index.
abbrev pub hold_of : Lexeme → ℕ
hold_of (sign signs.OpenIndex) = 4
hold_of t = pull_of t

abbrev pub hold : List Spot → ℕ
hold [] = 0
hold (t ∷ ts) = hold_of t.lexeme

pull_below : (t : Lexeme) → pull_of t ≤ hold_of t
pull_below (sign signs.OpenIndex) = omega arith
pull_below t = omega arith

pub pull_le : (ts : List Spot) → pull ts ≤ hold ts
pull_le [] = omega arith
pull_le (t ∷ ts) = pull_below t.lexeme

pub pull_operator : (l : Lexeme) (s : Strength) (op : Op) → operator_of l ≡ Some (s, op) → (hold_of l ≡ pull_at s) × (pull_of l ≡ pull_at s)
pull_operator (sign signs.OpenIndex) s op e = absurd (cc)
pull_operator l s op e = (ap operator_pull e, ap operator_pull e)

-- A name without an index is a variable.
step_called : (n : Nest) (b : List ℕ) (l : Level) (outers : List Outer) (top : Top) (t : Lexeme) → hold_of t ≤ 3 → step_after n (called b) l outers top t ≡ step_after n (bare (Var b)) l outers top t
step_called n b l outers top (sign signs.OpenIndex) h = absurd (omega arith)
step_called n b l outers top t h = refl

pub settle_called : (n : Nest) (b : List ℕ) (l : Level) (outers : List Outer) (top : Top) (ts : List Spot) → hold ts ≤ 3 → run (after (called b) l outers top) n ts ≡ run (after (bare (Var b)) l outers top) n ts
settle_called n b l outers top [] h = refl
settle_called n b l outers top (t ∷ ts) h = ap (λ o. continued o (λ s. run s.mode s.nest ts) (t ∷ ts)) (step_called n b l outers top t.lexeme h)

-- The factors so far become one expression.
pub settle_term : (n : Nest) (x : Expression) (l : Level) (outers : List Outer) (top : Top) (ts : List Spot) → run (after (bare x) l outers top) n ts ≡ run (after (bare (term_value l x)) (record { compare = l.compare; sum = l.sum; term = None; minus = 0 }) outers top) n ts
settle_term n x l outers top [] = refl
settle_term n x l outers top (t ∷ ts) = refl

step_sum : (n : Nest) (c s : Left) (x : Expression) (outers : List Outer) (top : Top) (t : Lexeme) (o : Option (Strength × Op)) → operator_pull o ≤ 2 → goes_on n c s x outers top t o ≡ goes_on n c None (joined s x) outers top t o
step_sum n c s x outers top t (Some (product, op)) h = absurd (omega arith)
step_sum n None s x outers top t o h = refl
step_sum n (Some c) s x outers top t o h = refl

-- The terms so far become one expression if no factor follows.
pub settle_sum : (n : Nest) (c s : Left) (x : Expression) (outers : List Outer) (top : Top) (ts : List Spot) → pull ts ≤ 2 → run (after (bare x) (record { compare = c; sum = s; term = None; minus = 0 }) outers top) n ts ≡ run (after (bare (joined s x)) (record { compare = c; sum = None; term = None; minus = 0 }) outers top) n ts
settle_sum n c s x outers top [] h = refl
settle_sum n c s x outers top (t ∷ ts) h = ap (λ o. continued o (λ s. run s.mode s.nest ts) (t ∷ ts)) (step_sum n c s x outers top t.lexeme (operator_of t.lexeme) h)

step_compare : (n : Nest) (c : Left) (x : Expression) (outers : List Outer) (top : Top) (t : Lexeme) (o : Option (Strength × Op)) → operator_pull o ≤ 0 → goes_on n c None x outers top t o ≡ goes_on n None None (joined c x) outers top t o
step_compare n c x outers top t None h = refl
step_compare n c x outers top t (Some (product, op)) h = absurd (omega arith)
step_compare n c x outers top t (Some (addition, op)) h = absurd (omega arith)
step_compare n c x outers top t (Some (comparison, op)) h = absurd (omega arith)

-- Both sides of a comparison become one expression if no operator follows.
pub settle_compare : (n : Nest) (c : Left) (x : Expression) (outers : List Outer) (top : Top) (ts : List Spot) → pull ts ≤ 0 → run (after (bare x) (record { compare = c; sum = None; term = None; minus = 0 }) outers top) n ts ≡ run (after (bare (joined c x)) fresh outers top) n ts
settle_compare n c x outers top [] h = refl
settle_compare n c x outers top (t ∷ ts) h = ap (λ o. continued o (λ s. run s.mode s.nest ts) (t ∷ ts)) (step_compare n c x outers top t.lexeme (operator_of t.lexeme) h)

-- An operator follows a complete left operand.
pub take_product : (n : Nest) (c s : Left) (x : Expression) (outers : List Outer) (top : Top) (l : Lexeme) (a k : ℕ) (ts : List Spot) (op : Op) → operator_of l ≡ Some (product, op) → run (after (bare x) (record { compare = c; sum = s; term = None; minus = 0 }) outers top) n (spot l a k ∷ ts) ≡ run (operand (record { compare = c; sum = s; term = Some (x, op); minus = 0 }) outers top) n ts
take_product n c s x outers top l a k ts op e = ap (λ o. continued (goes_on n c s x outers top l o) (λ s. run s.mode s.nest ts) (spot l a k ∷ ts)) e

pub take_addition : (n : Nest) (c : Left) (x : Expression) (outers : List Outer) (top : Top) (l : Lexeme) (a k : ℕ) (ts : List Spot) (op : Op) → operator_of l ≡ Some (addition, op) → run (after (bare x) (record { compare = c; sum = None; term = None; minus = 0 }) outers top) n (spot l a k ∷ ts) ≡ run (operand (record { compare = c; sum = Some (x, op); term = None; minus = 0 }) outers top) n ts
take_addition n c x outers top l a k ts op e = ap (λ o. continued (goes_on n c None x outers top l o) (λ s. run s.mode s.nest ts) (spot l a k ∷ ts)) e

pub take_comparison : (n : Nest) (x : Expression) (outers : List Outer) (top : Top) (l : Lexeme) (a k : ℕ) (ts : List Spot) (op : Op) → operator_of l ≡ Some (comparison, op) → run (after (bare x) fresh outers top) n (spot l a k ∷ ts) ≡ run (operand (record { compare = Some (x, op); sum = None; term = None; minus = 0 }) outers top) n ts
take_comparison n x outers top l a k ts op e = ap (λ o. continued (goes_on n None None x outers top l o) (λ s. run s.mode s.nest ts) (spot l a k ∷ ts)) e

mutual
  pub expr_runs : {s t : List Spot} {x : Expression} → SpellsExpression s t x → hold t ≤ 0 → (n : Nest) (outers : List Outer) (top : Top) → run (operand fresh outers top) n s ≡ run (after (bare x) fresh outers top) n t
  expr_runs (lone_sum d) h n outers top = sum_runs d (omega (arith, h)) n None outers top
  expr_runs (compared {s} {t} {u} {x} {y} {l} {a} {n = k} {op} d e f) h n outers top =
      let p = pull_operator l comparison op e in
      sum_runs d (omega (arith, h)) n None outers top
      ∙ take_comparison n x outers top l a k t op e
      ∙ sum_runs f (omega (arith, h)) n (Some (x, op)) outers top
      ∙ settle_compare n (Some (x, op)) y outers top u (omega (arith, pull_le u))

  pub sum_runs : {s t : List Spot} {x : Expression} → SpellsSum s t x → hold t ≤ 2 → (n : Nest) (c : Left) (outers : List Outer) (top : Top) → run (operand (record { compare = c; sum = None; term = None; minus = 0 }) outers top) n s ≡ run (after (bare x) (record { compare = c; sum = None; term = None; minus = 0 }) outers top) n t
  sum_runs (lone_term d) h n c outers top = term_runs d (omega (arith, h)) n c None outers top
  sum_runs (added {s} {t} {u} {x} {y} {l} {a} {n = k} {op} d e f) h n c outers top =
      let p = pull_operator l addition op e in
      sum_runs d (omega (arith, h)) n c outers top
      ∙ take_addition n c x outers top l a k t op e
      ∙ term_runs f (omega (arith, h)) n c (Some (x, op)) outers top
      ∙ settle_sum n c (Some (x, op)) y outers top u (omega (arith, pull_le u))

  pub term_runs : {s t : List Spot} {x : Expression} → SpellsTerm s t x → hold t ≤ 3 → (n : Nest) (c z : Left) (outers : List Outer) (top : Top) → run (operand (record { compare = c; sum = z; term = None; minus = 0 }) outers top) n s ≡ run (after (bare x) (record { compare = c; sum = z; term = None; minus = 0 }) outers top) n t
  term_runs (lone_factor d) h n c z outers top = factor_runs d h n _ outers top
  term_runs (multiplied {s} {t} {u} {x} {y} {l} {a} {n = k} {op} d e f) h n c z outers top =
      let p = pull_operator l product op e in
      term_runs d (omega (arith, h)) n c z outers top
      ∙ take_product n c z x outers top l a k t op e
      ∙ factor_runs f h n (record { compare = c; sum = z; term = Some (x, op); minus = 0 }) outers top
      ∙ settle_term n y (record { compare = c; sum = z; term = Some (x, op); minus = 0 }) outers top u

  pub factor_runs : {s t : List Spot} {x : Expression} → SpellsFactor s t x → hold t ≤ 3 → (n : Nest) (l : Level) (outers : List Outer) (top : Top) → run (operand l outers top) n s ≡ run (after (bare x) l outers top) n t
  factor_runs (negated {s} {t} {x} {a} {n = k} d) h n l outers top =
      let m : Level = record { compare = l.compare; sum = l.sum; term = l.term; minus = suc l.minus } in
      factor_runs d h n m outers top ∙ settle_term n x m outers top t ∙ sym (settle_term n (Neg x) l outers top t)
  factor_runs numbered h n l outers top = refl
  factor_runs (named {t} {b}) h n l outers top = settle_called n b l outers top t h
  factor_runs (indexed {b} d) h n l outers top =
      expr_runs d (omega (arith, h)) n (index b l ∷ outers) top
  factor_runs (grouped d) h n l outers top = expr_runs d (omega (arith, h)) n (group l ∷ outers) top

-- Bounds and ranges.
bound_runs : {s t : List Spot} {v : ℤ} → SpellsBound s t v → (n : Nest) (slot : Slot) → run (header (bound slot)) n s ≡ run (header (bounded slot v)) n t
bound_runs plain_bound n slot = refl
bound_runs negative_bound n slot = refl

range_runs : {s t : List Spot} {b : List ℕ} {low high : ℤ} → SpellsRange s t b low high → (n : Nest) (r : Ranged) (k : ℕ) → run (header (range_name r k)) n s ≡ run (header (range_over r k b low high)) n t
range_runs (range {b} {low} d e) n r k = bound_runs d n (low_of r k b) ∙ bound_runs e n (high_of r k b low)

-- The blocks as a list.
abbrev pub sides : Sequences → List Sequence
sides no_more = []
sides (beside p ps) = p ∷ sides ps

sequences-sides : (ps : Sequences) → sequences (sides ps) ≡ ps
sequences-sides no_more = refl
sequences-sides (beside p ps) = ap (beside p) (sequences-sides ps)

-- The statements as a list.
abbrev pub listed : Sequence → List Statement
listed ended = []
listed (followed c p) = c ∷ listed p

pub sequence-listed : (p : Sequence) → sequence (listed p) ≡ p
sequence-listed ended = refl
sequence-listed (followed c p) = ap (followed c) (sequence-listed p)

step_closed : (n : Nest) (line : ℕ) (x : Expression) (p : Sequence) (k : ℕ) (t : Lexeme) → Some t ≢ Some (word words.Else) → step (closed line x p) n k t ≡ step statement (with_done n (If line x p ended)) k t
step_closed n line x p k (word words.Else) h = absurd (h refl)
step_closed n line x p k t h = refl

end_closed : (ds : List Declaration) (d : List Statement) (frames : List Frame) (line : ℕ) (x : Expression) (p : Sequence) → at_end (closed line x p) ds d frames ≡ at_end statement ds (d ++ If line x p ended ∷ []) frames
end_closed ds d [] line x p = refl
end_closed ds d (f ∷ frames) line x p = refl

-- A choice without an `else`.
pub settle_closed : (n : Nest) (line : ℕ) (x : Expression) (p : Sequence) (ts : List Spot) → head_of ts ≢ Some (word words.Else) → run (closed line x p) n ts ≡ run statement (with_done n (If line x p ended)) ts
settle_closed n line x p [] h = end_closed n.arrays n.done n.frames line x p
settle_closed n line x p (t ∷ ts) h = ap (λ o. continued o (λ s. run s.mode s.nest ts) (t ∷ ts)) (step_closed n line x p t.line t.lexeme h)

step_phase : (n : Nest) (c : Crew) (ps : List Sequence) (p : Sequence) (k : ℕ) (t : Lexeme) → Some t ≢ Some (word words.Barrier) → step (phase_closed c ps p) n k t ≡ step statement (with_done n (team_of c (ps ++ p ∷ []))) k t
step_phase n c ps p k (word words.Barrier) h = absurd (h refl)
step_phase n c ps p k t h = refl

end_phase : (ds : List Declaration) (d : List Statement) (frames : List Frame) (c : Crew) (ps : List Sequence) (p : Sequence) → at_end (phase_closed c ps p) ds d frames ≡ at_end statement ds (d ++ team_of c (ps ++ p ∷ []) ∷ []) frames
end_phase ds d [] c ps p = refl
end_phase ds d (f ∷ frames) c ps p = refl

-- The last phase of a team: no `barrier` follows.
pub settle_phase : (n : Nest) (c : Crew) (ps : List Sequence) (p : Sequence) (ts : List Spot) → head_of ts ≢ Some (word words.Barrier) → run (phase_closed c ps p) n ts ≡ run statement (with_done n (team_of c (ps ++ p ∷ []))) ts
settle_phase n c ps p [] h = end_phase n.arrays n.done n.frames c ps p
settle_phase n c ps p (t ∷ ts) h = ap (λ o. continued o (λ s. run s.mode s.nest ts) (t ∷ ts)) (step_phase n c ps p t.line t.lexeme h)

step_declaring : (n : Nest) (k : ℕ) (t : Lexeme) → Some t ≢ Some (word words.Array) → step declaring n k t ≡ step statement n k t
step_declaring n k (word words.Array) h = absurd (h refl)
step_declaring n k t h = refl

end_declaring : (ds : List Declaration) (d : List Statement) (frames : List Frame) → at_end declaring ds d frames ≡ at_end statement ds d frames
end_declaring ds d [] = refl
end_declaring ds d (f ∷ frames) = refl

-- No declaration follows.
pub settle_declaring : (n : Nest) (ts : List Spot) → head_of ts ≢ Some (word words.Array) → run declaring n ts ≡ run statement n ts
settle_declaring n [] h = end_declaring n.arrays n.done n.frames
settle_declaring n (t ∷ ts) h = ap (λ o. continued o (λ s. run s.mode s.nest ts) (t ∷ ts)) (step_declaring n t.line t.lexeme h)

-- The words that continue the statement before them.
abbrev is_joint : Option Lexeme → Bool
is_joint (Some (word words.Else)) = true
is_joint (Some (word words.Barrier)) = true
is_joint (Some (word words.Array)) = true
is_joint l = false

statement_settles : {s t : List Spot} {c : Statement} → SpellsStatement s t c → is_joint (head_of s) ≡ false
statement_settles (assigned d e) = refl
statement_settles (looped d e) = refl
statement_settles (chosen d e) = refl
statement_settles (chosen_else d e f) = refl
statement_settles (parallel d) = refl
statement_settles (teamed d e) = refl

sequence_settles : {s t : List Spot} {p : Sequence} → SpellsSequence s t p → is_joint (head_of t) ≡ false → is_joint (head_of s) ≡ false
sequence_settles no_statement h = h
sequence_settles (next_statement d e) h = statement_settles d

not_word : (ts : List Spot) (w : Word) → is_joint (head_of ts) ≡ false → is_joint (Some (word w)) ≡ true → head_of ts ≢ Some (word w)
not_word ts w h k = λ e. let q : is_joint (Some (word w)) ≡ false = subst (λ o. is_joint o ≡ false) e h in cc

-- A block is closed.
side_closes : (p : Sequence) (n : Nest) (b : Branch) (t : List Spot) → run (close_into n b (sequence (listed p))).mode (close_into n b (sequence (listed p))).nest t ≡ run (close_into n b p).mode (close_into n b p).nest t
side_closes p n b t = ap (λ q. run (close_into n b q).mode (close_into n b q).nest t) (sequence-listed p)

mutual
  pub statement_runs : {s t : List Spot} {c : Statement} → SpellsStatement s t c → is_joint (head_of t) ≡ false → (n : Nest) → run statement n s ≡ run statement (with_done n c) t
  statement_runs (assigned {b} {x} {n = k} d e) h n =
      expr_runs d (omega arith) n [] (target k b) ∙ expr_runs e (omega arith) n [] (value k b x)
  statement_runs (looped {u} {b} {low} {high} {p} {n = k} d (block e)) h n =
      let side : Branch = in_for k b low high in
      range_runs d n looping k
      ∙ sequence_runs e refl (opened n side).nest
      ∙ side_closes p n side u
  statement_runs (chosen {u} {x} {p} {n = k} d (block e)) h n =
      let side : Branch = then_side k x in
      expr_runs d (omega arith) n [] (condition k)
      ∙ sequence_runs e refl (opened n side).nest
      ∙ side_closes p n side u
      ∙ settle_closed n k x p u (not_word u words.Else h refl)
  statement_runs (chosen_else {u} {v} {x} {p} {q} {n = k} {a1} {n1} d (block e) (block f)) h n =
      let left : Branch = then_side k x in
      let right : Branch = else_side k x p in
      expr_runs d (omega arith) n [] (condition k)
      ∙ sequence_runs e refl (opened n left).nest
      ∙ side_closes p n left (spot (word words.Else) a1 n1 ∷ u)
      ∙ sequence_runs f refl (opened n right).nest
      ∙ side_closes q n right v
  statement_runs (parallel {t} {ps} {n = k} d) h n =
      first_branch_runs d n k ∙ ap (λ q. run statement (with_done n (Par k q)) t) (sequences-sides ps)
  statement_runs (teamed {u} {b} {low} {high} {ps} {members} {n = k} d e) h n =
      let c : Crew = record { line = k; var = b; low = low; high = high; members = pos members } in
      range_runs d n teaming k
      ∙ phases_run e h n c []
      ∙ ap (λ q. run statement (with_done n (Team k b low high (pos members) q)) u) (sequences-sides ps)

  first_branch_runs : {s t : List Spot} {ps : Sequences} → SpellsBranches s t ps → (n : Nest) (k : ℕ) → run (par_open k) n s ≡ run statement (with_done n (Par k (sequences (sides ps)))) t
  first_branch_runs (last_branch {t} {p} {a = a0} {n = k0} (block e)) n k =
      let side : Branch = in_par k [] in
      sequence_runs e refl (opened n side).nest
      ∙ side_closes p n side (spot (sign signs.CloseBlock) a0 k0 ∷ t)
  first_branch_runs (next_branch {t} {p} (block e) d) n k =
      let side : Branch = in_par k [] in
      sequence_runs e refl (opened n side).nest
      ∙ side_closes p n side t
      ∙ branches_run d n k [] p

  branches_run : {s t : List Spot} {ps : Sequences} → SpellsBranches s t ps → (n : Nest) (k : ℕ) (qs : List Sequence) (q : Sequence) → run (par_side k qs q) n s ≡ run statement (with_done n (Par k (sequences ((qs ++ q ∷ []) ++ sides ps)))) t
  branches_run (last_branch {t} {p} {a = a0} {n = k0} (block e)) n k qs q =
      let side : Branch = in_par k (qs ++ q ∷ []) in
      sequence_runs e refl (opened n side).nest
      ∙ side_closes p n side (spot (sign signs.CloseBlock) a0 k0 ∷ t)
  branches_run (next_branch {t} {u} {p} {ps} (block e) d) n k qs q =
      let side : Branch = in_par k (qs ++ q ∷ []) in
      sequence_runs e refl (opened n side).nest
      ∙ side_closes p n side t
      ∙ branches_run d n k (qs ++ q ∷ []) p
      ∙ ap (λ l. run statement (with_done n (Par k (sequences l))) u) (append_assoc (qs ++ q ∷ []) (p ∷ []) (sides ps))

  phases_run : {s t : List Spot} {ps : Sequences} → SpellsPhases s t ps → is_joint (head_of t) ≡ false → (n : Nest) (c : Crew) (qs : List Sequence) → run (phase_open c qs) n s ≡ run statement (with_done n (team_of c (qs ++ sides ps))) t
  phases_run (last_phase {t} {p} (block e)) h n c qs =
      let side : Branch = in_team c qs in
      sequence_runs e refl (opened n side).nest
      ∙ side_closes p n side t
      ∙ settle_phase n c qs p t (not_word t words.Barrier h refl)
  phases_run (next_phase {t} {u} {p} {ps} {a = a0} {n = k0} (block e) d) h n c qs =
      let side : Branch = in_team c qs in
      sequence_runs e refl (opened n side).nest
      ∙ side_closes p n side (spot (word words.Barrier) a0 k0 ∷ t)
      ∙ phases_run d h n c (qs ++ p ∷ [])
      ∙ ap (λ l. run statement (with_done n (team_of c l)) u) (append_assoc qs (p ∷ []) (sides ps))

  pub sequence_runs : {s t : List Spot} {p : Sequence} → SpellsSequence s t p → is_joint (head_of t) ≡ false → (n : Nest) → run statement n s ≡ run statement (nest n.arrays (n.done ++ listed p) n.frames) t
  sequence_runs (no_statement {s}) h n = ap (λ d. run statement (nest n.arrays d n.frames) s) (sym (append-nil n.done))
  sequence_runs (next_statement {u} {c} {p} d e) h n =
      statement_runs d (sequence_settles e h) n
      ∙ sequence_runs e h (with_done n c)
      ∙ ap (λ d. run statement (nest n.arrays d n.frames) u) (append_assoc n.done (c ∷ []) (listed p))

declaration_runs : {s t : List Spot} {d : Declaration} → SpellsDeclaration s t d → (n : Nest) → run declaring n s ≡ run declaring (with_array n d) t
declaration_runs declaration n = refl

declarations_run : {s t : List Spot} {ds : List Declaration} → SpellsDeclarations s t ds → (n : Nest) → run declaring n s ≡ run declaring (nest (n.arrays ++ ds) n.done n.frames) t
declarations_run (no_declaration {s}) n = ap (λ ds. run declaring (nest ds n.done n.frames) s) (sym (append-nil n.arrays))
declarations_run (next_declaration {u} {d} {ds} e f) n =
    declaration_runs e n
    ∙ declarations_run f (with_array n d)
    ∙ ap (λ l. run declaring (nest l n.done n.frames) u) (append_assoc n.arrays (d ∷ []) ds)

-- A program that is spelled is the result of reading.
pub complete : {tokens : List Spot} {p : ProgramTree} → SpellsProgram tokens p → parse_of tokens ≡ Ok p
complete {tokens} {p} d =
    declarations_run d.declares top_nest
    ∙ settle_declaring (nest p.arrays [] []) d.body (not_word d.body words.Array (sequence_settles d.does refl) refl)
    ∙ sequence_runs d.does refl (nest p.arrays [] [])
    ∙ ap (λ q. Ok (record { arrays = p.arrays; body = q })) (sequence-listed p.body)

-- No tokens spell two programs.
pub one_program : {tokens : List Spot} {p q : ProgramTree} → SpellsProgram tokens p → SpellsProgram tokens q → p ≡ q
one_program d e = let h = sym (complete d) ∙ complete e in cc

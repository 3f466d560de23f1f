-- Reading stops at the longest beginning of some program.
use Rattle.std.proofs.Common.{◌≡◌, ◌≢◌, ℕ, ℤ, ◌≤◌, List, [], ◌∷◌, ◌++◌, Option, Some, None, Ok, Err, refl, sym, ap, ◌∙◌, subst, arith, append_assoc, append-nil}
use Rattle.array_tokens.specs.Lexemes.{name, number, word, sign, Spot}
use Rattle.array_tokens.specs.declared.token.Word.{Word}
use Rattle.array_tokens.specs.declared.token.Word.TheVariants as words
use Rattle.array_tokens.specs.declared.token.Sign.{Sign}
use Rattle.array_tokens.specs.declared.token.Sign.TheVariants as signs
use Rattle.array_tree.specs.Trees.{Expression, Var, Statement, If, Sequence, ended, sequence, Declaration, ProgramTree}
use Rattle.array_lang.specs.Grammar.{spot, EndsAt, StopsAt}
use Rattle.array_lang.specs.Parsing.Machine.{Level, Outer, group, index, Top, target, value, condition, bare, called, Ranged, looping, teaming, Slot, low_of, high_of, Crew, team_of, Position, array_name, array_open, array_length, array_close, array_end, range_name, range_in, bound, bound_number, range_dots, range_over, team_members, Mode, declaring, header, operand, after, statement, array, equals, closed, otherwise, par_begun, par_open, par_side, phase_open, phase_closed, Branch, then_side, else_side, in_for, in_par, in_team, Frame, Nest, nest, State, close_into, program, continued, at_end, run, top_nest, parse_of, step}
use Rattle.array_lang.specs.Parsing.FirstToken.{head_of}
use Rattle.array_lang.proofs.Complete.{hold, settle_called, settle_closed, settle_phase, settle_declaring, complete}
use Rattle.array_lang.proofs.Sound.{sound}

abbrev mark : Sign → Spot
mark s = spot (sign s) 0 0

abbrev keyword : Word → Spot
keyword w = spot (word w) 0 0

abbrev zero_spot : Spot
zero_spot = spot (number 0) 0 0

-- Tokens that close what is open.
abbrev after_side : Branch → List Spot → List Spot
after_side (in_par line ps) rest = mark signs.CloseBlock ∷ rest
after_side b rest = rest

abbrev braces : List Frame → List Spot
braces [] = []
braces (f ∷ frames) = mark signs.CloseBlock ∷ after_side f.branch (braces frames)

abbrev assign_zero : List Spot → List Spot
assign_zero rest = mark signs.Assign ∷ zero_spot ∷ mark signs.Semicolon ∷ rest

abbrev empty_block : List Spot → List Spot
empty_block rest = mark signs.OpenBlock ∷ mark signs.CloseBlock ∷ rest

abbrev finish_top : Top → List Frame → List Spot
finish_top (target line b) frames = mark signs.CloseIndex ∷ assign_zero (braces frames)
finish_top (value line b x) frames = mark signs.Semicolon ∷ braces frames
finish_top (condition line) frames = empty_block (braces frames)

abbrev finish_outers : List Outer → List Spot → List Spot
finish_outers [] rest = rest
finish_outers (group l ∷ outers) rest = mark signs.CloseGroup ∷ finish_outers outers rest
finish_outers (index b l ∷ outers) rest = mark signs.CloseIndex ∷ finish_outers outers rest

-- The rest of a range, from its upper bound on.
abbrev finish_range : Ranged → List Spot → List Spot
finish_range looping rest = empty_block rest
finish_range teaming rest = keyword words.By ∷ zero_spot ∷ empty_block rest

abbrev finish_bound : Slot → List Spot → List Spot
finish_bound (low_of r line b) rest = mark signs.Range ∷ zero_spot ∷ finish_range r rest
finish_bound (high_of r line b low) rest = finish_range r rest

abbrev finish_header : Position → List Spot → List Spot
finish_header (array_name line) rest = spot (name []) 0 0 ∷ mark signs.OpenIndex ∷ zero_spot ∷ mark signs.CloseIndex ∷ mark signs.Semicolon ∷ rest
finish_header (array_open line b) rest = mark signs.OpenIndex ∷ zero_spot ∷ mark signs.CloseIndex ∷ mark signs.Semicolon ∷ rest
finish_header (array_length line b) rest = zero_spot ∷ mark signs.CloseIndex ∷ mark signs.Semicolon ∷ rest
finish_header (array_close line b v) rest = mark signs.CloseIndex ∷ mark signs.Semicolon ∷ rest
finish_header (array_end line b v) rest = mark signs.Semicolon ∷ rest
finish_header (range_name r line) rest = spot (name []) 0 0 ∷ keyword words.In ∷ zero_spot ∷ mark signs.Range ∷ zero_spot ∷ finish_range r rest
finish_header (range_in r line b) rest = keyword words.In ∷ zero_spot ∷ mark signs.Range ∷ zero_spot ∷ finish_range r rest
finish_header (bound slot) rest = zero_spot ∷ finish_bound slot rest
finish_header (bound_number slot) rest = zero_spot ∷ finish_bound slot rest
finish_header (range_dots r line b low) rest = mark signs.Range ∷ zero_spot ∷ finish_range r rest
finish_header (range_over r line b low high) rest = finish_range r rest
finish_header (team_members line b low high) rest = zero_spot ∷ empty_block rest

abbrev finish : Mode → List Frame → List Spot
finish declaring frames = braces frames
finish statement frames = braces frames
finish (header q) frames = finish_header q (braces frames)
finish (operand l outers top) frames = zero_spot ∷ finish_outers outers (finish_top top frames)
finish (after x l outers top) frames = finish_outers outers (finish_top top frames)
finish (array line b) frames = mark signs.OpenIndex ∷ zero_spot ∷ mark signs.CloseIndex ∷ assign_zero (braces frames)
finish (equals line b x) frames = assign_zero (braces frames)
finish (closed line x p) frames = braces frames
finish (otherwise line x p) frames = empty_block (braces frames)
finish (par_begun line) frames = mark signs.OpenBlock ∷ mark signs.OpenBlock ∷ mark signs.CloseBlock ∷ mark signs.CloseBlock ∷ braces frames
finish (par_open line) frames = mark signs.OpenBlock ∷ mark signs.CloseBlock ∷ mark signs.CloseBlock ∷ braces frames
finish (par_side line ps p) frames = mark signs.CloseBlock ∷ braces frames
finish (phase_open c ps) frames = empty_block (braces frames)
finish (phase_closed c ps p) frames = braces frames

abbrev Ends : Mode → Nest → List Spot → Type 0
Ends m n ts = (p : ProgramTree) × (run m n ts ≡ Ok p)

no_word : (frames : List Frame) (w : Word) → head_of (braces frames) ≢ Some (word w)
no_word [] w = λ e. cc
no_word (f ∷ frames) w = λ e. cc

-- In closed blocks, a state that settles ends as one that waits for a statement.
closed_ends : (line : ℕ) (x : Expression) (q : Sequence) (n : Nest) → Ends statement (nest n.arrays (n.done ++ If line x q ended ∷ []) n.frames) (braces n.frames) → Ends (closed line x q) n (braces n.frames)
closed_ends line x q n h = (h.0, settle_closed n line x q (braces n.frames) (no_word n.frames words.Else) ∙ h.1)

phase_ends : (c : Crew) (ps : List Sequence) (q : Sequence) (n : Nest) → Ends statement (nest n.arrays (n.done ++ team_of c (ps ++ q ∷ []) ∷ []) n.frames) (braces n.frames) → Ends (phase_closed c ps q) n (braces n.frames)
phase_ends c ps q n h = (h.0, settle_phase n c ps q (braces n.frames) (no_word n.frames words.Barrier) ∙ h.1)

close_ends : (b : Branch) (n : Nest) (p : Sequence) → ((e : List Statement) → Ends statement (nest n.arrays e n.frames) (braces n.frames)) → Ends (close_into n b p).mode (close_into n b p).nest (after_side b (braces n.frames))
close_ends (then_side line x) n p h = closed_ends line x p n (h _)
close_ends (else_side line x q) n p h = h _
close_ends (in_for line b low high) n p h = h _
close_ends (in_par line ps) n p h = h _
close_ends (in_team c ps) n p h = phase_ends c ps p n (h _)

statement_ends : (frames : List Frame) (ds : List Declaration) (d : List Statement) → Ends statement (nest ds d frames) (braces frames)
statement_ends [] ds d = (program ds d, refl)
statement_ends (f ∷ frames) ds d = close_ends f.branch (nest ds f.before frames) (sequence d) (statement_ends frames ds)

declaring_ends : (n : Nest) → Ends declaring n (braces n.frames)
declaring_ends n = let h = statement_ends n.frames n.arrays n.done in (h.0, settle_declaring n (braces n.frames) (no_word n.frames words.Array) ∙ h.1)

top_ends : (top : Top) (x : Expression) (l : Level) (n : Nest) → Ends (after (bare x) l [] top) n (finish_top top n.frames)
top_ends (target line b) x l n = statement_ends n.frames n.arrays _
top_ends (value line b i) x l n = statement_ends n.frames n.arrays _
top_ends (condition line) x l n = closed_ends line _ _ n (statement_ends n.frames n.arrays _)

outers_end : (outers : List Outer) (top : Top) (x : Expression) (l : Level) (n : Nest) → Ends (after (bare x) l outers top) n (finish_outers outers (finish_top top n.frames))
outers_end [] top x l n = top_ends top x l n
outers_end (group o ∷ outers) top x l n = outers_end outers top _ o n
outers_end (index b o ∷ outers) top x l n = outers_end outers top _ o n

weak_finish : (outers : List Outer) (top : Top) (frames : List Frame) → hold (finish_outers outers (finish_top top frames)) ≤ 3
weak_finish [] (target line b) frames = omega arith
weak_finish [] (value line b x) frames = omega arith
weak_finish [] (condition line) frames = omega arith
weak_finish (group l ∷ outers) top frames = omega arith
weak_finish (index b l ∷ outers) top frames = omega arith

-- An empty block as the only or last one of its statement.
empty_phase_ends : (c : Crew) (ps : List Sequence) (n : Nest) → Ends (phase_open c ps) n (empty_block (braces n.frames))
empty_phase_ends c ps n = phase_ends c ps _ n (statement_ends n.frames n.arrays _)

range_ends : (r : Ranged) (line : ℕ) (b : List ℕ) (low high : ℤ) (n : Nest) → Ends (header (range_over r line b low high)) n (finish_range r (braces n.frames))
range_ends looping line b low high n = statement_ends n.frames n.arrays _
range_ends teaming line b low high n = empty_phase_ends _ [] n

bound_ends : (slot : Slot) (n : Nest) → Ends (header (bound slot)) n (finish_header (bound slot) (braces n.frames))
bound_ends (low_of r line b) n = range_ends r line b _ _ n
bound_ends (high_of r line b low) n = range_ends r line b _ _ n

number_ends : (slot : Slot) (n : Nest) → Ends (header (bound_number slot)) n (finish_header (bound_number slot) (braces n.frames))
number_ends (low_of r line b) n = range_ends r line b _ _ n
number_ends (high_of r line b low) n = range_ends r line b _ _ n

array_ends : (ds : List Declaration) (n : Nest) → Ends declaring (nest ds n.done n.frames) (braces n.frames)
array_ends ds n = declaring_ends (nest ds n.done n.frames)

header_ends : (q : Position) (n : Nest) → Ends (header q) n (finish_header q (braces n.frames))
header_ends (array_name line) n = array_ends _ n
header_ends (array_open line b) n = array_ends _ n
header_ends (array_length line b) n = array_ends _ n
header_ends (array_close line b v) n = array_ends _ n
header_ends (array_end line b v) n = array_ends _ n
header_ends (range_name r line) n = range_ends r line _ _ _ n
header_ends (range_in r line b) n = range_ends r line _ _ _ n
header_ends (bound slot) n = bound_ends slot n
header_ends (bound_number slot) n = number_ends slot n
header_ends (range_dots r line b low) n = range_ends r line _ _ _ n
header_ends (range_over r line b low high) n = range_ends r line b low high n
header_ends (team_members line b low high) n = empty_phase_ends _ [] n

finishes : (m : Mode) (n : Nest) → Ends m n (finish m n.frames)
finishes declaring n = declaring_ends n
finishes statement n = statement_ends n.frames n.arrays n.done
finishes (header q) n = header_ends q n
finishes (operand l outers top) n = outers_end outers top _ l n
finishes (after (bare x) l outers top) n = outers_end outers top x l n
finishes (after (called b) l outers top) n =
    let h = outers_end outers top (Var b) l n in
    (h.0, settle_called n b l outers top (finish_outers outers (finish_top top n.frames)) (weak_finish outers top n.frames) ∙ h.1)
finishes (array line b) n = statement_ends n.frames n.arrays _
finishes (equals line b x) n = statement_ends n.frames n.arrays _
finishes (closed line x p) n = closed_ends line x p n (statement_ends n.frames n.arrays _)
finishes (otherwise line x p) n = statement_ends n.frames n.arrays _
finishes (par_begun line) n = statement_ends n.frames n.arrays _
finishes (par_open line) n = statement_ends n.frames n.arrays _
finishes (par_side line ps p) n = statement_ends n.frames n.arrays _
finishes (phase_open c ps) n = empty_phase_ends c ps n
finishes (phase_closed c ps p) n = phase_ends c ps p n (statement_ends n.frames n.arrays _)

-- The state can't take the first token, or isn't the end of a program.
abbrev Stuck : Mode → Nest → List Spot → Type 0
Stuck m n [] = at_end m n.arrays n.done n.frames ≡ Err []
Stuck m n (t ∷ rest) = step m n t.line t.lexeme ≡ None

record Split (m : Mode) (n : Nest) (ts rest : List Spot) : Type 0 where
  front : List Spot
  all : ts ≡ front ++ rest
  mode : Mode
  here : Nest
  leads : (more : List Spot) → run m n (front ++ more) ≡ run mode here more
  stuck : Stuck mode here rest

end_err : (m : Mode) (ds : List Declaration) (d : List Statement) (f : List Frame) (rest : List Spot) → at_end m ds d f ≡ Err rest → rest ≡ []
end_err declaring ds d [] rest h = cc
end_err declaring ds d (f ∷ fs) rest h = cc
end_err statement ds d [] rest h = cc
end_err statement ds d (f ∷ fs) rest h = cc
end_err (closed line x p) ds d [] rest h = cc
end_err (closed line x p) ds d (f ∷ fs) rest h = cc
end_err (phase_closed c ps p) ds d [] rest h = cc
end_err (phase_closed c ps p) ds d (f ∷ fs) rest h = cc
end_err m ds d f rest h = cc

split_end : (m : Mode) (n : Nest) (rest : List Spot) → rest ≡ [] → at_end m n.arrays n.done n.frames ≡ Err rest → Split m n [] rest
split_end m n [] e h = record { front = []; all = refl; mode = m; here = n; leads = λ more. refl; stuck = h }
split_end m n (t ∷ rest) e h = cc

split_here : (m : Mode) (n : Nest) (t : Spot) (ts rest : List Spot) → t ∷ ts ≡ rest → step m n t.line t.lexeme ≡ None → Split m n (t ∷ ts) rest
split_here m n t ts rest e h = subst (λ r. Split m n (t ∷ ts) r) e (record { front = []; all = refl; mode = m; here = n; leads = λ more. refl; stuck = h })

split_more : (m : Mode) (n : Nest) (t : Spot) (ts rest : List Spot) (st : State) → step m n t.line t.lexeme ≡ Some st → Split st.mode st.nest ts rest → Split m n (t ∷ ts) rest
split_more m n t ts rest st e s = record {
  front = t ∷ s.front;
  all = ap (λ l. t ∷ l) s.all;
  mode = s.mode;
  here = s.here;
  leads = λ more. ap (λ o. continued o (λ st. run st.mode st.nest (s.front ++ more)) (t ∷ (s.front ++ more))) e ∙ s.leads more;
  stuck = s.stuck;
}

split_on : (m : Mode) (n : Nest) (t : Spot) (ts rest : List Spot) (o : Option State) → step m n t.line t.lexeme ≡ o → continued o (λ s. run s.mode s.nest ts) (t ∷ ts) ≡ Err rest → ((st : State) → run st.mode st.nest ts ≡ Err rest → Split st.mode st.nest ts rest) → Split m n (t ∷ ts) rest
split_on m n t ts rest None e h f = let r : t ∷ ts ≡ rest = cc in split_here m n t ts rest r e
split_on m n t ts rest (Some st) e h f = split_more m n t ts rest st e (f st h)

split : (m : Mode) (n : Nest) (ts rest : List Spot) → run m n ts ≡ Err rest → Split m n ts rest
split m n [] rest h = split_end m n rest (end_err m n.arrays n.done n.frames rest h) h
split m n (t ∷ ts) rest h = split_on m n t ts rest (step m n t.line t.lexeme) refl h (λ st k. split st.mode st.nest ts rest k)

none_goes_on : (rest : List Spot) (tokens : List Spot) (s : Split declaring top_nest tokens rest) → EndsAt s.front rest
none_goes_on [] tokens s = λ p d.
    let a : parse_of s.front ≡ Ok p = complete d in
    let b : parse_of s.front ≡ Err [] = ap parse_of (sym (append-nil s.front)) ∙ s.leads [] ∙ s.stuck in
    cc
none_goes_on (t ∷ rest) tokens s = λ b.
    let a : parse_of ((s.front ++ t ∷ []) ++ b.0) ≡ Ok b.1 = complete b.2 in
    let c : parse_of ((s.front ++ t ∷ []) ++ b.0) ≡ Err (t ∷ b.0) = ap parse_of (append_assoc s.front (t ∷ []) b.0) ∙ s.leads (t ∷ b.0) ∙ ap (λ o. continued o (λ st. run st.mode st.nest b.0) (t ∷ b.0)) s.stuck in
    cc

-- Reading stops at the first token with which no program continues.
pub stops : (tokens rest : List Spot) → parse_of tokens ≡ Err rest → StopsAt tokens rest
stops tokens rest h =
    let s = split declaring top_nest tokens rest h in
    let f = finishes s.mode s.here in
    record {
      front = s.front;
      all = s.all;
      begins = (finish s.mode s.here.frames, f.0, sound (s.front ++ finish s.mode s.here.frames) f.0 (s.leads (finish s.mode s.here.frames) ∙ f.1));
      ends = none_goes_on rest tokens s;
    }

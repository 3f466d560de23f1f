-- Bounds on the lengths of printed texts, for any numbers in them.
use Rattle.std.proofs.Common.{◌≡◌, ◌≤◌, ◌+◌, ℕ, ℤ, suc, pos, negsuc, Bool, true, false, List, [], ◌∷◌, ◌++◌, length, codes, length-append, arith, subst, sym, ap, ◌∙◌, refl, Result, Ok, Err, IfOk}
use Rattle.std.specs.Prelude.{flat_map}
use Rattle.std.specs.Fmt.{decimal, signed_decimal}
use Rattle.std.proofs.lemmas.Fmt.{length-decimal-le}
use Rattle.array_tokens.specs.Literals.{greatest_literal}
use Rattle.array_tree.specs.declared.tree.Op.{Op}
use Rattle.array_tree.specs.declared.tree.Op.TheVariants as ops
use Rattle.array_tree.specs.Trees.{Expression, Number, Var, Read, Neg, Binary, Statement, Assign, For, If, Par, Team, Sequence, ended, followed, Sequences, no_more, beside, Declaration, ProgramTree}
use Rattle.array_print.specs.Texts.{groups_left, groups_right, groups_negated, grouped_text, op_text, expression_text, target_text, range_text, dealt_text, wider, block_text, else_text, branch_text, barrier_text, statement_text, sequence_text, branches_text, phases_text, declaration_text, printed}
use Rattle.array_print.specs.Writable.{IsNumber, IsBound, IsPrintable, CanStand, CanFollow, CanBranch, AreDeclarable, IsWritable}
use Rattle.program_maker.specs.Made.{made_program}
use Rattle.program_maker.proofs.Writing.{made_writable}

-- ---- texts in sequence
two : (a b : List ℕ) → length (a ++ b) ≡ length a + length b
two a b = length-append a b

three : (a b c : List ℕ) → length (a ++ b ++ c) ≡ length a + length b + length c
three a b c = length-append (a ++ b) c ∙ ap (λ (n : ℕ). n + length c) (two a b)

four : (a b c d : List ℕ) → length (a ++ b ++ c ++ d) ≡ length a + length b + length c + length d
four a b c d = length-append (a ++ b ++ c) d ∙ ap (λ (n : ℕ). n + length d) (three a b c)

five : (a b c d e : List ℕ) → length (a ++ b ++ c ++ d ++ e) ≡ length a + length b + length c + length d + length e
five a b c d e = length-append (a ++ b ++ c ++ d) e ∙ ap (λ (n : ℕ). n + length e) (four a b c d)

-- ---- expressions
digits_short : (n : ℕ) → n ≤ greatest_literal → length (decimal n) ≤ 19
digits_short n h = length-decimal-le 19 n (omega arith) (omega (arith, h)) (omega (arith, h))

bound_short : (v : ℤ) → IsBound v → length (signed_decimal v) ≤ 20
bound_short (pos n) h = omega (arith, digits_short n h)
bound_short (negsuc n) h = omega (arith, digits_short (suc n) h)

number_short : (v : ℤ) → IsNumber v → length (signed_decimal v) ≤ 20
number_short (pos n) h = omega (arith, digits_short n h)
number_short (negsuc n) h = absurd h

grouped_short : (b : Bool) (text : List ℕ) → length (grouped_text b text) ≤ length text + 2
grouped_short true text =
    let whole : length (grouped_text true text) ≡ 1 + length text + 1 = three (codes "(") text (codes ")") in
    omega (arith, whole)
grouped_short false text = omega arith

op_short : (op : Op) → length (op_text op) ≤ 4
op_short ops.Add = omega arith
op_short ops.Sub = omega arith
op_short ops.Mul = omega arith
op_short ops.Div = omega arith
op_short ops.Rem = omega arith
op_short ops.Less = omega arith
op_short ops.Greater = omega arith
op_short ops.LessEq = omega arith
op_short ops.GreaterEq = omega arith
op_short ops.Equal = omega arith
op_short ops.NotEqual = omega arith

abbrev expression_size : Expression → ℕ
expression_size (Number v) = 20
expression_size (Var name) = length name
expression_size (Read array index) = length array + expression_size index + 2
expression_size (Neg x) = expression_size x + 3
expression_size (Binary op x y) = expression_size x + expression_size y + 8

expression_short : (x : Expression) → IsPrintable x → length (expression_text x) ≤ expression_size x
expression_short (Number v) h = number_short v h
expression_short (Var name) h = omega arith
expression_short (Read array index) h =
    let t = expression_text index in
    let whole : length (expression_text (Read array index)) ≡ length array + 1 + length t + 1 = four array (codes "[") t (codes "]") in
    omega (arith, whole, expression_short index h.1)
expression_short (Neg x) h =
    let t = grouped_text (groups_negated x) (expression_text x) in
    let whole : length (expression_text (Neg x)) ≡ 1 + length t = two (codes "-") t in
    omega (arith, whole, expression_short x h, grouped_short (groups_negated x) (expression_text x))
expression_short (Binary op x y) h =
    let s = grouped_text (groups_left op x) (expression_text x) in
    let t = grouped_text (groups_right op y) (expression_text y) in
    let whole : length (expression_text (Binary op x y)) ≡ length s + length (op_text op) + length t = three s (op_text op) t in
    omega (arith, whole, op_short op, expression_short x h.0, expression_short y h.1, grouped_short (groups_left op x) (expression_text x), grouped_short (groups_right op y) (expression_text y))

-- ---- statements, in a margin of so many spaces
target_short : (array : List ℕ) (index : Expression) → IsPrintable index → length (target_text array index) ≤ length array + expression_size index + 5
target_short array index h =
    let t = expression_text index in
    let whole : length (target_text array index) ≡ length array + 1 + length t + 4 = four array (codes "[") t (codes "] = ") in
    omega (arith, whole, expression_short index h)

range_short : (var : List ℕ) (low high : ℤ) → IsBound low → IsBound high → length (range_text var low high) ≤ length var + 46
range_short var low high l h =
    let a = signed_decimal low in
    let b = signed_decimal high in
    let whole : length (range_text var low high) ≡ length var + 4 + length a + 2 + length b = five var (codes " in ") a (codes "..") b in
    omega (arith, whole, bound_short low l, bound_short high h)

dealt_short : (var : List ℕ) (low high members : ℤ) → IsBound low → IsBound high → IsNumber members → length (dealt_text var low high members) ≤ length var + 70
dealt_short var low high members l h m =
    let r = range_text var low high in
    let t = signed_decimal members in
    let whole : length (dealt_text var low high members) ≡ length r + 4 + length t = three r (codes " by ") t in
    omega (arith, whole, range_short var low high l h, number_short members m)

block_short : (margin inside : List ℕ) → length (block_text margin inside) ≡ length margin + length inside + 4
block_short margin inside =
    let whole : length (block_text margin inside) ≡ 3 + length inside + length margin + 1 = four (codes " {\n") inside margin (codes "}") in
    omega (arith, whole)

wider_long : (margin : List ℕ) → length (wider margin) ≡ length margin + 2
wider_long margin = length-append margin (codes "  ")

wider_by : (k : ℕ) (margin : List ℕ) → length margin ≡ k → length (wider margin) ≡ k + 2
wider_by k margin m = wider_long margin ∙ ap (λ (n : ℕ). n + 2) m

else_short : (right : Sequence) (block : List ℕ) → length (else_text right block) ≤ length block + 5
else_short ended block = omega arith
else_short (followed first rest) block =
    let whole : length (else_text (followed first rest) block) ≡ 5 + length block = two (codes " else") block in
    omega (arith, whole)

barrier_short : (later : Bool) → length (barrier_text later) ≤ 8
barrier_short true = omega arith
barrier_short false = omega arith

abbrev mutual
  statement_size : ℕ → Statement → ℕ
  statement_size margin (Assign line array index value) = margin + length array + expression_size index + expression_size value + 7
  statement_size margin (For line var low high body) = margin + margin + length var + sequence_size (margin + 2) body + 55
  statement_size margin (If line cond left right) =
      margin + margin + margin + expression_size cond + sequence_size (margin + 2) left + sequence_size (margin + 2) right + 17
  statement_size margin (Par line branches) = margin + margin + branches_size (margin + 2) branches + 8
  statement_size margin (Team line var low high members phases) = margin + length var + phases_size margin phases + 76

  sequence_size : ℕ → Sequence → ℕ
  sequence_size margin ended = 0
  sequence_size margin (followed first rest) = statement_size margin first + sequence_size margin rest

  branches_size : ℕ → Sequences → ℕ
  branches_size margin no_more = 0
  branches_size margin (beside first rest) = margin + margin + sequence_size (margin + 2) first + branches_size margin rest + 4

  phases_size : ℕ → Sequences → ℕ
  phases_size margin no_more = 0
  phases_size margin (beside first rest) = margin + sequence_size (margin + 2) first + phases_size margin rest + 12

mutual
  statement_short : (k depth : ℕ) (margin : List ℕ) (s : Statement) → length margin ≡ k → CanStand depth s → length (statement_text margin s) ≤ statement_size k s
  statement_short k depth margin (Assign line array index value) m h =
      let a = target_text array index in
      let b = expression_text value in
      let whole : length (statement_text margin (Assign line array index value)) ≡ length margin + length a + length b + 2 = four margin a b (codes ";\n") in
      omega (arith, whole, m, target_short array index h.1.0, expression_short value h.2.0)
  statement_short k depth margin (For line var low high body) m h =
      let a = range_text var low high in
      let t = sequence_text (wider margin) body in
      let b = block_text margin t in
      let whole : length (statement_text margin (For line var low high body)) ≡ length margin + 4 + length a + length b + 1 = five margin (codes "for ") a b (codes "\n") in
      omega (arith, whole, m, range_short var low high h.1 h.2, block_short margin t, sequence_short (k + 2) (depth + 1) (wider margin) body (wider_by k margin m) h.4)
  statement_short k depth margin (If line cond left right) m h =
      let a = expression_text cond in
      let s = sequence_text (wider margin) left in
      let t = sequence_text (wider margin) right in
      let b = block_text margin s in
      let e = else_text right (block_text margin t) in
      let whole : length (statement_text margin (If line cond left right)) ≡ length (margin ++ codes "if " ++ a ++ b ++ e) + 1 = two (margin ++ codes "if " ++ a ++ b ++ e) (codes "\n") in
      let most : length (margin ++ codes "if " ++ a ++ b ++ e) ≡ length margin + 3 + length a + length b + length e = five margin (codes "if ") a b e in
      omega (
        arith,
        whole,
        most,
        m,
        expression_short cond h.0.0,
        block_short margin s,
        block_short margin t,
        else_short right (block_text margin t),
        sequence_short (k + 2) (depth + 1) (wider margin) left (wider_by k margin m) h.2,
        sequence_short (k + 2) (depth + 1) (wider margin) right (wider_by k margin m) h.3,
      )
  statement_short k depth margin (Par line branches) m h =
      let t = branches_text (wider margin) branches in
      let whole : length (statement_text margin (Par line branches)) ≡ length margin + 6 + length t + length margin + 2 = five margin (codes "par {\n") t margin (codes "}\n") in
      omega (arith, whole, m, branches_short (k + 2) (depth + 1) (wider margin) branches (wider_by k margin m) h.2)
  statement_short k depth margin (Team line var low high members phases) m h =
      let a = dealt_text var low high members in
      let t = phases_text false margin phases in
      let whole : length (statement_text margin (Team line var low high members phases)) ≡ length margin + 5 + length a + length t + 1 = five margin (codes "team ") a t (codes "\n") in
      omega (arith, whole, m, dealt_short var low high members h.1 h.2 h.3, phases_short k depth false margin phases m h.5)

  sequence_short : (k depth : ℕ) (margin : List ℕ) (p : Sequence) → length margin ≡ k → CanFollow depth p → length (sequence_text margin p) ≤ sequence_size k p
  sequence_short k depth margin ended m h = omega arith
  sequence_short k depth margin (followed first rest) m h =
      let whole : length (sequence_text margin (followed first rest)) ≡ length (statement_text margin first) + length (sequence_text margin rest) = two (statement_text margin first) (sequence_text margin rest) in
      omega (arith, whole, statement_short k depth margin first m h.0, sequence_short k depth margin rest m h.1)

  branches_short : (k depth : ℕ) (margin : List ℕ) (ps : Sequences) → length margin ≡ k → CanBranch depth ps → length (branches_text margin ps) ≤ branches_size k ps
  branches_short k depth margin no_more m h = omega arith
  branches_short k depth margin (beside first rest) m h =
      let t = sequence_text (wider margin) first in
      let whole : length (branches_text margin (beside first rest)) ≡ length (branch_text margin t) + length (branches_text margin rest) = two (branch_text margin t) (branches_text margin rest) in
      let own : length (branch_text margin t) ≡ length margin + 2 + length t + length margin + 2 = five margin (codes "{\n") t margin (codes "}\n") in
      omega (arith, whole, own, m, sequence_short (k + 2) (depth + 1) (wider margin) first (wider_by k margin m) h.1, branches_short k depth margin rest m h.2)

  phases_short : (k depth : ℕ) (later : Bool) (margin : List ℕ) (ps : Sequences) → length margin ≡ k → CanBranch depth ps → length (phases_text later margin ps) ≤ phases_size k ps
  phases_short k depth later margin no_more m h = omega arith
  phases_short k depth later margin (beside first rest) m h =
      let t = sequence_text (wider margin) first in
      let b = block_text margin t in
      let r = phases_text true margin rest in
      let whole : length (phases_text later margin (beside first rest)) ≡ length (barrier_text later) + length b + length r = three (barrier_text later) b r in
      omega (arith, whole, m, barrier_short later, block_short margin t, sequence_short (k + 2) (depth + 1) (wider margin) first (wider_by k margin m) h.1, phases_short k depth true margin rest m h.2)

-- ---- programs
abbrev declarations_size : List Declaration → ℕ
declarations_size [] = 0
declarations_size (d ∷ ds) = length d.name + declarations_size ds + 30

declarations_short : (ds : List Declaration) → AreDeclarable ds → length (flat_map declaration_text ds) ≤ declarations_size ds
declarations_short [] h = omega arith
declarations_short (d ∷ ds) h =
    let n = signed_decimal d.length in
    let whole : length (flat_map declaration_text (d ∷ ds)) ≡ length (declaration_text d) + length (flat_map declaration_text ds) = two (declaration_text d) (flat_map declaration_text ds) in
    let own : length (declaration_text d) ≡ 6 + length d.name + 1 + length n + 3 = five (codes "array ") d.name (codes "[") n (codes "];\n") in
    omega (arith, whole, own, number_short d.length h.1, declarations_short ds h.2)

printed_short : (p : ProgramTree) → IsWritable p → length (printed p) ≤ declarations_size p.arrays + sequence_size 0 p.body
printed_short p h =
    let whole : length (printed p) ≡ length (flat_map declaration_text p.arrays) + length (sequence_text [] p.body) = two (flat_map declaration_text p.arrays) (sequence_text [] p.body) in
    omega (arith, whole, declarations_short p.arrays h.declares, sequence_short 0 0 [] p.body refl h.does)

pub made_short : (seed size : ℕ) → size ≤ 40 → length (printed (made_program seed size)) ≤ 65536
made_short seed size few = omega (arith, printed_short (made_program seed size) (made_writable seed size few))

-- The same for a function's result.
pub short_answer : {T F : Type 0} (r : Result T F) (view : T → List ℕ) (seed size : ℕ) → size ≤ 40 → IfOk r (λ x. view x ≡ printed (made_program seed size)) → IfOk r (λ x. length (view x) ≤ 65536)
short_answer (Ok x) view seed size few e = subst (λ (t : List ℕ). length t ≤ 65536) (sym e) (made_short seed size few)
short_answer (Err f) view seed size few e = tt

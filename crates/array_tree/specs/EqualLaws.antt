-- `==` of trees is equality.
use Rattle.std.proofs.Common.{◌≡◌, ◌↔◌, ℕ, ℤ, IsTrue, arith, List, [], ◌∷◌, Bool, true, false, ◌&&◌, nat_eq, refl, sym, ap, ◌∙◌, subst}
use Rattle.std.specs.Ordering.{int_eq}
use Rattle.std.specs.Cmp.{IsPartialEquivalence}
use Rattle.std.specs.Cmp.Lexicographic.{same_text}
use Rattle.std.proofs.lemmas.Cmp.{int_eq_equiv, nat_list_eq_equiv}
use Rattle.std.proofs.lemmas.Bool.{eqb-true, eq-eqb}
use Rattle.std.proofs.lemmas.Bool.Decides.{Decides-int_eq}
use Rattle.std.proofs.lemmas.Grind.{common_steps}
use Rattle.array_tree.specs.declared.tree.Op.{Op}
use Rattle.array_tree.specs.declared.tree.Op.TheVariants as ops
use Rattle.array_tree.specs.Trees.{Expression, Number, Var, Read, Neg, Binary, Statement, Assign, For, If, Par, Team, Sequence, ended, followed, Sequences, no_more, beside, Declaration, ProgramTree}
use Rattle.array_tree.specs.Equal.{op_number, name_eq, expression_eq, statement_eq, sequence_eq, sequences_eq, declaration_eq, declarations_eq, program_eq}

both : (a b : Bool) → (a && b) ≡ true → (a ≡ true) × (b ≡ true)
both true true h = (refl, refl)
both true false h = cc
both false b h = cc

and_true : {a b : Bool} → a ≡ true → b ≡ true → (a && b) ≡ true
and_true p q = rw p q

op_same : (o p : Op) → op_number o ≡ op_number p → o ≡ p
op_same ops.Add ops.Add h = refl
op_same ops.Sub ops.Sub h = refl
op_same ops.Mul ops.Mul h = refl
op_same ops.Div ops.Div h = refl
op_same ops.Rem ops.Rem h = refl
op_same ops.Less ops.Less h = refl
op_same ops.Greater ops.Greater h = refl
op_same ops.LessEq ops.LessEq h = refl
op_same ops.GreaterEq ops.GreaterEq h = refl
op_same ops.Equal ops.Equal h = refl
op_same ops.NotEqual ops.NotEqual h = refl
op_same o p h = absurd (omega arith)

name_same : (a b : List ℕ) → name_eq a b ≡ true → a ≡ b
name_same a b h = same_text a b (sym h)

name_refl : (a : List ℕ) → name_eq a a ≡ true
name_refl a = nat_list_eq_equiv.refl a

int_same : (m n : ℤ) → int_eq m n ≡ true → m ≡ n
int_same m n h = grind (arith, common_steps, Decides-int_eq m n)

number_refl : (n : ℕ) → nat_eq n n ≡ true
number_refl n = eq-eqb n n refl

-- Expressions that pass the test are equal.
pub expression_same : (x y : Expression) → expression_eq x y ≡ true → x ≡ y
expression_same (Number m) (Number n) h = ap Number (int_same m n h)
expression_same (Var a) (Var b) h = ap Var (name_same a b h)
expression_same (Read a i) (Read b j) h =
    let p = both _ _ h in
    let name : a ≡ b = name_same a b p.0 in
    let index : i ≡ j = expression_same i j p.1 in cc
expression_same (Neg x) (Neg y) h = ap Neg (expression_same x y h)
expression_same (Binary o x y) (Binary p u v) h =
    let q = both _ _ h in let r = both _ _ q.1 in
    let op : o ≡ p = op_same o p (eqb-true _ _ q.0) in
    let left : x ≡ u = expression_same x u r.0 in
    let right : y ≡ v = expression_same y v r.1 in cc
expression_same x y h = cc

-- Each expression passes the test with itself.
pub expression_refl : (x : Expression) → expression_eq x x ≡ true
expression_refl (Number m) = int_eq_equiv.refl m
expression_refl (Var a) = name_refl a
expression_refl (Read a i) = and_true (name_refl a) (expression_refl i)
expression_refl (Neg x) = expression_refl x
expression_refl (Binary o x y) = and_true (number_refl (op_number o)) (and_true (expression_refl x) (expression_refl y))

mutual
  pub statement_same : (c d : Statement) → statement_eq c d ≡ true → c ≡ d
  statement_same (Assign k a i v) (Assign l b j w) h =
      let p = both _ _ h in let q = both _ _ p.1 in let r = both _ _ q.1 in
      let line : k ≡ l = eqb-true k l p.0 in
      let array : a ≡ b = name_same a b q.0 in
      let index : i ≡ j = expression_same i j r.0 in
      let value : v ≡ w = expression_same v w r.1 in cc
  statement_same (For k a m n p) (For l b m' n' q) h =
      let r = both _ _ h in let s = both _ _ r.1 in let t = both _ _ s.1 in let u = both _ _ t.1 in
      let line : k ≡ l = eqb-true k l r.0 in
      let var : a ≡ b = name_same a b s.0 in
      let low : m ≡ m' = int_same m m' t.0 in
      let high : n ≡ n' = int_same n n' u.0 in
      let body : p ≡ q = sequence_same p q u.1 in cc
  statement_same (If k x p q) (If l y p' q') h =
      let r = both _ _ h in let s = both _ _ r.1 in let t = both _ _ s.1 in
      let line : k ≡ l = eqb-true k l r.0 in
      let cond : x ≡ y = expression_same x y s.0 in
      let then_block : p ≡ p' = sequence_same p p' t.0 in
      let else_block : q ≡ q' = sequence_same q q' t.1 in cc
  statement_same (Par k bs) (Par l cs) h =
      let r = both _ _ h in
      let line : k ≡ l = eqb-true k l r.0 in
      let branches : bs ≡ cs = sequences_same bs cs r.1 in cc
  statement_same (Team k a m n j bs) (Team l b m' n' j' cs) h =
      let r = both _ _ h in let s = both _ _ r.1 in let t = both _ _ s.1 in let u = both _ _ t.1 in let w = both _ _ u.1 in
      let line : k ≡ l = eqb-true k l r.0 in
      let var : a ≡ b = name_same a b s.0 in
      let low : m ≡ m' = int_same m m' t.0 in
      let high : n ≡ n' = int_same n n' u.0 in
      let members : j ≡ j' = int_same j j' w.0 in
      let phases : bs ≡ cs = sequences_same bs cs w.1 in cc
  statement_same c d h = cc

  pub sequence_same : (p q : Sequence) → sequence_eq p q ≡ true → p ≡ q
  sequence_same ended ended h = refl
  sequence_same (followed c p) (followed d q) h =
      let r = both _ _ h in
      let first : c ≡ d = statement_same c d r.0 in
      let rest : p ≡ q = sequence_same p q r.1 in cc
  sequence_same p q h = cc

  pub sequences_same : (bs cs : Sequences) → sequences_eq bs cs ≡ true → bs ≡ cs
  sequences_same no_more no_more h = refl
  sequences_same (beside p bs) (beside q cs) h =
      let r = both _ _ h in
      let first : p ≡ q = sequence_same p q r.0 in
      let rest : bs ≡ cs = sequences_same bs cs r.1 in cc
  sequences_same bs cs h = cc

mutual
  pub statement_refl : (c : Statement) → statement_eq c c ≡ true
  statement_refl (Assign k a i v) = and_true (number_refl k) (and_true (name_refl a) (and_true (expression_refl i) (expression_refl v)))
  statement_refl (For k a m n p) =
      and_true (number_refl k) (and_true (name_refl a) (and_true (int_eq_equiv.refl m) (and_true (int_eq_equiv.refl n) (sequence_refl p))))
  statement_refl (If k x p q) = and_true (number_refl k) (and_true (expression_refl x) (and_true (sequence_refl p) (sequence_refl q)))
  statement_refl (Par k bs) = and_true (number_refl k) (sequences_refl bs)
  statement_refl (Team k a m n j bs) =
      and_true (number_refl k) (and_true (name_refl a) (and_true (int_eq_equiv.refl m) (and_true (int_eq_equiv.refl n) (and_true (int_eq_equiv.refl j) (sequences_refl bs)))))

  pub sequence_refl : (p : Sequence) → sequence_eq p p ≡ true
  sequence_refl ended = refl
  sequence_refl (followed c p) = and_true (statement_refl c) (sequence_refl p)

  pub sequences_refl : (bs : Sequences) → sequences_eq bs bs ≡ true
  sequences_refl no_more = refl
  sequences_refl (beside p bs) = and_true (sequence_refl p) (sequences_refl bs)

-- The declaration with these parts.
abbrev declared : ℕ → List ℕ → ℤ → Declaration
declared line name length = record { line = line; name = name; length = length }

-- Declarations that pass the test are equal.
pub declaration_same : (d e : Declaration) → declaration_eq d e ≡ true → d ≡ e
declaration_same d e h =
    let p = both _ _ h in let q = both _ _ p.1 in
    let line : d.line ≡ e.line = eqb-true d.line e.line p.0 in
    let name : d.name ≡ e.name = name_same d.name e.name q.0 in
    let size : d.length ≡ e.length = int_same d.length e.length q.1 in
    ap (λ l. declared l d.name d.length) line ∙ ap (λ n. declared e.line n d.length) name ∙ ap (declared e.line e.name) size

-- Each declaration passes the test with itself.
pub declaration_refl : (d : Declaration) → declaration_eq d d ≡ true
declaration_refl d = and_true (number_refl d.line) (and_true (name_refl d.name) (int_eq_equiv.refl d.length))

-- Lists of declarations that pass the test are equal.
pub declarations_same : (ds es : List Declaration) → declarations_eq ds es ≡ true → ds ≡ es
declarations_same [] [] h = refl
declarations_same (d ∷ ds) (e ∷ es) h =
    let p = both _ _ h in
    let first : d ≡ e = declaration_same d e p.0 in
    let rest : ds ≡ es = declarations_same ds es p.1 in cc
declarations_same ds es h = cc

-- Each list of declarations passes the test with itself.
pub declarations_refl : (ds : List Declaration) → declarations_eq ds ds ≡ true
declarations_refl [] = refl
declarations_refl (d ∷ ds) = and_true (declaration_refl d) (declarations_refl ds)

-- The program with these parts.
abbrev program : List Declaration → Sequence → ProgramTree
program arrays body = record { arrays = arrays; body = body }

-- Programs that pass the test are equal.
pub program_same : (p q : ProgramTree) → program_eq p q ≡ true → p ≡ q
program_same p q h =
    let r = both _ _ h in
    let arrays : p.arrays ≡ q.arrays = declarations_same p.arrays q.arrays r.0 in
    let body : p.body ≡ q.body = sequence_same p.body q.body r.1 in
    ap (λ ds. program ds p.body) arrays ∙ ap (program q.arrays) body

-- Each program passes the test with itself.
pub program_refl : (p : ProgramTree) → program_eq p p ≡ true
program_refl p = and_true (declarations_refl p.arrays) (sequence_refl p.body)

-- The test is true exactly if the two are equal.
decided : {X : Type 0} (eq : X → X → Bool) → ((x y : X) → eq x y ≡ true → x ≡ y) → ((x : X) → eq x x ≡ true) → (x y : X) (b : Bool) → b ≡ eq x y → IsTrue b ↔ (x ≡ y)
decided eq same all x y b e = rw e (λ h. same x y h, λ p. subst (λ z. eq x z ≡ true) p (all x))

-- `==` returns true exactly if the two trees are equal.
pub expression_decided : (x y : Expression) (b : Bool) → b ≡ expression_eq x y → IsTrue b ↔ (x ≡ y)
expression_decided = decided expression_eq expression_same expression_refl

-- The same for statements.
pub statement_decided : (x y : Statement) (b : Bool) → b ≡ statement_eq x y → IsTrue b ↔ (x ≡ y)
statement_decided = decided statement_eq statement_same statement_refl

-- The same for sequences.
pub sequence_decided : (x y : Sequence) (b : Bool) → b ≡ sequence_eq x y → IsTrue b ↔ (x ≡ y)
sequence_decided = decided sequence_eq sequence_same sequence_refl

-- The same for branches or phases.
pub sequences_decided : (x y : Sequences) (b : Bool) → b ≡ sequences_eq x y → IsTrue b ↔ (x ≡ y)
sequences_decided = decided sequences_eq sequences_same sequences_refl

-- The same for declarations.
pub declaration_decided : (x y : Declaration) (b : Bool) → b ≡ declaration_eq x y → IsTrue b ↔ (x ≡ y)
declaration_decided = decided declaration_eq declaration_same declaration_refl

-- The same for lists of declarations.
pub declarations_decided : (x y : List Declaration) (b : Bool) → b ≡ declarations_eq x y → IsTrue b ↔ (x ≡ y)
declarations_decided = decided declarations_eq declarations_same declarations_refl

-- The same for programs.
pub program_decided : (x y : ProgramTree) (b : Bool) → b ≡ program_eq x y → IsTrue b ↔ (x ≡ y)
program_decided = decided program_eq program_same program_refl

false_unless : (b : Bool) → (b ≡ true → ⊥) → b ≡ false
false_unless true h = absurd (h refl)
false_unless false h = refl

symm_by : {X : Type 0} (eq : X → X → Bool) → ((x y : X) → eq x y ≡ true → x ≡ y) → ((x : X) → eq x x ≡ true) → (x y : X) (b : Bool) → eq x y ≡ b → eq x y ≡ eq y x
symm_by eq same all x y true e = subst (λ z. eq x z ≡ eq z x) (same x y e) refl
symm_by eq same all x y false e =
    e ∙ sym (false_unless (eq y x) (λ h. let k : eq x y ≡ true = subst (λ z. eq z y ≡ true) (same y x h) (all y) in let n = sym k ∙ e in cc))

-- Such a test, of the views, is symmetric and transitive.
pub equal_laws : {K X : Type 0} (view : K → X) (eq : X → X → Bool) → ((x y : X) → eq x y ≡ true → x ≡ y) → ((x : X) → eq x x ≡ true) → IsPartialEquivalence (λ a b. eq (view a) (view b))
equal_laws view eq same all = record {
  symm = λ x y. symm_by eq same all (view x) (view y) (eq (view x) (view y)) refl;
  trans = λ x y z p q. subst (λ t. eq (view x) t ≡ true) (same (view y) (view z) q) p;
}

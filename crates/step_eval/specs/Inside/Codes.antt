-- Codes of trees and of works, by which proofs distinguish them.
-- Only proofs need these, here and in the crates above.
use Rattle.std.specs.Prelude.{ℕ, List}
use Rattle.std.proofs.Common.{◌≡◌, ap, refl}
use base.Stored.{Gv, gnil, gnum, gcons, Coded, coded_ℕ, coded_ℤ, coded_list}
use Rattle.array_tree.specs.contracts.tree.Op as op_type
use Rattle.array_tree.specs.Trees.{Expression, Number, Var, Read, Neg, Binary, Statement, Assign, For, If, Par, Team, Sequence, ended, followed, Sequences, no_more, beside}

-- The first part of a code.
abbrev head : Gv → Gv
head gnil = gnil
head (gnum n) = gnil
head (gcons a b) = a

-- The second part of a code.
abbrev tail : Gv → Gv
tail gnil = gnil
tail (gnum n) = gnil
tail (gcons a b) = b

-- The codes of names.
abbrev name_code : Coded (List ℕ)
name_code = coded_list coded_ℕ

-- The code of an expression has a number for its kind, and the codes of its parts.
abbrev pub expression_code : Expression → Gv
expression_code (Number n) = gcons (gnum 0) (coded_ℤ.code n)
expression_code (Var name) = gcons (gnum 1) (name_code.code name)
expression_code (Read array index) =
    gcons (gnum 2) (gcons (name_code.code array) (expression_code index))
expression_code (Neg e) = gcons (gnum 3) (expression_code e)
expression_code (Binary op a b) =
    gcons (gnum 4) (gcons (op_type.the_row.coded.code op)
    (gcons (expression_code a) (expression_code b)))

-- Expressions with the same code are equal.
pub expression_inj : (x y : Expression) → expression_code x ≡ expression_code y → x ≡ y
expression_inj (Number n) (Number m) p = ap Number (coded_ℤ.inj n m (ap tail p))
expression_inj (Var v) (Var w) p = ap Var (name_code.inj v w (ap tail p))
expression_inj (Read a i) (Read b j) p =
    let e = name_code.inj a b (ap (λ g. head (tail g)) p) in let f = expression_inj i j
    (ap (λ g. tail (tail g)) p) in cc
expression_inj (Neg e) (Neg f) p = ap Neg (expression_inj e f (ap tail p))
expression_inj (Binary o a b) (Binary q c d) p =
    let same = op_type.the_row.coded.inj o q (ap (λ g. head (tail g)) p) in
    let left = expression_inj a c (ap (λ g. head (tail (tail g))) p) in
    let right = expression_inj b d (ap (λ g. tail (tail (tail g))) p) in cc
expression_inj x y p = cc

-- The codes of statements, sequences, and branches or phases: a number for the kind, and the codes of the parts.
abbrev mutual
  pub statement_code : Statement → Gv
  statement_code (Assign line array index value) =
      gcons (gnum 0) (gcons (gnum line)
      (gcons (name_code.code array) (gcons (expression_code index) (expression_code value))))
  statement_code (For line var low high body) =
      gcons (gnum 1) (gcons (gnum line)
      (gcons (name_code.code var)
      (gcons (coded_ℤ.code low) (gcons (coded_ℤ.code high) (sequence_code body)))))
  statement_code (If line cond then_block else_block) =
      gcons (gnum 2) (gcons (gnum line)
      (gcons (expression_code cond)
      (gcons (sequence_code then_block) (sequence_code else_block))))
  statement_code (Par line branches) = gcons (gnum 3) (gcons (gnum line) (sequences_code branches))
  statement_code (Team line var low high members phases) =
      gcons (gnum 4) (gcons (gnum line)
      (gcons (name_code.code var)
      (gcons (coded_ℤ.code low)
      (gcons (coded_ℤ.code high) (gcons (coded_ℤ.code members) (sequences_code phases))))))

  pub sequence_code : Sequence → Gv
  sequence_code ended = gnil
  sequence_code (followed first rest) = gcons (statement_code first) (sequence_code rest)

  pub sequences_code : Sequences → Gv
  sequences_code no_more = gnil
  sequences_code (beside first rest) = gcons (sequence_code first) (sequences_code rest)

-- The part of a code at index 2.
abbrev at_2 : Gv → Gv
at_2 g = head (tail (tail g))

-- The part of a code at index 3.
abbrev at_3 : Gv → Gv
at_3 g = head (tail (tail (tail g)))

-- The part of a code at index 4.
abbrev at_4 : Gv → Gv
at_4 g = head (tail (tail (tail (tail g))))

-- The parts of a code from index 4 on.
abbrev from_4 : Gv → Gv
from_4 g = tail (tail (tail (tail g)))

mutual
  pub statement_inj : (x y : Statement) → statement_code x ≡ statement_code y → x ≡ y
  statement_inj (Assign l a i e) (Assign m b j f) p =
      let line = coded_ℕ.inj l m (ap (λ g. head (tail g)) p) in
      let array = name_code.inj a b (ap at_2 p) in
      let index = expression_inj i j (ap at_3 p) in
      let value = expression_inj e f (ap from_4 p) in cc
  statement_inj (For l v low high body) (For m w low' high' body') p =
      let line = coded_ℕ.inj l m (ap (λ g. head (tail g)) p) in
      let var = name_code.inj v w (ap at_2 p) in
      let lows = coded_ℤ.inj low low' (ap at_3 p) in
      let highs = coded_ℤ.inj high high' (ap at_4 p) in
      let bodies = sequence_inj body body' (ap (λ g. tail (from_4 g)) p) in cc
  statement_inj (If l c a b) (If m d e f) p =
      let line = coded_ℕ.inj l m (ap (λ g. head (tail g)) p) in
      let cond = expression_inj c d (ap at_2 p) in
      let left = sequence_inj a e (ap at_3 p) in
      let right = sequence_inj b f (ap from_4 p) in cc
  statement_inj (Par l a) (Par m b) p =
      let line = coded_ℕ.inj l m (ap (λ g. head (tail g)) p) in
      let branches = sequences_inj a b (ap (λ g. tail (tail g)) p) in cc
  statement_inj (Team l v low high n a) (Team m w low' high' k b) p =
      let line = coded_ℕ.inj l m (ap (λ g. head (tail g)) p) in
      let var = name_code.inj v w (ap at_2 p) in
      let lows = coded_ℤ.inj low low' (ap at_3 p) in
      let highs = coded_ℤ.inj high high' (ap at_4 p) in
      let members = coded_ℤ.inj n k (ap (λ g. head (tail (from_4 g))) p) in
      let phases = sequences_inj a b (ap (λ g. tail (tail (from_4 g))) p) in cc
  statement_inj x y p = cc

  pub sequence_inj : (x y : Sequence) → sequence_code x ≡ sequence_code y → x ≡ y
  sequence_inj ended ended p = refl
  sequence_inj (followed a x) (followed b y) p =
      let first = statement_inj a b (ap head p) in
      let rest = sequence_inj x y (ap tail p) in cc
  sequence_inj x y p = cc

  pub sequences_inj : (x y : Sequences) → sequences_code x ≡ sequences_code y → x ≡ y
  sequences_inj no_more no_more p = refl
  sequences_inj (beside a x) (beside b y) p =
      let first = sequence_inj a b (ap head p) in
      let rest = sequences_inj x y (ap tail p) in cc
  sequences_inj x y p = cc

-- The codes of sequences.
abbrev pub coded_sequence : Coded Sequence
coded_sequence = record { code = sequence_code; inj = sequence_inj }

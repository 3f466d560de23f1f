-- The parents that unrolling gives are the plan.
use Rattle.std.proofs.Common.{◌≡◌, ℕ, zero, suc, ◌+◌, ◌*◌, ◌<◌, ◌≤◌, min, List, [], ◌∷◌, ◌++◌, length, Some, None, Bool, true, false, nat_le, cond, arith, refl, ap, sym, subst, ◌∙◌, append_assoc, length-append, unsigned_abs}
use Rattle.std.specs.Prelude.{if◌then◌else◌}
use Rattle.std.proofs.lemmas.List.{append-nil, map-append, length-map}
use Rattle.std.proofs.lemmas.Bool.Decides.{nat_tests}
use Rattle.array_tree.specs.Trees.{Statement, Assign, For, If, Par, Team, Sequence, ended, followed, Sequences, no_more, beside, ProgramTree}
use Rattle.array_meaning.specs.Work.{span}
use Rattle.array_meaning.specs.Limits.{count_of}
use Rattle.array_meaning.specs.Plans.{Parents, and_then, repeated, construct, statement_parents, sequence_parents, branches_parents, phases_parents, plan_of, sites_in, statement_sites_in, branches_sites_in}
use Rattle.transfer_table.specs.Plan.{bad_parent}
use Rattle.disjoint_check.specs.declared.unroll.Site.{Site}
use Rattle.disjoint_check.specs.Inside.Unrolled.{Rows, parents_in, last_site, parts, row, repeat, with_statement, with_sequence, with_branches, with_phases}

-- Unrolling adds so many sites, with these parents.
record Adds (f : Rows → Rows) (b : ℕ → List ℕ) (s : ℕ) : Type 0 where
  size : (rows : Rows) → length (f rows) ≡ length rows + s
  list : (rows : Rows) → length rows + s ≤ 65535 → parents_in (f rows) ≡ parents_in rows ++ b (length rows + 1)

nothing : Adds (λ rows. rows) (λ next. []) 0
nothing = record {
  size = λ rows. omega arith;
  list = λ rows room. sym (append-nil (parents_in rows));
}

parents_length : (rows : Rows) → length (parents_in rows) ≡ length rows
parents_length rows = length-map rows (λ r. r.parent)

added : (f : Rows → Rows) (b : ℕ → List ℕ) (s : ℕ) → Adds f b s → (rows : Rows) → length rows + s ≤ 65535 →
    length (f rows) ≡ length rows + length (b (length rows + 1))
added f b s h rows room =
    sym (parents_length (f rows)) ∙ ap length (h.list rows room) ∙ length-append (parents_in rows) (b (length rows + 1))
    ∙ ap (λ n. n + length (b (length rows + 1))) (parents_length rows)

next_is : (a n m : ℕ) → a ≡ n + m → a + 1 ≡ n + 1 + m
next_is a n m h = omega (arith, h)

room_left : (n s t : ℕ) → n + (s + t) ≤ 65535 → n + s ≤ 65535
room_left n s t h = omega (arith, h)

room_right : (a n s t : ℕ) → a ≡ n + s → n + (s + t) ≤ 65535 → a + t ≤ 65535
room_right a n s t e h = omega (arith, e, h)

size_sum : (a n s t : ℕ) → a ≡ n + s → a + t ≡ n + (s + t)
size_sum a n s t e = omega (arith, e)

in_turn : (f g : Rows → Rows) (b c : ℕ → List ℕ) (s t : ℕ) → Adds f b s → Adds g c t →
    Adds (λ rows. g (f rows)) (λ next. b next ++ c (next + length (b next))) (s + t)
in_turn f g b c s t h k = record {
  size = λ rows. k.size (f rows) ∙ size_sum (length (f rows)) (length rows) s t (h.size rows);
  list = λ rows room.
      let first = room_left (length rows) s t room in
      k.list (f rows) (room_right (length (f rows)) (length rows) s t (h.size rows) room)
      ∙ ap (λ xs. xs ++ c (length (f rows) + 1)) (h.list rows first)
      ∙ ap (λ n. (parents_in rows ++ b (length rows + 1)) ++ c n)
      (next_is (length (f rows)) (length rows) (length (b (length rows + 1))) (added f b s h rows first))
      ∙ append_assoc (parents_in rows) (b (length rows + 1)) (c (length rows + 1 + length (b (length rows + 1))));
}

resized : (f : Rows → Rows) (b : ℕ → List ℕ) (s t : ℕ) → s ≡ t → Adds f b s → Adds f b t
resized f b s t e h = let P : ℕ → Type 0 = λ n. Adds f b n in subst P e h

times_more : (n s : ℕ) → s + n * s ≡ suc n * s
times_more n s = grind arith

many : (n : ℕ) (f : Rows → Rows) (body : Parents) (around s : ℕ) → Adds f (λ next. body around next) s →
    Adds (λ rows. repeat n f rows) (λ next. repeated n body around next) (n * s)
many zero f body around s h = resized (λ rows. rows) (λ next. []) 0 (0 * s) (grind arith) nothing
many (suc n) f body around s h =
    resized (λ rows. repeat n f (f rows)) (λ next. and_then body (repeated n body) around next) (s + n * s) (suc n * s) (times_more n s)
    (in_turn f (λ rows. repeat n f rows) (λ next. body around next) (λ next. repeated n body around next) s (n * s) h (many n f body around s h))

length_more : (rows : Rows) (x : Site) → length (rows ++ x ∷ []) ≡ length rows + 1
length_more rows x = length-append rows (x ∷ []) ∙ same (length rows)
  where
    same : (n : ℕ) → n + length (x ∷ []) ≡ n + 1
    same n = omega arith

opened : (x : Site) (inside : ℕ → Rows → Rows) (b : Parents) (s : ℕ) → ((a : ℕ) → Adds (λ rows. inside a rows) (λ next. b a next) s) →
    Adds (λ rows. inside (last_site (rows ++ x ∷ [])) (rows ++ x ∷ [])) (λ next. x.parent ∷ b next (next + 1)) (1 + s)
opened x inside b s h = record {
  size = λ rows. (h (last_site (rows ++ x ∷ []))).size (rows ++ x ∷ []) ∙ size_sum (length (rows ++ x ∷ [])) (length rows) 1 s (length_more rows x);
  list = λ rows room.
      let more = rows ++ x ∷ [] in
      let n = length rows in
      (h (last_site more)).list more (room_right (length more) n 1 s (length_more rows x) room)
      ∙ ap (λ xs. xs ++ b (last_site more) (length more + 1)) (map-append (λ r. r.parent) rows (x ∷ []))
      ∙ ap (λ a. (parents_in rows ++ x.parent ∷ []) ++ b a (length more + 1)) (last_is (length more) n (length_more rows x) (room_left n 1 s room))
      ∙ ap (λ m. (parents_in rows ++ x.parent ∷ []) ++ b (n + 1) (m + 1)) (length_more rows x)
      ∙ append_assoc (parents_in rows) (x.parent ∷ []) (b (n + 1) (n + 1 + 1));
}
  where
    last_is : (m n : ℕ) → m ≡ n + 1 → n + 1 ≤ 65535 → min m 65535 ≡ n + 1
    last_is m n e h = omega (arith, e, h)

times_sum : (n s t : ℕ) → n * s + n * t ≡ n * (s + t)
times_sum n s t = grind arith

times_none : (n : ℕ) → 0 ≡ n * 0
times_none n = omega arith

mutual
  sequence_adds : (p : Sequence) (around : ℕ) → Adds (λ rows. with_sequence p around rows) (λ next. sequence_parents p around next) (sites_in p)
  sequence_adds ended around = nothing
  sequence_adds (followed s p) around =
      in_turn (λ rows. with_statement s around rows) (λ rows. with_sequence p around rows) (λ next. statement_parents s around next)
      (λ next. sequence_parents p around next) (statement_sites_in s) (sites_in p) (statement_adds s around) (sequence_adds p around)

  statement_adds : (s : Statement) (around : ℕ) → Adds (λ rows. with_statement s around rows) (λ next. statement_parents s around next) (statement_sites_in s)
  statement_adds (Assign line array index value) around = nothing
  statement_adds (For line var low high body) around =
      many (span low high) (λ rows. with_sequence body around rows) (sequence_parents body) around (sites_in body) (sequence_adds body around)
  statement_adds (If line cond t e) around =
      in_turn (λ rows. with_sequence t around rows) (λ rows. with_sequence e around rows) (λ next. sequence_parents t around next)
      (λ next. sequence_parents e around next) (sites_in t) (sites_in e) (sequence_adds t around) (sequence_adds e around)
  statement_adds (Par line branches) around =
      opened (row around (parts (count_of branches)) 0) (with_branches branches) (branches_parents branches) (branches_sites_in branches)
      (λ a. branches_add branches a)
  statement_adds (Team line var low high members phases) around =
      opened (row around (parts (unsigned_abs members)) (parts (count_of phases))) (with_phases phases (span low high))
      (phases_parents phases (span low high)) (span low high * branches_sites_in phases) (λ a. phases_add phases (span low high) a)

  branches_add : (bs : Sequences) (around : ℕ) → Adds (λ rows. with_branches bs around rows) (λ next. branches_parents bs around next) (branches_sites_in bs)
  branches_add no_more around = nothing
  branches_add (beside p bs) around =
      in_turn (λ rows. with_sequence p around rows) (λ rows. with_branches bs around rows) (λ next. sequence_parents p around next)
      (λ next. branches_parents bs around next) (sites_in p) (branches_sites_in bs) (sequence_adds p around) (branches_add bs around)

  phases_add : (bs : Sequences) (n around : ℕ) →
      Adds (λ rows. with_phases bs n around rows) (λ next. phases_parents bs n around next) (n * branches_sites_in bs)
  phases_add no_more n around = resized (λ rows. rows) (λ next. []) 0 (n * 0) (times_none n) nothing
  phases_add (beside p bs) n around =
      resized (λ rows. with_phases bs n around (repeat n (with_sequence p around) rows))
      (λ next. and_then (repeated n (sequence_parents p)) (phases_parents bs n) around next)
      (n * sites_in p + n * branches_sites_in bs) (n * (sites_in p + branches_sites_in bs)) (times_sum n (sites_in p) (branches_sites_in bs))
      (in_turn (λ rows. repeat n (with_sequence p around) rows) (λ rows. with_phases bs n around rows) (λ next. repeated n (sequence_parents p) around next)
      (λ next. phases_parents bs n around next) (n * sites_in p) (n * branches_sites_in bs)
      (many n (λ rows. with_sequence p around rows) (sequence_parents p) around (sites_in p) (sequence_adds p around)) (phases_add bs n around))

-- The plan of a program with few sites.
pub plan_is : (program : ProgramTree) → sites_in program.body ≤ 4095 → parents_in (with_sequence program.body 0 []) ≡ plan_of program
plan_is program few = (sequence_adds program.body 0).list [] (omega (arith, few))

pub plan_length : (program : ProgramTree) → length (with_sequence program.body 0 []) ≡ sites_in program.body
plan_length program = (sequence_adds program.body 0).size [] ∙ same (sites_in program.body)
  where
    same : (n : ℕ) → 0 + n ≡ n
    same n = omega arith

-- Each parent is below its site.
abbrev IsGood : Parents → Type 0
IsGood parents = (around next : ℕ) → around < next → bad_parent (parents around next) next ≡ None

not_le : (a b : ℕ) → b < a → nat_le a b ≡ false
not_le a b h = grind (arith, nat_tests)

-- One more element.
good_more : (q : ℕ) (xs ys : List ℕ) (k : ℕ) (b : Bool) → nat_le k q ≡ b → bad_parent (q ∷ xs) k ≡ None → bad_parent ys (k + length (q ∷ xs)) ≡ None →
    (bad_parent xs (k + 1) ≡ None → bad_parent ys (k + 1 + length xs) ≡ None → bad_parent (xs ++ ys) (k + 1) ≡ None) →
    bad_parent (q ∷ xs ++ ys) k ≡ None
good_more q xs ys k true e h more next = let no : Some k ≡ None = ap (λ t. if t then Some k else bad_parent xs (k + 1)) (sym e) ∙ h in cc
good_more q xs ys k false e h more next =
    let rest : bad_parent xs (k + 1) ≡ None = ap (λ t. if t then Some k else bad_parent xs (k + 1)) (sym e) ∙ h in
    let count : k + length (q ∷ xs) ≡ k + 1 + length xs = omega arith in
    ap (λ t. if t then Some k else bad_parent (xs ++ ys) (k + 1)) e ∙ next rest (ap (bad_parent ys) (sym count) ∙ more)

good_append : (xs ys : List ℕ) (k : ℕ) → bad_parent xs k ≡ None → bad_parent ys (k + length xs) ≡ None → bad_parent (xs ++ ys) k ≡ None
good_append [] ys k h more = ap (bad_parent ys) (same k) ∙ more
  where
    same : (k : ℕ) → k ≡ k + 0
    same k = omega arith
good_append (q ∷ xs) ys k h more = good_more q xs ys k (nat_le k q) refl h more (λ first rest. good_append xs ys (k + 1) first rest)

good_then : (b c : Parents) → IsGood b → IsGood c → IsGood (and_then b c)
good_then b c h k around next below =
    good_append (b around next) (c around (next + length (b around next))) next (h around next below)
    (k around (next + length (b around next)) (omega (arith, below)))

good_many : (n : ℕ) (b : Parents) → IsGood b → IsGood (repeated n b)
good_many zero b h around next below = refl
good_many (suc n) b h around next below = good_then b (repeated n b) h (good_many n b h) around next below

good_inside : (b : Parents) → IsGood b → IsGood (construct b)
good_inside b h around next below =
    ap (λ t. if t then Some next else bad_parent (b next (next + 1)) (next + 1)) (not_le next around below) ∙ h next (next + 1) (omega arith)

mutual
  good_sequence : (p : Sequence) → IsGood (sequence_parents p)
  good_sequence ended around next below = refl
  good_sequence (followed s p) around next below = good_then (statement_parents s) (sequence_parents p) (good_statement s) (good_sequence p) around next below

  good_statement : (s : Statement) → IsGood (statement_parents s)
  good_statement (Assign line array index value) around next below = refl
  good_statement (For line var low high body) around next below = good_many (span low high) (sequence_parents body) (good_sequence body) around next below
  good_statement (If line cond t e) around next below =
      good_then (sequence_parents t) (sequence_parents e) (good_sequence t) (good_sequence e) around next below
  good_statement (Par line branches) around next below = good_inside (branches_parents branches) (good_branches branches) around next below
  good_statement (Team line var low high members phases) around next below =
      good_inside (phases_parents phases (span low high)) (good_phases phases (span low high)) around next below

  good_branches : (bs : Sequences) → IsGood (branches_parents bs)
  good_branches no_more around next below = refl
  good_branches (beside p bs) around next below = good_then (sequence_parents p) (branches_parents bs) (good_sequence p) (good_branches bs) around next below

  good_phases : (bs : Sequences) (n : ℕ) → IsGood (phases_parents bs n)
  good_phases no_more n around next below = refl
  good_phases (beside p bs) n around next below =
      good_then (repeated n (sequence_parents p)) (phases_parents bs n) (good_many n (sequence_parents p) (good_sequence p)) (good_phases bs n) around next below

pub good_plan : (program : ProgramTree) → bad_parent (plan_of program) 1 ≡ None
good_plan program = good_sequence program.body 0 1 (omega arith)

-- The table's marks of a cell, visit by visit and piece by piece.
use Rattle.std.proofs.Common.{◌≡◌, ℕ, ◌+◌, ◌<◌, cond, Bool, true, false, List, [], ◌∷◌, length, Option, Some, None, ℤ, refl, sym, ap, ◌∙◌, arith, length-set}
use Rattle.std.specs.List.{fold}
use Rattle.std.specs.Prelude.{nat_eq, ◌&&◌, ◌||◌, not, slice_set, slice_index_or}
use Rattle.std.proofs.lemmas.Bool.{false≢true}
use Rattle.std.proofs.lemmas.Bool.Decides.{nat_tests}
use Rattle.std.proofs.lemmas.List.{get_or-set_same, get_or-set_other}
use Rattle.array_meaning.specs.Stores.{Arrays, cell_of, cells_of}
use Rattle.array_meaning.specs.Steps.{Steps}
use Rattle.array_meaning.specs.Touch.{Visit, walk}
use Rattle.array_meaning.specs.Overlap.{covers, changed, read}
use Rattle.array_eval.specs.Layouts.{number_of}
use Rattle.site_walk.specs.Inside.Numbers.{array_at}
use Rattle.site_walk.proofs.NumberLemmas.{array_there, covers_number}
use Rattle.phase_order.specs.Tests.{is_changed, is_read}
use Rattle.pipe_walk.specs.declared.members.Members.{Members}
use Rattle.pipe_walk.specs.declared.members.Members.TheVariants.{Between}
use Rattle.pipe_walk.specs.declared.touch.Touch.{Touch}
use Rattle.pipe_walk.specs.Inside.Members.{joined_members, joined, untouched, touch_in, touch_by}
use Rattle.pipe_walk.specs.Inside.Tables.{TableParts, touch_at, added, IsFor}
use Rattle.pipe_walk.specs.Inside.Marks.{with_touch, with_visit, with_piece, with_pieces}
use Rattle.pipe_walk.proofs.MemberLemmas.{members_assoc, members_turned, members_again, member_if, members_in}
use Rattle.pipe_walk.proofs.OwnerLemmas.{owner_is}

-- ---- the marks by members

abbrev pub noted : Members → Members → Touch
noted r w = record { read = r; changed = w }

joined_assoc : (a b c : Touch) → joined (joined a b) c ≡ joined a (joined b c)
joined_assoc a b c =
    ap (λ r. noted r (joined_members (joined_members a.changed b.changed) c.changed)) (members_assoc a.read b.read c.read)
    ∙ ap (noted (joined_members a.read (joined_members b.read c.read))) (members_assoc a.changed b.changed c.changed)

joined_turned : (a b c : Touch) → joined a (joined b c) ≡ joined b (joined a c)
joined_turned a b c =
    ap (λ r. noted r (joined_members a.changed (joined_members b.changed c.changed))) (members_turned a.read b.read c.read)
    ∙ ap (noted (joined_members b.read (joined_members a.read c.read))) (members_turned a.changed b.changed c.changed)

-- ---- lists

-- The values at the index that was set, and at others.
set_by_test : (xs : List Touch) (i j : ℕ) (t : Touch) (b : Bool) → nat_eq j i ≡ b → j < length xs →
    touch_in (slice_set xs i t) j ≡ cond b t (touch_in xs j)
set_by_test xs i j t true e h =
    let same : j ≡ i = grind (arith, nat_tests) in
    ap (λ k. touch_in (slice_set xs k t) j) (sym same) ∙ get_or-set_same xs j t untouched h
set_by_test xs i j t false e h =
    get_or-set_other xs i j t untouched (λ same. false≢true (sym e ∙ let yes' : nat_eq j i ≡ true = grind (arith, nat_tests) in yes'))

-- The marks with more, if there is more.
abbrev pub touch_if : Bool → Touch → Touch → Touch
touch_if b more touch = cond b (joined more touch) touch

join_if : (b : Bool) (t x y : Touch) → joined (cond b (joined t x) x) y ≡ touch_if b t (joined x y)
join_if true t x y = joined_assoc t x y
join_if false t x y = refl

join_if_right : (b : Bool) (t x y : Touch) → joined x (cond b (joined t y) y) ≡ touch_if b t (joined x y)
join_if_right true t x y = joined_turned x t y
join_if_right false t x y = refl

cond_same : (xs : List Touch) (i j : ℕ) (t : Touch) (b : Bool) → nat_eq j i ≡ b →
    cond b (joined t (touch_in xs i)) (touch_in xs j) ≡ cond b (joined t (touch_in xs j)) (touch_in xs j)
cond_same xs i j t true e = ap (λ k. joined t (touch_in xs k)) (let same : i ≡ j = grind (arith, nat_tests) in same)
cond_same xs i j t false e = refl

add_by_test : (xs : List Touch) (i j : ℕ) (t : Touch) → j < length xs →
    touch_in (added i t xs) j ≡ touch_if (nat_eq j i) t (touch_in xs j)
add_by_test xs i j t h =
    set_by_test xs i j (joined t (touch_in xs i)) (nat_eq j i) refl h ∙ cond_same xs i j t (nat_eq j i) refl

-- ---- a visit

owner_of : (arrays : Arrays) (t : TableParts) (c : ℕ) → IsFor arrays t → c < cells_of arrays → slice_index_or t.owners c 0 ≡ array_at arrays c
owner_of arrays t c for_them small =
    ap (λ owners. slice_index_or owners c 0) for_them.owners ∙ owner_is 0 arrays c small ∙ (let e : 0 + array_at arrays c ≡ array_at arrays c = omega arith in e)

touch_with_touch : (arrays : Arrays) (j : ℕ) (w : Bool) (name : List ℕ) (index : Option ℤ) (t : TableParts) (c : ℕ) → IsFor arrays t → c < cells_of arrays →
    touch_at (with_touch arrays j w name index t) c ≡ touch_if (covers arrays name index c) (touch_by j w) (touch_at t c)
touch_with_touch arrays j w name (Some i) t c for_them small =
    let h : c < length t.cells = (let e = for_them.cells in omega arith) in
    let k = cell_of arrays name false i in
    let dynamic = touch_in t.everywhere (slice_index_or t.owners c 0) in
    ap (λ x. joined x dynamic) (add_by_test t.cells k c (touch_by j w) h)
    ∙ join_if (nat_eq c k) (touch_by j w) (touch_in t.cells c) dynamic
touch_with_touch arrays j w name None t c for_them small =
    let there = array_there arrays c small in
    let own = owner_of arrays t c for_them small in
    let owner = slice_index_or t.owners c 0 in
    let h : owner < length t.everywhere = (let e = for_them.everywhere in omega (arith, own, there, e)) in
    let k = number_of arrays name in
    ap (joined (touch_in t.cells c)) (add_by_test t.everywhere k owner (touch_by j w) h)
    ∙ join_if_right (nat_eq owner k) (touch_by j w) (touch_in t.cells c) (touch_in t.everywhere owner)
    ∙ ap (λ b. touch_if b (touch_by j w) (touch_at t c)) (ap (λ n. nat_eq n k) own ∙ sym (covers_number arrays name c small))

stays_for : (arrays : Arrays) (j : ℕ) (w : Bool) (name : List ℕ) (index : Option ℤ) (t : TableParts) → IsFor arrays t → IsFor arrays (with_touch arrays j w name index t)
stays_for arrays j w name (Some i) t for_them =
    let k = cell_of arrays name false i in
    record {
      cells = length-set t.cells k (joined (touch_by j w) (touch_in t.cells k)) ∙ for_them.cells;
      everywhere = for_them.everywhere;
      past = for_them.past;
      owners = for_them.owners;
    }
stays_for arrays j w name None t for_them =
    let k = number_of arrays name in
    record {
      cells = for_them.cells;
      everywhere = length-set t.everywhere k (joined (touch_by j w) (touch_in t.everywhere k)) ∙ for_them.everywhere;
      past = for_them.past;
      owners = for_them.owners;
    }

-- ---- a piece

-- The marks after a piece that changes the cell, or reads it, or neither.
abbrev pub after_piece : ℕ → Bool → Bool → Touch → Touch
after_piece j w r touch = noted (member_if r j touch.read) (member_if w j touch.changed)

visit_first : (j : ℕ) (cov x w r : Bool) (s : Touch) →
    after_piece j w r (touch_if cov (touch_by j x) s) ≡ after_piece j ((x && cov) || w) ((not x && cov) || r) s
visit_first j false true w r s = refl
visit_first j false false w r s = refl
visit_first j true true true r s = ap (noted (member_if r j s.read)) (members_again (Between j j) s.changed)
visit_first j true true false r s = refl
visit_first j true false w true s = ap (λ m. noted m (member_if w j s.changed)) (members_again (Between j j) s.read)
visit_first j true false w false s = refl

pub touch_with_visits : (arrays : Arrays) (j : ℕ) (vs : List Visit) (t : TableParts) (c : ℕ) → IsFor arrays t → c < cells_of arrays →
    touch_at (fold (with_visit arrays j) t vs) c ≡ after_piece j (changed arrays vs c) (read arrays vs c) (touch_at t c)
touch_with_visits arrays j [] t c for_them small = refl
touch_with_visits arrays j (v ∷ vs) t c for_them small =
    touch_with_visits arrays j vs (with_touch arrays j v.writes v.array v.index t) c (stays_for arrays j v.writes v.array v.index t for_them) small
    ∙ ap (after_piece j (changed arrays vs c) (read arrays vs c)) (touch_with_touch arrays j v.writes v.array v.index t c for_them small)
    ∙ visit_first j (covers arrays v.array v.index c) v.writes (changed arrays vs c) (read arrays vs c) (touch_at t c)

visits_stay_for : (arrays : Arrays) (j : ℕ) (vs : List Visit) (t : TableParts) → IsFor arrays t → IsFor arrays (fold (with_visit arrays j) t vs)
visits_stay_for arrays j [] t for_them = for_them
visits_stay_for arrays j (v ∷ vs) t for_them =
    visits_stay_for arrays j vs (with_touch arrays j v.writes v.array v.index t) (stays_for arrays j v.writes v.array v.index t for_them)

visits_keep_past : (arrays : Arrays) (j : ℕ) (vs : List Visit) (t : TableParts) → (fold (with_visit arrays j) t vs).past ≡ t.past
visits_keep_past arrays j [] t = refl
visits_keep_past arrays j (v ∷ vs) t = visits_keep_past arrays j vs (with_touch arrays j v.writes v.array v.index t) ∙ kept v.index
  where
    kept : (index : Option ℤ) → (with_touch arrays j v.writes v.array index t).past ≡ t.past
    kept (Some i) = refl
    kept None = refl

-- ---- all pieces of a phase

pub touch_with_pieces : (arrays : Arrays) (j : ℕ) (ps : List Steps) (t : TableParts) (c : ℕ) → IsFor arrays t → c < cells_of arrays →
    touch_at (with_pieces arrays j ps t) c
    ≡ noted (members_in (is_read arrays c) j ps (touch_at t c).read) (members_in (is_changed arrays c) j ps (touch_at t c).changed)
touch_with_pieces arrays j [] t c for_them small = refl
touch_with_pieces arrays j (p ∷ ps) t c for_them small =
    touch_with_pieces arrays (j + 1) ps (with_piece arrays j p t) c (visits_stay_for arrays j (walk arrays p) t for_them) small
    ∙ ap (λ (s : Touch). noted (members_in (is_read arrays c) (j + 1) ps s.read) (members_in (is_changed arrays c) (j + 1) ps s.changed))
    (touch_with_visits arrays j (walk arrays p) t c for_them small)

pub pieces_stay_for : (arrays : Arrays) (j : ℕ) (ps : List Steps) (t : TableParts) → IsFor arrays t → IsFor arrays (with_pieces arrays j ps t)
pieces_stay_for arrays j [] t for_them = for_them
pieces_stay_for arrays j (p ∷ ps) t for_them =
    pieces_stay_for arrays (j + 1) ps (with_piece arrays j p t) (visits_stay_for arrays j (walk arrays p) t for_them)

pub pieces_keep_past : (arrays : Arrays) (j : ℕ) (ps : List Steps) (t : TableParts) → (with_pieces arrays j ps t).past ≡ t.past
pieces_keep_past arrays j [] t = refl
pieces_keep_past arrays j (p ∷ ps) t =
    pieces_keep_past arrays (j + 1) ps (with_piece arrays j p t) ∙ visits_keep_past arrays j (walk arrays p) t

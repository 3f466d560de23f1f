-- The deques of all harts, of which one changes.
use Rattle.std.proofs.Common.{◌≡◌, ◌≢◌, ℕ, ◌<◌, ◌*◌, ◌/◌, ◌%◌, ◌+◌, false, suc, zero, List, [], ◌∷◌, ◌++◌, length, map, set, get_or, sym, ap, ◌∙◌, subst, arith, inl, inr}
use Rattle.std.proofs.Math.Nat.{div-add-mod, mod-lt}
use Rattle.std.proofs.lemmas.List.{get_or-map, map-set, get_or-set_same, get_or-set_other, length-map, get_or_append_left, length-append, length-set}
use Rattle.std.proofs.Math.Seq.{get_or-append_seam}
use Rattle.std.proofs.lemmas.Bool.{cases_eq}
use Rattle.std.proofs.lemmas.Nat.{div-mul-add, mod-mul-add}
use Rattle.std.proofs.Math.ListN.{get_or-map as get_or-map_same}
use Rattle.std.proofs.Math.Seq.{map-set_same}
use Rattle.std.specs.Prelude.{Result, Ok, Err, IfOk}
use Rattle.crossbeam_deque.specs.Handles.{worker_view, worker_deque}
use Rattle.deque_rows.specs.declared.account.Log.{Log}
use Rattle.deque_rows.specs.declared.ends.HomeEnd.{HomeEnd}
use Rattle.deque_rows.specs.declared.hart.HartRows.{HartRows}
use Rattle.deque_rows.specs.declared.ends.StealingEnd.{StealingEnd}
use Rattle.deque_rows.specs.Account.{idle, blank, after_push}
use Rattle.deque_rows.specs.Rows.{RowName, home_logs, row_at, owner_log}
use Rattle.deque_rows.specs.Lines.{put, IsLine, end_log, end_name}

pub ok_map : {X E : Type 0} {P Q : X → Type 0} (r : Result X E) → ((x : X) → P x → Q x) → IfOk r P → IfOk r Q
ok_map (Ok x) f h = f x h
ok_map (Err e) f h = h

-- The log of an own end.
abbrev pub home_log_of : HomeEnd → Log
home_log_of h = worker_view h.worker

abbrev pub home_name_of : HomeEnd → RowName
home_name_of h = worker_deque h.worker

pub home_at : (xs : List HomeEnd) (i : ℕ) (was : HomeEnd) → was ≡ get_or xs i was → i < length xs → home_log_of was ≡ get_or (map home_log_of xs) i idle
home_at xs i was is there = ap home_log_of is ∙ sym (get_or-map home_log_of xs i was idle there)

pub name_at : (xs : List HomeEnd) (i : ℕ) (was : HomeEnd) (n : RowName) → was ≡ get_or xs i was → i < length xs → home_name_of was ≡ get_or (map home_name_of xs) i n
name_at xs i was n is there = ap home_name_of is ∙ sym (get_or-map home_name_of xs i was n there)

pub home_put : (xs : List HomeEnd) (i : ℕ) (y was : HomeEnd) (F : Log → Log) → was ≡ get_or xs i was → i < length xs → home_log_of y ≡ F (home_log_of was) → map home_log_of (set xs i y) ≡ set (map home_log_of xs) i (F (get_or (map home_log_of xs) i idle))
home_put xs i y was F is there e = map-set home_log_of xs i y ∙ ap (λ (u : Log). set (map home_log_of xs) i u) (e ∙ ap F (home_at xs i was is there))

-- One push adds one pushed index to the log of an own end.
pub room_after : (xs : List HomeEnd) (i : ℕ) (y was : HomeEnd) (code : ℕ) → was ≡ get_or xs i was → i < length xs → home_log_of y ≡ after_push (home_log_of was) (code ∷ [])
    → length (get_or (map home_log_of (set xs i y)) i idle).pushed ≡ length (get_or (map home_log_of xs) i idle).pushed + 1
room_after xs i y was code is there e =
    let at : get_or (map home_log_of (set xs i y)) i idle ≡ home_log_of y = get_or-map home_log_of (set xs i y) i was idle (let l = length-set xs i y in omega (arith, l, there)) ∙ ap home_log_of (get_or-set_same xs i y was there) in
    ap (λ (v : Log). length v.pushed) (at ∙ e ∙ ap (λ (v : Log). after_push v (code ∷ [])) (home_at xs i was is there)) ∙ length-append (get_or (map home_log_of xs) i idle).pushed (code ∷ [])

pub names_kept : (xs : List HomeEnd) (i : ℕ) (y was : HomeEnd) → was ≡ get_or xs i was → home_name_of y ≡ home_name_of was → map home_name_of (set xs i y) ≡ map home_name_of xs
names_kept xs i y was is same = map-set_same home_name_of xs i y was (same ∙ ap home_name_of is)

pub made_kept : (xs : List HomeEnd) (i : ℕ) (y was : HomeEnd) → was ≡ get_or xs i was → y.made ≡ was.made → map (λ (h : HomeEnd). h.made) (set xs i y) ≡ map (λ (h : HomeEnd). h.made) xs
made_kept xs i y was is same = map-set_same (λ (h : HomeEnd). h.made) xs i y was (same ∙ ap (λ (h : HomeEnd). h.made) is)

pub mod_three : (r : ℕ) → r % 3 < 3
mod_three r = mod-lt r (omega arith)

-- The index of a deque determines its hart.
pub hart_of_row : (r n : ℕ) → r < 3 * n → r / 3 < n
hart_of_row r n few = let d = div-add-mod r 3 in omega (arith, d, few)

-- One hart's deques change.
module _ (rows : List HartRows) (r : ℕ) (there : r < 3 * length rows) (y d : HartRows) where
  abbrev pub was : HartRows
  was = get_or rows (r / 3) d

  pub kept_by : {X : Type 0} (f : HartRows → X) → f y ≡ f was → map f (set rows (r / 3) y) ≡ map f rows
  kept_by f same = map-set_same f rows (r / 3) y d same

  pub logs_put : (F : Log → Log) → home_logs y ≡ set (home_logs was) (r % 3) (F (get_or (home_logs was) (r % 3) idle)) → map home_logs (set rows (r / 3) y) ≡ put (map home_logs rows) r (F (row_at idle (map home_logs rows) r))
  logs_put F e =
      let own = get_or-map home_logs rows (r / 3) d [] (hart_of_row r (length rows) there) in
      map-set home_logs rows (r / 3) y
      ∙ ap (λ l. set (map home_logs rows) (r / 3) l) e
      ∙ ap (λ l. set (map home_logs rows) (r / 3) (set l (r % 3) (F (get_or l (r % 3) idle)))) (sym own)

-- The element at an index, after it was replaced.
pub at_put : {X : Type 0} (homes : List (List X)) (r : ℕ) (d x : X) → r / 3 < length homes → r % 3 < length (get_or homes (r / 3) []) → row_at d (put homes r x) r ≡ x
at_put homes r d x there within =
    let own = get_or-set_same homes (r / 3) (set (get_or homes (r / 3) []) (r % 3) x) [] there in
    ap (λ l. get_or l (r % 3) d) own ∙ get_or-set_same (get_or homes (r / 3) []) (r % 3) x d within

pub else_put : {X : Type 0} (homes : List (List X)) (r j : ℕ) (d x : X) → r / 3 < length homes → j ≢ r → row_at d (put homes r x) j ≡ row_at d homes j
else_put homes r j d x there other = elim (cases_eq (j / 3) (r / 3)) [
  | inl same ↦
      let own = get_or-set_same homes (r / 3) (set (get_or homes (r / 3) []) (r % 3) x) [] there in
      let apart : j % 3 ≢ r % 3 = λ e. other (let a = div-add-mod j 3 in let b = div-add-mod r 3 in omega (arith, a, b, e, same)) in
      let one : row_at d (put homes r x) j ≡ get_or (set (get_or homes (r / 3) []) (r % 3) x) (j % 3) d = ap (λ k. get_or (get_or (put homes r x) k []) (j % 3) d) same ∙ ap (λ l. get_or l (j % 3) d) own in
      one ∙ get_or-set_other (get_or homes (r / 3) []) (r % 3) (j % 3) x d apart ∙ ap (λ k. get_or (get_or homes k []) (j % 3) d) (sym same)
  | inr apart ↦ ap (λ l. get_or l (j % 3) d) (get_or-set_other homes (r / 3) (j / 3) (set (get_or homes (r / 3) []) (r % 3) x) [] apart)
]

-- Each hart has three deques of its own.
pub three : (rows : List HartRows) (i : ℕ) → i < length rows → length (get_or (map home_logs rows) i []) ≡ 3
three [] i there = absurd (omega (arith, there))
three (x ∷ rows) zero there = let l = length-map x.own.items home_log_of in let k = x.own.ok in let n = x.levels in omega (arith, l, k, n)
three (x ∷ rows) (suc i) there = three rows i (omega (arith, there))

module _ (rows after : List HartRows) (r : ℕ) (w : Log) (there : r < 3 * length rows) (is : map home_logs after ≡ put (map home_logs rows) r w) where
  inside : r / 3 < length (map home_logs rows)
  inside = subst (λ n. r / 3 < n) (sym (length-map rows home_logs)) (hart_of_row r (length rows) there)

  pub owner_put : owner_log after r ≡ w
  owner_put =
      let full = three rows (r / 3) (hart_of_row r (length rows) there) in
      ap (λ l. row_at idle l r) is ∙ at_put (map home_logs rows) r idle w inside (let d = div-add-mod r 3 in let m = mod_three r in omega (arith, full, m))

  pub owner_else : (j : ℕ) → j ≢ r → owner_log after j ≡ owner_log rows j
  owner_else j other = ap (λ l. row_at idle l j) is ∙ else_put (map home_logs rows) r j idle w inside other

pub line_more : (names : List (List RowName)) (ends : List StealingEnd) (e : StealingEnd) → IsLine names ends → end_log e ≡ blank 1 false → ((n : RowName) → end_name e ≡ row_at n names (length ends)) → IsLine names (ends ++ e ∷ [])
line_more names ends e are new of r d n there = elim (cases_eq r (length ends)) [
  | inl last ↦
      let at : get_or (ends ++ e ∷ []) r d ≡ e = ap (λ k. get_or (ends ++ e ∷ []) k d) last ∙ get_or-append_seam ends e [] d in
      (ap end_log at ∙ new, ap end_name at ∙ of n ∙ ap (row_at n names) (sym last))
  | inr other ↦
      let below : r < length ends = (let l = length-append ends (e ∷ []) in omega (arith, there, l, other)) in
      let at : get_or (ends ++ e ∷ []) r d ≡ get_or ends r d = get_or_append_left ends (e ∷ []) d r below in
      (ap end_log at ∙ (are r d n below).0, ap end_name at ∙ (are r d n below).1)
]

-- The l-th deque of hart h.
pub hart_row : {X : Type 0} (d : X) (homes : List (List X)) (h l : ℕ) → l < 3 → row_at d homes (3 * h + l) ≡ get_or (get_or homes h []) l d
hart_row d homes h l few =
    let a : (3 * h + l) / 3 ≡ h = ap (λ n. n / 3) (let e : 3 * h + l ≡ h * 3 + l = omega arith in e) ∙ div-mul-add h 3 l few in
    let b : (3 * h + l) % 3 ≡ l = ap (λ n. n % 3) (let e : 3 * h + l ≡ h * 3 + l = omega arith in e) ∙ mod-mul-add h 3 l few in
    ap (λ i. get_or (get_or homes i []) ((3 * h + l) % 3) d) a ∙ ap (λ i. get_or (get_or homes h []) i d) b

pub row_at-map : {X Y : Type 0} (f : X → Y) (homes : List (List X)) (d : X) (r : ℕ) → row_at (f d) (map (map f) homes) r ≡ f (row_at d homes r)
row_at-map f homes d r = ap (λ l. get_or l (r % 3) (f d)) (get_or-map_same (map f) homes (r / 3) []) ∙ get_or-map_same f (get_or homes (r / 3) []) (r % 3) d

-- The element of a list at an index.
pub pick : {X : Type 0} (xs : List X) (i : ℕ) → i < length xs → X
pick [] i there = absurd (omega (arith, there))
pick (x ∷ xs) i there = x

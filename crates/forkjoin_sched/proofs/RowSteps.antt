-- The effect of a hand's calls on the deques, in sequence.
use Rattle.std.proofs.Common.{◌≡◌, ◌<◌, ◌≤◌, ◌*◌, ◌+◌, ◌-◌, ℕ, zero, suc, List, [], ◌∷◌, ◌++◌, length, map, get_or, set, slice_index, sym, ap, subst, ◌∙◌, arith, refl, inl, inr}
use Rattle.std.proofs.lemmas.List.{get_or-set_same, set-set, set-get_or, append-nil, append_assoc, map-append, length-map, length-append}
use Rattle.std.proofs.lemmas.Bool.{cases_eq}
use Rattle.std.proofs.Math.Seq.{map-set_same}
use Rattle.std.specs.Prelude.{Option, Some, None, IfSome}
use Rattle.crossbeam_deque.specs.Handles.{view, worker_view}
use Rattle.deque_rows.specs.declared.account.Log.{Log}
use Rattle.deque_rows.specs.declared.ends.HomeEnd.{HomeEnd}
use Rattle.deque_rows.specs.declared.ends.StealingEnd.{StealingEnd}
use Rattle.deque_rows.specs.declared.hart.HartRows.{HartRows}
use Rattle.deque_rows.specs.declared.stolen.Stolen.{Stolen}
use Rattle.deque_rows.specs.declared.stolen.Stolen.TheVariants.{Code, Empty}
use Rattle.deque_rows.specs.Account.{idle, after_push, after_steal, HeldAtMost, Rose}
use Rattle.deque_rows.specs.Rows.{IsLevel, Identity, identity, home_logs, pass_logs, bares, home_log, pass_log, bare, place}
use Rattle.deque_rows.specs.Calls.{FoundBare, Pushes, PopGives, StealGives}
use Rattle.forkjoin_sched.specs.Hands.{Keeps, IsFoundBare, HasTaken, TakesCode, TakesMore, PushesCodes, IsFalling, code_at}

-- A hart has three deques of its own.
own_count : (r : HartRows) → length (home_logs r) ≡ 3
own_count r = let l = length-map r.own.items (λ (h : HomeEnd). worker_view h.worker) in let k = r.own.ok in let n = r.levels in omega (arith, l, k, n)

pass_count : (r : HartRows) → length (pass_logs r) ≡ 3 * r.harts
pass_count r = let l = length-map r.ends.items (λ (s : StealingEnd). view s.pass) in let k = r.ends.ok in let n = r.reaches in omega (arith, l, k, n)

-- The log of a deque that changed.
pub home_set : (old new : HartRows) (level : ℕ) (w : Log) → IsLevel level → home_logs new ≡ set (home_logs old) (level - 1) w → home_log new level ≡ w
home_set old new level w is e = ap (λ l. get_or l (level - 1) idle) e ∙ get_or-set_same (home_logs old) (level - 1) w idle (let n = own_count old in omega (arith, n, is.0, is.1))

pub pass_set : (old new : HartRows) (hart level : ℕ) (w : Log) → IsLevel level → hart < old.harts → pass_logs new ≡ set (pass_logs old) (place hart level) w → pass_log new hart level ≡ w
pass_set old new hart level w is few e = ap (λ l. get_or l (place hart level) idle) e ∙ get_or-set_same (pass_logs old) (place hart level) w idle (let n = pass_count old in omega (arith, n, few, is.0, is.1))

-- A counter that rises.
rises : (xs : List ℕ) (i n r : ℕ) → get_or xs i 0 ≤ n → get_or xs r 0 ≤ get_or (set xs i n) r 0
rises [] i n r h = let e : 0 ≤ get_or (set [] i n) r 0 = omega arith in e
rises (x ∷ xs) zero n zero h = h
rises (x ∷ xs) zero n (suc r) h = let e : get_or xs r 0 ≤ get_or xs r 0 = omega arith in e
rises (x ∷ xs) (suc i) n zero h = let e : x ≤ x = omega arith in e
rises (x ∷ xs) (suc i) n (suc r) h = rises xs i n r h

rose_least : (a b : ℕ) → Rose a b → a ≤ b
rose_least a b (inl h) = omega (arith, h)
rose_least a b (inr h) = let e = h.1 in omega (arith, e)

rose_on : (a b c : ℕ) → a ≤ b → Rose b c → Rose a c
rose_on a b c least (inl h) = inl (omega (arith, h, least))
rose_on a b c least (inr h) = elim (cases_eq a b) [
  | inl same ↦ inr (same ∙ h.0, h.1 ∙ sym same)
  | inr other ↦ inl (let e = h.1 in omega (arith, e, least, other))
]

found_least : (old new : HartRows) (hart level : ℕ) → FoundBare old hart level new → (r : ℕ) → slice_index (bares old) r ≤ slice_index (bares new) r
found_least old new hart level f r =
    subst (λ xs. slice_index (bares old) r ≤ slice_index xs r) (sym f.2) (rises (bares old) (place hart level) f.0 r (rose_least (bare old hart level) f.0 f.1))

same_least : (old new : HartRows) → bares new ≡ bares old → (r : ℕ) → slice_index (bares old) r ≤ slice_index (bares new) r
same_least old new same r = subst (λ xs. slice_index (bares old) r ≤ slice_index xs r) (sym same) (omega arith)

pushed : Log → List ℕ
pushed v = v.pushed

-- The steps of a hart that takes an index.
pub keeps_none : (rows : HartRows) → Keeps rows rows
keeps_none rows = record { identity = refl; pushed = refl; bares = same_least rows rows refl }

pub keeps_then : (a b c : HartRows) → Keeps a b → Keeps b c → Keeps a c
keeps_then a b c h k = record {
  identity = k.identity ∙ h.identity;
  pushed = k.pushed ∙ h.pushed;
  bares = λ r. let x = h.bares r in let y = k.bares r in omega (arith, x, y);
}

pub keeps_pop : (old new : HartRows) (level : ℕ) (result : Option ℕ) → identity new ≡ identity old → PopGives old level result new → Keeps old new
keeps_pop old new level (Some code) same gives = record {
  identity = same;
  pushed = ap (map (λ (v : Log). v.pushed)) gives.2 ∙ map-set_same (λ (v : Log). v.pushed) (home_logs old) (level - 1) gives.0 idle (ap (λ (v : Log). v.pushed) gives.1.1);
  bares = same_least old new gives.4;
}
keeps_pop old new level None same gives = record {
  identity = same;
  pushed = ap (map (λ (v : Log). v.pushed)) gives.2;
  bares = found_least old new old.hart level gives.1;
}

pub keeps_steal : (old new : HartRows) (hart level : ℕ) (result : Stolen) → identity new ≡ identity old → StealGives old hart level result new → Keeps old new
keeps_steal old new hart level (Code code) same gives = record {
  identity = same;
  pushed = ap (map (λ (v : Log). v.pushed)) gives.1;
  bares = same_least old new gives.2;
}
keeps_steal old new hart level Empty same gives = record {
  identity = same;
  pushed = ap (map (λ (v : Log). v.pushed)) gives.2;
  bares = found_least old new hart level gives.1;
}

-- The indices that a hart took from a deque only grow.
pub takes_none : (rows : HartRows) (home level : ℕ) → TakesMore home level rows rows
takes_none rows home level = record {
  popped = [];
  stolen = [];
  pops = sym (append-nil (home_log rows level).popped);
  steals = sym (append-nil (pass_log rows home level).stolen);
}

pub takes_then : (a b c : HartRows) (home level : ℕ) → TakesMore home level a b → TakesMore home level b c → TakesMore home level a c
takes_then a b c home level h k = record {
  popped = h.popped ++ k.popped;
  stolen = h.stolen ++ k.stolen;
  pops = k.pops ∙ ap (λ l. l ++ k.popped) h.pops ∙ append_assoc (home_log a level).popped h.popped k.popped;
  steals = k.steals ∙ ap (λ l. l ++ k.stolen) h.steals ∙ append_assoc (pass_log a home level).stolen h.stolen k.stolen;
}

pub taken_then : (a b c : HartRows) (home level code : ℕ) → Keeps a b → TakesMore home level a b → HasTaken home level code b c → HasTaken home level code a c
taken_then a b c home level code kept h (inl k) = inl (
  k.0 ∙ ap (λ (x : Identity). x.hart) kept.identity,
  h.popped ++ k.1,
  k.2 ∙ ap (λ l. (l ++ k.1) ++ code ∷ []) h.pops ∙ ap (λ l. l ++ code ∷ []) (append_assoc (home_log a level).popped h.popped k.1),
)
taken_then a b c home level code kept h (inr k) =
    inr (h.stolen ++ k.0, k.1 ∙ ap (λ l. (l ++ k.0) ++ code ∷ []) h.steals ∙ ap (λ l. l ++ code ∷ []) (append_assoc (pass_log a home level).stolen h.stolen k.0))

none_more : (l : List ℕ) → l ≡ l ++ []
none_more l = sym (append-nil l)

-- A pop takes an index.
popped_to : (old new : HartRows) (level code : ℕ) → IsLevel level → PopGives old level (Some code) new → (home_log new level).popped ≡ (home_log old level).popped ++ code ∷ []
popped_to old new level code is gives = ap (λ (v : Log). v.popped) (home_set old new level gives.0 is gives.2) ∙ ap (λ (v : Log). v.popped) gives.1.1

pub more_by_pop : (old new : HartRows) (home level : ℕ) (result : Option ℕ) → IsLevel level → PopGives old level result new → TakesMore home level old new
more_by_pop old new home level (Some code) is gives = record {
  popped = code ∷ [];
  stolen = [];
  pops = popped_to old new level code is gives;
  steals = ap (λ l. (get_or l (place home level) idle).stolen) gives.3 ∙ none_more (pass_log old home level).stolen;
}
more_by_pop old new home level None is gives = record {
  popped = [];
  stolen = [];
  pops = ap (λ l. (get_or l (level - 1) idle).popped) gives.2 ∙ none_more (home_log old level).popped;
  steals = ap (λ l. (get_or l (place home level) idle).stolen) gives.3 ∙ none_more (pass_log old home level).stolen;
}

pub taken_if : (old new : HartRows) (level : ℕ) (result : Option ℕ) → IsLevel level → PopGives old level result new → IfSome result (λ code. (home : ℕ) → home ≡ old.hart → HasTaken home level code old new)
taken_if old new level (Some code) is gives =
    λ home own. inl (own, [], popped_to old new level code is gives ∙ ap (λ l. l ++ code ∷ []) (none_more (home_log old level).popped))
taken_if old new level None is gives = tt

-- A steal takes an index.
stolen_to : (old new : HartRows) (home level code : ℕ) → IsLevel level → home < old.harts → StealGives old home level (Code code) new
    → (pass_log new home level).stolen ≡ (pass_log old home level).stolen ++ code ∷ []
stolen_to old new home level code is few gives =
    ap (λ (v : Log). v.stolen) (pass_set old new home level (after_steal (pass_log old home level) (code ∷ [])) is few gives.0)

pub more_by_steal : (old new : HartRows) (home level : ℕ) (result : Stolen) → IsLevel level → home < old.harts → StealGives old home level result new → TakesMore home level old new
more_by_steal old new home level (Code code) is few gives = record {
  popped = [];
  stolen = code ∷ [];
  pops = ap (λ l. (get_or l (level - 1) idle).popped) gives.1 ∙ none_more (home_log old level).popped;
  steals = stolen_to old new home level code is few gives;
}
more_by_steal old new home level Empty is few gives = record {
  popped = [];
  stolen = [];
  pops = ap (λ l. (get_or l (level - 1) idle).popped) gives.2 ∙ none_more (home_log old level).popped;
  steals = ap (λ l. (get_or l (place home level) idle).stolen) gives.3 ∙ none_more (pass_log old home level).stolen;
}

pub taken_by_steal : (old new : HartRows) (home level code : ℕ) → IsLevel level → home < old.harts → StealGives old home level (Code code) new → HasTaken home level code old new
taken_by_steal old new home level code is few gives =
    inr ([], stolen_to old new home level code is few gives ∙ ap (λ l. l ++ code ∷ []) (none_more (pass_log old home level).stolen))

-- A steal that finds the deque empty takes none.
pub bare_by_steal : (old new : HartRows) (home level : ℕ) → IsLevel level → home < old.harts → StealGives old home level Empty new → IsFoundBare home level old new
bare_by_steal old new home level is few gives = (
  subst (Rose (bare old home level)) (sym (ap (λ xs. get_or xs (place home level) 0) gives.1.2 ∙ get_or-set_same (bares old) (place home level) gives.1.0 0
      (let n = old.bare.ok in let k = old.ends.ok in let c = old.counts in let r = old.reaches in omega (arith, n, k, c, r, few, is.0, is.1)))) gives.1.1,
  subst (HeldAtMost 1) (ap (λ l. get_or l (place home level) idle) (sym gives.3)) gives.0,
)

pub bare_on : (a b c : HartRows) (home level : ℕ) → Keeps a b → IsFoundBare home level b c → IsFoundBare home level a c
bare_on a b c home level kept bare = (rose_on (bare_of a) (bare_of b) (bare_of c) (kept.bares (place home level)) bare.0, bare.1)
  where
    bare_of : HartRows → ℕ
    bare_of r = slice_index (bares r) (place home level)

-- The result for an index, after other steps.
pub takes_on : (a b c : HartRows) (home level : ℕ) (result : Option ℕ) → Keeps a b → TakesMore home level a b → TakesCode home level b result c → TakesCode home level a result c
takes_on a b c home level (Some code) kept more takes = taken_then a b c home level code kept more takes
takes_on a b c home level None kept more takes = bare_on a b c home level kept takes

-- The steps of a home that offers jobs.
push_none : (v : Log) → after_push v [] ≡ v
push_none v = λ i. record v { pushed = append-nil v.pushed i; kept = append-nil v.kept i }

push_twice : (v : Log) (xs ys : List ℕ) → after_push (after_push v xs) ys ≡ after_push v (xs ++ ys)
push_twice v xs ys = λ i. record v { pushed = append_assoc v.pushed xs ys i; kept = append_assoc v.kept xs ys i }

pub pushes_none : (site level : ℕ) (rows : HartRows) → PushesCodes site level [] rows rows
pushes_none site level rows = record {
  identity = refl;
  own = sym (ap (set (home_logs rows) (level - 1)) (push_none (home_log rows level)) ∙ set-get_or (home_logs rows) (level - 1) idle);
  passes = refl;
  bares = refl;
}

pub pushes_more : (site level : ℕ) (places : List ℕ) (place : ℕ) (before mid after : HartRows) → IsLevel level → PushesCodes site level places before mid
    → identity after ≡ identity mid → Pushes mid level (code_at site place) after → PushesCodes site level (places ++ place ∷ []) before after
pushes_more site level places place before mid after is h same push =
    let codes = map (code_at site) places in
    let v = home_log before level in
    let x = after_push v codes in
    let at = home_set before mid level x is h.own in
    let logs = home_logs before in record {
      identity = same ∙ h.identity;
      own = push.0 ∙ ap (λ u. set (home_logs mid) (level - 1) (after_push u (code_at site place ∷ []))) at
          ∙ ap (λ l. set l (level - 1) (after_push x (code_at site place ∷ []))) h.own
          ∙ set-set logs (level - 1) x (after_push x (code_at site place ∷ []))
          ∙ ap (set logs (level - 1)) (push_twice v codes (code_at site place ∷ []) ∙ ap (after_push v) (sym (map-append (code_at site) places (place ∷ []))));
      passes = push.1 ∙ h.passes;
      bares = push.2 ∙ h.bares;
    }

pub room_after : (site level : ℕ) (places : List ℕ) (before after : HartRows) → IsLevel level → PushesCodes site level places before after
    → length (home_log after level).pushed ≡ length (home_log before level).pushed + length places
room_after site level places before after is h =
    ap (λ (v : Log). length v.pushed) (home_set before after level (after_push (home_log before level) (map (code_at site) places)) is h.own)
    ∙ length-append (home_log before level).pushed (map (code_at site) places)
    ∙ ap (λ n. length (home_log before level).pushed + n) (length-map places (code_at site))

-- Falling indices.
pub falls_on : (n least : ℕ) (places : List ℕ) → IsFalling n (suc least) places → IsFalling n least places
falls_on n least [] h = omega (arith, h)
falls_on n least (p ∷ ps) h = (h.0, falls_on p least ps h.1)

pub falls_more : (n least : ℕ) (places : List ℕ) → IsFalling n (suc least) places → IsFalling n least (places ++ least ∷ [])
falls_more n least [] h = (let e : least < n = omega (arith, h) in e, let e : least ≤ least = omega arith in e)
falls_more n least (p ∷ ps) h = (h.0, falls_more p least ps h.1)

pub falls_count : (n least : ℕ) (places : List ℕ) → IsFalling n least places → length places + least ≤ n
falls_count n least [] h = omega (arith, h)
falls_count n least (p ∷ ps) h = let e = falls_count p least ps h.1 in omega (arith, h.0, e)

-- Each kind of step keeps the invariant of a deque.
use Rattle.std.proofs.Common.{◌≡◌, ◌≢◌, ◌<◌, ◌≤◌, ℕ, zero, suc, true, false, true≢false, ◌-◌, List, [], ◌∷◌, ◌++◌, set, sym, refl, ap, ◌∙◌, subst, append_assoc, arith}
use mathlib.Core.Option.{some, some-ne-none}
use lib.ListN.{get_elem?}
use Rattle.crossbeam_deque.specs.Tasks.{Pushes, Takes, Pops as PopsBy, Finds, FindsFew, Forks, Merges, Learns}
use Rattle.deque_rows.specs.declared.account.Log.{Log}
use Rattle.deque_rows.specs.Account.{blank, idle, times, total, InOrder, IsKept, Fits, RowStands, after_push, after_steal, Pops, joined, HeldAtMost, Determines}
use Rattle.deque_rows.proofs.Totals.{times-append, total_set, total_snoc, each_set, each_snoc, total_whole}
use Rattle.deque_rows.proofs.Orders.{order_fewer, order_more}

pub begins : RowStands [] (blank 64 true ∷ [])
begins = record {
  home = 0;
  gone = [];
  parts = refl;
  stolen = λ x. refl;
  each = each_set (Fits 0 [] []) (blank 64 true ∷ []) 0 (blank 64 true) (record {
    homes = λ _. (refl, refl, record { counts = λ x. refl; order = tt });
    spent = λ none. refl;
  }) only;
}
  where
    only : (j : ℕ) (u : Log) → j ≢ 0 → get_elem? (blank 64 true ∷ []) j ≡ some u → Fits 0 [] [] j u
    only zero u other e = absurd (other refl)
    only (suc j) u other e = absurd (some-ne-none u (sym e))

pub puts : (port : ℕ) (v : Log) (xs : List ℕ) → v.is_home ≡ true → 0 < v.parts → Pushes RowStands port v xs (λ w. w ≡ after_push v xs)
puts port v xs is part items logs h at =
    let w : Log = after_push v xs in
    let mine = h.each port v at in
    let kept = mine.homes is in (
      w,
      record {
        home = h.home;
        gone = h.gone;
        parts = (let s = total_set (λ u. u.parts) logs port v w at in omega (arith, s, h.parts));
        stolen = λ x. (let s = total_set (λ u. times x u.stolen) logs port v w at in let t = h.stolen x in omega (arith, s, t));
        each = each_set (Fits h.home h.gone (items ++ xs)) logs port w (record {
          homes = λ _. (
            kept.0,
            ap (λ l. l ++ xs) kept.1 ∙ append_assoc h.gone items xs,
            record {
              counts = λ x. (let a = kept.2.counts x in omega (arith, a, times-append x v.pushed xs, times-append x v.kept xs));
              order = order_more xs v.kept v.pushed kept.2.order;
            },
          );
          spent = mine.spent;
        }) (λ j u other e. record {
          homes = λ p. absurd (other (((h.each j u e).homes p).0 ∙ sym kept.0));
          spent = (h.each j u e).spent;
        });
      },
      refl,
    )

pub pops : (port : ℕ) (v : Log) → v.is_home ≡ true → 0 < v.parts → PopsBy RowStands port v (Pops v)
pops port v is part y items logs h at =
    let mine = h.each port v at in
    let kept = mine.homes is in
    let w : Log = record v { popped = v.popped ++ y ∷ []; kept = h.gone ++ items } in
    let last : v.kept ≡ (h.gone ++ items) ++ y ∷ [] = kept.1 ∙ sym (append_assoc h.gone items (y ∷ [])) in (
      w,
      record {
        home = h.home;
        gone = h.gone;
        parts = (let s = total_set (λ u. u.parts) logs port v w at in omega (arith, s, h.parts));
        stolen = λ x. (let s = total_set (λ u. times x u.stolen) logs port v w at in let t = h.stolen x in omega (arith, s, t));
        each = each_set (Fits h.home h.gone items) logs port w (record {
          homes = λ _. (
            kept.0,
            refl,
            record {
              counts = λ x.
                  let a = kept.2.counts x in
                  let b = ap (times x) last in
                  omega (arith, a, b, times-append x v.popped (y ∷ []), times-append x (h.gone ++ items) (y ∷ []));
              order = order_fewer (y ∷ []) (h.gone ++ items) v.pushed (subst (λ l. InOrder l v.pushed) last kept.2.order);
            },
          );
          spent = mine.spent;
        }) (λ j u other e. record {
          homes = λ p. absurd (other (((h.each j u e).homes p).0 ∙ sym kept.0));
          spent = (h.each j u e).spent;
        });
      },
      (last, refl),
    )

pub takes : (port : ℕ) (v : Log) → 0 < v.parts → Takes RowStands port v 1 (λ xs w. w ≡ after_steal v xs)
takes port v part xs items logs some_x one h at =
    let w : Log = after_steal v xs in
    let mine = h.each port v at in
    let moved : (u : Log) (j : ℕ) → (u.is_home ≡ true → (j ≡ h.home) × (u.kept ≡ h.gone ++ (xs ++ items)) × IsKept u.pushed u.popped u.kept) → u.is_home ≡ true → (j ≡ h.home) × (u.kept ≡ (h.gone ++ xs) ++ items) × IsKept u.pushed u.popped u.kept
    = λ u j was p. (let k = was p in (k.0, k.1 ∙ sym (append_assoc h.gone xs items), k.2)) in (
      w,
      record {
        home = h.home;
        gone = h.gone ++ xs;
        parts = (let s = total_set (λ u. u.parts) logs port v w at in omega (arith, s, h.parts));
        stolen = λ x.
            let s = total_set (λ u. times x u.stolen) logs port v w at in
            let t = h.stolen x in
            omega (arith, s, t, times-append x v.stolen xs, times-append x h.gone xs);
        each = each_set (Fits h.home (h.gone ++ xs) items) logs port w (record {
          homes = moved v port mine.homes;
          spent = λ none. absurd (omega (arith, none, part));
        }) (λ j u other e. record { homes = moved u j (h.each j u e).homes; spent = (h.each j u e).spent });
      },
      refl,
    )

pub finds : (port : ℕ) (v : Log) → Finds RowStands port v (HeldAtMost 0 v)
finds port v logs h at = ([], logs, port, omega arith, h, at)

pub finds_few : (most port : ℕ) (v : Log) → most ≤ 1 → FindsFew RowStands most port v (HeldAtMost 1 v)
finds_few most port v low items logs few h at = (items, logs, port, omega (arith, low, few), h, at)

pub forks : (port : ℕ) (v : Log) → 1 < v.parts → Forks RowStands port v (record v { parts = v.parts - 1 }) (blank 1 false)
forks port v two items logs h at =
    let l : Log = record v { parts = v.parts - 1 } in
    let r : Log = blank 1 false in
    let cut = set logs port l in
    let mine = h.each port v at in record {
      home = h.home;
      gone = h.gone;
      parts = (let s = total_set (λ u. u.parts) logs port v l at in let t = total_snoc (λ u. u.parts) cut r in omega (arith, s, t, h.parts, two));
      stolen = λ x.
          let s = total_set (λ u. times x u.stolen) logs port v l at in
          let t = total_snoc (λ u. times x u.stolen) cut r in
          let b = h.stolen x in
          omega (arith, s, t, b);
      each = each_snoc (Fits h.home h.gone items) cut r (λ j. record { homes = λ p. absurd (true≢false (sym p)); spent = λ none. refl })
          (each_set (Fits h.home h.gone items) logs port l (record { homes = mine.homes; spent = λ none. absurd (omega (arith, none, two)) }) (λ j u _ e. h.each j u e));
    }

pub merges : (port : ℕ) (v : Log) (other : ℕ) (u : Log) → 0 < v.parts → Merges RowStands port v other u (joined v u) idle
merges port v other u part items logs h at apart at2 =
    let both : Log = joined v u in
    let now = set logs port both in
    let mine = h.each port v at in record {
      home = h.home;
      gone = h.gone;
      parts = (let s = total_set (λ y. y.parts) logs port v both at in let t = total_set (λ y. y.parts) now other u idle at2 in omega (arith, s, t, h.parts));
      stolen = λ x.
          let s = total_set (λ y. times x y.stolen) logs port v both at in
          let t = total_set (λ y. times x y.stolen) now other u idle at2 in
          let b = h.stolen x in
          omega (arith, s, t, b, times-append x v.stolen u.stolen);
      each = each_set (Fits h.home h.gone items) now other idle (record { homes = λ p. absurd (true≢false (sym p)); spent = λ none. refl })
          (λ j y _ e. each_set (Fits h.home h.gone items) logs port both (record { homes = mine.homes; spent = λ none. absurd (omega (arith, none, part)) }) (λ i z _ f. h.each i z f) j y e);
    }

pub learns : (port : ℕ) (v : Log) → v.is_home ≡ true → v.parts ≡ 64 → Learns RowStands port v (Determines v)
learns port v is whole items logs h at =
    let kept = (h.each port v at).homes is in
    let all : total (λ (u : Log). u.parts) logs ≡ v.parts = omega (arith, whole, h.parts) in (
      h.gone,
      kept.1,
      kept.2,
      λ x.
          let s = total_whole (λ u. times x u.stolen) logs port v idle at all refl refl (λ j u e none. ap (times x) ((h.each j u e).spent none)) in
          sym s ∙ h.stolen x,
    )

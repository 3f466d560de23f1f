-- How the account of the deques is settled.
use Rattle.std.proofs.Common.{◌≡◌, ◌<◌, ◌≤◌, ◌*◌, ◌+◌, ◌-◌, ℕ, List, [], ◌++◌, map, length, get_or, sym, ap, subst, ◌∙◌, arith, refl}
use Rattle.std.proofs.lemmas.List.{get_or-map, length-map}
use Rattle.std.proofs.Math.ListN.{get_or-map as get_or-map_same}
use Rattle.deque_rows.specs.declared.account.Log.{Log}
use Rattle.deque_rows.specs.declared.hart.HartRows.{HartRows}
use Rattle.deque_rows.specs.declared.ends.StealingEnd.{StealingEnd}
use Rattle.deque_rows.specs.Account.{idle, times, IsSettled, Determines, joined}
use Rattle.deque_rows.specs.Rows.{RowName, Identity, identity, share, home_logs, home_names, pass_logs, owner_log, row_at, AreAll}
use Rattle.deque_rows.specs.Lines.{end_log, end_name, gathered}
use Rattle.deque_rows.proofs.Totals.{times-append}
use Rattle.deque_rows.proofs.Orders.{order_rest}
use Rattle.deque_rows.proofs.Places.{row_at-map}
use Rattle.deque_rows.proofs.Makes.{map_one, map_twice}

-- The account of a deque once all its ends are back.
pub settled : (v : Log) (stolen items : List ℕ) → Determines (gathered v 64 stolen) items → IsSettled v stolen
settled v stolen items told = record {
  left = items;
  gone = told.0;
  counts = λ x.
      let a = told.2.counts x in
      let b = ap (times x) told.1 in
      let s = told.3 x in
      omega (arith, a, b, s, times-append x told.0 items);
  order = order_rest told.0 items v.pushed (subst (λ l. Rattle.deque_rows.specs.Account.InOrder l v.pushed) told.1 told.2.order);
  kept = told.1;
  steals = told.3;
}

module _ (first : List HartRows) (all : AreAll (map identity first)) where
  few_identities : length (map identity first) ≡ length first
  few_identities = length-map first identity

  identity_at : (h : ℕ) (d : HartRows) → h < length first → get_or (map identity first) h (identity d) ≡ identity (get_or first h d)
  identity_at h d there = get_or-map_same identity first h d

  of_identity : (h : ℕ) → h < length first → h < length (map identity first)
  of_identity h there = subst (λ n. h < n) (sym few_identities) there

  -- No end is back yet.
  pub untouched : (r : ℕ) → r < 3 * length first → owner_log first r ≡ gathered (owner_log first r) (64 - length first + 0) []
  untouched r there =
      let same : map (λ (k : Identity). k.home_shares) (map identity first) ≡ map (map share) (map home_logs first) = map_twice (λ (k : Identity). k.home_shares) identity (map share) home_logs (λ q. refl) first in
      let own : share (owner_log first r) ≡ (64 - length (map identity first), []) = sym (row_at-map share (map home_logs first) idle r) ∙ ap (λ l. row_at (0, []) l r) (sym same) ∙ all.shares r (omega (arith, there, few_identities)) in
      let parts : 64 - length (map identity first) ≡ 64 - length first + 0 = omega (arith, few_identities) in
      ap (λ (x : ℕ × List ℕ). gathered (owner_log first r) x.0 x.1) own ∙ ap (λ p. gathered (owner_log first r) p []) parts

  -- The ends of hart h, none of which is back yet.
  module _ (h : ℕ) (d : HartRows) (there : h < length first) where
    abbrev pub q : HartRows
    q = get_or first h d

    pub ends_count : q.ends.len ≡ 3 * length first
    ends_count =
        let a = q.reaches in
        let b = ap (λ (k : Identity). k.harts) (sym (identity_at h d there)) ∙ all.reaches h (identity d) (of_identity h there) in
        omega (arith, a, b, few_identities)

    pub end_of : (r : ℕ) (e : StealingEnd) (n : RowName) → r < 3 * length first → end_name (get_or q.ends.items r e) ≡ row_at n (map home_names first) r
    end_of r e n below =
        let k = q.ends.ok in
        let c = ends_count in
        let inside : r < length q.ends.items = omega (arith, k, c, below) in
        sym (get_or-map end_name q.ends.items r e n inside)
        ∙ ap (λ (z : Identity). get_or z.pass_names r n) (sym (identity_at h d there))
        ∙ all.passes h r (identity d) n (of_identity h there) (omega (arith, below, few_identities))
        ∙ ap (λ l. row_at n l r) (map_one (λ (z : Identity). z.home_names) identity home_names (λ z. refl) first)

    -- The log of an end of hart h, in the list of stolen indices.
    pub end_in_line : (r : ℕ) (e : StealingEnd) → r < 3 * length first → end_log (get_or q.ends.items r e) ≡ get_or (get_or (map pass_logs first) h []) r idle
    end_in_line r e below =
        let k = q.ends.ok in
        let c = ends_count in
        let inside : r < length q.ends.items = omega (arith, k, c, below) in
        sym (get_or-map end_log q.ends.items r e idle inside) ∙ ap (λ l. get_or l r idle) (sym (get_or-map pass_logs first h d [] there))

    pub end_part : (r : ℕ) (e : StealingEnd) → r < 3 * length first → (end_log (get_or q.ends.items r e)).parts ≡ 1
    end_part r e below =
        let k = q.ends.ok in
        let c = ends_count in
        let inside : r < length q.ends.items = omega (arith, k, c, below) in
        ap (λ (v : Log). v.parts) (sym (get_or-map end_log q.ends.items r e idle inside))
        ∙ sym (get_or-map_same (λ (v : Log). v.parts) (pass_logs q) r idle)
        ∙ ap (λ (z : Identity). get_or z.pass_parts r 0) (sym (identity_at h d there))
        ∙ all.parts h r (identity d) (of_identity h there) (omega (arith, below, few_identities))

pub few_rows : (first : List HartRows) → AreAll (map identity first) → length first ≤ 16
few_rows first all = let a = all.few in let b = length-map first identity in omega (arith, a, b)

pub sums : (a g : ℕ) → a + g + 1 ≡ a + (g + 1)
sums a g = omega arith

-- A log after one more hart's end is joined in.
pub gathers : (v w : Log) (parts : ℕ) (stolen : List ℕ) → w.parts ≡ 1 → joined (gathered v parts stolen) w ≡ gathered v (parts + 1) (stolen ++ w.stolen)
gathers v w parts stolen one = ap (λ p. gathered v (parts + p) (stolen ++ w.stolen)) one

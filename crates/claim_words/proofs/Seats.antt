-- A cut and a join of seats keep the account.
use Rattle.std.proofs.Common.{◌≡◌, ◌<◌, ℕ, ◌+◌, ◌-◌, List, [], ◌∷◌, ◌++◌, map, set, sym, refl, ap, ◌∙◌, inl, inr, ⊎_elim, arith, slice_index}
use mathlib.Core.Option.{some}
use lib.ListN.{get_elem?}
use Rattle.atomic_table.specs.Table.{Splits, Joins, Seen, Final}
use Rattle.atomic_table.proofs.Lists.{at_set}
use Rattle.claim_words.specs.declared.seat_view.SeatView.{SeatView}
use Rattle.claim_words.specs.Claims.{weigh, is_claim, is_row, claims, pasts, past_word, once, Keeps, ClaimsStand, fresh, joined}
use Rattle.claim_words.specs.declared.seat.ClaimSeat.{ClaimSeat}
use Rattle.claim_words.specs.declared.table.ClaimTable.{ClaimTable}
use Rattle.claim_words.specs.Seats.{identity, seat_view, IsOf, AreOf, parts_of, claims_of, reads_past}
use Rattle.claim_words.proofs.Sums.{weigh-append, total_set, each_set, split_lt, total_snoc, each_snoc, total_whole}

pub parts-snoc : (xs : List ClaimSeat) (s : ClaimSeat) → parts_of (map identity (xs ++ s ∷ [])) ≡ (seat_view s).parts + parts_of (map identity xs)
parts-snoc [] s = refl
parts-snoc (x ∷ xs) s = let rest = parts-snoc xs s in omega (arith, rest)

pub claims-snoc : (r m : ℕ) (xs : List ClaimSeat) (s : ClaimSeat) → claims_of r m (xs ++ s ∷ []) ≡ claims r m (seat_view s) + claims_of r m xs
claims-snoc r m [] s = refl
claims-snoc r m (x ∷ xs) s = let rest = claims-snoc r m xs s in omega (arith, rest)

pub reads-snoc : (words : List ℕ) (xs : List ClaimSeat) (s : ClaimSeat) → reads_past words (xs ++ s ∷ []) ≡ weigh (past_word words) (seat_view s).looks + reads_past words xs
reads-snoc words [] s = refl
reads-snoc words (x ∷ xs) s = let rest = reads-snoc words xs s in omega (arith, rest)

pub of-snoc : (t : ClaimTable) (xs : List ClaimSeat) (s : ClaimSeat) → AreOf t (map identity (xs ++ s ∷ [])) → IsOf t (identity s) × AreOf t (map identity xs)
of-snoc t [] s are = (are.0, tt)
of-snoc t (x ∷ xs) s are = let rest = of-snoc t xs s are.1 in (rest.0, (are.0, rest.1))

pub snoc-of : (t : ClaimTable) (xs : List ClaimSeat) (s : ClaimSeat) → AreOf t (map identity xs) → IsOf t (identity s) → AreOf t (map identity (xs ++ s ∷ []))
snoc-of t [] s are is = (is, tt)
snoc-of t (x ∷ xs) s are is = (are.0, snoc-of t xs s are.1 is)

-- A new seat that gives a part away stays new.
pub cut-fresh : (v w : SeatView) (counts : List ℕ) → v ≡ fresh v.parts counts → w ≡ record v { parts = v.parts - 1 } → w ≡ fresh w.parts counts
cut-fresh v w counts is cut =
    let parts : w.parts ≡ v.parts - 1 = ap (λ (u : SeatView). u.parts) cut in
    cut ∙ ap (λ (u : SeatView). record u { parts = v.parts - 1 }) is ∙ ap (λ p. fresh p counts) (sym parts)

module _ (counts : List ℕ) where
  pub splits : (id : ℕ) (v : SeatView) → 1 < v.parts → v.past ≡ [] → Splits (ClaimsStand counts) id v (record v { parts = v.parts - 1 }) (fresh 1 v.counts)
  splits id v more clean s h at =
      let l : SeatView = record v { parts = v.parts - 1 } in
      let r : SeatView = fresh 1 v.counts in
      let vs = set s.views id l in
      let mine = h.each id v at in
      record {
        parts = (let a = total_set (λ u. u.parts) s.views id v l at in let b = total_snoc (λ u. u.parts) vs r in omega (arith, a, b, h.parts, more));
        once_each = λ row m. (let a = total_set (claims row m) s.views id v l at in let b = total_snoc (claims row m) vs r in let o = h.once_each row m in omega (arith, a, b, o));
        bound = λ row. (let a = total_set (pasts row) s.views id v l at in let b = total_snoc (pasts row) vs r in let o = h.bound row in omega (arith, a, b, o));
        each = each_snoc (Keeps counts s.words) vs r (record {
          spent = λ none. absurd (omega (arith, none));
          few = λ row. omega arith;
          fresh = λ row is. absurd (omega (arith, is));
          over = λ row some_past. absurd (omega (arith, some_past));
          reported = λ _. mine.reported (omega (arith, more));
          seen = refl;
        }) (each_set (Keeps counts s.words) s.views id l (record {
          spent = λ none. absurd (omega (arith, none, more));
          few = λ row. (let none = ap (λ (xs : List ℕ). weigh (is_row row) xs) clean in omega (arith, none));
          fresh = mine.fresh;
          over = mine.over;
          reported = λ _. mine.reported (omega (arith, more));
          seen = mine.seen;
        }) h.each);
        rows = h.rows;
        small = h.small;
      }

  pub joins : (id : ℕ) (v : SeatView) (other : ℕ) (w : SeatView) → 0 < v.parts → Joins (ClaimsStand counts) id v other w
      (joined v w) (fresh 0 [])
  joins id v other w part s h at apart at2 =
      let both : SeatView = joined v w in
      let spent : SeatView = fresh 0 [] in
      let vs = set s.views id both in
      let mine = h.each id v at in
      let was : get_elem? s.views other ≡ some w = ⊎_elim (λ x. absurd (apart x.0)) (λ x. x.1) (at_set s.views id other both w at2) in
      let theirs = h.each other w was in
      record {
        parts = (let a = total_set (λ u. u.parts) s.views id v both at in let b = total_set (λ u. u.parts) vs other w spent at2 in omega (arith, a, b, h.parts));
        once_each = λ row m.
            let a = total_set (claims row m) s.views id v both at in
            let b = total_set (claims row m) vs other w spent at2 in
            let c = weigh-append (is_claim row m) v.claimed w.claimed in
            let o = h.once_each row m in
            omega (arith, a, b, c, o);
        bound = λ row.
            let a = total_set (pasts row) s.views id v both at in
            let b = total_set (pasts row) vs other w spent at2 in
            let c = weigh-append (is_row row) v.past w.past in
            let o = h.bound row in
            omega (arith, a, b, c, o);
        each = each_set (Keeps counts s.words) vs other spent (record {
          spent = λ none. (refl, refl, refl);
          few = λ row. omega arith;
          fresh = λ row is. absurd (omega (arith, is));
          over = λ row some_past. absurd (omega (arith, some_past));
          reported = λ none. absurd (omega (arith, none));
          seen = refl;
        }) (each_set (Keeps counts s.words) s.views id both (record {
          spent = λ none. absurd (omega (arith, none, part));
          few = λ row. (let c = weigh-append (is_row row) v.past w.past in let a = mine.few row in let b = theirs.few row in omega (arith, a, b, c));
          fresh = λ row is. absurd (omega (arith, is));
          over = λ row some_past.
              let c = weigh-append (is_row row) v.past w.past in
              elim (split_lt 0 (pasts row v)) [
                | inl x ↦ mine.over row x.0
                | inr x ↦ (let none = x.0 in theirs.over row (omega (arith, c, none, some_past)))
              ];
          reported = λ _. mine.reported part;
          seen = (let a = mine.seen in let b = theirs.seen in let c = weigh-append (past_word s.words) v.looks w.looks in omega (arith, a, b, c));
        }) h.each);
        rows = h.rows;
        small = h.small;
      }

  pub settles : (id : ℕ) (v : SeatView) (ws : List ℕ) (xs : List ℕ) → v.parts ≡ 256 → Final (Seen (ClaimsStand counts) id v) ws xs
      → (words : List ℕ) × ((r m : ℕ) → claims r m v ≡ once m (slice_index words r) (slice_index counts r)) × (weigh (past_word words) v.looks ≡ 0)
  settles id v ws xs whole final =
      let s = final.0 in
      let h = final.1.0 in
      let at = final.1.1 in (
        s.words,
        (λ r m.
            let all : weigh (λ (u : SeatView). u.parts) s.views ≡ v.parts = omega (arith, whole, h.parts) in
            let sum = total_whole (claims r m) s.views id v (fresh 0 []) at all refl refl (λ j u e none. ap (λ (l : List (ℕ × ℕ)). weigh (is_claim r m) l) ((h.each j u e).spent none).0) in
            sym sum ∙ h.once_each r m),
        (h.each id v at).seen,
      )

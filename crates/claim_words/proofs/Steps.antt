-- Each kind of step keeps the account.
use Rattle.std.proofs.Common.{◌≡◌, ◌≢◌, ◌⊎◌, ◌<◌, ◌≤◌, ℕ, suc, ◌+◌, ◌%◌, ◌^◌, List, [], ◌∷◌, ◌++◌, length, set, sym, refl, ap, ◌∙◌, subst, inl, inr, arith, Bool, slice_index, if◌then◌else◌, ◌==◌, length-set}
use mathlib.Core.Option.{some}
use lib.ListN.{get_elem?}
use Rattle.std.proofs.lemmas.List.{set-get_or}
use Rattle.std.proofs.Math.Nat.{mod-eq_of_lt}
use Rattle.atomic_table.specs.Table.{State, keeps, Allows}
use Rattle.claim_words.specs.declared.seat_view.SeatView.{SeatView}
use Rattle.claim_words.specs.declared.seat_view.LookKind.TheVariants as kind
use Rattle.claim_words.specs.Claims.{is_claim, is_row, claims, pasts, once, Keeps, Each, ClaimsStand, past_word, look, looked, drawn}
use Rattle.claim_words.proofs.Sums.{weigh-append, total_set, each_set, sum_le, split_lt, word_after, once_more, once_past, claim_here, claim_else, row_here, row_else, weigh_le, past_le, past_none}

module _ (counts : List ℕ) where
  pub looks : (slots id row : ℕ) (v : SeatView) (held : List (ℕ × ℕ)) → 0 < v.parts → Allows (ClaimsStand counts) slots id (v, held) row (λ n. n) (λ n after. after ≡ (looked v row n, held))
  looks slots id row v held part s h homes at small =
      let n = slice_index s.words row in
      let w : SeatView = looked v row n in
      let mine = h.each id v at in
      let reported = mine.reported part in
      let kept : Keeps counts s.words w = record {
        spent = λ none. absurd (omega (arith, none, part));
        few = mine.few;
        fresh = λ r is. elim (split_lt n (slice_index v.counts row)) [
          | inl low ↦
              let same : suc row ≡ suc r = sym (ap (λ (b : Bool). if b then suc row else 0) low.1) ∙ is in
              let row_is : row ≡ r = omega (arith, same) in
              let over = mine.over r in
              let below : slice_index s.words r < slice_index counts r = subst (λ (k : ℕ). slice_index s.words k < slice_index counts k) row_is (subst (λ (l : List ℕ). n < slice_index l row) reported low.0) in
              elim (split_lt 0 (pasts r v)) [
                | inl some_past ↦ absurd (omega (arith, over some_past.0, below))
                | inr none ↦ omega (arith, none.0)
              ]
          | inr high ↦ absurd (let zero_is : 0 ≡ suc r = sym (ap (λ (b : Bool). if b then suc row else 0) high.1) ∙ is in omega (arith, zero_is))
        ];
        over = mine.over;
        reported = mine.reported;
        seen = (let a = weigh-append (past_word s.words) v.looks (look row kind.Look n ∷ []) in let b = past_none s.words (look row kind.Look n) (omega arith) in let m = mine.seen in omega (arith, a, b, m));
      } in
      let all : ClaimsStand counts (record { words = s.words; homes = s.homes; views = set s.views id w }) = record {
        parts = (let t = total_set (λ u. u.parts) s.views id v w at in omega (arith, t, h.parts));
        once_each = λ r m. (let t = total_set (claims r m) s.views id v w at in let o = h.once_each r m in omega (arith, t) ∙ o);
        bound = λ r. (let t = total_set (pasts r) s.views id v w at in omega (arith, t, h.bound r));
        each = each_set (Keeps counts s.words) s.views id w kept h.each;
        rows = h.rows;
        small = h.small;
      } in
      (w, keeps, tt, subst (λ (ws : List ℕ). ClaimsStand counts (record { words = ws; homes = s.homes; views = set s.views id w })) (sym (set-get_or s.words row 0)) all, refl)

  -- The view after a member was drawn, and after a number past the members.
  abbrev taken : SeatView → ℕ → ℕ → SeatView
  taken v row n = record v { trying = 0; looks = v.looks ++ look row kind.Draw n ∷ []; claimed = v.claimed ++ (row, n) ∷ []; past = v.past }

  abbrev passed : SeatView → ℕ → ℕ → SeatView
  passed v row n = record v { trying = 0; looks = v.looks ++ look row kind.Draw n ∷ []; claimed = v.claimed; past = v.past ++ row ∷ [] }

  abbrev drawn_by : Bool → SeatView → ℕ → ℕ → SeatView
  drawn_by b v row n = record v {
    trying = 0;
    looks = v.looks ++ look row kind.Draw n ∷ [];
    claimed = if b then v.claimed ++ (row, n) ∷ [] else v.claimed;
    past = if b then v.past else v.past ++ row ∷ [];
  }

  module _ (id row : ℕ) (v : SeatView) (s : State ℕ SeatView) (part : 0 < v.parts) (there : row < length counts) (try : v.trying ≡ suc row) (h : ClaimsStand counts s) (at : get_elem? s.views id ≡ some v) where
    n : ℕ
    n = slice_index s.words row

    after_words : List ℕ
    after_words = set s.words row (slice_index s.words row + 1)

    -- No word falls, so the other seats' facts stay.
    rises : (r : ℕ) → slice_index s.words r ≤ slice_index (set s.words row (slice_index s.words row + 1)) r
    rises r = elim (word_after s.words row (slice_index s.words row + 1) r (let long = h.rows in omega (arith, long, there))) [
      | inl x ↦ (let e = x.1 in let f = ap (λ (k : ℕ). slice_index s.words k) x.0 in omega (arith, e, f))
      | inr x ↦ (let e = x.1 in omega (arith, e))
    ]

    stay : Each (Keeps counts (set s.words row (slice_index s.words row + 1))) s.views
    stay j u e = let k = h.each j u e in record {
      spent = k.spent;
      few = k.few;
      fresh = k.fresh;
      over = λ r some_past. (let a = k.over r some_past in let b = rises r in omega (arith, a, b));
      reported = k.reported;
      seen = (let m = k.seen in let l = weigh_le (past_word (set s.words row (slice_index s.words row + 1))) (past_word s.words) (λ x. past_le s.words (set s.words row (slice_index s.words row + 1)) x (rises x.row)) u.looks in omega (arith, m, l));
    }

    at_row : (r : ℕ) → ((r ≡ row) × (slice_index (set s.words row (slice_index s.words row + 1)) r ≡ slice_index s.words row + 1)) ⊎ ((r ≢ row) × (slice_index (set s.words row (slice_index s.words row + 1)) r ≡ slice_index s.words r))
    at_row r = word_after s.words row (slice_index s.words row + 1) r (let long = h.rows in omega (arith, long, there))

    pub takes_one : slice_index s.words row < slice_index counts row
        → ClaimsStand counts (record { words = set s.words row (slice_index s.words row + 1); homes = s.homes; views = set s.views id (taken v row (slice_index s.words row)) })
    takes_one low =
        let k = slice_index s.words row in
        let w : SeatView = taken v row k in
        let mine = stay id v at in
        record {
          parts = (let t = total_set (λ u. u.parts) s.views id v w at in omega (arith, t, h.parts));
          once_each = λ r m.
              let t = total_set (claims r m) s.views id v w at in
              let more = weigh-append (is_claim r m) v.claimed ((row, k) ∷ []) in
              let o = h.once_each r m in
              elim (at_row r) [
                | inl x ↦
                    let here : is_claim r m (row, k) ≡ (if k == m then 1 else 0) = subst (λ (q : ℕ). is_claim q m (row, k) ≡ (if k == m then 1 else 0)) (sym x.0) (claim_here m row k) in
                    let step : once m (slice_index (set s.words row (k + 1)) r) (slice_index counts r) ≡ once m (slice_index s.words r) (slice_index counts r) + (if k == m then 1 else 0) =
                    subst (λ (q : ℕ). once m q (slice_index counts r) ≡ once m (slice_index s.words r) (slice_index counts r) + (if k == m then 1 else 0)) (sym x.1)
                    (subst (λ (q : ℕ). once m (k + 1) (slice_index counts q) ≡ once m (slice_index s.words q) (slice_index counts q) + (if k == m then 1 else 0)) (sym x.0) (once_more m k (slice_index counts row) low)) in
                    omega (arith, t, more, o, here, step)
                | inr x ↦
                    let here = claim_else r m row k x.0 in
                    let step = ap (λ (q : ℕ). once m q (slice_index counts r)) x.1 in
                    omega (arith, t, more, o, here, step)
              ];
          bound = λ r.
              let t = total_set (pasts r) s.views id v w at in
              let b = h.bound r in
              elim (at_row r) [
                | inl x ↦ (let e = x.1 in let c : slice_index s.words row < slice_index counts r = subst (λ (q : ℕ). slice_index s.words row < slice_index counts q) (sym x.0) low in omega (arith, t, b, e, c))
                | inr x ↦ (let e = x.1 in omega (arith, t, b, e))
              ];
          each = each_set (Keeps counts (set s.words row (k + 1))) s.views id w (record {
            spent = λ none. absurd (omega (arith, none, part));
            few = mine.few;
            fresh = λ r is. absurd (omega (arith, is));
            over = mine.over;
            reported = mine.reported;
            seen = (let a = weigh-append (past_word (set s.words row (k + 1))) v.looks (look row kind.Draw k ∷ []) in let b = past_none (set s.words row (k + 1)) (look row kind.Draw k) (rises row) in let m = mine.seen in omega (arith, a, b, m));
          }) stay;
          rows = length-set s.words row (k + 1) ∙ h.rows;
          small = h.small;
        }

    pub goes_past : slice_index counts row ≤ slice_index s.words row
        → ClaimsStand counts (record { words = set s.words row (slice_index s.words row + 1); homes = s.homes; views = set s.views id (passed v row (slice_index s.words row)) })
    goes_past high =
        let k = slice_index s.words row in
        let w : SeatView = passed v row k in
        let mine = stay id v at in
        let clean = (h.each id v at).fresh row try in
        let more = λ (r : ℕ). weigh-append (is_row r) v.past (row ∷ []) in
        record {
          parts = (let t = total_set (λ u. u.parts) s.views id v w at in omega (arith, t, h.parts));
          once_each = λ r m.
              let t = total_set (claims r m) s.views id v w at in
              let o = h.once_each r m in
              elim (at_row r) [
                | inl x ↦
                    let step : once m (slice_index (set s.words row (k + 1)) r) (slice_index counts r) ≡ once m (slice_index s.words r) (slice_index counts r) =
                    subst (λ (q : ℕ). once m q (slice_index counts r) ≡ once m (slice_index s.words r) (slice_index counts r)) (sym x.1)
                    (subst (λ (q : ℕ). once m (k + 1) (slice_index counts q) ≡ once m (slice_index s.words q) (slice_index counts q)) (sym x.0) (once_past m k (slice_index counts row) high)) in
                    omega (arith, t, o, step)
                | inr x ↦ (let step = ap (λ (q : ℕ). once m q (slice_index counts r)) x.1 in omega (arith, t, o, step))
              ];
          bound = λ r.
              let t = total_set (pasts r) s.views id v w at in
              let b = h.bound r in
              let a = more r in
              elim (at_row r) [
                | inl x ↦
                    let e = x.1 in
                    let f = ap (λ (q : ℕ). slice_index s.words q) x.0 in
                    let here : is_row r row ≡ 1 = subst (λ (q : ℕ). is_row q row ≡ 1) (sym x.0) (row_here row) in
                    omega (arith, t, b, a, e, f, here)
                | inr x ↦ (let e = x.1 in let here = row_else r row x.0 in omega (arith, t, b, a, e, here))
              ];
          each = each_set (Keeps counts (set s.words row (k + 1))) s.views id w (record {
            spent = λ none. absurd (omega (arith, none, part));
            few = λ r.
                let a = more r in
                let f = mine.few r in
                elim (at_row r) [
                  | inl x ↦
                      let here : is_row r row ≡ 1 = subst (λ (q : ℕ). is_row q row ≡ 1) (sym x.0) (row_here row) in
                      let none : pasts r v ≡ 0 = subst (λ (q : ℕ). pasts q v ≡ 0) (sym x.0) clean in
                      omega (arith, a, here, none, part)
                  | inr x ↦ (let here = row_else r row x.0 in omega (arith, a, f, here))
                ];
            fresh = λ r is. absurd (omega (arith, is));
            over = λ r some_past.
                let a = more r in
                elim (at_row r) [
                  | inl x ↦ (let e = x.1 in let c : slice_index counts r ≤ slice_index s.words row = subst (λ (q : ℕ). slice_index counts q ≤ slice_index s.words row) (sym x.0) high in omega (arith, e, c))
                  | inr x ↦ (let here = row_else r row x.0 in mine.over r (omega (arith, a, here, some_past)))
                ];
            reported = mine.reported;
            seen = (let a = weigh-append (past_word (set s.words row (k + 1))) v.looks (look row kind.Draw k ∷ []) in let b = past_none (set s.words row (k + 1)) (look row kind.Draw k) (rises row) in let m = mine.seen in omega (arith, a, b, m));
          }) stay;
          rows = length-set s.words row (k + 1) ∙ h.rows;
          small = h.small;
        }

    pub no_wrap : (slice_index s.words row + 1) % 2 ^ 64 ≡ slice_index s.words row + 1
    no_wrap =
        let most = sum_le (pasts row) (λ u. u.parts) s.views (λ j u e. (h.each j u e).few row) in
        let b = h.bound row in
        let c = h.small row in
        mod-eq_of_lt (omega (arith, most, b, c, h.parts))

  pub draws : (slots id row : ℕ) (v : SeatView) (held : List (ℕ × ℕ)) → 0 < v.parts → row < length counts → v.trying ≡ suc row
      → Allows (ClaimsStand counts) slots id (v, held) row (λ n. (n + 1) % 2 ^ 64) (λ n after. after ≡ (drawn v row n, held))
  draws slots id row v held part there try s h homes at small =
      let k = slice_index s.words row in
      let reported = (h.each id v at).reported part in
      let wraps = no_wrap id row v s part there try h at in
      elim (split_lt k (slice_index v.counts row)) [
        | inl low ↦
            let same : taken v row k ≡ drawn v row k = sym (ap (λ (b : Bool). drawn_by b v row k) low.1) in
            let all = takes_one id row v s part there try h at (subst (λ (l : List ℕ). k < slice_index l row) reported low.0) in
            (taken v row k, keeps, tt, subst (λ (q : ℕ). ClaimsStand counts (record { words = set s.words row q; homes = s.homes; views = set s.views id (taken v row k) })) (sym wraps) all, (λ i. (same i, held)))
        | inr high ↦
            let same : passed v row k ≡ drawn v row k = sym (ap (λ (b : Bool). drawn_by b v row k) high.1) in
            let all = goes_past id row v s part there try h at (subst (λ (l : List ℕ). slice_index l row ≤ k) reported high.0) in
            (passed v row k, keeps, tt, subst (λ (q : ℕ). ClaimsStand counts (record { words = set s.words row q; homes = s.homes; views = set s.views id (passed v row k) })) (sym wraps) all, (λ i. (same i, held)))
      ]

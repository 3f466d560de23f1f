-- The contents of hart 0's view, and the complete run that the invariant then has.
use Rattle.std.proofs.Common.{◌≡◌, ℕ, zero, suc, ◌+◌, ◌<◌, ◌≤◌, List, [], ◌∷◌, length, take, get_or, refl, sym, ap, ◌∙◌, subst, arith}
use mathlib.Core.Option.{some}
use mathlib.Core.Logic.{dite}
use native.Mathlib.Decide.{ℕ_discrete}
use lib.ListN.{get_elem?}
use Rattle.std.specs.List.{remove}
use Rattle.atomic_table.proofs.Lists.{at_longer, at_last}
use Rattle.atomic_table.specs.Seated.{TableId}
use Rattle.open_table.specs.declared.table.Size.{Size}
use Rattle.open_table.specs.Table.{made_by}
use Rattle.open_table.proofs.Ways.{no_site_is_left}
use Rattle.open_rule.specs.declared.view.View.{View}
use Rattle.open_rule.specs.declared.view.Ended.{Ended}
use Rattle.open_rule.specs.Views.{joined_view}
use Rattle.open_rule.specs.Rule.{Stands, IsSeat}
use Rattle.open_rule.specs.Laws.{St}
use Rattle.open_rule.proofs.Moves.{know}
use Rattle.open_board.specs.declared.seat.OpenSeat.{OpenSeat}
use Rattle.open_board.specs.Ending.{view_at, AreAll, AreAtBase, AreOthers, HasOne, HasFrom, HasFinished}

pub take_fewer : {A : Type 0} (xs : List A) (n m : ℕ) → n ≤ m → take n (take m xs) ≡ take n xs
take_fewer [] zero m le = refl
take_fewer [] (suc n) zero le = refl
take_fewer [] (suc n) (suc m) le = refl
take_fewer (x ∷ xs) zero m le = refl
take_fewer (x ∷ xs) (suc n) zero le = absurd (omega arith)
take_fewer (x ∷ xs) (suc n) (suc m) le = ap (λ z. x ∷ z) (take_fewer xs n m (omega arith))

pub taken_at : {A : Type 0} (xs : List A) (n i : ℕ) (d : A) → i < n → get_or (take n xs) i d ≡ get_or xs i d
taken_at [] zero i d lt = refl
taken_at [] (suc n) i d lt = refl
taken_at (x ∷ xs) zero i d lt = absurd (omega arith)
taken_at (x ∷ xs) (suc n) zero d lt = refl
taken_at (x ∷ xs) (suc n) (suc i) d lt = taken_at xs n i d (omega arith)

pub removed_at : {A : Type 0} (xs : List A) (i : ℕ) (d : A) → get_or (remove xs 0) i d ≡ get_or xs (suc i) d
removed_at [] i d = refl
removed_at (x ∷ xs) i d = refl

pub removed_length : {A : Type 0} (xs : List A) → 0 < length xs → length (remove xs 0) + 1 ≡ length xs
removed_length [] lt = absurd (omega arith)
removed_length (x ∷ xs) lt = omega arith

pub first_default : {A : Type 0} (xs : List A) (d e : A) → 0 < length xs → get_or xs 0 d ≡ get_or xs 0 e
first_default [] d e lt = absurd (omega arith)
first_default (x ∷ xs) d e lt = refl

-- The seats after the first.
pub others : (z : TableId) (p : Size) (qs : List OpenSeat) → AreAll z p qs → AreAtBase qs → 0 < length qs → AreOthers z p (remove qs 0)
others z p qs all base filled i d lt =
    let at : get_or qs (suc i) d ≡ get_or (remove qs 0) i d = sym (removed_at qs i d) in
    let less = removed_length qs filled in
    let there : suc i < length qs = omega arith in
    let next : suc i ≡ i + 1 = omega arith in
    let F : OpenSeat → Type 0 = λ q. (q.seat.table_id ≡ z) × (q.seat.me.0.size ≡ p) × (q.seat.me.0.hart ≡ i + 1) × (q.seat.me.0.stack ≡ []) in
    subst F at (all.boards (suc i) d there, all.sizes (suc i) d there, all.harts (suc i) d there ∙ next, base (suc i) d there)

pub has_more : (v w u : View) (all : List OpenSeat) (n m : ℕ) → u ≡ joined_view v w → m ≡ n + 1 → HasFrom v all m → ((d : OpenSeat) → (w.hart ≡ n + 1) × (w ≡ view_at all n d)) → HasFrom u all n
has_more v w u all n m is next old new i d low high = let P : View → Type 0 = λ z. HasOne z (i + 1) (view_at all i d) in subst P (sym is) (dite (ℕ_discrete i n)
    (λ z. let e = new d in
    let same : w ≡ view_at all i d = e.1 ∙ ap (λ (q : ℕ). view_at all q d) (sym z) in
    let Q : View → Type 0 = λ q. HasOne (joined_view v w) (i + 1) q in subst Q same (record {
      at = length v.ended;
      one = at_last v.ended record { hart = w.hart; mine = w.mine } (length v.ended) refl ∙ (λ k. some record { hart = (e.0 ∙ ap (λ (q : ℕ). q + 1) (sym z)) k; mine = w.mine });
    }))
    (λ not. let o = old i d (omega arith) high in record {
      at = o.at;
      one = at_longer v.ended (record { hart = w.hart; mine = w.mine } ∷ []) o.at _ o.one;
    }))

-- If hart 0's view has taken in all others, the invariant has the complete run.
pub finishes : (p : Size) (s : St) (k : Stands p s) (id : ℕ) (v : View) → get_elem? s.views id ≡ some v → IsSeat v → v.hart ≡ 0 → v.stack ≡ []
    → (all : List OpenSeat) → length all ≡ p.harts → ((d : OpenSeat) → v.mine ≡ (view_at all 0 d).mine) → HasFrom v (remove all 0) 0 → HasFinished p all
finishes p s k id v at seat zeroth base all count mine has = record {
  journal = k.journal;
  table = k.table;
  legal = k.legal;
  each = each;
  at_base = based;
  no_site = no_site_is_left p k.journal k.table k.legal based;
}
  where
    id_zero : id ≡ 0
    id_zero = sym (know p s k id v at seat).hart ∙ zeroth

    joined : v.ended ≡ k.ended
    joined = (know p s k id v at seat).joined id_zero

    some_hart : 0 < length all
    some_hart = let n = k.size.some_hart in omega arith

    each : (h : ℕ) (d : OpenSeat) → h < p.harts → made_by h k.journal ≡ (view_at all h d).mine
    each zero d lt = ap (λ (q : ℕ). made_by q k.journal) (sym id_zero) ∙ sym (know p s k id v at seat).mine ∙ mine d
    each (suc h) d lt =
        let one = has h d (omega arith) (let n = removed_length all some_hart in omega arith) in
        let o = k.over one.at _ (ap (λ (es : List Ended). get_elem? es one.at) (sym joined) ∙ one.one) in
        ap (λ (q : ℕ). made_by q k.journal) (omega arith) ∙ sym o.mine ∙ ap (λ (q : OpenSeat). q.seat.me.0.mine) (removed_at all h d)

    based : (h : ℕ) → h < p.harts → k.table.stacks h ≡ []
    based zero lt = ap k.table.stacks (sym id_zero) ∙ sym (know p s k id v at seat).stack ∙ base
    based (suc h) lt =
        let d : OpenSeat = first_of all some_hart in
        let one = has h d (omega arith) (let n = removed_length all some_hart in omega arith) in
        let o = k.over one.at _ (ap (λ (es : List Ended). get_elem? es one.at) (sym joined) ∙ one.one) in
        ap k.table.stacks (omega arith) ∙ o.stack
      where
        first_of : (xs : List OpenSeat) → 0 < length xs → OpenSeat
        first_of [] lt = absurd (omega arith)
        first_of (x ∷ xs) lt = x

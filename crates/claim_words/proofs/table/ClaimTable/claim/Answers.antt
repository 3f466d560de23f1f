use Rattle.std.proofs.Common.{◌≡◌, ◌<◌, List, ℕ, suc, Bool, true, length, slice_index, nat_lt, if◌then◌else◌, subst, sym, ap, ◌∙◌, inl, inr, arith}
use Rattle.claim_words.specs.declared.seat_view.SeatView.{SeatView}
use Rattle.claim_words.proofs.Sums.{split_lt, any_default}
use Rattle.claim_words.proofs.Steps.{looks, draws}
use Rattle.claim_words.proofs.table.ClaimTable.claim.Goals as goal

pub load-shown-requires : goal.load-shown-requires
load-shown-requires c =
    let this = c.args.self.now in
    let wide = this.wide in (
      c.requires.of.0,
      omega (arith, c.requires.row, wide),
      looks this.table.shared.key.items _ _ _ _ _ c.args.seat.now.has_part,
    )

pub fetch_add-number-requires : goal.fetch_add-number-requires
fetch_add-number-requires c =
    let this = c.args.self.now in
    let wide = this.wide in
    let word = c.from-word.result in
    let row_is = c.from-word.ensures in
    let counts = this.counts.items in
    let v = c.args.seat.now.seat.me.0 in
    let there : word < length counts = omega (arith, c.requires.row, row_is) in
    let count_is = c.index.ensures ∙ any_default counts word c.index.result.now 0 there in
    let is = ap (λ (me : SeatView × List (ℕ × ℕ)). me.0) c.load-shown.ensures.2 in
    let low : c.load-shown.result < slice_index counts word = (let a = c.if-shown-count.false in let b = c.from-count.ensures in omega (arith, a, b, count_is)) in
    let part : 0 < c.load-shown.new.seat.me.0.parts = subst (λ (k : ℕ). 0 < k) (sym (ap (λ (u : SeatView). u.parts) is)) c.args.seat.now.has_part in
    let reported_low : c.load-shown.result < slice_index v.counts word = subst (λ (l : List ℕ). c.load-shown.result < slice_index l word) (sym c.requires.of.1) low in
    let test : nat_lt c.load-shown.result (slice_index v.counts word) ≡ true = elim (split_lt c.load-shown.result (slice_index v.counts word)) [
      | inl x ↦ x.1
      | inr x ↦ absurd (omega (arith, x.0, reported_low))
    ] in
    let trying : c.load-shown.new.seat.me.0.trying ≡ suc word = ap (λ (u : SeatView). u.trying) is ∙ ap (λ (b : Bool). if b then suc word else 0) test in (
      c.load-shown.ensures.0 ∙ c.requires.of.0,
      omega (arith, there, wide),
      draws this.table.shared.key.items _ _ _ _ _ part (subst (λ (l : List ℕ). word < length l) (sym this.key) there) trying,
    )

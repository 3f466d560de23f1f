use Rattle.std.proofs.Common.{◌≡◌, List, map, All, subst, sym, ap, ◌∙◌, arith}
use Rattle.claim_words.specs.declared.seat_view.SeatView.{SeatView}
use Rattle.claim_words.specs.declared.seat.ClaimSeat.{ClaimSeat}
use Rattle.claim_words.specs.Seats.{AreOf, IsNew, IsOf, identity, seat_view, parts_of}
use Rattle.std.proofs.lemmas.List.Elements.{All-push}
use Rattle.claim_words.proofs.Seats.{parts-snoc, snoc-of, cut-fresh}
use Rattle.claim_words.proofs.table.ClaimTable.new.Goals as goal

pub loop-preserved : goal.loop-preserved
loop-preserved c =
    let i = c.loop.invariant in
    let one = c.another.ensures in
    let items = c.in_ok-push.ensures.items in
    let seat = c.another.result in
    let is_new : IsNew seat = (ap (λ (v : SeatView). v.claimed) one.fresh, ap (λ (v : SeatView). v.looks) one.fresh) in
    let is_of : IsOf c.in_ok-table.table (identity seat) = (one.of.1 ∙ i.1, ap (λ (v : SeatView). v.counts) one.fresh ∙ ap (λ (v : SeatView). v.counts) i.2) in
    let part : (seat_view seat).parts ≡ 1 = ap (λ (v : SeatView). v.parts) one.fresh in
    let was = i.2 in
    let parts = ap (λ (v : SeatView). v.parts) one.cut in
    let some = c.loop.first.has_part in (
      (let a = c.in_ok-push.ensures.len in let b = i.0 in omega (arith, a, b)),
      one.of.0 ∙ i.1,
      cut-fresh (seat_view c.loop.first) (seat_view c.another.new.seat) c.in_ok-table.table.counts.items i.2 one.cut,
      (let a = i.3 in omega (arith, a, parts, some)),
      subst (λ (l : List ClaimSeat). AreOf c.in_ok-table.table (map identity l)) (sym items) (snoc-of c.in_ok-table.table c.loop.list.items seat i.4 is_of),
      (let a = parts-snoc c.loop.list.items seat in let b = ap (λ (l : List ClaimSeat). parts_of (map identity l)) items in let d = i.5 in omega (arith, a, b, d, part)),
      subst (All IsNew) (sym items) (All-push IsNew c.loop.list.items seat i.6 is_new),
    )

pub returns-clause-all : goal.returns-clause-all
returns-clause-all c =
    let i = c.loop.invariant in
    let t = c.in_ok-table.table in
    let items = c.in_ok-push-2.ensures.items in
    let of = snoc-of t c.loop.list.items c.loop.first i.4 (i.1, ap (λ (v : SeatView). v.counts) i.2) in
    let parts = parts-snoc c.loop.list.items c.loop.first in
    let same = ap (λ (l : List ClaimSeat). parts_of (map identity l)) items in record {
      of = subst (λ (l : List ClaimSeat). AreOf t (map identity l)) (sym items) of;
      whole = (let a = i.5 in let b = i.3 in omega (arith, parts, same, a, b));
    }

pub returns-clause-new : goal.returns-clause-new
returns-clause-new c =
    let i = c.loop.invariant in
    let is_new : IsNew c.loop.first = (ap (λ (v : SeatView). v.claimed) i.2, ap (λ (v : SeatView). v.looks) i.2) in
    subst (All IsNew) (sym c.in_ok-push-2.ensures.items) (All-push IsNew c.loop.list.items c.loop.first i.6 is_new)

use Rattle.std.proofs.Common.{◌≡◌, ◌++◌, [], ◌∷◌, List, ℕ, map, slice_index, subst, sym, ap, ◌∙◌, rules, arith}
use Rattle.claim_words.specs.declared.seat_view.SeatView.{SeatView}
use Rattle.claim_words.specs.declared.seat.ClaimSeat.{ClaimSeat}
use Rattle.claim_words.specs.Claims.{weigh, claims, past_word, once, is_claim}
use Rattle.claim_words.specs.Seats.{AreOf, parts_of, claims_of, reads_past, identity}
use Rattle.claim_words.proofs.Sums.{weigh-append}
use Rattle.claim_words.proofs.Seats.{joins, settles, parts-snoc, claims-snoc, reads-snoc, of-snoc}
use Rattle.claim_words.proofs.laws.claimed.Goals as goal

pub loop-other-init : goal.loop-other-init
loop-other-init c =
    let first = c.in-Some.first in
    let split : c.args.seats.items ≡ c.pop.new.self.items ++ first ∷ [] = c.in-Some.ensures.items in
    let are = of-snoc c.args.table c.pop.new.self.items first (subst (λ (l : List ClaimSeat). AreOf c.args.table (map identity l)) split c.requires.all.of) in (
      are.0.0,
      first.no_slots,
      first.has_part,
      sym (parts-snoc c.pop.new.self.items first) ∙ sym (ap (λ (l : List ClaimSeat). parts_of (map identity l)) split) ∙ c.requires.all.whole,
      (λ r m. sym (claims-snoc r m c.pop.new.self.items first) ∙ sym (ap (claims_of r m) split)),
      are.1,
      (λ ws. sym (reads-snoc ws c.pop.new.self.items first) ∙ sym (ap (reads_past ws) split)),
    )

pub join_seat-requires : goal.join_seat-requires
join_seat-requires c =
    let i = c.loop-other.invariant in
    let other = c.in-Some-pop.other in
    let are = of-snoc c.args.table c.pop-in-loop-other.new.self.items other (subst (λ (l : List ClaimSeat). AreOf c.args.table (map identity l)) c.in-Some-pop.ensures.items i.5) in (
      i.0,
      are.0.0,
      other.no_slots,
      (let wide = c.args.table.wide in omega (arith, wide)),
      joins c.args.table.table.shared.key.items _ _ _ _ i.2,
    )

pub loop-other-preserved : goal.loop-other-preserved
loop-other-preserved c =
    let i = c.loop-other.invariant in
    let other = c.in-Some-pop.other in
    let left = c.pop-in-loop-other.new.self.items in
    let split : c.loop-other.seats.items ≡ left ++ other ∷ [] = c.in-Some-pop.ensures.items in
    let are = of-snoc c.args.table left other (subst (λ (l : List ClaimSeat). AreOf c.args.table (map identity l)) split i.5) in
    let now = ap (λ (me : SeatView × List (ℕ × ℕ)). me.0) c.join_seat.ensures.2 in
    let parts = ap (λ (v : SeatView). v.parts) now in
    let part = i.2 in
    let count = parts-snoc left other in
    let same = ap (λ (l : List ClaimSeat). parts_of (map identity l)) split in
    let whole = i.3 in (
      c.join_seat.ensures.0 ∙ i.0,
      ap (λ (me : SeatView × List (ℕ × ℕ)). me.1) c.join_seat.ensures.2 ∙ i.1,
      omega (arith, parts, part),
      omega (arith, parts, count, same, whole),
      (λ r m.
          let claimed = ap (claims r m) now in
          let both = weigh-append (is_claim r m) c.loop-other.first.me.0.claimed other.seat.me.0.claimed in
          let left_is = claims-snoc r m left other in
          let split_is = ap (claims_of r m) split in
          let before = i.4 r m in
          omega (arith, claimed, both, left_is, split_is, before)),
      are.1,
      (λ ws.
          let read = ap (λ (v : SeatView). weigh (past_word ws) v.looks) now in
          let both = weigh-append (past_word ws) c.loop-other.first.me.0.looks other.seat.me.0.looks in
          let left_is = reads-snoc ws left other in
          let split_is = ap (reads_past ws) split in
          let before = i.6 ws in
          omega (arith, read, both, left_is, split_is, before)),
    )

pub returns : goal.returns
returns c =
    let i = c.loop-other.invariant in
    let none : c.loop-other.seats.items ≡ [] = search rules in
    let whole : c.loop-other.first.me.0.parts ≡ 256 = (let w = i.3 in let p = ap (λ (l : List ClaimSeat). parts_of (map identity l)) none in omega (arith, w, p)) in
    let end = settles c.args.table.table.shared.key.items _ _ _ _ whole c.close_with.ensures.values.2 in record {
      accounted = record {
        words = end.0;
        each = λ r m.
            let sums = i.4 r m in
            let zero = ap (claims_of r m) none in
            let is : claims_of r m c.args.seats.items ≡ claims r m c.loop-other.first.me.0 = omega (arith, sums, zero) in
            is ∙ end.1 r m ∙ ap (λ (l : List ℕ). once m (slice_index end.0 r) (slice_index l r)) c.args.table.key;
        reads = (let sums = i.6 end.0 in let zero = ap (reads_past end.0) none in let last = end.2 in omega (arith, sums, zero, last));
      };
    }

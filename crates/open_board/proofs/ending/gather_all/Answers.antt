use Rattle.std.proofs.Common.{◌≡◌, ◌∙◌, sym, ap, arith, ℕ, ◌+◌, ◌-◌, List, take, get_or, vec_len, Some}
use Rattle.open_rule.specs.declared.view.View.{View}
use Rattle.open_board.specs.declared.seat.OpenSeat.{OpenSeat}
use Rattle.open_board.proofs.Gathers.{take_fewer, taken_at, has_more}
use Rattle.open_board.proofs.ending.gather_all.Goals as goal

pub loop-other-preserved : goal.loop-other-preserved
loop-other-preserved c =
    let i = c.loop-other.invariant in
    let all : List OpenSeat = c.args.seats.items in
    let was : ℕ = vec_len c.loop-other.seats in
    let now : ℕ = vec_len c.pop.new.self in
    let one : now + 1 ≡ was = omega (arith, c.in-Some.ensures.len) in
    let rest : c.pop.new.self.items ≡ take (was - 1) c.loop-other.seats.items = c.pop.ensures.rest in
    let less : was - 1 ≡ now = omega arith in
    let items : c.pop.new.self.items ≡ take now all = rest ∙ ap (λ (xs : List OpenSeat). take (was - 1) xs) i.4 ∙ take_fewer all (was - 1) was (omega arith) ∙ ap (λ (n : ℕ). take n all) less in
    let other : (d : OpenSeat) → c.in-Some.other ≡ get_or all now d = λ d. let v : c.pop.result ≡ Some (get_or c.loop-other.seats.items (was - 1) d) = c.pop.ensures.value d (omega arith) in let e : c.pop.result ≡ Some c.in-Some.other = c.in-Some.is in
    let same : c.in-Some.other ≡ get_or c.loop-other.seats.items (was - 1) d = cc in
    same ∙ ap (λ (xs : List OpenSeat). get_or xs (was - 1) d) i.4 ∙ taken_at all was (was - 1) d (omega arith) ∙ ap (λ (n : ℕ). get_or all n d) less in (
      c.gather.ensures.of,
      ap (λ (v : View). v.hart) c.gather.ensures.joined ∙ i.1,
      ap (λ (v : View). v.stack) c.gather.ensures.joined ∙ i.2,
      ap (λ (v : View). v.mine) c.gather.ensures.joined ∙ i.3,
      items,
      omega (arith, i.5),
      has_more c.loop-other.first.seat.me.0 c.in-Some.other.seat.me.0 c.gather.new.first.seat.me.0 all now was c.gather.ensures.joined (sym one) i.6
          (λ d. (ap (λ (q : OpenSeat). q.seat.me.0.hart) (other d) ∙ (c.requires.seats now d (omega (arith, i.5))).2, ap (λ (q : OpenSeat). q.seat.me.0) (other d))),
    )

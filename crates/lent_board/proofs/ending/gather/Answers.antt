use Rattle.std.proofs.Common.{sym, ap, ◌∙◌, arith, subst}
use Rattle.transfer_table.specs.Plan.{Plan}
use Rattle.atomic_table.specs.Table.{Joins}
use Rattle.board_rule.specs.Rule.{Stands}
use Rattle.board_rule.specs.Views.{joined_view, spent_view}
use Rattle.lent_board.specs.declared.seat.HartSeat.{HartSeat}
use Rattle.lent_board.proofs.Split.{joins}
use Rattle.lent_board.proofs.Gathers.{fits_joined}
use Rattle.board_rule.specs.declared.view.View.{View}
use Rattle.board_rule.specs.Rule.{IsSeat, FitsPlan}
use Rattle.lent_board.proofs.ending.gather.Goals as goal

pub join_seat-requires : goal.join_seat-requires
join_seat-requires g c = let b = c.args.board.now in let q : HartSeat = c.args.first.now in let r : HartSeat = c.args.other in
    let P : Plan → Type 0 = λ p. Joins (Stands g.L.Laid.layout p) q.seat.id q.seat.me.0 r.seat.id r.seat.me.0 (joined_view q.seat.me.0 r.seat.me.0) spent_view in (
      c.requires.boards.0,
      c.requires.boards.1,
      r.no_slots,
      omega (arith, b.wide),
      subst P (sym b.key) (joins g.L.Laid.layout b.plan q.seat.id r.seat.id q.seat.me.0 r.seat.me.0 c.requires.first q.is_seat q.idle r.is_seat (r.idle, r.none_drawn)),
    )

pub invariant_of-first : goal.invariant_of-first
invariant_of-first g c = let q : HartSeat = c.args.first.now in let r : HartSeat = c.args.other in
    let is = ap (λ (m : Rattle.lent_board.proofs.Allowed.M). m.0) c.join_seat.ensures.2 in record {
      is_hart = ap (λ (v : View). v.hart) is ∙ q.is_hart;
      is_owner = ap (λ (v : View). v.owner) is ∙ q.is_owner;
      is_seat = subst IsSeat (sym is) q.is_seat;
      idle = ap (λ (v : View). v.doing) is ∙ q.idle;
      none_drawn = ap (λ (v : View). v.drawn) is ∙ q.none_drawn;
      no_slots = ap (λ (m : Rattle.lent_board.proofs.Allowed.M). m.1) c.join_seat.ensures.2 ∙ q.no_slots;
      fits = subst FitsPlan (sym is) (fits_joined q.seat.me.0 r.seat.me.0 (c.requires.plans.0 ∙ sym c.requires.plans.1) q.fits r.fits);
    }

use Rattle.std.proofs.Common.{sym, ap, ◌∙◌, arith, subst}
use Rattle.open_table.specs.declared.table.Size.{Size}
use Rattle.atomic_table.specs.Table.{Joins}
use Rattle.open_rule.specs.Rule.{Stands, Fits}
use Rattle.open_rule.specs.Views.{joined_view, spent_view}
use Rattle.open_rule.specs.declared.view.View.{View}
use Rattle.open_rule.proofs.Joins.{joins}
use Rattle.open_board.specs.Views.{owner_of, homes_of}
use Rattle.open_board.specs.declared.seat.OpenSeat.{OpenSeat}
use Rattle.open_board.proofs.Taken.{M}
use Rattle.open_board.proofs.ending.gather.Goals as goal

pub join_seat-requires : goal.join_seat-requires
join_seat-requires c = let b = c.args.board.now in let q : OpenSeat = c.args.first.now in let r : OpenSeat = c.args.other in
    let P : Size → Type 0 = λ p. Joins (Stands p) q.seat.id q.seat.me.0 r.seat.id r.seat.me.0 (joined_view q.seat.me.0 r.seat.me.0) spent_view in (
      c.requires.of.0.board,
      c.requires.of.1.board,
      r.no_slots,
      omega (arith, b.wide),
      subst P (sym b.key) (joins b.size q.seat.id r.seat.id q.seat.me.0 r.seat.me.0 c.requires.first q.fits.hart r.fits.hart c.requires.base),
    )

pub invariant_of-first : goal.invariant_of-first
invariant_of-first c = let q : OpenSeat = c.args.first.now in let r : OpenSeat = c.args.other in
    let is = ap (λ (m : M). m.0) c.join_seat.ensures.2 in let f = q.fits in record {
      is_hart = ap (λ (v : View). v.hart) is ∙ q.is_hart;
      is_owner = ap owner_of is ∙ q.is_owner;
      is_homes = ap homes_of is ∙ q.is_homes;
      no_slots = ap (λ (m : M). m.1) c.join_seat.ensures.2 ∙ q.no_slots;
      fits = subst Fits (sym is) (record { hart = f.hart; owned = f.owned; few = f.few; own_home = f.own_home; own_only = f.own_only; base = f.base });
    }

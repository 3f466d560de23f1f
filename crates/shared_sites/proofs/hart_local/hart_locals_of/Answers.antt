use Rattle.std.proofs.Common.{◌∙◌, List, ◌++◌, map, reverse, ap, sym, subst, arith}
use Rattle.std.proofs.lemmas.List.{append-nil}
use Rattle.deque_rows.specs.Rows as deques
use Rattle.deque_rows.proofs.Callers.{reaches_all, last_reaches, rest_reach}
use Rattle.claim_words.specs.Seats as claim_seats
use Rattle.claim_words.specs.declared.seat.ClaimSeat.{ClaimSeat}
use Rattle.shared_sites.specs.declared.hart_local.HartLocal.{HartLocal}
use Rattle.shared_sites.proofs.HartLocals.{given, split_of}
use Rattle.shared_sites.proofs.hart_local.hart_locals_of.Goals as goal

pub loop-own-init : goal.loop-own-init
loop-own-init c =
    let none = c.in_ok-hart_local.ensures.items in
    record {
      rows = ap (λ ts. map deques.identity c.args.rows.items ++ map (λ (t : HartLocal). t.rows) (reverse ts)) none ∙ append-nil (map deques.identity c.args.rows.items);
      seats = ap (λ ts. map claim_seats.identity c.args.seats.items ++ map (λ (t : HartLocal). t.seat) (reverse ts)) none ∙ append-nil (map claim_seats.identity c.args.seats.items);
      count = c.requires.count;
      reaches = λ h d below. reaches_all c.args.rows.items c.requires.hart_local.rows h d below ∙ sym c.args.rows.ok.0 ∙ sym c.len-harts.ensures;
      of = c.requires.hart_local.seats.of;
    }

pub new-requires-clause-harts : goal.new-requires-clause-harts
new-requires-clause-harts c = last_reaches c.loop-own.rows.items c.pop.new.self.items c.in-Some.own c.len-harts.result c.in-Some.ensures.items c.loop-own.invariant.reaches

pub new-requires-clause-of : goal.new-requires-clause-of
new-requires-clause-of c =
    let table = c.args.claims.now.table in
    (split_of table c.pop-in-Some.new.self.items c.in-Some-pop.seat (subst (λ (ss : List ClaimSeat). claim_seats.AreOf table (map claim_seats.identity ss)) c.in-Some-pop.ensures.items c.loop-own.invariant.of)).1

pub loop-own-preserved : goal.loop-own-preserved
loop-own-preserved c =
    let table = c.args.claims.now.table in
    record {
      rows = given deques.identity (λ (t : HartLocal). t.rows) c.loop-own.rows.items c.pop.new.self.items c.in-Some.own c.loop-own.hart_local.items c.push.new.self.items c.new.result (map deques.identity c.args.rows.items)
          c.in-Some.ensures.items c.in_ok-push.ensures.items c.new.ensures.rows c.loop-own.invariant.rows;
      seats = given claim_seats.identity (λ (t : HartLocal). t.seat) c.loop-own.seats.items c.pop-in-Some.new.self.items c.in-Some-pop.seat c.loop-own.hart_local.items c.push.new.self.items c.new.result (map claim_seats.identity c.args.seats.items)
          c.in-Some-pop.ensures.items c.in_ok-push.ensures.items c.new.ensures.seat c.loop-own.invariant.seats;
      count = omega (arith, c.in-Some.ensures.len, c.in-Some-pop.ensures.len, c.loop-own.invariant.count);
      reaches = rest_reach c.loop-own.rows.items c.pop.new.self.items c.in-Some.own c.len-harts.result c.in-Some.ensures.items c.loop-own.invariant.reaches;
      of = (split_of table c.pop-in-Some.new.self.items c.in-Some-pop.seat (subst (λ (ss : List ClaimSeat). claim_seats.AreOf table (map claim_seats.identity ss)) c.in-Some-pop.ensures.items c.loop-own.invariant.of)).0;
    }

use Rattle.std.proofs.Common.{arith}
use Rattle.task_crew.proofs.Seats.{one_more}
use Rattle.task_crew.proofs.run.seats_of.Goals as goal

pub guests-preserved : goal.guests-preserved
guests-preserved g c =
    let i = c.guests.invariant in record {
      seats = one_more g.B.Naming.table g.B.Naming.size c.guests.seats.items c.push_reserved-in-Some.new.self.items c.into_seat-in-Some.result (c.into_seat-in-Some.ensures.board, c.into_seat-in-Some.ensures.size) c.push_reserved-in-Some.ensures.items i.seats;
      count = omega (arith, i.count, c.push_reserved-in-Some.ensures.len, c.in-Some.ensures.cases);
      room = omega (arith, i.room, c.push_reserved-in-Some.ensures.len, c.push_reserved-in-Some.ensures.capacity, c.in-Some.ensures.cases);
    }

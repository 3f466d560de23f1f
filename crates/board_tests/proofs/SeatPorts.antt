-- Ports of all seats of a board: before harts roam, and after.
use Rattle.std.proofs.Common.{◌≡◌, ℕ, ◌+◌, ◌<◌, ◌∙◌, false, List, [], ◌∷◌, length, map, get_or, sym, ap, subst, arith}
use Rattle.std.specs.List.{All}
use Rattle.std.proofs.lemmas.List.{get_or-map, length-map}
use Rattle.atomic_table.specs.Seated.{TableId}
use Rattle.transfer_table.specs.Plan.{Plan, site_count}
use Rattle.transfer_table.proofs.Lists.{replicate_at}
use Rattle.lent_board.specs.PortViews.{table_name, port_view}
use Rattle.lent_board.proofs.Names.{same_table}
use Rattle.board_tests.specs.Roam.{IsSameHart, IsNew}
use Rattle.board_rule.specs.declared.layout.Laid.{Ghosts}
use Rattle.board_rule.specs.declared.view.View.{View}
use Rattle.lent_board.specs.declared.seat.HartSeat.{HartSeat}
use Rattle.lent_board.specs.declared.port.BoardPort.{BoardPort}
use Rattle.lent_board.specs.Seats.{IsNewSeat, AreSeats, AreAll}

-- A new hart is in the base, and the home of no site.
is_new : (z : TableId) (p : Plan) (n h : ℕ) (q : HartSeat) → IsNewSeat z p n h q → IsNew p (port_view q)
is_new z p n h q new = record {
  plan = ap (λ (v : View). v.plan) new.view;
  base = ap (λ (v : View). v.owner) new.view;
  homeless = λ c _. ap (λ (v : View). get_or v.marks.homes c false) new.view ∙ replicate_at (site_count p + 1) c false;
}

module _ {L : Type 0} {laid : Ghosts L} where
  abbrev pub seat_of : BoardPort L laid → HartSeat
  seat_of w = w.seat

  pub all_new : (z : TableId) (p : Plan) (ports : List (BoardPort L laid)) → AreSeats z p (map seat_of ports) → All (λ (w : BoardPort L laid). IsNew p (port_view w.seat)) ports
  all_new z p ports seats k d lt =
      let inside : k < length (map seat_of ports) = omega (arith, length-map ports seat_of) in
      subst (λ (q : HartSeat). IsNew p (port_view q)) (get_or-map seat_of ports k d d.seat lt)
      (is_new z p (length (map seat_of ports)) k (get_or (map seat_of ports) k d.seat) (seats k d.seat inside))

  -- The same harts are on the board's seats.
  pub all_back : (z : TableId) (p : Plan) (xs ys : List (BoardPort L laid)) → AreSeats z p (map seat_of xs) → length xs ≡ p.harts
      → length ys ≡ length xs → ((k : ℕ) (d : BoardPort L laid) → k < length xs → IsSameHart (port_view (get_or xs k d).seat) (port_view (get_or ys k d).seat)) → AreAll z p (map seat_of ys)
  all_back z p xs ys seats count many same = record {
    count = long ∙ count;
    boards = λ h d lt. let e = each h d lt in same_table _ z (e.table ∙ ap table_name (new h d lt).board);
    plans = λ h d lt. (each h d lt).plan ∙ ap (λ (v : View). v.plan) (new h d lt).view;
    harts = λ h d lt. (each h d lt).hart ∙ ap (λ (v : View). v.hart) (new h d lt).view;
  }
    where
      some_port : (ws : List (BoardPort L laid)) {n : ℕ} → n < length ws → BoardPort L laid
      some_port [] lt = absurd (omega (arith, lt))
      some_port (w ∷ ws) lt = w

      long : length (map seat_of ys) ≡ length xs
      long = length-map ys seat_of ∙ many

      new : (h : ℕ) (d : HartSeat) → h < length (map seat_of ys) → IsNewSeat z p (length (map seat_of xs)) h (get_or (map seat_of xs) h d)
      new h d lt = seats h d (omega (arith, long, length-map xs seat_of))

      each : (h : ℕ) (d : HartSeat) → h < length (map seat_of ys) → IsSameHart (port_view (get_or (map seat_of xs) h d)) (port_view (get_or (map seat_of ys) h d))
      each h d lt = let inside : h < length xs = omega (arith, long) in
          let at = some_port xs inside in
          let one : get_or (map seat_of xs) h d ≡ seat_of (get_or xs h at) = get_or-map seat_of xs h at d inside in
          let two : get_or (map seat_of ys) h d ≡ seat_of (get_or ys h at) = get_or-map seat_of ys h at d (omega (arith, long, length-map ys seat_of)) in
          subst (λ (z : HartSeat × HartSeat). IsSameHart (port_view z.0) (port_view z.1)) (λ i. (sym one i, sym two i)) (same h at inside)

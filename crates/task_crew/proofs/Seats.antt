-- Seats of a board.
use Rattle.std.proofs.Common.{◌≡◌, List, [], ◌∷◌, ◌++◌, All, sym, subst}
use Rattle.std.proofs.lemmas.List.Elements.{All-nil, All-cons, All-append}
use Rattle.atomic_table.specs.Seated.{TableId}
use Rattle.open_table.specs.declared.table.Size.{Size}
use Rattle.open_board.specs.declared.seat.OpenSeat.{OpenSeat}
use Rattle.task_crew.specs.Runs.{IsSeatOf}

-- One seat more.
pub one_more : (table : TableId) (size : Size) (made new : List OpenSeat) (seat : OpenSeat) → IsSeatOf table size seat → new ≡ made ++ seat ∷ []
    → All (IsSeatOf table size) made → All (IsSeatOf table size) new
one_more table size made new q is e h =
    let P = IsSeatOf table size in
    subst (All P) (sym e) (All-append P made (q ∷ []) h (All-cons P q [] is (All-nil P)))

-- What a picture shows.
use Rattle.std.specs.Prelude.{List}
use Rattle.transfer_table.specs.Plan.{Plan}
use Rattle.transfer_table.specs.Table.{TableState}
use Rattle.transfer_table.specs.declared.entry.Entry.{Entry}
use Rattle.journal_picture.specs.declared.drawing.Drawing.{Drawing}
use Rattle.journal_picture.specs.declared.shape.Shape.{Shape}
use Rattle.journal_picture.specs.declared.travels.Travels.{Travels}
use Rattle.journal_picture.specs.declared.visits.Visits.{Visits}
use Rattle.journal_picture.specs.Drawn.{state_after}
use Rattle.journal_picture.specs.Travels.{travels_of}
use Rattle.journal_picture.specs.Visits.{visits_of}

-- What a picture shows: a plan, the shapes of its sites, the entries of a list, the table's state after them, and the numbers of
-- its sites and of its harts.
pub record View : Type 0 where
  pub plan : Plan
  pub shapes : List Shape
  pub list : List Entry
  pub state : TableState
  pub visits : List Visits
  pub travels : List Travels

-- What a drawing shows.
abbrev pub view_of : Drawing → View
view_of d = record {
  plan = d.board.plan;
  shapes = d.shapes.now;
  list = d.list.now;
  state = d.board.state;
  visits = d.visits.items;
  travels = d.travels.items;
}

-- What the picture of a plan's entries shows, if the sites have these shapes.
abbrev pub view : Plan → List Shape → List Entry → View
view p shapes es = record {
  plan = p;
  shapes = shapes;
  list = es;
  state = state_after p es;
  visits = visits_of p es;
  travels = travels_of p es;
}

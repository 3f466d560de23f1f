-- Sums over the views of all seats: the pending steps at a site, and the reserved indices.
use Rattle.std.specs.Prelude.{ℕ, ◌+◌, ◌==◌, if◌then◌else◌, List}
use Rattle.transfer_table.specs.Plan.{Plan}
use Rattle.transfer_table.specs.Table.{TableState}
use Rattle.board_rule.specs.declared.layout.Layout.{Layout}
use Rattle.board_rule.specs.Layouts.{insiders}
use Rattle.board_rule.specs.declared.view.View.{View}
use Rattle.board_rule.specs.declared.view.Doing.{Doing}
use Rattle.board_rule.specs.declared.view.Doing.TheVariants.{Idle, Claiming, Crediting, Reserved, Landing, Leaving, Sealing}
use Rattle.transfer_table.specs.Counts.{one_if}
use Rattle.board_rule.specs.Sums.{total, draws_in}

-- 1 for a view that has reserved the index and hasn't written its entry; else 0.
abbrev pub draws : ℕ → View → ℕ
draws i v = draws_in v.drawn i

-- 1 for the view of the hart; else 0.
abbrev pub numbered : ℕ → View → ℕ
numbered h v = one_if (v.hart == h)

-- The pending steps of seats at one site: how many seats are claiming the site, sealing it, reserved to it, landing on it and
-- leaving it, and for how many harts they are crediting it.
pub record Load : Type 0 where
  pub claims : ℕ
  pub seals : ℕ
  pub reserves : ℕ
  pub lands : ℕ
  pub leaves : ℕ
  pub credits : ℕ

-- No seat has a pending step at the site.
abbrev pub no_load : Load
no_load = record { claims = 0; seals = 0; reserves = 0; lands = 0; leaves = 0; credits = 0 }

-- The pending step of a seat, as a load of the site where the seat is busy.
abbrev pub weight : Doing → Load
weight Idle = no_load
weight (Claiming x) = record { claims = 1; seals = 0; reserves = 0; lands = 0; leaves = 0; credits = 0 }
weight (Crediting x k) = record { claims = 0; seals = 0; reserves = 0; lands = 0; leaves = 0; credits = k }
weight (Reserved x) = record { claims = 0; seals = 0; reserves = 1; lands = 0; leaves = 0; credits = 0 }
weight (Landing x) = record { claims = 0; seals = 0; reserves = 0; lands = 1; leaves = 0; credits = 0 }
weight (Leaving x) = record { claims = 0; seals = 0; reserves = 0; lands = 0; leaves = 1; credits = 0 }
weight (Sealing x) = record { claims = 0; seals = 1; reserves = 0; lands = 0; leaves = 0; credits = 0 }

-- The site where a seat is busy; 0 for none.
abbrev pub busy_at : Doing → ℕ
busy_at Idle = 0
busy_at (Claiming x) = x
busy_at (Crediting x k) = x
busy_at (Reserved x) = x
busy_at (Landing x) = x
busy_at (Leaving x) = x
busy_at (Sealing x) = x

-- The load that a seat's pending step puts on the site.
abbrev pub part : Doing → ℕ → Load
part d x = if busy_at d == x then weight d else no_load

-- The load that the pending steps of all seats put on the site.
abbrev pub load : ℕ → List View → Load
load x vs = record {
  claims = total (λ v. (part v.doing x).claims) vs;
  seals = total (λ v. (part v.doing x).seals) vs;
  reserves = total (λ v. (part v.doing x).reserves) vs;
  lands = total (λ v. (part v.doing x).lands) vs;
  leaves = total (λ v. (part v.doing x).leaves) vs;
  credits = total (λ v. (part v.doing x).credits) vs;
}

-- The guests that a site's word counts: the guests inside, if the layout counts them, and the harts that are reserved to the
-- site, landing on it or leaving it.
abbrev pub guests : Layout → Plan → TableState → List View → ℕ → ℕ
guests lay p t vs x = insiders lay p t x + (load x vs).reserves + (load x vs).lands + (load x vs).leaves

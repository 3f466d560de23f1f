-- The port of a single hart that shares nothing.
use Rattle.std.specs.Prelude.{◌≡◌, ℕ, ◌+◌, Bool, true, List, [], length}
use Rattle.transfer_table.specs.Plan.{Plan, IsSite, site_count}
use Rattle.transfer_table.specs.Table.{TableState, row, owner}
use Rattle.transfer_table.specs.Journal.{Reaches}
use Rattle.transfer_table.specs.declared.entry.Stage.TheVariants.{Gone}
use Rattle.hart_port.specs.PortView.{PortView, homes_of, is_in}
use Rattle.hart_port.specs.Words.{site_word}
use Rattle.hart_port.specs.Ledger.{LedgerState, IsLedger, no_site}

-- What contracts see of the port: the view, the state that its journal leads to, the sites that the port ever closed, and the
-- number of refusals.
pub record Plain : Type 0 where
  pub view : PortView
  pub state : TableState
  pub closing : List Bool
  pub refused : ℕ

-- The view of the plan's first hart before the first transfer.
abbrev pub first_view : Plan → PortView
first_view p = record {
  plan = p;
  hart = 0;
  owner = 0;
  mine = [];
  homes = no_site p;
  closed = no_site p;
  empty = no_site p;
  gone = no_site p;
  alone = true;
  table = [];
}

-- The view of the only hart of the ledger.
abbrev pub view_of : LedgerState → List Bool → List Bool → List Bool → PortView
view_of l closed empty gone = record {
  plan = l.plan;
  hart = 0;
  owner = owner l.state 0;
  mine = l.entries;
  homes = homes_of l.state 0;
  closed = closed;
  empty = empty;
  gone = gone;
  alone = true;
  table = [];
}

-- The word that the port shows of a site. The word has the closing bit if the port ever closed the site.
abbrev pub shown_word : Plain → ℕ → ℕ
shown_word p s = site_word (row p.state s) (is_in p.closing s)

-- The port's entries lead to its state, so the entries are legal.
abbrev pub IsReached : Plain → Type 0
IsReached p = Reaches p.view.plan p.view.mine p.state

-- The port's invariant: the ledger's invariant holds, the plan has one hart, each set has its flags, and a site that was seen
-- gone is gone.
pub record IsPlain (l : LedgerState) (closed empty gone : List Bool) : Type 0 where
  pub ledger : IsLedger l
  pub one : l.plan.harts ≡ 1
  pub closed_size : length closed ≡ site_count l.plan + 1
  pub empty_size : length empty ≡ site_count l.plan + 1
  pub gone_size : length gone ≡ site_count l.plan + 1
  pub seen_gone : (s : ℕ) → IsSite l.plan s → is_in gone s ≡ true → (row l.state s).stage ≡ Gone

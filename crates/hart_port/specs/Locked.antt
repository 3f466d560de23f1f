-- The port of a hart that shares a ledger with others, under a lock.
use Rattle.std.specs.Prelude.{◌≡◌, ℕ, ◌+◌, Bool, false, List, [], length}
use Rattle.transfer_table.specs.Plan.{Plan, site_count}
use Rattle.transfer_table.specs.Entry.{registers, requested}
use Rattle.transfer_table.specs.declared.entry.Entry.{Entry}
use Rattle.hart_port.specs.PortView.{PortView, IsPortView, is_in}
use Rattle.hart_port.specs.Ledger.{no_site}

-- What contracts see of the port: the view, the sites of which the hart made Register or Request, and the number of refusals.
pub record Locked : Type 0 where
  pub view : PortView
  pub claimed : List Bool
  pub refused : ℕ

-- The view of a hart that shares the table with others.
abbrev pub shared_view : Plan → ℕ → ℕ → List Entry → List Bool → List Bool → List Bool
    → List Bool → PortView
shared_view p h o mine homes closed empty gone = record {
  plan = p;
  hart = h;
  owner = o;
  mine = mine;
  homes = homes;
  closed = closed;
  empty = empty;
  gone = gone;
  alone = false;
  table = [];
}

-- The port of a hart that hasn't made a transfer.
abbrev pub first_locked : Plan → ℕ → Locked
first_locked p h = record {
  view = shared_view p h 0 [] (no_site p) (no_site p) (no_site p)
      (no_site p);
  claimed = no_site p;
  refused = 0;
}

-- The hart made no Register and no Request of the site.
pub record IsUnclaimed (mine : List Entry) (s : ℕ) : Type 0 where
  pub registers : registers s mine ≡ 0
  pub requested : requested s mine ≡ 0

-- The port's invariant: its view fits its plan, and the hart made no Register and no Request of a site that isn't claimed.
pub record IsLocked (v : PortView) (claimed : List Bool) : Type 0 where
  pub view : IsPortView v
  pub size : length claimed ≡ site_count v.plan + 1
  pub unclaimed : (s : ℕ) → is_in claimed s ≡ false → IsUnclaimed v.mine s

-- The view that a port has of one hart, and how each call changes the view.
use Rattle.std.specs.Prelude.{◌≡◌, ◌≢◌, ℕ, ◌+◌, ◌-◌, ◌≤◌, ◌&&◌, Bool, true, false, List, [], ◌∷◌, ◌++◌, length, map, slice_index_or, slice_set, if◌then◌else◌, Result, Ok, Err}
use Rattle.transfer_table.specs.Plan.{Plan, IsPlan, IsHart, IsSite, parent, site_count}
use Rattle.transfer_table.specs.Table.{TableState, is_live, is_home, owner}
use Rattle.transfer_table.specs.Journal.{Reaches}
use Rattle.transfer_table.specs.Entry.{registers, unregisters, requested, skips_over}
use Rattle.transfer_table.specs.declared.entry.Entry.{Entry}
use Rattle.transfer_table.specs.declared.entry.Entry.TheVariants.{Register, Request, Enter, Yield, Unregister, Skip}
use Rattle.transfer_table.specs.declared.entry.Row.{Row}
use Rattle.hart_port.specs.Words.{is_claimed, is_wanted, flight_of, owner_field}
use Rattle.hart_port.specs.declared.port.Taken.{Taken}
use Rattle.hart_port.specs.declared.port.Entered.{Entered}
use Rattle.hart_port.specs.declared.port.Entered.TheVariants.{Inside, NotWanted, Moved}
use Rattle.hart_port.specs.declared.port.Seen.{Seen}
use Rattle.hart_port.specs.declared.port.Seen.TheVariants.{Empty, Flying, Held}

-- What contracts see of one hart's right to make transfers. A set of sites is a list with a flag for the base and for each
-- site, that of site s at index s.
pub record PortView : Type 0 where
  pub plan : Plan
  pub hart : ℕ
  pub owner : ℕ
  -- The entries that the hart made, in order.
  pub mine : List Entry
  -- The sites that the hart registered and hasn't unregistered.
  pub homes : List Bool
  -- The sites among `homes` that the hart closed. `empty` has the sites that it has seen empty since.
  pub closed : List Bool
  pub empty : List Bool
  -- The sites that the hart has seen gone.
  pub gone : List Bool
  -- Whether no other hart shares the table.
  pub alone : Bool
  -- The identity of the table among others of its kind; empty if no caller needs an identity.
  pub table : List ℕ

-- The set has the site.
abbrev pub is_in : List Bool → ℕ → Bool
is_in flags site = slice_index_or flags site false

-- The set with the site.
abbrev pub with_site : List Bool → ℕ → List Bool
with_site flags site = slice_set flags site true

-- The set without the site.
abbrev pub without : List Bool → ℕ → List Bool
without flags site = slice_set flags site false

-- The hart's entries are the whole journal: there is no other hart, and the entries lead to a state of the table in which the
-- hart's owner is the view's.
pub record IsWhole (v : PortView) : Type 0 where
  pub one : v.plan.harts ≡ 1
  pub state : TableState
  pub reached : Reaches v.plan v.mine state
  pub owner : v.owner ≡ owner state 0

-- The view's plan is a plan, its owner is the base or a site of the plan, each set has its flags, and the base is no home. If
-- no other hart shares the table, the hart's entries are the whole journal.
pub record IsPortView (v : PortView) : Type 0 where
  pub plan : IsPlan v.plan
  pub hart : IsHart v.plan v.hart
  pub owner : v.owner ≤ site_count v.plan
  pub homes : length v.homes ≡ site_count v.plan + 1
  pub closed : length v.closed ≡ site_count v.plan + 1
  pub empty : length v.empty ≡ site_count v.plan + 1
  pub gone : length v.gone ≡ site_count v.plan + 1
  pub base : is_in v.homes 0 ≡ false
  pub whole : v.alone ≡ true → IsWhole v

-- Whether the row is of a live site whose home is the hart.
abbrev pub is_home_of : ℕ → Row → Bool
is_home_of h r = is_live r.stage && is_home r.home h

-- The set of the live sites whose home is the hart.
abbrev pub homes_of : TableState → ℕ → List Bool
homes_of t h = false ∷ map (is_home_of h) t.rows

-- The view after the hart made Register of the site.
abbrev pub registered : PortView → ℕ → PortView
registered v s = record v {
  owner = s;
  mine = v.mine ++ Register v.hart s ∷ [];
  homes = with_site v.homes s;
  closed = without v.closed s;
  empty = without v.empty s;
}

-- The view after the hart made Skip of the site. The owner is unchanged.
abbrev pub skipped : PortView → ℕ → PortView
skipped v s = record v { mine = v.mine ++ Skip v.hart s ∷ [] }

-- The view after the hart made Request of k harts for the site.
abbrev pub requested_by : PortView → ℕ → ℕ → PortView
requested_by v s k = record v { mine = v.mine ++ Request v.hart s k ∷ [] }

-- The view after the hart made Enter of the site.
abbrev pub entered : PortView → ℕ → PortView
entered v s = record v { owner = s; mine = v.mine ++ Enter v.hart s ∷ [] }

-- The view after the hart made Yield of its owner.
abbrev pub yielded : PortView → PortView
yielded v = record v { owner = parent v.plan v.owner; mine = v.mine ++ Yield v.hart v.owner ∷ [] }

-- The view after the hart closed its owner.
abbrev pub closes : PortView → PortView
closes v = record v { closed = with_site v.closed v.owner }

-- The view after the hart saw the site gone. The first such look clears the mark that the site's parent was seen empty, since a
-- hart may have come from the site to the parent after that mark was set.
abbrev pub sees_gone : PortView → ℕ → PortView
sees_gone v s = record v {
  gone = with_site v.gone s;
  empty = if is_in v.gone s then v.empty else without v.empty (parent v.plan s);
}

-- The view after the hart saw its owner empty.
abbrev pub sees_empty : PortView → PortView
sees_empty v = record v { empty = with_site v.empty v.owner }

-- The view after the hart made Unregister of its owner.
abbrev pub unregistered : PortView → PortView
unregistered v = record v {
  owner = parent v.plan v.owner;
  mine = v.mine ++ Unregister v.hart v.owner ∷ [];
  homes = without v.homes v.owner;
  closed = without v.closed v.owner;
  empty = without v.empty v.owner;
}

-- The hart has made Register of the site, or Skip of the site or of a site around it.
abbrev pub HasClaimed : PortView → ℕ → Type 0
HasClaimed v s = 1 ≤ registers s v.mine + skips_over v.plan s v.mine

-- The hart has made Unregister of the site, or Skip of the site or of a site around it.
abbrev pub HasEnded : PortView → ℕ → Type 0
HasEnded v s = 1 ≤ unregisters s v.mine + skips_over v.plan s v.mine

-- The hart made Register of a site of which it had made no Register and no Request, or the call was refused and the site was
-- claimed. If no other hart shares the table, the hart itself had claimed the site.
abbrev pub Registers : PortView → ℕ → Result (Unit {0}) Taken → PortView → Type 0
Registers v s (Ok done) after =
    (after ≡ registered v s) × (registers s v.mine ≡ 0) × (requested s v.mine ≡ 0)
Registers v s (Err taken) after =
    (after ≡ v) × (is_claimed taken.shown ≡ true) × (v.alone ≡ true → HasClaimed v s)

-- The hart made Skip of the site, or the call was refused and the site was claimed. If no other hart shares the table, the hart
-- itself had claimed the site.
abbrev pub Skips : PortView → ℕ → Result (Unit {0}) Taken → PortView → Type 0
Skips v s (Ok done) after = after ≡ skipped v s
Skips v s (Err taken) after =
    (after ≡ v) × (is_claimed taken.shown ≡ true) × (v.alone ≡ true → HasClaimed v s)

-- The hart made Enter of the site, or the word that was read wants no hart, or the exchange found another word than the one
-- that was read.
abbrev pub Enters : PortView → ℕ → Entered → PortView → Type 0
Enters v s Inside after = after ≡ entered v s
Enters v s (NotWanted shown) after = (after ≡ v) × (is_wanted shown ≡ false)
Enters v s (Moved read found) after = (after ≡ v) × (is_wanted read ≡ true) × (read ≢ found)

-- The field of another hart in the board word is the hart's owner.
abbrev pub IsHeld : PortView → ℕ → Type 0
IsHeld v word = (g : ℕ) × IsHart v.plan g × (g ≢ v.hart) × (owner_field word g ≡ v.owner)

-- The hart saw its owner empty, or the site word that was read has a hart on its way in, or the board word that was read has
-- another hart in the owner.
abbrev pub Sees : PortView → Seen → PortView → Type 0
Sees v Empty after = after ≡ sees_empty v
Sees v (Flying shown) after = (after ≡ v) × (1 ≤ flight_of shown)
Sees v (Held shown) after = (after ≡ v) × IsHeld v shown

-- A hart may request k more harts for a site: the hart is the site's home and inside the site, hasn't closed the site, and
-- requests at least one hart. The sum of its requests stays below the number of harts.
pub record MayRequest (v : PortView) (s k : ℕ) : Type 0 where
  pub inside : v.owner ≡ s
  pub home : is_in v.homes s ≡ true
  pub is_open : is_in v.closed s ≡ false
  pub some_hart : 1 ≤ k
  pub few : requested s v.mine + k ≤ v.plan.harts - 1

-- The hart has seen each child of its owner gone.
abbrev pub ChildrenSeenGone : PortView → Type 0
ChildrenSeenGone v = (c : ℕ) → IsSite v.plan c → parent v.plan c ≡ v.owner → is_in v.gone c ≡ true

-- A hart may unregister its owner: the hart is the home, has closed the owner and then seen the owner empty, and has seen each
-- child of the owner gone.
pub record MayUnregister (v : PortView) : Type 0 where
  pub home : is_in v.homes v.owner ≡ true
  pub closed : is_in v.closed v.owner ≡ true
  pub empty : is_in v.empty v.owner ≡ true
  pub children : ChildrenSeenGone v

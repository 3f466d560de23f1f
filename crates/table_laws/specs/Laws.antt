-- The laws between the tables: what the open table allows is what the planned table allows.
use Rattle.std.specs.Prelude.{◌≡◌, ℕ, ◌-◌, ◌<◌, ◌≤◌, false, List, []}
use Rattle.std.specs.List.{All}
use Rattle.transfer_table.specs.Plan.{Plan, IsPlan, IsSite, parent}
use Rattle.transfer_table.specs.Entry.{requested, is_skip}
use Rattle.transfer_table.specs.Journal.{IsLegal, IsComplete, all_meant}
use Rattle.transfer_table.specs.Table.{TableState}
use Rattle.transfer_table.specs.Journal as journal
use Rattle.transfer_table.specs.declared.entry.Entry.{Entry}
use Rattle.open_table.specs.declared.table.Size.{Size}
use Rattle.open_table.specs.declared.table.Entry.{Entry as OpenEntry}
use Rattle.open_table.specs.Table.{TableState as OpenState, Reaches}
use Rattle.table_laws.specs.Planned.{plan_of_run, planned, numbered_by, no_sites}
use Rattle.table_laws.specs.InOrder.{in_order}
use Rattle.table_laws.specs.Agreement.{Agrees, AreBegun, AgreesIn}

-- No site requests in its life more harts than there are others. The open table doesn't require this: it bounds the wishes and
-- guests that a site has at one time. So this leaves out the open runs in which a site requests harts again after some have left,
-- or after it withdrew wishes, until it has requested more than the other harts in all.
abbrev pub AsksFewInAll : Plan → List Entry → Type 0
AsksFewInAll p es = (s : ℕ) → IsSite p s → requested s es ≤ p.harts - 1

-- In the plan of an open run each parent has a smaller number than its site.
abbrev pub PlansAreTrees : Type 0
PlansAreTrees = (z : Size) (es : List OpenEntry) (t : OpenState) → Reaches z es t
    → (s : ℕ) → IsSite (plan_of_run z es) s → parent (plan_of_run z es) s < s

-- An open run's transfers are legal for its plan, and lead to a state that agrees with the run's, if no site requests more harts
-- in its life than there are others. This holds of plans of any size.
abbrev pub OpenRunsAreLegal : Type 0
OpenRunsAreLegal = (z : Size) (es : List OpenEntry) (t : OpenState) → Reaches z es t
    → AsksFewInAll (plan_of_run z es) (planned es)
    → (u : TableState) × journal.Reaches (plan_of_run z es) (planned es) u
    × Agrees z t (numbered_by no_sites es) (plan_of_run z es) u
    × AreBegun (numbered_by no_sites es) (plan_of_run z es) u

-- The transfers of an open run that has ended, with each hart at the base, are complete: each site is registered and ends.
abbrev pub EndedRunsAreComplete : Type 0
EndedRunsAreComplete = (z : Size) (es : List OpenEntry) (t : OpenState) → Reaches z es t
    → AsksFewInAll (plan_of_run z es) (planned es)
    → ((h : ℕ) → h < z.harts → t.stacks h ≡ [])
    → IsComplete (plan_of_run z es) (all_meant (plan_of_run z es)) (planned es)

-- The premise leaves out no more than it has to: the transfers of a run are legal only if no site requests more in its life.
abbrev pub LegalRunsAskFew : Type 0
LegalRunsAskFew = (z : Size) (es : List OpenEntry) → IsLegal (plan_of_run z es) (planned es)
    → AsksFewInAll (plan_of_run z es) (planned es)

-- The open table allows as many runs: each legal run without a Skip is the planned run of an open run with enough levels, but for
-- the numbers of its sites. The two runs lead to states that agree, so the open run has ended if each hart is at the base after the
-- planned run. The open table has no Skip, since it has no site that a run could leave out.
abbrev pub PlannedRunsAreOpen : Type 0
PlannedRunsAreOpen = (p : Plan) (es : List Entry) (u : TableState) → IsPlan p → journal.Reaches p es u
    → All (λ e. is_skip e ≡ false) es
    → (z : Size) × (open_run : List OpenEntry) × (t : OpenState) × (z.harts ≡ p.harts) × Reaches z open_run t
    × (planned open_run ≡ in_order es)
    × AgreesIn z t p u

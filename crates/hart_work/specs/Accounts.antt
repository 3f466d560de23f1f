-- The accounts of sites of a hart that shares the table with no other. Its entries are the whole journal. An account is about
-- the plan, the site that the hart is in, and entries.
use Rattle.std.specs.Prelude.{◌≡◌, ℕ, ◌+◌, ◌-◌, ◌≤◌, true, List}
use Rattle.transfer_table.specs.Plan.{Plan, IsSite, parent}
use Rattle.transfer_table.specs.Entry.{unregisters, skips_over}
use Rattle.transfer_table.specs.declared.entry.Entry.{Entry}
use Rattle.hart_port.specs.PortView.{PortView}
use Rattle.transfer_table.specs.Accounts.{AreFresh, IsFresh, IsSpan}
use Rattle.transfer_table.specs.AccountLaws.{IsSkippedSpan}
use Rattle.contexts.specs.declared.machine.Step.{Step}
use Rattle.contexts.specs.declared.machine.Step.TheVariants.{More, Nest, Finished, NoMemory}
use Rattle.hart_work.specs.declared.found.Found.{Found}
use Rattle.hart_work.specs.declared.found.Found.TheVariants as found

-- An account of a machine in a site, between the entries with which it began its job and the current ones.
abbrev pub Account : Type 1
Account = Plan → ℕ → List Entry → List Entry → Type 0

-- If the account before is right, the account after is too.
abbrev pub Follows : Account → Account → Type 0
Follows before after = (p : Plan) (around : ℕ) (start es : List Entry) → before p around start es
    → after p around start es

-- The hart skips whole subtrees of fresh sites. Once they are skipped, the account goes on.
abbrev pub FollowsSkips : ℕ → ℕ → Account → Account → Type 0
FollowsSkips first end before after =
    (p : Plan) (around : ℕ) (start es : List Entry) → before p around start es
    → IsSpan p around first (end - first) × AreFresh p es first (end - first)
    × ((es' : List Entry) → IsSkippedSpan p es es' first (end - first) → after p around start es')

-- A machine's account goes on with each step. A construct that it hands out is fresh, and the account waits for it. If the
-- machine is finished, its job has run.
abbrev pub Accounts : {N : Type 0} → (Plan → ℕ → List Entry → N → Type 0)
    → (Plan → List Entry → List Entry → Type 0) → Account → Account → (N → Account)
    → Step (Found N) → Type 0
Accounts fresh ran before after awaiting More = Follows before after
Accounts fresh ran before after awaiting (Nest (found.Nest nested)) =
    Follows before (λ p around start es.
    awaiting nested p around start es × fresh p around es nested)
Accounts fresh ran before after awaiting (Nest (found.Pass first end)) =
    FollowsSkips first end before after
Accounts fresh ran before after awaiting Finished =
    Follows before (λ p around start es. ran p start es)
Accounts fresh ran before after awaiting NoMemory = Unit {0}

-- The site is a child of the site around, and no hart registered or skipped it.
pub record IsFreshChild (p : Plan) (around : ℕ) (es : List Entry) (s : ℕ) : Type 0 where
  pub site : IsSite p s
  pub parent : parent p s ≡ around
  pub fresh : IsFresh p es s

-- Each site inside was unregistered, or it or a site around it was skipped.
abbrev pub HaveEnded : Plan → ℕ → List Entry → Type 0
HaveEnded p around es = (c : ℕ) → IsSite p c → parent p c ≡ around
    → 1 ≤ unregisters c es + skips_over p c es

-- If the hart is alone, `told` holds of its plan, its site and its entries.
abbrev pub WhereAlone : PortView → (Plan → ℕ → List Entry → Type 0) → Type 0
WhereAlone v told = v.alone ≡ true → told v.plan v.owner v.mine

-- The planned run of an open run: the plan that the run makes, and its transfers in that plan.
--
-- An open run has no plan, and uses the number of a site again after the site's end. So each Register gets a fresh number here, the
-- next one, which is the site's number in the plan until its Unregister.
use Rattle.std.specs.Prelude.{ℕ, zero, suc, ◌+◌, List, [], ◌∷◌, ◌++◌}
use Rattle.transfer_table.specs.Plan.{Plan}
use Rattle.transfer_table.specs.declared.entry.Entry.{Entry}
use Rattle.transfer_table.specs.declared.entry.Entry.TheVariants.{Register, Request, Enter, Yield, Unregister}
use Rattle.open_table.specs.declared.table.Size.{Size}
use Rattle.open_table.specs.declared.table.Post.{Post}
use Rattle.open_table.specs.declared.table.Act.{Act}
use Rattle.open_table.specs.declared.table.Act.TheVariants as act
use Rattle.open_table.specs.declared.table.Entry.{Entry as OpenEntry}
use Rattle.open_table.specs.Table.{TableState as OpenState, first_state as open_start, owner as top_site, after, put}

-- ---- numbers

-- How many sites the run has registered so far, and the number in the plan of each live site and of the base.
pub record Numbering : Type 0 where
  pub count : ℕ
  pub number : ℕ → ℕ

-- The numbering at the start: no site, and the base is 0.
abbrev pub no_sites : Numbering
no_sites = record { count = 0; number = λ x. 0 }

-- The numbering after an act: a Register gives its site the next number.
abbrev pub numbered : Act → Numbering → Numbering
numbered (act.Register x) n = record { count = n.count + 1; number = put x (n.count + 1) n.number }
numbered _ n = n

-- The numbering after the entries.
abbrev pub numbered_by : Numbering → List OpenEntry → Numbering
numbered_by n [] = n
numbered_by n (e ∷ es) = numbered_by (numbered e.act n) es

-- ---- the plan

-- The parents that the act of a hart with this stack adds to the plan: a Register adds the number of the hart's owner.
abbrev pub parents_in : List Post → Act → Numbering → List ℕ
parents_in s (act.Register x) n = n.number (top_site s) ∷ []
parents_in s _ n = []

-- The parents that the entries add from a state on.
abbrev pub parents_from : OpenState → Numbering → List OpenEntry → List ℕ
parents_from t n [] = []
parents_from t n (e ∷ es) =
    parents_in (t.stacks e.hart) e.act n ++ parents_from (after t e) (numbered e.act n) es

-- The plan of an open run: the run's harts, and a site for each Register.
abbrev pub plan_of_run : Size → List OpenEntry → Plan
plan_of_run z es = record { harts = z.harts; parents = parents_from open_start no_sites es }

-- ---- the transfers

-- The transfers of an act in the plan. A Close, a SeeEmpty, a Withdraw and a Request for no hart have none: a plan's sites don't
-- close, a home sees in the state itself that its site is empty, and a wish that is withdrawn stays unmet.
abbrev pub transfers_in : ℕ → Act → Numbering → List Entry
transfers_in h (act.Register x) n = Register h (n.count + 1) ∷ []
transfers_in h (act.Request x zero) n = []
transfers_in h (act.Request x (suc k)) n = Request h (n.number x) (suc k) ∷ []
transfers_in h (act.Withdraw x k) n = []
transfers_in h (act.Enter x) n = Enter h (n.number x) ∷ []
transfers_in h (act.Yield x) n = Yield h (n.number x) ∷ []
transfers_in h (act.Close x) n = []
transfers_in h (act.SeeEmpty x) n = []
transfers_in h (act.Unregister x) n = Unregister h (n.number x) ∷ []

-- The transfers of the entries, from a numbering on.
abbrev pub transfers_from : Numbering → List OpenEntry → List Entry
transfers_from n [] = []
transfers_from n (e ∷ es) = transfers_in e.hart e.act n ++ transfers_from (numbered e.act n) es

-- The planned run of an open run.
abbrev pub planned : List OpenEntry → List Entry
planned es = transfers_from no_sites es

-- The sites that a hart has to skip when an `if` begins: those of the side that doesn't run.
use Rattle.std.specs.Prelude.{ℕ, zero, suc, ◌+◌, List, [], ◌∷◌, Option, Some, None, if◌then◌else◌}
use Rattle.array_tree.specs.Trees.{Statement, Assign, For, If, Par, Team, ended, followed}
use Rattle.array_meaning.specs.Values.{holds}
use Rattle.array_meaning.specs.Stores.{Arrays, Vars, Store, value_of}
use Rattle.array_meaning.specs.Plans.{sites_in}
use Rattle.array_jobs.specs.Works.{WorkTree, branch_of, member_of}
use Rattle.step_eval.specs.Rest.{WorkAt}

-- The span of so many sites, as its first site and the site after its last; none if there is no site.
abbrev pub some_span : ℕ → ℕ → Option (ℕ × ℕ)
some_span first zero = None
some_span first (suc n) = Some (first, first + suc n)

-- The sites that the first statement of a work passes: those of an `if`, if the next site has this number.
abbrev pub statement_pass : Arrays → Store → ℕ → Statement → Vars → Option (ℕ × ℕ)
statement_pass arrays store next (Assign line array index value) vars = None
statement_pass arrays store next (For line var low high body) vars = None
statement_pass arrays store next (If line cond then_block else_block) vars =
    if holds (value_of arrays vars cond store)
    then some_span (next + sites_in then_block) (sites_in else_block)
    else some_span next (sites_in then_block)
statement_pass arrays store next (Par line branches) vars = None
statement_pass arrays store next (Team line var low high members phases) vars = None

-- The sites that the next step of a work passes, if it passes any.
abbrev pub work_pass : Arrays → Store → ℕ → WorkTree → Vars → Option (ℕ × ℕ)
work_pass arrays store next (branch_of ended) vars = None
work_pass arrays store next (branch_of (followed first rest)) vars =
    statement_pass arrays store next first vars
work_pass arrays store next (member_of var low high body) vars = None

-- The sites that the next step passes, which is a step of the first work.
abbrev pub pass_of : Arrays → Store → ℕ → List WorkAt → Option (ℕ × ℕ)
pass_of arrays store next [] = None
pass_of arrays store next (w ∷ more) = work_pass arrays store next w.work w.vars

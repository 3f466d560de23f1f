-- The account of a machine that runs a job: the sites that it passed have ended as they are meant to, and the remaining ones
-- are fresh.
use Rattle.std.specs.Prelude.{◌≡◌, ℕ, ◌+◌, ◌-◌, Bool, false, List, [], ◌∷◌, ◌++◌, length, replicate, Option, Some, None}
use Rattle.transfer_table.specs.Plan.{Plan}
use Rattle.transfer_table.specs.declared.entry.Entry.{Entry}
use Rattle.transfer_table.specs.Accounts.{AreOverAs, AreFresh, HasGrown, KeepsOutside}
use Rattle.transfer_table.specs.AccountLaws.{IsSkippedSpan}
use Rattle.array_tree.specs.Trees.{Statement}
use Rattle.array_meaning.specs.Stores.{Arrays, Vars, Store, after}
use Rattle.array_meaning.specs.Plans.{statement_sites_in}
use Rattle.array_meaning.specs.Entered.{statement_entered}
use Rattle.array_jobs.specs.Works.{WorkTree, sites_of}
use Rattle.step_eval.specs.Rest.{WorkAt, at}
use Rattle.step_eval.specs.Moves.{moved_writes, moved, moved_sites}
use Rattle.step_eval.specs.Machines.{construct_of}
use Rattle.step_eval.specs.Passes.{pass_of}
use Rattle.job_machines.specs.Entering.{work_entered, rest_entered}

-- The remaining sites, if the next one has this number: each work's sites are fresh, and those after it are skipped.
abbrev pub IsAhead : Plan → List Entry → ℕ → List WorkAt → Type 0
IsAhead p es next [] = Unit {0}
IsAhead p es next (w ∷ more) =
    AreFresh p es next (sites_of w.work)
    × AreOverAs p es (next + sites_of w.work) (replicate w.after false)
    × IsAhead p es (next + sites_of w.work + w.after) more

-- The account of a machine that began with these entries at the site `first`. `meant` has a flag for each site of its job,
-- whether the machine enters it.
pub record IsAccounted (p : Plan) (start es : List Entry) (arrays : Arrays) (first : ℕ)
    (meant : List Bool) (rest : List WorkAt) (store : Store) (next : ℕ) : Type 0 where
  -- The flags of the sites that it passed.
  pub passed : List Bool
  pub place : first + length passed ≡ next
  pub whole : passed ++ rest_entered arrays rest store ≡ meant
  pub over : AreOverAs p es first passed
  pub ahead : IsAhead p es next rest
  pub grown : HasGrown p start es
  pub outside : KeepsOutside p start es first (length meant)

-- A hart skips the span that it gets. Without a span it does nothing.
abbrev pub SkipsAsReported : Plan → List Entry → List Entry → Option (ℕ × ℕ) → Type 0
SkipsAsReported p before after None = after ≡ before
SkipsAsReported p before after (Some span) = IsSkippedSpan p before after span.0 (span.1 - span.0)

-- The effect of a construct's pieces: its sites have ended as it enters them, and no other site was touched.
pub record IsRunConstruct (p : Plan) (before after : List Entry) (s n : ℕ) (meant : List Bool)
    : Type 0 where
  pub over : AreOverAs p after s meant
  pub grown : HasGrown p before after
  pub outside : KeepsOutside p before after s n

-- A machine that is made of a job with fresh sites has an account.
abbrev pub AccountsBegin : Type 0
AccountsBegin = (p : Plan) (es : List Entry) (arrays : Arrays) (first : ℕ) (work : WorkTree)
    (vars : Vars) (store : Store) → AreFresh p es first (sites_of work)
    → IsAccounted p es es arrays first (work_entered arrays work vars store) (at work vars ∷ [])
    store first

-- It has an account after a step that hands out no construct, once the hart has skipped the sites of the step.
abbrev pub AccountsStep : Type 0
AccountsStep = (p : Plan) (start es es' : List Entry) (arrays : Arrays) (first : ℕ)
    (meant : List Bool) (w : WorkAt) (more : List WorkAt) (store : Store) (next : ℕ)
    → construct_of w.work ≡ None
    → SkipsAsReported p es es' (pass_of arrays store next (w ∷ more))
    → IsAccounted p start es arrays first meant (w ∷ more) store next
    → IsAccounted p start es' arrays first meant (moved arrays store w ++ more)
    (after (moved_writes arrays store w.work w.vars) store) (next + moved_sites arrays store w)

-- It has an account after a construct, once the construct has run.
abbrev pub AccountsPassConstructs : Type 0
AccountsPassConstructs = (p : Plan) (start es es' : List Entry) (arrays : Arrays) (first : ℕ)
    (meant : List Bool) (w : WorkAt) (more : List WorkAt) (store : Store) (next : ℕ)
    (construct : Statement)
    → construct_of w.work ≡ Some construct
    → IsRunConstruct p es es' next (statement_sites_in construct)
    (statement_entered arrays construct w.vars store)
    → IsAccounted p start es arrays first meant (w ∷ more) store next
    → IsAccounted p start es' arrays first meant (moved arrays store w ++ more)
    (after (moved_writes arrays store w.work w.vars) store) (next + moved_sites arrays store w)

-- The sites of the next construct are fresh.
abbrev pub NextConstructsAreFresh : Type 0
NextConstructsAreFresh = (p : Plan) (es : List Entry) (w : WorkAt) (more : List WorkAt) (next : ℕ)
    (construct : Statement)
    → construct_of w.work ≡ Some construct → IsAhead p es next (w ∷ more)
    → AreFresh p es next (statement_sites_in construct)

-- The sites of a span that a hart has to skip are fresh.
abbrev pub NextPassesAreFresh : Type 0
NextPassesAreFresh = (p : Plan) (es : List Entry) (arrays : Arrays) (store : Store) (next : ℕ)
    (rest : List WorkAt) (span : ℕ × ℕ)
    → pass_of arrays store next rest ≡ Some span → IsAhead p es next rest
    → AreFresh p es span.0 (span.1 - span.0)

-- At the end all sites of the job have ended as they are meant to.
abbrev pub AccountsEnd : Type 0
AccountsEnd = (p : Plan) (start es : List Entry) (arrays : Arrays) (first : ℕ)
    (meant : List Bool) (store : Store) (next : ℕ)
    → IsAccounted p start es arrays first meant [] store next → AreOverAs p es first meant

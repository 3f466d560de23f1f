-- The construct that is next: its position, its limits, and its supply.
use Rattle.std.proofs.Common.{◌≡◌, ℕ, List, [], ◌∷◌, Option, Some, None, refl, ap, subst, ◌∙◌}
use Rattle.std.specs.Prelude.{IsTrue}
use Rattle.array_tree.specs.Trees.{Statement, Assign, For, If, Par, Team, Sequence, ended, followed, declarations_of}
use Rattle.array_meaning.specs.Stores.{Arrays, Vars, Store}
use Rattle.array_meaning.specs.Work.{statement_work}
use Rattle.array_meaning.specs.Plans.{statement_sites_in}
use Rattle.array_meaning.specs.Pieces.{piece_of}
use Rattle.array_eval.specs.Traces.{Trace}
use Rattle.array_jobs.specs.Works.{branch_of}
use Rattle.array_jobs.specs.Jobs.{JobParts, job_of}
use Rattle.step_eval.specs.declared.frames.Frame.{Frame}
use Rattle.step_eval.specs.declared.frames.Frame.TheVariants.{Statements, Turns}
use Rattle.step_eval.specs.declared.frames.Frames.{Frames}
use Rattle.step_eval.specs.Rest.{WorkAt, before}
use Rattle.step_eval.specs.Moves.{begun_writes, begun_sites}
use Rattle.step_eval.specs.Nests.{is_construct, IsFitNest}
use Rattle.step_eval.specs.Machines.{Progress, IsRight, construct_of, next_construct, handed_out, nest_in}
use Rattle.step_eval.specs.Inside.Frames.{frames_in, works_in, works_of, vars_in, statements_from}
use Rattle.step_eval.proofs.NestLemmas.{fit_nest}

-- The construct is the first of the statements.
pub record IsFirst (statements : Sequence) (construct : Statement) : Type 0 where
  pub rest : Sequence
  pub is : statements ≡ followed construct rest
  pub kind : IsTrue (is_construct construct)

pub first_of_statements : (statements : Sequence) (construct : Statement) → construct_of (branch_of statements) ≡ Some construct → IsFirst statements construct
first_of_statements ended construct e = cc
first_of_statements (followed (Assign line array index value) rest) construct e = cc
first_of_statements (followed (For line var low high body) rest) construct e = cc
first_of_statements (followed (If line cond then_block else_block) rest) construct e = cc
first_of_statements (followed (Par line branches) rest) construct e =
    subst (IsFirst (followed (Par line branches) rest)) (let same : Par line branches ≡ construct = cc in same) record { rest = rest; is = refl; kind = refl }
first_of_statements (followed (Team line var low high members phases) rest) construct e =
    subst (IsFirst (followed (Team line var low high members phases) rest))
    (let same : Team line var low high members phases ≡ construct = cc in same) record { rest = rest; is = refl; kind = refl }

-- The construct is the first statement of the first work.
pub record IsAtConstruct (works : List WorkAt) (vars : Vars) (construct : Statement) : Type 0 where
  pub rest : Sequence
  pub after : ℕ
  pub more : List WorkAt
  pub is : works ≡ before (branch_of (followed construct rest)) vars after ∷ more
  pub kind : IsTrue (is_construct construct)

-- The variables around the next construct are all variables of the frames.
pub at_construct : (fs : List Frame) (vars : Vars) (construct : Statement) → next_construct (works_in fs vars) ≡ Some construct →
    IsAtConstruct (works_in fs vars) vars construct
at_construct [] vars construct e = cc
at_construct (Statements block from after ∷ below) vars construct e =
    let first = first_of_statements (statements_from block.now from) construct e in
    record {
      rest = first.rest;
      after = after;
      more = works_in below vars;
      is = ap (λ s. before (branch_of s) vars after ∷ works_in below vars) first.is;
      kind = first.kind;
    }
at_construct (Turns body next high ∷ below) [] construct e = cc
at_construct (Turns body next high ∷ below) (v ∷ vars) construct e = cc

-- The next construct is within the limits of a construct that is handed out.
pub fit_handed_out : (job : JobParts) (frames : Frames) (store : Trace) (next : ℕ) (construct : Statement) → IsRight (job_of job) (works_of frames job.vars) store next →
    next_construct (works_of frames job.vars) ≡ Some construct →
    IsFitNest record { arrays = declarations_of job.arrays; site = next; construct = construct; vars = vars_in frames job.vars; store = store.cells }
fit_handed_out job frames store next construct right e =
    let here = at_construct (frames_in frames) (vars_in frames job.vars) construct e in
    let whole = subst (λ works. IsRight (job_of job) works store next) here.is right in
    fit_nest (job_of job) next construct here.rest (vars_in frames job.vars) store.cells here.kind whole.fit.0 right.cells

-- A machine hands out the next construct.
pub is_handed_out : (machine : Progress) (fs : List Frame) (vars : Vars) (construct : Statement) → next_construct (works_in fs vars) ≡ Some construct →
    nest_in machine (works_in fs vars)
    ≡ Some record { arrays = declarations_of machine.job.arrays; site = machine.next; construct = construct; vars = vars; store = machine.store.cells }
is_handed_out machine fs vars construct e =
    let here = at_construct fs vars construct e in
    let found : construct_of (branch_of (followed construct here.rest)) ≡ Some construct = subst (λ works. next_construct works ≡ Some construct) here.is e in
    ap (nest_in machine) here.is ∙ ap (handed_out machine (before (branch_of (followed construct here.rest)) vars here.after)) found

-- A machine hands out no construct iff no construct is next.
pub none_handed_out : (machine : Progress) (works : List WorkAt) → next_construct works ≡ None → nest_in machine works ≡ None
none_handed_out machine [] e = refl
none_handed_out machine (w ∷ more) e = ap (handed_out machine w) e

pub no_construct : (machine : Progress) (w : WorkAt) → handed_out machine w (construct_of w.work) ≡ None → construct_of w.work ≡ None
no_construct machine w e = cases (construct_of w.work) e
  where
    cases : (found : Option Statement) → handed_out machine w found ≡ None → found ≡ None
    cases None e = refl
    cases (Some construct) e = cc

-- A construct's supply is its writes, and all its sites are passed.
pub supply_writes : (arrays : Arrays) (store : Store) (construct : Statement) (vars : Vars) → IsTrue (is_construct construct) →
    begun_writes arrays store construct vars ≡ piece_of arrays (statement_work construct vars) store
supply_writes arrays store (Assign line array index value) vars is = cc
supply_writes arrays store (For line var low high body) vars is = cc
supply_writes arrays store (If line cond then_block else_block) vars is = cc
supply_writes arrays store (Par line branches) vars is = refl
supply_writes arrays store (Team line var low high members phases) vars is = refl

pub supply_sites : (arrays : Arrays) (store : Store) (construct : Statement) (vars : Vars) → IsTrue (is_construct construct) →
    begun_sites arrays store construct vars ≡ statement_sites_in construct
supply_sites arrays store (Assign line array index value) vars is = cc
supply_sites arrays store (For line var low high body) vars is = cc
supply_sites arrays store (If line cond then_block else_block) vars is = cc
supply_sites arrays store (Par line branches) vars is = refl
supply_sites arrays store (Team line var low high members phases) vars is = refl

use Rattle.std.proofs.Common.{◌≡◌, ◌≤◌, ◌+◌, ◌-◌, ◌*◌, List}
use Rattle.transfer_table.specs.Plan.{site_count}
use Rattle.site_steps.specs.Back.{IsBack}
use Rattle.transfer_table.specs.declared.entry.Entry.{Entry}
use Rattle.hart_work.specs.Accounts.{WhereAlone}
use Rattle.hart_work.specs.Sites.{Stays}
use Rattle.hart_work.proofs.serving.+serve.Given as goal

-- Each site is above the one around it. At one site a hart is a guest, serves, runs a job, runs its piece, then a construct.
abbrev pub decreases-be_guest : goal.decreases-be_guest
decreases-be_guest g l = 5 * (site_count l.run.tree.now - (g.P.Port.seen l.port.now).owner) + 4

abbrev pub decreases-serve : goal.decreases-serve
decreases-serve g l = 5 * (site_count l.run.tree.now - (g.P.Port.seen l.port.now).owner) + 3

abbrev pub decreases-run_job : goal.decreases-run_job
decreases-run_job g l = 5 * (site_count l.run.tree.now - (g.P.Port.seen l.port.now).owner) + 2

abbrev pub decreases-run_piece : goal.decreases-run_piece
decreases-run_piece g l = 5 * (site_count l.run.tree.now - (g.P.Port.seen l.port.now).owner) + 1

abbrev pub decreases-run_construct : goal.decreases-run_construct
decreases-run_construct g l = 5 * (site_count l.run.tree.now - (g.P.Port.seen l.port.now).owner)

abbrev pub decreases-visit : goal.decreases-visit
decreases-visit g l = 5 * (site_count l.run.tree.now - (g.P.Port.seen l.port.now).owner)

abbrev pub invariant-serve-tasks : goal.invariant-serve-tasks
invariant-serve-tasks g l = record {
  back : IsBack (g.P.Port.seen l.fn.port) (g.P.Port.seen l.port);
  construct : g.H.Sites.facts.construct l.site ≡ g.H.Sites.facts.construct l.fn.site;
  settled : g.H.Sites.facts.settled l.site;
  left : g.H.Sites.facts.left l.site ≤ g.H.Sites.facts.left l.fn.site;
  served : WhereAlone (g.P.Port.seen l.fn.port) (λ p around es. (start : List Entry) → g.H.Sites.facts.serving l.fn.site p around start es
      → g.H.Sites.facts.serving l.site p around start (g.P.Port.seen l.port).mine);
  hart_local : g.H.Sites.hart_local l.sites ≡ g.H.Sites.hart_local l.fn.sites;
}

abbrev pub decreases-serve-tasks : goal.decreases-serve-tasks
decreases-serve-tasks g l = g.H.Sites.facts.left l.site

abbrev pub invariant-run_piece-steps : goal.invariant-run_piece-steps
invariant-run_piece-steps g l = record {
  back : IsBack (g.P.Port.seen l.fn.port) (g.P.Port.seen l.port);
  stays : Stays g.H.Sites.facts l.fn.around l.around;
  account : WhereAlone (g.P.Port.seen l.fn.port) (λ p around es. g.M.Machines.going l.running p around es (g.P.Port.seen l.port).mine);
  job : g.M.Machines.job_of l.running ≡ l.fn.job;
  ready : g.M.Machines.ready l.running;
  hart_local : g.H.Sites.hart_local l.sites ≡ g.H.Sites.hart_local l.fn.sites;
}

abbrev pub decreases-run_piece-steps : goal.decreases-run_piece-steps
decreases-run_piece-steps g l = g.M.Machines.steps_left l.running

use Rattle.std.proofs.Common.{◌≡◌, ◌∙◌, IfOk, IfErr, OnOk, Ok, ap, sym, subst}
use Rattle.array_tree.specs.declared.tree.Program.{Program}
use Rattle.array_tree.specs.Trees.{program_of}
use Rattle.array_meaning.proofs.InsideLemmas.{sized_in_range}
use Rattle.array_meaning.specs.Plans.{plan_of}
use Rattle.phase_order.specs.Crossings.{HasNoCrossings}
use Rattle.lithe_call.specs.Programs.{table_plan}
use Rattle.picture_call.specs.Causes.{ReportsNoPicture}
use Rattle.picture_call.specs.Picture.{picture_of}
use Rattle.picture_call.specs.Pictures.{IsRunBy, teams_of}
use Rattle.picture_call.specs.Seen.{picture_seen}
use Rattle.picture_call.specs.declared.runner.Runner.{Runner}
use Rattle.picture_call.specs.declared.runner.Runner.TheVariants as runner
use Rattle.picture_call.proofs.Refusing.{plan_no_picture, plan_picture, plan_runs, right_plan}
use Rattle.picture_call.proofs.drawing.picture_by.Goals as goal

pub by_plan-requires-clause-sized : goal.by_plan-requires-clause-sized
by_plan-requires-clause-sized c = sized_in_range (program_of c.args.program.now) c.in_ok-accepted-in-Run.ensures.accepted.accepted.ranges

pub by_plan-requires-in-Tally-clause-sized : goal.by_plan-requires-in-Tally-clause-sized
by_plan-requires-in-Tally-clause-sized c = sized_in_range (program_of c.args.program.now) c.in_ok-rows-in-Tally.ensures.meaning.limits.ranges

pub by_plan-requires-in-Pipe-clause-sized : goal.by_plan-requires-in-Pipe-clause-sized
by_plan-requires-in-Pipe-clause-sized c = sized_in_range (program_of c.args.program.now) c.in_ok-accepted-in-Pipe.ensures.accepted.accepted.ranges

pub returns-in_ok-accepted-in-Run-clause-drawn : goal.returns-in_ok-accepted-in-Run-clause-drawn
returns-in_ok-accepted-in-Run-clause-drawn c =
    let program = program_of c.args.program.now in
    let wanted = c.args.wanted in
    let right = right_plan c.plan.result.now c.in_ok-accepted-in-Run.accepted.plan program wanted.harts c.plan.ensures.same
    (c.plan.ensures.kept.parents ∙ ap (λ (p : Program). plan_of (program_of p)) c.in_ok-accepted-in-Run.ensures.program) c.in_ok-accepted-in-Run.ensures.harts in
    subst (λ (r : Runner). IfOk c.by_plan.result (λ picture. picture_of wanted.form (teams_of r) program (table_plan program wanted.harts) c.args.output.now ≡ Ok (picture_seen picture)))
    (sym c.in-Run.is)
    (plan_picture c.by_plan.result picture_seen wanted.form (teams_of runner.Run) wanted.harts program c.plan.result.now c.args.output.now right c.by_plan.ensures.drawn)

pub returns-in_ok-accepted-in-Tally-clause-drawn : goal.returns-in_ok-accepted-in-Tally-clause-drawn
returns-in_ok-accepted-in-Tally-clause-drawn c =
    let program = program_of c.args.program.now in
    let wanted = c.args.wanted in
    let right = right_plan c.plan-in-Tally.result.now c.in_ok-accepted-in-Tally.accepted.plan program wanted.harts c.plan-in-Tally.ensures.same
    (c.plan-in-Tally.ensures.kept.parents ∙ ap (λ (p : Program). plan_of (program_of p)) c.in_ok-accepted-in-Tally.ensures.program ∙ c.in_ok-rows-in-Tally.ensures.kept.plan)
    c.in_ok-accepted-in-Tally.ensures.harts in
    subst (λ (r : Runner). IfOk c.by_plan-in-Tally.result (λ picture. picture_of wanted.form (teams_of r) program (table_plan program wanted.harts) c.args.output.now ≡ Ok (picture_seen picture)))
    (sym c.in-Tally.is)
    (plan_picture c.by_plan-in-Tally.result picture_seen wanted.form (teams_of runner.Tally) wanted.harts program c.plan-in-Tally.result.now c.args.output.now right c.by_plan-in-Tally.ensures.drawn)

pub returns-in_default-clause-runs : goal.returns-in_default-clause-runs
returns-in_default-clause-runs c =
    let program = program_of c.args.program.now in
    let wanted = c.args.wanted in
    subst (λ (r : Runner). OnOk c.by_plan-in-Pipe.result (IsRunBy r wanted.harts program)) (sym c.in-Pipe.is)
    (plan_runs c.by_plan-in-Pipe.result runner.Pipe wanted.harts program (record {
      accepted = c.in_ok-accepted-in-Pipe.ensures.accepted;
      uncrossed = subst (λ (p : Program). HasNoCrossings (program_of p)) c.in_ok-accepted-in-Pipe.ensures.program c.in_default.ensures.ok;
    }))

pub returns-in_default-clause-drawn : goal.returns-in_default-clause-drawn
returns-in_default-clause-drawn c =
    let program = program_of c.args.program.now in
    let wanted = c.args.wanted in
    let right = right_plan c.plan-in-Pipe.result.now c.in_ok-accepted-in-Pipe.accepted.plan program wanted.harts c.plan-in-Pipe.ensures.same
    (c.plan-in-Pipe.ensures.kept.parents ∙ ap (λ (p : Program). plan_of (program_of p)) c.in_ok-accepted-in-Pipe.ensures.program) c.in_ok-accepted-in-Pipe.ensures.harts in
    subst (λ (r : Runner). IfOk c.by_plan-in-Pipe.result (λ picture. picture_of wanted.form (teams_of r) program (table_plan program wanted.harts) c.args.output.now ≡ Ok (picture_seen picture)))
    (sym c.in-Pipe.is)
    (plan_picture c.by_plan-in-Pipe.result picture_seen wanted.form (teams_of runner.Pipe) wanted.harts program c.plan-in-Pipe.result.now c.args.output.now right c.by_plan-in-Pipe.ensures.drawn)

pub returns-in_default-clause-fault : goal.returns-in_default-clause-fault
returns-in_default-clause-fault c =
    let program = program_of c.args.program.now in
    let wanted = c.args.wanted in
    let right = right_plan c.plan-in-Pipe.result.now c.in_ok-accepted-in-Pipe.accepted.plan program wanted.harts c.plan-in-Pipe.ensures.same
    (c.plan-in-Pipe.ensures.kept.parents ∙ ap (λ (p : Program). plan_of (program_of p)) c.in_ok-accepted-in-Pipe.ensures.program) c.in_ok-accepted-in-Pipe.ensures.harts in
    subst (λ (r : Runner). IfErr c.by_plan-in-Pipe.result (ReportsNoPicture r wanted.harts program c.args.output.now)) (sym c.in-Pipe.is)
    (plan_no_picture c.by_plan-in-Pipe.result runner.Pipe wanted.harts program c.plan-in-Pipe.result.now c.args.output.now right (record {
      accepted = c.in_ok-accepted-in-Pipe.ensures.accepted;
      uncrossed = subst (λ (p : Program). HasNoCrossings (program_of p)) c.in_ok-accepted-in-Pipe.ensures.program c.in_default.ensures.ok;
    }) c.by_plan-in-Pipe.ensures.fault)

use Rattle.std.proofs.Common.{◌≡◌, ℕ, refl, ap, ◌∙◌, sym, subst}
use Rattle.join_book.specs.Books.{Open, IsMarked, IsPlaceOf}
use Rattle.loop_team.specs.Teams.{TeamParts, with_barrier, writes_in}
use Rattle.loop_team.proofs.TeamLemmas.{phase_written, moves_opened, moves_failed}
use Rattle.loop_team.proofs.team.Team.keep.Goals as goal

pub keep-requires-clause-own : goal.keep-requires-clause-own
keep-requires-clause-own c =
    subst (λ (t : TeamParts). IsPlaceOf t.barrier c.args.piece.job.place c.args.piece.job) (sym c.self.view_is) c.requires.own

pub keep-requires-clause-free : goal.keep-requires-clause-free
keep-requires-clause-free c =
    subst (λ (t : TeamParts). IsMarked t.barrier c.args.piece.job.place Open) (sym c.self.view_is) c.requires.open

pub go_on-requires-clause-written : goal.go_on-requires-clause-written
go_on-requires-clause-written c =
    c.in-Opened.ensures.2 ∙ phase_written c.self.inside.nested c.self.invariant.fit c.self.inside.opened c.self.inside.barrier
    (c.self.invariant.running c.args.piece.job.place c.in-Opened.ensures.0.free)

pub returns-in_err-go_on-in-Opened : goal.returns-in_err-go_on-in-Opened
returns-in_err-go_on-in-Opened c =
    moves_failed _ c.args.self.now c.args.piece c.from_residual.result c.keep.new.self c.go_on.new.self c.self.view_is c.from_residual.ensures.0
    c.in-Opened.ensures.0 c.in-Opened.ensures.1 c.in_err-go_on-in-Opened.ensures.err.0 c.in_err-go_on-in-Opened.ensures.err.1

pub returns-in-Stranger : goal.returns-in-Stranger
returns-in-Stranger c =
    let told : TeamParts = record {
      nested = c.self.inside.nested;
      agenda = c.self.inside.agenda;
      opened = c.self.inside.opened;
      barrier = c.self.inside.barrier;
      failed = c.self.inside.failed;
    } in
    let P : TeamParts → Type 0 = λ t. (i : ℕ) → IsPlaceOf t.barrier i c.args.piece.job → IsMarked t.barrier i Open → ⊥ in
    ((subst P c.self.view_is c.in-Stranger.ensures.0, c.in-Stranger.ensures.1, refl), ap (with_barrier told) c.in-Stranger.ensures.2 ∙ c.self.view_is)

pub returns-in_ok-go_on-in-Opened : goal.returns-in_ok-go_on-in-Opened
returns-in_ok-go_on-in-Opened c =
    let writes : c.in-Opened.written.pairs ≡ writes_in c.self.inside.nested c.self.inside.opened
    = c.in-Opened.ensures.2 ∙ phase_written c.self.inside.nested c.self.invariant.fit c.self.inside.opened c.self.inside.barrier
    (c.self.invariant.running c.args.piece.job.place c.in-Opened.ensures.0.free) in
    moves_opened _ c.args.self.now c.args.piece c.in-Opened.written c.keep.new.self c.go_on.new.self c.self.view_is
    (c.in-Opened.ensures.0, c.in-Opened.ensures.1, c.in-Opened.ensures.2) writes c.in_ok-go_on-in-Opened.ensures.ok

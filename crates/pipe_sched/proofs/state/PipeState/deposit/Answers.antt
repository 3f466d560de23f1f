use Rattle.std.proofs.Common.{refl, ap, ◌∙◌, sym, subst}
use Rattle.std.proofs.lemmas.Bool.{false≢true}
use Rattle.array_jobs.specs.Jobs.{JobParts}
use Rattle.array_jobs.specs.PieceParts.{PieceParts}
use Rattle.pipe_sched.specs.Slots.{Out, IsMarked}
use Rattle.pipe_sched.specs.Pipes.{WasHandedOut}
use Rattle.pipe_sched.proofs.state.PipeState.deposit.Goals as goal

pub returns-then-not-was_handed_out : goal.returns-then-not-was_handed_out
returns-then-not-was_handed_out c =
    let job = ap (λ (p : PieceParts). p.job) c.piece.view_is in
    let P : JobParts → Type 0 = λ j. WasHandedOut c.args.self.now j → ⊥ in
    (subst P job (λ was. false≢true (sym c.if-not-was_handed_out.true ∙ c.was_handed_out.ensures.1 was)), refl, refl)

pub returns-then-not-is_out : goal.returns-then-not-is_out
returns-then-not-is_out c =
    let job = ap (λ (p : PieceParts). p.job) c.piece.view_is in
    let P : JobParts → Type 0 = λ j. WasHandedOut c.args.self.now j in
    let Q : JobParts → Type 0 = λ j. IsMarked c.args.self.now j.place j.phase Out → ⊥ in (
      subst P job (c.was_handed_out.ensures.0 c.if-not-was_handed_out.false),
      subst Q job (λ out. false≢true (sym c.if-not-is_out.true ∙ c.is_out.ensures.1 out)),
      refl,
      refl,
    )

pub keep-requires-clause-own : goal.keep-requires-clause-own
keep-requires-clause-own c =
    let job = ap (λ (p : PieceParts). p.job) c.piece.view_is in
    let P : JobParts → Type 0 = λ j. WasHandedOut c.args.self.now j in
    subst P job (c.was_handed_out.ensures.0 c.if-not-was_handed_out.false)

pub keep-requires-clause-out : goal.keep-requires-clause-out
keep-requires-clause-out c =
    let job = ap (λ (p : PieceParts). p.job) c.piece.view_is in
    let Q : JobParts → Type 0 = λ j. IsMarked c.args.self.now j.place j.phase Out in
    subst Q job (c.is_out.ensures.0 c.if-not-is_out.false)

pub returns : goal.returns
returns c =
    let job = ap (λ (p : PieceParts). p.job) c.piece.view_is in
    let P : JobParts → Type 0 = λ j. WasHandedOut c.args.self.now j in
    let Q : JobParts → Type 0 = λ j. IsMarked c.args.self.now j.place j.phase Out in (
      subst P job (c.was_handed_out.ensures.0 c.if-not-was_handed_out.false),
      subst Q job (c.is_out.ensures.0 c.if-not-is_out.false),
      c.keep.ensures,
    )

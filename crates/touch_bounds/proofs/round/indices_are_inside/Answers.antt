use Rattle.std.specs.Prelude.{IsTrue}
use Rattle.std.proofs.lemmas.Bool.{OnTrue_at, OnTrue_from}
use Rattle.array_tree.specs.Trees.{statement_of}
use Rattle.array_meaning.specs.Work.{statement_work}
use Rattle.array_meaning.specs.Touch.{walk}
use Rattle.array_meaning.specs.Accepted.{are_inside}
use Rattle.array_eval.specs.Views.{vars_of}
use Rattle.touch_bounds.proofs.RangeLemmas.{fixed_within}
use Rattle.touch_bounds.proofs.RoundLemmas.{noted_inside}
use Rattle.touch_bounds.proofs.round.indices_are_inside.Goals as goal

pub returns-in-Ok : goal.returns-in-Ok
returns-in-Ok c =
    let arrays = c.args.layout.now in
    let vars = vars_of c.args.scope.now in
    let visits = walk arrays (statement_work (statement_of c.args.statement.now) vars) in
    OnTrue_from c.note_statement.result (IsTrue (are_inside arrays visits))
    (λ yes. noted_inside arrays c.note_statement.new.touches visits (OnTrue_at yes c.note_statement.ensures.noted vars (fixed_within vars)))

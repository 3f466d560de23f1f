use Rattle.std.proofs.Common.{◌≡◌, None}
use Rattle.std.proofs.lemmas.Bool.{OnTrue_at, OnTrue_from}
use Rattle.array_tree.specs.Trees.{statement_of}
use Rattle.array_meaning.specs.Work.{statement_work}
use Rattle.array_meaning.specs.Touch.{walk}
use Rattle.array_eval.specs.Views.{vars_of}
use Rattle.site_walk.specs.Outside.{visit_fault}
use Rattle.site_walk.specs.Firsts.{first_of}
use Rattle.site_walk.proofs.OutsideLemmas.{none_of_inside}
use Rattle.site_walk.proofs.inside.is_settled.Goals as goal

pub returns-then-statement_pays : goal.returns-then-statement_pays
returns-then-statement_pays c =
    let arrays = c.args.layout.now in
    let visits = walk arrays (statement_work (statement_of c.args.statement.now) (vars_of c.args.scope.now)) in
    OnTrue_from c.indices_are_inside.result (first_of (visit_fault arrays) visits ≡ None)
    (λ yes. none_of_inside arrays visits (OnTrue_at yes c.indices_are_inside.ensures))

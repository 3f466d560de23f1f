use Rattle.std.proofs.Common.{sym, ap, ◌∙◌}
use Rattle.std.specs.Cmp.Derive.Mapped.{pointwise-map}
use Rattle.std.proofs.lemmas.Bool.Decides.{Decides-at}
use Rattle.array_eval.specs.Bindings.{pair_of, pairs_of}
use Rattle.array_eval.specs.Equal.{binding_eq, vars_eq}
use Rattle.array_eval.specs.EqualLaws.{vars_decides}
use Rattle.array_eval.proofs.vars.VarsPartialEq.eq.Goals as goal

pub returns-clause-tested : goal.returns-clause-tested
returns-clause-tested c =
    let a = c.bindings.result.now in
    let b = c.bindings-2.result.now in
    c.eq.ensures ∙ sym (pointwise-map pair_of binding_eq a b)
    ∙ ap (λ vars. vars_eq vars (pairs_of b)) c.bindings.ensures ∙ ap (vars_eq c.args.self.now) c.bindings-2.ensures

pub returns-clause-same : goal.returns-clause-same
returns-clause-same c =
    Decides-at c.eq.result (vars_eq c.args.self.now c.args.other.now) (returns-clause-tested c) (vars_decides c.args.self.now c.args.other.now)

-- `retain` leaves the elements that pass the closure's test.
use Rattle.std.proofs.Common.{rules, ℕ, ◌∙◌, ap, not, eqb}
use Rattle.std.proofs.lemmas.Fn.{filter_same}
use Rattle.sched_api.specs.Wishes.{WishList, without_child}
use Rattle.sched_api.proofs.wishes.Wishes.remove.Goals as goal

pub returns : goal.returns
returns c =
    let kept = filter_same _ (λ (s : ℕ). not (eqb s c.args.child)) _ (λ x b f' k. search rules) _ _ c.retain.ensures.filtered in
    (λ i. record { sites = kept i; room = c.self.inside.room }) ∙ ap (λ (w : WishList). without_child w c.args.child) c.self.view_is

use Rattle.std.proofs.Common.{rules, ◌≡◌, ◌*◌, length, map, replicate, ap, ◌∙◌, subst}
use Rattle.std.proofs.lemmas.List.{length-replicate}
use Rattle.pipe_sched.specs.declared.slot.Slot.TheVariants as slot
use Rattle.step_eval.specs.Nests.{NestedParts, nested_of, IsFitNest}
use Rattle.pipe_sched.specs.Slots.{phases_in, members_in}
use Rattle.pipe_sched.specs.Inside.{mark_of}
use Rattle.pipe_sched.proofs.Kept.{kept_new, new_model}
use Rattle.pipe_sched.proofs.Told.{new_is_in_model}
use Rattle.pipe_sched.proofs.Next.{next_new}
use Rattle.pipe_sched.proofs.state.PipeState.new.Goals as goal

pub invariant_of-result : goal.invariant_of-result
invariant_of-result c =
    let m = members_in c.args.nested in
    let n = phases_in c.args.nested in
    let count : c.from.result * c.from-2.result ≡ m * n
    = ap (λ m. m * c.from-2.result) (c.from.ensures ∙ c.members.ensures.same) ∙ ap (λ p. members_in c.args.nested * p) (c.from-2.ensures ∙ c.phases.ensures.same) in
    let all = c.in_ok-slots.ensures ∙ ap (λ n. replicate n slot.Waiting) count in
    let flags : c.in_ok-next.next.items ≡ replicate c.from-3.result 0 = search rules in
    let none : c.in_ok-next.next.items ≡ replicate m 0 = flags ∙ ap (λ k. replicate k 0) (c.from-3.ensures ∙ c.members-2.ensures.same) in
    record {
      kept = kept_new c.args.nested c.in_ok-slots.slots.items c.requires (subst (λ (n : NestedParts). IsFitNest (nested_of n)) c.nested.view_is c.nested.invariant) all;
      members = ap length none ∙ length-replicate m 0;
      begun = rw none (next_new n (m * n) m (map mark_of c.in_ok-slots.slots.items) (new_model c.in_ok-slots.slots.items (m * n) all));
    }

pub returns : goal.returns
returns c =
    let count : c.from.result * c.from-2.result ≡ members_in c.args.nested * phases_in c.args.nested
    = ap (λ m. m * c.from-2.result) (c.from.ensures ∙ c.members.ensures.same) ∙ ap (λ p. members_in c.args.nested * p) (c.from-2.ensures ∙ c.phases.ensures.same) in
    new_is_in_model c.args.nested c.in_ok-slots.slots.items (c.in_ok-slots.ensures ∙ ap (λ n. replicate n slot.Waiting) count)

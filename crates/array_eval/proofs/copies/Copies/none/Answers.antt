use Rattle.std.proofs.Common.{rules, ◌≡◌, [], length, map, replicate, ap, ◌∙◌, arith}
use Rattle.array_eval.specs.Copies.{copy_at, AreSlots}
use Rattle.array_eval.specs.Traces.{Trace}
use Rattle.array_eval.proofs.CopyLemmas.{slots_none, copies_none}
use Rattle.array_eval.proofs.copies.Copies.none.Goals as goal

pub invariant_of-result : goal.invariant_of-result
invariant_of-result c =
    let slots : c.in_ok-vec.field-0.items ≡ replicate c.args.count 0 = search rules in
    let pages = c.in_ok-with_capacity.ensures.items in
    let many = c.in_ok-vec.ensures.len in
    let room = c.in_ok-with_capacity.ensures.capacity in
    let right : AreSlots c.in_ok-vec.field-0.items (length c.in_ok-with_capacity.field-0.items) = rw (slots, pages) (slots_none c.args.count) in
    (right, omega (arith, many, room))

pub returns : goal.returns
returns c =
    let slots : c.in_ok-vec.field-0.items ≡ replicate c.args.count 0 = search rules in
    ap (λ pages. map (copy_at pages) c.in_ok-vec.field-0.items) c.in_ok-with_capacity.ensures.items
    ∙ ap (map (copy_at [])) slots
    ∙ copies_none {A = Trace} c.args.count

use Rattle.std.proofs.Common.{◌≡◌, ◌++◌, ◌+◌, ◌≤◌, ℕ, List, length, take, drop, sym, ap, ◌∙◌, arith, length-append}
use Rattle.std.proofs.lemmas.List.{take-append-le}
use Rattle.outside_io.specs.Feed.{Feed}
use Rattle.outside_io.proofs.Moving.{left_after}
use Rattle.outside_io.proofs.failing.MemSourceSource.read.Goals as goal

pub returns-clause-does : goal.returns-clause-does
returns-clause-does c =
    let at = c.self.inside.at in
    let items = c.self.inside.bytes.items in
    let count = c.fill-count.result in
    let buf = c.fill-count.new.buf in
    let tail = drop c.min-size.result c.args.buf.now in
    let fits : count ≤ length buf = omega (arith, c.fill-count.ensures.most) in
    let front : take count (buf ++ tail) ≡ take count buf = take-append-le count buf tail fits in
    let moved : take count buf ≡ take count (drop at items) =
    c.fill-count.ensures.same ∙ ap (take count) (c.split_at.ensures.back ∙ ap (drop at) c.deref-2.ensures.value) in (
      c.fill-count.ensures.moves,
      omega (arith, c.fill-count.ensures.most, length-append {A = ℕ}),
      sym (ap (λ (f : Feed). f.left) c.self.view_is)
          ∙ left_after at count items
          ∙ ap (λ (given : List ℕ). given ++ drop (at + count) items) (sym (front ∙ moved)),
    )

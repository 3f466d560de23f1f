use Rattle.std.proofs.Common.{◌≡◌, ◌++◌, ◌+◌, take, drop, sym, ap, ◌∙◌, arith}
use Rattle.outside_io.proofs.Moving.{left_after}
use Rattle.outside_io.proofs.sure.SureSourceSource.read.Goals as goal

pub returns-clause-does : goal.returns-clause-does
returns-clause-does c =
    let at = c.self.inside.at in
    let items = c.self.inside.bytes.items in
    let count = c.fill-count.result in
    let moved : take count c.fill-count.new.buf ≡ take count (drop at items) =
    c.fill-count.ensures.same ∙ ap (take count) (c.split_at.ensures.back ∙ ap (drop at) c.deref.ensures.value) in (
      c.fill-count.ensures.moves,
      omega (arith, c.fill-count.ensures.most),
      sym c.self.view_is ∙ left_after at count items ∙ ap (λ front. front ++ drop (at + count) items) (sym moved),
    )

use Rattle.std.proofs.Common.{◌∙◌, sym, arith}
use Rattle.std.proofs.lemmas.Bool.{false≢true}
use Rattle.std.proofs.lemmas.Result.{IfOk-weaker}
use Rattle.join_book.proofs.book.Book.take_all.Goals as goal

pub written-requires : goal.written-requires
written-requires c = let kept = c.merge_into.ensures.cells in let few = c.in_ok-store.ensures.few in omega arith

pub returns-clause-written : goal.returns-clause-written
returns-clause-written c =
    IfOk-weaker c.written.result _ _
    (λ overlay e. e ∙ c.merge_into.ensures.all c.requires (λ failed. false≢true (sym c.if-has_failed.false ∙ c.has_failed.ensures.1 failed)))
    c.written.ensures

use Rattle.std.proofs.Common.{◌≡◌, ap, ◌∙◌, sym, subst, length, refl, arith, Some, slice_get, List, false}
use Rattle.std.proofs.lemmas.List.{length-replicate}
use Rattle.std.proofs.lemmas.Result.{IfOk-weaker}
use Rattle.std.proofs.lemmas.Option.{slice_get_read}
use Rattle.array_eval.specs.Traces.{marked}
use Rattle.array_eval.proofs.TraceLemmas.{none_marked}
use Rattle.array_jobs.specs.Jobs.{JobParts}
use Rattle.array_jobs.proofs.FitLemmas.{sized}
use Rattle.join_book.proofs.book.Book.blank_store.Goals as goal

pub returns : goal.returns
returns c =
    let jobs = c.self.inside.jobs.items in
    let known = ap (λ b. b.jobs) c.self.view_is in
    let first : slice_get jobs 0 ≡ Some c.index.result.now = slice_get_read jobs (length jobs) 0 c.index.result.now refl c.self.invariant.some c.index.ensures in
    let size = ap (λ (j : JobParts). length j.store) c.behind-self.view_is in
    let fit = c.behind-self.invariant.cells in
    let whole = (sized _ c.behind-self.invariant).whole in
    IfOk-weaker c.new.result _ _
    (λ store e.
    let cells = ap (λ t. length t.cells) e in
    record {
      cells = λ i job at.
          let at' = subst (λ (js : List JobParts). slice_get js i ≡ Some job) (sym known) at in
          c.self.invariant.cells i 0 job c.index.result.now at' first ∙ sym size ∙ sym cells;
      few = omega (arith, cells, fit, whole);
      marks = ap (λ t. length t.marks) e ∙ length-replicate (length c.behind-self.inside.store) false ∙ sym cells;
      unmarked = ap marked e ∙ none_marked 0 c.behind-self.inside.store (length c.behind-self.inside.store);
    })
    c.new.ensures

use Rattle.std.proofs.Common.{◌≡◌, ap, ◌∙◌, sym, length, arith}
use Rattle.std.proofs.lemmas.Bool.{false≢true}
use Rattle.std.proofs.lemmas.Bool.Decides.{Decides-eqb}
use Rattle.std.proofs.lemmas.Grind.{common_steps}
use Rattle.std.proofs.lemmas.Option.{slice_get_within}
use Rattle.array_jobs.specs.Jobs.{JobParts}
use Rattle.array_jobs.proofs.FitLemmas.{sized}
use Rattle.join_book.proofs.BookLemmas.{got}
use Rattle.join_book.proofs.book.Book.has_place_for.Goals as goal

pub count_cells-requires : goal.count_cells-requires
count_cells-requires c = sized _ c.own.invariant

pub count_cells-requires-in-Some : goal.count_cells-requires-in-Some
count_cells-requires-in-Some c = sized _ c.job.invariant

pub returns-in-Some : goal.returns-in-Some
returns-in-Some c =
    let place = c.from.ensures ∙ ap (λ (j : JobParts). j.place) c.job.view_is in
    let own = got c.deref.result.now c.args.self.now.jobs c.from.result c.args.job.now.place c.in-Some.own.now c.in-Some.ensures.lookup.0 c.in-Some.ensures.lookup.1 (c.deref.ensures.value ∙ ap (λ b. b.jobs) c.self.view_is) place in
    let size = ap (λ (j : JobParts). length j.store) c.own.view_is in
    let other = ap (λ (j : JobParts). length j.store) c.job.view_is in
    let one = c.own.invariant.cells in
    let two = c.job.invariant.cells in
    let first = c.count_cells.ensures in
    let second = c.count_cells-in-Some.ensures in
    let test = Decides-eqb c.count_cells.result c.count_cells-in-Some.result in (
      λ t. (c.in-Some.own.now, own, sym size ∙ one ∙ sym first ∙ test.0 t ∙ second ∙ sym two ∙ other),
      λ has. test.1 (let same : c.in-Some.own.now ≡ has.0 = cc (own, has.1) in
          first ∙ sym one ∙ size ∙ ap (λ (j : JobParts). length j.store) same ∙ has.2 ∙ sym other ∙ two ∙ sym second),
    )

pub returns-in-None : goal.returns-in-None
returns-in-None c = (
  λ t. absurd (false≢true t),
  λ is. absurd (let h = slice_get_within c.args.self.now.jobs c.args.job.now.place is.0 is.1 in
      let jobs = ap length c.deref.ensures.value ∙ ap (λ b. length b.jobs) c.self.view_is in
      let place = c.from.ensures ∙ ap (λ (j : JobParts). j.place) c.job.view_is in
      let off = c.in-None.ensures.lookup.0 in grind (arith, common_steps)),
)

use Rattle.std.proofs.Common.{◌≡◌, ap, ◌∙◌, length, arith}
use Rattle.std.proofs.lemmas.Bool.{false≢true}
use Rattle.std.proofs.lemmas.Grind.{common_steps}
use Rattle.std.proofs.lemmas.Option.{slice_get_within}
use Rattle.join_book.proofs.BookLemmas.{got, only_place}
use Rattle.join_book.proofs.book.Book.is_place_of.Goals as goal

pub returns-in-Some-clause-own : goal.returns-in-Some-clause-own
returns-in-Some-clause-own c =
    let own = got c.deref.result.now c.args.self.now.jobs c.from.result c.args.place c.in-Some.own.now c.in-Some.ensures.lookup.0 c.in-Some.ensures.lookup.1 (c.deref.ensures.value ∙ ap (λ b. b.jobs) c.self.view_is) c.from.ensures in (
      λ t. (c.in-Some.own.now, own, c.eq.ensures.same.0 t),
      λ is. c.eq.ensures.same.1 (let same : is.0 ≡ c.in-Some.own.now = cc (own, is.1) in let trees = is.2 in cc),
    )

pub returns-in-None-clause-own : goal.returns-in-None-clause-own
returns-in-None-clause-own c = (
  λ t. absurd (false≢true t),
  λ is. absurd (let h = slice_get_within c.args.self.now.jobs c.args.place is.0 is.1 in
      let jobs = ap length c.deref.ensures.value ∙ ap (λ b. length b.jobs) c.self.view_is in
      let place = c.from.ensures in
      let off = c.in-None.ensures.lookup.0 in grind (arith, common_steps)),
)

pub returns-in-Some-clause-alone : goal.returns-in-Some-clause-alone
returns-in-Some-clause-alone c = λ i is. only_place c.args.self.now c.self.inside.jobs.items c.self.inside.places.items c.self.view_is c.self.invariant.named c.args.job.now i is

pub returns-in-None-clause-alone : goal.returns-in-None-clause-alone
returns-in-None-clause-alone c = λ i is. only_place c.args.self.now c.self.inside.jobs.items c.self.inside.places.items c.self.view_is c.self.invariant.named c.args.job.now i is

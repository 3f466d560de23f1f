use Rattle.join_book.specs.declared.place.Place.TheVariants as place
use Rattle.join_book.proofs.BookLemmas.{marked_same}
use Rattle.join_book.proofs.book.Book.fail.Goals as goal

pub returns : goal.returns
returns c = marked_same c.self.inside.jobs.items c.self.inside.places.items c.args.self.now c.from.result c.args.place place.Failed c.self.view_is c.from.ensures

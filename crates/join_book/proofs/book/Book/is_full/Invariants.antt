use Rattle.std.proofs.Common.{◌≡◌, ℕ, ◌<◌, slice_get, Some}
use Rattle.join_book.specs.Books.{Open}
use Rattle.join_book.proofs.book.Book.is_full.Given as goal

abbrev pub invariant-loop-place : goal.invariant-loop-place
invariant-loop-place l = (i : ℕ) → i < l.place-index → slice_get l.self.places i ≡ Some Open → ⊥

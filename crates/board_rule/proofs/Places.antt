-- Entries at the indices that were drawn for them, in a journal that grows.
use Rattle.std.proofs.Common.{◌≡◌, ℕ, List, [], ◌∷◌, ◌++◌, length, slice_get, ap, ◌∙◌}
use Rattle.transfer_table.specs.declared.entry.Entry.{Entry}
use Rattle.board_rule.specs.Places.{AreAt, IsPlace}
use Rattle.board_rule.proofs.Lists.{get-more, get-last}

-- Earlier entries keep their indices.
pub at-more : (es : List Entry) (e : Entry) (mine : List Entry) (places : List ℕ) → AreAt es mine places → AreAt (es ++ e ∷ []) mine places
at-more es e [] [] all = tt
at-more es e [] (i ∷ is) all = absurd all
at-more es e (m ∷ ms) [] all = absurd all
at-more es e (m ∷ ms) (i ∷ is) all = (get-more es (e ∷ []) i m all.0, at-more es e ms is all.1)

-- The new entry is the last one.
pub at-own : (es : List Entry) (e : Entry) (place : ℕ) → place ≡ length es → (mine : List Entry) (places : List ℕ) → AreAt es mine places → AreAt (es ++ e ∷ []) (mine ++ e ∷ []) (places ++ place ∷ [])
at-own es e place last [] [] all = (ap (slice_get (es ++ e ∷ [])) last ∙ get-last es e, tt)
at-own es e place last [] (i ∷ is) all = absurd all
at-own es e place last (m ∷ ms) [] all = absurd all
at-own es e place last (m ∷ ms) (i ∷ is) all = (get-more es (e ∷ []) i m all.0, at-own es e place last ms is all.1)

pub place_at : (e : Entry) (a b c d : ℕ) → a ≡ b → c ≡ d → IsPlace b d e → IsPlace a c e
place_at e a b c d p q h = rw (p, q) h

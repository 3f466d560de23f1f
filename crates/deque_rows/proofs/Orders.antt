-- Indices in the order of other indices.
use Rattle.std.proofs.Common.{ℕ, List, [], ◌∷◌, ◌++◌, refl, inl, inr}
use Rattle.deque_rows.specs.Account.{InOrder}

-- An order stays an order if one more index stands before and is left out.
pub order_wider : (y : ℕ) (xs ys : List ℕ) → InOrder xs ys → InOrder xs (y ∷ ys)
order_wider y [] ys h = tt
order_wider y (x ∷ xs) ys h = inr h

pub order_tail : (x : ℕ) (xs ys : List ℕ) → InOrder (x ∷ xs) ys → InOrder xs ys
order_tail x xs [] h = absurd h
order_tail x xs (y ∷ ys) (inl h) = order_wider y xs ys h.1
order_tail x xs (y ∷ ys) (inr h) = order_wider y xs ys (order_tail x xs ys h)

pub order_rest : (gone xs ys : List ℕ) → InOrder (gone ++ xs) ys → InOrder xs ys
order_rest [] xs ys h = h
order_rest (x ∷ gone) xs ys h = order_rest gone xs ys (order_tail x (gone ++ xs) ys h)

pub order_fewer : (c xs ys : List ℕ) → InOrder (xs ++ c) ys → InOrder xs ys
order_fewer c [] ys h = tt
order_fewer c (x ∷ xs) [] h = absurd h
order_fewer c (x ∷ xs) (y ∷ ys) (inl h) = inl (h.0, order_fewer c xs ys h.1)
order_fewer c (x ∷ xs) (y ∷ ys) (inr h) = inr (order_fewer c (x ∷ xs) ys h)

pub order_same : (c : List ℕ) → InOrder c c
order_same [] = tt
order_same (x ∷ c) = inl (refl, order_same c)

pub order_more : (c xs ys : List ℕ) → InOrder xs ys → InOrder (xs ++ c) (ys ++ c)
order_more c [] [] h = order_same c
order_more c [] (y ∷ ys) h = order_wider y c (ys ++ c) (order_more c [] ys tt)
order_more c (x ∷ xs) [] h = absurd h
order_more c (x ∷ xs) (y ∷ ys) (inl h) = inl (h.0, order_more c xs ys h.1)
order_more c (x ∷ xs) (y ∷ ys) (inr h) = inr (order_more c (x ∷ xs) ys h)

-- What follows for each pair of elements, and for an output.
use Rattle.std.proofs.Common.{List, [], ◌∷◌, Result, Ok, Err, IfOk}
use Rattle.std.specs.List.{AllZip}

pub AllZip-turn : {A B : Type 0} (R S : A → B → Type 0) → ((x : A) (y : B) → R x y → S x y) → (xs : List A) (ys : List B) → AllZip R xs ys → AllZip S xs ys
AllZip-turn R S f [] [] z = tt
AllZip-turn R S f [] (y ∷ ys) z = absurd z
AllZip-turn R S f (x ∷ xs) [] z = absurd z
AllZip-turn R S f (x ∷ xs) (y ∷ ys) z = (f x y z.0, AllZip-turn R S f xs ys z.1)

pub IfOk-turn : {T E : Type 0} (r : Result T E) (P Q : T → Type 0) → ((t : T) → P t → Q t) → IfOk r P → IfOk r Q
IfOk-turn (Ok t) P Q f h = f t h
IfOk-turn (Err e) P Q f h = tt

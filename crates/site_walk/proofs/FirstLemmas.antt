-- The first fault of a list in parts, and item by item.
use Rattle.std.proofs.Common.{◌≡◌, List, [], ◌∷◌, ◌++◌, Option, refl, sym, ap, ◌∙◌}
use Rattle.std.specs.List.{fold}
use Rattle.std.specs.Option.{option_or}
use Rattle.array_meaning.proofs.LastLemmas.{or_assoc, or_none}
use Rattle.site_walk.specs.Firsts.{first_of, or_first, or_first_of}

module _ {Item F : Type 0} (f : Item → Option F) where
  first_append : (xs ys : List Item) → first_of f (xs ++ ys) ≡ option_or (first_of f xs) (first_of f ys)
  first_append [] ys = refl
  first_append (x ∷ xs) ys = ap (option_or (f x)) (first_append xs ys) ∙ sym (or_assoc (f x) (first_of f xs) (first_of f ys))

  pub or_first_append : (xs ys : List Item) (found : Option F) → or_first_of f (xs ++ ys) found ≡ or_first_of f ys (or_first_of f xs found)
  or_first_append xs ys found = ap (option_or found) (first_append xs ys) ∙ sym (or_assoc found (first_of f xs) (first_of f ys))

  pub or_first_each : (items : List Item) (found : Option F) → fold (or_first f) found items ≡ or_first_of f items found
  or_first_each [] found = sym (or_none found)
  or_first_each (x ∷ xs) found = or_first_each xs (or_first f found x) ∙ or_assoc found (f x) (first_of f xs)

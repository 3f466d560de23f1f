-- The condition for no first fault.
use Rattle.std.proofs.Common.{◌≡◌, Bool, true, false, ◌&&◌, List, [], ◌∷◌, Option, Some, None, refl, ap, ◌∙◌}
use Rattle.std.specs.Option.{option_map}
use Rattle.disjoint_check.specs.Faults.{unless, first_fault}

abbrev pub is_none : {A : Type 0} → Option A → Bool
is_none None = true
is_none (Some x) = false

pub none_from : {A : Type 0} (o : Option A) → is_none o ≡ true → o ≡ None
none_from None h = refl
none_from (Some x) h = cc

pub to_none : {A : Type 0} (o : Option A) → o ≡ None → is_none o ≡ true
to_none o h = ap is_none h

pub only_fault : {A : Type 0} (o : Option A) → first_fault (o ∷ []) ≡ o
only_fault None = refl
only_fault (Some x) = refl

pub none_unless : {A : Type 0} (b : Bool) (x : A) → is_none (unless b x) ≡ b
none_unless true x = refl
none_unless false x = refl

pub none_map : {A B : Type 0} (f : A → B) (o : Option A) → is_none (option_map f o) ≡ is_none o
none_map f None = refl
none_map f (Some x) = refl

pub none_cons : {A : Type 0} (o : Option A) (more : List (Option A)) → is_none (first_fault (o ∷ more)) ≡ (is_none o && is_none (first_fault more))
none_cons None more = refl
none_cons (Some x) more = refl

pub both : {A : Type 0} (a b : Option A) (p q : Bool) → is_none a ≡ p → is_none b ≡ q → is_none (first_fault (a ∷ b ∷ [])) ≡ (p && q)
both None None p q h k = cc
both None (Some y) p q h k = cc
both (Some x) b p q h k = cc

pub three : {A : Type 0} (a b c : Option A) (p q r : Bool) → is_none a ≡ p → is_none b ≡ q → is_none c ≡ r →
    is_none (first_fault (a ∷ b ∷ c ∷ [])) ≡ (p && (q && r))
three None b c p q r h k l = both b c q r k l ∙ ap (λ t. t && (q && r)) h
three (Some x) b c p q r h k l = ap (λ t. t && (q && r)) h

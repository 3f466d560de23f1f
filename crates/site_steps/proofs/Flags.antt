-- Sets of sites with one site added or removed.
use Rattle.std.proofs.Common.{◌≡◌, ◌≢◌, ℕ, zero, suc, ◌<◌, Bool, true, false, List, [], ◌∷◌, length, refl, sym, ◌∙◌, subst, inl, inr}
use Rattle.std.proofs.lemmas.Bool.{cases_eq}
use Rattle.std.proofs.lemmas.List.{get_or-set_same, get_or-set_other}
use Rattle.hart_port.specs.PortView.{is_in, with_site, without}

pub with_here : (f : List Bool) (s : ℕ) → s < length f → is_in (with_site f s) s ≡ true
with_here f s room = get_or-set_same f s true false room

pub with_other : (f : List Bool) (s x : ℕ) → x ≢ s → is_in (with_site f s) x ≡ is_in f x
with_other f s x n = get_or-set_other f s x true false n

pub without_other : (f : List Bool) (s x : ℕ) → x ≢ s → is_in (without f s) x ≡ is_in f x
without_other f s x n = get_or-set_other f s x false false n

pub without_here : (f : List Bool) (s : ℕ) → is_in (without f s) s ≡ false
without_here [] s = refl
without_here (b ∷ f) zero = refl
without_here (b ∷ f) (suc s) = without_here f s

here_stays : (f : List Bool) (s : ℕ) → is_in f s ≡ true → is_in (with_site f s) s ≡ true
here_stays [] s h = h
here_stays (b ∷ f) zero h = refl
here_stays (b ∷ f) (suc s) h = here_stays f s h

-- A site in the set stays in it.
pub with_stays : (f : List Bool) (s x : ℕ) → is_in f x ≡ true → is_in (with_site f s) x ≡ true
with_stays f s x h = elim (cases_eq x s) [
  | inl e ↦ subst (λ y. is_in (with_site f s) y ≡ true) (sym e) (here_stays f s (subst (λ y. is_in f y ≡ true) e h))
  | inr n ↦ with_other f s x n ∙ h
]

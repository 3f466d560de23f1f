-- A set of sites as a list of flags.
use Rattle.std.proofs.Common.{◌≡◌, ◌≢◌, ◌⊎◌, ℕ, zero, suc, ◌+◌, ◌<◌, Bool, true, false, ◌||◌, List, [], ◌∷◌, length, refl, sym, ap, ◌∙◌, arith, inl, inr, get_or-set_same, get_or-set_other}
use mathlib.Core.Logic.{dite}
use native.Mathlib.Decide.{ℕ_discrete}
use Rattle.transfer_table.specs.Plan.{Plan, site_count}
use Rattle.transfer_table.proofs.Lists.{replicate_at}
use Rattle.hart_port.specs.PortView.{is_in, with_site, without}
use Rattle.hart_port.specs.Ledger.{no_site}
use Rattle.board_rule.specs.Sets.{union}

pub with_site-same : (f : List Bool) (x : ℕ) → x < length f → is_in (with_site f x) x ≡ true
with_site-same f x lt = get_or-set_same f x true false lt

pub with_site-other : (f : List Bool) (x y : ℕ) → y ≢ x → is_in (with_site f x) y ≡ is_in f y
with_site-other f x y n = get_or-set_other f x y true false n

pub without-other : (f : List Bool) (x y : ℕ) → y ≢ x → is_in (without f x) y ≡ is_in f y
without-other f x y n = get_or-set_other f x y false false n

pub without-same : (f : List Bool) (x : ℕ) → is_in (without f x) x ≡ false
without-same [] x = refl
without-same (b ∷ f) zero = refl
without-same (b ∷ f) (suc x) = without-same f x

-- A site in the set with x is x or was in the set.
pub with_site-in : (f : List Bool) (x y : ℕ) → is_in (with_site f x) y ≡ true → (y ≡ x) ⊎ (is_in f y ≡ true)
with_site-in f x y is = dite (ℕ_discrete y x) (λ e. inl e) (λ n. inr (sym (with_site-other f x y n) ∙ is))

-- A site in the set without x isn't x and was in the set.
pub without-in : (f : List Bool) (x y : ℕ) → is_in (without f x) y ≡ true → (y ≢ x) × (is_in f y ≡ true)
without-in f x y is = let apart : y ≢ x = λ e. let gone : is_in (without f x) y ≡ false = ap (is_in (without f x)) e ∙ without-same f x in cc in (apart, sym (without-other f x y apart) ∙ is)

-- A site of the set stays in the set with x.
pub with_site-keeps : (f : List Bool) (x y : ℕ) → x < length f → is_in f y ≡ true → is_in (with_site f x) y ≡ true
with_site-keeps f x y lt is = dite (ℕ_discrete y x) (λ e. ap (is_in (with_site f x)) e ∙ with_site-same f x lt) (λ n. with_site-other f x y n ∙ is)

pub in-no_site : (p : Plan) (y : ℕ) → is_in (no_site p) y ≡ false
in-no_site p y = replicate_at (site_count p + 1) y false

nothing_in : (y : ℕ) → is_in [] y ≡ false
nothing_in y = refl

either : (a b : Bool) → (a || b) ≡ true → (a ≡ true) ⊎ (b ≡ true)
either true b e = inl refl
either false b e = inr e

pub union-in : (f g : List Bool) (y : ℕ) → is_in (union f g) y ≡ true → (is_in f y ≡ true) ⊎ (is_in g y ≡ true)
union-in [] g y is = inr is
union-in (a ∷ f) [] y is = inl is
union-in (a ∷ f) (b ∷ g) zero is = either a b is
union-in (a ∷ f) (b ∷ g) (suc y) is = union-in f g y is

pub length-union : (f g : List Bool) → length f ≡ length g → length (union f g) ≡ length f
length-union [] g e = sym e
length-union (a ∷ f) [] e = refl
length-union (a ∷ f) (b ∷ g) e = let r = length-union f g (omega arith) in omega arith

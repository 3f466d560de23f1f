-- The entries of one hart, and the hart that made none.
use Rattle.std.proofs.Common.{◌≡◌, ◌≢◌, ℕ, ◌++◌, Bool, true, false, ◌&&◌, ◌==◌, eq-eqb, ne_eqb, List, [], ◌∷◌, refl, sym, ap, ◌∙◌, append-nil, Some, None}
use Rattle.std.proofs.lemmas.List.Elements.{filter-append}
use Rattle.transfer_table.specs.Plan.{Plan, IsPlan, IsSite}
use Rattle.transfer_table.specs.Table.{TableState, first_state, owner, row, is_live, is_home, lives_with}
use Rattle.transfer_table.specs.Journal.{Reaches}
use Rattle.transfer_table.specs.Entry.{hart_of, site_of, made_by}
use Rattle.transfer_table.specs.declared.entry.Row.{Row}
use Rattle.transfer_table.specs.declared.entry.Entry.{Entry}
use Rattle.transfer_table.specs.declared.entry.Entry.TheVariants.{Register, Request, Enter, Yield, Unregister, Skip}
use Rattle.transfer_table.proofs.Admits.{not_home}
use Rattle.transfer_table.proofs.Positions.{lasts}
use Rattle.transfer_table.proofs.Lists.{replicate_at}
use Rattle.transfer_table.proofs.Effects.{at_site, at_hart, row_after, allowed_site}
use Rattle.transfer_table.proofs.Stages.{first_blank}

pub made_by-snoc : (h : ℕ) (es : List Entry) (e : Entry) → made_by h (es ++ e ∷ []) ≡ made_by h es ++ made_by h (e ∷ [])
made_by-snoc h es e = filter-append (λ x. hart_of x == h) es (e ∷ [])

-- The entry is by the hart.
pub made_by-own : (h : ℕ) (es : List Entry) (e : Entry) → hart_of e ≡ h → made_by h (es ++ e ∷ []) ≡ made_by h es ++ e ∷ []
made_by-own h es e is = let w : made_by h (e ∷ []) ≡ e ∷ [] = rw (eq-eqb (hart_of e) h is) refl in made_by-snoc h es e ∙ ap (λ (l : List Entry). made_by h es ++ l) w

-- The entry is by another hart.
pub made_by-other : (h : ℕ) (es : List Entry) (e : Entry) → hart_of e ≢ h → made_by h (es ++ e ∷ []) ≡ made_by h es
made_by-other h es e n = let w : made_by h (e ∷ []) ≡ [] = rw (ne_eqb (hart_of e) h n) refl in made_by-snoc h es e ∙ (ap (λ (l : List Entry). made_by h es ++ l) w ∙ append-nil (made_by h es))

nothing_left : {A : Type 0} (xs ys : List A) → xs ++ ys ≡ [] → (xs ≡ []) × (ys ≡ [])
nothing_left [] ys e = (refl, e)
nothing_left (x ∷ xs) ys e = absurd (cc)

not_by : (h : ℕ) (e : Entry) → made_by h (e ∷ []) ≡ [] → h ≢ hart_of e
not_by h e is = λ z. let w : made_by h (e ∷ []) ≡ e ∷ [] = rw (eq-eqb (hart_of e) h (sym z)) refl in absurd (cc)

-- The hart is in the base, and the home of no site.
pub record IsIdle (p : Plan) (t : TableState) (h : ℕ) : Type 0 where
  pub base : owner t h ≡ 0
  pub homeless : (s : ℕ) → IsSite p s → (row t s).home ≢ Some h

other_home : (p : Plan) (t : TableState) (e : Entry) (h : ℕ) → h ≢ hart_of e → (row t (site_of e)).home ≢ Some h → (row_after t e).home ≢ Some h
other_home p t (Register g s) h n f = λ z. let w : g ≡ h = cc in n (sym w)
other_home p t (Request g s k) h n f = f
other_home p t (Enter g s) h n f = f
other_home p t (Yield g s) h n f = f
other_home p t (Unregister g s) h n f = f
other_home p t (Skip g s) h n f = λ z. cc

-- A hart that made no entry is idle.
pub legal_idle : (p : Plan) → IsPlan p → (es : List Entry) (t : TableState) → Reaches p es t → (h : ℕ) → made_by h es ≡ [] → IsIdle p t h
legal_idle p plan es t is = lasts p plan (λ xs u. (h : ℕ) → made_by h xs ≡ [] → IsIdle p u h)
    (λ h _. record { base = replicate_at p.harts h 0; homeless = λ s _ z. let w : (row (first_state p) s).home ≡ None = ap (λ (r : Row). r.home) (first_blank p s) in absurd (cc) })
    (λ xs u e leads fits f a h none. let both = nothing_left (made_by h xs) (made_by h (e ∷ [])) (sym (made_by-snoc h xs e) ∙ none) in let n = not_by h e both.1 in let old = f h both.0 in record {
      base = at_hart p u e h (λ g o. g ≡ h → o ≡ 0) fits a (λ z. absurd (n (sym z))) (λ _ _. old.base) refl;
      homeless = λ s site. at_site p u e s (λ x r. r.home ≢ Some h) fits a site (other_home p u e h n (old.homeless (site_of e) (allowed_site p u e a))) (λ _ _. old.homeless s site) (λ _ _ z. cc);
    }) es t is

-- A hart that made no entry is the home of no live site.
pub legal_idle-lives_with : (p : Plan) → IsPlan p → (es : List Entry) (t : TableState) → Reaches p es t → (h : ℕ) → made_by h es ≡ [] → (s : ℕ) → IsSite p s → lives_with t s h ≡ false
legal_idle-lives_with p plan es t is h none s site = not_live (is_live (row t s).stage) (not_home (row t s).home h ((legal_idle p plan es t is h none).homeless s site))
  where
    not_live : (b : Bool) → is_home (row t s).home h ≡ false → (b && is_home (row t s).home h) ≡ false
    not_live true e = e
    not_live false e = refl

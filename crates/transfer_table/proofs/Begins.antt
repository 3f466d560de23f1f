-- How sites begin and end, by their own entries.
use Rattle.std.proofs.Common.{◌≡◌, ◌≢◌, ℕ, ◌+◌, ◌≤◌, ◌⊎◌, inl, inr, ⊎_elim, Bool, true, false, ◌&&◌, cond, ◌==◌, eq-eqb, ne_eqb, if◌then◌else◌, List, [], ◌∷◌, ◌++◌, refl, sym, ap, subst, ◌∙◌, arith, Option, Some, None}
use Rattle.std.specs.Option.{is_some}
use Rattle.std.proofs.lemmas.List.Sums.{sum_by-append}
use Rattle.transfer_table.specs.Plan.{Plan, IsPlan, IsSite, parent, is_within}
use Rattle.transfer_table.specs.Table.{TableState, effect_of, first_state, row, blank, is_gone}
use Rattle.transfer_table.specs.Journal.{Reaches}
use Rattle.transfer_table.specs.Entry.{site_of, is_skip, covers, registers, unregisters, skips}
use Rattle.transfer_table.specs.Allowed.{IsAllowed}
use Rattle.transfer_table.specs.Laws.{BeginsOnce}
use Rattle.transfer_table.specs.declared.entry.Row.{Row}
use Rattle.transfer_table.specs.declared.entry.Stage.{Stage}
use Rattle.transfer_table.specs.declared.entry.Stage.TheVariants.{New, Live, Gone}
use Rattle.transfer_table.specs.declared.entry.Entry.{Entry}
use Rattle.transfer_table.specs.declared.entry.Entry.TheVariants.{Register, Request, Enter, Yield, Unregister, Skip}
use Rattle.transfer_table.proofs.Positions.{Fits, lasts}
use Rattle.transfer_table.proofs.Effects.{at_site, row_after, allowed_site, row-effect_covered}
use Rattle.transfer_table.proofs.Stages.{first_blank, legal_blank, gone_lasts, covered_new}
use Rattle.transfer_table.proofs.Within.{within-step, strictly_within, within_site}
use Rattle.transfer_table.proofs.Homes.{legal_home}
use Rattle.transfer_table.proofs.Balance.{rows_report}

pub skips-snoc : (s : ℕ) (es : List Entry) (e : Entry) → skips s (es ++ e ∷ []) ≡ skips s es + cond (if site_of e == s then is_skip e else false) 1 0
skips-snoc s es e = let z = sum_by-append (λ x. cond {A = ℕ} (if site_of x == s then is_skip x else false) 1 0) es (e ∷ []) in omega arith

pub skips-here : (es : List Entry) (e : Entry) → skips (site_of e) (es ++ e ∷ []) ≡ skips (site_of e) es + cond (is_skip e) 1 0
skips-here es e = skips-snoc (site_of e) es e ∙ rw (eq-eqb (site_of e) (site_of e) refl) refl

pub skips-other : (s : ℕ) (es : List Entry) (e : Entry) → s ≢ site_of e → skips s (es ++ e ∷ []) ≡ skips s es
skips-other s es e n = let z = skips-snoc s es e in let q : cond {A = ℕ} (if site_of e == s then is_skip e else false) 1 0 ≡ 0 = rw (ne_eqb (site_of e) s (λ y. n (sym y))) refl in omega arith

-- The parent is a site that is gone.
abbrev HasGoneParent : Plan → TableState → ℕ → Type 0
HasGoneParent p t s = IsSite p (parent p s) × ((row t (parent p s)).stage ≡ Gone)

-- A site's row against its own skips.
record IsSkipped (p : Plan) (es : List Entry) (t : TableState) (s : ℕ) (r : Row) : Type 0 where
  few : skips s es ≤ 1
  kept : is_some r.home ≡ true → skips s es ≡ 0
  not_yet : (r.stage ≡ Gone → ⊥) → skips s es ≡ 0
  left_out : r.stage ≡ Gone → is_some r.home ≡ false → (skips s es ≡ 1) ⊎ HasGoneParent p t s

-- An entry that skips nothing.
plain_here : (p : Plan) (t u : TableState) (es : List Entry) (e : Entry) (r : Row) → is_skip e ≡ false → IsSkipped p es t (site_of e) (row t (site_of e))
    → (is_some r.home ≡ true → skips (site_of e) es ≡ 0) → (is_some r.home ≡ false → (row t (site_of e)).stage ≡ r.stage) → (is_some r.home ≡ false → is_some (row t (site_of e)).home ≡ false)
    → ((r.stage ≡ Gone → ⊥) → skips (site_of e) es ≡ 0) → (HasGoneParent p t (site_of e) → HasGoneParent p u (site_of e)) → IsSkipped p (es ++ e ∷ []) u (site_of e) r
plain_here p t u es e r plain old kept stage home not_yet up =
    let z = skips-here es e in let q : cond {A = ℕ} (is_skip e) 1 0 ≡ 0 = ap (λ (b : Bool). cond {A = ℕ} b 1 0) plain in let f = old.few in record {
      few = omega arith;
      kept = λ h. let k = kept h in omega arith;
      not_yet = λ n. let k = not_yet n in omega arith;
      left_out = λ g h. ⊎_elim (λ k. inl (omega arith)) (λ y. inr (up y)) (old.left_out (stage h ∙ g) (home h));
    }

skipped_here : (p : Plan) (t u : TableState) (es : List Entry) (e : Entry) → IsAllowed p t e → ((row t (site_of e)).stage ≡ New → row t (site_of e) ≡ blank) → (HasGoneParent p t (site_of e) → HasGoneParent p u (site_of e))
    → IsSkipped p es t (site_of e) (row t (site_of e)) → IsSkipped p (es ++ e ∷ []) u (site_of e) (row_after t e)
skipped_here p t u es (Register h s) a new up old = let none : skips s es ≡ 0 = old.not_yet (λ g. let n = a.3 in cc) in plain_here p t u es (Register h s) (row_after t (Register h s)) refl old (λ _. none) (λ z. absurd (cc)) (λ z. absurd (cc)) (λ _. none) up
skipped_here p t u es (Request h s k) a new up old = plain_here p t u es (Request h s k) (row_after t (Request h s k)) refl old old.kept (λ _. refl) (λ z. z) old.not_yet up
skipped_here p t u es (Enter h s) a new up old = plain_here p t u es (Enter h s) (row_after t (Enter h s)) refl old old.kept (λ _. refl) (λ z. z) old.not_yet up
skipped_here p t u es (Yield h s) a new up old = plain_here p t u es (Yield h s) (row_after t (Yield h s)) refl old old.kept (λ _. refl) (λ z. z) old.not_yet up
skipped_here p t u es (Unregister h s) a new up old = let home : is_some (row t s).home ≡ true = ap is_some a.3 in
    plain_here p t u es (Unregister h s) (row_after t (Unregister h s)) refl old old.kept (λ z. absurd (let w : true ≡ false = sym home ∙ z in cc)) (λ z. z) (λ n. absurd (n refl)) up
skipped_here p t u es (Skip h s) a new up old = let z = skips-here es (Skip h s) in let none : skips s es ≡ 0 = old.not_yet (λ g. let n = a.3 in cc) in record {
  few = omega arith;
  kept = λ q. absurd (cc);
  not_yet = λ n. absurd (n refl);
  left_out = λ _ _. inl (omega arith);
}

skipped_else : (p : Plan) (t u : TableState) (es : List Entry) (e : Entry) (s : ℕ) (r : Row) → s ≢ site_of e → (HasGoneParent p t s → HasGoneParent p u s) → IsSkipped p es t s r → IsSkipped p (es ++ e ∷ []) u s r
skipped_else p t u es e s r n up old = let z = skips-other s es e n in let f = old.few in record {
  few = omega arith;
  kept = λ h. z ∙ old.kept h;
  not_yet = λ m. z ∙ old.not_yet m;
  left_out = λ g h. ⊎_elim (λ k. inl (z ∙ k)) (λ y. inr (up y)) (old.left_out g h);
}

-- The parent of a site that is skipped with a site around it is gone.
covered_parent : (p : Plan) → IsPlan p → (t : TableState) (e : Entry) (s : ℕ) → Fits p t → IsAllowed p t e → IsSite p s → s ≢ site_of e → covers p e s ≡ true → HasGoneParent p (effect_of p t e) s
covered_parent p plan t (Register h x) s fits a site n c = absurd (cc)
covered_parent p plan t (Request h x k) s fits a site n c = absurd (cc)
covered_parent p plan t (Enter h x) s fits a site n c = absurd (cc)
covered_parent p plan t (Yield h x) s fits a site n c = absurd (cc)
covered_parent p plan t (Unregister h x) s fits a site n c = absurd (cc)
covered_parent p plan t (Skip h x) s fits a site n c = let above = strictly_within p x s c n in
    let w : is_within p x (parent p s) ≡ true = sym (within-step p plan x s above site.1) ∙ c in
    let up = within_site p plan x s a.1 site w in (up, ap (λ (r : Row). r.stage) (row-effect_covered p t (Skip h x) (parent p s) fits up w))

legal_skips : (p : Plan) → IsPlan p → (es : List Entry) (t : TableState) → Reaches p es t → (s : ℕ) → IsSite p s → IsSkipped p es t s (row t s)
legal_skips p plan es t is = lasts p plan (λ xs u. (s : ℕ) → IsSite p s → IsSkipped p xs u s (row u s))
    (λ s _. subst (IsSkipped p [] (first_state p) s) (sym (first_blank p s)) record { few = omega arith; kept = λ _. refl; not_yet = λ _. refl; left_out = λ g _. absurd (cc) })
    (λ xs u e leads fits f a s site. let up : (y : ℕ) → HasGoneParent p u y → HasGoneParent p (effect_of p u e) y = λ y q. (q.0, gone_lasts p u e fits a (parent p y) q.0 q.1) in
    at_site p u e s (λ x r. IsSkipped p (xs ++ e ∷ []) (effect_of p u e) x r) fits a site
    (skipped_here p u (effect_of p u e) xs e a (legal_blank p plan xs u leads (site_of e) (allowed_site p u e a)) (up (site_of e)) (f (site_of e) (allowed_site p u e a)))
    (λ n _. skipped_else p u (effect_of p u e) xs e s (row u s) n (up s) (f s site))
    (λ n c. let z = skips-other s xs e n in let none : skips s xs ≡ 0 = (f s site).not_yet (λ g. let new = covered_new p plan xs u e leads a s site c in cc) in record {
      few = omega arith;
      kept = λ q. absurd (cc);
      not_yet = λ m. absurd (m refl);
      left_out = λ _ _. inr (covered_parent p plan u e s fits a site n c);
    })) es t is

by_home : {A : Type 0} (o : Option ℕ) → (is_some o ≡ true → A) → (is_some o ≡ false → A) → A
by_home None some none = none refl
by_home (Some h) some none = some refl

-- A site begins and ends as its own entries have it.
pub legal_begins : (p : Plan) → IsPlan p → (es : List Entry) (t : TableState) → Reaches p es t → (s : ℕ) → IsSite p s → BeginsOnce p es t s
legal_begins p plan es t is s site =
    let c = rows_report p plan es t is s site in let k = legal_skips p plan es t is s site in
    let came = c.came in let went = c.went in
    let with_home : is_some (row t s).home ≡ true → (registers s es ≡ 1) × (skips s es ≡ 0) = λ h. (came ∙ ap (λ (b : Bool). if b then 1 else 0) h, k.kept h) in
    let no_home : is_some (row t s).home ≡ false → registers s es ≡ 0 = λ h. came ∙ ap (λ (b : Bool). if b then 1 else 0) h in
    let live_home : (row t s).stage ≡ Live → is_some (row t s).home ≡ true = λ l. let r = legal_home p plan es t is s site l in ap is_some r.1 in record {
      once = by_home (row t s).home (λ h. let w = with_home h in let a = w.0 in let b = w.1 in omega arith) (λ h. let n = no_home h in let f = k.few in omega arith);
      fresh = λ new. let b = legal_blank p plan es t is s site new in let n = no_home (ap (λ (r : Row). is_some r.home) b) in let m = k.not_yet (λ g. cc) in
          (omega arith, went ∙ ap (λ (r : Row). if (is_gone r.stage && is_some r.home) then 1 else 0) b);
      live = λ l. let w = with_home (live_home l) in (w.0, w.1, went ∙ ap (λ (g : Stage). if (is_gone g && is_some (row t s).home) then 1 else 0) l);
      over = λ some. over_of (row t s).stage refl some;
      ends = λ g. by_home (row t s).home
          (λ h. let w = with_home h in let a = w.0 in let b = w.1 in let e : unregisters s es ≡ 1 = went ∙ (ap (λ (x : Stage). if (is_gone x && is_some (row t s).home) then 1 else 0) g ∙ ap (λ (x : Bool). if x then 1 else 0) h) in omega arith)
          (λ h. let n = no_home h in let e : unregisters s es ≡ 0 = went ∙ (ap (λ (x : Stage). if (is_gone x && is_some (row t s).home) then 1 else 0) g ∙ ap (λ (x : Bool). if x then 1 else 0) h) in omega arith);
      left_out = λ g none. by_home (row t s).home (λ h. let w = with_home h in let a = w.0 in absurd (omega arith)) (λ h. ⊎_elim (λ one. absurd (omega arith)) (λ y. y) (k.left_out g h));
    }
  where
    over_of : (g : Stage) → (row t s).stage ≡ g → 1 ≤ unregisters s es + skips s es → (row t s).stage ≡ Gone
    over_of New e some = absurd (let m = (legal_skips p plan es t is s site).not_yet (λ q. cc) in let w : unregisters s es ≡ 0 = (rows_report p plan es t is s site).went ∙ ap (λ (x : Stage). if (is_gone x && is_some (row t s).home) then 1 else 0) e in omega arith)
    over_of Live e some = absurd (let m = (legal_skips p plan es t is s site).not_yet (λ q. cc) in let w : unregisters s es ≡ 0 = (rows_report p plan es t is s site).went ∙ ap (λ (x : Stage). if (is_gone x && is_some (row t s).home) then 1 else 0) e in omega arith)
    over_of Gone e some = e

-- A site that was never registered requested nothing.
askless_here : (p : Plan) (t : TableState) (e : Entry) → IsAllowed p t e → ((row t (site_of e)).stage ≡ New → row t (site_of e) ≡ blank) → ((row t (site_of e)).stage ≡ Live → is_some (row t (site_of e)).home ≡ true)
    → (is_some (row t (site_of e)).home ≡ false → ((row t (site_of e)).wishes ≡ 0) × ((row t (site_of e)).asked ≡ 0)) → is_some (row_after t e).home ≡ false → ((row_after t e).wishes ≡ 0) × ((row_after t e).asked ≡ 0)
askless_here p t (Register h s) a new live old none = absurd (cc)
askless_here p t (Request h s k) a new live old none = absurd (let z : is_some (row t s).home ≡ true = ap is_some a.3 in let w : true ≡ false = sym z ∙ none in cc)
askless_here p t (Enter h s) a new live old none = absurd (let z = live a.3 in let w : true ≡ false = sym z ∙ none in cc)
askless_here p t (Yield h s) a new live old none = old none
askless_here p t (Unregister h s) a new live old none = old none
askless_here p t (Skip h s) a new live old none = (ap (λ (r : Row). r.wishes) (new a.3), ap (λ (r : Row). r.asked) (new a.3))

pub legal_askless : (p : Plan) → IsPlan p → (es : List Entry) (t : TableState) → Reaches p es t → (s : ℕ) → IsSite p s → is_some (row t s).home ≡ false → ((row t s).wishes ≡ 0) × ((row t s).asked ≡ 0)
legal_askless p plan es t is = lasts p plan (λ _ u. (s : ℕ) → IsSite p s → is_some (row u s).home ≡ false → ((row u s).wishes ≡ 0) × ((row u s).asked ≡ 0))
    (λ s _ _. (ap (λ (r : Row). r.wishes) (first_blank p s), ap (λ (r : Row). r.asked) (first_blank p s)))
    (λ xs u e leads fits f a s site. at_site p u e s (λ x r. is_some r.home ≡ false → (r.wishes ≡ 0) × (r.asked ≡ 0)) fits a site
    (askless_here p u e a (legal_blank p plan xs u leads (site_of e) (allowed_site p u e a)) (λ l. ap is_some (legal_home p plan xs u leads (site_of e) (allowed_site p u e a) l).1) (f (site_of e) (allowed_site p u e a)))
    (λ _ _. f s site)
    (λ _ c _. let b = legal_blank p plan xs u leads s site (covered_new p plan xs u e leads a s site c) in (ap (λ (r : Row). r.wishes) b, ap (λ (r : Row). r.asked) b))) es t is

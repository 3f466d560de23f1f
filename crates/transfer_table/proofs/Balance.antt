-- The sums of a site's entries.
use Rattle.std.proofs.Common.{◌≡◌, ◌≢◌, ℕ, ◌+◌, ◌-◌, ◌≤◌, nat_le, Bool, true, false, not, ◌&&◌, Option, cond, ◌==◌, eq-eqb, ne_eqb, if◌then◌else◌, List, [], ◌∷◌, ◌++◌, refl, sym, ap, subst, ◌∙◌, arith}
use Rattle.std.specs.List.{All}
use Rattle.std.specs.Option.{is_some}
use Rattle.std.proofs.lemmas.List.Sums.{sum_by-append}
use Rattle.std.proofs.lemmas.List.Elements.{All-append, All-cons, All-nil}
use Rattle.transfer_table.specs.Plan.{Plan, IsPlan, IsHart, IsSite, is_within}
use Rattle.transfer_table.specs.Table.{TableState, effect_of, first_state, owner, row, blank, is_gone, swept_row}
use Rattle.transfer_table.specs.Journal.{Reaches, AllGone, AreMeant, is_meant, has_register}
use Rattle.transfer_table.specs.Entry.{site_of, count_of, is_register, is_enter, is_unregister, registers, enters, unregisters, covers, skips_over, requested}
use Rattle.transfer_table.specs.Allowed.{IsAllowed}
use Rattle.transfer_table.specs.Laws.{IsByHome, IsEntryOf, IsCounted, CameAndWent, WasSkipped}
use Rattle.transfer_table.specs.declared.entry.Row.{Row}
use Rattle.transfer_table.specs.declared.entry.Stage.{Stage}
use Rattle.transfer_table.specs.declared.entry.Stage.TheVariants.{New, Live}
use Rattle.transfer_table.specs.declared.entry.Entry.{Entry}
use Rattle.transfer_table.specs.declared.entry.Entry.TheVariants.{Register, Request, Enter, Yield, Unregister, Skip}
use Rattle.transfer_table.proofs.Positions.{Fits, lasts}
use Rattle.transfer_table.proofs.Effects.{at_site, row_after, allowed_site}
use Rattle.transfer_table.proofs.Stages.{first_blank, home_lasts, legal_blank, live_home, covered_new}
use Rattle.transfer_table.proofs.Within.{within-itself}

-- One more entry of the site adds what it counts.
pub registers-snoc : (s : ℕ) (es : List Entry) (e : Entry) → registers s (es ++ e ∷ []) ≡ registers s es + cond (if site_of e == s then is_register e else false) 1 0
registers-snoc s es e = let z = sum_by-append (λ x. cond (if site_of x == s then is_register x else false) 1 0) es (e ∷ []) in omega arith

pub enters-snoc : (s : ℕ) (es : List Entry) (e : Entry) → enters s (es ++ e ∷ []) ≡ enters s es + cond (if site_of e == s then is_enter e else false) 1 0
enters-snoc s es e = let z = sum_by-append (λ x. cond (if site_of x == s then is_enter x else false) 1 0) es (e ∷ []) in omega arith

pub unregisters-snoc : (s : ℕ) (es : List Entry) (e : Entry) → unregisters s (es ++ e ∷ []) ≡ unregisters s es + cond (if site_of e == s then is_unregister e else false) 1 0
unregisters-snoc s es e = let z = sum_by-append (λ x. cond (if site_of x == s then is_unregister x else false) 1 0) es (e ∷ []) in omega arith

pub requested-snoc : (s : ℕ) (es : List Entry) (e : Entry) → requested s (es ++ e ∷ []) ≡ requested s es + (if site_of e == s then count_of e else 0)
requested-snoc s es e = let z = sum_by-append (λ x. if site_of x == s then count_of x else 0) es (e ∷ []) in omega arith

-- An entry of another site adds nothing.
pub enters-other : (s : ℕ) (es : List Entry) (e : Entry) → s ≢ site_of e → enters s (es ++ e ∷ []) ≡ enters s es
enters-other s es e n = let z = enters-snoc s es e in let q : cond {A = ℕ} (if site_of e == s then is_enter e else false) 1 0 ≡ 0 = rw (ne_eqb (site_of e) s (λ y. n (sym y))) refl in omega arith

pub requested-other : (s : ℕ) (es : List Entry) (e : Entry) → s ≢ site_of e → requested s (es ++ e ∷ []) ≡ requested s es
requested-other s es e n = let z = requested-snoc s es e in let q : (if site_of e == s then count_of e else 0) ≡ 0 = rw (ne_eqb (site_of e) s (λ y. n (sym y))) refl in omega arith

pub registers-other : (s : ℕ) (es : List Entry) (e : Entry) → s ≢ site_of e → registers s (es ++ e ∷ []) ≡ registers s es
registers-other s es e n = let z = registers-snoc s es e in let q : cond {A = ℕ} (if site_of e == s then is_register e else false) 1 0 ≡ 0 = rw (ne_eqb (site_of e) s (λ y. n (sym y))) refl in omega arith

pub unregisters-other : (s : ℕ) (es : List Entry) (e : Entry) → s ≢ site_of e → unregisters s (es ++ e ∷ []) ≡ unregisters s es
unregisters-other s es e n = let z = unregisters-snoc s es e in let q : cond {A = ℕ} (if site_of e == s then is_unregister e else false) 1 0 ≡ 0 = rw (ne_eqb (site_of e) s (λ y. n (sym y))) refl in omega arith

-- An entry of the site adds what it counts.
pub enters-here : (es : List Entry) (e : Entry) → enters (site_of e) (es ++ e ∷ []) ≡ enters (site_of e) es + cond (is_enter e) 1 0
enters-here es e = enters-snoc (site_of e) es e ∙ rw (eq-eqb (site_of e) (site_of e) refl) refl

pub requested-here : (es : List Entry) (e : Entry) → requested (site_of e) (es ++ e ∷ []) ≡ requested (site_of e) es + count_of e
requested-here es e = requested-snoc (site_of e) es e ∙ rw (eq-eqb (site_of e) (site_of e) refl) refl

pub registers-here : (es : List Entry) (e : Entry) → registers (site_of e) (es ++ e ∷ []) ≡ registers (site_of e) es + cond (is_register e) 1 0
registers-here es e = registers-snoc (site_of e) es e ∙ rw (eq-eqb (site_of e) (site_of e) refl) refl

pub unregisters-here : (es : List Entry) (e : Entry) → unregisters (site_of e) (es ++ e ∷ []) ≡ unregisters (site_of e) es + cond (is_unregister e) 1 0
unregisters-here es e = unregisters-snoc (site_of e) es e ∙ rw (eq-eqb (site_of e) (site_of e) refl) refl

-- A site's row in terms of the entries of the site.
pub record IsBalanced (p : Plan) (es : List Entry) (s : ℕ) (r : Row) : Type 0 where
  pub wished : enters s es + r.wishes ≡ r.asked
  pub asked : r.asked ≡ requested s es
  pub few : r.asked ≤ p.harts - 1

balanced_here : (p : Plan) (t : TableState) (es : List Entry) (e : Entry) → IsAllowed p t e → ((row t (site_of e)).stage ≡ New → row t (site_of e) ≡ blank) → IsBalanced p es (site_of e) (row t (site_of e)) → IsBalanced p (es ++ e ∷ []) (site_of e) (row_after t e)
balanced_here p t es (Register h s) a new b = let n = enters-here es (Register h s) in let q = requested-here es (Register h s) in let z = ap (λ (r : Row). r.asked) (new a.3) in let w = b.wished in let k = b.asked in record { wished = omega arith; asked = omega arith; few = omega arith }
balanced_here p t es (Request h s k) a new b = let n = enters-here es (Request h s k) in let q = requested-here es (Request h s k) in let w = b.wished in let j = b.asked in let l = a.5 in record { wished = omega arith; asked = omega arith; few = omega arith }
balanced_here p t es (Enter h s) a new b = let n = enters-here es (Enter h s) in let q = requested-here es (Enter h s) in let w = b.wished in let j = b.asked in let l = a.4 in let f = b.few in record { wished = omega arith; asked = omega arith; few = omega arith }
balanced_here p t es (Yield h s) a new b = let n = enters-here es (Yield h s) in let q = requested-here es (Yield h s) in let w = b.wished in let j = b.asked in let f = b.few in record { wished = omega arith; asked = omega arith; few = omega arith }
balanced_here p t es (Unregister h s) a new b = let n = enters-here es (Unregister h s) in let q = requested-here es (Unregister h s) in let w = b.wished in let j = b.asked in let f = b.few in record { wished = omega arith; asked = omega arith; few = omega arith }
balanced_here p t es (Skip h s) a new b = let n = enters-here es (Skip h s) in let q = requested-here es (Skip h s) in let w = b.wished in let j = b.asked in let f = b.few in record { wished = omega arith; asked = omega arith; few = omega arith }

balanced_else : (p : Plan) (es : List Entry) (e : Entry) (s : ℕ) (r : Row) → s ≢ site_of e → IsBalanced p es s r → IsBalanced p (es ++ e ∷ []) s r
balanced_else p es e s r n b = record { wished = ap (λ (x : ℕ). x + r.wishes) (enters-other s es e n) ∙ b.wished; asked = b.asked ∙ sym (requested-other s es e n); few = b.few }

-- The requests of a site are its enters and its open wishes.
pub legal_balance : (p : Plan) → IsPlan p → (es : List Entry) (t : TableState) → Reaches p es t → (s : ℕ) → IsSite p s → IsBalanced p es s (row t s)
legal_balance p plan es t is = lasts p plan (λ xs u. (s : ℕ) → IsSite p s → IsBalanced p xs s (row u s))
    (λ s _. subst (IsBalanced p [] s) (sym (first_blank p s)) record { wished = refl; asked = refl; few = omega arith })
    (λ xs u e leads fits f a s site. at_site p u e s (λ x r. IsBalanced p (xs ++ e ∷ []) x r) fits a site
    (balanced_here p u xs e a (legal_blank p plan xs u leads (site_of e) (allowed_site p u e a)) (f (site_of e) (allowed_site p u e a)))
    (λ n _. balanced_else p xs e s (row u s) n (f s site))
    (λ n _. let b = balanced_else p xs e s (row u s) n (f s site) in record { wished = b.wished; asked = b.asked; few = b.few })) es t is

by_home_after : (p : Plan) → IsPlan p → (es : List Entry) (t : TableState) (e : Entry) → Reaches p es t → Fits p t → IsAllowed p t e → (x : Entry) → IsEntryOf p x → IsByHome t x → IsByHome (effect_of p t e) x
by_home_after p plan es t e leads fits a (Register h s) in_plan b = tt
by_home_after p plan es t e leads fits a (Request h s k) in_plan b = home_lasts p plan es t e leads fits a s h in_plan.1 b
by_home_after p plan es t e leads fits a (Enter h s) in_plan b = tt
by_home_after p plan es t e leads fits a (Yield h s) in_plan b = tt
by_home_after p plan es t e leads fits a (Unregister h s) in_plan b = tt
by_home_after p plan es t e leads fits a (Skip h s) in_plan b = tt

by_home_now : (p : Plan) (t : TableState) (e : Entry) → IsAllowed p t e → IsByHome t e
by_home_now p t (Register h s) a = tt
by_home_now p t (Request h s k) a = a.3
by_home_now p t (Enter h s) a = tt
by_home_now p t (Yield h s) a = tt
by_home_now p t (Unregister h s) a = tt
by_home_now p t (Skip h s) a = tt

in_plan_now : (p : Plan) (t : TableState) (e : Entry) → IsAllowed p t e → IsEntryOf p e
in_plan_now p t (Register h s) a = (a.0, a.1, omega arith)
in_plan_now p t (Request h s k) a = let z = a.5 in (a.0, a.1, omega arith)
in_plan_now p t (Enter h s) a = (a.0, a.1, omega arith)
in_plan_now p t (Yield h s) a = (a.0, a.1, omega arith)
in_plan_now p t (Unregister h s) a = (a.0, a.1, omega arith)
in_plan_now p t (Skip h s) a = (a.0, a.1, omega arith)

one : (P : Entry → Type 0) (e : Entry) → P e → All P (e ∷ [])
one P e x = All-cons P e [] x (All-nil P)

-- Each entry of a legal list is in the plan.
pub legal_entries : (p : Plan) → IsPlan p → (es : List Entry) (t : TableState) → Reaches p es t → All (IsEntryOf p) es
legal_entries p plan es t is = lasts p plan (λ xs _. All (IsEntryOf p) xs) (All-nil (IsEntryOf p)) (λ xs u e leads fits f a. All-append (IsEntryOf p) xs (e ∷ []) f (one (IsEntryOf p) e (in_plan_now p u e a))) es t is

-- Each request is by the site's home.
pub legal_by_home : (p : Plan) → IsPlan p → (es : List Entry) (t : TableState) → Reaches p es t → All (IsByHome t) es
legal_by_home p plan es t is = lasts p plan (λ xs u. All (IsByHome u) xs) (All-nil (IsByHome (first_state p)))
    (λ xs u e leads fits f a. let all = legal_entries p plan xs u leads in All-append (IsByHome (effect_of p u e)) xs (e ∷ [])
    (λ k d lt. by_home_after p plan xs u e leads fits a _ (all k d lt) (f k d lt))
    (one (IsByHome (effect_of p u e)) e (by_home_after p plan xs u e leads fits a e (in_plan_now p u e a) (by_home_now p u e a)))) es t is

-- One more entry skips a site iff it covers the site.
pub skips_over-snoc : (p : Plan) (s : ℕ) (es : List Entry) (e : Entry) → skips_over p s (es ++ e ∷ []) ≡ skips_over p s es + cond (covers p e s) 1 0
skips_over-snoc p s es e = let z = sum_by-append (λ x. cond {A = ℕ} (covers p x s) 1 0) es (e ∷ []) in omega arith

-- The numbers of registers, unregisters and skips of a site.
pub record AreCounted (p : Plan) (es : List Entry) (s : ℕ) (r : Row) : Type 0 where
  pub came : registers s es ≡ (if is_some r.home then 1 else 0)
  pub went : unregisters s es ≡ (if (is_gone r.stage && is_some r.home) then 1 else 0)
  pub skipped : skips_over p s es ≡ (if (is_gone r.stage && not (is_some r.home)) then 1 else 0)

-- A site with a blank row was never registered, unregistered or skipped.
of_blank : (p : Plan) (es : List Entry) (s : ℕ) (r : Row) → r ≡ blank → AreCounted p es s r → (registers s es ≡ 0) × (unregisters s es ≡ 0) × (skips_over p s es ≡ 0)
of_blank p es s r is b = (
  b.came ∙ ap (λ (x : Row). if is_some x.home then 1 else 0) is,
  b.went ∙ ap (λ (x : Row). if (is_gone x.stage && is_some x.home) then 1 else 0) is,
  b.skipped ∙ ap (λ (x : Row). if (is_gone x.stage && not (is_some x.home)) then 1 else 0) is,
)

counted_here : (p : Plan) (t : TableState) (es : List Entry) (e : Entry) → IsAllowed p t e → ((h s : ℕ) → IsHart p h → 1 ≤ s → owner t h ≡ s → (row t s).stage ≡ Live) → ((row t (site_of e)).stage ≡ New → row t (site_of e) ≡ blank) → AreCounted p es (site_of e) (row t (site_of e)) → AreCounted p (es ++ e ∷ []) (site_of e) (row_after t e)
counted_here p t es (Register h s) a live new b = let n = registers-here es (Register h s) in let q = unregisters-here es (Register h s) in let k = skips_over-snoc p s es (Register h s) in
    let z = of_blank p es s (row t s) (new a.3) b in let c = z.0 in let w = z.1 in let d = z.2 in record { came = omega arith; went = omega arith; skipped = omega arith }
counted_here p t es (Request h s m) a live new b = let n = registers-here es (Request h s m) in let q = unregisters-here es (Request h s m) in let k = skips_over-snoc p s es (Request h s m) in let c = b.came in let w = b.went in let d = b.skipped in record { came = omega arith; went = omega arith; skipped = omega arith }
counted_here p t es (Enter h s) a live new b = let n = registers-here es (Enter h s) in let q = unregisters-here es (Enter h s) in let k = skips_over-snoc p s es (Enter h s) in let c = b.came in let w = b.went in let d = b.skipped in record { came = omega arith; went = omega arith; skipped = omega arith }
counted_here p t es (Yield h s) a live new b = let n = registers-here es (Yield h s) in let q = unregisters-here es (Yield h s) in let k = skips_over-snoc p s es (Yield h s) in let c = b.came in let w = b.went in let d = b.skipped in record { came = omega arith; went = omega arith; skipped = omega arith }
counted_here p t es (Unregister h s) a live new b = let n = registers-here es (Unregister h s) in let q = unregisters-here es (Unregister h s) in let k = skips_over-snoc p s es (Unregister h s) in let l = live h s a.0 a.1.0 a.2 in
    let c : registers s es ≡ 1 = b.came ∙ ap (λ (o : Option ℕ). if is_some o then 1 else 0) a.3 in
    let w : unregisters s es ≡ 0 = b.went ∙ ap (λ (g : Stage). if (is_gone g && is_some (row t s).home) then 1 else 0) l in
    let d : skips_over p s es ≡ 0 = b.skipped ∙ ap (λ (g : Stage). if (is_gone g && not (is_some (row t s).home)) then 1 else 0) l in
    let home : is_some (row t s).home ≡ true = ap is_some a.3 in record {
      came = n ∙ ap (λ (x : ℕ). x + 0) c ∙ sym (ap (λ (x : Bool). if x then 1 else 0) home);
      went = q ∙ ap (λ (x : ℕ). x + 1) w ∙ sym (ap (λ (x : Bool). if x then 1 else 0) home);
      skipped = k ∙ ap (λ (x : ℕ). x + 0) d ∙ sym (ap (λ (x : Bool). if not x then 1 else 0) home);
    }
counted_here p t es (Skip h s) a live new b = let n = registers-here es (Skip h s) in let q = unregisters-here es (Skip h s) in let k = skips_over-snoc p s es (Skip h s) in
    let i : cond {A = ℕ} (is_within p s s) 1 0 ≡ 1 = ap (λ (x : Bool). cond {A = ℕ} x 1 0) (within-itself p s) in
    let z = of_blank p es s (row t s) (new a.3) b in let c = z.0 in let w = z.1 in let d = z.2 in record { came = omega arith; went = omega arith; skipped = omega arith }

counted_else : (p : Plan) (es : List Entry) (e : Entry) (s : ℕ) (r : Row) → s ≢ site_of e → covers p e s ≡ false → AreCounted p es s r → AreCounted p (es ++ e ∷ []) s r
counted_else p es e s r n c b = record {
  came = registers-other s es e n ∙ b.came;
  went = unregisters-other s es e n ∙ b.went;
  skipped = let k = skips_over-snoc p s es e in let i : cond {A = ℕ} (covers p e s) 1 0 ≡ 0 = ap (λ (x : Bool). cond {A = ℕ} x 1 0) c in let d = b.skipped in omega arith;
}

counted_swept : (p : Plan) (es : List Entry) (e : Entry) (s : ℕ) (r : Row) → s ≢ site_of e → covers p e s ≡ true → r ≡ blank → AreCounted p es s r → AreCounted p (es ++ e ∷ []) s (swept_row r)
counted_swept p es e s r n c new b = let z = of_blank p es s r new b in record {
  came = registers-other s es e n ∙ z.0;
  went = unregisters-other s es e n ∙ z.1;
  skipped = let k = skips_over-snoc p s es e in let i : cond {A = ℕ} (covers p e s) 1 0 ≡ 1 = ap (λ (x : Bool). cond {A = ℕ} x 1 0) c in let d = z.2 in omega arith;
}

legal_counts : (p : Plan) → IsPlan p → (es : List Entry) (t : TableState) → Reaches p es t → (s : ℕ) → IsSite p s → AreCounted p es s (row t s)
legal_counts p plan es t is = lasts p plan (λ xs u. (s : ℕ) → IsSite p s → AreCounted p xs s (row u s))
    (λ s _. subst (AreCounted p [] s) (sym (first_blank p s)) record { came = refl; went = refl; skipped = refl })
    (λ xs u e leads fits f a s site. at_site p u e s (λ x r. AreCounted p (xs ++ e ∷ []) x r) fits a site
    (counted_here p u xs e a (live_home p plan xs u leads) (legal_blank p plan xs u leads (site_of e) (allowed_site p u e a)) (f (site_of e) (allowed_site p u e a)))
    (λ n c. counted_else p xs e s (row u s) n c (f s site))
    (λ n c. counted_swept p xs e s (row u s) n c (legal_blank p plan xs u leads s site (covered_new p plan xs u e leads a s site c)) (f s site))) es t is

-- The row of a site determines how often the site was registered, unregistered and skipped.
pub rows_report : (p : Plan) → IsPlan p → (es : List Entry) (t : TableState) → Reaches p es t → (s : ℕ) → IsSite p s → IsCounted p es t s
rows_report p plan es t is s site = let c = legal_counts p plan es t is s site in record { came = c.came; went = c.went; skipped = c.skipped }

-- A site has a Register iff its row has a home.
pub registered-home : (p : Plan) → IsPlan p → (es : List Entry) (t : TableState) → Reaches p es t → (s : ℕ) → IsSite p s → has_register es s ≡ is_some (row t s).home
registered-home p plan es t is s site = split (is_some (row t s).home) ((rows_report p plan es t is s site).came)
  where
    split : (b : Bool) → registers s es ≡ (if b then 1 else 0) → has_register es s ≡ b
    split true e = ap (nat_le 1) e
    split false e = ap (nat_le 1) e

-- If each site is gone, each meant site was registered once and unregistered once.
pub complete_came : (p : Plan) → IsPlan p → (meant : List Bool) (es : List Entry) (t : TableState) → Reaches p es t → AllGone p t → AreMeant p meant es → (s : ℕ) → IsSite p s → is_meant meant s ≡ true → CameAndWent p es s
complete_came p plan meant es t is gone are s site m = let b = rows_report p plan es t is s site in
    let h : is_some (row t s).home ≡ true = sym (registered-home p plan es t is s site) ∙ (are s site ∙ m) in let g = gone s site in record {
      came = b.came ∙ ap (λ (x : Bool). if x then 1 else 0) h;
      went = b.went ∙ (ap (λ (x : Stage). if (is_gone x && is_some (row t s).home) then 1 else 0) g ∙ ap (λ (x : Bool). if x then 1 else 0) h);
      kept = b.skipped ∙ (ap (λ (x : Stage). if (is_gone x && not (is_some (row t s).home)) then 1 else 0) g ∙ ap (λ (x : Bool). if not x then 1 else 0) h);
    }

-- If each site is gone, each other site was skipped once.
pub complete_skipped : (p : Plan) → IsPlan p → (meant : List Bool) (es : List Entry) (t : TableState) → Reaches p es t → AllGone p t → AreMeant p meant es → (s : ℕ) → IsSite p s → is_meant meant s ≡ false → WasSkipped p es s
complete_skipped p plan meant es t is gone are s site m = let b = rows_report p plan es t is s site in
    let h : is_some (row t s).home ≡ false = sym (registered-home p plan es t is s site) ∙ (are s site ∙ m) in let g = gone s site in record {
      never_came = b.came ∙ ap (λ (x : Bool). if x then 1 else 0) h;
      never_went = b.went ∙ (ap (λ (x : Stage). if (is_gone x && is_some (row t s).home) then 1 else 0) g ∙ ap (λ (x : Bool). if x then 1 else 0) h);
      skipped = b.skipped ∙ (ap (λ (x : Stage). if (is_gone x && not (is_some (row t s).home)) then 1 else 0) g ∙ ap (λ (x : Bool). if not x then 1 else 0) h);
    }

-- No site has more wishes than it requested, and none requested more than all harts but one.
pub legal_wishes : (p : Plan) → IsPlan p → (es : List Entry) (t : TableState) → Reaches p es t → (s : ℕ) → IsSite p s → ((row t s).wishes ≤ (row t s).asked) × ((row t s).asked ≤ p.harts - 1)
legal_wishes p plan es t is s site = let b = legal_balance p plan es t is s site in let w = b.wished in let f = b.few in (omega arith, omega arith)

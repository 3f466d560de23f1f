-- The sites whose home is a hart, as a set, and how each entry changes the set.
use Rattle.std.proofs.Common.{◌≡◌, ℕ, zero, suc, ◌+◌, ◌-◌, ◌<◌, ◌≤◌, Bool, true, false, if◌then◌else◌, List, [], ◌∷◌, length, map, replicate, get_or, set, refl, sym, ap, subst, ◌∙◌, arith, slice_set, eq-eqb}
use Rattle.std.proofs.lemmas.List.{map-set, length-map}
use Rattle.std.proofs.Math.Seq.{map-set_same}
use Rattle.std.proofs.Math.ListN.{get_or-map}
use Rattle.transfer_table.specs.Plan.{Plan, IsPlan, IsSite, is_within, site_count}
use Rattle.transfer_table.specs.Table.{TableState, effect_of, first_state, blank, lives_with, swept, swept_row}
use Rattle.transfer_table.specs.Journal.{Reaches}
use Rattle.transfer_table.specs.Allowed.{IsAllowed}
use Rattle.transfer_table.specs.declared.entry.Entry.{Entry}
use Rattle.transfer_table.proofs.Positions.{legal_position}
use Rattle.transfer_table.proofs.Stages.{legal_blank, covered_new}
use Rattle.transfer_table.specs.declared.entry.Row.{Row}
use Rattle.transfer_table.specs.declared.entry.Entry.TheVariants.{Register, Request, Unregister, Skip}
use Rattle.hart_port.specs.PortView.{is_in, with_site, without, is_home_of, homes_of}

pub length-homes_of : (t : TableState) (h : ℕ) → length (homes_of t h) ≡ length t.rows + 1
length-homes_of t h = let e = length-map t.rows (is_home_of h) in omega arith

at_row : (rows : List Row) (h i : ℕ) → get_or (map (is_home_of h) rows) i false ≡ is_home_of h (get_or rows i blank)
at_row rows h i = get_or-map (is_home_of h) rows i blank

pub is_in-homes_of : (t : TableState) (h s : ℕ) → 1 ≤ s → is_in (homes_of t h) s ≡ lives_with t s h
is_in-homes_of t h zero low = absurd (omega arith)
is_in-homes_of t h (suc i) low = let same : suc i - 1 ≡ i = omega arith in let P : ℕ → Type 0 = λ j. get_or (map (is_home_of h) t.rows) i false ≡ is_home_of h (get_or t.rows j blank) in subst P (sym same) (at_row t.rows h i)

set_tail : (xs : List Bool) (s : ℕ) (b : Bool) → 1 ≤ s → slice_set (false ∷ xs) s b ≡ false ∷ set xs (s - 1) b
set_tail xs zero b low = absurd (omega arith)
set_tail xs (suc i) b low = let same : suc i - 1 ≡ i = omega arith in let P : ℕ → Type 0 = λ j. false ∷ set xs i b ≡ false ∷ set xs j b in subst P (sym same) refl

-- The set of homes, if the site's row is this one.
set_row : (rows : List Row) (h s : ℕ) (r : Row) (b : Bool) → 1 ≤ s → is_home_of h r ≡ b → false ∷ map (is_home_of h) (set rows (s - 1) r) ≡ slice_set (false ∷ map (is_home_of h) rows) s b
set_row rows h s r b low is = ap (λ (l : List Bool). false ∷ l) (map-set (is_home_of h) rows (s - 1) r ∙ ap (set (map (is_home_of h) rows) (s - 1)) is) ∙ sym (set_tail (map (is_home_of h) rows) s b low)

pub homes_of-register : (p : Plan) (t : TableState) (h s : ℕ) → 1 ≤ s → homes_of (effect_of p t (Register h s)) h ≡ with_site (homes_of t h) s
homes_of-register p t h s low = set_row t.rows h s _ true low (eq-eqb h h refl)

pub homes_of-request : (p : Plan) (t : TableState) (h s k : ℕ) → homes_of (effect_of p t (Request h s k)) h ≡ homes_of t h
homes_of-request p t h s k = ap (λ (l : List Bool). false ∷ l) (map-set_same (is_home_of h) t.rows (s - 1) _ blank refl)

pub homes_of-unregister : (p : Plan) (t : TableState) (h s : ℕ) → 1 ≤ s → homes_of (effect_of p t (Unregister h s)) h ≡ without (homes_of t h) s
homes_of-unregister p t h s low = set_row t.rows h s _ false low refl

-- Skipped sites are no hart's home, before the skip and after.
swept_homes : (p : Plan) (s h : ℕ) (rows : List Row) (k : ℕ) → ((i : ℕ) → i < length rows → is_within p s (k + i) ≡ true → get_or rows i blank ≡ blank) → map (is_home_of h) (swept p s rows k) ≡ map (is_home_of h) rows
swept_homes p s h [] k f = refl
swept_homes p s h (r ∷ rows) k f = split (is_within p s k) refl (swept_homes p s h rows (k + 1) (λ i lt w. let e : k + suc i ≡ k + 1 + i = omega arith in f (suc i) (omega arith) (ap (is_within p s) e ∙ w)))
  where
    split : (b : Bool) → is_within p s k ≡ b → map (is_home_of h) (swept p s rows (k + 1)) ≡ map (is_home_of h) rows → is_home_of h (if b then swept_row r else r) ∷ map (is_home_of h) (swept p s rows (k + 1)) ≡ is_home_of h r ∷ map (is_home_of h) rows
    split true w more = let e : k + 0 ≡ k = omega arith in let z : r ≡ blank = f 0 (omega arith) (ap (is_within p s) e ∙ w) in let b : false ≡ is_home_of h r = sym (ap (is_home_of h) z) in λ i. b i ∷ more i
    split false w more = ap (λ (l : List Bool). is_home_of h r ∷ l) more

pub homes_of-skip : (p : Plan) → IsPlan p → (es : List Entry) (t : TableState) → Reaches p es t → (g h s : ℕ) → IsAllowed p t (Skip g s) → homes_of (effect_of p t (Skip g s)) h ≡ homes_of t h
homes_of-skip p plan es t leads g h s a = let fits = legal_position p plan es t leads in ap (λ (l : List Bool). false ∷ l) (swept_homes p s h t.rows 1 (λ i lt w.
    let z = fits.rows in let site : IsSite p (1 + i) = (omega arith, omega arith) in let e : 1 + i - 1 ≡ i = omega arith in
    ap (λ (j : ℕ). get_or t.rows j blank) (sym e) ∙ legal_blank p plan es t leads (1 + i) site (covered_new p plan es t (Skip g s) leads a (1 + i) site w)))

blanks : (n h : ℕ) → map (is_home_of h) (replicate n blank) ≡ replicate n false
blanks zero h = refl
blanks (suc n) h = ap (λ (l : List Bool). false ∷ l) (blanks n h)

pub homes_of-first : (p : Plan) (h : ℕ) → homes_of (first_state p) h ≡ replicate (site_count p + 1) false
homes_of-first p h = let P : ℕ → Type 0 = λ n. false ∷ map (is_home_of h) (replicate (site_count p) blank) ≡ replicate n false in
    let same : suc (site_count p) ≡ site_count p + 1 = omega arith in subst P same (ap (λ (l : List Bool). false ∷ l) (blanks (site_count p) h))

-- Which sites one more entry touches.
use Rattle.std.proofs.Common.{◌≡◌, ◌≢◌, ℕ, zero, suc, ◌+◌, ◌<◌, ◌≤◌, ◌⊎◌, inl, inr, ⊎_elim, Bool, true, false, cond, ◌&&◌, List, [], ◌∷◌, ◌++◌, refl, sym, ap, subst, ◌∙◌, arith}
use Rattle.std.proofs.lemmas.List.Sums.{sum_by-append}
use Rattle.transfer_table.specs.Plan.{Plan, IsPlan, IsSite, parent, is_within}
use Rattle.transfer_table.specs.Entry.{site_of, is_skip, covers, skips_over}
use Rattle.transfer_table.specs.declared.entry.Entry.{Entry}
use Rattle.transfer_table.proofs.Balance.{unregisters-snoc, registers-other, unregisters-other}
use Rattle.transfer_table.proofs.Within.{within-high, within-step, within_all}
use Rattle.transfer_table.specs.Accounts.{HasGrown, IsUntouched, KeepsOutside, IsSpan}
use Rattle.transfer_table.specs.AccountLaws.{EntriesTouchLittle, SpansAreSkippedByTheirTops}
use Rattle.transfer_table.proofs.Algebra.{skipped_are_over}

skips_over-snoc : (p : Plan) (x : ℕ) (es : List Entry) (e : Entry) → skips_over p x (es ++ e ∷ []) ≡ skips_over p x es + cond (covers p e x) 1 0
skips_over-snoc p x es e = let z = sum_by-append (λ y. cond {A = ℕ} (covers p y x) 1 0) es (e ∷ []) in omega (arith, z)

skips_over-cons : (p : Plan) (x : ℕ) (es : List Entry) (e : Entry) → skips_over p x (e ∷ es) ≡ cond (covers p e x) 1 0 + skips_over p x es
skips_over-cons p x es e = let z = sum_by-append (λ y. cond {A = ℕ} (covers p y x) 1 0) (e ∷ []) es in omega (arith, z)

grows : (p : Plan) (es : List Entry) (e : Entry) → HasGrown p es (es ++ e ∷ [])
grows p es e = record {
  went = λ x. let z = unregisters-snoc x es e in omega (arith, z);
  skipped = λ x. let z = skips_over-snoc p x es e in omega (arith, z);
}

-- An entry that doesn't cover a site other than its own leaves it untouched.
uncovered : (p : Plan) (es : List Entry) (e : Entry) (x : ℕ) → x ≢ site_of e → covers p e x ≡ false → IsUntouched p es (es ++ e ∷ []) x
uncovered p es e x other none = record {
  came = registers-other x es e other;
  went = unregisters-other x es e other;
  skipped = let z = skips_over-snoc p x es e in let q : cond {A = ℕ} (covers p e x) 1 0 ≡ 0 = ap (λ (b : Bool). cond {A = ℕ} b 1 0) none in omega (arith, z, q);
}

-- An entry that skips nothing covers no site.
covers_none : (p : Plan) (e : Entry) (x : ℕ) → is_skip e ≡ false → covers p e x ≡ false
covers_none p e x none = ap (λ (b : Bool). b && is_within p (site_of e) x) none

own_alone : (p : Plan) (es : List Entry) (e : Entry) → is_skip e ≡ false → KeepsOutside p es (es ++ e ∷ []) (site_of e) 1
own_alone p es e none x site outside =
    uncovered p es e x (λ same. ⊎_elim (λ l. omega (arith, same, l)) (λ r. omega (arith, same, r)) outside) (covers_none p e x none)

-- A site within a site of a span lies in the span.
within_span : (p : Plan) → IsPlan p → (around s n c x : ℕ) → IsSpan p around s n → s ≤ c → c < s + n → IsSite p x → is_within p c x ≡ true → (s ≤ x) × (x < s + n)
within_span p plan around s n c x span low high site w =
    within_all p plan c (λ y. (s ≤ y) × (y < s + n)) (low, high)
    (λ y y_site y_within up. let above = within-high p c (parent p y) y_within in let less = plan.below y y_site.0 y_site.1 in
    (omega (arith, above, less, low), ⊎_elim (λ l. l) (λ far. absurd (⊎_elim (λ a. let u = up.0 in omega (arith, above, a, low)) (λ b. let u = up.1 in omega (arith, b, u)) (span.behind y y_site far))) (sides y (s + n))))
    x x (omega arith) site.1 w
  where
    sides : (a b : ℕ) → (a < b) ⊎ (b ≤ a)
    sides a zero = inr (omega arith)
    sides zero (suc b) = inl (omega arith)
    sides (suc a) (suc b) = ⊎_elim (λ l. inl (omega (arith, l))) (λ r. inr (omega (arith, r))) (sides a b)

span_alone : (p : Plan) → IsPlan p → (es : List Entry) (e : Entry) (around s n : ℕ) → IsSpan p around s n → s ≤ site_of e → site_of e < s + n → KeepsOutside p es (es ++ e ∷ []) s n
span_alone p plan es e around s n span low high x site outside =
    uncovered p es e x (λ same. out (subst (λ y. (s ≤ y) × (y < s + n)) (sym same) (low, high)))
    (no (covers p e x) refl)
  where
    out : (s ≤ x) × (x < s + n) → ⊥
    out both = ⊎_elim (λ l. let b = both.0 in omega (arith, l, b)) (λ r. let b = both.1 in omega (arith, r, b)) outside

    second : (a b : Bool) → (a && b) ≡ true → b ≡ true
    second true b e = e
    second false b e = absurd (cc)

    no : (b : Bool) → covers p e x ≡ b → covers p e x ≡ false
    no true c = absurd (out (within_span p plan around s n (site_of e) x span low high site (second (is_skip e) (is_within p (site_of e) x) c)))
    no false c = c

pub entries_touch_little : EntriesTouchLittle
entries_touch_little p es e plan = record {
  grown = grows p es e;
  own = own_alone p es e;
  span = λ around s n span low high. span_alone p plan es e around s n span low high;
}

-- ---- spans that are skipped

-- An entry that covers a parent covers its child.
covers_down : (p : Plan) → IsPlan p → (e : Entry) (x : ℕ) → IsSite p x → covers p e (parent p x) ≡ true → covers p e x ≡ true
covers_down p plan e x site c = split (is_skip e) refl c
  where
    split : (b : Bool) → is_skip e ≡ b → (b && is_within p (site_of e) (parent p x)) ≡ true → covers p e x ≡ true
    split false f g = absurd (cc)
    split true f g =
        let low = within-high p (site_of e) (parent p x) g in
        let up = plan.below x site.0 site.1 in
        let w : is_within p (site_of e) x ≡ true = within-step p plan (site_of e) x (omega (arith, low, up)) site.1 ∙ g in
        ap (λ (b : Bool). b && is_within p (site_of e) x) f ∙ w

-- A site is skipped at least as often as its parent.
skips_down : (p : Plan) → IsPlan p → (x : ℕ) → IsSite p x → (es : List Entry) → skips_over p (parent p x) es ≤ skips_over p x es
skips_down p plan x site [] = omega arith
skips_down p plan x site (e ∷ es) = split (covers p e (parent p x)) (covers p e x) refl refl (skips_down p plan x site es)
  where
    split : (a b : Bool) → covers p e (parent p x) ≡ a → covers p e x ≡ b → skips_over p (parent p x) es ≤ skips_over p x es
        → skips_over p (parent p x) (e ∷ es) ≤ skips_over p x (e ∷ es)
    split a b f g le = let y = skips_over-cons p (parent p x) es e in let z = skips_over-cons p x es e in let w = sides a b f g le in
        let q : cond {A = ℕ} (covers p e (parent p x)) 1 0 ≡ cond {A = ℕ} a 1 0 = ap (λ (c : Bool). cond {A = ℕ} c 1 0) f in
        let r : cond {A = ℕ} (covers p e x) 1 0 ≡ cond {A = ℕ} b 1 0 = ap (λ (c : Bool). cond {A = ℕ} c 1 0) g in omega (arith, y, z, w, q, r)
      where
        sides : (a b : Bool) → covers p e (parent p x) ≡ a → covers p e x ≡ b → skips_over p (parent p x) es ≤ skips_over p x es
            → cond {A = ℕ} a 1 0 + skips_over p (parent p x) es ≤ cond {A = ℕ} b 1 0 + skips_over p x es
        sides true true f g le = omega (arith, le)
        sides true false f g le = absurd (let t = covers_down p plan e x site f in let w : true ≡ false = sym t ∙ g in cc)
        sides false true f g le = omega (arith, le)
        sides false false f g le = omega (arith, le)

-- If the topmost sites of a span were skipped, each site of the span was.
all_skipped : (p : Plan) → IsPlan p → (es : List Entry) (around s n : ℕ) → IsSpan p around s n
    → ((x : ℕ) → s ≤ x → x < s + n → parent p x ≡ around → 1 ≤ skips_over p x es)
    → (k x : ℕ) → x ≤ k → s ≤ x → x < s + n → 1 ≤ skips_over p x es
all_skipped p plan es around s n span tops zero x few low high =
    let there = span.inside x low high in
    absurd (let one = there.0.0 in omega (arith, one, few))
all_skipped p plan es around s n span tops (suc k) x few low high =
    let there = span.inside x low high in
    let up = plan.below x there.0.0 there.0.1 in
    ⊎_elim (λ top. tops x low high top)
    (λ inner. let above = all_skipped p plan es around s n span tops k (parent p x) (omega (arith, up, few)) inner (omega (arith, up, high)) in
    let more = skips_down p plan x there.0 es in omega (arith, above, more)) there.1

pub spans_are_skipped_by_their_tops : SpansAreSkippedByTheirTops
spans_are_skipped_by_their_tops p es around s n plan span tops =
    (skipped_are_over p es s n).0 (λ x low high. all_skipped p plan es around s n span tops x x (omega arith) low high)

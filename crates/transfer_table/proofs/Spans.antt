-- What skips of the sites of a span change.
use Rattle.std.proofs.Common.{◌≡◌, ℕ, zero, suc, ◌+◌, ◌<◌, ◌≤◌, Bool, true, false, cond, ◌==◌, if◌then◌else◌, List, [], ◌∷◌, ◌++◌, All, refl, sym, ap, subst, ◌∙◌, arith, append-nil, append_assoc}
use Rattle.std.proofs.lemmas.List.Sums.{sum_by-append}
use Rattle.std.proofs.lemmas.List.Elements.{All-head, All-tail}
use Rattle.transfer_table.specs.Plan.{Plan, IsPlan}
use Rattle.transfer_table.specs.Entry.{site_of, is_skip, is_register, registers}
use Rattle.transfer_table.specs.declared.entry.Entry.{Entry}
use Rattle.transfer_table.specs.declared.entry.Entry.TheVariants.{Register, Request, Enter, Yield, Unregister, Skip}
use Rattle.transfer_table.specs.Accounts.{HasGrown, KeepsOutside, IsSpan}
use Rattle.transfer_table.specs.AccountLaws.{FreshSpansAreSkipped}
use Rattle.transfer_table.proofs.Algebra.{kept_joins}
use Rattle.transfer_table.proofs.Touches.{entries_touch_little, spans_are_skipped_by_their_tops}

abbrev IsSkipIn : ℕ → ℕ → Entry → Type 0
IsSkipIn s n e = (is_skip e ≡ true) × (s ≤ site_of e) × (site_of e < s + n)

-- A skip isn't a register.
skip_registers_none : (e : Entry) → is_skip e ≡ true → is_register e ≡ false
skip_registers_none (Register h s) is = absurd (cc)
skip_registers_none (Request h s k) is = refl
skip_registers_none (Enter h s) is = refl
skip_registers_none (Yield h s) is = refl
skip_registers_none (Unregister h s) is = refl
skip_registers_none (Skip h s) is = refl

came_none : (s n x : ℕ) (made : List Entry) → All (IsSkipIn s n) made → registers x made ≡ 0
came_none s n x [] all = refl
came_none s n x (e ∷ made) all =
    let z = sum_by-append (λ y. cond {A = ℕ} (if site_of y == x then is_register y else false) 1 0) (e ∷ []) made in
    let more = came_none s n x made (All-tail (IsSkipIn s n) e made all) in
    let plain = skip_registers_none e (All-head (IsSkipIn s n) e made all).0 in
    let here : cond {A = ℕ} (if site_of e == x then is_register e else false) 1 0 ≡ 0 = ap (λ (b : Bool). cond {A = ℕ} (if site_of e == x then b else false) 1 0) plain ∙ neither (site_of e == x) in
    omega (arith, z, more, here)
  where
    neither : (b : Bool) → cond {A = ℕ} (if b then false else false) 1 0 ≡ 0
    neither true = refl
    neither false = refl

came_same : (s n x : ℕ) (before made : List Entry) → All (IsSkipIn s n) made → registers x (before ++ made) ≡ registers x before
came_same s n x before made all =
    let z = sum_by-append (λ y. cond {A = ℕ} (if site_of y == x then is_register y else false) 1 0) before made in
    let none = came_none s n x made all in omega (arith, z, none)

grown_then : (p : Plan) (a b c : List Entry) → HasGrown p a b → HasGrown p b c → HasGrown p a c
grown_then p a b c one two = record {
  went = λ x. let l = one.went x in let r = two.went x in omega (arith, l, r);
  skipped = λ x. let l = one.skipped x in let r = two.skipped x in omega (arith, l, r);
}

module _ (p : Plan) (plan : IsPlan p) (around s n : ℕ) (span : IsSpan p around s n) where
  -- A sequence of skips in a span changes only the span.
  skips_little : (before made : List Entry) → All (IsSkipIn s n) made → HasGrown p before (before ++ made) × KeepsOutside p before (before ++ made) s n
  skips_little before [] all = subst (λ es. HasGrown p before es × KeepsOutside p before es s n) (sym (append-nil before))
      (record { went = λ x. omega arith; skipped = λ x. omega arith }, λ x site out. record { came = refl; went = refl; skipped = refl })
  skips_little before (e ∷ made) all =
      let is = All-head (IsSkipIn s n) e made all in
      let first = entries_touch_little p before e plan in
      let rest = skips_little (before ++ e ∷ []) made (All-tail (IsSkipIn s n) e made all) in
      let outside = first.span around s n span is.1 is.2 in
      let le : s ≤ s = omega arith in
      let end : s + n ≤ s + n = omega arith in
      subst (λ es. HasGrown p before es × KeepsOutside p before es s n) (append_assoc before (e ∷ []) made) (
        grown_then p before (before ++ e ∷ []) ((before ++ e ∷ []) ++ made) first.grown rest.0,
        kept_joins p before (before ++ e ∷ []) ((before ++ e ∷ []) ++ made) s n s n s n outside rest.1 le end le end,
      )

pub fresh_spans_are_skipped : FreshSpansAreSkipped
fresh_spans_are_skipped p before made around s n plan span fresh all claimed =
    let little = skips_little p plan around s n span before made all in
    record {
      over = spans_are_skipped_by_their_tops p (before ++ made) around s n plan span
          (λ x low high top. let site = (span.inside x low high).0 in
          let some = claimed x low high site top in
          let never = (fresh x site low high).unregistered in
          let same = came_same s n x before made all in omega (arith, some, never, same));
      grown = little.0;
      outside = little.1;
    }

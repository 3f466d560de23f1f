-- Merging a piece has the same effect as its writes.
use Rattle.std.proofs.Common.{◌≡◌, ◌≢◌, ℕ, ◌<◌, Bool, true, false, cond, List, [], ◌∷◌, length, Option, Some, None, ℤ, refl, sym, ap, ◌∙◌, set, get_or, arith, length-set, get_or-set_same, get_or-set_other}
use Rattle.std.specs.Prelude.{nat_eq}
use Rattle.std.proofs.lemmas.Bool.Decides.{nat_tests}
use Rattle.std.proofs.lemmas.List.{same_lists}
use Rattle.array_meaning.specs.Stores.{Arrays, Store, Write, after}
use Rattle.array_meaning.specs.Steps.{Steps, followed_by, writes_of}
use Rattle.std.specs.Option.{option_or}
use Rattle.array_meaning.specs.Pieces.{lays, last_writes, piece_of, value_at, last_value, IsRising}
use Rattle.array_meaning.proofs.StepLemmas.{length_after, writes_followed_by}
use Rattle.array_meaning.proofs.LastLemmas.{value_at_lays, last_value_last, same_rising, rising_lays, lays_append}

-- A piece laid over writes has the same effect as the piece's own writes.
pub lays_last : (ws w : List Write) → IsRising w → lays (last_writes ws) w ≡ lays ws w
lays_last ws w q = same_rising (lays (last_writes ws) w) (lays ws w) (rising_lays (last_writes ws) w q) (rising_lays ws w q)
    (λ k. value_at_lays (last_writes ws) w k ∙ ap (λ x. option_or x (value_at w k)) (last_value_last ws k) ∙ sym (value_at_lays ws w k))

abbrev or_kept : Option ℤ → ℤ → ℤ
or_kept None y = y
or_kept (Some x) y = x

at_set : (s : Store) (c k : ℕ) (v d : ℤ) → k < length s → get_or (set s c v) k d ≡ or_kept (cond (nat_eq c k) (Some v) None) (get_or s k d)
at_set s c k v d h = cases (nat_eq c k) refl
  where
    cases : (b : Bool) → nat_eq c k ≡ b → get_or (set s c v) k d ≡ or_kept (cond b (Some v) None) (get_or s k d)
    cases true e = let same : c ≡ k = grind (arith, nat_tests) in let lt : c < length s = omega arith in ap (λ i. get_or (set s c v) i d) (sym same) ∙ get_or-set_same s c v d lt
    cases false e = let ne : k ≢ c = grind (arith, nat_tests) in get_or-set_other s c k v d ne

at_after : (ws : List Write) (s : Store) (k : ℕ) (d : ℤ) → k < length s → get_or (after ws s) k d ≡ or_kept (last_value ws k) (get_or s k d)
at_after [] s k d h = refl
at_after (w ∷ ws) s k d h =
    at_after ws (set s w.0 w.1) k d (let e = length-set s w.0 w.1 in omega (arith, e))
    ∙ ap (or_kept (last_value ws k)) (at_set s w.0 k w.1 d h)
    ∙ both (last_value ws k) (cond (nat_eq w.0 k) (Some w.1) None) (get_or s k d)
  where
    both : (x y : Option ℤ) (z : ℤ) → or_kept x (or_kept y z) ≡ or_kept (option_or x y) z
    both None y z = refl
    both (Some x) y z = refl

-- The store after a piece is the store after its writes.
pub after_last : (ws : List Write) (s : Store) → after (last_writes ws) s ≡ after ws s
after_last ws s = same_lists (after (last_writes ws) s) (after ws s) (length_after (last_writes ws) s ∙ sym (length_after ws s))
    (λ k d h. let lt : k < length s = (let e = length_after (last_writes ws) s in omega (arith, e)) in
    at_after (last_writes ws) s k d lt ∙ ap (λ x. or_kept x (get_or s k d)) (last_value_last ws k) ∙ sym (at_after ws s k d lt))

-- A machine that is supplied with the piece of the construct it waits for continues with the rest.
pub supplied : (arrays : Arrays) (construct rest : Steps) (cells : Store) (w : List Write) → IsRising w →
    lays (writes_of arrays rest (after (piece_of arrays construct cells) cells)) (lays (piece_of arrays construct cells) w)
    ≡ lays (writes_of arrays (followed_by construct rest) cells) w
supplied arrays construct rest cells w q =
    let ws = writes_of arrays construct cells in
    ap (λ s. lays (writes_of arrays rest s) (lays (last_writes ws) w)) (after_last ws cells)
    ∙ ap (lays (writes_of arrays rest (after ws cells))) (lays_last ws w q)
    ∙ sym (lays_append ws (writes_of arrays rest (after ws cells)) w)
    ∙ ap (λ x. lays x w) (sym (writes_followed_by arrays construct rest cells))

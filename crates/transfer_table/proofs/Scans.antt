-- One step of each scan, and what follows if a scan finds nothing.
use Rattle.std.proofs.Common.{sym, Some, Bool, true, if◌then◌else◌, ◌≡◌, ◌≢◌, ℕ, zero, suc, ◌+◌, ◌<◌, false, not, eqb, nat_le, ◌&&◌, eq-eqb, ne_eqb, List, [], ◌∷◌, length, drop, get_or, refl, ◌∙◌, add-one, arith, slice_index, slice_index_or, None}
use mathlib.Core.Logic.{dite}
use native.Mathlib.Decide.{ℕ_discrete}
use Rattle.transfer_table.specs.declared.entry.Row.{Row}
use Rattle.transfer_table.specs.Plan.{bad_parent}
use Rattle.transfer_table.specs.Table.{least_left, other_inside, is_gone}

skip_parent : (qs : List ℕ) (k i : ℕ) → i < length qs → nat_le k (get_or qs i 0) ≡ false → bad_parent (drop i qs) k ≡ bad_parent (drop (suc i) qs) (k + 1)
skip_parent [] k i a h = absurd (omega arith)
skip_parent (q ∷ qs) k zero a h = rw h refl
skip_parent (q ∷ qs) k (suc i) a h = skip_parent qs k i (omega arith) h

-- The parent at index i is smaller than its site.
pub next_parent : (qs : List ℕ) (k i : ℕ) → i < length qs → nat_le k (get_or qs i 0) ≡ false → bad_parent (drop i qs) k ≡ bad_parent (drop (i + 1) qs) (k + 1)
next_parent qs k i a h = rw (add-one i) (skip_parent qs k i a h)

skip_child : (ps : List ℕ) (rs : List Row) (s k i : ℕ) (d : Row) → i < length ps → i < length rs → (eqb (get_or ps i 0) s && not (is_gone (get_or rs i d).stage)) ≡ false
    → least_left (drop i ps) (drop i rs) s k ≡ least_left (drop (suc i) ps) (drop (suc i) rs) s (k + 1)
skip_child [] rs s k i d a b h = absurd (omega arith)
skip_child (p ∷ ps) [] s k i d a b h = absurd (omega arith)
skip_child (p ∷ ps) (r ∷ rs) s k zero d a b h = rw h refl
skip_child (p ∷ ps) (r ∷ rs) s k (suc i) d a b h = skip_child ps rs s k i d (omega arith) (omega arith) h

skip_other : (os : List ℕ) (h s k i : ℕ) → i < length os → (not (eqb k h) && eqb (get_or os i 0) s) ≡ false → other_inside (drop i os) h s k ≡ other_inside (drop (suc i) os) h s (k + 1)
skip_other [] h s k i a f = absurd (omega arith)
skip_other (o ∷ os) h s k zero a f = rw f refl
skip_other (o ∷ os) h s k (suc i) a f = skip_other os h s k i (omega arith) f

-- The site at index i isn't a child that is left.
pub next_child : (ps : List ℕ) (rs : List Row) (s k i : ℕ) (d : Row) → i < length ps → i < length rs → (eqb (get_or ps i 0) s && not (is_gone (get_or rs i d).stage)) ≡ false
    → least_left (drop i ps) (drop i rs) s k ≡ least_left (drop (i + 1) ps) (drop (i + 1) rs) s (k + 1)
next_child ps rs s k i d a b h = rw (add-one i) (skip_child ps rs s k i d a b h)

-- The hart at index i is the hart itself, or isn't inside.
pub next_other : (os : List ℕ) (h s k i : ℕ) → i < length os → (not (eqb k h) && eqb (get_or os i 0) s) ≡ false → other_inside (drop i os) h s k ≡ other_inside (drop (i + 1) os) h s (k + 1)
next_other os h s k i a f = rw (add-one i) (skip_other os h s k i a f)

child_head : (p : ℕ) (ps : List ℕ) (r : Row) (rs : List Row) (s k : ℕ) → (p ≡ s → is_gone r.stage ≡ true) → least_left (p ∷ ps) (r ∷ rs) s k ≡ least_left ps rs s (k + 1)
child_head p ps r rs s k h = dite (ℕ_discrete p s)
    (λ e. rw (eq-eqb p s e, h e) refl)
    (λ n. rw (ne_eqb p s n) refl)

other_head : (o : ℕ) (os : List ℕ) (h s k : ℕ) → (o ≡ s → k ≡ h) → other_inside (o ∷ os) h s k ≡ other_inside os h s (k + 1)
other_head o os h s k f = dite (ℕ_discrete o s)
    (λ e. rw (eq-eqb k h (f e)) refl)
    (λ n. dite (ℕ_discrete k h) (λ e. rw (eq-eqb k h e) refl) (λ m. rw (ne_eqb k h m, ne_eqb o s n) refl))

-- If no other hart's owner is the site, the scan finds none.
pub no_other : (os : List ℕ) (h s k : ℕ) → ((g : ℕ) → g < length os → k + g ≢ h → slice_index os g ≢ s) → other_inside os h s k ≡ None
no_other [] h s k f = refl
no_other (o ∷ os) h s k f = other_head o os h s k (λ e. dite (ℕ_discrete k h) (λ y. y) (λ n. absurd (f 0 (omega arith) (λ y. n (omega arith)) e)))
    ∙ no_other os h s (k + 1) (λ g l n. f (suc g) (omega arith) (λ y. n (omega arith)))

-- If each child is gone, the scan finds none.
pub no_child : (ps : List ℕ) (rs : List Row) (s k : ℕ) (d : Row) → length rs ≡ length ps → ((i : ℕ) → i < length ps → slice_index ps i ≡ s → is_gone (slice_index_or rs i d).stage ≡ true) → least_left ps rs s k ≡ None
no_child [] rs s k d l f = refl
no_child (p ∷ ps) [] s k d l f = absurd (omega arith)
no_child (p ∷ ps) (r ∷ rs) s k d l f = child_head p ps r rs s k (f 0 (omega arith)) ∙ no_child ps rs s (k + 1) d (omega arith) (λ i b. f (suc i) (omega arith))

-- If the scan finds no other hart, no other hart's owner is the site.
pub none_other : (os : List ℕ) (h s k g : ℕ) → other_inside os h s k ≡ None → g < length os → k + g ≢ h → slice_index os g ≢ s
none_other [] h s k g is lt n = absurd (omega arith)
none_other (o ∷ os) h s k g is lt n = first (not (eqb k h) && eqb o s) refl is (λ is' i lt' n'. none_other os h s (k + 1) i is' lt' n') g lt n
  where
    first : (b : Bool) → (not (eqb k h) && eqb o s) ≡ b → (if b then Some k else other_inside os h s (k + 1)) ≡ None
        → (other_inside os h s (k + 1) ≡ None → (i : ℕ) → i < length os → k + 1 + i ≢ h → slice_index os i ≢ s)
        → (i : ℕ) → i < suc (length os) → k + i ≢ h → slice_index (o ∷ os) i ≢ s
    first true e f again i l m = absurd (cc)
    first false e f again zero l m = λ z. absurd (let w : true ≡ false = sym (rw (ne_eqb k h (λ y. m (omega arith)), eq-eqb o s z) refl) ∙ e in cc)
    first false e f again (suc i) l m = again f i (omega arith) (λ y. m (omega arith))

-- If the scan finds no child, each child is gone.
pub none_child : (ps : List ℕ) (rs : List Row) (s k i : ℕ) (d : Row) → least_left ps rs s k ≡ None → length rs ≡ length ps → i < length ps → slice_index ps i ≡ s → is_gone (slice_index_or rs i d).stage ≡ true
none_child [] rs s k i d is l lt e = absurd (omega arith)
none_child (p ∷ ps) [] s k i d is l lt e = absurd (omega arith)
none_child (p ∷ ps) (r ∷ rs) s k i d is l lt e = first (eqb p s && not (is_gone r.stage)) refl is (λ is' j lt' e'. none_child ps rs s (k + 1) j d is' (omega arith) lt' e') i lt e
  where
    gone : (g : Bool) → not g ≡ false → g ≡ true
    gone true e' = refl
    gone false e' = absurd (cc)

    first : (b : Bool) → (eqb p s && not (is_gone r.stage)) ≡ b → (if b then Some k else least_left ps rs s (k + 1)) ≡ None
        → (least_left ps rs s (k + 1) ≡ None → (j : ℕ) → j < length ps → slice_index ps j ≡ s → is_gone (slice_index_or rs j d).stage ≡ true)
        → (j : ℕ) → j < suc (length ps) → slice_index (p ∷ ps) j ≡ s → is_gone (slice_index_or (r ∷ rs) j d).stage ≡ true
    first true q f again j l' z = absurd (cc)
    first false q f again zero l' z = gone (is_gone r.stage) (rw (eq-eqb p s z) at q)
    first false q f again (suc j) l' z = again f j (omega arith) z

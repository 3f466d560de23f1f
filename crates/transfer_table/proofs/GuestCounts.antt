-- Sums over harts.
use Rattle.std.proofs.Common.{◌≡◌, ◌≢◌, ℕ, zero, suc, ◌+◌, ◌-◌, ◌<◌, ◌≤◌, Bool, true, false, ◌&&◌, not, refl, sym, ap, arith}
use mathlib.Core.Logic.{dite}
use native.Mathlib.Decide.{ℕ_discrete}
use Rattle.transfer_table.specs.Plan.{Plan, is_within}
use Rattle.transfer_table.specs.Table.{TableState, owner, row, is_home}
use Rattle.transfer_table.specs.Counts.{one_if}
use Rattle.transfer_table.specs.Guests.{guest_at, guests_below}

pub small : (b : Bool) → one_if b ≤ 1
small true = omega arith
small false = omega arith

-- If no hart's summand changes, the sum stays.
pub same_sum : (p : Plan) (t u : TableState) (y n : ℕ) → ((h : ℕ) → h < n → guest_at p u y h ≡ guest_at p t y h) → guests_below p u y n ≡ guests_below p t y n
same_sum p t u y zero f = refl
same_sum p t u y (suc n) f = let r = same_sum p t u y n (λ h lt. f h (omega arith)) in let e = f n (omega arith) in omega arith

-- If only one hart's summand changes, the sum changes by the difference.
pub one_changes : (p : Plan) (t u : TableState) (y g n : ℕ) → g < n → ((h : ℕ) → h ≢ g → guest_at p u y h ≡ guest_at p t y h) → guests_below p u y n + guest_at p t y g ≡ guests_below p t y n + guest_at p u y g
one_changes p t u y g zero lt f = absurd (omega arith)
one_changes p t u y g (suc n) lt f = dite (ℕ_discrete g n)
    (λ z. let r = same_sum p t u y n (λ h less. f h (λ e. omega arith)) in let a : guest_at p t y n ≡ guest_at p t y g = ap (guest_at p t y) (sym z) in let b : guest_at p u y n ≡ guest_at p u y g = ap (guest_at p u y) (sym z) in omega arith)
    (λ other. let r = one_changes p t u y g n (omega arith) f in let e = f n (λ z. other (sym z)) in omega arith)

-- A sum of 0 has no summand of 1.
pub none_of : (p : Plan) (t : TableState) (y h n : ℕ) → h < n → guests_below p t y n ≡ 0 → guest_at p t y h ≡ 0
none_of p t y h zero lt e = absurd (omega arith)
none_of p t y h (suc n) lt e = dite (ℕ_discrete h n)
    (λ z. let a : guest_at p t y h ≡ guest_at p t y n = ap (guest_at p t y) z in omega arith)
    (λ other. none_of p t y h n (omega arith) (omega arith))

pub all_none : (p : Plan) (t : TableState) (y n : ℕ) → ((h : ℕ) → h < n → guest_at p t y h ≡ 0) → guests_below p t y n ≡ 0
all_none p t y zero f = refl
all_none p t y (suc n) f = let r = all_none p t y n (λ h lt. f h (omega arith)) in let e = f n (omega arith) in omega arith

pub at_most : (p : Plan) (t : TableState) (y n : ℕ) → guests_below p t y n ≤ n
at_most p t y zero = omega arith
at_most p t y (suc n) = let r = at_most p t y n in let s = small (not (is_home (row t y).home n) && is_within p y (owner t n)) in omega arith

-- If one hart doesn't count, the sum is at most the number of other harts.
pub one_out : (p : Plan) (t : TableState) (y h n : ℕ) → h < n → guest_at p t y h ≡ 0 → guests_below p t y n ≤ n - 1
one_out p t y h zero lt e = absurd (omega arith)
one_out p t y h (suc n) lt e = dite (ℕ_discrete h n)
    (λ z. let a : guest_at p t y n ≡ guest_at p t y h = ap (guest_at p t y) (sym z) in let r = at_most p t y n in omega arith)
    (λ other. let r = one_out p t y h n (omega arith) e in let s = small (not (is_home (row t y).home n) && is_within p y (owner t n)) in omega arith)

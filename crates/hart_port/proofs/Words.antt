-- The bits of a site's word.
use Rattle.std.proofs.Common.{◌≡◌, ◌≢◌, ℕ, ◌+◌, ◌*◌, ◌%◌, Bool, true, false, refl, sym, subst, arith, eq-eqb}
use Rattle.transfer_table.specs.declared.entry.Row.{Row}
use Rattle.transfer_table.specs.declared.entry.Stage.{Stage}
use Rattle.transfer_table.specs.declared.entry.Stage.TheVariants.{New, Live, Gone}
use Rattle.hart_port.specs.Words.{is_claimed, is_wanted, stage_bits, closing_bit, site_word}

claimed : (g : Stage) (b : Bool) (w : ℕ) → g ≢ New → (stage_bits g + closing_bit b + 256 * w) % 2 ≡ 1
claimed New b w n = absurd (n refl)
claimed Live true w n = omega arith
claimed Live false w n = omega arith
claimed Gone true w n = omega arith
claimed Gone false w n = omega arith

-- The word of a site that isn't new is claimed.
pub is_claimed-site_word : (r : Row) (b : Bool) → r.stage ≢ New → is_claimed (site_word r b) ≡ true
is_claimed-site_word r b n = eq-eqb (site_word r b % 2) 1 (claimed r.stage b r.wishes n)

unwanted : (g : Stage) (b : Bool) → is_wanted (stage_bits g + closing_bit b + 256 * 0) ≡ false
unwanted New true = refl
unwanted New false = refl
unwanted Live true = refl
unwanted Live false = refl
unwanted Gone true = refl
unwanted Gone false = refl

-- The word of a site with no wish wants no hart.
pub is_wanted-site_word : (r : Row) (b : Bool) → r.wishes ≡ 0 → is_wanted (site_word r b) ≡ false
is_wanted-site_word r b none = let P : ℕ → Type 0 = λ w. is_wanted (stage_bits r.stage + closing_bit b + 256 * w) ≡ false in subst P (sym none) (unwanted r.stage b)

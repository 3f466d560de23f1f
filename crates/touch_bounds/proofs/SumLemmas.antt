-- Sums, differences and the minus sign between bounds that don't wrap.
use Rattle.std.proofs.Common.{◌≡◌, ℤ, pos, negsuc, ◌+ℤ◌, ◌-ℤ◌, ◌≤ℤ◌, neg_ℤ, to_z, of_z, w64, arith, sym, subst}
use Rattle.std.specs.Prelude.{FitsSigned}
use Rattle.std.specs.Int.{int_wrap}
use Rattle.std.proofs.lemmas.Int.{ints, int_wrap_fits, to_z-of_z}
use Rattle.array_meaning.specs.Values.{wrapping_sum, wrapping_difference, wrapping_minus}
use Rattle.touch_bounds.specs.declared.interval.Interval.{Interval}
use Rattle.touch_bounds.specs.Intervals.{LiesIn, LeadsInto, LeadInto}

-- A number between two that fit fits.
pub between_fits : (l x h : ℤ) → FitsSigned w64 l → FitsSigned w64 h → l ≤ℤ x → x ≤ℤ h → FitsSigned w64 x
between_fits l (pos x) (pos h) fl fh low high = record { sfits = omega (arith, ints) }
between_fits l (pos x) (negsuc h) fl fh low high = absurd (omega (arith, ints))
between_fits (pos l) (negsuc x) h fl fh low high = absurd (omega (arith, ints))
between_fits (negsuc l) (negsuc x) h fl fh low high = record { sfits = omega (arith, ints) }

-- The interval of two numbers, as the code makes it.
abbrev pub noted : ℤ → ℤ → Interval
noted least greatest = record { least = to_z w64 (of_z w64 least); greatest = to_z w64 (of_z w64 greatest) }

pub noted_lies : (least greatest x : ℤ) → FitsSigned w64 least → FitsSigned w64 greatest → least ≤ℤ x → x ≤ℤ greatest → LiesIn (noted least greatest) x
noted_lies least greatest x fl fg low high = record {
  low = rw (to_z-of_z w64 least fl) low;
  high = rw (to_z-of_z w64 greatest fg) high;
}

-- A number between bounds that fit doesn't wrap.
pub unwrapped_lies : (least greatest x : ℤ) → FitsSigned w64 least → FitsSigned w64 greatest → least ≤ℤ x → x ≤ℤ greatest →
    LiesIn (noted least greatest) (int_wrap w64 x)
unwrapped_lies least greatest x fl fg low high =
    subst (LiesIn (noted least greatest)) (sym (int_wrap_fits w64 x (between_fits least x greatest fl fg low high))) (noted_lies least greatest x fl fg low high)

-- A checked operation: the exact result fits, and is the result.
abbrev pub Checked : ℤ → ℤ → Type 0
Checked result exact = FitsSigned w64 exact × (result ≡ exact)

checked_lies : (least greatest low high x : ℤ) → Checked least low → Checked greatest high → low ≤ℤ x → x ≤ℤ high →
    LiesIn (noted least greatest) (int_wrap w64 x)
checked_lies least greatest low high x l g below above =
    unwrapped_lies least greatest x (subst (FitsSigned w64) (sym l.1) l.0) (subst (FitsSigned w64) (sym g.1) g.0)
    (subst (λ z. z ≤ℤ x) (sym l.1) below) (subst (λ z. x ≤ℤ z) (sym g.1) above)

-- Both bounds fit.
pub record AreFit (within : Interval) : Type 0 where
  pub least : FitsSigned w64 within.least
  pub greatest : FitsSigned w64 within.greatest

-- A number, as the code passes it.
abbrev pub seen : ℤ → ℤ
seen x = to_z w64 (of_z w64 x)

pub sum_lies : (left right : Interval) (least greatest : ℤ) → AreFit left → AreFit right →
    Checked least (seen left.least +ℤ seen right.least) →
    Checked greatest (seen left.greatest +ℤ seen right.greatest) → LeadInto wrapping_sum left right (noted least greatest)
sum_lies left right least greatest fl fr l g x y hx hy =
    checked_lies least greatest (seen left.least +ℤ seen right.least) (seen left.greatest +ℤ seen right.greatest) (x +ℤ y) l g (omega (arith, ints)) (omega (arith, ints))

pub difference_lies : (left right : Interval) (least greatest : ℤ) → AreFit left → AreFit right →
    Checked least (seen left.least -ℤ seen right.greatest) →
    Checked greatest (seen left.greatest -ℤ seen right.least) → LeadInto wrapping_difference left right (noted least greatest)
difference_lies left right least greatest fl fr l g x y hx hy =
    checked_lies least greatest (seen left.least -ℤ seen right.greatest) (seen left.greatest -ℤ seen right.least) (x -ℤ y) l g (omega (arith, ints)) (omega (arith, ints))

pub minus_lies : (operand : Interval) (least greatest : ℤ) → AreFit operand → Checked least (neg_ℤ (seen operand.greatest)) →
    Checked greatest (neg_ℤ (seen operand.least)) → LeadsInto wrapping_minus operand (noted least greatest)
minus_lies operand least greatest f l g x hx =
    checked_lies least greatest (neg_ℤ (seen operand.greatest)) (neg_ℤ (seen operand.least)) (neg_ℤ x) l g (omega (arith, ints)) (omega (arith, ints))

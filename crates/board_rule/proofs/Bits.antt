-- The bits of a site's word, and the stages that they encode.
use Rattle.std.proofs.Common.{◌≡◌, ◌≢◌, ℕ, ◌+◌, ◌*◌, ◌/◌, ◌%◌, ◌≤◌, Bool, true, false, refl, arith, bit_or, bit_and}
use Rattle.std.specs.Int.Bits.{or_add_and}
use Rattle.std.proofs.lemmas.Nat.{and_mask}
use Rattle.std.proofs.lemmas.Nat.Bits.{and_high}
use Rattle.transfer_table.specs.Table.{is_gone, is_live}
use Rattle.transfer_table.specs.declared.entry.Stage.{Stage}
use Rattle.transfer_table.specs.declared.entry.Stage.TheVariants.{New, Live, Gone}
use Rattle.transfer_table.specs.Counts.{one_if}
use Rattle.board_rule.specs.Shown.{started}

pub or_one : (n : ℕ) → bit_or n 1 + n % 2 ≡ n + 1
or_one n = let a = or_add_and n 1 in let b : bit_and n 1 ≡ n % 2 = and_mask n 1 in omega arith

pub or_two : (n : ℕ) → bit_or n 2 + n / 2 % 2 * 2 ≡ n + 2
or_two n = let a = or_add_and n 2 in let b : bit_and n 2 ≡ n / 2 % 2 * 2 = and_high n 1 1 in omega arith

pub or_four : (n : ℕ) → bit_or n 4 + n / 4 % 2 * 4 ≡ n + 4
or_four n = let a = or_add_and n 4 in let b : bit_and n 4 ≡ n / 4 % 2 * 4 = and_high n 1 2 in omega arith

-- Setting a claimed bit that is set changes nothing.
pub claimed_again : (n : ℕ) → n % 2 ≡ 1 → bit_or n 1 ≡ n
claimed_again n odd = let o = or_one n in omega arith

pub bit_of : (b : Bool) → one_if b ≤ 1
bit_of true = omega arith
bit_of false = omega arith

pub is_open : (b : Bool) → one_if b ≡ 0 → b ≡ false
is_open true e = absurd (omega arith)
is_open false e = refl

pub gone_bit : (g : Stage) → (one_if (is_gone g) ≤ started g) × (started g ≤ 1)
gone_bit New = (omega arith, omega arith)
gone_bit Live = (omega arith, omega arith)
gone_bit Gone = (omega arith, omega arith)

pub unstarted : (g : Stage) → started g ≡ 0 → g ≡ New
unstarted New e = refl
unstarted Live e = absurd (omega arith)
unstarted Gone e = absurd (omega arith)

pub is_live-stage : (g : Stage) → is_live g ≡ true → g ≡ Live
is_live-stage New e = absurd (cc)
is_live-stage Live e = refl
is_live-stage Gone e = absurd (cc)

pub all_gone : (g : Stage) → one_if (is_gone g) ≡ 1 → g ≡ Gone
all_gone New e = absurd (omega arith)
all_gone Live e = absurd (omega arith)
all_gone Gone e = refl

pub live_now : (g : Stage) → g ≢ New → g ≢ Gone → g ≡ Live
live_now New n m = absurd (n refl)
live_now Live n m = refl
live_now Gone n m = absurd (m refl)

-- ---- what the fields of the word are

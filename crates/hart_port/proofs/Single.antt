-- What the journal of a one-hart plan has.
use Rattle.std.proofs.Common.{◌≡◌, ◌≢◌, ℕ, ◌+◌, ◌≤◌, Bool, true, false, not, ◌&&◌, if◌then◌else◌, List, refl, ap, ◌∙◌, arith}
use Rattle.std.specs.Option.{is_some}
use Rattle.transfer_table.specs.Plan.{Plan, IsPlan, IsSite}
use Rattle.transfer_table.specs.Table.{TableState, row, is_gone}
use Rattle.transfer_table.specs.Journal.{Reaches}
use Rattle.transfer_table.specs.Entry.{registers, unregisters, skips_over, requested}
use Rattle.transfer_table.specs.declared.entry.Stage.{Stage}
use Rattle.transfer_table.specs.declared.entry.Stage.TheVariants.{New, Live, Gone}
use Rattle.transfer_table.specs.declared.entry.Entry.{Entry}
use Rattle.transfer_table.proofs.Balance.{legal_balance, rows_report}
use Rattle.transfer_table.proofs.Begins.{legal_begins}

-- No hart was requested, and no wish is left.
pub unasked : (p : Plan) → IsPlan p → p.harts ≡ 1 → (es : List Entry) (t : TableState) → Reaches p es t → (s : ℕ) → IsSite p s → (requested s es ≡ 0) × ((row t s).wishes ≡ 0)
unasked p plan one es t is s site =
    let b = legal_balance p plan es t is s site in let w = b.wished in let a = b.asked in let f = b.few in (omega arith, omega arith)

-- A new site was never registered.
pub unregistered_yet : (p : Plan) → IsPlan p → (es : List Entry) (t : TableState) → Reaches p es t → (s : ℕ) → IsSite p s → (row t s).stage ≡ New → registers s es ≡ 0
unregistered_yet p plan es t is s site new = let z = ((legal_begins p plan es t is s site).fresh new).0 in omega arith

one_of : (h : Bool) (r k : ℕ) → r ≡ (if h then 1 else 0) → k ≡ (if not h then 1 else 0) → 1 ≤ r + k
one_of true r k a b = omega arith
one_of false r k a b = omega arith

-- A site that isn't new was registered or skipped, the latter by itself or with a site around it.
pub stale : (p : Plan) → IsPlan p → (es : List Entry) (t : TableState) → Reaches p es t → (s : ℕ) → IsSite p s → (row t s).stage ≢ New → 1 ≤ registers s es + skips_over p s es
stale p plan es t is s site n = by_stage (row t s).stage refl
  where
    by_stage : (g : Stage) → (row t s).stage ≡ g → 1 ≤ registers s es + skips_over p s es
    by_stage New e = absurd (n e)
    by_stage Live e = let z = ((legal_begins p plan es t is s site).live e).0 in omega arith
    by_stage Gone e = let c = rows_report p plan es t is s site in one_of (is_some (row t s).home) (registers s es) (skips_over p s es) c.came (c.skipped ∙ ap (λ (g : Stage). if (is_gone g && not (is_some (row t s).home)) then 1 else 0) e)

none_of : (g : Stage) (h : Bool) (r k : ℕ) → r ≡ (if (is_gone g && h) then 1 else 0) → k ≡ (if (is_gone g && not h) then 1 else 0) → 1 ≤ r + k → g ≡ Gone
none_of New h r k a b some = absurd (omega arith)
none_of Live h r k a b some = absurd (omega arith)
none_of Gone h r k a b some = refl

-- A site that was unregistered or skipped is gone.
pub went : (p : Plan) → IsPlan p → (es : List Entry) (t : TableState) → Reaches p es t → (s : ℕ) → IsSite p s → 1 ≤ unregisters s es + skips_over p s es → (row t s).stage ≡ Gone
went p plan es t is s site some = let c = rows_report p plan es t is s site in none_of (row t s).stage (is_some (row t s).home) (unregisters s es) (skips_over p s es) c.went c.skipped some

-- If all sites have ended as they are meant, the list is complete.
use Rattle.std.proofs.Common.{◌≡◌, ℕ, zero, suc, ◌+◌, ◌-◌, ◌<◌, ◌≤◌, Bool, true, false, not, ◌&&◌, if◌then◌else◌, List, [], ◌∷◌, length, slice_index_or, refl, ◌∙◌, arith}
use Rattle.std.specs.Option.{is_some}
use Rattle.transfer_table.specs.Plan.{Plan, IsPlan, IsSite, site_count}
use Rattle.transfer_table.specs.Entry.{unregisters, skips_over}
use Rattle.transfer_table.specs.Table.{TableState, row, is_gone}
use Rattle.transfer_table.specs.Journal.{Reaches, is_meant}
use Rattle.transfer_table.specs.declared.entry.Stage.{Stage}
use Rattle.transfer_table.specs.declared.entry.Stage.TheVariants.{New, Live, Gone}
use Rattle.transfer_table.specs.declared.entry.Entry.{Entry}
use Rattle.transfer_table.proofs.Balance.{rows_report, registered-home}
use Rattle.transfer_table.specs.Accounts.{IsOverAs, AreOverAs}
use Rattle.transfer_table.specs.AccountLaws.{AllOverIsComplete}

-- The site at an index has ended as the list has it there.
over_at : (p : Plan) (es : List Entry) (s i : ℕ) (meant : List Bool) → i < length meant → AreOverAs p es s meant → IsOverAs p es (s + i) (slice_index_or meant i false)
over_at p es s i [] small over = absurd (omega (arith, small))
over_at p es s zero (m ∷ more) small over = let z : s + 0 ≡ s = omega arith in rw z over.0
over_at p es s (suc i) (m ∷ more) small over = let z : s + suc i ≡ s + 1 + i = omega arith in rw z (over_at p es (s + 1) i more (omega (arith, small)) over.1)

-- A site that has ended is gone, and has a home iff it is meant; by the stage and the home of its row.
gone_as : (g : Stage) (home m : Bool) (went skipped : ℕ) → went ≡ (if (is_gone g && home) then 1 else 0) → skipped ≡ (if (is_gone g && not home) then 1 else 0)
    → (m ≡ true → 1 ≤ went) → (m ≡ false → 1 ≤ skipped) → (g ≡ Gone) × (home ≡ m)
gone_as New home true went skipped a b c d = absurd (let e = c refl in omega (arith, a, e))
gone_as New home false went skipped a b c d = absurd (let e = d refl in omega (arith, b, e))
gone_as Live home true went skipped a b c d = absurd (let e = c refl in omega (arith, a, e))
gone_as Live home false went skipped a b c d = absurd (let e = d refl in omega (arith, b, e))
gone_as Gone true true went skipped a b c d = (refl, refl)
gone_as Gone true false went skipped a b c d = absurd (let e = d refl in omega (arith, b, e))
gone_as Gone false true went skipped a b c d = absurd (let e = c refl in omega (arith, a, e))
gone_as Gone false false went skipped a b c d = (refl, refl)

came_if : (p : Plan) (es : List Entry) (s : ℕ) (m : Bool) → IsOverAs p es s m → (m ≡ true → 1 ≤ unregisters s es) × (m ≡ false → 1 ≤ skips_over p s es)
came_if p es s true over = (λ _. over, λ no. absurd (cc))
came_if p es s false over = (λ no. absurd (cc), λ _. over)

gone_as_meant : (p : Plan) (meant : List Bool) (es : List Entry) (t : TableState) → IsPlan p → Reaches p es t → length meant ≡ site_count p → AreOverAs p es 1 meant
    → (s : ℕ) → IsSite p s → ((row t s).stage ≡ Gone) × (is_some (row t s).home ≡ is_meant meant s)
gone_as_meant p meant es t plan is count over s site =
    let low = site.0 in
    let high = site.1 in
    let place : 1 + (s - 1) ≡ s = omega (arith, low) in
    let here : IsOverAs p es s (is_meant meant s) = rw place at (over_at p es 1 (s - 1) meant (omega (arith, low, high, count)) over) in
    let reported = rows_report p plan es t is s site in
    let either = came_if p es s (is_meant meant s) here in
    gone_as (row t s).stage (is_some (row t s).home) (is_meant meant s) (unregisters s es) (skips_over p s es) reported.went reported.skipped either.0 either.1

pub all_over_is_complete : AllOverIsComplete
all_over_is_complete p meant es t plan is count over = (
  t,
  is,
  λ s site. (gone_as_meant p meant es t plan is count over s site).0,
  λ s site. registered-home p plan es t is s site ∙ (gone_as_meant p meant es t plan is count over s site).1,
)

-- If no other hart shares the table, the sites that the hart registered have ended, except those that it is inside of.
use Rattle.std.proofs.Common.{cond, ◌≡◌, ◌⊎◌, ℕ, ◌≤◌, ◌+◌, Bool, true, false, not, ◌&&◌, List, [], ◌∷◌, ◌++◌, if◌then◌else◌, refl, sym, ap, ◌∙◌, subst, arith, inl, inr}
use Rattle.std.specs.Option.{is_some}
use Rattle.transfer_table.specs.Plan.{Plan, IsPlan, IsHart, IsSite, parent, IsWithin, is_within}
use Rattle.transfer_table.specs.Table.{TableState, owner, row, is_gone}
use Rattle.transfer_table.specs.Journal.{Reaches}
use Rattle.transfer_table.specs.Entry.{site_of, is_skip, covers, unregisters, skips_over}
use Rattle.transfer_table.specs.Plan.IsWithin.{itself, child}
use Rattle.transfer_table.specs.declared.entry.Entry.{Entry}
use Rattle.transfer_table.specs.declared.entry.Stage.{Stage}
use Rattle.transfer_table.specs.declared.entry.Stage.TheVariants.{New, Live, Gone}
use Rattle.transfer_table.proofs.Balance.{rows_report, unregisters-snoc, skips_over-snoc}
use Rattle.transfer_table.proofs.Begins.{legal_begins}
use Rattle.hart_port.proofs.Single.{went}
use Rattle.transfer_table.proofs.Homes.{legal_home}
use Rattle.hart_port.specs.PortView.{PortView, IsPortView, HasClaimed, HasEnded}

stage_cases : (g : Stage) → (g ≡ New) ⊎ ((g ≡ Live) ⊎ (g ≡ Gone))
stage_cases New = inl refl
stage_cases Live = inr (inl refl)
stage_cases Gone = inr (inr refl)

pub within_below : (p : Plan) → IsPlan p → (s o : ℕ) → IsWithin p s o → s ≤ o
within_below p plan s o itself = omega arith
within_below p plan s o (child c site w) = let less = plan.below c site.0 site.1 in let low = within_below p plan s (parent p c) w in omega arith

ended_once : (h : Bool) (r k : ℕ) → r ≡ (if h then 1 else 0) → k ≡ (if not h then 1 else 0) → 1 ≤ r + k
ended_once true r k a b = omega arith
ended_once false r k a b = omega arith

pub taken_over : (h : PortView) (s : ℕ) → IsPortView h → IsSite h.plan s → h.owner ≡ parent h.plan s → h.alone ≡ true → HasClaimed h s → HasEnded h s
taken_over h s hand site around alone came =
    let w = hand.whole alone in
    let counts = rows_report h.plan hand.plan h.mine w.state w.reached s site in
    elim (stage_cases (row w.state s).stage) [
      | inl new ↦ absurd (let none = ((legal_begins h.plan hand.plan h.mine w.state w.reached s site).fresh new).0 in
          let never : skips_over h.plan s h.mine ≡ 0 = counts.skipped ∙ ap (λ (g : Stage). if (is_gone g && not (is_some (row w.state s).home)) then 1 else 0) new in omega arith)
      | inr old ↦ elim old [
        | inl live ↦
            let home = legal_home h.plan hand.plan h.mine w.state w.reached s site live in
            let first : home.0 ≡ 0 = (let is : IsHart h.plan home.0 = home.2 in let one = w.one in omega arith) in
            let within : IsWithin h.plan s h.owner = subst (IsWithin h.plan s) (sym w.owner) (subst (λ g. IsWithin h.plan s (owner w.state g)) first home.3) in
            let low = within_below h.plan hand.plan s h.owner within in
            let less = hand.plan.below s site.0 site.1 in
            absurd (omega arith)
        | inr gone ↦ ended_once (is_some (row w.state s).home) (unregisters s h.mine) (skips_over h.plan s h.mine)
            (counts.went ∙ ap (λ (g : Stage). if (is_gone g && is_some (row w.state s).home) then 1 else 0) gone)
            (counts.skipped ∙ ap (λ (g : Stage). if (is_gone g && not (is_some (row w.state s).home)) then 1 else 0) gone)
      ]
    ]

-- A site that was unregistered or skipped is gone.
pub over_gone : (p : Plan) (es : List Entry) (t : TableState) (s : ℕ) → IsPlan p → Reaches p es t → IsSite p s → 1 ≤ unregisters s es + skips_over p s es → (row t s).stage ≡ Gone
over_gone p es t s plan reached site over = went p plan es t reached s site over

-- One more entry doesn't lower the number of unregisters.
pub over_stays : (s : ℕ) (es : List Entry) (e : Entry) → unregisters s es ≤ unregisters s (es ++ e ∷ [])
over_stays s es e = let more = unregisters-snoc s es e in omega arith

-- An entry that isn't a skip skips nothing.
pub skips_stay : (p : Plan) (s : ℕ) (es : List Entry) (e : Entry) → is_skip e ≡ false → skips_over p s (es ++ e ∷ []) ≡ skips_over p s es
skips_stay p s es e other =
    let more = skips_over-snoc p s es e in
    let none : cond {A = ℕ} (covers p e s) 1 0 ≡ 0 = ap (λ (b : Bool). cond {A = ℕ} (b && is_within p (site_of e) s) 1 0) other in omega (arith, more, none)

-- Children that were registered and unregistered stay so, and one more is.
use Rattle.std.proofs.Common.{◌≡◌, ℕ, ◌<◌, ◌≤◌, ◌++◌, ◌∷◌, [], sym, ap, ◌∙◌, subst, arith, inl, inr, Option, Some}
use Rattle.std.proofs.lemmas.Bool.{cases_eq, cases_lt}
use Rattle.transfer_table.specs.Entry.{unregisters}
use Rattle.transfer_table.specs.declared.entry.Entry.TheVariants.{Register, Unregister}
use Rattle.transfer_table.proofs.Balance.{unregisters-here}
use Rattle.hart_port.specs.Count.{Rose}
use Rattle.hart_port.specs.PortView.{PortView, registered, unregistered}
use Rattle.site_steps.specs.Back.{IsBack, HasLooked}
use Rattle.site_steps.specs.Children.{NextChild}
use Rattle.site_steps.specs.Sweeps.{Gives, IsSwept, AreSweptBefore}
use Rattle.site_steps.proofs.Children.{before_next}
use Rattle.site_steps.proofs.Overs.{over_stays}

-- A counter that rose has risen since any earlier time, and until any later one.
pub rose_within : (a b c d : ℕ) → a ≤ b → Rose b c → c ≤ d → Rose a d
rose_within a b c d before (inl more) after = inl (omega arith)
rose_within a b c d before (inr last) after = elim (cases_lt a d) [
  | inl less ↦ inl less
  | inr not ↦ let top = last.0 in let same = last.1 in inr (omega arith, omega arith)
]

swept_within : {P : Type 0} (gives : Gives P) (h a b c : PortView) (r r' r'' r''' s : ℕ) → IsBack h a → r ≤ r' → IsSwept gives a r' b r'' s → IsBack b c → r'' ≤ r''' → IsSwept gives h r c r''' s
swept_within gives h a b c r r' r'' r''' s before less (inl made) after more = let early = before.over s in let late = after.over s in inl (omega arith)
swept_within gives h a b c r r' r'' r''' s before less (inr (rose, refused)) after more = inr (rose_within r r' r'' r''' less rose more, refused)

pub swept_more : {P : Type 0} (gives : Gives P) (h a b : PortView) (r r' r'' n : ℕ) (next : Option ℕ) → IsBack h h → IsBack b b → IsBack h a → IsBack a b → r ≤ r' → r' ≤ r'' →
    AreSweptBefore gives h r a r' (Some n) → NextChild h.plan h.owner n next → IsSwept gives a r' b r'' n → AreSweptBefore gives h r b r'' next
swept_more gives h a b r r' r'' n next start end before after less more swept is here s site up below =
    let most = before_next h.plan h.owner n s next is site up below in
    elim (cases_eq s n) [
      | inl e ↦ subst (IsSwept gives h r b r'') (sym e) (swept_within gives h a b b r r' r'' r'' n before less here end (omega arith))
      | inr m ↦ swept_within gives h h a b r r r' r'' s start (omega arith) (swept s site up (omega arith)) after more
    ]

-- The hart registers a child, returns to it, looks until it is empty, and unregisters it.
pub swept_site : (h a b c : PortView) (s : ℕ) → a ≡ registered h s → IsBack a b → HasLooked b c → unregisters s h.mine < unregisters s (unregistered c).mine
swept_site h a b c s is back looked =
    let here : c.owner ≡ s = ap (λ (x : PortView). x.owner) looked.same ∙ back.owner ∙ ap (λ (x : PortView). x.owner) is in
    let one = unregisters-here c.mine (Unregister c.hart c.owner) in
    subst (λ y. unregisters y h.mine < unregisters y (c.mine ++ Unregister c.hart c.owner ∷ [])) here
    (let y = c.owner in omega (arith, one, over_stays y h.mine (Register h.hart s), ap (λ (x : PortView). unregisters y x.mine) is, back.over y, ap (λ (x : PortView). unregisters y x.mine) looked.same))

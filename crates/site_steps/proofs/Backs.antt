-- How a hart returns from a child, step by step.
use Rattle.std.proofs.Common.{◌≡◌, ℕ, ◌+◌, ◌<◌, ◌≤◌, true, false, [], ◌∷◌, ◌++◌, refl, sym, ap, ◌∙◌, subst, arith, inl, inr, Option, Some}
use Rattle.std.proofs.lemmas.Bool.{cases_eq, cases_lt}
use Rattle.transfer_table.specs.Plan.{Plan, IsPlan, IsSite, parent}
use Rattle.transfer_table.specs.Entry.{unregisters, skips_over}
use Rattle.transfer_table.specs.declared.entry.Entry.TheVariants.{Register, Enter, Yield, Unregister}
use Rattle.transfer_table.proofs.Balance.{unregisters-here}
use Rattle.hart_port.specs.PortView.{PortView, IsPortView, HasClaimed, HasEnded, is_in, with_site, without, registered, unregistered, entered, yielded, closes, sees_gone, sees_empty}
use Rattle.site_steps.specs.Back.{IsSettled, IsBack, ChildrenOver, HasLooked}
use Rattle.site_steps.specs.Visits.{ChildrenOverBefore, SeenGoneBefore}
use Rattle.site_steps.proofs.Flags.{with_other, with_stays, without_other, without_here}
use Rattle.site_steps.specs.Children.{NextChild}
use Rattle.site_steps.proofs.Overs.{over_stays, skips_stay, taken_over}
use Rattle.site_steps.proofs.Children.{before_next}

pub back_refl : (h : PortView) → IsSettled h → IsBack h h
back_refl h inner = record { plan = refl; hart = refl; alone = refl; table = refl; owner = refl; homes = λ s le. refl; inner = inner; closed = λ s le. refl; gone = λ s is. is; over = λ s. omega arith; skipped = λ p s. omega arith }

pub back_then : (a b c : PortView) → IsBack a b → IsBack b c → IsBack a c
back_then a b c f g = record {
  plan = g.plan ∙ f.plan;
  hart = g.hart ∙ f.hart;
  alone = g.alone ∙ f.alone;
  table = g.table ∙ f.table;
  owner = g.owner ∙ f.owner;
  homes = λ s le. g.homes s (let o = f.owner in omega arith) ∙ f.homes s le;
  inner = g.inner;
  closed = λ s le. g.closed s (let o = f.owner in omega arith) ∙ f.closed s le;
  gone = λ s is. g.gone s (f.gone s is);
  over = λ s. let x = f.over s in let y = g.over s in omega arith;
  skipped = λ p s. let x = f.skipped p s in let y = g.skipped p s in omega arith;
}

-- The hart registers a child, returns to it, looks until it is empty, and unregisters it.
pub back_over : (h a b c : PortView) (s : ℕ) → IsPlan h.plan → IsSite h.plan s → h.owner ≡ parent h.plan s → IsSettled h → a ≡ registered h s → IsBack a b → HasLooked b c →
    IsBack h (unregistered c) × HasEnded (unregistered c) s
back_over h a b c s is_plan site around settled is back looked = (
  record {
    plan = ap (λ (x : PortView). x.plan) looked.same ∙ plan;
    hart = ap (λ (x : PortView). x.hart) looked.same ∙ back.hart ∙ ap (λ (x : PortView). x.hart) is;
    alone = ap (λ (x : PortView). x.alone) looked.same ∙ back.alone ∙ ap (λ (x : PortView). x.alone) is;
    table = ap (λ (x : PortView). x.table) looked.same ∙ back.table ∙ ap (λ (x : PortView). x.table) is;
    owner = own;
    homes = λ x le. without_other c.homes c.owner x (λ e. omega (arith, e, here)) ∙ homes x (omega arith) ∙ with_other h.homes s x (λ e. omega arith);
    inner = λ x above. elim (cases_eq x s) [
      | inl e ↦ subst (λ y. is_in (without c.homes c.owner) y ≡ false) (here ∙ sym e) (without_here c.homes c.owner)
      | inr n ↦ let up : h.owner < x = omega (arith, own, above) in without_other c.homes c.owner x (λ e. n (e ∙ here)) ∙ elim (cases_lt s x) [
        | inl over ↦ ap (λ (y : PortView). is_in y.homes x) looked.same ∙ back.inner x (omega (arith, there))
        | inr below ↦ homes x (omega arith) ∙ with_other h.homes s x n ∙ settled x up
      ]
    ];
    closed = λ x le. without_other c.closed c.owner x (λ e. omega (arith, e, here)) ∙ looked.closed x (λ e. omega (arith, e, there)) ∙ back.closed x (omega (arith, owner_is))
        ∙ ap (λ (y : PortView). is_in y.closed x) is ∙ without_other h.closed s x (λ e. omega arith);
    gone = λ x g. looked.gone x (back.gone x (ap (λ (y : PortView). is_in y.gone x) is ∙ g));
    over = λ x. omega (arith, over_stays x h.mine (Register h.hart s), ap (λ (y : PortView). unregisters x y.mine) is, back.over x, ap (λ (y : PortView). unregisters x y.mine) looked.same, over_stays x c.mine (Unregister c.hart c.owner));
    skipped = λ p x. omega (arith, late p x, back.skipped p x, early p x);
  },
  (let one = unregisters-here c.mine (Unregister c.hart c.owner) in
      subst (λ y. 1 ≤ unregisters y (c.mine ++ Unregister c.hart c.owner ∷ []) + skips_over c.plan y (c.mine ++ Unregister c.hart c.owner ∷ [])) here (omega arith)),
)
  where
    less : h.owner < s
    less = let below = is_plan.below s site.0 site.1 in omega arith

    owner_is : a.owner ≡ s
    owner_is = ap (λ (x : PortView). x.owner) is

    there : b.owner ≡ s
    there = back.owner ∙ owner_is

    here : c.owner ≡ s
    here = ap (λ (x : PortView). x.owner) looked.same ∙ there

    plan : b.plan ≡ h.plan
    plan = back.plan ∙ ap (λ (x : PortView). x.plan) is

    homes : (x : ℕ) → x ≤ s → is_in c.homes x ≡ is_in (with_site h.homes s) x
    homes x le = ap (λ (y : PortView). is_in y.homes x) looked.same ∙ back.homes x (omega (arith, owner_is)) ∙ ap (λ (y : PortView). is_in y.homes x) is

    early : (p : Plan) (x : ℕ) → skips_over p x a.mine ≡ skips_over p x h.mine
    early p x = ap (λ (y : PortView). skips_over p x y.mine) is ∙ skips_stay p x h.mine (Register h.hart s) refl

    late : (p : Plan) (x : ℕ) → skips_over p x (c.mine ++ Unregister c.hart c.owner ∷ []) ≡ skips_over p x b.mine
    late p x = skips_stay p x c.mine (Unregister c.hart c.owner) refl ∙ ap (λ (y : PortView). skips_over p x y.mine) looked.same

    own : parent c.plan c.owner ≡ h.owner
    own = ap (λ (p : Plan). parent p c.owner) (ap (λ (x : PortView). x.plan) looked.same ∙ plan) ∙ ap (parent h.plan) here ∙ sym around

pub looked_refl : (h : PortView) → HasLooked h h
looked_refl h = record { same = refl; closed = λ s n. refl; gone = λ s is. is }

pub looked_then : (a b c : PortView) → HasLooked a b → HasLooked b c → HasLooked a c
looked_then a b c f g = record {
  same = g.same ∙ ap (λ (x : PortView). record x { closed = c.closed; empty = c.empty; gone = c.gone }) f.same;
  closed = λ s n. g.closed s (λ e. n (e ∙ ap (λ (x : PortView). x.owner) f.same)) ∙ f.closed s n;
  gone = λ s is. g.gone s (f.gone s is);
}

pub looked_gone : (h : PortView) (s : ℕ) → HasLooked h (sees_gone h s)
looked_gone h s = record { same = refl; closed = λ x n. refl; gone = λ x is. with_stays h.gone s x is }

pub looked_closed : (h : PortView) → HasLooked h (closes h)
looked_closed h = record { same = refl; closed = λ x n. with_other h.closed h.owner x n; gone = λ x is. is }

pub looked_empty : (h : PortView) → HasLooked h (sees_empty h)
looked_empty h = record { same = refl; closed = λ x n. refl; gone = λ x is. is }

pub over_looked : (h a : PortView) → HasLooked h a → ChildrenOver h → ChildrenOver a
over_looked h a looked over = subst ChildrenOver (sym looked.same) over

-- One more child was seen gone.
pub seen_more : (h a : PortView) (n : ℕ) (next : Option ℕ) → HasLooked h a → SeenGoneBefore h (Some n) → NextChild h.plan h.owner n next → is_in a.gone n ≡ true → SeenGoneBefore a next
seen_more h a n next looked seen is more c site up below =
    let plan : a.plan ≡ h.plan = ap (λ (x : PortView). x.plan) looked.same in
    let own : a.owner ≡ h.owner = ap (λ (x : PortView). x.owner) looked.same in
    let site' = subst (λ p. IsSite p c) plan site in
    let up' : parent h.plan c ≡ h.owner = subst (λ p. parent p c ≡ h.owner) plan (up ∙ own) in
    let most = before_next h.plan h.owner n c next is site' up' below in
    elim (cases_eq c n) [
      | inl e ↦ subst (λ x. is_in a.gone x ≡ true) (sym e) more
      | inr m ↦ looked.gone c (seen c site' up' (omega arith))
    ]

-- One more child has ended.
pub over_more : (h a : PortView) (n : ℕ) (next : Option ℕ) → IsBack h a → ChildrenOverBefore h (Some n) → NextChild h.plan h.owner n next → (a.alone ≡ true → HasEnded a n) → ChildrenOverBefore a next
over_more h a n next back over is more alone c site up below =
    let site' = subst (λ p. IsSite p c) back.plan site in
    let up' : parent h.plan c ≡ h.owner = subst (λ p. parent p c ≡ h.owner) back.plan (up ∙ back.owner) in
    let most = before_next h.plan h.owner n c next is site' up' below in
    elim (cases_eq c n) [
      | inl e ↦ subst (HasEnded a) (sym e) (more alone)
      | inr m ↦ let was = over (sym back.alone ∙ alone) c site' up' (omega arith) in let still = back.over c in let kept = back.skipped h.plan c in
          subst (λ (p : Plan). 1 ≤ unregisters c a.mine + skips_over p c a.mine) (sym back.plan) (omega arith)
    ]

-- The hart enters a child, returns to it, and yields.
pub back_visited : (h a b : PortView) (s : ℕ) → IsPlan h.plan → IsSite h.plan s → h.owner ≡ parent h.plan s → IsSettled h → a ≡ entered h s → IsBack a b → IsBack h (yielded b)
back_visited h a b s is_plan site around settled is back = record {
  plan = plan;
  hart = back.hart ∙ ap (λ (x : PortView). x.hart) is;
  alone = back.alone ∙ ap (λ (x : PortView). x.alone) is;
  table = back.table ∙ ap (λ (x : PortView). x.table) is;
  owner = own;
  homes = λ x le. homes x (omega arith);
  inner = λ x above. let up : h.owner < x = omega (arith, own, above) in elim (cases_lt s x) [
    | inl over ↦ back.inner x (omega (arith, there))
    | inr below ↦ homes x (omega arith) ∙ settled x up
  ];
  closed = λ x le. back.closed x (omega (arith, owner_is)) ∙ ap (λ (y : PortView). is_in y.closed x) is;
  gone = λ x g. back.gone x (ap (λ (y : PortView). is_in y.gone x) is ∙ g);
  over = λ x. omega (arith, over_stays x h.mine (Enter h.hart s), ap (λ (y : PortView). unregisters x y.mine) is, back.over x, over_stays x b.mine (Yield b.hart b.owner));
  skipped = λ p x. omega (arith, late p x, back.skipped p x, early p x);
}
  where
    less : h.owner < s
    less = let below = is_plan.below s site.0 site.1 in omega arith

    owner_is : a.owner ≡ s
    owner_is = ap (λ (x : PortView). x.owner) is

    there : b.owner ≡ s
    there = back.owner ∙ owner_is

    plan : b.plan ≡ h.plan
    plan = back.plan ∙ ap (λ (x : PortView). x.plan) is

    homes : (x : ℕ) → x ≤ s → is_in b.homes x ≡ is_in h.homes x
    homes x le = back.homes x (omega (arith, owner_is)) ∙ ap (λ (y : PortView). is_in y.homes x) is

    early : (p : Plan) (x : ℕ) → skips_over p x a.mine ≡ skips_over p x h.mine
    early p x = ap (λ (y : PortView). skips_over p x y.mine) is ∙ skips_stay p x h.mine (Enter h.hart s) refl

    late : (p : Plan) (x : ℕ) → skips_over p x (b.mine ++ Yield b.hart b.owner ∷ []) ≡ skips_over p x b.mine
    late p x = skips_stay p x b.mine (Yield b.hart b.owner) refl

    own : parent b.plan b.owner ≡ h.owner
    own = ap (λ (p : Plan). parent p b.owner) plan ∙ ap (parent h.plan) there ∙ sym around

-- If no other hart shares the table, a child whose register is refused has ended.
pub refused_over : (h a : PortView) (s : ℕ) → IsPortView a → IsSite h.plan s → h.owner ≡ parent h.plan s → a ≡ h → (h.alone ≡ true → HasClaimed h s)
    → a.alone ≡ true → HasEnded a s
refused_over h a s kept site child is came = subst (λ (x : PortView). x.alone ≡ true → HasEnded x s) (sym is)
    (λ alone. taken_over h s (subst IsPortView is kept) site child alone (came alone))

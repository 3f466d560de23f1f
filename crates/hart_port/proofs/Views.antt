-- The port's invariant implies what contracts state of its view.
use Rattle.std.proofs.Common.{◌≡◌, ℕ, ◌+◌, ◌<◌, ◌≤◌, Bool, true, false, ◌&&◌, List, ◌++◌, ◌∷◌, [], length, refl, sym, ap, subst, ◌∙◌, arith, Option, Some, None, zero, suc}
use Rattle.std.proofs.lemmas.Bool.Decides.{nat_tests}
use Rattle.transfer_table.specs.Plan.{Plan, IsHart, IsSite, parent, site_count}
use Rattle.transfer_table.specs.Table.{first_state, owner, row, is_home, lives_with}
use Rattle.transfer_table.specs.Allowed.{IsAllowed}
use Rattle.transfer_table.specs.declared.entry.Entry.TheVariants.{Register, Yield, Unregister, Skip}
use Rattle.transfer_table.proofs.Positions.{legal_position}
use Rattle.transfer_table.proofs.Lists.{replicate_at}
use Rattle.transfer_table.proofs.Effects.{owner-effect_same}
use Rattle.transfer_table.proofs.Stages.{live_home, gone_lasts}
use Rattle.hart_port.specs.PortView.{PortView, IsPortView, is_in, without, homes_of, MayUnregister, registered, skipped, unregistered}
use Rattle.hart_port.specs.Ledger.{LedgerState, IsLedger, first_ledger, no_site, with_entry}
use Rattle.hart_port.specs.Plain.{IsPlain, first_view, view_of}
use Rattle.hart_port.proofs.Ledgers.{owner_inside}
use Rattle.hart_port.proofs.Homes.{length-homes_of, is_in-homes_of, homes_of-register, homes_of-skip, homes_of-unregister, homes_of-first}

pub first : (p : Plan) → p.harts ≡ 1 → IsHart p 0
first p one = omega arith

-- The view of the only hart of a ledger with the same plan, and sets of the right size.
pub is_view : (l after : LedgerState) (closed empty gone : List Bool) → IsLedger after → after.plan ≡ l.plan → l.plan.harts ≡ 1
    → length closed ≡ site_count l.plan + 1 → length empty ≡ site_count l.plan + 1 → length gone ≡ site_count l.plan + 1 → IsPortView (view_of after closed empty gone)
is_view l after closed empty gone is same before c e g = let fits = legal_position after.plan is.plan after.entries after.state is.reached in
    let one : after.plan.harts ≡ 1 = ap (λ (p : Plan). p.harts) same ∙ before in
    let sites : site_count l.plan + 1 ≡ site_count after.plan + 1 = ap (λ (p : Plan). site_count p + 1) (sym same) in
    record {
      plan = is.plan;
      hart = first after.plan one;
      owner = owner_inside after is 0 (first after.plan one);
      homes = (let n = length-homes_of after.state 0 in let m = fits.rows in omega arith);
      closed = c ∙ sites;
      empty = e ∙ sites;
      gone = g ∙ sites;
      base = refl;
      whole = λ _. record { one = one; state = after.state; reached = is.reached; owner = refl };
    }

-- The view of a port with the invariant of its type.
pub kept_view : (l : LedgerState) (closed empty gone : List Bool) → IsPlain l closed empty gone → IsPortView (view_of l closed empty gone)
kept_view l closed empty gone is = is_view l l closed empty gone is.ledger refl is.one is.closed_size is.empty_size is.gone_size

both : (a b : Bool) → (a && b) ≡ true → (a ≡ true) × (b ≡ true)
both true true e = (refl, refl)
both true false e = absurd (cc)
both false b e = absurd (cc)

is_home-some : (o : Option ℕ) (h : ℕ) → is_home o h ≡ true → o ≡ Some h
is_home-some None h e = absurd (cc)
is_home-some (Some g) h e = let same : g ≡ h = grind (arith, nat_tests) in ap (λ (x : ℕ). Some x) same

-- If the owner is among the homes, it is a live site whose home is the hart.
pub owner_home : (l : LedgerState) → IsLedger l → l.plan.harts ≡ 1 → is_in (homes_of l.state 0) (owner l.state 0) ≡ true → IsSite l.plan (owner l.state 0) × ((row l.state (owner l.state 0)).home ≡ Some 0)
owner_home l ledger one is = more (owner l.state 0) is (owner_inside l ledger 0 (first l.plan one))
  where
    more : (s : ℕ) → is_in (homes_of l.state 0) s ≡ true → s ≤ site_count l.plan → IsSite l.plan s × ((row l.state s).home ≡ Some 0)
    more zero is_true high = absurd (cc)
    more (suc i) is_true high = let low : 1 ≤ suc i = omega arith in let lives = sym (is_in-homes_of l.state 0 (suc i) low) ∙ is_true in ((low, high), is_home-some (row l.state (suc i)).home 0 (both _ _ lives).1)

-- Each child that was seen gone is gone, and the only hart is alone in its site.
pub may_unregister : (l : LedgerState) (closed empty gone : List Bool) → IsPlain l closed empty gone → MayUnregister (view_of l closed empty gone) → IsAllowed l.plan l.state (Unregister 0 (owner l.state 0))
may_unregister l closed empty gone is may = let home = owner_home l is.ledger is.one may.home in
    (first l.plan is.one, home.0, refl, home.1, (λ g second n. let one = is.one in absurd (n (omega arith))), (λ c site up. is.seen_gone c site (may.children c site up)))

-- The only hart is the home of its owner, so this case doesn't occur.
pub may_yield : (l : LedgerState) → IsLedger l → l.plan.harts ≡ 1 → 0 < owner l.state 0 → is_in (homes_of l.state 0) (owner l.state 0) ≡ false → IsAllowed l.plan l.state (Yield 0 (owner l.state 0))
may_yield l is one low guest = let live = live_home l.plan is.plan l.entries l.state is.reached 0 (owner l.state 0) (first l.plan one) (omega arith) refl in
    (first l.plan one, (omega arith, owner_inside l is 0 (first l.plan one)), refl, (λ home. let here : lives_with l.state (owner l.state 0) 0 ≡ true = rw (live, home) refl in let not_here = sym (is_in-homes_of l.state 0 (owner l.state 0) (omega arith)) ∙ guest in cc))

-- The view after each kind of entry.
pub view-register : (l : LedgerState) (closed empty gone : List Bool) (s : ℕ) → IsLedger l → IsAllowed l.plan l.state (Register 0 s)
    → view_of (with_entry l (Register 0 s)) (without closed s) (without empty s) gone ≡ registered (view_of l closed empty gone) s
view-register l closed empty gone s is a = let there = owner-effect_same l.plan l.state (Register 0 s) (legal_position l.plan is.plan l.entries l.state is.reached) a in
    let home = homes_of-register l.plan l.state 0 s a.1.0 in
    (λ i. record (view_of (with_entry l (Register 0 s)) (without closed s) (without empty s) gone) { owner = there i; homes = home i })

pub view-skip : (l : LedgerState) (closed empty gone : List Bool) (s : ℕ) → IsLedger l → IsAllowed l.plan l.state (Skip 0 s) → view_of (with_entry l (Skip 0 s)) closed empty gone ≡ skipped (view_of l closed empty gone) s
view-skip l closed empty gone s is a = let home = homes_of-skip l.plan is.plan l.entries l.state is.reached 0 0 s a in
    (λ i. record (view_of (with_entry l (Skip 0 s)) closed empty gone) { homes = home i })

-- The port stays valid after a skip.
pub plain-skip : (l after : LedgerState) (closed empty gone : List Bool) (s : ℕ) → IsPlain l closed empty gone → IsAllowed l.plan l.state (Skip 0 s) → after ≡ with_entry l (Skip 0 s) → IsLedger after → IsPlain after closed empty gone
plain-skip l after closed empty gone s is a same kept = subst (λ (x : LedgerState). IsPlain x closed empty gone) (sym same) record {
  ledger = subst IsLedger same kept;
  one = is.one;
  closed_size = is.closed_size;
  empty_size = is.empty_size;
  gone_size = is.gone_size;
  seen_gone = λ c site seen. gone_lasts l.plan l.state (Skip 0 s) (legal_position l.plan is.ledger.plan l.entries l.state is.ledger.reached) a c site (is.seen_gone c site seen);
}

pub view-unregister : (l : LedgerState) (closed empty gone : List Bool) (s : ℕ) → IsLedger l → IsAllowed l.plan l.state (Unregister 0 s) → s ≡ owner l.state 0
    → view_of (with_entry l (Unregister 0 s)) (without closed s) (without empty s) gone ≡ unregistered (view_of l closed empty gone)
view-unregister l closed empty gone s is a o = let there = owner-effect_same l.plan l.state (Unregister 0 s) (legal_position l.plan is.plan l.entries l.state is.reached) a in
    let home = homes_of-unregister l.plan l.state 0 s a.1.0 in
    let left : ℕ → PortView = λ x. record (view_of l closed empty gone) { owner = parent l.plan x; mine = l.entries ++ Unregister 0 x ∷ []; homes = without (homes_of l.state 0) x; closed = without closed x; empty = without empty x } in
    let same : view_of (with_entry l (Unregister 0 s)) (without closed s) (without empty s) gone ≡ left s = (λ i. record (view_of (with_entry l (Unregister 0 s)) (without closed s) (without empty s) gone) { owner = there i; homes = home i }) in
    same ∙ ap left o

pub view-first : (p : Plan) → p.harts ≡ 1 → view_of (first_ledger p) (no_site p) (no_site p) (no_site p) ≡ first_view p
view-first p one = let there : owner (first_state p) 0 ≡ 0 = replicate_at p.harts 0 0 in let home = homes_of-first p 0 in
    (λ i. record (first_view p) { owner = there i; homes = home i })

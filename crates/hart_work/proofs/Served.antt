-- How facts on a hart that is alone carry over from one view to the next.
use Rattle.std.proofs.Common.{◌≡◌, ℕ, ◌∙◌, ◌++◌, ◌∷◌, [], List, true, false, Result, Ok, Err, refl, sym, ap, subst, arith}
use Rattle.std.specs.Prelude.{OnOk, IfOk, IsErr}
use Rattle.std.specs.Result.{is_err}
use Rattle.transfer_table.specs.Plan.{Plan}
use Rattle.transfer_table.specs.declared.entry.Entry.{Entry}
use Rattle.transfer_table.specs.declared.entry.Entry.TheVariants.{Register}
use Rattle.hart_port.specs.PortView.{PortView, registered}
use Rattle.site_steps.specs.Back.{IsBack}
use Rattle.hart_work.specs.Accounts.{Account}
use Rattle.sched_api.specs.declared.scheduler.Next.{Next}
use Rattle.hart_work.specs.Sites.{SiteFacts, Stays, Gives}

-- A relation of plan and site holds before iff it holds after a return.
pub at_back : (v w : PortView) → IsBack v w → (R : Plan → ℕ → Type 0) → R v.plan v.owner → R w.plan w.owner
at_back v w back R r = subst (λ p. R p w.owner) (sym back.plan) (subst (R v.plan) (sym back.owner) r)

pub back_at : (v w : PortView) → IsBack v w → (R : Plan → ℕ → Type 0) → R w.plan w.owner → R v.plan v.owner
back_at v w back R r = subst (λ p. R p v.owner) back.plan (subst (R w.plan) back.owner r)

-- What stays, stays from call to call.
pub stays_refl : {S J N : Type 0} (f : SiteFacts S J N) (s : S) → Stays f s s
stays_refl f s = record {
  construct = refl;
  number = refl;
  settled = λ settled. settled;
  owed = λ job owed. owed;
  serving = λ p around start es serving. serving;
  lent = λ job p around start es lent. lent;
  left = omega arith;
}

pub stays_then : {S J N : Type 0} (f : SiteFacts S J N) (s t u : S) → Stays f s t → Stays f t u → Stays f s u
stays_then f s t u a b = record {
  construct = b.construct ∙ a.construct;
  number = b.number ∙ a.number;
  settled = λ settled. b.settled (a.settled settled);
  owed = λ job owed. b.owed job (a.owed job owed);
  serving = λ p around start es serving. b.serving p around start es (a.serving p around start es serving);
  lent = λ job p around start es lent. b.lent job p around start es (a.lent job p around start es lent);
  left = (let first = a.left in let next = b.left in omega arith);
}

-- The action of a settled site that a hand is on.
pub gives_at : {S J N : Type 0} (f : SiteFacts S J N) (fresh : Plan → ℕ → List Entry → J → Type 0) {before at after : S} {next : Next J} → at ≡ before → f.settled before →
    (f.settled at → Gives f fresh at next after) → Gives f fresh before next after
gives_at f fresh {before} {at} {after} {next} is settled gives = subst (λ s. Gives f fresh s next after) is (gives (subst f.settled (sym is) settled))

-- The entries of a hart that has registered a site.
abbrev pub begun : PortView → ℕ → List Entry
begun h s = h.mine ++ Register h.hart s ∷ []

-- A hart that has registered a site without a request serves the site from then on.
pub serves_first : (Q : Account) (h a asked : PortView) (s n : ℕ) → s ≡ n → a ≡ registered h s → (a.alone ≡ true → asked ≡ a) → asked.alone ≡ a.alone →
    (h.alone ≡ true → Q h.plan n (begun h n) (begun h n)) → asked.alone ≡ true → Q asked.plan asked.owner (begun h s) asked.mine
serves_first Q h a asked s n number is quiet same q alone =
    let one : a.alone ≡ true = sym same ∙ alone in
    let at : h.alone ≡ true = sym (ap (λ (x : PortView). x.alone) is) ∙ one in
    subst (λ (v : PortView). Q v.plan v.owner (begun h s) v.mine) (sym (quiet one ∙ is)) (subst (λ k. Q h.plan k (begun h k) (begun h k)) (sym number) (q at))

-- A property of an Ok result, if the result isn't an error.
pub at_ok : {A E : Type 0} (r : Result A E) (Q : Type 0) → is_err r ≡ false → OnOk r Q → Q
at_ok (Ok x) Q is q = q
at_ok (Err e) Q is q = cc

pub on_err : {A E : Type 0} (r : Result A E) (Q : Type 0) → IsErr r → OnOk r Q
on_err (Ok x) Q is = cc
on_err (Err e) Q is = tt

pub on_ok : {A E : Type 0} (r : Result A E) (X Q : Type 0) → (X → Q) → IfOk r (λ _. X) → OnOk r Q
on_ok (Ok x) X Q then q = then q
on_ok (Err e) X Q then q = tt

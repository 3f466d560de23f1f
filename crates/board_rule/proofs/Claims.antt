-- The two steps by which a seat starts a call on a site: a claim, and a reserve.
use Rattle.std.proofs.Common.{◌≡◌, ◌≢◌, ℕ, ◌+◌, ◌-◌, ◌/◌, ◌%◌, ◌<◌, ◌≤◌, Bool, true, false, eqb, cond, eq-eqb, ne_eqb, [], ◌∷◌, ◌++◌, set, slice_index, refl, sym, ap, ◌∙◌, subst, arith, bit_or}
use mathlib.Core.Option.{some}
use mathlib.Core.Logic.{dite}
use native.Mathlib.Decide.{ℕ_discrete}
use lib.ListN.{get_elem?}
use prog.Atomic.{either}
use Rattle.transfer_table.specs.Plan.{Plan}
use Rattle.board_rule.specs.declared.view.View.{View}
use Rattle.board_rule.specs.declared.view.LookKind.TheVariants as look
use Rattle.board_rule.specs.declared.view.Doing.{Doing}
use Rattle.board_rule.specs.declared.view.Doing.TheVariants.{Idle, Claiming, Reserved}
use Rattle.board_rule.specs.Counts.{Load, no_load, weight, busy_at, part, load, guests}
use Rattle.board_rule.specs.Views.{claim_view, reserve_view, look_at}
use Rattle.board_rule.specs.Shown.{shown}
use Rattle.board_rule.specs.Rule.{Stands, IsSeat, IsSiteWord}
use Rattle.board_rule.proofs.Shown.{row-new, row-live, shown-homeless, shown-askless}
use Rattle.board_rule.specs.Steps.{MayClaim, MayReserve}
use Rattle.board_rule.specs.Laws.{St, after_step, Keeps}
use Rattle.board_rule.proofs.Loads.{part-elsewhere, part-here, part-idle, load-shift}
use Rattle.board_rule.proofs.Bits.{claimed_again, is_open}
use Rattle.board_rule.specs.declared.layout.Layout.{Layout}
use Rattle.board_rule.specs.Layouts.{insiders}
use Rattle.hart_port.specs.Words.{is_wanted, want_of}
use Rattle.std.proofs.lemmas.Bool.Decides.{nat_tests}
use Rattle.board_rule.proofs.SiteWords.{claimed_word, reserved_word, wanted_live, fields}
use Rattle.board_rule.proofs.SiteSteps.{site_step, sites_other, closing_with, closing_lasts}
use Rattle.board_rule.proofs.Looks.{look_step, few_wishes}

-- An idle seat starts a call on site x.
pub turns_to : (v : View) (x : ℕ) (d : Doing) → v.doing ≡ Idle → busy_at d ≡ x → (y : ℕ) → y ≢ x → part d y ≡ part v.doing y
turns_to v x d idle at y n = part-elsewhere d y (λ z. n (sym z ∙ at)) ∙ sym (ap (λ (q : Doing). part q y) idle ∙ part-idle y)

pub idle_part : (v : View) (x : ℕ) → v.doing ≡ Idle → part v.doing x ≡ no_load
idle_part v x idle = ap (λ (q : Doing). part q x) idle ∙ part-idle x

pub claim_keeps : (lay : Layout) (p : Plan) (s : St) (k : Stands lay p s) (id : ℕ) (v : View) (x : ℕ) → get_elem? s.views id ≡ some v → IsSeat v → MayClaim p v x
    → Keeps lay p s k (after_step s x (bit_or (slice_index s.words x) 1) id (claim_view x (slice_index s.words x) v))
claim_keeps lay p s k id v x at seat may =
    let n : ℕ = slice_index s.words x in
    let site = may.1 in let idle = may.0.0 in
    let know = (k.views id v at seat).sites in
    let word = k.sites x site in
    let with : Bool → View = λ b. record v { looks = v.looks ++ look_at x look.Claim n ∷ []; doing = cond b v.doing (Claiming x) } in
    let P : Bool → Type 0 = λ b. Keeps lay p s k (after_step s x (bit_or n 1) id (with b)) in
    dite (ℕ_discrete (n % 2) 1)
    (λ odd. subst P (sym (eq-eqb (n % 2) 1 odd)) (look_step lay p s k id v v.marks (v.looks ++ look_at x look.Claim n ∷ []) x (bit_or n 1) at seat idle (claimed_again n odd) know))
    (λ even. let w : View = with false in
    let shift = load-shift x s.views id v w no_load (weight (Claiming x)) at (idle_part v x idle) (part-here (Claiming x) x refl) in
    let c : Load = load x s.views in let c' : Load = load x (set s.views id w) in
    let done = claimed_word n (k.closing x) c c' (shown k.journal k.table x) (insiders lay p k.table x) x shift even word in
    let r2 : c'.reserves + 0 ≡ c.reserves + 0 = shift.reserves in let r3 : c'.lands + 0 ≡ c.lands + 0 = shift.lands in let r4 : c'.leaves + 0 ≡ c.leaves + 0 = shift.leaves in
    subst P (sym (ne_eqb (n % 2) 1 even)) (site_step lay p s k id v (Claiming x) v.marks (v.looks ++ look_at x look.Claim n ∷ []) x (bit_or n 1) (k.closing x) at seat site
    (turns_to v x (Claiming x) idle refl) (λ z. z) (λ _. omega arith) done.1 (site, may.2, row-new p k.plan k.journal k.table k.legal v.hart x (subst (λ (q : Plan). v.hart < q.harts) (k.views id v at seat).itself.plan seat) site (sym (k.views id v at seat).itself.owner ∙ may.2) done.0, may.0.1)
    (sites_other p k.table v.hart v.marks k.closing (closing_with k.closing x (k.closing x)) (guests lay p k.table s.views) (guests lay p k.table s.views) (closing_lasts k.closing x (k.closing x) (λ z. z)) (λ _ _ z. z) know)))

-- A word wants a hart.
pub record Wants (w : ℕ) : Type 0 where
  pub unclosed : w / 2 % 2 ≢ 1
  pub some : want_of w ≢ 0

pub wants : (w : ℕ) → is_wanted w ≡ true → Wants w
wants w is = record { unclosed = λ z. absurd (grind (arith, nat_tests)); some = λ z. absurd (grind (arith, nat_tests)) }

pub reserve_keeps : (lay : Layout) (p : Plan) (s : St) (k : Stands lay p s) (id : ℕ) (v : View) (x w : ℕ) → get_elem? s.views id ≡ some v → IsSeat v → MayReserve p v x w
    → Keeps lay p s k (after_step s x (either (eqb (slice_index s.words x) w) (w - 256 + 65536) (slice_index s.words x)) id (reserve_view x w (slice_index s.words x) v))
reserve_keeps lay p s k id v x w at seat may =
    let n : ℕ = slice_index s.words x in
    let site = may.1 in let idle = may.0.0 in
    let know = (k.views id v at seat).sites in
    let with : Bool → View = λ b. record v { looks = v.looks ++ look_at x look.Reserve n ∷ []; doing = cond b (Reserved x) v.doing } in
    let P : Bool → Type 0 = λ b. Keeps lay p s k (after_step s x (either b (w - 256 + 65536) n) id (with b)) in
    dite (ℕ_discrete n w)
    (λ hit. let word : IsSiteWord w (k.closing x) (load x s.views) (shown k.journal k.table x) (insiders lay p k.table x) = subst (λ (q : ℕ). IsSiteWord q (k.closing x) (load x s.views) (shown k.journal k.table x) (insiders lay p k.table x)) hit (k.sites x site) in
    let f = fields w (k.closing x) (load x s.views) (shown k.journal k.table x) (insiders lay p k.table x) (few_wishes lay p s k x site) word in
    let wanted = wants w may.3 in
    let unclosed : k.closing x ≡ false = is_open (k.closing x) (let a = f.closing in let b = wanted.unclosed in omega arith) in
    let some_want : 1 ≤ word.want = let a = f.wanted in let b = wanted.some in omega arith in
    let live = wanted_live w (k.closing x) (load x s.views) (shown k.journal k.table x) (insiders lay p k.table x) (shown-homeless p k.plan k.journal k.table k.legal x site) (shown-askless p k.plan k.journal k.table k.legal x site) word unclosed some_want in
    let u : View = with true in
    let shift = load-shift x s.views id v u no_load (weight (Reserved x)) at (idle_part v x idle) (part-here (Reserved x) x refl) in
    subst P (sym (eq-eqb n w hit)) (site_step lay p s k id v (Reserved x) v.marks (v.looks ++ look_at x look.Reserve n ∷ []) x (w - 256 + 65536) (k.closing x) at seat site
    (turns_to v x (Reserved x) idle refl) (λ z. z) (λ z. absurd (cc)) (reserved_word w (k.closing x) (load x s.views) (load x (set s.views id u)) (shown k.journal k.table x) (insiders lay p k.table x) x shift live word some_want) (site, may.2, row-live p k.plan k.journal k.table k.legal x live, may.0.1)
    (sites_other p k.table v.hart v.marks k.closing (closing_with k.closing x (k.closing x)) (guests lay p k.table s.views) (guests lay p k.table s.views) (closing_lasts k.closing x (k.closing x) (λ z. z)) (λ _ _ z. z) know)))
    (λ miss. subst P (sym (ne_eqb n w miss)) (look_step lay p s k id v v.marks (v.looks ++ look_at x look.Reserve n ∷ []) x n at seat idle refl know))

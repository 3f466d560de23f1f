-- Bounds on the words of sites.
use Rattle.std.proofs.Common.{◌≡◌, ◌≢◌, ℕ, zero, suc, ◌+◌, ◌-◌, ◌<◌, ◌≤◌, ◌==◌, ◌&&◌, not, Bool, true, false, if◌then◌else◌, eq-eqb, ne_eqb, List, [], ◌∷◌, slice_index, refl, sym, ap, ◌∙◌, subst, arith}
use mathlib.Core.Option.{some}
use mathlib.Core.Logic.{dite}
use native.Mathlib.Decide.{ℕ_discrete, dec_le}
use lib.ListN.{get_elem?}
use Rattle.transfer_table.specs.Plan.{Plan, IsHart, IsSite, parent, is_within}
use Rattle.board_rule.specs.declared.layout.Layout.{Layout}
use Rattle.board_rule.specs.declared.layout.Layout.TheVariants.{Guests}
use Rattle.board_rule.specs.Layouts.{insiders}
use Rattle.board_rule.proofs.Layouts.{few_insiders}
use Rattle.board_rule.specs.declared.view.View.{View}
use Rattle.board_rule.specs.declared.view.Doing.{Doing}
use Rattle.board_rule.specs.declared.view.Doing.TheVariants.{Idle, Claiming, Crediting, Reserved, Landing, Leaving, Sealing}
use Rattle.transfer_table.specs.Counts.{one_if}
use Rattle.board_rule.specs.Sums.{total}
use Rattle.board_rule.specs.Counts.{numbered, guests, weight, busy_at, Load, part, load}
use Rattle.board_rule.specs.Shown.{shown}
use Rattle.board_rule.specs.Rule.{Stands, IsSeat, DoesRight}
use Rattle.board_rule.specs.Laws.{St}
use Rattle.board_rule.proofs.Loads.{part-here, part-elsewhere}
use Rattle.board_rule.proofs.BoardSteps.{in_plan}
use Rattle.board_rule.proofs.Looks.{few_harts, few_wishes}
use Rattle.board_rule.proofs.SiteWords.{fields}
use Rattle.transfer_table.specs.Guests.{guest_at, guests_below}
use Rattle.transfer_table.proofs.Ways.{parent_outside, found_within}
use Rattle.transfer_table.proofs.GuestCounts.{small}
use Rattle.transfer_table.proofs.Changes.{outsider, at_home}
use Rattle.board_rule.proofs.Lasts.{last_owner}
use Rattle.board_rule.specs.StepLaws.{GuestsAreShown, GuestsAreFew}
use Rattle.board_rule.proofs.Totals.{total-none}
use Rattle.board_rule.proofs.Shown.{row-live, shown-wishes}
use Rattle.transfer_table.proofs.Homes.{legal_home}
use Rattle.transfer_table.proofs.Balance.{legal_wishes}
use Rattle.transfer_table.specs.Table.{owner, row, is_home}
use Rattle.transfer_table.specs.declared.entry.Stage.{Stage}
use Rattle.transfer_table.specs.declared.entry.Stage.TheVariants.{New, Live, Gone}
use Rattle.transfer_table.specs.declared.entry.Entry.TheVariants.{Yield}

-- 1 for the view of a hart below n
seat_below : ℕ → View → ℕ
seat_below zero v = 0
seat_below (suc n) v = numbered n v + seat_below n v

total-both : (f g : View → ℕ) (vs : List View) → total (λ v. f v + g v) vs ≡ total f vs + total g vs
total-both f g [] = refl
total-both f g (v ∷ vs) = let r = total-both f g vs in omega arith

total-le : (f g : View → ℕ) (vs : List View) → ((j : ℕ) (v : View) → get_elem? vs j ≡ some v → f v ≤ g v) → total f vs ≤ total g vs
total-le f g [] le = omega arith
total-le f g (v ∷ vs) le = let a = le 0 v refl in let r = total-le f g vs (λ j u is. le (suc j) u is) in omega arith

counted : (n h : ℕ) (v : View) → v.hart ≡ h → h < n → 1 ≤ seat_below n v
unfolding seat_below
counted zero h v is lt = absurd (omega arith)
counted (suc n) h v is lt = dite (ℕ_discrete h n) (λ e. let one : numbered n v ≡ 1 = ap one_if (eq-eqb v.hart n (is ∙ e)) in omega arith) (λ less. let r = counted n h v is (omega arith) in omega arith)

-- Each hart has at most one seat.
few_seats : (lay : Layout) (p : Plan) (s : St) (k : Stands lay p s) (n : ℕ) → n ≤ p.harts → total (seat_below n) s.views ≤ n
unfolding seat_below
few_seats lay p s k zero le = let z = none s.views in omega arith
  where
    none : (vs : List View) → total (seat_below zero) vs ≡ 0
    none [] = refl
    none (v ∷ vs) = let r = none vs in omega arith
few_seats lay p s k (suc n) le = let r = few_seats lay p s k n (omega arith) in let one = k.seats n (omega arith) in let b = total-both (numbered n) (seat_below n) s.views in omega arith

-- The harts of a load that are on the way in or out.
abbrev on_way : Load → ℕ
on_way l = l.reserves + l.lands + l.leaves

one_way : (d : Doing) → on_way (weight d) ≤ 1
one_way Idle = omega arith
one_way (Claiming x) = omega arith
one_way (Crediting x k) = omega arith
one_way (Reserved x) = omega arith
one_way (Landing x) = omega arith
one_way (Leaving x) = omega arith
one_way (Sealing x) = omega arith

-- A seat is on its way to at most one site.
at_most_one : (d : Doing) (x : ℕ) → on_way (part d x) ≤ 1
at_most_one d x = dite (ℕ_discrete (busy_at d) x)
    (λ e. let w = one_way d in let P : Load → Type 0 = λ l. on_way l ≤ 1 in subst P (sym (part-here d x e)) w)
    (λ n. let P : Load → Type 0 = λ l. on_way l ≤ 1 in subst P (sym (part-elsewhere d x n)) (let z : 0 + 0 + 0 ≤ 1 = omega arith in z))

-- 1 if a view's hart is on the way in or out at a site
abbrev way : ℕ → View → ℕ
way x v = on_way (part v.doing x)

no_way : (v : View) (x : ℕ) (d : Doing) → v.doing ≡ d → on_way (weight d) ≡ 0 → way x v ≡ 0
no_way v x d is none = dite (ℕ_discrete (busy_at d) x)
    (λ e. let P : Load → Type 0 = λ l. on_way l ≡ 0 in subst P (sym (ap (λ (q : Doing). part q x) is ∙ part-here d x e)) none)
    (λ n. let P : Load → Type 0 = λ l. on_way l ≡ 0 in subst P (sym (ap (λ (q : Doing). part q x) is ∙ part-elsewhere d x n)) refl)

elsewhere : (v : View) (x : ℕ) (d : Doing) → v.doing ≡ d → busy_at d ≢ x → way x v ≡ 0
elsewhere v x d is n = let P : Load → Type 0 = λ l. on_way l ≡ 0 in subst P (sym (ap (λ (q : Doing). part q x) is ∙ part-elsewhere d x n)) refl

-- The sum over all seats is the number of harts on the way.
ways_are : (x : ℕ) (vs : List View) → total (way x) vs ≡ on_way (load x vs)
ways_are x vs =
    let a = total-both (λ v. (part v.doing x).reserves) (λ v. (part v.doing x).lands) vs in
    let b = total-both (λ v. (part v.doing x).reserves + (part v.doing x).lands) (λ v. (part v.doing x).leaves) vs in omega arith

-- At most as many harts are on the way as there are harts.
pub few_on_way : (lay : Layout) (p : Plan) (s : St) (k : Stands lay p s) (x : ℕ) → on_way (load x s.views) ≤ p.harts
few_on_way lay p s k x =
    let all = ways_are x s.views in
    let le = total-le (way x) (seat_below p.harts) s.views (λ j v is. dite (dec_le (suc v.hart) v.plan.harts)
    (λ seat. let one = at_most_one v.doing x in let c = counted p.harts v.hart v refl (in_plan lay p s k j v is seat) in omega arith)
    (λ not. let none = no_way v x Idle (ap (λ (u : View). u.doing) (k.spent j v is not)) refl in omega arith)) in
    let few = few_seats lay p s k p.harts (omega arith) in omega arith

-- A site's word is below 2^21, by the numbers of seats and of harts inside. So the sum that an exchange stores can't overflow.
pub small_word : (lay : Layout) (p : Plan) (s : St) (k : Stands lay p s) (x : ℕ) → IsSite p x → slice_index s.words x < 2097152
small_word lay p s k x site =
    let i = k.sites x site in let f = fields (slice_index s.words x) (k.closing x) (load x s.views) (shown k.journal k.table x) (insiders lay p k.table x) (few_wishes lay p s k x site) i in
    let shows = f.shows in let few = few_on_way lay p s k x in let inner = few_insiders lay p k.plan k.journal k.table k.legal x site in let harts = few_harts p k.plan in omega arith

-- ---- no site has as many guests as there are harts, if the word counts those inside

-- The same for hart n alone, else 0; and summed over the harts below n.
abbrev way_of : ℕ → ℕ → View → ℕ
way_of x n v = if v.hart == n then way x v else 0

ways_below : ℕ → ℕ → View → ℕ
ways_below x zero v = 0
ways_below x (suc n) v = way_of x n v + ways_below x n v

module _ (p : Plan) (s : St) (k : Stands Guests p s) (x : ℕ) (site : IsSite p x) where
  -- A hart that is on the way in, or leaving, is in the site's parent.
  outside : (j : ℕ) (v : View) → get_elem? s.views j ≡ some v → IsSeat v → is_within p x (owner k.table v.hart) ≡ true → way x v ≡ 0
  outside j v at seat inner = by_doing v.doing refl (k.views j v at seat).does
    where
      away : owner k.table v.hart ≡ parent p x → ⊥
      away own = let out : is_within p x (owner k.table v.hart) ≡ false = ap (is_within p x) own ∙ parent_outside p k.plan x site in cc

      by_doing : (d : Doing) → v.doing ≡ d → DoesRight Guests p k.journal k.table v v.doing → way x v ≡ 0
      by_doing Idle is r = no_way v x Idle is refl
      by_doing (Claiming y) is r = no_way v x (Claiming y) is refl
      by_doing (Crediting y n) is r = no_way v x (Crediting y n) is refl
      by_doing (Sealing y) is r = no_way v x (Sealing y) is refl
      by_doing (Reserved y) is r = dite (ℕ_discrete y x)
          (λ z. let R : Doing → Type 0 = λ q. DoesRight Guests p k.journal k.table v q in let right : DoesRight Guests p k.journal k.table v (Reserved y) = subst R is r in
          absurd (away (sym (k.views j v at seat).itself.owner ∙ right.1 ∙ ap (parent p) z)))
          (λ n. elsewhere v x (Reserved y) is n)
      by_doing (Landing y) is r = let R : Doing → Type 0 = λ q. DoesRight Guests p k.journal k.table v q in let right : DoesRight Guests p k.journal k.table v (Landing y) = subst R is r in
          absurd (let z = right.2 in cc)
      by_doing (Leaving y) is r = dite (ℕ_discrete y x)
          (λ z. let R : Doing → Type 0 = λ q. DoesRight Guests p k.journal k.table v q in let right : DoesRight Guests p k.journal k.table v (Leaving y) = subst R is r in let last = right.1 in
          absurd (away (last_owner p k.plan k.journal k.table k.legal v.hart last.0 (Yield v.hart y) (sym (k.views j v at seat).itself.mine ∙ last.1) ∙ ap (parent p) z)))
          (λ n. elsewhere v x (Leaving y) is n)

  of_spent : (j : ℕ) (v : View) → get_elem? s.views j ≡ some v → ¬ IsSeat v → way x v ≡ 0
  of_spent j v at not = no_way v x Idle (ap (λ (u : View). u.doing) (k.spent j v at not)) refl

  -- At most one seat of a hart is on the way.
  one_of : (n : ℕ) → IsHart p n → total (way_of x n) s.views ≤ 1
  one_of n hart = let le = total-le (way_of x n) (numbered n) s.views (λ j v at. by_bit v (v.hart == n)) in let one = k.seats n hart in omega arith
    where
      by_bit : (v : View) (b : Bool) → (if b then way x v else 0) ≤ one_if b
      by_bit v true = at_most_one v.doing x
      by_bit v false = omega arith

  -- A hart that is inside isn't on the way.
  none_of : (n : ℕ) → is_within p x (owner k.table n) ≡ true → total (way_of x n) s.views ≡ 0
  none_of n inner = total-none (way_of x n) s.views (λ j v at. dite (ℕ_discrete v.hart n)
      (λ z. dite (dec_le (suc v.hart) v.plan.harts)
      (λ seat. zero_if (v.hart == n) (way x v) (outside j v at seat (ap (λ (q : ℕ). is_within p x (owner k.table q)) z ∙ inner)))
      (λ not. zero_if (v.hart == n) (way x v) (of_spent j v at not)))
      (λ m. ap (λ (b : Bool). if b then way x v else 0) (ne_eqb v.hart n m)))
    where
      zero_if : (b : Bool) (n : ℕ) → n ≡ 0 → (if b then n else 0) ≡ 0
      zero_if true n z = z
      zero_if false n z = refl

  -- A hart counts once.
  once : (n : ℕ) → IsHart p n → guest_at p k.table x n + total (way_of x n) s.views ≤ 1
  once n hart = by_bit (is_within p x (owner k.table n)) refl
    where
      by_bit : (b : Bool) → is_within p x (owner k.table n) ≡ b → guest_at p k.table x n + total (way_of x n) s.views ≤ 1
      by_bit true e = let none = none_of n e in let g = small (not (is_home (row k.table x).home n) && is_within p x (owner k.table n)) in omega arith
      by_bit false e = let none = outsider p k.table x n e in let one = one_of n hart in omega arith

  sums : (n : ℕ) → n ≤ p.harts → guests_below p k.table x n + total (ways_below x n) s.views ≤ n
  unfolding ways_below
  sums zero le = let z = none s.views in omega arith
    where
      none : (vs : List View) → total (ways_below x zero) vs ≡ 0
      none [] = refl
      none (v ∷ vs) = let r = none vs in omega arith
  sums (suc n) le = let r = sums n (omega arith) in let one = once n (omega arith) in let b = total-both (way_of x n) (ways_below x n) s.views in omega arith

  -- The home doesn't count.
  but_one : (h n : ℕ) → h < n → n ≤ p.harts → guest_at p k.table x h ≡ 0 → total (way_of x h) s.views ≡ 0 → guests_below p k.table x n + total (ways_below x n) s.views ≤ n - 1
  unfolding ways_below
  but_one h zero lt le g w = absurd (omega arith)
  but_one h (suc n) lt le g w = let b = total-both (way_of x n) (ways_below x n) s.views in dite (ℕ_discrete h n)
      (λ z. let g' : guest_at p k.table x n ≡ 0 = ap (guest_at p k.table x) (sym z) ∙ g in let w' : total (way_of x n) s.views ≡ 0 = ap (λ (q : ℕ). total (way_of x q) s.views) (sym z) ∙ w in let r = sums n (omega arith) in omega arith)
      (λ m. let r = but_one h n (omega arith) (omega arith) g w in let one = once n (omega arith) in omega arith)

  covers_all : (n h : ℕ) (v : View) → v.hart ≡ h → h < n → way x v ≤ ways_below x n v
  unfolding ways_below
  covers_all zero h v is lt = absurd (omega arith)
  covers_all (suc n) h v is lt = dite (ℕ_discrete h n)
      (λ e. let one : way_of x n v ≡ way x v = ap (λ (b : Bool). if b then way x v else 0) (eq-eqb v.hart n (is ∙ e)) in omega arith)
      (λ less. let r = covers_all n h v is (omega arith) in omega arith)

  all_ways : on_way (load x s.views) ≤ total (ways_below x p.harts) s.views
  all_ways = let all = ways_are x s.views in
      let le = total-le (way x) (ways_below x p.harts) s.views (λ j v at. dite (dec_le (suc v.hart) v.plan.harts)
      (λ seat. covers_all p.harts v.hart v refl (in_plan Guests p s k j v at seat))
      (λ not. let z = of_spent j v at not in omega arith)) in omega arith

  no_guest : (row k.table x).stage ≢ Live → guests Guests p k.table s.views x ≡ 0
  no_guest idle = (k.sites x site).idle (λ live. idle (row-live p k.plan k.journal k.table k.legal x live))

  pub few_guests : guests Guests p k.table s.views x ≤ p.harts - 1
  few_guests = by_stage (row k.table x).stage refl
    where
      by_stage : (g : Stage) → (row k.table x).stage ≡ g → guests Guests p k.table s.views x ≤ p.harts - 1
      by_stage New e = let none = no_guest (λ z. let bad = sym z ∙ e in cc) in omega arith
      by_stage Gone e = let none = no_guest (λ z. let bad = sym z ∙ e in cc) in omega arith
      by_stage Live e = let home = legal_home p k.plan k.journal k.table k.legal x site e in
          let inner = found_within p k.plan x (owner k.table home.0) site home.3 in
          let r = but_one home.0 p.harts home.2 (omega arith) (at_home p k.table x home.0 home.1) (none_of home.0 inner) in let a = all_ways in omega arith

pub guests_are_shown : GuestsAreShown
guests_are_shown p s k x site = (
  (fields (slice_index s.words x) (k.closing x) (load x s.views) (shown k.journal k.table x) (insiders Guests p k.table x) (few_wishes Guests p s k x site) (k.sites x site)).shows,
  no_guest p s k x site,
)

pub guests_are_few : GuestsAreFew
guests_are_few p s k x site = (
  few_guests p s k x site,
  (let w = (k.sites x site).wishes in let same = shown-wishes p k.plan k.journal k.table k.legal x site in let l = legal_wishes p k.plan k.journal k.table k.legal x site in omega (arith, l.0, l.1)),
)

-- The steps by which a hart moves between a site and its parent: enter, yield, unregister.
use Rattle.std.proofs.Common.{◌≡◌, ◌≢◌, ℕ, ◌+◌, ◌≤◌, Bool, true, false, ◌&&◌, eq-eqb, [], ◌∷◌, ◌++◌, set, slice_index, refl, sym, ap, ◌∙◌, subst, arith, Some, ⊎_elim, inl, length-set}
use mathlib.Core.Option.{some}
use mathlib.Core.Logic.{dite}
use native.Mathlib.Decide.{ℕ_discrete}
use lib.ListN.{get_elem?}
use Rattle.transfer_table.specs.Plan.{Plan, IsSite, parent}
use Rattle.transfer_table.specs.Table.{TableState, effect_of, row, is_live, is_home, lives_with}
use Rattle.transfer_table.specs.Allowed.{IsAllowed}
use Rattle.transfer_table.specs.declared.entry.Row.{Row}
use Rattle.transfer_table.specs.declared.entry.Stage.TheVariants.{Live, Gone}
use Rattle.transfer_table.specs.declared.entry.Entry.{Entry}
use Rattle.transfer_table.specs.declared.entry.Entry.TheVariants.{Enter, Yield, Unregister}
use Rattle.transfer_table.proofs.Positions.{Fits, legal_position}
use Rattle.transfer_table.proofs.Effects.{owner-effect_other, row-effect_same, row-effect_other}
use Rattle.transfer_table.proofs.Bounds.{legal_owner}
use Rattle.transfer_table.proofs.Stages.{gone_lasts}
use Rattle.hart_port.specs.PortView.{is_in, without}
use Rattle.board_rule.specs.declared.view.View.{View}
use Rattle.board_rule.specs.declared.view.Marks.{Marks}
use Rattle.board_rule.specs.declared.view.Doing.{Doing}
use Rattle.board_rule.specs.declared.view.Doing.TheVariants.{Reserved, Sealing}
use Rattle.board_rule.specs.Counts.{Load, no_load, weight, busy_at, part, load, guests}
use Rattle.board_rule.specs.Views.{enter_view, yield_view, unregister_view, left_marks}
use Rattle.board_rule.specs.Shown.{started}
use Rattle.board_rule.specs.Rule.{Stands, KnowsSites, IsSeat, DoesRight, SawChildren}
use Rattle.board_rule.specs.Steps.{MayYield, MayUnregister}
use Rattle.board_rule.specs.Laws.{St, Appends}
use Rattle.board_rule.specs.StepLaws.{after_tick}
use Rattle.board_rule.specs.declared.layout.Layout.{Layout}
use Rattle.board_rule.specs.Layouts.{entries_of, Adds, insiders, after_enter, after_yield}
use Rattle.board_rule.proofs.Layouts.{insiders_stay, comes_as, enter-here, enter-elsewhere, enter_right, goes_as, yield-here, yield-elsewhere, yield_right}
use Rattle.board_rule.proofs.Totals.{total-one}
use Rattle.board_rule.proofs.Loads.{part-elsewhere, part-here, load-shift}
use Rattle.board_rule.proofs.Sets.{without-same, without-other, without-in}
use Rattle.board_rule.proofs.SiteWords.{entered_word, yielded_word, unregistered_word}
use Rattle.board_rule.proofs.BoardSteps.{board_step, in_plan, sites_moved}
use Rattle.board_rule.proofs.Claims.{turns_to, idle_part}
use Rattle.board_rule.proofs.Looks.{home_live}
use Rattle.board_rule.proofs.Asked.{is_home-some}
use Rattle.board_rule.proofs.Registers.{lives_with-kept, word_row}
use Rattle.board_rule.proofs.Shown.{shown-live, shown-wishes, shown-after}

-- ---- enter

-- A seat that is reserved to the site is on its way in.
reserved_one : (lay : Layout) (p : Plan) (s : St) (k : Stands lay p s) (id : ℕ) (v : View) (x : ℕ) → get_elem? s.views id ≡ some v → v.doing ≡ Reserved x → 1 ≤ (load x s.views).reserves
reserved_one lay p s k id v x at does = let r = total-one (λ (q : View). (part q.doing x).reserves) s.views id v at in
    let one : (part v.doing x).reserves ≡ 1 = ap (λ (q : Doing). (part q x).reserves) does ∙ ap (λ (l : Load). l.reserves) (part-here (Reserved x) x refl) in omega arith

pub enter_allowed : (lay : Layout) (p : Plan) (s : St) (k : Stands lay p s) (id : ℕ) (v : View) (x : ℕ) → get_elem? s.views id ≡ some v → IsSeat v → v.doing ≡ Reserved x → IsAllowed p k.table (Enter v.hart x)
enter_allowed lay p s k id v x at seat does =
    let know = k.views id v at seat in
    let R : Doing → Type 0 = λ q. DoesRight lay p k.journal k.table v q in
    let right : DoesRight lay p k.journal k.table v (Reserved x) = subst R does know.does in
    let wishes = (k.sites x right.0).wishes in let same = shown-wishes p k.plan k.journal k.table k.legal x right.0 in let one = reserved_one lay p s k id v x at does in
    (in_plan lay p s k id v at seat, right.0, sym know.itself.owner ∙ right.1, right.2, omega arith)

pub enter_appends : (lay : Layout) (p : Plan) (s : St) (k : Stands lay p s) (id : ℕ) (v : View) (x amount : ℕ) → get_elem? s.views id ≡ some v → IsSeat v → v.doing ≡ Reserved x → Adds lay v.owner v.hart x amount
    → Appends lay p s k (Enter v.hart (busy_at v.doing)) (after_tick lay s amount id (λ place. enter_view lay place v))
enter_appends lay p s k id v z amount at seat reserved adds =
    let x : ℕ = busy_at v.doing in
    let same : x ≡ z = ap busy_at reserved in
    let does : v.doing ≡ Reserved x = reserved ∙ ap Reserved (sym same) in
    let know = k.views id v at seat in
    let R : Doing → Type 0 = λ q. DoesRight lay p k.journal k.table v q in
    let right : DoesRight lay p k.journal k.table v (Reserved x) = subst R does know.does in
    let site = right.0 in
    let h : ℕ = v.hart in let t : TableState = k.table in let e : Entry = Enter h x in
    let fits = legal_position p k.plan k.journal t k.legal in
    let allowed = enter_allowed lay p s k id v x at seat does in
    let adds_here : Adds lay v.owner v.hart x amount = subst (λ (q : ℕ). Adds lay v.owner v.hart q amount) (sym same) adds in
    let w : View = enter_view lay (entries_of lay (slice_index s.words 0)) v in
    let d : Doing = after_enter lay x in
    let was : part v.doing x ≡ weight (Reserved x) = ap (λ (q : Doing). part q x) does ∙ part-here (Reserved x) x refl in
    let shift = load-shift x s.views id v w (weight (Reserved x)) (weight d) at was (enter-here lay x) in
    let comes = comes_as lay p k.plan k.journal t h x k.legal allowed in
    let c2 = comes.reserves in let c5 = comes.leaves in let inner = comes.inside in let one = reserved_one lay p s k id v x at does in
    let r1 : (load x (set s.views id w)).reserves + 1 ≡ (load x s.views).reserves + (weight d).reserves = shift.reserves in let r2 : (load x (set s.views id w)).lands + 0 ≡ (load x s.views).lands + (weight d).lands = shift.lands in let r3 : (load x (set s.views id w)).leaves + 0 ≡ (load x s.views).leaves + (weight d).leaves = shift.leaves in
    board_step lay p s k id v e d v.marks x amount (entries_of lay (slice_index s.words 0)) at seat right.3 refl allowed refl adds_here refl
    (λ y n. enter-elsewhere lay x y n ∙ sym (ap (λ (q : Doing). part q y) does ∙ part-elsewhere (Reserved x) y (λ c. n (sym c))))
    (entered_word (slice_index s.words x) (k.closing x) (load x s.views) (load x (set s.views id w)) (weight d) (row t x) (insiders lay p t x) (insiders lay p (effect_of p t e) x) x shift comes (word_row (shown-live p k.plan k.journal t k.legal x site right.2) (k.sites x site)))
    (ap started right.2)
    (λ _ live. live)
    (omega arith)
    (λ j u apart there seat_u is_empty saw. let o = (k.views j u there seat_u).sites in let none = (o.drained x (o.empty x is_empty)).1 in absurd (omega arith))
    (enter_right lay p (k.journal ++ e ∷ []) (effect_of p t e) w x site (v.mine, refl))
    (sites_moved p t e fits allowed h v.marks k.closing (guests lay p k.table s.views) (guests lay p k.table s.views) (lives_with-kept p t e fits allowed (λ _. refl) refl refl h) (λ _ _. refl) (λ other _ _. absurd (other refl)) know.sites)

-- ---- yield

-- A hart comes out of a live site, so no seat has seen all children of the parent gone.
still_inside : (lay : Layout) (p : Plan) (s : St) (k : Stands lay p s) (j : ℕ) (u : View) (x : ℕ) → get_elem? s.views j ≡ some u → IsSeat u → IsSite p x → (row k.table x).stage ≡ Live → SawChildren p u.marks (parent p x) → ⊥
still_inside lay p s k j u x there seat site live saw = let gone = ((k.views j u there seat).sites.gone x (saw x site refl)).1 in let bad : is_live Gone ≡ true = sym (ap is_live gone) ∙ ap is_live live in cc

-- The owner of a hart that isn't in the base is live.
pub owner_live : (lay : Layout) (p : Plan) (s : St) (k : Stands lay p s) (id : ℕ) (v : View) → get_elem? s.views id ≡ some v → IsSeat v → v.owner ≢ 0 → IsSite p v.owner × ((row k.table v.owner).stage ≡ Live)
owner_live lay p s k id v at seat inside = let know = (k.views id v at seat).itself in let Q : ℕ → Type 0 = λ o. IsSite p o × ((row k.table o).stage ≡ Live) in
    subst Q (sym know.owner) (⊎_elim (λ z. absurd (inside (know.owner ∙ z))) (λ r. r) (legal_owner p k.plan k.journal k.table k.legal v.hart (in_plan lay p s k id v at seat)))

pub yield_allowed : (lay : Layout) (p : Plan) (s : St) (k : Stands lay p s) (id : ℕ) (v : View) → get_elem? s.views id ≡ some v → IsSeat v → MayYield v → IsAllowed p k.table (Yield v.hart v.owner)
yield_allowed lay p s k id v at seat may =
    let know = k.views id v at seat in
    let here = owner_live lay p s k id v at seat may.1 in
    (in_plan lay p s k id v at seat, here.0, sym know.itself.owner, (λ home. let lives : lives_with k.table v.owner v.hart ≡ true = rw (here.1, home) (eq-eqb v.hart v.hart refl) in let not_here = sym (know.sites.homes v.owner here.0) ∙ may.2 in cc))

pub yield_appends : (lay : Layout) (p : Plan) (s : St) (k : Stands lay p s) (id : ℕ) (v : View) (amount : ℕ) → get_elem? s.views id ≡ some v → IsSeat v → MayYield v → Adds lay v.owner v.hart (parent p v.owner) amount
    → Appends lay p s k (Yield v.hart v.owner) (after_tick lay s amount id (λ place. yield_view lay place v))
yield_appends lay p s k id v amount at seat may adds =
    let x : ℕ = v.owner in
    let know = k.views id v at seat in
    let idle = may.0.0 in
    let here = owner_live lay p s k id v at seat may.1 in
    let site = here.0 in
    let h : ℕ = v.hart in let t : TableState = k.table in let e : Entry = Yield h x in
    let fits = legal_position p k.plan k.journal t k.legal in
    let allowed = yield_allowed lay p s k id v at seat may in
    let w : View = yield_view lay (entries_of lay (slice_index s.words 0)) v in
    let d : Doing = after_yield lay x in
    let up : parent v.plan x ≡ parent p x = ap (λ (q : Plan). parent q x) know.itself.plan in
    let shift = load-shift x s.views id v w no_load (weight d) at (idle_part v x idle) (yield-here lay x) in
    let goes = goes_as lay p k.plan k.journal t h x k.legal allowed in
    let c2 = goes.reserves in let c3 = goes.lands in let inner = goes.inside in
    let r1 : (load x (set s.views id w)).reserves + 0 ≡ (load x s.views).reserves + (weight d).reserves = shift.reserves in let r2 : (load x (set s.views id w)).lands + 0 ≡ (load x s.views).lands + (weight d).lands = shift.lands in let r3 : (load x (set s.views id w)).leaves + 0 ≡ (load x s.views).leaves + (weight d).leaves = shift.leaves in
    board_step lay p s k id v e d v.marks (parent v.plan x) amount (entries_of lay (slice_index s.words 0)) at seat may.0.1 refl allowed up (subst (λ (q : ℕ). Adds lay v.owner v.hart q amount) (sym up) adds) refl
    (λ y n. yield-elsewhere lay x y n ∙ sym (idle_part v y idle))
    (yielded_word (slice_index s.words x) (k.closing x) (load x s.views) (load x (set s.views id w)) (weight d) (row t x) (insiders lay p t x) (insiders lay p (effect_of p t e) x) x shift goes (word_row (shown-live p k.plan k.journal t k.legal x site here.1) (k.sites x site)))
    (ap started here.1)
    (λ _ live. live)
    (omega arith)
    (λ j u apart there seat_u is_empty saw. still_inside lay p s k j u x there seat_u site here.1 saw)
    (yield_right lay p (k.journal ++ e ∷ []) (effect_of p t e) w x site (v.mine, refl))
    (sites_moved p t e fits allowed h v.marks k.closing (guests lay p k.table s.views) (guests lay p k.table s.views) (lives_with-kept p t e fits allowed (λ _. refl) refl refl h) (λ _ _. refl) (λ other _ _. absurd (other refl)) know.sites)

-- ---- unregister

-- What a seat knows of a site that it may unregister.
pub record MayLeave (p : Plan) (t : TableState) (closing : ℕ → Bool) (f : ℕ → ℕ) (h x : ℕ) : Type 0 where
  pub site : IsSite p x
  pub live : (row t x).stage ≡ Live
  pub home : (row t x).home ≡ Some h
  pub closed : closing x ≡ true
  pub none : f x ≡ 0

pub may_leave : (lay : Layout) (p : Plan) (s : St) (k : Stands lay p s) (id : ℕ) (v : View) → get_elem? s.views id ≡ some v → IsSeat v → MayUnregister p v → MayLeave p k.table k.closing (guests lay p k.table s.views) v.hart v.owner
may_leave lay p s k id v at seat may =
    let know = (k.views id v at seat).sites in
    let drained = know.drained v.owner (know.empty v.owner may.1) in
    let closed = know.closed v.owner drained.0 in
    let home = home_live lay p s k id v v.owner at seat closed.0 in
    record { site = home.0; live = home.1; home = is_home-some (row k.table v.owner).home v.hart home.2; closed = closed.1; none = drained.1 }

pub unregister_allowed : (lay : Layout) (p : Plan) (s : St) (k : Stands lay p s) (id : ℕ) (v : View) → get_elem? s.views id ≡ some v → IsSeat v → MayUnregister p v → IsAllowed p k.table (Unregister v.hart v.owner)
unregister_allowed lay p s k id v at seat may =
    let know = k.views id v at seat in
    let leave = may_leave lay p s k id v at seat may in
    (in_plan lay p s k id v at seat, leave.site, sym know.itself.owner, leave.home, know.sites.alone v.owner may.1 may.2, (λ c child up. (know.sites.gone c (may.2 c child up)).1))

sites_left : (p : Plan) (t : TableState) (h x : ℕ) → Fits p t → IsAllowed p t (Unregister h x) → (m : Marks) (c : ℕ → Bool) (f : ℕ → ℕ) → KnowsSites p t h m c f → KnowsSites p (effect_of p t (Unregister h x)) h (left_marks x m) c f
sites_left p t h x fits a m c f k =
    let u : TableState = effect_of p t (Unregister h x) in
    let site = a.1 in record {
      sized = record { homes = length-set m.homes x false ∙ k.sized.homes; closed = length-set m.closed x false ∙ k.sized.closed; drained = length-set m.drained x false ∙ k.sized.drained; empty = length-set m.empty x false ∙ k.sized.empty; gone = k.sized.gone };
      homes = λ y is. dite (ℕ_discrete y x)
          (λ e. let Q : ℕ → Type 0 = λ q. is_in (without m.homes x) q ≡ lives_with u q h in
          subst Q (sym e) (without-same m.homes x ∙ sym (ap (λ (r : Row). is_live r.stage && is_home r.home h) (row-effect_same p t (Unregister h x) fits a))))
          (λ n. without-other m.homes x y n ∙ (k.homes y is ∙ sym (ap (λ (r : Row). is_live r.stage && is_home r.home h) (row-effect_other p t (Unregister h x) y fits a is n refl))));
      homes_in = λ y is. k.homes_in y (without-in m.homes x y is).1;
      closed = λ y is. let r = without-in m.closed x y is in let old = k.closed y r.1 in (without-other m.homes x y r.0 ∙ old.0, old.1);
      drained = λ y is. let r = without-in m.drained x y is in let old = k.drained y r.1 in (without-other m.closed x y r.0 ∙ old.0, old.1);
      empty = λ y is. let r = without-in m.empty x y is in without-other m.drained x y r.0 ∙ k.empty y r.1;
      alone = λ y is saw g hart other own. let r = without-in m.empty x y is in k.alone y r.1 saw g hart other (sym (owner-effect_other p t (Unregister h x) g other) ∙ own);
      gone = λ y is. let r = k.gone y is in (r.0, gone_lasts p t (Unregister h x) fits a y r.0 r.1);
    }

pub unregister_appends : (lay : Layout) (p : Plan) (s : St) (k : Stands lay p s) (id : ℕ) (v : View) (amount : ℕ) → get_elem? s.views id ≡ some v → IsSeat v → MayUnregister p v → Adds lay v.owner v.hart (parent p v.owner) amount
    → Appends lay p s k (Unregister v.hart v.owner) (after_tick lay s amount id (λ place. unregister_view place v))
unregister_appends lay p s k id v amount at seat may adds =
    let x : ℕ = v.owner in
    let know = k.views id v at seat in
    let idle = may.0.0 in
    let leave = may_leave lay p s k id v at seat may in
    let site = leave.site in
    let h : ℕ = v.hart in let t : TableState = k.table in let e : Entry = Unregister h x in
    let fits = legal_position p k.plan k.journal t k.legal in
    let allowed = unregister_allowed lay p s k id v at seat may in
    let w : View = unregister_view (entries_of lay (slice_index s.words 0)) v in
    let up : parent v.plan x ≡ parent p x = ap (λ (q : Plan). parent q x) know.itself.plan in
    let shift = load-shift x s.views id v w no_load (weight (Sealing x)) at (idle_part v x idle) (part-here (Sealing x) x refl) in
    let r1 : (load x (set s.views id w)).reserves + 0 ≡ (load x s.views).reserves + 0 = shift.reserves in let r2 : (load x (set s.views id w)).lands + 0 ≡ (load x s.views).lands + 0 = shift.lands in let r3 : (load x (set s.views id w)).leaves + 0 ≡ (load x s.views).leaves + 0 = shift.leaves in
    let none = leave.none in
    let inner = insiders_stay lay p k.plan k.journal t e k.legal allowed refl refl in
    board_step lay p s k id v e (Sealing x) (left_marks x v.marks) (parent v.plan x) amount (entries_of lay (slice_index s.words 0)) at seat may.0.1 refl allowed up (subst (λ (q : ℕ). Adds lay v.owner v.hart q amount) (sym up) adds) refl
    (turns_to v x (Sealing x) idle refl)
    (unregistered_word (slice_index s.words x) (k.closing x) (load x s.views) (load x (set s.views id w)) (row t x) (insiders lay p t x) (insiders lay p (effect_of p t e) x) x shift inner leave.live leave.closed none (word_row (shown-live p k.plan k.journal t k.legal x site leave.live) (k.sites x site)))
    refl
    (λ one _. absurd (omega arith))
    (omega arith)
    (λ j u apart there seat_u is_empty saw. still_inside lay p s k j u x there seat_u site leave.live saw)
    (site, ap (λ (r : Row). r.stage) (shown-after p k.plan k.journal t k.legal e allowed), inl (v.mine, refl))
    (sites_left p t h x fits allowed v.marks k.closing (guests lay p k.table s.views) know.sites)

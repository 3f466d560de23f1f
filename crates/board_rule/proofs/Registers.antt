-- The steps that make a Register, a Skip and a Request.
use Rattle.std.proofs.Common.{◌≡◌, ℕ, ◌+◌, ◌<◌, Bool, true, false, ◌&&◌, eq-eqb, length, set, slice_index, refl, sym, ap, ◌∙◌, subst, arith, ⊎_elim, inr, length-set}
use mathlib.Core.Option.{some}
use mathlib.Core.Logic.{dite}
use native.Mathlib.Decide.{ℕ_discrete}
use lib.ListN.{get_elem?}
use Rattle.transfer_table.specs.Plan.{Plan, IsSite}
use Rattle.transfer_table.specs.Table.{TableState, effect_of, row, is_live, is_home, lives_with}
use Rattle.transfer_table.specs.Allowed.{IsAllowed}
use Rattle.transfer_table.specs.Entry.{site_of, covers, requested}
use Rattle.transfer_table.specs.declared.entry.Row.{Row}
use Rattle.transfer_table.specs.declared.entry.Entry.{Entry}
use Rattle.transfer_table.specs.declared.entry.Entry.TheVariants.{Register, Request, Skip}
use Rattle.transfer_table.proofs.Positions.{Fits, legal_position}
use Rattle.transfer_table.proofs.Effects.{row_after, owner-effect_other, row-effect_same, row-effect_other, at_site}
use Rattle.transfer_table.proofs.Stages.{legal_blank, gone_lasts, covered_new}
use Rattle.hart_port.specs.PortView.{is_in, with_site}
use Rattle.board_rule.specs.declared.view.View.{View}
use Rattle.board_rule.specs.declared.view.Marks.{Marks}
use Rattle.board_rule.specs.declared.view.Doing.{Doing}
use Rattle.board_rule.specs.declared.view.Doing.TheVariants.{Idle, Claiming, Crediting, Sealing}
use Rattle.board_rule.specs.Counts.{Load, no_load, weight, busy_at, part, load, guests}
use Rattle.board_rule.specs.Views.{register_view, request_view, skip_view, home_marks}
use Rattle.board_rule.specs.Shown.{started}
use Rattle.board_rule.specs.Rule.{Stands, KnowsSites, IsSeat, IsSiteWord, DoesRight}
use Rattle.board_rule.proofs.Shown.{shown-new, shown-live, shown-after}
use Rattle.board_rule.specs.Steps.{MayRequest}
use Rattle.board_rule.specs.Laws.{St, Appends}
use Rattle.board_rule.specs.StepLaws.{after_tick}
use Rattle.board_rule.specs.declared.layout.Layout.{Layout}
use Rattle.board_rule.specs.Layouts.{entries_of, Adds, insiders}
use Rattle.board_rule.proofs.Layouts.{insiders_stay}
use Rattle.board_rule.proofs.Loads.{part-elsewhere, part-here, part-idle, load-shift}
use Rattle.board_rule.proofs.Sets.{with_site-same, with_site-other, with_site-in, with_site-keeps, without-other, without-in}
use Rattle.board_rule.proofs.SiteWords.{registered_word, requested_word, skipped_word}
use Rattle.board_rule.proofs.BoardSteps.{board_step, in_plan, other_hart, sites_moved}
use Rattle.board_rule.proofs.Claims.{turns_to, idle_part}
use Rattle.board_rule.proofs.Looks.{home_live}
use Rattle.board_rule.proofs.Asked.{asked_by_home, is_home-some}

-- A site's word with a row is also its word with an equal row.
pub word_row : {w : ℕ} {b : Bool} {c : Load} {r r' : Row} {m : ℕ} → r ≡ r' → IsSiteWord w b c r m → IsSiteWord w b c r' m
word_row {w = w} {b = b} {c = c} {m = m} same word = subst (λ (r : Row). IsSiteWord w b c r m) same word

-- ---- register

pub register_allowed : (lay : Layout) (p : Plan) (s : St) (k : Stands lay p s) (id : ℕ) (v : View) (x : ℕ) → get_elem? s.views id ≡ some v → IsSeat v → v.doing ≡ Claiming x → IsAllowed p k.table (Register v.hart x)
register_allowed lay p s k id v x at seat does =
    let know = k.views id v at seat in
    let R : Doing → Type 0 = λ q. DoesRight lay p k.journal k.table v q in
    let right : DoesRight lay p k.journal k.table v (Claiming x) = subst R does know.does in
    (in_plan lay p s k id v at seat, right.0, sym know.itself.owner ∙ right.1, right.2)

sites_registered : (p : Plan) (t : TableState) (h x : ℕ) → Fits p t → IsAllowed p t (Register h x) → (m : Marks) (c : ℕ → Bool) (f : ℕ → ℕ) → KnowsSites p t h m c f → KnowsSites p (effect_of p t (Register h x)) h (home_marks x m) c f
sites_registered p t h x fits a m c f k =
    let u : TableState = effect_of p t (Register h x) in
    let site = a.1 in
    let inside : x < length m.homes = let z = k.sized.homes in omega (arith, site.1) in record {
      sized = record { homes = length-set m.homes x true ∙ k.sized.homes; closed = length-set m.closed x false ∙ k.sized.closed; drained = length-set m.drained x false ∙ k.sized.drained; empty = length-set m.empty x false ∙ k.sized.empty; gone = k.sized.gone };
      homes = λ y is. dite (ℕ_discrete y x)
          (λ e. let Q : ℕ → Type 0 = λ q. is_in (with_site m.homes x) q ≡ lives_with u q h in
          subst Q (sym e) (with_site-same m.homes x inside ∙ sym (ap (λ (r : Row). is_live r.stage && is_home r.home h) (row-effect_same p t (Register h x) fits a) ∙ eq-eqb h h refl)))
          (λ n. with_site-other m.homes x y n ∙ (k.homes y is ∙ sym (ap (λ (r : Row). is_live r.stage && is_home r.home h) (row-effect_other p t (Register h x) y fits a is n refl))));
      homes_in = λ y is. ⊎_elim (λ e. subst (IsSite p) (sym e) site) (λ old. k.homes_in y old) (with_site-in m.homes x y is);
      closed = λ y is. let r = without-in m.closed x y is in let old = k.closed y r.1 in (with_site-keeps m.homes x y inside old.0, old.1);
      drained = λ y is. let r = without-in m.drained x y is in let old = k.drained y r.1 in (without-other m.closed x y r.0 ∙ old.0, old.1);
      empty = λ y is. let r = without-in m.empty x y is in without-other m.drained x y r.0 ∙ k.empty y r.1;
      alone = λ y is saw g hart other own. let r = without-in m.empty x y is in k.alone y r.1 saw g hart other (sym (owner-effect_other p t (Register h x) g other) ∙ own);
      gone = λ y is. let r = k.gone y is in (r.0, gone_lasts p t (Register h x) fits a y r.0 r.1);
    }

pub register_appends : (lay : Layout) (p : Plan) (s : St) (k : Stands lay p s) (id : ℕ) (v : View) (x amount : ℕ) → get_elem? s.views id ≡ some v → IsSeat v → v.doing ≡ Claiming x → Adds lay v.owner v.hart x amount
    → Appends lay p s k (Register v.hart (busy_at v.doing)) (after_tick lay s amount id (λ place. register_view place v))
register_appends lay p s k id v z amount at seat claiming adds =
    let x : ℕ = busy_at v.doing in
    let same : x ≡ z = ap busy_at claiming in
    let does : v.doing ≡ Claiming x = claiming ∙ ap Claiming (sym same) in
    let know = k.views id v at seat in
    let R : Doing → Type 0 = λ q. DoesRight lay p k.journal k.table v q in
    let right : DoesRight lay p k.journal k.table v (Claiming x) = subst R does know.does in
    let site = right.0 in
    let h : ℕ = v.hart in let t : TableState = k.table in let e : Entry = Register h x in
    let fits = legal_position p k.plan k.journal t k.legal in
    let allowed = register_allowed lay p s k id v x at seat does in
    let adds_here : Adds lay v.owner v.hart x amount = subst (λ (q : ℕ). Adds lay v.owner v.hart q amount) (sym same) adds in
    let w : View = register_view (entries_of lay (slice_index s.words 0)) v in
    let was : part v.doing x ≡ weight (Claiming x) = ap (λ (q : Doing). part q x) does ∙ part-here (Claiming x) x refl in
    let shift = load-shift x s.views id v w (weight (Claiming x)) no_load at was (part-idle x) in
    let r1 : (load x (set s.views id w)).reserves + 0 ≡ (load x s.views).reserves + 0 = shift.reserves in let r2 : (load x (set s.views id w)).lands + 0 ≡ (load x s.views).lands + 0 = shift.lands in let r3 : (load x (set s.views id w)).leaves + 0 ≡ (load x s.views).leaves + 0 = shift.leaves in
    let inner = insiders_stay lay p k.plan k.journal t e k.legal allowed refl refl in
    board_step lay p s k id v e Idle (home_marks x v.marks) x amount (entries_of lay (slice_index s.words 0)) at seat right.3 refl allowed refl adds_here refl
    (λ y n. part-idle y ∙ sym (ap (λ (q : Doing). part q y) does ∙ part-elsewhere (Claiming x) y (λ c. n (sym c))))
    (registered_word (slice_index s.words x) (k.closing x) (load x s.views) (load x (set s.views id w)) (row t x) (insiders lay p t x) (insiders lay p (effect_of p t e) x) h x shift inner (legal_blank p k.plan k.journal t k.legal x site right.2) (word_row (shown-new p k.plan k.journal t k.legal x site right.2) (k.sites x site)))
    refl
    (λ _ _. refl)
    (omega arith)
    (λ j u apart there seat_u is_empty saw. let o = (k.views j u there seat_u).sites in
    let live = (home_live lay p s k j u x there seat_u (o.closed x (o.drained x (o.empty x is_empty)).0).0).1 in let new = right.2 in cc)
    tt
    (sites_registered p t h x fits allowed v.marks k.closing (guests lay p k.table s.views) know.sites)

-- ---- skip

pub skip_allowed : (lay : Layout) (p : Plan) (s : St) (k : Stands lay p s) (id : ℕ) (v : View) (x : ℕ) → get_elem? s.views id ≡ some v → IsSeat v → v.doing ≡ Claiming x → IsAllowed p k.table (Skip v.hart x)
skip_allowed lay p s k id v x at seat does = register_allowed lay p s k id v x at seat does

-- A skip leaves the homes.
lives_with-skip : (lay : Layout) (p : Plan) (s : St) (k : Stands lay p s) (g x : ℕ) → IsAllowed p k.table (Skip g x) → (h y : ℕ) → IsSite p y → lives_with (effect_of p k.table (Skip g x)) y h ≡ lives_with k.table y h
lives_with-skip lay p s k g x a h y site = let t : TableState = k.table in let lives : Row → Bool = λ r. is_live r.stage && is_home r.home h in
    at_site p t (Skip g x) y (λ q r. lives r ≡ lives_with t q h) (legal_position p k.plan k.journal t k.legal) a site
    (ap lives (sym (legal_blank p k.plan k.journal t k.legal x a.1 a.3)))
    (λ _ _. refl)
    (λ _ c. ap lives (sym (legal_blank p k.plan k.journal t k.legal y site (covered_new p k.plan k.journal t (Skip g x) k.legal a y site c))))

pub skip_appends : (lay : Layout) (p : Plan) (s : St) (k : Stands lay p s) (id : ℕ) (v : View) (x amount : ℕ) → get_elem? s.views id ≡ some v → IsSeat v → v.doing ≡ Claiming x → Adds lay v.owner v.hart v.owner amount
    → Appends lay p s k (Skip v.hart (busy_at v.doing)) (after_tick lay s amount id (λ place. skip_view place v))
skip_appends lay p s k id v z amount at seat claiming adds =
    let x : ℕ = busy_at v.doing in
    let same : x ≡ z = ap busy_at claiming in
    let does : v.doing ≡ Claiming x = claiming ∙ ap Claiming (sym same) in
    let know = k.views id v at seat in
    let R : Doing → Type 0 = λ q. DoesRight lay p k.journal k.table v q in
    let right : DoesRight lay p k.journal k.table v (Claiming x) = subst R does know.does in
    let site = right.0 in
    let h : ℕ = v.hart in let t : TableState = k.table in let e : Entry = Skip h x in
    let fits = legal_position p k.plan k.journal t k.legal in
    let allowed = skip_allowed lay p s k id v x at seat does in
    let w : View = skip_view (entries_of lay (slice_index s.words 0)) v in
    let was : part v.doing x ≡ weight (Claiming x) = ap (λ (q : Doing). part q x) does ∙ part-here (Claiming x) x refl in
    let shift = load-shift x s.views id v w (weight (Claiming x)) (weight (Sealing x)) at was (part-here (Sealing x) x refl) in
    let r1 : (load x (set s.views id w)).reserves + 0 ≡ (load x s.views).reserves + 0 = shift.reserves in let r2 : (load x (set s.views id w)).lands + 0 ≡ (load x s.views).lands + 0 = shift.lands in let r3 : (load x (set s.views id w)).leaves + 0 ≡ (load x s.views).leaves + 0 = shift.leaves in
    let inner = insiders_stay lay p k.plan k.journal t e k.legal allowed refl refl in
    board_step lay p s k id v e (Sealing x) v.marks v.owner amount (entries_of lay (slice_index s.words 0)) at seat right.3 refl allowed right.1 adds refl
    (λ y n. part-elsewhere (Sealing x) y (λ c. n (sym c)) ∙ sym (ap (λ (q : Doing). part q y) does ∙ part-elsewhere (Claiming x) y (λ c. n (sym c))))
    (skipped_word (slice_index s.words x) (k.closing x) (load x s.views) (load x (set s.views id w)) (row t x) (insiders lay p t x) (insiders lay p (effect_of p t e) x) x shift inner (legal_blank p k.plan k.journal t k.legal x site right.2) (word_row (shown-new p k.plan k.journal t k.legal x site right.2) (k.sites x site)))
    refl
    (λ _ live. absurd (let new = right.2 in cc))
    (omega arith)
    (λ j u apart there seat_u is_empty saw. let gone = ((k.views j u there seat_u).sites.gone x (saw x site refl)).1 in let new = right.2 in cc)
    (site, ap (λ (r : Row). r.stage) (shown-after p k.plan k.journal t k.legal e allowed), inr (v.mine, refl))
    (sites_moved p t e fits allowed h v.marks k.closing (guests lay p k.table s.views) (guests lay p k.table s.views) (lives_with-skip lay p s k h x allowed h) (λ _ _. refl) (λ other _ _. absurd (other refl)) know.sites)

-- ---- request

-- An entry that leaves stage and home leaves the homes.
pub lives_with-kept : (p : Plan) (t : TableState) (e : Entry) → Fits p t → IsAllowed p t e → ((y : ℕ) → covers p e y ≡ false) → (row_after t e).stage ≡ (row t (site_of e)).stage → (row_after t e).home ≡ (row t (site_of e)).home
    → (h y : ℕ) → IsSite p y → lives_with (effect_of p t e) y h ≡ lives_with t y h
lives_with-kept p t e fits a plain stage home h y site = at_site p t e y (λ x r. (is_live r.stage && is_home r.home h) ≡ lives_with t x h) fits a site (λ i. is_live (stage i) && is_home (home i) h) (λ _ _. refl) (λ _ c. absurd (let z : true ≡ false = sym c ∙ plain y in cc))

pub request_allowed : (lay : Layout) (p : Plan) (s : St) (k : Stands lay p s) (id : ℕ) (v : View) (n : ℕ) → get_elem? s.views id ≡ some v → IsSeat v → MayRequest p v n → IsAllowed p k.table (Request v.hart v.owner n)
request_allowed lay p s k id v n at seat may =
    let know = k.views id v at seat in
    let home = home_live lay p s k id v v.owner at seat may.1 in
    let is_home = is_home-some (row k.table v.owner).home v.hart home.2 in
    let asked = asked_by_home p k.plan k.journal k.table k.legal v.owner v.hart home.0 is_home ∙ ap (requested v.owner) (sym know.itself.mine) in
    (in_plan lay p s k id v at seat, home.0, sym know.itself.owner, is_home, may.2, omega (arith, asked, may.3))

pub request_appends : (lay : Layout) (p : Plan) (s : St) (k : Stands lay p s) (id : ℕ) (v : View) (n amount : ℕ) → get_elem? s.views id ≡ some v → IsSeat v → MayRequest p v n → Adds lay v.owner v.hart v.owner amount
    → Appends lay p s k (Request v.hart v.owner n) (after_tick lay s amount id (λ place. request_view n place v))
request_appends lay p s k id v n amount at seat may adds =
    let x : ℕ = v.owner in
    let know = k.views id v at seat in
    let idle = may.0.0 in
    let home = home_live lay p s k id v x at seat may.1 in
    let h : ℕ = v.hart in let t : TableState = k.table in let e : Entry = Request h x n in
    let fits = legal_position p k.plan k.journal t k.legal in
    let allowed = request_allowed lay p s k id v n at seat may in
    let w : View = request_view n (entries_of lay (slice_index s.words 0)) v in
    let shift = load-shift x s.views id v w no_load (weight (Crediting x n)) at (idle_part v x idle) (part-here (Crediting x n) x refl) in
    let r1 : (load x (set s.views id w)).reserves + 0 ≡ (load x s.views).reserves + 0 = shift.reserves in let r2 : (load x (set s.views id w)).lands + 0 ≡ (load x s.views).lands + 0 = shift.lands in let r3 : (load x (set s.views id w)).leaves + 0 ≡ (load x s.views).leaves + 0 = shift.leaves in
    let inner = insiders_stay lay p k.plan k.journal t e k.legal allowed refl refl in
    board_step lay p s k id v e (Crediting x n) v.marks x amount (entries_of lay (slice_index s.words 0)) at seat may.0.1 refl allowed refl adds refl
    (turns_to v x (Crediting x n) idle refl)
    (requested_word (slice_index s.words x) n (k.closing x) (load x s.views) (load x (set s.views id w)) (row t x) (insiders lay p t x) (insiders lay p (effect_of p t e) x) x shift inner (word_row (shown-live p k.plan k.journal t k.legal x home.0 home.1) (k.sites x home.0)))
    (ap started home.1)
    (λ _ live. live)
    (omega arith)
    (λ j u apart there seat_u is_empty saw. (k.views j u there seat_u).sites.alone x is_empty saw h (in_plan lay p s k id v at seat) (λ c. other_hart lay p s k id j v u at seat apart there (sym c)) (sym know.itself.owner))
    (home.0, (v.mine, refl))
    (sites_moved p t e fits allowed h v.marks k.closing (guests lay p k.table s.views) (guests lay p k.table s.views) (lives_with-kept p t e fits allowed (λ _. refl) refl refl h) (λ _ _. refl) (λ other _ _. absurd (other refl)) know.sites)

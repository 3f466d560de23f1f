-- A look: a step that changes no word.
use Rattle.std.proofs.Common.{◌≡◌, ◌≢◌, ℕ, zero, suc, ◌/◌, ◌%◌, ◌<◌, ◌≤◌, Bool, true, false, eqb, if◌then◌else◌, ◌||◌, ◌&&◌, not, ◌==◌, eq-eqb, ne_eqb, List, length, set, slice_index, refl, sym, ap, ◌∙◌, subst, arith, Some, ⊎_elim, length-set}
use mathlib.Core.Option.{some}
use mathlib.Core.Logic.{dite}
use native.Mathlib.Decide.{ℕ_discrete}
use lib.ListN.{get_elem?}
use Rattle.std.proofs.lemmas.Bool.{eqb-true}
use Rattle.std.proofs.lemmas.List.{set-get_or}
use Rattle.atomic_table.proofs.Lists.{at_set}
use Rattle.transfer_table.specs.Plan.{Plan, IsPlan, IsHart, IsSite, parent}
use Rattle.transfer_table.specs.Table.{TableState, owner, row, is_live, is_home}
use Rattle.transfer_table.specs.declared.entry.Stage.TheVariants.{Live, Gone}
use Rattle.transfer_table.proofs.Positions.{legal_position}
use Rattle.transfer_table.proofs.Balance.{legal_wishes}
use Rattle.hart_port.specs.PortView.{is_in, with_site, without}
use Rattle.hart_port.specs.Words.{is_closed, flight_of, owner_field}
use Rattle.board_rule.specs.declared.layout.Layout.{Layout}
use Rattle.board_rule.specs.declared.layout.Layout.TheVariants.{Owners, Guests}
use Rattle.board_rule.specs.Layouts.{insiders}
use Rattle.board_rule.specs.declared.view.View.{View}
use Rattle.board_rule.specs.declared.view.Marks.{Marks}
use Rattle.board_rule.specs.declared.view.Look.{Look}
use Rattle.board_rule.specs.declared.view.Doing.{Doing}
use Rattle.board_rule.specs.declared.view.Doing.TheVariants.{Idle}
use Rattle.board_rule.specs.Words.{others_at}
use Rattle.board_rule.specs.Counts.{draws, numbered, load, guests}
use Rattle.board_rule.specs.Views.{glance_view, see_gone_view, see_drained_view, see_empty_view, gone_marks, drained_marks, marks_without}
use Rattle.board_rule.specs.Rule.{Stands, Knows, KnowsSites, IsSeat, DoesRight}
use Rattle.board_rule.specs.Shown.{shown}
use Rattle.board_rule.specs.Steps.{IsReady, MaySeeDrained, MaySeeEmpty}
use Rattle.board_rule.specs.Laws.{St, after_step, Keeps}
use Rattle.board_rule.proofs.Shown.{shown-wishes, row-gone}
use Rattle.board_rule.proofs.Totals.{total-same}
use Rattle.board_rule.proofs.Loads.{load-same}
use Rattle.board_rule.proofs.Sets.{with_site-same, with_site-other, with_site-in, with_site-keeps, without-in}
use Rattle.board_rule.proofs.SiteWords.{fields, closed_gone}
use Rattle.board_rule.proofs.Places.{place_at}
use Rattle.board_rule.proofs.SiteSteps.{guests-load, sites_other, knows_other}
use Rattle.board_rule.proofs.Asked.{is_home-some}
use Rattle.board_rule.proofs.Bits.{is_live-stage}
use Rattle.transfer_table.proofs.Changes.{guests_change}
use Rattle.board_rule.proofs.Fields.{owners_small, field_is}

-- A plan has at most 16 harts.
pub few_harts : (p : Plan) → IsPlan p → p.harts ≤ 16
few_harts p plan = let few = plan.few_harts in omega arith

-- A site has at most 255 wishes.
pub few_wishes : (lay : Layout) (p : Plan) (s : St) (k : Stands lay p s) (x : ℕ) → IsSite p x → (shown k.journal k.table x).wishes ≤ 255
few_wishes lay p s k x site = let w = shown-wishes p k.plan k.journal k.table k.legal x site in let l = legal_wishes p k.plan k.journal k.table k.legal x site in let few = few_harts p k.plan in omega (arith, l.0, l.1)

pub both : (a b : Bool) → (a && b) ≡ true → (a ≡ true) × (b ≡ true)
both true true e = (refl, refl)
both true false e = absurd (cc)
both false b e = absurd (cc)

-- A home is live.
pub home_live : (lay : Layout) (p : Plan) (s : St) (k : Stands lay p s) (id : ℕ) (v : View) (x : ℕ) → get_elem? s.views id ≡ some v → IsSeat v → is_in v.marks.homes x ≡ true → IsSite p x × ((row k.table x).stage ≡ Live) × (is_home (row k.table x).home v.hart ≡ true)
home_live lay p s k id v x at seat home = let know = (k.views id v at seat).sites in let site = know.homes_in x home in
    let r = both (is_live (row k.table x).stage) (is_home (row k.table x).home v.hart) (sym (know.homes x site) ∙ home) in (site, is_live-stage (row k.table x).stage r.0, r.1)

-- The seat knows more of the sites, or has one more look, and no word has changed.
pub look_step : (lay : Layout) (p : Plan) (s : St) (k : Stands lay p s) (id : ℕ) (v : View) (m : Marks) (ls : List Look) (i n : ℕ) → get_elem? s.views id ≡ some v → IsSeat v → v.doing ≡ Idle → n ≡ slice_index s.words i
    → KnowsSites p k.table v.hart m k.closing (guests lay p k.table s.views)
    → Keeps lay p s k (after_step s i n id (record v { marks = m; looks = ls }))
look_step lay p s k id v m ls i n at seat idle is knows =
    let w : View = record v { marks = m; looks = ls } in
    let me = (k.views id v at seat).itself in
    let load_same : (y : ℕ) → load y (set s.views id w) ≡ load y s.views = λ y. load-same y s.views id v w at refl in
    let flown : (y : ℕ) → k.closing y ≡ true → guests lay p k.table s.views y ≡ 0 → guests lay p k.table (set s.views id w) y ≡ 0 = λ y _ none. guests-load lay p k.table s.views (set s.views id w) y (load_same y) ∙ none in
    let R : Doing → Type 0 = λ d. DoesRight lay p k.journal k.table w d in
    let P : List ℕ → Type 0 = λ ws. Keeps lay p s k record { words = ws; homes = s.homes; views = set s.views id w } in
    let same : s.words ≡ set s.words i n = sym (ap (set s.words i) is ∙ set-get_or s.words i 0) in
    subst P same (
      record {
        journal = k.journal;
        table = k.table;
        made = k.made;
        ended = k.ended;
        closing = k.closing;
        plan = k.plan;
        few = k.few;
        wide = k.wide;
        legal = k.legal;
        board = k.board;
        places = λ j f there. place_at f _ _ _ _ refl (total-same (draws j) s.views id v w at refl) (k.places j f there);
        beyond = λ j l. let r = k.beyond j l in (r.0, total-same (draws j) s.views id v w at refl ∙ r.1);
        sites = λ y site. rw (load_same y) (k.sites y site);
        seats = λ h l. rw (total-same (numbered h) s.views id v w at refl) (k.seats h l);
        first = total-same (numbered 0) s.views id v w at refl ∙ k.first;
        unmade = k.unmade;
        over = k.over;
        views = λ j u there lt. ⊎_elim
            (λ t. let Q : View → Type 0 = λ z. Knows lay p k.journal k.table z k.closing (guests lay p k.table (set s.views id w)) k.made k.ended in
            subst Q t.1 (record {
              itself = record { plan = me.plan; mine = me.mine; placed = me.placed; owner = me.owner; drawn = me.drawn; joined = me.joined };
              does = subst R (sym idle) tt;
              sites = sites_other p k.table v.hart m k.closing k.closing (guests lay p k.table s.views) (guests lay p k.table (set s.views id w)) (λ y z. z) flown knows;
            }))
            (λ t. knows_other lay p k.journal k.table u k.closing k.closing (guests lay p k.table s.views) (guests lay p k.table (set s.views id w)) k.made k.ended (λ y z. z) flown (k.views j u t.1 lt))
            (at_set s.views id j w u there);
        spent = λ j u there not. ⊎_elim (λ t. absurd (not (subst IsSeat t.1 seat))) (λ t. k.spent j u t.1 not) (at_set s.views id j w u there);
      },
      refl,
      refl,
    )

-- ---- a look that only notes the word

pub glance_keeps : (lay : Layout) (p : Plan) (s : St) (k : Stands lay p s) (id : ℕ) (v : View) (x : ℕ) → get_elem? s.views id ≡ some v → IsSeat v → IsReady v
    → Keeps lay p s k (after_step s x (slice_index s.words x) id (glance_view x (slice_index s.words x) v))
glance_keeps lay p s k id v x at seat ready = look_step lay p s k id v v.marks _ x _ at seat ready.0 refl (k.views id v at seat).sites

-- ---- a look that sees a site gone

sites_gone : (p : Plan) (t : TableState) (h : ℕ) (m : Marks) (c : ℕ → Bool) (f : ℕ → ℕ) (x : ℕ) → IsSite p x → (row t x).stage ≡ Gone → KnowsSites p t h m c f → KnowsSites p t h (gone_marks p x m) c f
sites_gone p t h m c f x site gone k = by_case (is_in m.gone x) refl
  where
    inside : x < length m.gone
    inside = let z = k.sized.gone in let high = site.1 in omega arith

    seen : (y : ℕ) → is_in (with_site m.gone x) y ≡ true → IsSite p y × ((row t y).stage ≡ Gone)
    seen y is = ⊎_elim (λ e. let Q : ℕ → Type 0 = λ q. IsSite p q × ((row t q).stage ≡ Gone) in subst Q (sym e) (site, gone)) (λ old. k.gone y old) (with_site-in m.gone x y is)

    by_case : (b : Bool) → is_in m.gone x ≡ b → KnowsSites p t h (record m { gone = with_site m.gone x; empty = if b then m.empty else without m.empty (parent p x) }) c f
    by_case true was = record {
      sized = record { homes = k.sized.homes; closed = k.sized.closed; drained = k.sized.drained; empty = k.sized.empty; gone = length-set m.gone x true ∙ k.sized.gone };
      homes = k.homes;
      homes_in = k.homes_in;
      closed = k.closed;
      drained = k.drained;
      empty = k.empty;
      alone = λ y is saw. k.alone y is (λ d child up. ⊎_elim (λ e. ap (is_in m.gone) e ∙ was) (λ old. old) (with_site-in m.gone x d (saw d child up)));
      gone = seen;
    }
    by_case false was = record {
      sized = record { homes = k.sized.homes; closed = k.sized.closed; drained = k.sized.drained; empty = length-set m.empty (parent p x) false ∙ k.sized.empty; gone = length-set m.gone x true ∙ k.sized.gone };
      homes = k.homes;
      homes_in = k.homes_in;
      closed = k.closed;
      drained = k.drained;
      empty = λ y is. k.empty y (without-in m.empty (parent p x) y is).1;
      alone = λ y is saw. let r = without-in m.empty (parent p x) y is in
          k.alone y r.1 (λ d child up. sym (with_site-other m.gone x d (λ e. r.0 (sym up ∙ ap (parent p) e))) ∙ saw d child up);
      gone = seen;
    }

pub see_gone_keeps : (lay : Layout) (p : Plan) (s : St) (k : Stands lay p s) (id : ℕ) (v : View) (x : ℕ) → get_elem? s.views id ≡ some v → IsSeat v → IsReady v → IsSite p x
    → Keeps lay p s k (after_step s x (slice_index s.words x) id (see_gone_view x (slice_index s.words x) v))
see_gone_keeps lay p s k id v x at seat ready site =
    let n : ℕ = slice_index s.words x in
    let know = (k.views id v at seat).sites in
    let plan = (k.views id v at seat).itself.plan in
    let Q : Plan → Type 0 = λ q. KnowsSites p k.table v.hart (if is_closed n then gone_marks q x v.marks else v.marks) k.closing (guests lay p k.table s.views) in
    look_step lay p s k id v _ _ x n at seat ready.0 refl (subst Q (sym plan) (by_bit (is_closed n)
    (λ closed. sites_gone p k.table v.hart v.marks k.closing (guests lay p k.table s.views) x site (row-gone p k.plan k.journal k.table k.legal x (closed_gone n (k.closing x) (load x s.views) (shown k.journal k.table x) (insiders lay p k.table x) (few_wishes lay p s k x site) (k.sites x site) (eqb-true (n / 4 % 2) 1 closed))) know)
    know))
  where
    by_bit : (b : Bool) → (b ≡ true → KnowsSites p k.table v.hart (gone_marks p x v.marks) k.closing (guests lay p k.table s.views)) → KnowsSites p k.table v.hart v.marks k.closing (guests lay p k.table s.views)
        → KnowsSites p k.table v.hart (if b then gone_marks p x v.marks else v.marks) k.closing (guests lay p k.table s.views)
    by_bit true new old = new refl
    by_bit false new old = old

-- ---- a look that sees the owner without a guest

sites_drained : (p : Plan) (t : TableState) (h : ℕ) (m : Marks) (c : ℕ → Bool) (f : ℕ → ℕ) (x : ℕ) → is_in m.closed x ≡ true → f x ≡ 0 → KnowsSites p t h m c f → KnowsSites p t h (record m { drained = with_site m.drained x }) c f
sites_drained p t h m c f x closed none k =
    let inside : x < length m.drained = let site = k.homes_in x (k.closed x closed).0 in let z = k.sized.drained in omega (arith, site.1) in record {
      sized = record { homes = k.sized.homes; closed = k.sized.closed; drained = length-set m.drained x true ∙ k.sized.drained; empty = k.sized.empty; gone = k.sized.gone };
      homes = k.homes;
      homes_in = k.homes_in;
      closed = k.closed;
      drained = λ y is. ⊎_elim (λ e. let Q : ℕ → Type 0 = λ q. (is_in m.closed q ≡ true) × (f q ≡ 0) in subst Q (sym e) (closed, none)) (λ old. k.drained y old) (with_site-in m.drained x y is);
      empty = λ y is. with_site-keeps m.drained x y inside (k.empty y is);
      alone = k.alone;
      gone = k.gone;
    }

sites_empty : (p : Plan) (t : TableState) (h : ℕ) (m : Marks) (c : ℕ → Bool) (f : ℕ → ℕ) (x : ℕ) → is_in m.drained x ≡ true → ((g : ℕ) → IsHart p g → g ≢ h → owner t g ≢ x) → KnowsSites p t h m c f → KnowsSites p t h (record m { empty = with_site m.empty x }) c f
sites_empty p t h m c f x drained apart k = record {
  sized = record { homes = k.sized.homes; closed = k.sized.closed; drained = k.sized.drained; empty = length-set m.empty x true ∙ k.sized.empty; gone = k.sized.gone };
  homes = k.homes;
  homes_in = k.homes_in;
  closed = k.closed;
  drained = k.drained;
  empty = λ y is. ⊎_elim (λ e. ap (is_in m.drained) e ∙ drained) (λ old. k.empty y old) (with_site-in m.empty x y is);
  alone = λ y is saw g hart other own. ⊎_elim (λ e. apart g hart other (own ∙ e)) (λ old. k.alone y old saw g hart other own) (with_site-in m.empty x y is);
  gone = k.gone;
}

-- If the word counts the guests inside, a site without a guest holds no hart but its home.
sites_without : (lay : Layout) (p : Plan) (s : St) (k : Stands lay p s) (v : View) → IsSite p v.owner → is_in v.marks.closed v.owner ≡ true → (row k.table v.owner).home ≡ Some v.hart → guests lay p k.table s.views v.owner ≡ 0
    → KnowsSites p k.table v.hart v.marks k.closing (guests lay p k.table s.views) → KnowsSites p k.table v.hart (marks_without lay v) k.closing (guests lay p k.table s.views)
sites_without Owners p s k v site closed home none know = sites_drained p k.table v.hart v.marks k.closing (guests Owners p k.table s.views) v.owner closed none know
sites_without Guests p s k v site closed home none know =
    let f : ℕ → ℕ = guests Guests p k.table s.views in
    let drained = sites_drained p k.table v.hart v.marks k.closing f v.owner closed none know in
    let within : v.owner < length v.marks.drained = let z = know.sized.drained in omega (arith, site.1) in
    let inner : insiders Guests p k.table v.owner ≡ 0 = omega arith in
    sites_empty p k.table v.hart (drained_marks v) k.closing f v.owner (with_site-same v.marks.drained v.owner within) ((guests_change p k.journal k.table k.plan k.legal).0.alone v.owner v.hart site home inner) drained

pub see_drained_keeps : (lay : Layout) (p : Plan) (s : St) (k : Stands lay p s) (id : ℕ) (v : View) → get_elem? s.views id ≡ some v → IsSeat v → MaySeeDrained v
    → Keeps lay p s k (after_step s v.owner (slice_index s.words v.owner) id (see_drained_view lay (slice_index s.words v.owner) v))
see_drained_keeps lay p s k id v at seat may =
    let x : ℕ = v.owner in let n : ℕ = slice_index s.words x in
    let know = (k.views id v at seat).sites in
    let lives = home_live lay p s k id v x at seat (know.closed x may.1).0 in
    let f = (fields n (k.closing x) (load x s.views) (shown k.journal k.table x) (insiders lay p k.table x) (few_wishes lay p s k x lives.0) (k.sites x lives.0)).shows in
    look_step lay p s k id v _ _ x n at seat may.0.0 refl (by_bit (flight_of n == 0)
    (λ none. sites_without lay p s k v lives.0 may.1 (is_home-some (row k.table x).home v.hart lives.2) (sym f ∙ eqb-true (flight_of n) 0 none) know) know)
  where
    by_bit : (b : Bool) → (b ≡ true → KnowsSites p k.table v.hart (marks_without lay v) k.closing (guests lay p k.table s.views)) → KnowsSites p k.table v.hart v.marks k.closing (guests lay p k.table s.views)
        → KnowsSites p k.table v.hart (if b then marks_without lay v else v.marks) k.closing (guests lay p k.table s.views)
    by_bit true new old = new refl
    by_bit false new old = old

-- ---- a look at a first word that has the owners, which sees the owner empty

-- If no other hart's field is the site, the field of each other hart isn't the site.
pub none_at : (n w h x : ℕ) → others_at n w h x ≡ false → (g : ℕ) → g < n → g ≢ h → owner_field w g ≢ x
none_at zero w h x none g lt other = absurd (omega arith)
none_at (suc n) w h x none g lt other = let both = neither (not (eqb n h) && eqb (owner_field w n) x) (others_at n w h x) none in
    dite (ℕ_discrete g n)
    (λ e own. let a : eqb (owner_field w n) x ≡ true = eq-eqb (owner_field w n) x (ap (owner_field w) (sym e) ∙ own) in let b : eqb n h ≡ false = ne_eqb n h (λ z. other (e ∙ z)) in
    let c : (not (eqb n h) && eqb (owner_field w n) x) ≡ true = rw (a, b) refl in cc)
    (λ less. none_at n w h x both.1 g (omega arith) other)
  where
    neither : (a b : Bool) → (a || b) ≡ false → (a ≡ false) × (b ≡ false)
    neither true b e = absurd (cc)
    neither false b e = (refl, e)

pub see_empty_keeps : (p : Plan) (s : St) (k : Stands Owners p s) (id : ℕ) (v : View) → get_elem? s.views id ≡ some v → IsSeat v → MaySeeEmpty v
    → Keeps Owners p s k (after_step s 0 (slice_index s.words 0) id (see_empty_view (slice_index s.words 0) v))
see_empty_keeps p s k id v at seat may =
    let x : ℕ = v.owner in let n : ℕ = slice_index s.words 0 in
    let know = (k.views id v at seat).sites in
    let plan = (k.views id v at seat).itself.plan in
    let few : length k.table.owners ≡ p.harts = (legal_position p k.plan k.journal k.table k.legal).owners in
    look_step Owners p s k id v _ _ 0 n at seat may.0.0 refl (by_bit (others_at v.plan.harts n v.hart x)
    (λ none. sites_empty p k.table v.hart v.marks k.closing (guests Owners p k.table s.views) x may.1
    (λ g hart other own. none_at v.plan.harts n v.hart x none g (let Q : Plan → Type 0 = λ q. g < q.harts in subst Q (sym plan) hart) other
    (field_is k.table.owners (length k.journal) g n (let z = k.few in omega arith) (omega (arith, few, hart)) (owners_small p k.plan k.journal k.table k.legal) k.board ∙ own)) know) know)
  where
    by_bit : (b : Bool) → (b ≡ false → KnowsSites p k.table v.hart (record v.marks { empty = with_site v.marks.empty v.owner }) k.closing (guests Owners p k.table s.views)) → KnowsSites p k.table v.hart v.marks k.closing (guests Owners p k.table s.views)
        → KnowsSites p k.table v.hart (if b then v.marks else record v.marks { empty = with_site v.marks.empty v.owner }) k.closing (guests Owners p k.table s.views)
    by_bit true new old = old
    by_bit false new old = new refl

-- A step on the first word, which puts one entry at the journal's end. One lemma over all entries proves the six kinds of step
-- that append; only `Layouts.antt` splits on the layout.
use Rattle.std.proofs.Common.{◌≡◌, ◌≢◌, ℕ, ◌+◌, ◌%◌, ◌^◌, ◌<◌, ◌≤◌, Bool, true, eqb, ◌&&◌, eq-eqb, ne_eqb, nat_le, List, [], ◌∷◌, ◌++◌, length, set, slice_index, slice_get, refl, sym, ap, ◌∙◌, subst, arith, Option, Some, None, ⊎_elim, length-set, get_or-set_same, get_or-set_other}
use mathlib.Core.Option.{some}
use mathlib.Core.Logic.{dite}
use native.Mathlib.Decide.{ℕ_discrete}
use lib.ListN.{get_elem?}
use Rattle.std.proofs.Math.Bool.{and-false}
use Rattle.std.proofs.lemmas.Bool.Decides.{nat_tests}
use Rattle.atomic_table.proofs.Lists.{at_set, set_else}
use Rattle.transfer_table.specs.Plan.{Plan, IsPlan, IsHart, IsSite}
use Rattle.transfer_table.specs.Table.{TableState, effect_of, owner, row, blank, is_live, is_home, lives_with}
use Rattle.transfer_table.specs.Journal.{Reaches}
use Rattle.transfer_table.specs.Allowed.{IsAllowed}
use Rattle.transfer_table.specs.Entry.{hart_of, site_of}
use Rattle.transfer_table.specs.declared.entry.Row.{Row}
use Rattle.transfer_table.specs.declared.entry.Stage.TheVariants.{Live}
use Rattle.transfer_table.specs.declared.entry.Entry.{Entry}
use Rattle.transfer_table.specs.declared.entry.Entry.TheVariants.{Register, Request, Enter, Yield, Unregister, Skip}
use Rattle.transfer_table.proofs.Admits.{admits}
use Rattle.transfer_table.proofs.Positions.{Fits, legal_position, reaches-allowed}
use Rattle.transfer_table.proofs.Effects.{owner_after, row_after, allowed_site, owner-effect_same, owner-effect_other, row-effect_other, at_site}
use Rattle.transfer_table.proofs.Stages.{legal_blank, gone_lasts, covered_new}
use Rattle.transfer_table.proofs.Makers.{made_by-own, made_by-other}
use Rattle.hart_port.specs.PortView.{is_in}
use Rattle.board_rule.specs.declared.view.View.{View}
use Rattle.board_rule.specs.declared.view.Marks.{Marks}
use Rattle.board_rule.specs.declared.entries.Drawn.{Drawn}
use Rattle.board_rule.specs.declared.view.Doing.{Doing}
use Rattle.board_rule.specs.declared.view.Doing.TheVariants.{Idle, Claiming, Crediting, Reserved, Landing, Leaving, Sealing}
use Rattle.board_rule.specs.declared.layout.Layout.{Layout}
use Rattle.board_rule.specs.Layouts.{first_word, entries_of, Adds, insiders}
use Rattle.board_rule.specs.Encodings.{journal_index, journal_word}
use Rattle.transfer_table.specs.Counts.{one_if}
use Rattle.board_rule.specs.Sums.{total, draws_in, ended_as}
use Rattle.board_rule.specs.Counts.{draws, numbered, Load, part, load, guests}
use Rattle.board_rule.specs.Views.{made_entry}
use Rattle.board_rule.specs.Rule.{Stands, Knows, KnowsSites, IsSeat, IsSiteWord, DoesRight, SawChildren}
use Rattle.board_rule.specs.Shown.{started, shown}
use Rattle.board_rule.specs.Places.{is_last}
use Rattle.board_rule.proofs.Shown.{shown-after, shown-other, shown-lasts, uncovered}
use Rattle.board_rule.specs.Laws.{St, after_step, Appends}
use Rattle.board_rule.proofs.Totals.{total-set, total-same, total-one, total-two}
use Rattle.board_rule.proofs.Lists.{get-more, get-snoc, get-last, get-inside, length-snoc}
use Rattle.board_rule.proofs.Places.{at-more, at-own}
use Rattle.board_rule.proofs.Loads.{load-same, part-here}
use Rattle.board_rule.proofs.Places.{place_at}
use Rattle.board_rule.proofs.SiteSteps.{guests-load}
use Rattle.board_rule.proofs.Layouts.{length_of, word_next, insiders_elsewhere}

-- ---- what another hart sees of an entry

-- An entry leaves the homes of the other harts.
pub lives_with-other : (p : Plan) → IsPlan p → (es : List Entry) (t : TableState) (e : Entry) → Reaches p es t → Fits p t → IsAllowed p t e → (h : ℕ) → h ≢ hart_of e → (y : ℕ) → IsSite p y → lives_with (effect_of p t e) y h ≡ lives_with t y h
lives_with-other p plan es t e leads fits a h other y site = at_site p t e y (λ x r. x ≡ y → (is_live r.stage && is_home r.home h) ≡ lives_with t y h) fits a site
    (λ z. let Q : ℕ → Type 0 = λ q. (is_live (row_after t e).stage && is_home (row_after t e).home h) ≡ lives_with t q h in subst Q z (here e a other))
    (λ n _ _. refl) (λ n c _. ap (λ (r : Row). is_live r.stage && is_home r.home h) (sym (legal_blank p plan es t leads y site (covered_new p plan es t e leads a y site c)))) refl
  where
    here : (e : Entry) → IsAllowed p t e → h ≢ hart_of e → (is_live (row_after t e).stage && is_home (row_after t e).home h) ≡ lives_with t (site_of e) h
    here (Register g s) a n = let b : row t s ≡ blank = legal_blank p plan es t leads s a.1 a.3 in rw (ne_eqb g h (λ z. n (sym z)), b) refl
    here (Request g s k) a n = refl
    here (Enter g s) a n = refl
    here (Yield g s) a n = refl
    here (Unregister g s) a n = rw (a.3, ne_eqb g h (λ z. n (sym z))) (sym (and-false (is_live (row t s).stage)))
    here (Skip g s) a n = ap (λ (r : Row). is_live r.stage && is_home r.home h) (sym (legal_blank p plan es t leads s a.1 a.3))

-- An entry changes no site's guests: a reserved hart enters, and a hart that yields is leaving.
pub guests_stay : (lay : Layout) (p : Plan) (plan : IsPlan p) (es : List Entry) (t : TableState) (e : Entry) → Reaches p es t → IsAllowed p t e → (vs : List View) (id : ℕ) (v w : View) → get_elem? vs id ≡ some v
    → ((y : ℕ) → y ≢ site_of e → part w.doing y ≡ part v.doing y)
    → guests lay p (effect_of p t e) (set vs id w) (site_of e) ≡ guests lay p t vs (site_of e)
    → (y : ℕ) → IsSite p y → guests lay p (effect_of p t e) (set vs id w) y ≡ guests lay p t vs y
guests_stay lay p plan es t e leads a vs id v w at elsewhere here y site = dite (ℕ_discrete y (site_of e))
    (λ z. let Q : ℕ → Type 0 = λ q. guests lay p (effect_of p t e) (set vs id w) q ≡ guests lay p t vs q in subst Q (sym z) here)
    (λ n. ap (λ (g : ℕ). g + (load y (set vs id w)).reserves + (load y (set vs id w)).lands + (load y (set vs id w)).leaves) (insiders_elsewhere lay p plan es t e leads a y site n)
    ∙ guests-load lay p t vs (set vs id w) y (load-same y vs id v w at (elsewhere y n)))

-- A seat's knowledge of the sites survives an entry that leaves its homes and the guests, and brings no hart into a site
-- that the seat saw empty.
pub sites_moved : (p : Plan) (t : TableState) (e : Entry) → Fits p t → IsAllowed p t e → (h : ℕ) (m : Marks) (c : ℕ → Bool) (f f' : ℕ → ℕ)
    → ((y : ℕ) → IsSite p y → lives_with (effect_of p t e) y h ≡ lives_with t y h)
    → ((y : ℕ) → IsSite p y → f' y ≡ f y)
    → (h ≢ hart_of e → is_in m.empty (owner_after p e) ≡ true → SawChildren p m (owner_after p e) → ⊥)
    → KnowsSites p t h m c f → KnowsSites p (effect_of p t e) h m c f'
sites_moved p t e fits a h m c f f' homes stay arrives k = record {
  sized = k.sized;
  homes = λ x site. k.homes x site ∙ sym (homes x site);
  homes_in = k.homes_in;
  closed = k.closed;
  drained = λ x is. let d = k.drained x is in (d.0, stay x (k.homes_in x (k.closed x d.0).0) ∙ d.1);
  empty = k.empty;
  alone = λ x is saw g hart other. dite (ℕ_discrete g (hart_of e))
      (λ z own. let up : owner_after p e ≡ x = sym (owner-effect_same p t e fits a) ∙ (ap (owner (effect_of p t e)) (sym z) ∙ own) in
      let P : ℕ → Type 0 = λ q. is_in m.empty q ≡ true → SawChildren p m q → ⊥ in subst P up (arrives (λ q. other (z ∙ sym q))) is saw)
      (λ n own. k.alone x is saw g hart other (sym (owner-effect_other p t e g n) ∙ own));
  gone = λ x is. let r = k.gone x is in (r.0, gone_lasts p t e fits a x r.0 r.1);
}

-- A seat's knowledge of the sites holds for any guest counts that are equal at every site.
pub sites_same : (p : Plan) (t : TableState) (h : ℕ) (m : Marks) (c : ℕ → Bool) (f f' : ℕ → ℕ) → ((y : ℕ) → IsSite p y → f' y ≡ f y) → KnowsSites p t h m c f → KnowsSites p t h m c f'
sites_same p t h m c f f' stay k = record {
  sized = k.sized;
  homes = k.homes;
  homes_in = k.homes_in;
  closed = k.closed;
  drained = λ x is. let d = k.drained x is in (d.0, stay x (k.homes_in x (k.closed x d.0).0) ∙ d.1);
  empty = k.empty;
  alone = k.alone;
  gone = k.gone;
}

-- What a seat is in the middle of stays valid after an entry of another hart.
pub does_lasting : (lay : Layout) (p : Plan) → IsPlan p → (es : List Entry) (t : TableState) (e : Entry) → Reaches p es t → Fits p t → IsAllowed p t e → (v : View) (d : Doing) → IsHart p v.hart → v.owner ≡ owner t v.hart → ((y : ℕ) → d ≡ Claiming y → y ≢ site_of e)
    → (d ≡ Reserved (site_of e) → (row t (site_of e)).stage ≡ Live → (row_after t e).stage ≡ Live)
    → DoesRight lay p es t v d → DoesRight lay p (es ++ e ∷ []) (effect_of p t e) v d
does_lasting lay p plan es t e leads fits a v Idle hart own apart live r = tt
does_lasting lay p plan es t e leads fits a v (Claiming y) hart own apart live r = (
  r.0,
  r.1,
  ap (λ (z : Row). z.stage) (row-effect_other p t e y fits a r.0 (apart y refl) (uncovered p plan es t leads e a v.hart y hart r.0 (sym own ∙ r.1) (apart y refl))) ∙ r.2,
  r.3,
)
does_lasting lay p plan es t e leads fits a v (Crediting y k) hart own apart live r = r
does_lasting lay p plan es t e leads fits a v (Reserved y) hart own apart live r = (
  r.0,
  r.1,
  at_site p t e y (λ x q. x ≡ y → q.stage ≡ Live) fits a r.0
      (λ z. live (ap Reserved (sym z)) (let Q : ℕ → Type 0 = λ q. (row t q).stage ≡ Live in subst Q (sym z) r.2)) (λ n _ _. r.2) (λ n c _. absurd (let new = covered_new p plan es t e leads a y r.0 c in let live' = r.2 in cc)) refl,
  r.3,
)
does_lasting lay p plan es t e leads fits a v (Landing y) hart own apart live r = r
does_lasting lay p plan es t e leads fits a v (Leaving y) hart own apart live r = r
does_lasting lay p plan es t e leads fits a v (Sealing y) hart own apart live r = (r.0, shown-lasts p plan es t leads e a y r.0 r.1, r.2)

-- ---- the step

pub in_plan : (lay : Layout) (p : Plan) (s : St) (k : Stands lay p s) (id : ℕ) (v : View) → get_elem? s.views id ≡ some v → IsSeat v → IsHart p v.hart
in_plan lay p s k id v at seat = let Q : Plan → Type 0 = λ q. v.hart < q.harts in subst Q (k.views id v at seat).itself.plan seat

pub made_above : (m h : ℕ) → one_if (nat_le m h) ≡ 0 → h < m
made_above m h e = grind (arith, nat_tests)

-- A hart with a seat was made and isn't ended, and has no other seat.
pub one_seat : (lay : Layout) (p : Plan) (s : St) (k : Stands lay p s) (id : ℕ) (v : View) → get_elem? s.views id ≡ some v → IsSeat v → (total (numbered v.hart) s.views ≡ 1) × (total (ended_as v.hart) k.ended ≡ 0) × (v.hart < k.made)
one_seat lay p s k id v at seat =
    let all = k.seats v.hart (in_plan lay p s k id v at seat) in
    let here = total-one (numbered v.hart) s.views id v at in
    let one : one_if (eqb v.hart v.hart) ≡ 1 = ap one_if (eq-eqb v.hart v.hart refl) in
    let none : one_if (nat_le k.made v.hart) ≡ 0 = omega arith in
    (omega arith, omega arith, made_above k.made v.hart none)

pub other_hart : (lay : Layout) (p : Plan) (s : St) (k : Stands lay p s) (id j : ℕ) (v z : View) → get_elem? s.views id ≡ some v → IsSeat v → j ≢ id → get_elem? s.views j ≡ some z → z.hart ≢ v.hart
other_hart lay p s k id j v z at seat apart there c =
    let here = one_seat lay p s k id v at seat in
    let two = total-two (numbered v.hart) s.views j id z v there at apart in
    let a : one_if (eqb z.hart v.hart) ≡ 1 = ap one_if (eq-eqb z.hart v.hart c) in let b : one_if (eqb v.hart v.hart) ≡ 1 = ap one_if (eq-eqb v.hart v.hart refl) in omega (arith, here.0)

pub board_step : (lay : Layout) (p : Plan) (s : St) (k : Stands lay p s) (id : ℕ) (v : View) (e : Entry) (d : Doing) (m : Marks) (o amount place : ℕ) → get_elem? s.views id ≡ some v → IsSeat v
    → v.drawn ≡ None → hart_of e ≡ v.hart → IsAllowed p k.table e → o ≡ owner_after p e → Adds lay v.owner v.hart o amount → place ≡ entries_of lay (slice_index s.words 0)
    → ((y : ℕ) → y ≢ site_of e → part d y ≡ part v.doing y)
    → IsSiteWord (slice_index s.words (site_of e)) (k.closing (site_of e)) (load (site_of e) (set s.views id (record (made_entry e o place v) { doing = d; marks = m }))) (row_after k.table e) (insiders lay p (effect_of p k.table e) (site_of e))
    → started (row_after k.table e).stage ≡ 1
    → (1 ≤ (load (site_of e) s.views).reserves → (row k.table (site_of e)).stage ≡ Live → (row_after k.table e).stage ≡ Live)
    → guests lay p (effect_of p k.table e) (set s.views id (record (made_entry e o place v) { doing = d; marks = m })) (site_of e) ≡ guests lay p k.table s.views (site_of e)
    → ((j : ℕ) (z : View) → j ≢ id → get_elem? s.views j ≡ some z → IsSeat z → is_in z.marks.empty (owner_after p e) ≡ true → SawChildren p z.marks (owner_after p e) → ⊥)
    → DoesRight lay p (k.journal ++ e ∷ []) (effect_of p k.table e) (record (made_entry e o place v) { doing = d; marks = m }) d
    → KnowsSites p (effect_of p k.table e) v.hart m k.closing (guests lay p k.table s.views)
    → Appends lay p s k e (after_step s 0 ((slice_index s.words 0 + amount) % 2 ^ 64) id (record (made_entry e o place v) { doing = d; marks = m }))
board_step lay p s k id v e d m o amount place at seat undrawn by allowed owned adds reported elsewhere word on live here_same arrives does knows =
    let w : View = record (made_entry e o place v) { doing = d; marks = m } in
    let n : ℕ = (slice_index s.words 0 + amount) % 2 ^ 64 in
    let placed : place ≡ length k.journal = reported ∙ length_of lay p k.plan k.few k.journal k.table k.legal (slice_index s.words 0) k.board in
    let x : ℕ = site_of e in
    let t : TableState = k.table in let u : TableState = effect_of p t e in
    let es : List Entry = k.journal in
    let vs : List View = set s.views id w in
    let fits = legal_position p k.plan es t k.legal in
    let site = allowed_site p t e allowed in let low = site.0 in
    let me = (k.views id v at seat).itself in
    let here = one_seat lay p s k id v at seat in
    let longer = length-snoc es e in
    let old_draw : (i : ℕ) → draws i v ≡ 0 = λ i. ap (λ (q : Option Drawn). draws_in q i) undrawn in
    let new_draw : (i : ℕ) → draws i w ≡ one_if (eqb (length es) i) = λ i. ap (λ (q : ℕ). one_if (eqb q i)) placed in
    let word_same : (i : ℕ) → journal_word p (set s.words 0 n) i ≡ journal_word p s.words i = λ i. get_or-set_other s.words 0 (journal_index p i) n 0 (λ z. omega arith) in
    let draws_same : (i : ℕ) → i ≢ length es → total (draws i) vs ≡ total (draws i) s.views
    = λ i not. total-same (draws i) s.views id v w at (new_draw i ∙ ap one_if (ne_eqb (length es) i (λ z. not (sym z))) ∙ sym (old_draw i)) in
    let stay = guests_stay lay p k.plan es t e k.legal allowed s.views id v w at elsewhere here_same in
    let next = word_next lay p k.plan k.few es t e k.legal allowed (slice_index s.words 0) amount o v k.board by me.owner owned adds in
    let not_me : (h : ℕ) → h ≢ v.hart → hart_of e ≢ h = λ h c z. c (sym z ∙ by) in (
      record {
        journal = es ++ e ∷ [];
        table = u;
        made = k.made;
        ended = k.ended;
        closing = k.closing;
        plan = k.plan;
        few = k.few;
        wide = length-set s.words 0 n ∙ k.wide;
        legal = reaches-allowed p k.plan es t e k.legal allowed;
        board = get_or-set_same s.words 0 n 0 (let q = k.wide in omega arith) ∙ (next ∙ ap (first_word lay u) (sym longer));
        places = λ i f is. ⊎_elim
            (λ old. let inside = get-inside es i f old in place_at f _ _ _ _ (word_same i) (draws_same i (λ z. omega arith)) (k.places i f old))
            (λ new. let b = k.beyond i (omega arith) in let sum = total-set (draws i) s.views id v w at in let was = old_draw i in let is_one = new_draw i ∙ ap one_if (eq-eqb (length es) i (sym new.0)) in
            record { one = omega arith; written = λ z. absurd (omega arith); due = λ _. word_same i ∙ b.0 })
            (get-snoc es i e f is);
        beyond = λ i l. let b = k.beyond i (omega arith) in (word_same i ∙ b.0, draws_same i (λ z. omega arith) ∙ b.1);
        sites = λ y is. dite (ℕ_discrete y x)
            (λ z. let Q : ℕ → Type 0 = λ q. IsSiteWord (slice_index (set s.words 0 n) q) (k.closing q) (load q vs) (shown (es ++ e ∷ []) u q) (insiders lay p u q) in
            subst Q (sym z) (rw (get_or-set_other s.words 0 x n 0 (λ c. omega arith), shown-after p k.plan es t k.legal e allowed) word))
            (λ not. let low' = is.0 in rw (get_or-set_other s.words 0 y n 0 (λ c. omega arith), shown-other p k.plan es t k.legal e allowed y is not, load-same y s.views id v w at (elsewhere y not), insiders_elsewhere lay p k.plan es t e k.legal allowed y is not) (k.sites y is));
        seats = λ h l. rw (total-same (numbered h) s.views id v w at refl) (k.seats h l);
        first = total-same (numbered 0) s.views id v w at refl ∙ k.first;
        unmade = λ h l. made_by-other h es e (not_me h (λ z. omega (arith, here.2))) ∙ k.unmade h l;
        over = λ i z is. let o = k.over i z is in (o.0 ∙ sym (made_by-other z.hart es e (not_me z.hart (λ c. let q = total-one (ended_as v.hart) k.ended i z is in let one : one_if (eqb z.hart v.hart) ≡ 1 = ap one_if (eq-eqb z.hart v.hart c) in omega (arith, here.1)))), at-more es e z.mine z.places o.1);
        views = λ j z is lt. ⊎_elim
            (λ c. let P : View → Type 0 = λ q. Knows lay p (es ++ e ∷ []) u q k.closing (guests lay p u vs) k.made k.ended in subst P c.1 (record {
              itself = record {
                plan = me.plan;
                mine = ap (λ (q : List Entry). q ++ e ∷ []) me.mine ∙ sym (made_by-own v.hart es e by);
                placed = at-own es e place placed v.mine v.places me.placed;
                owner = owned ∙ (sym (owner-effect_same p t e fits allowed) ∙ ap (owner u) by);
                drawn = λ q same. let Q : Drawn → Type 0 = λ r. (slice_get (es ++ e ∷ []) r.place ≡ Some r.entry) × is_last (v.mine ++ e ∷ []) r.entry in
                    let eq : record { place = place; entry = e } ≡ q = cc in subst Q eq ((ap (slice_get (es ++ e ∷ [])) placed) ∙ get-last es e, (v.mine, refl));
                joined = me.joined;
              };
              does = does;
              sites = sites_same p u v.hart m k.closing (guests lay p t s.views) (guests lay p u vs) stay knows;
            }))
            (λ c. let old = k.views j z c.1 lt in let me' = old.itself in let other = other_hart lay p s k id j v z at seat c.0 c.1 in
            let there : get_elem? vs j ≡ some z = sym_there c.0 c.1 in
            record {
              itself = record {
                plan = me'.plan;
                mine = me'.mine ∙ sym (made_by-other z.hart es e (not_me z.hart other));
                placed = at-more es e z.mine z.places me'.placed;
                owner = me'.owner ∙ sym (owner-effect_other p t e z.hart (λ q. not_me z.hart other (sym q)));
                drawn = λ q same. let r = me'.drawn q same in (get-more es (e ∷ []) q.place q.entry r.0, r.1);
                joined = me'.joined;
              };
              does = does_lasting lay p k.plan es t e k.legal fits allowed z z.doing (in_plan lay p s k j z c.1 lt) me'.owner
                  (λ y claims same. let r = total-one (λ (q : View). (part q.doing x).claims) vs j z there in
                  let c1 : (part z.doing x).claims ≡ 1 = ap (λ (q : Doing). (part q x).claims) claims ∙ ap (λ (l : Load). l.claims) (part-here (Claiming y) x same) in
                  let one = word.claimed in omega arith)
                  (λ reserved. live (let r = total-one (λ (q : View). (part q.doing x).reserves) s.views j z c.1 in
                  let c1 : (part z.doing x).reserves ≡ 1 = ap (λ (q : Doing). (part q x).reserves) reserved ∙ ap (λ (l : Load). l.reserves) (part-here (Reserved x) x refl) in omega arith))
                  old.does;
              sites = sites_moved p t e fits allowed z.hart z.marks k.closing (guests lay p t s.views) (guests lay p u vs)
                  (lives_with-other p k.plan es t e k.legal fits allowed z.hart (λ q. not_me z.hart other (sym q))) stay
                  (λ _ is saw. arrives j z c.0 c.1 lt is saw) old.sites;
            })
            (at_set s.views id j w z is);
        spent = λ j z is not. ⊎_elim (λ c. absurd (not (subst IsSeat c.1 seat))) (λ c. k.spent j z c.1 not) (at_set s.views id j w z is);
      },
      refl,
      admits p t e fits allowed,
    )
  where
    sym_there : {j : ℕ} {z : View} → j ≢ id → get_elem? s.views j ≡ some z → get_elem? (set s.views id (record (made_entry e o place v) { doing = d; marks = m })) j ≡ some z
    sym_there {j = j} n there = set_else s.views id j _ n ∙ there

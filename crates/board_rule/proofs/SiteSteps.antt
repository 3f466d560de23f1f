-- A step on a site's word, which keeps the journal. One lemma proves all kinds of such a step.
use Rattle.std.proofs.Common.{◌≡◌, ◌≢◌, ℕ, ◌+◌, ◌≤◌, Bool, true, if◌then◌else◌, ◌==◌, eq-eqb, ne_eqb, List, set, slice_index, refl, sym, ap, ◌∙◌, subst, arith, ⊎_elim, length-set, get_or-set_same, get_or-set_other}
use mathlib.Core.Option.{some}
use mathlib.Core.Logic.{dite}
use native.Mathlib.Decide.{ℕ_discrete}
use lib.ListN.{get_elem?}
use Rattle.atomic_table.proofs.Lists.{at_set}
use Rattle.transfer_table.specs.Plan.{Plan, IsSite}
use Rattle.transfer_table.specs.Table.{TableState}
use Rattle.board_rule.specs.declared.layout.Layout.{Layout}
use Rattle.board_rule.specs.Layouts.{insiders}
use Rattle.transfer_table.specs.declared.entry.Entry.{Entry}
use Rattle.board_rule.specs.declared.view.View.{View}
use Rattle.board_rule.specs.declared.view.Marks.{Marks}
use Rattle.board_rule.specs.declared.view.Look.{Look}
use Rattle.board_rule.specs.declared.entries.Ended.{Ended}
use Rattle.board_rule.specs.declared.view.Doing.{Doing}
use Rattle.board_rule.specs.Encodings.{journal_index, journal_word}
use Rattle.board_rule.specs.Sums.{total}
use Rattle.board_rule.specs.Counts.{draws, numbered, Load, part, load, guests}
use Rattle.board_rule.specs.Shown.{shown}
use Rattle.board_rule.specs.Rule.{Stands, Knows, KnowsSites, IsSeat, IsSiteWord, DoesRight}
use Rattle.board_rule.specs.Laws.{St, after_step, Keeps}
use Rattle.board_rule.proofs.Totals.{total-same}
use Rattle.board_rule.proofs.Places.{place_at}
use Rattle.board_rule.proofs.Loads.{load-same}

-- The closing bits, with bit b for x.
abbrev pub closing_with : (ℕ → Bool) → ℕ → Bool → ℕ → Bool
closing_with c x b y = if y == x then b else c y

pub closing_here : (c : ℕ → Bool) (x : ℕ) (b : Bool) → closing_with c x b x ≡ b
closing_here c x b = rw (eq-eqb x x refl) refl

pub closing_else : (c : ℕ → Bool) (x : ℕ) (b : Bool) (y : ℕ) → y ≢ x → closing_with c x b y ≡ c y
closing_else c x b y n = rw (ne_eqb y x n) refl

-- A site that was closing stays closing.
pub closing_lasts : (c : ℕ → Bool) (x : ℕ) (b : Bool) → (c x ≡ true → b ≡ true) → (y : ℕ) → c y ≡ true → closing_with c x b y ≡ true
closing_lasts c x b last y is = dite (ℕ_discrete y x)
    (λ z. let Q : ℕ → Type 0 = λ q. closing_with c x b q ≡ true in subst Q (sym z) (closing_here c x b ∙ last (ap c (sym z) ∙ is)))
    (λ n. closing_else c x b y n ∙ is)

-- What a seat knows stays if more sites are closing and a closing site without a guest gets none.
pub sites_other : (p : Plan) (t : TableState) (h : ℕ) (m : Marks) (c c' : ℕ → Bool) (f f' : ℕ → ℕ) → ((x : ℕ) → c x ≡ true → c' x ≡ true) → ((x : ℕ) → c' x ≡ true → f x ≡ 0 → f' x ≡ 0)
    → KnowsSites p t h m c f → KnowsSites p t h m c' f'
sites_other p t h m c c' f f' close flown k = record {
  sized = k.sized;
  homes = k.homes;
  homes_in = k.homes_in;
  closed = λ x is. let r = k.closed x is in (r.0, close x r.1);
  drained = λ x is. let d = k.drained x is in (d.0, flown x (close x (k.closed x d.0).1) d.1);
  empty = k.empty;
  alone = k.alone;
  gone = k.gone;
}

pub knows_other : (lay : Layout) (p : Plan) (es : List Entry) (t : TableState) (v : View) (c c' : ℕ → Bool) (f f' : ℕ → ℕ) (made : ℕ) (ended : List Ended) → ((x : ℕ) → c x ≡ true → c' x ≡ true) → ((x : ℕ) → c' x ≡ true → f x ≡ 0 → f' x ≡ 0)
    → Knows lay p es t v c f made ended → Knows lay p es t v c' f' made ended
knows_other lay p es t v c c' f f' made ended close flown k = record { itself = k.itself; does = k.does; sites = sites_other p t v.hart v.marks c c' f f' close flown k.sites }

-- Equal loads have equal guests.
pub guests-load : (lay : Layout) (p : Plan) (t : TableState) (vs ws : List View) (x : ℕ) → load x ws ≡ load x vs → guests lay p t ws x ≡ guests lay p t vs x
guests-load lay p t vs ws x same = ap (λ (c : Load). insiders lay p t x + c.reserves + c.lands + c.leaves) same

-- No hart comes to a closing site.
pub guests_fall : (lay : Layout) (p : Plan) (t : TableState) (vs : List View) (id : ℕ) (v w : View) (x : ℕ) (c : ℕ → Bool) → get_elem? vs id ≡ some v → ((y : ℕ) → y ≢ x → part w.doing y ≡ part v.doing y)
    → (c x ≡ true → guests lay p t (set vs id w) x ≤ guests lay p t vs x) → (y : ℕ) → c y ≡ true → guests lay p t vs y ≡ 0 → guests lay p t (set vs id w) y ≡ 0
guests_fall lay p t vs id v w x c at elsewhere fall y closing none = dite (ℕ_discrete y x)
    (λ z. let le = fall (ap c (sym z) ∙ closing) in let n : guests lay p t vs x ≡ 0 = ap (guests lay p t vs) (sym z) ∙ none in ap (guests lay p t (set vs id w)) z ∙ (let r : guests lay p t (set vs id w) x ≡ 0 = omega arith in r))
    (λ n. guests-load lay p t vs (set vs id w) y (load-same y vs id v w at (elsewhere y n)) ∙ none)

-- The seat gets the view w, and the word of x becomes n.
pub site_step : (lay : Layout) (p : Plan) (s : St) (k : Stands lay p s) (id : ℕ) (v : View) (d : Doing) (m : Marks) (ls : List Look) (x n : ℕ) (b : Bool) → get_elem? s.views id ≡ some v → IsSeat v → IsSite p x
    → ((y : ℕ) → y ≢ x → part d y ≡ part v.doing y)
    → (k.closing x ≡ true → b ≡ true)
    → (b ≡ true → guests lay p k.table (set s.views id (record v { doing = d; marks = m; looks = ls })) x ≤ guests lay p k.table s.views x)
    → IsSiteWord n b (load x (set s.views id (record v { doing = d; marks = m; looks = ls }))) (shown k.journal k.table x) (insiders lay p k.table x)
    → DoesRight lay p k.journal k.table (record v { doing = d; marks = m; looks = ls }) d
    → KnowsSites p k.table v.hart m (closing_with k.closing x b) (guests lay p k.table s.views)
    → Keeps lay p s k (after_step s x n id (record v { doing = d; marks = m; looks = ls }))
site_step lay p s k id v d m ls x n b at seat site elsewhere last fall word does knows =
    let w : View = record v { doing = d; marks = m; looks = ls } in
    let low = site.0 in let high = site.1 in
    let me = (k.views id v at seat).itself in
    let closing : ℕ → Bool = closing_with k.closing x b in
    let close = closing_lasts k.closing x b last in
    let here = closing_here k.closing x b in
    let flown = guests_fall lay p k.table s.views id v w x closing at elsewhere (λ is. fall (sym here ∙ is)) in
    let word_same : (i : ℕ) → journal_word p (set s.words x n) i ≡ journal_word p s.words i = λ i. get_or-set_other s.words x (journal_index p i) n 0 (λ z. omega arith) in
    let draws_same : (i : ℕ) → total (draws i) (set s.views id w) ≡ total (draws i) s.views = λ i. total-same (draws i) s.views id v w at refl in (
      record {
        journal = k.journal;
        table = k.table;
        made = k.made;
        ended = k.ended;
        closing = closing;
        plan = k.plan;
        few = k.few;
        wide = length-set s.words x n ∙ k.wide;
        legal = k.legal;
        board = get_or-set_other s.words x 0 n 0 (λ z. omega arith) ∙ k.board;
        places = λ i f is. place_at f _ _ _ _ (word_same i) (draws_same i) (k.places i f is);
        beyond = λ i l. let r = k.beyond i l in (word_same i ∙ r.0, draws_same i ∙ r.1);
        sites = λ y is. dite (ℕ_discrete y x)
            (λ z. let Q : ℕ → Type 0 = λ q. IsSiteWord (slice_index (set s.words x n) q) (closing q) (load q (set s.views id w)) (shown k.journal k.table q) (insiders lay p k.table q) in
            subst Q (sym z) (rw (get_or-set_same s.words x n 0 (let q = k.wide in omega arith), here) word))
            (λ not. rw (get_or-set_other s.words x y n 0 not, closing_else k.closing x b y not, load-same y s.views id v w at (elsewhere y not)) (k.sites y is));
        seats = λ h l. rw (total-same (numbered h) s.views id v w at refl) (k.seats h l);
        first = total-same (numbered 0) s.views id v w at refl ∙ k.first;
        unmade = k.unmade;
        over = k.over;
        views = λ j u is lt. ⊎_elim
            (λ t. let P : View → Type 0 = λ z. Knows lay p k.journal k.table z closing (guests lay p k.table (set s.views id w)) k.made k.ended in
            subst P t.1 (record {
              itself = record { plan = me.plan; mine = me.mine; placed = me.placed; owner = me.owner; drawn = me.drawn; joined = me.joined };
              does = does;
              sites = sites_other p k.table v.hart m closing closing (guests lay p k.table s.views) (guests lay p k.table (set s.views id w)) (λ y z. z) flown knows;
            }))
            (λ t. knows_other lay p k.journal k.table u k.closing closing (guests lay p k.table s.views) (guests lay p k.table (set s.views id w)) k.made k.ended close flown (k.views j u t.1 lt))
            (at_set s.views id j w u is);
        spent = λ j u is not. ⊎_elim (λ t. absurd (not (subst IsSeat t.1 seat))) (λ t. k.spent j u t.1 not) (at_set s.views id j w u is);
      },
      refl,
      refl,
    )

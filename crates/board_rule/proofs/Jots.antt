-- The step that writes an entry at the index that was drawn.
use Rattle.std.proofs.Common.{◌≡◌, ◌≢◌, ℕ, ◌<◌, ◌≤◌, true, eqb, eq-eqb, ne_eqb, List, length, set, slice_get, refl, sym, ap, ◌∙◌, subst, arith, Option, Some, ⊎_elim, length-set, get_or-set_same, get_or-set_other}
use mathlib.Core.Option.{some}
use mathlib.Core.Logic.{dite}
use native.Mathlib.Decide.{ℕ_discrete}
use lib.ListN.{get_elem?}
use Rattle.atomic_table.proofs.Lists.{at_set}
use Rattle.transfer_table.specs.Plan.{Plan, room}
use Rattle.transfer_table.specs.Table.{TableState}
use Rattle.transfer_table.specs.declared.entry.Entry.{Entry}
use Rattle.transfer_table.proofs.Bounds.{legal_length}
use Rattle.board_rule.specs.declared.layout.Layout.{Layout}
use Rattle.board_rule.specs.declared.view.View.{View}
use Rattle.board_rule.specs.declared.entries.Drawn.{Drawn}
use Rattle.board_rule.specs.declared.view.Doing.{Doing}
use Rattle.board_rule.specs.declared.view.Doing.TheVariants.{Idle, Claiming, Crediting, Reserved, Landing, Leaving, Sealing}
use Rattle.board_rule.specs.Encodings.{journal_index, journal_word, spelled}
use Rattle.transfer_table.specs.Counts.{one_if}
use Rattle.board_rule.specs.Sums.{total, draws_in}
use Rattle.board_rule.specs.Counts.{draws, numbered, load, guests}
use Rattle.board_rule.specs.Views.{jot_view}
use Rattle.board_rule.specs.Rule.{Stands, Knows, IsSeat, DoesRight}
use Rattle.board_rule.specs.Laws.{St, after_step, Keeps}
use Rattle.board_rule.proofs.Totals.{total-set, total-same}
use Rattle.board_rule.proofs.Lists.{get-inside}
use Rattle.board_rule.proofs.Loads.{load-same}
use Rattle.board_rule.proofs.Places.{place_at}
use Rattle.board_rule.proofs.SiteSteps.{guests-load, sites_other, knows_other}

does_jotted : (lay : Layout) (p : Plan) (es : List Entry) (t : TableState) (v : View) (d : Doing) → DoesRight lay p es t v d → DoesRight lay p es t (jot_view v) d
does_jotted lay p es t v Idle r = tt
does_jotted lay p es t v (Claiming x) r = (r.0, r.1, r.2, refl)
does_jotted lay p es t v (Crediting x k) r = r
does_jotted lay p es t v (Reserved x) r = (r.0, r.1, r.2, refl)
does_jotted lay p es t v (Landing x) r = r
does_jotted lay p es t v (Leaving x) r = r
does_jotted lay p es t v (Sealing x) r = r

pub jot_keeps : (lay : Layout) (p : Plan) (s : St) (k : Stands lay p s) (id : ℕ) (v : View) (place : ℕ) (e : Entry) → get_elem? s.views id ≡ some v → IsSeat v → v.drawn ≡ Some record { place = place; entry = e }
    → Keeps lay p s k (after_step s (journal_index p place) (spelled e) id (jot_view v))
jot_keeps lay p s k id v place e at seat drawn =
    let w : View = jot_view v in
    let i : ℕ = journal_index p place in
    let n : ℕ = spelled e in
    let know = k.views id v at seat in let me = know.itself in
    let stands = me.drawn record { place = place; entry = e } drawn in
    let inside = get-inside k.journal place e stands.0 in
    let within : i < length s.words = let a = k.wide in let b = legal_length p k.plan k.journal k.table k.legal in let b' : length k.journal ≤ room p = b in omega arith in
    let old_draw : (j : ℕ) → draws j v ≡ one_if (eqb place j) = λ j. ap (λ (d : Option Drawn). draws_in d j) drawn in
    let draws_same : (j : ℕ) → j ≢ place → total (draws j) (set s.views id w) ≡ total (draws j) s.views
    = λ j not. total-same (draws j) s.views id v w at (sym (old_draw j ∙ ap one_if (ne_eqb place j (λ z. not (sym z))))) in
    let word_same : (j : ℕ) → j ≢ place → journal_word p (set s.words i n) j ≡ journal_word p s.words j = λ j not. get_or-set_other s.words i (journal_index p j) n 0 (λ z. not (omega arith)) in
    let load_same : (y : ℕ) → load y (set s.views id w) ≡ load y s.views = λ y. load-same y s.views id v w at refl in
    let flown : (y : ℕ) → k.closing y ≡ true → guests lay p k.table s.views y ≡ 0 → guests lay p k.table (set s.views id w) y ≡ 0 = λ y _ none. guests-load lay p k.table s.views (set s.views id w) y (load_same y) ∙ none in (
      record {
        journal = k.journal;
        table = k.table;
        made = k.made;
        ended = k.ended;
        closing = k.closing;
        plan = k.plan;
        few = k.few;
        wide = length-set s.words i n ∙ k.wide;
        legal = k.legal;
        board = get_or-set_other s.words i 0 n 0 (λ z. omega arith) ∙ k.board;
        places = λ j f is. dite (ℕ_discrete j place)
            (λ z. let old = k.places j f is in
            let same : f ≡ e = (let here : slice_get k.journal j ≡ Some e = subst (λ (q : ℕ). slice_get k.journal q ≡ Some e) (sym z) stands.0 in cc) in
            let sum = total-set (draws j) s.views id v w at in let one : draws j v ≡ 1 = old_draw j ∙ ap one_if (eq-eqb place j (sym z)) in let some_one = old.one in
            record {
              one = omega arith;
              written = λ _. ap (λ (q : ℕ). journal_word p (set s.words i n) q) z ∙ get_or-set_same s.words i n 0 within ∙ ap spelled (sym same);
              due = λ c. absurd (omega arith);
            })
            (λ not. place_at f _ _ _ _ (word_same j not) (draws_same j not) (k.places j f is));
        beyond = λ j l. let b = k.beyond j l in let not : j ≢ place = λ z. omega arith in (word_same j not ∙ b.0, draws_same j not ∙ b.1);
        sites = λ y site. let high = site.1 in rw (get_or-set_other s.words i y n 0 (λ z. omega arith), load_same y) (k.sites y site);
        seats = λ h l. rw (total-same (numbered h) s.views id v w at refl) (k.seats h l);
        first = total-same (numbered 0) s.views id v w at refl ∙ k.first;
        unmade = k.unmade;
        over = k.over;
        views = λ j u is lt. ⊎_elim
            (λ t. let P : View → Type 0 = λ z. Knows lay p k.journal k.table z k.closing (guests lay p k.table (set s.views id w)) k.made k.ended in subst P t.1 (record {
              itself = record { plan = me.plan; mine = me.mine; placed = me.placed; owner = me.owner; drawn = λ d c. absurd (cc); joined = me.joined };
              does = does_jotted lay p k.journal k.table v v.doing know.does;
              sites = sites_other p k.table v.hart v.marks k.closing k.closing (guests lay p k.table s.views) (guests lay p k.table (set s.views id w)) (λ y z. z) flown know.sites;
            }))
            (λ t. knows_other lay p k.journal k.table u k.closing k.closing (guests lay p k.table s.views) (guests lay p k.table (set s.views id w)) k.made k.ended (λ y z. z) flown (k.views j u t.1 lt))
            (at_set s.views id j w u is);
        spent = λ j u is not. ⊎_elim (λ t. absurd (not (subst IsSeat t.1 seat))) (λ t. k.spent j u t.1 not) (at_set s.views id j w u is);
      },
      refl,
      refl,
    )

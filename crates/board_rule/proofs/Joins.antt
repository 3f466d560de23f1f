-- Hart 0's seat takes in another hart's seat.
use Rattle.std.proofs.Common.{◌≡◌, ◌≢◌, ℕ, ◌+◌, Bool, true, false, ne_eqb, List, [], ◌∷◌, ◌++◌, set, refl, sym, ap, ◌∙◌, subst, arith, Option, ⊎_elim}
use mathlib.Core.Option.{some}
use lib.ListN.{get_elem?}
use Rattle.std.proofs.lemmas.List.{length-replicate}
use Rattle.atomic_table.proofs.Lists.{at_set, at_snoc, set_else}
use Rattle.transfer_table.specs.Plan.{Plan, site_count}
use Rattle.transfer_table.specs.Table.{TableState}
use Rattle.transfer_table.specs.Entry.{made_by}
use Rattle.hart_port.specs.PortView.{is_in}
use Rattle.hart_port.specs.Ledger.{no_site}
use Rattle.board_rule.specs.declared.layout.Layout.{Layout}
use Rattle.board_rule.specs.declared.view.View.{View}
use Rattle.board_rule.specs.declared.view.Marks.{Marks}
use Rattle.board_rule.specs.declared.entries.Drawn.{Drawn}
use Rattle.board_rule.specs.declared.entries.Ended.{Ended}
use Rattle.board_rule.specs.declared.view.Doing.{Doing}
use Rattle.board_rule.specs.declared.view.Doing.TheVariants.{Idle}
use Rattle.transfer_table.specs.Counts.{one_if}
use Rattle.board_rule.specs.Sums.{total, draws_in, ended_as}
use Rattle.board_rule.specs.Counts.{draws, numbered, no_load, Load, part, load, guests}
use Rattle.board_rule.specs.Sets.{union}
use Rattle.board_rule.specs.Views.{joined_view, spent_view}
use Rattle.board_rule.specs.Places.{AreAt}
use Rattle.board_rule.specs.Rule.{Stands, Knows, KnowsSites, IsSeat, DoesRight}
use Rattle.board_rule.specs.Steps.{IsReady}
use Rattle.board_rule.specs.Laws.{St, Keeps}
use Rattle.board_rule.proofs.Totals.{total-set, total-same, total-snoc}
use Rattle.board_rule.proofs.Loads.{part-idle}
use Rattle.board_rule.proofs.Sets.{in-no_site, union-in, length-union}
use Rattle.board_rule.proofs.Places.{place_at}
use Rattle.board_rule.proofs.SiteSteps.{sites_other, guests-load}
use Rattle.board_rule.proofs.Looks.{few_harts}
use Rattle.board_rule.proofs.BoardSteps.{other_hart}

-- A site that either seat knew to be gone is known to be gone, and no site is seen empty.
sites_joined : (p : Plan) (t : TableState) (h g : ℕ) (m n : Marks) (c : ℕ → Bool) (f : ℕ → ℕ) → KnowsSites p t h m c f → KnowsSites p t g n c f → KnowsSites p t h (record m { empty = no_site p; gone = union m.gone n.gone }) c f
sites_joined p t h g m n c f k j = let none : (x : ℕ) → is_in (no_site p) x ≡ true → ⊥ = λ x is. let no = in-no_site p x in cc in record {
  sized = record { homes = k.sized.homes; closed = k.sized.closed; drained = k.sized.drained; empty = length-replicate (site_count p + 1) false; gone = length-union m.gone n.gone (k.sized.gone ∙ sym j.sized.gone) ∙ k.sized.gone };
  homes = k.homes;
  homes_in = k.homes_in;
  closed = k.closed;
  drained = k.drained;
  empty = λ x is. absurd (none x is);
  alone = λ x is. absurd (none x is);
  gone = λ x is. ⊎_elim (λ a. k.gone x a) (λ b. j.gone x b) (union-in m.gone n.gone x is);
}

pub join_keeps : (lay : Layout) (p : Plan) (s : St) (k : Stands lay p s) (id other : ℕ) (v w : View) → get_elem? s.views id ≡ some v → other ≢ id → get_elem? s.views other ≡ some w
    → v.hart ≡ 0 → IsSeat v → v.doing ≡ Idle → IsSeat w → IsReady w
    → Keeps lay p s k record { words = s.words; homes = s.homes; views = set (set s.views id (joined_view v w)) other spent_view }
join_keeps lay p s k id other v w at apart there zeroth seat idle seat_w ready_w =
    let both : View = joined_view v w in
    let know = k.views id v at seat in let me = know.itself in
    let know_w = k.views other w there seat_w in
    let mid : List View = set s.views id both in
    let vs : List View = set mid other spent_view in
    let at_other : get_elem? mid other ≡ some w = set_else s.views id other both apart ∙ there in
    -- A sum to which the spent view and the other view add 0.
    let same : (f : View → ℕ) → f both ≡ f v → f w ≡ 0 → f spent_view ≡ 0 → total f vs ≡ total f s.views
    = λ f a b c. let x = total-same f s.views id v both at a in let y = total-set f mid other w spent_view at_other in omega arith in
    let w_hart : w.hart ≢ 0 = λ z. other_hart lay p s k id other v w at seat apart there (z ∙ sym zeroth) in
    let now : List Ended = k.ended ++ record { hart = w.hart; mine = w.mine; places = w.places } ∷ [] in
    let draws_w : (i : ℕ) → draws i w ≡ 0 = λ i. ap (λ (d : Option Drawn). draws_in d i) ready_w.1 in
    let part_w : (x : ℕ) → part w.doing x ≡ no_load = λ x. ap (λ (d : Doing). part d x) ready_w.0 ∙ part-idle x in
    let load_same : (x : ℕ) → load x vs ≡ load x s.views = λ x. let a = part_w x in let b = part-idle x in λ i. record {
      claims = same (λ u. (part u.doing x).claims) refl (ap (λ (c : Load). c.claims) a) (ap (λ (c : Load). c.claims) b) i;
      seals = same (λ u. (part u.doing x).seals) refl (ap (λ (c : Load). c.seals) a) (ap (λ (c : Load). c.seals) b) i;
      reserves = same (λ u. (part u.doing x).reserves) refl (ap (λ (c : Load). c.reserves) a) (ap (λ (c : Load). c.reserves) b) i;
      lands = same (λ u. (part u.doing x).lands) refl (ap (λ (c : Load). c.lands) a) (ap (λ (c : Load). c.lands) b) i;
      leaves = same (λ u. (part u.doing x).leaves) refl (ap (λ (c : Load). c.leaves) a) (ap (λ (c : Load). c.leaves) b) i;
      credits = same (λ u. (part u.doing x).credits) refl (ap (λ (c : Load). c.credits) a) (ap (λ (c : Load). c.credits) b) i;
    } in
    let flown : (y : ℕ) → k.closing y ≡ true → guests lay p k.table s.views y ≡ 0 → guests lay p k.table vs y ≡ 0 = λ y _ z. guests-load lay p k.table s.views vs y (load_same y) ∙ z in
    let P : View → Type 0 = λ z. Knows lay p k.journal k.table z k.closing (guests lay p k.table vs) k.made now in
    let R : Doing → Type 0 = λ d. DoesRight lay p k.journal k.table both d in
    let few = few_harts p k.plan in (
      record {
        journal = k.journal;
        table = k.table;
        made = k.made;
        ended = now;
        closing = k.closing;
        plan = k.plan;
        few = k.few;
        wide = k.wide;
        legal = k.legal;
        board = k.board;
        places = λ i e is. place_at e _ _ _ _ refl (same (draws i) refl (draws_w i) refl) (k.places i e is);
        beyond = λ i c. let b = k.beyond i c in (b.0, same (draws i) refl (draws_w i) refl ∙ b.1);
        sites = λ x site. rw (load_same x) (k.sites x site);
        seats = λ h l. let old = k.seats h l in let x = total-same (numbered h) s.views id v both at refl in let y = total-set (numbered h) mid other w spent_view at_other in
            let e = total-snoc (ended_as h) k.ended record { hart = w.hart; mine = w.mine; places = w.places } in
            let none : numbered h spent_view ≡ 0 = ap one_if (ne_eqb 255 h (λ z. omega arith)) in
            omega arith;
        first = same (numbered 0) refl (ap one_if (ne_eqb w.hart 0 w_hart)) refl ∙ k.first;
        unmade = k.unmade;
        over = λ i e is. ⊎_elim (λ old. k.over i e old) (λ new. subst (λ (z : Ended). (z.mine ≡ made_by z.hart k.journal) × AreAt k.journal z.mine z.places) new (know_w.itself.mine, know_w.itself.placed)) (at_snoc k.ended record { hart = w.hart; mine = w.mine; places = w.places } e i is);
        views = λ j u is lt. ⊎_elim
            (λ t. absurd (let z : IsSeat spent_view = subst IsSeat (sym t.1) lt in omega arith))
            (λ t. ⊎_elim
            (λ c. subst P c.1 (record {
              itself = record { plan = me.plan; mine = me.mine; placed = me.placed; owner = me.owner; drawn = me.drawn; joined = λ z. ((me.joined zeroth).0, ap (λ (es : List Ended). es ++ record { hart = w.hart; mine = w.mine; places = w.places } ∷ []) (me.joined zeroth).1) };
              does = subst R (sym idle) tt;
              sites = sites_other p k.table v.hart both.marks k.closing k.closing (guests lay p k.table s.views) (guests lay p k.table vs) (λ y z. z) flown
                  (let Q : Plan → Type 0 = λ q. KnowsSites p k.table v.hart (record v.marks { empty = no_site q; gone = union v.marks.gone w.marks.gone }) k.closing (guests lay p k.table s.views) in
                  subst Q (sym me.plan) (sites_joined p k.table v.hart w.hart v.marks w.marks k.closing (guests lay p k.table s.views) know.sites know_w.sites));
            }))
            (λ c. let o = k.views j u c.1 lt in let it = o.itself in record {
              itself = record { plan = it.plan; mine = it.mine; placed = it.placed; owner = it.owner; drawn = it.drawn; joined = λ z. absurd (other_hart lay p s k id j v u at seat c.0 c.1 (z ∙ sym zeroth)) };
              does = o.does;
              sites = sites_other p k.table u.hart u.marks k.closing k.closing (guests lay p k.table s.views) (guests lay p k.table vs) (λ y z. z) flown o.sites;
            })
            (at_set s.views id j both u t.1))
            (at_set mid other j spent_view u is);
        spent = λ j u is not. ⊎_elim
            (λ t. sym t.1)
            (λ t. ⊎_elim (λ c. absurd (not (subst IsSeat c.1 seat))) (λ c. k.spent j u c.1 not) (at_set s.views id j both u t.1))
            (at_set mid other j spent_view u is);
      },
      refl,
      refl,
    )

-- The first board, and a hart's seat that is split off.
use Rattle.std.proofs.Common.{◌≡◌, ◌≢◌, ℕ, zero, suc, ◌+◌, ◌<◌, Bool, true, false, eqb, ne_eqb, ◌&&◌, nat_le, List, [], ◌∷◌, ◌++◌, set, replicate, refl, sym, ap, ◌∙◌, subst, arith, ⊎_elim}
use mathlib.Core.Option.{some, some-injective, some-ne-none}
use lib.ListN.{get_elem?}
use Rattle.std.proofs.lemmas.List.{length-replicate}
use Rattle.atomic_table.specs.Table.{opening}
use Rattle.atomic_table.proofs.Lists.{at_set, at_snoc}
use Rattle.transfer_table.specs.Plan.{Plan, IsPlan, IsSite, site_count}
use Rattle.transfer_table.specs.Table.{TableState, first_state, row, is_live, is_home, lives_with}
use Rattle.transfer_table.specs.declared.entry.Row.{Row}
use Rattle.transfer_table.proofs.Lists.{replicate_at}
use Rattle.transfer_table.proofs.Stages.{first_blank}
use Rattle.transfer_table.proofs.Makers.{legal_idle, legal_idle-lives_with}
use Rattle.hart_port.specs.PortView.{is_in}
use Rattle.hart_port.specs.Ledger.{no_site}
use Rattle.board_rule.specs.declared.view.View.{View}
use Rattle.board_rule.specs.declared.view.Doing.{Doing}
use Rattle.board_rule.specs.declared.view.Doing.TheVariants.{Idle}
use Rattle.board_rule.specs.Encodings.{width, journal_index}
use Rattle.transfer_table.specs.Counts.{one_if}
use Rattle.board_rule.specs.Sums.{total}
use Rattle.board_rule.specs.Counts.{draws, numbered, no_load, Load, part, load, guests}
use Rattle.board_rule.specs.Views.{first_view, no_marks, split_left, split_right}
use Rattle.board_rule.specs.Rule.{Stands, Knows, KnowsSites, HasFlags, IsSeat, DoesRight}
use Rattle.board_rule.specs.Laws.{St, Keeps}
use Rattle.board_rule.proofs.Totals.{total-same, total-snoc}
use Rattle.board_rule.proofs.Loads.{part-idle}
use Rattle.board_rule.proofs.Sets.{in-no_site}
use Rattle.board_rule.proofs.Places.{place_at}
use Rattle.board_rule.proofs.SiteSteps.{sites_other, guests-load}
use Rattle.hart_port.specs.Words.{owner_digits}
use Rattle.board_rule.specs.declared.layout.Layout.{Layout}
use Rattle.board_rule.specs.declared.layout.Layout.TheVariants.{Owners, Guests}
use Rattle.board_rule.specs.Layouts.{HasRoom, first_word}
use Rattle.board_rule.proofs.Layouts.{no_insider}
use Rattle.std.proofs.lemmas.Bool.Decides.{nat_tests}
use Rattle.transfer_table.specs.declared.entry.Stage.TheVariants.{New}
use Rattle.board_rule.proofs.BoardSteps.{one_seat, other_hart}

no_digits : (n : ℕ) → owner_digits (replicate n 0) ≡ 0
no_digits zero = refl
no_digits (suc n) = let r = no_digits n in omega arith

-- The first word of a new board is 0.
opening_word : (lay : Layout) (p : Plan) → first_word lay (first_state p) 0 ≡ 0
opening_word Owners p = let z = no_digits p.harts in omega arith
opening_word Guests p = refl

pub first_seats : (h : ℕ) → one_if (eqb 0 h) + 0 + 0 + one_if (nat_le 1 h) ≡ 1
first_seats h = grind (arith, nat_tests)

first_is : (v w : View) (j : ℕ) → get_elem? (v ∷ []) j ≡ some w → v ≡ w
first_is v w zero e = some-injective v w e
first_is v w (suc j) e = absurd (some-ne-none w (sym e))

flags : (p : Plan) → HasFlags p (no_marks p)
flags p = let n = length-replicate (site_count p + 1) false in record { homes = n; closed = n; drained = n; empty = n; gone = n }

-- The empty sets of a fresh seat are right.
nothing_known : (p : Plan) (t : TableState) (h : ℕ) (c : ℕ → Bool) (f : ℕ → ℕ) → ((x : ℕ) → IsSite p x → lives_with t x h ≡ false) → KnowsSites p t h (no_marks p) c f
nothing_known p t h c f homeless = let none : (x : ℕ) → is_in (no_site p) x ≡ true → ⊥ = λ x is. let no = in-no_site p x in cc in record {
  sized = flags p;
  homes = λ x site. in-no_site p x ∙ sym (homeless x site);
  homes_in = λ x is. absurd (none x is);
  closed = λ x is. absurd (none x is);
  drained = λ x is. absurd (none x is);
  empty = λ x is. absurd (none x is);
  alone = λ x is. absurd (none x is);
  gone = λ x is. absurd (none x is);
}

-- An idle seat adds nothing to a load.
load-idle : (x : ℕ) (v : View) → v.doing ≡ Idle → load x (v ∷ []) ≡ no_load
load-idle x v idle = let e : part v.doing x ≡ no_load = ap (λ (d : Doing). part d x) idle ∙ part-idle x in
    λ i. record { claims = (e i).claims + 0; seals = (e i).seals + 0; reserves = (e i).reserves + 0; lands = (e i).lands + 0; leaves = (e i).leaves + 0; credits = (e i).credits + 0 }

pub opens : (lay : Layout) (p : Plan) → IsPlan p → HasRoom lay p.harts → Stands lay p (opening (replicate (width p) 0) [] (first_view p))
opens lay p plan few = record {
  journal = [];
  table = first_state p;
  made = 1;
  ended = [];
  closing = λ _. false;
  plan = plan;
  few = few;
  wide = length-replicate (width p) 0;
  legal = refl;
  board = replicate_at (width p) 0 0 ∙ sym (opening_word lay p);
  places = λ i e is. absurd (cc);
  beyond = λ i l. (replicate_at (width p) (journal_index p i) 0, refl);
  sites = λ x site. let none = load-idle x (first_view p) refl in
      let no_guest = no_insider lay p plan [] (first_state p) refl x site (λ live. let new : (row (first_state p) x).stage ≡ New = ap (λ (r : Row). r.stage) (first_blank p x) in cc) in
      rw (replicate_at {A = ℕ} (width p) x 0, none, no_guest) (record { want = 0; claimed = omega arith; fresh = λ _. refl; over = λ z. absurd (cc); idle = λ _. refl; sealed = omega arith; wishes = refl; word_is = omega arith });
  seats = λ h l. first_seats h;
  first = refl;
  unmade = λ h l. refl;
  over = λ k e is. absurd (some-ne-none e (sym is));
  views = λ j v is lt. let P : View → Type 0 = λ z. Knows lay p [] (first_state p) z (λ _. false) (guests lay p (first_state p) (first_view p ∷ [])) 1 [] in subst P (first_is (first_view p) v j is) (record {
    itself = record { plan = refl; mine = refl; placed = tt; owner = sym (replicate_at p.harts 0 0); drawn = λ d c. absurd (cc); joined = λ _. (refl, refl) };
    does = tt;
    sites = nothing_known p (first_state p) 0 (λ _. false) _ (λ x site. ap (λ (r : Row). is_live r.stage && is_home r.home 0) (first_blank p x));
  });
  spent = λ j v is not. absurd (not (subst IsSeat (first_is (first_view p) v j is) (let z = plan.some_hart in omega arith)));
}

pub made_reports : (m h : ℕ) → one_if (eqb m h) + one_if (nat_le (m + 1) h) ≡ one_if (nat_le m h)
made_reports m h = grind (arith, nat_tests)

pub split_keeps : (lay : Layout) (p : Plan) (s : St) (k : Stands lay p s) (id : ℕ) (v : View) → get_elem? s.views id ≡ some v → v.hart ≡ 0 → v.plan ≡ p → v.made < p.harts → v.doing ≡ Idle
    → Keeps lay p s k record { words = s.words; homes = s.homes; views = set s.views id (split_left v) ++ split_right v ∷ [] }
split_keeps lay p s k id v at zeroth is_plan below idle =
    let l : View = split_left v in let r : View = split_right v in
    let some_hart = k.plan.some_hart in
    let seat : IsSeat v = subst (λ (z : ℕ × Plan). z.0 < z.1.harts) (λ i. (sym zeroth i, sym is_plan i)) (let z : 0 < p.harts = omega arith in z) in
    let know = k.views id v at seat in let me = know.itself in
    let made : v.made ≡ k.made = (me.joined zeroth).0 in
    let vs : List View = set s.views id l ++ r ∷ [] in
    let unmade = k.unmade v.made (omega arith) in
    let idle_hart = legal_idle p k.plan k.journal k.table k.legal v.made unmade in
    -- A sum to which a fresh view adds 0.
    let none : (f : View → ℕ) → f l ≡ f v → f r ≡ 0 → total f vs ≡ total f s.views = λ f a b. total-snoc f (set s.views id l) r ∙ (let c = total-same f s.views id v l at a in omega arith) in
    let idle_part : (x : ℕ) → part r.doing x ≡ no_load = λ x. part-idle x in
    let load_same : (x : ℕ) → load x vs ≡ load x s.views = λ x. let e = idle_part x in λ i. record {
      claims = none (λ u. (part u.doing x).claims) refl (ap (λ (c : Load). c.claims) e) i;
      seals = none (λ u. (part u.doing x).seals) refl (ap (λ (c : Load). c.seals) e) i;
      reserves = none (λ u. (part u.doing x).reserves) refl (ap (λ (c : Load). c.reserves) e) i;
      lands = none (λ u. (part u.doing x).lands) refl (ap (λ (c : Load). c.lands) e) i;
      leaves = none (λ u. (part u.doing x).leaves) refl (ap (λ (c : Load). c.leaves) e) i;
      credits = none (λ u. (part u.doing x).credits) refl (ap (λ (c : Load). c.credits) e) i;
    } in
    let flown : (y : ℕ) → k.closing y ≡ true → guests lay p k.table s.views y ≡ 0 → guests lay p k.table vs y ≡ 0 = λ y _ z. guests-load lay p k.table s.views vs y (load_same y) ∙ z in
    let R : Doing → Type 0 = λ d. DoesRight lay p k.journal k.table l d in (
      record {
        journal = k.journal;
        table = k.table;
        made = k.made + 1;
        ended = k.ended;
        closing = k.closing;
        plan = k.plan;
        few = k.few;
        wide = k.wide;
        legal = k.legal;
        board = k.board;
        places = λ i e is. place_at e _ _ _ _ refl (none (draws i) refl refl) (k.places i e is);
        beyond = λ i c. let b = k.beyond i c in (b.0, none (draws i) refl refl ∙ b.1);
        sites = λ x site. rw (load_same x) (k.sites x site);
        seats = λ h c. let old = k.seats h c in let sum = total-snoc (numbered h) (set s.views id l) r in let same = total-same (numbered h) s.views id v l at refl in let report = made_reports v.made h in
            let m : one_if (nat_le (k.made + 1) h) ≡ one_if (nat_le (v.made + 1) h) = ap (λ (q : ℕ). one_if (nat_le (q + 1) h)) (sym made) in let m' : one_if (nat_le k.made h) ≡ one_if (nat_le v.made h) = ap (λ (q : ℕ). one_if (nat_le q h)) (sym made) in omega arith;
        first = none (numbered 0) refl (let one = one_seat lay p s k id v at seat in let above : v.hart < v.made = omega (arith, one.2, made) in let apart : v.made ≢ 0 = λ z. omega arith in ap one_if (ne_eqb v.made 0 apart)) ∙ k.first;
        unmade = λ h c. k.unmade h (omega arith);
        over = k.over;
        views = λ j u is lt. let P : View → Type 0 = λ z. Knows lay p k.journal k.table z k.closing (guests lay p k.table vs) (k.made + 1) k.ended in ⊎_elim
            (λ old. ⊎_elim
            (λ t. subst P t.1 (record {
              itself = record { plan = me.plan; mine = me.mine; placed = me.placed; owner = me.owner; drawn = me.drawn; joined = λ z. (ap (λ (q : ℕ). q + 1) made, (me.joined zeroth).1) };
              does = subst R (sym idle) tt;
              sites = sites_other p k.table v.hart v.marks k.closing k.closing (guests lay p k.table s.views) (guests lay p k.table vs) (λ y z. z) flown know.sites;
            }))
            (λ t. let o = k.views j u t.1 lt in let it = o.itself in record {
              itself = record { plan = it.plan; mine = it.mine; placed = it.placed; owner = it.owner; drawn = it.drawn; joined = λ z. absurd (other_hart lay p s k id j v u at seat t.0 t.1 (z ∙ sym zeroth)) };
              does = o.does;
              sites = sites_other p k.table u.hart u.marks k.closing k.closing (guests lay p k.table s.views) (guests lay p k.table vs) (λ y z. z) flown o.sites;
            })
            (at_set s.views id j l u old))
            (λ new. subst P new (record {
              itself = record { plan = is_plan; mine = sym unmade; placed = tt; owner = sym idle_hart.base; drawn = λ d c. absurd (cc); joined = λ z. absurd (let c = (one_seat lay p s k id v at seat).2 in omega arith) };
              does = tt;
              sites = (let Q : Plan → Type 0 = λ q. KnowsSites p k.table v.made (no_marks q) k.closing (guests lay p k.table vs) in subst Q (sym is_plan) (nothing_known p k.table v.made k.closing (guests lay p k.table vs) (legal_idle-lives_with p k.plan k.journal k.table k.legal v.made unmade)));
            }))
            (at_snoc (set s.views id l) r u j is);
        spent = λ j u is not. ⊎_elim
            (λ old. ⊎_elim (λ t. absurd (not (subst IsSeat t.1 seat))) (λ t. k.spent j u t.1 not) (at_set s.views id j l u old))
            (λ new. absurd (not (subst IsSeat new (subst (λ (q : Plan). v.made < q.harts) (sym is_plan) below))))
            (at_snoc (set s.views id l) r u j is);
      },
      refl,
      refl,
    )

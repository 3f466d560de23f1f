-- The steps on a site's word after an entry: a credit, a landing, a seal; and the close of a site.
use Rattle.std.proofs.Common.{◌≡◌, ℕ, ◌+◌, ◌-◌, ◌*◌, ◌%◌, ◌^◌, ◌<◌, Bool, true, length, set, slice_index, refl, sym, ap, ◌∙◌, subst, arith, bit_or, ⊎_elim, length-set}
use mathlib.Core.Option.{some}
use lib.ListN.{get_elem?}
use Rattle.transfer_table.specs.Plan.{Plan, IsSite}
use Rattle.transfer_table.specs.Table.{TableState}
use Rattle.hart_port.specs.PortView.{is_in, with_site}
use Rattle.board_rule.specs.declared.view.View.{View}
use Rattle.board_rule.specs.declared.view.Marks.{Marks}
use Rattle.board_rule.specs.declared.view.Doing.{Doing}
use Rattle.board_rule.specs.declared.view.Doing.TheVariants.{Idle, Crediting, Landing, Leaving, Sealing}
use Rattle.board_rule.specs.Counts.{Load, no_load, weight, busy_at, part, load, guests}
use Rattle.board_rule.specs.Views.{done_view, close_view}
use Rattle.board_rule.specs.Shown.{shown}
use Rattle.board_rule.specs.Rule.{Stands, KnowsSites, IsSeat, IsSiteWord, DoesRight}
use Rattle.transfer_table.specs.declared.entry.Row.{Row}
use Rattle.board_rule.proofs.Shown.{shown-live}
use Rattle.board_rule.specs.Steps.{MayClose, MayFollow}
use Rattle.board_rule.specs.Laws.{St, after_step, Keeps}
use Rattle.board_rule.proofs.Loads.{part-elsewhere, part-here, part-idle, load-shift, load-same, Shifts}
use Rattle.board_rule.proofs.Sets.{with_site-in, with_site-keeps}
use Rattle.board_rule.proofs.SiteWords.{credited_word, landed_word, left_word, sealed_word, closing_word}
use Rattle.board_rule.specs.declared.layout.Layout.{Layout}
use Rattle.board_rule.specs.Layouts.{insiders}
use Rattle.board_rule.proofs.SiteSteps.{guests-load, site_step, sites_other, closing_with, closing_lasts, closing_here}
use Rattle.board_rule.proofs.Looks.{few_wishes, home_live}

-- A seat that is busy at x ends its call, and the word of x becomes n.
done_step : (lay : Layout) (p : Plan) (s : St) (k : Stands lay p s) (id : ℕ) (v : View) (x n : ℕ) (d : Doing) → get_elem? s.views id ≡ some v → IsSeat v → IsSite p x → v.doing ≡ d → busy_at d ≡ x
    → ((c c' : Load) → Shifts c c' (weight d) no_load → IsSiteWord (slice_index s.words x) (k.closing x) c (shown k.journal k.table x) (insiders lay p k.table x) → IsSiteWord n (k.closing x) c' (shown k.journal k.table x) (insiders lay p k.table x))
    → Keeps lay p s k (after_step s x n id (done_view v))
done_step lay p s k id v x n d at seat site does busy word =
    let know = (k.views id v at seat).sites in
    let was : part v.doing x ≡ weight d = ap (λ (q : Doing). part q x) does ∙ part-here d x busy in
    let shift = load-shift x s.views id v (done_view v) (weight d) no_load at was (part-idle x) in
    let r1 = shift.reserves in let r2 = shift.lands in let r3 = shift.leaves in
    site_step lay p s k id v Idle v.marks v.looks x n (k.closing x) at seat site
    (λ y n. part-idle y ∙ sym (ap (λ (q : Doing). part q y) does ∙ part-elsewhere d y (λ z. n (sym z ∙ busy))))
    (λ z. z)
    (λ _. omega arith)
    (word (load x s.views) (load x (set s.views id (done_view v))) shift (k.sites x site))
    tt
    (sites_other p k.table v.hart v.marks k.closing (closing_with k.closing x (k.closing x)) (guests lay p k.table s.views) (guests lay p k.table s.views) (closing_lasts k.closing x (k.closing x) (λ z. z)) (λ _ _ z. z) know)

right : (lay : Layout) (p : Plan) (s : St) (k : Stands lay p s) (id : ℕ) (v : View) (d : Doing) → get_elem? s.views id ≡ some v → IsSeat v → v.doing ≡ d → DoesRight lay p k.journal k.table v d
right lay p s k id v d at seat does = let R : Doing → Type 0 = λ q. DoesRight lay p k.journal k.table v q in subst R does (k.views id v at seat).does

pub credit_keeps : (lay : Layout) (p : Plan) (s : St) (k : Stands lay p s) (id : ℕ) (v : View) (x n : ℕ) → get_elem? s.views id ≡ some v → IsSeat v → slice_index s.words x < 2 ^ 64 → MayFollow v (Crediting x n)
    → Keeps lay p s k (after_step s x ((slice_index s.words x + 256 * n) % 2 ^ 64) id (done_view v))
credit_keeps lay p s k id v x n at seat small does = let site = (right lay p s k id v (Crediting x n) at seat does.0).0 in
    done_step lay p s k id v x _ (Crediting x n) at seat site does.0 refl (λ c c' shift word. credited_word (slice_index s.words x) n (k.closing x) c c' (shown k.journal k.table x) (insiders lay p k.table x) x shift (few_wishes lay p s k x site) small word)

pub land_keeps : (lay : Layout) (p : Plan) (s : St) (k : Stands lay p s) (id : ℕ) (v : View) (x : ℕ) → get_elem? s.views id ≡ some v → IsSeat v → slice_index s.words x < 2 ^ 64 → MayFollow v (Landing x)
    → Keeps lay p s k (after_step s x ((slice_index s.words x + (2 ^ 64 - 65536)) % 2 ^ 64) id (done_view v))
land_keeps lay p s k id v x at seat small does = let site = (right lay p s k id v (Landing x) at seat does.0).0 in
    done_step lay p s k id v x _ (Landing x) at seat site does.0 refl (λ c c' shift word. landed_word (slice_index s.words x) (k.closing x) c c' (shown k.journal k.table x) (insiders lay p k.table x) x shift small word)

pub leave_keeps : (lay : Layout) (p : Plan) (s : St) (k : Stands lay p s) (id : ℕ) (v : View) (x : ℕ) → get_elem? s.views id ≡ some v → IsSeat v → slice_index s.words x < 2 ^ 64 → MayFollow v (Leaving x)
    → Keeps lay p s k (after_step s x ((slice_index s.words x + (2 ^ 64 - 65536)) % 2 ^ 64) id (done_view v))
leave_keeps lay p s k id v x at seat small does = let site = (right lay p s k id v (Leaving x) at seat does.0).0 in
    done_step lay p s k id v x _ (Leaving x) at seat site does.0 refl (λ c c' shift word. left_word (slice_index s.words x) (k.closing x) c c' (shown k.journal k.table x) (insiders lay p k.table x) x shift small word)

pub seal_keeps : (lay : Layout) (p : Plan) (s : St) (k : Stands lay p s) (id : ℕ) (v : View) (x : ℕ) → get_elem? s.views id ≡ some v → IsSeat v → MayFollow v (Sealing x)
    → Keeps lay p s k (after_step s x (bit_or (slice_index s.words x) 4) id (done_view v))
seal_keeps lay p s k id v x at seat does = let r = right lay p s k id v (Sealing x) at seat does.0 in
    done_step lay p s k id v x _ (Sealing x) at seat r.0 does.0 refl (λ c c' shift word. sealed_word (slice_index s.words x) (k.closing x) c c' (shown k.journal k.table x) (insiders lay p k.table x) x shift r.1 (few_wishes lay p s k x r.0) word)

-- ---- close

sites_closed : (p : Plan) (t : TableState) (h : ℕ) (m : Marks) (c : ℕ → Bool) (f : ℕ → ℕ) (x : ℕ) → is_in m.homes x ≡ true → KnowsSites p t h m c f → KnowsSites p t h (record m { closed = with_site m.closed x }) (closing_with c x true) f
sites_closed p t h m c f x home k =
    let inside : x < length m.closed = let site = k.homes_in x home in let z = k.sized.closed in omega (arith, site.1) in
    let close = closing_lasts c x true (λ _. refl) in record {
      sized = record { homes = k.sized.homes; closed = length-set m.closed x true ∙ k.sized.closed; drained = k.sized.drained; empty = k.sized.empty; gone = k.sized.gone };
      homes = k.homes;
      homes_in = k.homes_in;
      closed = λ y is. ⊎_elim (λ e. let Q : ℕ → Type 0 = λ q. (is_in m.homes q ≡ true) × (closing_with c x true q ≡ true) in subst Q (sym e) (home, closing_here c x true)) (λ old. let r = k.closed y old in (r.0, close y r.1)) (with_site-in m.closed x y is);
      drained = λ y is. let d = k.drained y is in (with_site-keeps m.closed x y inside d.0, d.1);
      empty = k.empty;
      alone = k.alone;
      gone = k.gone;
    }

pub close_keeps : (lay : Layout) (p : Plan) (s : St) (k : Stands lay p s) (id : ℕ) (v : View) → get_elem? s.views id ≡ some v → IsSeat v → MayClose v
    → Keeps lay p s k (after_step s v.owner (bit_or (slice_index s.words v.owner) 2) id (close_view v))
close_keeps lay p s k id v at seat may =
    let x : ℕ = v.owner in
    let know = (k.views id v at seat).sites in
    let home = home_live lay p s k id v x at seat may.1 in
    let same = load-same x s.views id v (close_view v) at refl in
    let R : Doing → Type 0 = λ q. DoesRight lay p k.journal k.table (close_view v) q in
    site_step lay p s k id v v.doing (record v.marks { closed = with_site v.marks.closed v.owner }) v.looks x (bit_or (slice_index s.words x) 2) true at seat home.0
    (λ y n. refl)
    (λ _. refl)
    (λ _. let r : guests lay p k.table (set s.views id (close_view v)) x ≡ guests lay p k.table s.views x = guests-load lay p k.table s.views (set s.views id (close_view v)) x same in omega arith)
    (rw same (closing_word (slice_index s.words x) (k.closing x) (load x s.views) (shown k.journal k.table x) (insiders lay p k.table x) (ap (λ (r : Row). r.stage) (shown-live p k.plan k.journal k.table k.legal x home.0 home.1) ∙ home.1) (few_wishes lay p s k x home.0) (k.sites x home.0)))
    (subst R (sym may.0.0) tt)
    (sites_closed p k.table v.hart v.marks k.closing (guests lay p k.table s.views) x may.1 know)

-- A whole run, by induction over its entries.
use Rattle.std.proofs.Common.{◌≡◌, ℕ, zero, suc, ◌+◌, ◌-◌, ◌<◌, ◌≤◌, Bool, if◌then◌else◌, ◌==◌, List, [], ◌∷◌, ◌++◌, length, slice_index, sym, ap, refl, ◌∙◌, subst, arith, Result, Ok, Err, eq-eqb}
use Rattle.std.proofs.lemmas.List.{length-replicate}
use Rattle.std.proofs.lemmas.List.Sums.{sum_by-append}
use Rattle.transfer_table.specs.Plan.{Plan, IsSite, parent, site_count}
use Rattle.transfer_table.specs.Table.{TableState, admit_of, first_state, row, blank}
use Rattle.transfer_table.specs.Journal.{replay_from, and_then}
use Rattle.transfer_table.specs.Entry.{site_of, count_of, requested}
use Rattle.transfer_table.specs.declared.entry.Row.{Row}
use Rattle.transfer_table.specs.declared.entry.Stage.TheVariants.{New}
use Rattle.transfer_table.specs.declared.entry.NotAdmitted.{NotAdmitted}
use Rattle.transfer_table.specs.declared.entry.Entry.{Entry}
use Rattle.transfer_table.proofs.Lists.{replicate_at}
use Rattle.open_table.specs.declared.table.Size.{Size}
use Rattle.open_table.specs.declared.table.Post.{Post}
use Rattle.open_table.specs.declared.table.Act.{Act}
use Rattle.open_table.specs.declared.table.Act.TheVariants as act
use Rattle.open_table.specs.declared.table.Entry.{Entry as OpenEntry}
use Rattle.open_table.specs.Table.{TableState as OpenState, first_state as open_start, after, Admits, Leads, Reaches}
use Rattle.open_table.proofs.Entries.{reached_is_sound, top_home}
use Rattle.table_laws.specs.Planned.{Numbering, no_sites, numbered, numbered_by, parents_in, parents_from, plan_of_run, transfers_in, transfers_from, planned}
use Rattle.table_laws.specs.Agreement.{Agrees, AreBegun}
use Rattle.table_laws.specs.Laws.{PlansAreTrees, OpenRunsAreLegal}
use Rattle.table_laws.proofs.Numbers.{AreLater, IsLater, all_later, numbers_after, reaches-snoc}
use Rattle.table_laws.proofs.Transfers.{IsSized}
use Rattle.table_laws.proofs.Keeps.{in_plan}
use Rattle.table_laws.proofs.Steps.{Moved, register, request_none, request_some, withdraw, enter, yield, close, see_empty, unregister}

-- The plan's sites are those so far, and one for each of these parents.
pub record IsAhead (p : Plan) (n : Numbering) (qs : List ℕ) : Type 0 where
  pub size : site_count p ≡ n.count + length qs
  pub at : (i : ℕ) → slice_index p.parents (n.count + i) ≡ slice_index qs i

ahead_after : (p : Plan) (n : Numbering) (s : List Post) (a : Act) (qs : List ℕ) → IsAhead p n (parents_in s a n ++ qs) → IsAhead p (numbered a n) qs
ahead_after p n s (act.Register x) qs is = record {
  size = let e = is.size in omega arith;
  at = λ i. let e : n.count + 1 + i ≡ n.count + suc i = omega arith in ap (slice_index p.parents) e ∙ is.at (suc i);
}
ahead_after p n s (act.Request x k) qs is = is
ahead_after p n s (act.Withdraw x k) qs is = is
ahead_after p n s (act.Enter x) qs is = is
ahead_after p n s (act.Yield x) qs is = is
ahead_after p n s (act.Close x) qs is = is
ahead_after p n s (act.SeeEmpty x) qs is = is
ahead_after p n s (act.Unregister x) qs is = is

-- The parent of a site that isn't registered yet.
parent_ahead : (p : Plan) (n : Numbering) (t : OpenState) (qs : List ℕ) → IsAhead p n qs → AreLater t n qs → (c : ℕ) → IsSite p c → n.count < c → IsLater t n (parent p c)
parent_ahead p n t qs is later c site lt =
    let size = is.size in let high = site.1 in
    let i : ℕ = c - 1 - n.count in
    let e : c - 1 ≡ n.count + i = omega arith in
    subst (IsLater t n) (sym (ap (slice_index p.parents) e ∙ is.at i)) (later i (omega arith)).0

-- No site asks for more than the others in these transfers, and before them.
abbrev pub Fits : Plan → TableState → List Entry → Type 0
Fits p u es = (s : ℕ) → IsSite p s → (row u s).asked + requested s es ≤ p.harts - 1

requested-append : (s : ℕ) (xs ys : List Entry) → requested s (xs ++ ys) ≡ requested s xs + requested s ys
requested-append s xs ys = sum_by-append (λ e. if site_of e == s then count_of e else 0) xs ys

module _ (z : Size) (p : Plan) (same : p.harts ≡ z.harts) where
  -- One entry.
  by_act : (done : List OpenEntry) (t : OpenState) (n : Numbering) (u : TableState) → Reaches z done t → Agrees z t n p u → AreBegun n p u → IsSized p u
      → (h : ℕ) (a : Act) → Admits z t record { hart = h; act = a } → (qs : List ℕ) → IsAhead p n (parents_in (t.stacks h) a n ++ qs)
      → AreLater (after t record { hart = h; act = a }) (numbered a n) qs → Fits p u (transfers_in h a n)
      → Moved z p (after t record { hart = h; act = a }) (numbered a n) u (transfers_in h a n)
  by_act done t n u reached A B sized h (act.Register x) ok qs ahead later fits =
      let size = ahead.size in
      let e : n.count + 1 - 1 ≡ n.count + 0 = omega arith in
      register z p done t n u same reached A B sized (omega arith) h x ok (omega arith) (ap (slice_index p.parents) e ∙ ahead.at 0)
  by_act done t n u reached A B sized h (act.Request x zero) ok qs ahead later fits =
      let size = ahead.size in request_none z p done t n u same reached A B sized (omega arith) h x ok
  by_act done t n u reached A B sized h (act.Request x (suc k)) ok qs ahead later fits =
      let size = ahead.size in
      let few : n.count ≤ site_count p = omega arith in
      let top = top_home z t (reached_is_sound z done t reached) h ok.0 x ok.1.0 ok.1.1 in
      let f = fits (n.number x) (in_plan z p t n u u A few x top.live) in
      let e : (if n.number x == n.number x then suc k else 0) ≡ suc k = ap (λ (b : Bool). if b then suc k else 0) (eq-eqb (n.number x) (n.number x) refl) in
      request_some z p done t n u same reached A B sized few h x k ok (omega arith)
  by_act done t n u reached A B sized h (act.Withdraw x k) ok qs ahead later fits =
      let size = ahead.size in withdraw z p done t n u same reached A B sized (omega arith) h x k ok
  by_act done t n u reached A B sized h (act.Enter x) ok qs ahead later fits =
      let size = ahead.size in enter z p done t n u same reached A B sized (omega arith) h x ok
  by_act done t n u reached A B sized h (act.Yield x) ok qs ahead later fits =
      let size = ahead.size in yield z p done t n u same reached A B sized (omega arith) h x ok
  by_act done t n u reached A B sized h (act.Close x) ok qs ahead later fits =
      let size = ahead.size in close z p done t n u same reached A B sized (omega arith) h x ok
  by_act done t n u reached A B sized h (act.SeeEmpty x) ok qs ahead later fits =
      let size = ahead.size in see_empty z p done t n u same reached A B sized (omega arith) h x ok
  by_act done t n u reached A B sized h (act.Unregister x) ok qs ahead later fits =
      let size = ahead.size in
      unregister z p done t n u same reached A B sized (omega arith) h x ok (parent_ahead p n (after t record { hart = h; act = act.Unregister x }) qs ahead later)

  -- Two lists of transfers in turn.
  replays : (xs ys : List Entry) (u v w : TableState) → replay_from p u xs ≡ Ok v → replay_from p v ys ≡ Ok w → replay_from p u (xs ++ ys) ≡ Ok w
  replays [] ys u v w a b = let same : u ≡ v = cc in subst (λ (q : TableState). replay_from p q ys ≡ Ok w) (sym same) b
  replays (x ∷ xs) ys u v w a b = more (admit_of p u x) (λ q k. replays xs ys q v w k b) a
    where
      more : (r : Result TableState NotAdmitted) → ((q : TableState) → replay_from p q xs ≡ Ok v → replay_from p q (xs ++ ys) ≡ Ok w)
          → and_then (λ q. replay_from p q xs) r ≡ Ok v → and_then (λ q. replay_from p q (xs ++ ys)) r ≡ Ok w
      more (Ok q) again k = again q k
      more (Err f) again k = absurd (cc)

  in_turn : (t w : OpenState) (n m : Numbering) (u : TableState) (xs ys : List Entry) (M : Moved z p t n u xs) → Moved z p w m M.to ys → Moved z p w m u (xs ++ ys)
  in_turn t w n m u xs ys M N = record {
    to = N.to;
    leads = replays xs ys u M.to N.to M.leads N.leads;
    sized = N.sized;
    agrees = N.agrees;
    begun = N.begun;
    asked = λ s site. let a = M.asked s site in let b = N.asked s site in let e = requested-append s xs ys in omega arith;
  }

  run : (es done : List OpenEntry) (t w : OpenState) (n : Numbering) (u : TableState) → Reaches z done t → Leads z t es w → Agrees z t n p u → AreBegun n p u → IsSized p u
      → IsAhead p n (parents_from t n es) → Fits p u (transfers_from n es) → Moved z p w (numbered_by n es) u (transfers_from n es)
  run [] done t w n u reached l A B sized ahead fits = record {
    to = u;
    leads = refl;
    sized = sized;
    agrees = subst (λ (q : OpenState). Agrees z q n p u) l A;
    begun = B;
    asked = λ s site. omega arith;
  }
  run (e ∷ es) done t w n u reached l A B sized ahead fits =
      let reached' = reaches-snoc z done e t reached l.0 in
      let qs : List ℕ = parents_from (after t e) (numbered e.act n) es in
      let numbers = numbers_after z t n (reached_is_sound z done t reached) e.hart e.act l.0 A.numbers in
      let first = transfers_in e.hart e.act n in
      let rest = transfers_from (numbered e.act n) es in
      let M = by_act done t n u reached A B sized e.hart e.act l.0 qs ahead (all_later z es (done ++ e ∷ []) (after t e) w (numbered e.act n) reached' l.1 numbers)
      (λ s site. let f = fits s site in let b = requested-append s first rest in omega arith) in
      in_turn (after t e) w (numbered e.act n) (numbered_by (numbered e.act n) es) u first rest M
      (run es (done ++ e ∷ []) (after t e) w (numbered e.act n) M.to reached' l.1 M.agrees M.begun M.sized (ahead_after p n (t.stacks e.hart) e.act qs ahead)
      (λ s site. let f = fits s site in let b = requested-append s first rest in let a = M.asked s site in omega arith))

-- ---- from the start

pub new_first : (p : Plan) (s : ℕ) → (row (first_state p) s).stage ≡ New
new_first p s = ap (λ (r : Row). r.stage) (replicate_at (site_count p) (s - 1) blank)

agrees_first : (z : Size) (p : Plan) → Agrees z open_start no_sites p (first_state p)
agrees_first z p = record {
  numbers = record { base = refl; known = λ x l. absurd (cc); apart = λ x y a b e. absurd (cc) };
  owners = λ h lt. replicate_at p.harts h 0;
  live = λ x l. absurd (cc);
  others = λ s site is. let e : (row (first_state p) s).stage ≡ New = new_first p s in absurd (cc);
}

begun_first : (p : Plan) → AreBegun no_sites p (first_state p)
begun_first p = record {
  begun = λ s site le e. let low = site.0 in absurd (omega arith);
  new = λ s site lt. new_first p s;
}

sized_first : (p : Plan) → IsSized p (first_state p)
sized_first p = record { owners = length-replicate p.harts 0; rows = length-replicate (site_count p) blank }

ahead_first : (z : Size) (es : List OpenEntry) → IsAhead (plan_of_run z es) no_sites (parents_from open_start no_sites es)
ahead_first z es = record {
  size = omega arith;
  at = λ i. let e : 0 + i ≡ i = omega arith in ap (slice_index (parents_from open_start no_sites es)) e;
}

whole : (z : Size) (es : List OpenEntry) (t : OpenState) → Reaches z es t → ((s : ℕ) → IsSite (plan_of_run z es) s → requested s (planned es) ≤ z.harts - 1)
    → Moved z (plan_of_run z es) t (numbered_by no_sites es) (first_state (plan_of_run z es)) (planned es)
whole z es t reached few =
    let p = plan_of_run z es in
    run z p refl es [] open_start t no_sites (first_state p) refl reached (agrees_first z p) (begun_first p) (sized_first p) (ahead_first z es)
    (λ s site. let f = few s site in let e : (row (first_state p) s).asked ≡ 0 = ap (λ (r : Row). r.asked) (replicate_at (site_count p) (s - 1) blank) in omega arith)

pub open_runs_are_legal : OpenRunsAreLegal
open_runs_are_legal z es t reached few = let M = whole z es t reached few in (M.to, M.leads, M.agrees, M.begun)

pub plans_are_trees : PlansAreTrees
plans_are_trees z es t reached s site =
    let p = plan_of_run z es in
    let low = site.0 in let high = site.1 in
    let q = all_later z es [] open_start t no_sites refl reached (agrees_first z p).numbers (s - 1) (omega arith) in
    let le = q.1 in omega arith

-- Each legal run without a Skip is that of an open run, by induction over its transfers.
use Rattle.std.proofs.Common.{◌≡◌, ℕ, false, List, [], ◌∷◌, ◌++◌, length, sym, ap, refl, ◌∙◌, subst, arith, append_assoc, Result, Ok, Err}
use Rattle.std.specs.List.{All}
use Rattle.std.proofs.lemmas.List.Elements.{All-head, All-tail}
use Rattle.std.proofs.lemmas.List.{length-replicate}
use Rattle.transfer_table.specs.Plan.{Plan, IsPlan, site_count}
use Rattle.transfer_table.specs.Table.{TableState, admit_of, effect_of, first_state}
use Rattle.transfer_table.specs.Journal.{replay_from, and_then}
use Rattle.transfer_table.specs.Entry.{is_skip}
use Rattle.transfer_table.specs.declared.entry.NotAdmitted.{NotAdmitted}
use Rattle.transfer_table.specs.declared.entry.Entry.{Entry}
use Rattle.transfer_table.proofs.Admits.{admitted}
use Rattle.transfer_table.proofs.Lists.{replicate_at}
use Rattle.open_table.specs.declared.table.Size.{Size}
use Rattle.open_table.specs.declared.table.Entry.{Entry as OpenEntry}
use Rattle.open_table.specs.Table.{TableState as OpenState, first_state as open_start, after, Leads, Reaches}
use Rattle.table_laws.specs.Planned.{Numbering, no_sites, numbered, numbered_by, transfers_in, transfers_from}
use Rattle.table_laws.specs.InOrder.{counted, renumbered, in_order_from}
use Rattle.table_laws.specs.Agreement.{Agrees, AgreesIn}
use Rattle.table_laws.specs.Laws.{PlannedRunsAreOpen}
use Rattle.table_laws.proofs.Runs.{new_first}
use Rattle.table_laws.proofs.Mirror.{by_plan, Mirrors, Opened, opened}

leads-append : (z : Size) (xs ys : List OpenEntry) (t u w : OpenState) → Leads z t xs u → Leads z u ys w → Leads z t (xs ++ ys) w
leads-append z [] ys t u w a b = subst (λ (q : OpenState). Leads z q ys w) (sym a) b
leads-append z (x ∷ xs) ys t u w a b = (a.0, leads-append z xs ys (after t x) u w a.1 b)

transfers-append : (n : Numbering) (xs ys : List OpenEntry) → transfers_from n (xs ++ ys) ≡ transfers_from n xs ++ transfers_from (numbered_by n xs) ys
transfers-append n [] ys = refl
transfers-append n (x ∷ xs) ys =
    ap (λ (q : List Entry). transfers_in x.hart x.act n ++ q) (transfers-append (numbered x.act n) xs ys)
    ∙ sym (append_assoc (transfers_in x.hart x.act n) (transfers_from (numbered x.act n) xs) (transfers_from (numbered_by (numbered x.act n) xs) ys))

-- Entries with one transfer, and then further entries.
in_turn : (n : Numbering) (xs ys : List OpenEntry) (e : Entry) (es : List Entry) → transfers_from n xs ≡ e ∷ [] → transfers_from (numbered_by n xs) ys ≡ es
    → transfers_from n (xs ++ ys) ≡ e ∷ es
in_turn n xs ys e es a b =
    transfers-append n xs ys
    ∙ (ap (λ (q : List Entry). q ++ transfers_from (numbered_by n xs) ys) a ∙ ap (λ (q : List Entry). e ∷ q) b)

-- The first transfer of a legal list is admitted, and the rest is legal after it.
first_admitted : (p : Plan) (u w : TableState) (e : Entry) (es : List Entry) → replay_from p u (e ∷ es) ≡ Ok w → (v : TableState) × (admit_of p u e ≡ Ok v) × (replay_from p v es ≡ Ok w)
first_admitted p u w e es is = by_result (admit_of p u e) refl is
  where
    by_result : (r : Result TableState NotAdmitted) → admit_of p u e ≡ r → and_then (λ v. replay_from p v es) r ≡ Ok w → (v : TableState) × (admit_of p u e ≡ Ok v) × (replay_from p v es ≡ Ok w)
    by_result (Ok v) same left = (v, same, left)
    by_result (Err f) same left = absurd (cc)

-- Entries of the open table that have these transfers, and lead to a state that agrees with w.
abbrev HasEntries : Size → Plan → OpenState → Numbering → Numbering → List Entry → TableState → Type 0
HasEntries z p t n m es w = (entries : List OpenEntry) × (to : OpenState) × Leads z t entries to × (transfers_from n entries ≡ in_order_from m es) × AgreesIn z to p w

module _ (z : Size) (p : Plan) (plan : IsPlan p) (same : p.harts ≡ z.harts) where
  opens : (es : List Entry) (done : List OpenEntry) (t : OpenState) (f : ℕ → ℕ) (n m : Numbering) (u w : TableState) → Reaches z done t
      → Mirrors z p t f n m u (length es) → replay_from p u es ≡ Ok w → All (λ e. is_skip e ≡ false) es → HasEntries z p t n m es w
  opens [] done t f n m u w reached M legal other =
      let same' : u ≡ w = cc in ([], t, refl, refl, (f, subst (Agrees z t (by_plan p f) p) same' M.agrees))
  opens (e ∷ es) done t f n m u w reached M legal other =
      let first = first_admitted p u w e es legal in
      let a = admitted p u e first.0 record { plan = plan; owners = M.sized.owners; rows = M.sized.rows } first.1 in
      let O : Opened z p t n m (effect_of p u e) e (length es) = opened z p done t f n m u (length es) same reached M e a.0 (All-head (λ q. is_skip q ≡ false) e es other) in
      let legal' : replay_from p (effect_of p u e) es ≡ Ok w = subst (λ (q : TableState). replay_from p q es ≡ Ok w) a.1 first.2 in
      let R = opens es (done ++ O.entries) O.to O.site (numbered_by n O.entries) (counted e m) (effect_of p u e) w (leads-append z done O.entries open_start t O.to reached O.leads)
      O.mirrors legal' (All-tail (λ q. is_skip q ≡ false) e es other) in (
        O.entries ++ R.0,
        R.1,
        leads-append z O.entries R.0 t O.to R.1 O.leads R.2,
        in_turn n O.entries R.0 (renumbered e m) (in_order_from (counted e m) es) O.planned R.3,
        R.4,
      )

-- At the start no site is live.
mirrors_first : (p : Plan) (room : ℕ) → Mirrors record { harts = p.harts; levels = room } p open_start (λ x. 0) no_sites no_sites (first_state p) room
mirrors_first p room = record {
  sized = record { owners = length-replicate p.harts 0; rows = length-replicate (site_count p) _ };
  agrees = record {
    numbers = record { base = refl; known = λ x l. absurd (cc); apart = λ x y a b e. absurd (cc) };
    owners = λ h lt. replicate_at p.harts h 0;
    live = λ x l. absurd (cc);
    others = λ s site is. let new = new_first p s in absurd (cc);
  };
  exact = λ x l. absurd (cc);
  count = refl;
  numbers = λ x l. absurd (cc);
  levels = λ h lt. omega arith;
}

pub planned_runs_are_open : PlannedRunsAreOpen
planned_runs_are_open p es u plan legal other =
    let z : Size = record { harts = p.harts; levels = length es } in
    let r = opens z p plan refl es [] open_start (λ x. 0) no_sites no_sites (first_state p) u refl (mirrors_first p (length es)) legal other in
    (z, r.0, r.1, refl, r.2, r.3, r.4)

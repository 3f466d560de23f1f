-- What a transfer of the planned table changes, for plans of any size.
use Rattle.std.proofs.Common.{◌≡◌, ◌≢◌, ℕ, ◌+◌, ◌-◌, ◌<◌, [], ◌∷◌, length, set, get_or-set_same, get_or-set_other, length-set, slice_index, slice_index_or, nat_le, false, refl, sym, ap, ◌∙◌, arith, Some, None, Ok, eq-eqb}
use Rattle.std.proofs.lemmas.Bool.Decides.{nat_tests}
use Rattle.transfer_table.specs.Plan.{Plan, IsSite, parent, site_count}
use Rattle.transfer_table.specs.Table.{TableState, admit_of, effect_of, owner, row, blank, is_gone, no_such_site, hart_inside, child_left}
use Rattle.transfer_table.specs.Journal.{replay_from}
use Rattle.transfer_table.specs.Allowed.{IsAlone, ChildrenGone}
use Rattle.transfer_table.specs.declared.entry.Row.{Row}
use Rattle.transfer_table.specs.declared.entry.Stage.TheVariants.{Live, Gone}
use Rattle.transfer_table.specs.declared.entry.Entry.{Entry}
use Rattle.transfer_table.specs.declared.entry.Entry.TheVariants.{Register, Request, Enter, Yield, Unregister}
use Rattle.transfer_table.proofs.Scans.{no_other, no_child}

-- The state has an owner for each hart and a row for each site.
pub record IsSized (p : Plan) (u : TableState) : Type 0 where
  pub owners : length u.owners ≡ p.harts
  pub rows : length u.rows ≡ site_count p

-- From u to v only the owner of hart h changes, to o, and the row of site s, to r.
pub record Changes (p : Plan) (u v : TableState) (h o s : ℕ) (r : Row) : Type 0 where
  pub sized : IsSized p v
  pub mover : owner v h ≡ o
  pub rest : (g : ℕ) → g ≢ h → owner v g ≡ owner u g
  pub here : row v s ≡ r
  pub there : (y : ℕ) → IsSite p y → y ≢ s → row v y ≡ row u y

pub no_change : (p : Plan) (u : TableState) (h s : ℕ) → IsSized p u → Changes p u u h (owner u h) s (row u s)
no_change p u h s is = record { sized = is; mover = refl; rest = λ g n. refl; here = refl; there = λ y site n. refl }

module _ (p : Plan) (u : TableState) (is : IsSized p u) (h s : ℕ) (hart : h < p.harts) (site : IsSite p s) where
  moves : (o g : ℕ) → g ≢ h → slice_index (set u.owners h o) g ≡ owner u g
  moves o g n = get_or-set_other u.owners h g o 0 n

  moved : (o : ℕ) → slice_index (set u.owners h o) h ≡ o
  moved o = get_or-set_same u.owners h o 0 (let z = is.owners in omega arith)

  row_here : (r : Row) → slice_index_or (set u.rows (s - 1) r) (s - 1) blank ≡ r
  row_here r = get_or-set_same u.rows (s - 1) r blank (let z = is.rows in let low = site.0 in let high = site.1 in omega arith)

  row_there : (r : Row) (y : ℕ) → IsSite p y → y ≢ s → slice_index_or (set u.rows (s - 1) r) (y - 1) blank ≡ row u y
  row_there r y in_plan n = get_or-set_other u.rows (s - 1) (y - 1) r blank (let a = site.0 in let b = in_plan.0 in λ e. n (omega arith))

  both : (o : ℕ) (r : Row) → Changes p u record { owners = set u.owners h o; rows = set u.rows (s - 1) r } h o s r
  both o r = record {
    sized = record { owners = length-set u.owners h o ∙ is.owners; rows = length-set u.rows (s - 1) r ∙ is.rows };
    mover = moved o;
    rest = moves o;
    here = row_here r;
    there = row_there r;
  }

  pub register_changes : Changes p u (effect_of p u (Register h s)) h s s record { stage = Live; home = Some h; wishes = 0; asked = 0 }
  register_changes = both s record { stage = Live; home = Some h; wishes = 0; asked = 0 }

  pub enter_changes : Changes p u (effect_of p u (Enter h s)) h s s record (row u s) { wishes = (row u s).wishes - 1 }
  enter_changes = both s record (row u s) { wishes = (row u s).wishes - 1 }

  pub unregister_changes : Changes p u (effect_of p u (Unregister h s)) h (parent p s) s record (row u s) { stage = Gone }
  unregister_changes = both (parent p s) record (row u s) { stage = Gone }

  pub yield_changes : Changes p u (effect_of p u (Yield h s)) h (parent p s) s (row u s)
  yield_changes = record {
    sized = record { owners = length-set u.owners h (parent p s) ∙ is.owners; rows = is.rows };
    mover = moved (parent p s);
    rest = moves (parent p s);
    here = refl;
    there = λ y in_plan n. refl;
  }

  pub request_changes : (k : ℕ) → Changes p u (effect_of p u (Request h s k)) h (owner u h) s record (row u s) { wishes = (row u s).wishes + k; asked = (row u s).asked + k }
  request_changes k = let r : Row = record (row u s) { wishes = (row u s).wishes + k; asked = (row u s).asked + k } in record {
    sized = record { owners = is.owners; rows = length-set u.rows (s - 1) r ∙ is.rows };
    mover = refl;
    rest = λ g n. refl;
    here = row_here r;
    there = row_there r;
  }

  known_hart : nat_le p.harts h ≡ false
  known_hart = grind (arith, nat_tests)

  known_site : no_such_site p s ≡ false
  known_site = let a = site.0 in let b = site.1 in grind (arith, nat_tests)

  none_inside : IsAlone p u h s → hart_inside u h s ≡ None
  none_inside alone = no_other u.owners h s 0 (λ g lt n. alone g (let z = is.owners in omega arith) (λ e. n (omega arith)))

  none_left : ChildrenGone p u s → child_left p u s ≡ None
  none_left gone = no_child p.parents u.rows s 1 blank is.rows (λ i lt e. let same : i + 1 - 1 ≡ i = omega arith in
      let up : parent p (i + 1) ≡ s = ap (slice_index p.parents) same ∙ e in
      ap is_gone (ap (λ (j : ℕ). (slice_index_or u.rows j blank).stage) (sym same) ∙ gone (i + 1) (omega arith, omega arith) up))

  pub admits_unregister : owner u h ≡ s → (row u s).home ≡ Some h → IsAlone p u h s → ChildrenGone p u s → admit_of p u (Unregister h s) ≡ Ok (effect_of p u (Unregister h s))
  admits_unregister own home alone gone = rw (known_hart, known_site, eq-eqb (owner u h) s own, home, eq-eqb h h refl, none_inside alone, none_left gone) refl

-- The replay of one admitted transfer.
pub replay_one : (p : Plan) (u v : TableState) (e : Entry) → admit_of p u e ≡ Ok v → replay_from p u (e ∷ []) ≡ Ok v
replay_one p u v e is = rw is refl

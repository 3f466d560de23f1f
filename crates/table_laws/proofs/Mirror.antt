-- One lemma for each kind of transfer: the open table admits entries that have it, and the states still agree.
use Rattle.std.proofs.Common.{◌≡◌, ◌≢◌, ℕ, zero, suc, ◌+◌, ◌<◌, ◌≤◌, true, false, List, [], ◌∷◌, sym, ap, refl, ◌∙◌, subst, arith, ⊎_elim, Some}
use mathlib.Core.Logic.{dite}
use native.Mathlib.Decide.{ℕ_discrete}
use Rattle.transfer_table.specs.Plan.{Plan, IsSite, parent, site_count}
use Rattle.transfer_table.specs.Table.{TableState, effect_of, owner, row}
use Rattle.transfer_table.specs.Allowed.{IsAllowed}
use Rattle.transfer_table.specs.Entry.{is_skip}
use Rattle.transfer_table.specs.declared.entry.Row.{Row}
use Rattle.transfer_table.specs.declared.entry.Stage.TheVariants.{Live, Gone}
use Rattle.transfer_table.specs.declared.entry.Entry.{Entry}
use Rattle.transfer_table.specs.declared.entry.Entry.TheVariants.{Register, Request, Enter, Yield, Unregister, Skip}
use Rattle.open_table.specs.declared.table.Size.{Size}
use Rattle.open_table.specs.declared.table.Mark.{Mark}
use Rattle.open_table.specs.declared.table.Post.{Post}
use Rattle.open_table.specs.declared.table.Post.TheVariants.{Home, Guest}
use Rattle.open_table.specs.declared.table.Act.TheVariants as act
use Rattle.open_table.specs.declared.table.Entry.{Entry as OpenEntry}
use Rattle.open_table.specs.Table.{TableState as OpenState, Row as OpenRow, owner as top_site, below, homes, is_home, is_guest, top_mark, on_top, slot, new_row, new_mark, free_row, put, after, Admits, Leads, Reaches}
use Rattle.open_table.specs.Sound.{Sound}
use Rattle.open_table.specs.Laws.{IsPlace}
use Rattle.open_table.proofs.Sums.{put-here, put-there}
use Rattle.open_table.proofs.Steps.{live_slot}
use Rattle.open_table.proofs.Entries.{home_at, top_home, top_guest, reached_is_sound}
use Rattle.open_table.proofs.Ways.{owners_are_places}
use Rattle.table_laws.specs.Planned.{Numbering, numbered_by, transfers_from}
use Rattle.table_laws.specs.InOrder.{counted, renumbered}
use Rattle.table_laws.specs.Agreement.{Agrees}
use Rattle.table_laws.proofs.Numbers.{fresh_site}
use Rattle.table_laws.proofs.Stacks.{top_stays, homes_stay, homes_below, top_kind, not_home, no_guests}
use Rattle.table_laws.proofs.Transfers.{IsSized, Changes, no_change, register_changes, request_changes, enter_changes, yield_changes, unregister_changes}
use Rattle.table_laws.proofs.Keeps.{stays, ends, registers}

-- The two rows of a live site have the same counts, and the site admits harts.
pub record IsExact (r : OpenRow) (q : Row) : Type 0 where
  pub asked : q.asked ≡ r.asked
  pub balance : r.asked ≡ r.entered + q.wishes
  pub admits : r.closing ≡ false

-- The plan's sites by the numbers of the open table's sites.
abbrev pub by_plan : Plan → (ℕ → ℕ) → Numbering
by_plan p f = record { count = site_count p; number = f }

-- State t of the open table is that of state u of the plan's table, with f the plan's site for each live site. The numbers n of the
-- open run and m of the planned run are the same, and each hart may yet register `room` sites.
pub record Mirrors (z : Size) (p : Plan) (t : OpenState) (f : ℕ → ℕ) (n m : Numbering) (u : TableState) (room : ℕ) : Type 0 where
  pub sized : IsSized p u
  pub agrees : Agrees z t (by_plan p f) p u
  pub exact : (x : ℕ) → (t.rows x).live ≡ true → IsExact (t.rows x) (row u (f x))
  pub count : m.count ≡ n.count
  pub numbers : (x : ℕ) → (t.rows x).live ≡ true → m.number (f x) ≡ n.number x
  pub levels : (h : ℕ) → h < z.harts → homes (t.stacks h) + room ≤ z.levels

-- Entries that lead on, and have this transfer.
pub record Opened (z : Size) (p : Plan) (t : OpenState) (n m : Numbering) (v : TableState) (e : Entry) (room : ℕ) : Type 0 where
  pub entries : List OpenEntry
  pub to : OpenState
  pub leads : Leads z t entries to
  pub site : ℕ → ℕ
  pub mirrors : Mirrors z p to site (numbered_by n entries) (counted e m) v room
  pub planned : transfers_from n entries ≡ renumbered e m ∷ []

module _ (z : Size) (p : Plan) (done : List OpenEntry) (t : OpenState) (f : ℕ → ℕ) (n m : Numbering) (u : TableState) (k : ℕ) (same : p.harts ≡ z.harts)
    (reached : Reaches z done t) (M : Mirrors z p t f n m u (suc k)) where
  A : Agrees z t (by_plan p f) p u
  A = M.agrees

  S : Sound z t
  S = reached_is_sound z done t reached

  few : (by_plan p f).count ≤ site_count p
  few = omega arith

  live_site : (x : ℕ) → (t.rows x).live ≡ true → IsSite p (f x)
  live_site x l = A.numbers.known x l

  place : (g : ℕ) → g < z.harts → IsPlace t (top_site (t.stacks g))
  place = (owners_are_places z done t reached).0

  -- A place that has the number of a site is live.
  is_live : (x : ℕ) → IsPlace t x → IsSite p (f x) → (t.rows x).live ≡ true
  is_live x at site = ⊎_elim
      (λ (b : x ≡ 0). let e : f x ≡ 0 = ap f b ∙ A.numbers.base in let low = site.0 in absurd (omega arith))
      (λ (l : (t.rows x).live ≡ true). l)
      at

  -- Two places with one number are the same.
  one_place : (x y : ℕ) → IsPlace t x → IsPlace t y → f x ≡ f y → x ≡ y
  one_place x y a b e = ⊎_elim
      (λ (x0 : x ≡ 0). ⊎_elim
      (λ (y0 : y ≡ 0). x0 ∙ sym y0)
      (λ (l : (t.rows y).live ≡ true). let low = (live_site y l).0 in let w : f x ≡ 0 = ap f x0 ∙ A.numbers.base in absurd (omega arith))
      b)
      (λ (l : (t.rows x).live ≡ true). A.numbers.apart x y l (is_live y b (subst (IsSite p) e (live_site x l))) e)
      a

  module _ (v : TableState) (h x o : ℕ) (s' : List Post) (r' : OpenRow) (r : Row) (C : Changes p u v h o (f x) r) (was : (t.rows x).live ≡ true) where
    lives : (y : ℕ) → (put x r' t.rows y).live ≡ true → (t.rows y).live ≡ true
    lives y l = dite (ℕ_discrete y x)
        (λ e. subst (λ (q : ℕ). (t.rows q).live ≡ true) (sym e) was)
        (λ ne. sym (ap (λ (q : OpenRow). q.live) (put-there x r' t.rows y ne)) ∙ l)

    other_exact : (y : ℕ) → y ≢ x → (t.rows y).live ≡ true → IsExact (t.rows y) (row v (f y))
    other_exact y ne l = subst (IsExact (t.rows y)) (sym (C.there (f y) (live_site y l) (λ e. ne (A.numbers.apart y x l was e)))) (M.exact y l)

    -- A live site's row changes, and the hart's stack.
    row_moves : Agrees z record { stacks = put h s' t.stacks; rows = put x r' t.rows } (by_plan p f) p v → IsExact r' r → homes s' ≤ homes (t.stacks h)
        → Mirrors z p record { stacks = put h s' t.stacks; rows = put x r' t.rows } f n m v k
    row_moves agrees exact fewer = record {
      sized = C.sized;
      agrees = agrees;
      exact = λ y l. dite (ℕ_discrete y x)
          (λ e. subst (λ (q : ℕ). IsExact (put x r' t.rows q) (row v (f q))) (sym e)
          (subst (λ (q : OpenRow). IsExact q (row v (f x))) (sym (put-here x r' t.rows x refl)) (subst (IsExact r') (sym C.here) exact)))
          (λ ne. subst (λ (q : OpenRow). IsExact q (row v (f y))) (sym (put-there x r' t.rows y ne)) (other_exact y ne (lives y l)));
      count = M.count;
      numbers = λ y l. M.numbers y (lives y l);
      levels = λ g lt. dite (ℕ_discrete g h)
          (λ e. let own : homes (put h s' t.stacks g) ≡ homes s' = ap homes (put-here h s' t.stacks g e) in
          let old = M.levels h (subst (λ (q : ℕ). q < z.harts) e lt) in omega arith)
          (λ ne. let own : homes (put h s' t.stacks g) ≡ homes (t.stacks g) = ap homes (put-there h s' t.stacks g ne) in let old = M.levels g lt in omega arith);
    }

  module _ (h : ℕ) where
    in_harts : h < p.harts → h < z.harts
    in_harts hart = let e = same in omega arith

    -- The hart's owner, if its number is that of a site.
    top_is : h < z.harts → IsSite p (owner u h) → (t.rows (top_site (t.stacks h))).live ≡ true
    top_is hart site = is_live (top_site (t.stacks h)) (place h hart) (subst (IsSite p) (A.owners h hart) site)

    -- Its home is the hart on top of which it stands.
    at_home : (x : ℕ) → h < z.harts → x ≡ top_site (t.stacks h) → (t.rows x).live ≡ true → (row u (f x)).home ≡ Some h → is_home (t.stacks h) ≡ true
    at_home x hart is live home =
        let a = A.live x live in
        let mine : (t.rows x).home ≡ h = let e : Some (t.rows x).home ≡ Some h = sym a.home ∙ home in cc in
        ⊎_elim
        (λ (b : is_home (t.stacks h) ≡ true). b)
        (λ (b : is_guest (t.stacks h) ≡ true). absurd (not_home z done t reached h x hart b is live mine))
        (top_kind x (t.stacks h) is (λ e. let low = (live_slot z t S x live).0 in absurd (omega arith)))

    as_guest : (x : ℕ) → h < z.harts → x ≡ top_site (t.stacks h) → (t.rows x).live ≡ true → (row u (f x)).home ≢ Some h → is_guest (t.stacks h) ≡ true
    as_guest x hart is live other = ⊎_elim
        (λ (b : is_home (t.stacks h) ≡ true). absurd (other ((A.live x live).home ∙ ap (λ (g : ℕ). Some g) (top_home z t S h hart x b is).home)))
        (λ (b : is_guest (t.stacks h) ≡ true). b)
        (top_kind x (t.stacks h) is (λ e. let low = (live_slot z t S x live).0 in absurd (omega arith)))

    not_closed : (x : ℕ) → (hart : h < z.harts) → (b : is_home (t.stacks h) ≡ true) → (is : x ≡ top_site (t.stacks h)) → (t.rows x).live ≡ true → (top_mark (t.stacks h)).closed ≡ false
    not_closed x hart b is live = sym (top_home z t S h hart x b is).closing ∙ (M.exact x live).admits

    pub register : (s : ℕ) → IsAllowed p u (Register h s) → Opened z p t n m (effect_of p u (Register h s)) (Register h s) k
    register s a =
        let hart = in_harts a.0 in
        let level = M.levels h hart in
        let x : ℕ = slot z h (homes (t.stacks h)) in
        let e : OpenEntry = record { hart = h; act = act.Register x } in
        let ok : Admits z t e = (hart, (omega arith, refl)) in
        let new = fresh_site z t S h x ok in
        let C = register_changes p u M.sized h s a.0 a.1 in
        let v : TableState = effect_of p u (Register h s) in
        let row' : Row = record { stage = Live; home = Some h; wishes = 0; asked = 0 } in
        let begun : OpenRow = new_row h (top_site (t.stacks h)) in
        let free : (y : ℕ) → (t.rows y).live ≡ true → f y ≢ s = λ y l same'. let live : (row u s).stage ≡ Live = ap (λ (q : ℕ). (row u q).stage) (sym same') ∙ (A.live y l).live in let stage = a.3 in absurd (cc) in
        let low : homes (Home x new_mark ∷ t.stacks h) ≡ homes (t.stacks h) + 1 = refl in
        let older : (y : ℕ) → y ≢ x → (put x begun t.rows y).live ≡ true → (t.rows y).live ≡ true = λ y ne l. sym (ap (λ (q : OpenRow). q.live) (put-there x begun t.rows y ne)) ∙ l in
        record {
          entries = e ∷ [];
          to = after t e;
          leads = (ok, refl);
          site = put x s f;
          mirrors = record {
            sized = C.sized;
            agrees = registers z p t (by_plan p f) u v A few h x s (site_count p) row' new.0 new.1 hart C a.1 a.1.1 few free place (owners_are_places z done t reached).1 refl refl (sym a.2 ∙ A.owners h hart);
            exact = λ y l. dite (ℕ_discrete y x)
                (λ is. subst (λ (q : ℕ). IsExact (put x begun t.rows q) (row v (put x s f q))) (sym is)
                (subst (λ (q : OpenRow). IsExact q (row v (put x s f x))) (sym (put-here x begun t.rows x refl))
                (subst (λ (q : ℕ). IsExact begun (row v q)) (sym (put-here x s f x refl))
                (subst (IsExact begun) (sym C.here) record { asked = refl; balance = omega arith; admits = refl }))))
                (λ ne. subst (λ (q : OpenRow). IsExact q (row v (put x s f y))) (sym (put-there x begun t.rows y ne))
                (subst (λ (q : ℕ). IsExact (t.rows y) (row v q)) (sym (put-there x s f y ne))
                (subst (IsExact (t.rows y)) (sym (C.there (f y) (live_site y (older y ne l)) (free y (older y ne l)))) (M.exact y (older y ne l)))));
            count = ap (λ (q : ℕ). q + 1) M.count;
            numbers = λ y l. dite (ℕ_discrete y x)
                (λ is. put-here s (m.count + 1) m.number (put x s f y) (put-here x s f y is) ∙ (ap (λ (q : ℕ). q + 1) M.count ∙ sym (put-here x (n.count + 1) n.number y is)))
                (λ ne. ap (put s (m.count + 1) m.number) (put-there x s f y ne)
                ∙ (put-there s (m.count + 1) m.number (f y) (free y (older y ne l)) ∙ (M.numbers y (older y ne l) ∙ sym (put-there x (n.count + 1) n.number y ne))));
            levels = λ g lt. dite (ℕ_discrete g h)
                (λ is. let own : homes (put h (Home x new_mark ∷ t.stacks h) t.stacks g) ≡ homes (Home x new_mark ∷ t.stacks h) = ap homes (put-here h (Home x new_mark ∷ t.stacks h) t.stacks g is) in omega arith)
                (λ ne. let own : homes (put h (Home x new_mark ∷ t.stacks h) t.stacks g) ≡ homes (t.stacks g) = ap homes (put-there h (Home x new_mark ∷ t.stacks h) t.stacks g ne) in let old = M.levels g lt in omega arith);
          };
          planned = ap (λ (q : ℕ). Register h (q + 1) ∷ []) (sym M.count);
        }

    request : (x j : ℕ) → x ≡ top_site (t.stacks h) → (t.rows x).live ≡ true → IsAllowed p u (Request h (f x) (suc j)) → Opened z p t n m (effect_of p u (Request h (f x) (suc j))) (Request h (f x) (suc j)) k
    request x j is live a =
        let hart = in_harts a.0 in
        let home = at_home x hart is live a.3 in
        let exact = M.exact x live in let balance = exact.balance in let asked = exact.asked in let fits = a.5 in
        let e : OpenEntry = record { hart = h; act = act.Request x (suc j) } in
        let ok : Admits z t e = (hart, (home, is, not_closed x hart home is live, (let q = same in omega arith))) in
        let s : ℕ = f x in
        let v : TableState = effect_of p u (Request h s (suc j)) in
        let C = request_changes p u M.sized h s a.0 a.1 (suc j) in
        let stays' : Agrees z (after t e) (by_plan p f) p v = stays z p t (by_plan p f) u v A few h x (owner u h) _ _ _ C (a.2 ∙ (ap f is ∙ ap f (sym (top_stays _ (t.stacks h))))) live live refl refl (A.live x live).live refl (omega arith) in
        record {
          entries = e ∷ [];
          to = after t e;
          leads = (ok, refl);
          site = f;
          mirrors = row_moves v h x (owner u h) _ _ _ C live stays' (record { asked = ap (λ (q : ℕ). q + suc j) asked; balance = omega arith; admits = exact.admits })
              (let q = homes_stay (λ mark. record mark { asked = mark.asked + suc j }) (t.stacks h) in omega arith);
          planned = ap (λ (q : ℕ). Request h q (suc j) ∷ []) (sym (M.numbers x live));
        }

    enter : (x : ℕ) → (t.rows x).live ≡ true → IsAllowed p u (Enter h (f x)) → Opened z p t n m (effect_of p u (Enter h (f x))) (Enter h (f x)) k
    enter x live a =
        let hart = in_harts a.0 in
        let exact = M.exact x live in let balance = exact.balance in let wished = a.4 in
        let places = owners_are_places z done t reached in
        let up : (t.rows x).parent ≡ top_site (t.stacks h) = one_place (t.rows x).parent (top_site (t.stacks h)) (places.1 x live) (place h hart) (sym (A.live x live).parent ∙ (sym a.2 ∙ A.owners h hart)) in
        let e : OpenEntry = record { hart = h; act = act.Enter x } in
        let ok : Admits z t e = (hart, (live, exact.admits, up, omega arith)) in
        let s : ℕ = f x in
        let v : TableState = effect_of p u (Enter h s) in
        let C = enter_changes p u M.sized h s a.0 a.1 in
        let stays' : Agrees z (after t e) (by_plan p f) p v = stays z p t (by_plan p f) u v A few h x s (Guest x ∷ t.stacks h) _ _ C refl live live refl refl (A.live x live).live refl (omega arith) in
        record {
          entries = e ∷ [];
          to = after t e;
          leads = (ok, refl);
          site = f;
          mirrors = row_moves v h x s (Guest x ∷ t.stacks h) _ _ C live stays' (record { asked = exact.asked; balance = omega arith; admits = exact.admits }) (omega arith);
          planned = ap (λ (q : ℕ). Enter h q ∷ []) (sym (M.numbers x live));
        }

    yield : (x : ℕ) → x ≡ top_site (t.stacks h) → (t.rows x).live ≡ true → IsAllowed p u (Yield h (f x)) → Opened z p t n m (effect_of p u (Yield h (f x))) (Yield h (f x)) k
    yield x is live a =
        let hart = in_harts a.0 in
        let guest = as_guest x hart is live a.3 in
        let exact = M.exact x live in
        let e : OpenEntry = record { hart = h; act = act.Yield x } in
        let ok : Admits z t e = (hart, (guest, is)) in
        let s : ℕ = f x in
        let v : TableState = effect_of p u (Yield h s) in
        let C = yield_changes p u M.sized h s a.0 a.1 in
        let stays' : Agrees z (after t e) (by_plan p f) p v = stays z p t (by_plan p f) u v A few h x (parent p s) (below (t.stacks h)) _ _ C ((A.live x live).parent ∙ ap f (top_guest z t S h hart x guest is).parent) live live refl refl (A.live x live).live refl (A.live x live).wishes in
        record {
          entries = e ∷ [];
          to = after t e;
          leads = (ok, refl);
          site = f;
          mirrors = row_moves v h x (parent p s) (below (t.stacks h)) _ _ C live stays' (record { asked = exact.asked; balance = exact.balance; admits = exact.admits }) (homes_below (t.stacks h));
          planned = ap (λ (q : ℕ). Yield h q ∷ []) (sym (M.numbers x live));
        }

    -- The home closes its site, sees it empty, and ends it.
    module _ (x : ℕ) (is : x ≡ top_site (t.stacks h)) (live : (t.rows x).live ≡ true) (a : IsAllowed p u (Unregister h (f x))) where
      hart : h < z.harts
      hart = in_harts a.0

      home : is_home (t.stacks h) ≡ true
      home = at_home x hart is live a.3

      abbrev rest : List Post
      rest = below (t.stacks h)

      abbrev closed_mark : Mark
      closed_mark = record (top_mark (t.stacks h)) { closed = true }

      abbrev empty_mark : Mark
      empty_mark = record closed_mark { empty = true }

      abbrev closes : OpenEntry
      closes = record { hart = h; act = act.Close x }

      abbrev sees : OpenEntry
      sees = record { hart = h; act = act.SeeEmpty x }

      abbrev ended : OpenEntry
      ended = record { hart = h; act = act.Unregister x }

      abbrev shut : OpenState
      shut = after t closes

      abbrev seen : OpenState
      seen = after shut sees

      abbrev last : OpenState
      last = after seen ended

      stack : t.stacks h ≡ Home x (top_mark (t.stacks h)) ∷ rest
      stack = home_at (t.stacks h) x home is

      shut_stack : shut.stacks h ≡ Home x closed_mark ∷ rest
      shut_stack = put-here h (on_top (λ mark. record mark { closed = true }) (t.stacks h)) t.stacks h refl ∙ ap (on_top (λ mark. record mark { closed = true })) stack

      seen_stack : seen.stacks h ≡ Home x empty_mark ∷ rest
      seen_stack = put-here h (on_top (λ mark. record mark { empty = true }) (shut.stacks h)) shut.stacks h refl ∙ ap (on_top (λ mark. record mark { empty = true })) shut_stack

      shut_row : shut.rows x ≡ record (t.rows x) { closing = true }
      shut_row = put-here x (record (t.rows x) { closing = true }) t.rows x refl

      seen_row : seen.rows x ≡ shut.rows x
      seen_row = put-here x (shut.rows x) shut.rows x refl

      others_left : (g : ℕ) → g < z.harts → g ≢ h → top_site (t.stacks g) ≢ x
      others_left g lt ne e = a.4 g (let q = same in omega arith) ne (A.owners g lt ∙ ap f e)

      childless : (y : ℕ) → (t.rows y).live ≡ true → (t.rows y).parent ≢ x
      childless y l e =
          let gone = a.5 (f y) (live_site y l) ((A.live y l).parent ∙ ap f e) in
          let lives' = (A.live y l).live in absurd (cc)

      level : (t.rows x).left ≡ (t.rows x).entered
      level =
          let none = no_guests z done t reached h x hart home is live others_left childless in
          let count = S.counted x in omega arith

      may_close : Admits z t closes
      may_close = (hart, (home, is, not_closed x hart home is live))

      may_see : Admits z shut sees
      may_see = (
        hart,
        (
          ap is_home shut_stack,
          sym (ap top_site shut_stack),
          ap (λ (q : List Post). (top_mark q).closed) shut_stack,
          ap (λ (q : OpenRow). q.left) shut_row ∙ (level ∙ sym (ap (λ (q : OpenRow). q.entered) shut_row)),
        ),
      )

      may_end : Admits z seen ended
      may_end = (hart, (ap is_home seen_stack, sym (ap top_site seen_stack), ap (λ (q : List Post). (top_mark q).empty) seen_stack))

      shut_live : (shut.rows x).live ≡ true
      shut_live = ap (λ (q : OpenRow). q.live) shut_row ∙ live

      agrees_shut : Agrees z shut (by_plan p f) p u
      agrees_shut = stays z p t (by_plan p f) u u A few h x (owner u h) (on_top (λ mark. record mark { closed = true }) (t.stacks h)) (record (t.rows x) { closing = true }) (row u (f x))
          (no_change p u h (f x) M.sized) (a.2 ∙ (ap f is ∙ ap f (sym (top_stays _ (t.stacks h))))) live live refl refl (A.live x live).live refl (A.live x live).wishes

      agrees_seen : Agrees z seen (by_plan p f) p u
      agrees_seen = stays z p shut (by_plan p f) u u agrees_shut few h x (owner u h) (on_top (λ mark. record mark { empty = true }) (shut.stacks h)) (shut.rows x) (row u (f x))
          (no_change p u h (f x) M.sized) (a.2 ∙ sym (ap f (top_stays _ (shut.stacks h) ∙ ap top_site shut_stack))) shut_live shut_live refl refl (A.live x live).live refl (agrees_shut.live x shut_live).wishes

      abbrev v : TableState
      v = effect_of p u (Unregister h (f x))

      C : Changes p u v h (parent p (f x)) (f x) record (row u (f x)) { stage = Gone }
      C = unregister_changes p u M.sized h (f x) a.0 a.1

      seen_live : (seen.rows x).live ≡ true
      seen_live = ap (λ (q : OpenRow). q.live) seen_row ∙ shut_live

      agrees_last : Agrees z last (by_plan p f) p v
      agrees_last = ends z p seen (by_plan p f) u v agrees_seen few h x (parent p (f x)) (below (seen.stacks h)) free_row (record (row u (f x)) { stage = Gone })
          C ((A.live x live).parent ∙ ap f ((top_home z t S h hart x home is).parent ∙ ap (λ (q : List Post). top_site (below q)) (sym seen_stack))) seen_live refl refl

      -- The other rows stay.
      last_row : (y : ℕ) → y ≢ x → last.rows y ≡ t.rows y
      last_row y ne = put-there x free_row seen.rows y ne ∙ (put-there x (shut.rows x) shut.rows y ne ∙ put-there x (record (t.rows x) { closing = true }) t.rows y ne)

      last_other : (y : ℕ) → (last.rows y).live ≡ true → y ≢ x
      last_other y l e = let q : (last.rows y).live ≡ false = ap (λ (w : OpenRow). w.live) (put-here x free_row seen.rows y e) in absurd (cc)

      was_live : (y : ℕ) → (last.rows y).live ≡ true → (t.rows y).live ≡ true
      was_live y l = sym (ap (λ (q : OpenRow). q.live) (last_row y (last_other y l))) ∙ l

      last_stack : (g : ℕ) → g ≢ h → last.stacks g ≡ t.stacks g
      last_stack g ne = put-there h (below (seen.stacks h)) seen.stacks g ne
          ∙ (put-there h (on_top (λ mark. record mark { empty = true }) (shut.stacks h)) shut.stacks g ne ∙ put-there h (on_top (λ mark. record mark { closed = true }) (t.stacks h)) t.stacks g ne)

      own_stack : (g : ℕ) → g ≡ h → last.stacks g ≡ rest
      own_stack g e = put-here h (below (seen.stacks h)) seen.stacks g e ∙ ap below seen_stack

      unregister : Opened z p t n m v (Unregister h (f x)) k
      unregister = record {
        entries = closes ∷ sees ∷ ended ∷ [];
        to = last;
        leads = (may_close, (may_see, (may_end, refl)));
        site = f;
        mirrors = record {
          sized = C.sized;
          agrees = agrees_last;
          exact = λ y l. subst (λ (q : OpenRow). IsExact q (row v (f y))) (sym (last_row y (last_other y l)))
              (subst (IsExact (t.rows y)) (sym (C.there (f y) (live_site y (was_live y l)) (λ e. last_other y l (A.numbers.apart y x (was_live y l) live e)))) (M.exact y (was_live y l)));
          count = M.count;
          numbers = λ y l. M.numbers y (was_live y l);
          levels = λ g lt. dite (ℕ_discrete g h)
              (λ e. let own : homes (last.stacks g) ≡ homes rest = ap homes (own_stack g e) in let low = homes_below (t.stacks h) in let old = M.levels h hart in omega arith)
              (λ ne. let own : homes (last.stacks g) ≡ homes (t.stacks g) = ap homes (last_stack g ne) in let old = M.levels g lt in omega arith);
        };
        planned = ap (λ (q : ℕ). Unregister h q ∷ []) (sym (M.numbers x live));
      }

    -- A transfer of the hart's owner.
    at_top : (s : ℕ) (P : ℕ → Type 0) → h < p.harts → IsSite p s → owner u h ≡ s → ((x : ℕ) → x ≡ top_site (t.stacks h) → (t.rows x).live ≡ true → f x ≡ s → P (f x)) → P s
    at_top s P lt site own then =
        let hart = in_harts lt in
        let x : ℕ = top_site (t.stacks h) in
        let number : f x ≡ s = sym (A.owners h hart) ∙ own in
        subst P number (then x refl (top_is hart (subst (IsSite p) (sym own) site)) number)

    abbrev Result : Entry → Type 0
    Result e = Opened z p t n m (effect_of p u e) e k

    pub opened_request : (s j : ℕ) → IsAllowed p u (Request h s j) → Result (Request h s j)
    opened_request s zero a = let some = a.4 in absurd (omega arith)
    opened_request s (suc j) a = at_top s (λ q. Result (Request h q (suc j))) a.0 a.1 a.2 (λ x is live number. request x j is live (subst (λ (q : ℕ). IsAllowed p u (Request h q (suc j))) (sym number) a))

    pub opened_enter : (s : ℕ) → IsAllowed p u (Enter h s) → Result (Enter h s)
    opened_enter s a = let l = A.others s a.1 a.3 in
        subst (λ (q : ℕ). Result (Enter h q)) l.2 (enter l.0 l.1 (subst (λ (q : ℕ). IsAllowed p u (Enter h q)) (sym l.2) a))

    pub opened_yield : (s : ℕ) → IsAllowed p u (Yield h s) → Result (Yield h s)
    opened_yield s a = at_top s (λ q. Result (Yield h q)) a.0 a.1 a.2 (λ x is live number. yield x is live (subst (λ (q : ℕ). IsAllowed p u (Yield h q)) (sym number) a))

    pub opened_unregister : (s : ℕ) → IsAllowed p u (Unregister h s) → Result (Unregister h s)
    opened_unregister s a = at_top s (λ q. Result (Unregister h q)) a.0 a.1 a.2 (λ x is live number. unregister x is live (subst (λ (q : ℕ). IsAllowed p u (Unregister h q)) (sym number) a))

  pub opened : (e : Entry) → IsAllowed p u e → is_skip e ≡ false → Opened z p t n m (effect_of p u e) e k
  opened (Register h s) a other = register h s a
  opened (Request h s j) a other = opened_request h s j a
  opened (Enter h s) a other = opened_enter h s a
  opened (Yield h s) a other = opened_yield h s a
  opened (Unregister h s) a other = opened_unregister h s a
  opened (Skip h s) a other = absurd (cc)

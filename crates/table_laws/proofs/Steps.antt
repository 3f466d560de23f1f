-- One lemma for each kind of act: the planned table admits its transfer, if it has one, and the states still agree.
use Rattle.std.proofs.Common.{◌≡◌, ◌≢◌, ◌⊎◌, ℕ, suc, ◌+◌, ◌-◌, ◌<◌, ◌≤◌, Bool, true, false, List, [], ◌∷◌, sym, ap, refl, ◌∙◌, subst, arith, ⊎_elim, Some, Ok, eq-eqb, if◌then◌else◌, ◌==◌}
use mathlib.Core.Logic.{dite}
use native.Mathlib.Decide.{ℕ_discrete, dec_le}
use Rattle.transfer_table.specs.Plan.{Plan, IsSite, parent, site_count}
use Rattle.transfer_table.specs.Table.{TableState, effect_of, owner, row}
use Rattle.transfer_table.specs.Journal.{replay_from}
use Rattle.transfer_table.specs.Entry.{requested}
use Rattle.transfer_table.specs.Allowed.{IsAlone, ChildrenGone}
use Rattle.transfer_table.specs.declared.entry.Row.{Row}
use Rattle.transfer_table.specs.declared.entry.Stage.{Stage}
use Rattle.transfer_table.specs.declared.entry.Stage.TheVariants.{New, Live, Gone}
use Rattle.transfer_table.specs.declared.entry.Entry.{Entry}
use Rattle.transfer_table.specs.declared.entry.Entry.TheVariants.{Register, Request, Enter, Yield, Unregister}
use Rattle.transfer_table.proofs.Admits.{admits_register, admits_request, admits_enter, admits_yield}
use Rattle.open_table.specs.declared.table.Size.{Size}
use Rattle.open_table.specs.declared.table.Post.{Post}
use Rattle.open_table.specs.declared.table.Act.TheVariants as act
use Rattle.open_table.specs.declared.table.Entry.{Entry as OpenEntry}
use Rattle.open_table.specs.Table.{TableState as OpenState, Row as OpenRow, owner as top_site, below, top_mark, next_row, put, after, Admits, Reaches}
use Rattle.open_table.specs.Sound.{IsHome, Sound}
use Rattle.open_table.specs.Laws.{IsPlace, up}
use Rattle.open_table.proofs.Sums.{put-here}
use Rattle.open_table.proofs.Entries.{top_home, top_guest, reached_is_sound}
use Rattle.open_table.proofs.Ways.{owners_are_places, leaves_an_empty_site}
use Rattle.table_laws.specs.Planned.{Numbering, numbered}
use Rattle.table_laws.specs.Agreement.{Agrees, AreBegun}
use Rattle.table_laws.proofs.Numbers.{IsLater, was_live, fresh_site, next_free_number}
use Rattle.table_laws.proofs.Stacks.{top_stays, not_home}
use Rattle.table_laws.proofs.Transfers.{IsSized, Changes, no_change, register_changes, request_changes, enter_changes, yield_changes, unregister_changes, admits_unregister, replay_one}
use Rattle.table_laws.proofs.Keeps.{in_plan, stays, ends, registers, begun_kept, begun_next}

-- The transfers lead from state u to a state that agrees with t, and in which no site has asked for more than before and in the
-- transfers.
pub record Moved (z : Size) (p : Plan) (t : OpenState) (n : Numbering) (u : TableState) (es : List Entry) : Type 0 where
  pub to : TableState
  pub leads : replay_from p u es ≡ Ok to
  pub sized : IsSized p to
  pub agrees : Agrees z t n p to
  pub begun : AreBegun n p to
  pub asked : (s : ℕ) → IsSite p s → (row to s).asked ≤ (row u s).asked + requested s es

asked_after : (p : Plan) (u v : TableState) (h o x : ℕ) (r : Row) → Changes p u v h o x r → (es : List Entry) → r.asked ≤ (row u x).asked + requested x es
    → (s : ℕ) → IsSite p s → (row v s).asked ≤ (row u s).asked + requested s es
asked_after p u v h o x r C es le s site = dite (ℕ_discrete s x)
    (λ e. subst (λ (q : ℕ). (row v q).asked ≤ (row u q).asked + requested q es) (sym e)
    (let z : (row v x).asked ≡ r.asked = ap (λ (q : Row). q.asked) C.here in omega arith))
    (λ ne. let z : (row v s).asked ≡ (row u s).asked = ap (λ (q : Row). q.asked) (C.there s site ne) in omega arith)

module _ (z : Size) (p : Plan) (done : List OpenEntry) (t : OpenState) (n : Numbering) (u : TableState) (same : p.harts ≡ z.harts)
    (reached : Reaches z done t) (A : Agrees z t n p u) (B : AreBegun n p u) (sized : IsSized p u) (few : n.count ≤ site_count p) (h : ℕ) where
  S : Sound z t
  S = reached_is_sound z done t reached

  module _ (hart : h < z.harts) where
    in_harts : h < p.harts
    in_harts = let e = same in let l = hart in omega arith

    own_number : (x : ℕ) → x ≡ top_site (t.stacks h) → owner u h ≡ n.number x
    own_number x is = A.owners h hart ∙ ap n.number (sym is)

    -- An act without a transfer.
    quiet : (x : ℕ) (s' : List Post) (r' : OpenRow) → (t.rows x).live ≡ true → top_site s' ≡ top_site (t.stacks h) → r'.live ≡ true → r'.home ≡ (t.rows x).home → r'.parent ≡ (t.rows x).parent
        → r'.asked ≤ r'.entered + (row u (n.number x)).wishes → Moved z p record { stacks = put h s' t.stacks; rows = put x r' t.rows } n u []
    quiet x s' r' was top live home up wishes =
        let C = no_change p u h (n.number x) sized in record {
          to = u;
          leads = refl;
          sized = sized;
          agrees = stays z p t n u u A few h x (owner u h) s' r' (row u (n.number x)) C (A.owners h hart ∙ ap n.number (sym top)) was live home up (A.live x was).live refl wishes;
          begun = B;
          asked = asked_after p u u h (owner u h) (n.number x) (row u (n.number x)) C [] (omega arith);
        }

  pub register : (x : ℕ) → Admits z t record { hart = h; act = act.Register x } → n.count + 1 ≤ site_count p → parent p (n.count + 1) ≡ n.number (top_site (t.stacks h))
      → Moved z p (after t record { hart = h; act = act.Register x }) (numbered (act.Register x) n) u (Register h (n.count + 1) ∷ [])
  register x ok room up =
      let hart = ok.0 in let f = fresh_site z t S h x ok in let places = owners_are_places z done t reached in
      let s : ℕ = n.count + 1 in
      let site : IsSite p s = (omega arith, room) in
      let C = register_changes p u sized h s (in_harts hart) site in record {
        to = effect_of p u (Register h s);
        leads = replay_one p u _ (Register h s) (admits_register p u h s (in_harts hart) site (A.owners h hart ∙ sym up) (B.new s site (omega arith)));
        sized = C.sized;
        agrees = registers z p t n u _ A few h x s s _ f.0 f.1 hart C site (omega arith) (omega arith) (next_free_number t n A.numbers) places.0 places.1 refl refl up;
        begun = begun_next p u _ n h s _ _ C (λ e. absurd (cc)) B;
        asked = asked_after p u _ h s s _ C (Register h s ∷ []) (omega arith);
      }

  pub request_none : (x : ℕ) → Admits z t record { hart = h; act = act.Request x 0 } → Moved z p (after t record { hart = h; act = act.Request x 0 }) n u []
  request_none x ok = let may = ok.1 in let top = top_home z t S h ok.0 x may.0 may.1 in
      quiet ok.0 x _ _ top.live (top_stays _ (t.stacks h)) top.live refl refl (let w = (A.live x top.live).wishes in omega arith)

  pub request_some : (x k : ℕ) → Admits z t record { hart = h; act = act.Request x (suc k) } → (row u (n.number x)).asked + suc k ≤ p.harts - 1
      → Moved z p (after t record { hart = h; act = act.Request x (suc k) }) n u (Request h (n.number x) (suc k) ∷ [])
  request_some x k ok fits =
      let hart = ok.0 in let may = ok.1 in let top = top_home z t S h hart x may.0 may.1 in
      let a = A.live x top.live in let w = a.wishes in
      let s : ℕ = n.number x in let site = in_plan z p t n u u A few x top.live in
      let C = request_changes p u sized h s (in_harts hart) site (suc k) in
      let own = own_number hart x may.1 in record {
        to = effect_of p u (Request h s (suc k));
        leads = replay_one p u _ (Request h s (suc k)) (admits_request p u h s (suc k) (in_harts hart) site own (a.home ∙ ap (λ (g : ℕ). Some g) top.home) (omega arith) fits);
        sized = C.sized;
        agrees = stays z p t n u _ A few h x (owner u h) _ _ _ C (own ∙ (ap n.number may.1 ∙ ap n.number (sym (top_stays _ (t.stacks h))))) top.live top.live refl refl a.live refl (omega arith);
        begun = begun_kept p u _ n h (owner u h) s _ C (A.numbers.known x top.live).1 (λ e. let l = a.live in absurd (cc)) B;
        asked = asked_after p u _ h (owner u h) s _ C (Request h s (suc k) ∷ [])
            (let e : (if s == s then suc k else 0) ≡ suc k = ap (λ (b : Bool). if b then suc k else 0) (eq-eqb s s refl) in omega arith);
      }

  pub withdraw : (x k : ℕ) → Admits z t record { hart = h; act = act.Withdraw x k } → Moved z p (after t record { hart = h; act = act.Withdraw x k }) n u []
  withdraw x k ok = let may = ok.1 in let top = top_home z t S h ok.0 x may.0 may.1 in
      quiet ok.0 x _ _ top.live (top_stays _ (t.stacks h)) top.live refl refl (let w = (A.live x top.live).wishes in omega arith)

  pub enter : (x : ℕ) → Admits z t record { hart = h; act = act.Enter x } → Moved z p (after t record { hart = h; act = act.Enter x }) n u (Enter h (n.number x) ∷ [])
  enter x ok =
      let hart = ok.0 in let may = ok.1 in let a = A.live x may.0 in let w = a.wishes in let b = may.3 in
      let s : ℕ = n.number x in let site = in_plan z p t n u u A few x may.0 in
      let C = enter_changes p u sized h s (in_harts hart) site in record {
        to = effect_of p u (Enter h s);
        leads = replay_one p u _ (Enter h s) (admits_enter p u h s (in_harts hart) site (A.owners h hart ∙ (ap n.number (sym may.2) ∙ sym a.parent)) a.live (omega arith));
        sized = C.sized;
        agrees = stays z p t n u _ A few h x s _ _ _ C refl may.0 may.0 refl refl a.live refl (omega arith);
        begun = begun_kept p u _ n h s s _ C (A.numbers.known x may.0).1 (λ e. let l = a.live in absurd (cc)) B;
        asked = asked_after p u _ h s s _ C (Enter h s ∷ []) (omega arith);
      }

  pub yield : (x : ℕ) → Admits z t record { hart = h; act = act.Yield x } → Moved z p (after t record { hart = h; act = act.Yield x }) n u (Yield h (n.number x) ∷ [])
  yield x ok =
      let hart = ok.0 in let may = ok.1 in let top = top_guest z t S h hart x may.0 may.1 in
      let a = A.live x top.live in
      let s : ℕ = n.number x in let site = in_plan z p t n u u A few x top.live in
      let C = yield_changes p u sized h s (in_harts hart) site in record {
        to = effect_of p u (Yield h s);
        leads = replay_one p u _ (Yield h s) (admits_yield p u h s (in_harts hart) site (own_number hart x may.1) (λ e. not_home z done t reached h x hart may.0 may.1 top.live (let w : Some (t.rows x).home ≡ Some h = sym a.home ∙ e in cc)));
        sized = C.sized;
        agrees = stays z p t n u _ A few h x (parent p s) _ _ _ C (a.parent ∙ ap n.number top.parent) top.live top.live refl refl a.live refl a.wishes;
        begun = begun_kept p u _ n h (parent p s) s _ C (A.numbers.known x top.live).1 (λ e. let l = a.live in absurd (cc)) B;
        asked = asked_after p u _ h (parent p s) s _ C (Yield h s ∷ []) (omega arith);
      }

  pub close : (x : ℕ) → Admits z t record { hart = h; act = act.Close x } → Moved z p (after t record { hart = h; act = act.Close x }) n u []
  close x ok = let may = ok.1 in let top = top_home z t S h ok.0 x may.0 may.1 in
      quiet ok.0 x _ _ top.live (top_stays _ (t.stacks h)) top.live refl refl (A.live x top.live).wishes

  pub see_empty : (x : ℕ) → Admits z t record { hart = h; act = act.SeeEmpty x } → Moved z p (after t record { hart = h; act = act.SeeEmpty x }) n u []
  see_empty x ok = let may = ok.1 in let top = top_home z t S h ok.0 x may.0 may.1 in
      quiet ok.0 x _ _ top.live (top_stays _ (t.stacks h)) top.live refl refl (A.live x top.live).wishes

  module _ (x : ℕ) (ok : Admits z t record { hart = h; act = act.Unregister x }) where
    abbrev ended : OpenState
    ended = after t record { hart = h; act = act.Unregister x }

    left : ((g m : ℕ) → g < z.harts → g ≢ h → up t m (top_site (t.stacks g)) ≢ x) × ((y : ℕ) → (t.rows y).live ≡ true → (t.rows y).parent ≢ x)
    left = let l = leaves_an_empty_site z done t ended h x reached (ok, refl) in (l.0, l.1)

    top : IsHome z (t.rows x) h x (top_mark (t.stacks h)) (below (t.stacks h))
    top = top_home z t S h ok.0 x ok.1.0 ok.1.1

    -- A place with the number of x is x.
    is_x : (y : ℕ) → IsPlace t y → n.number y ≡ n.number x → y ≡ x
    is_x y place e = ⊎_elim
        (λ (b : y ≡ 0). let k = (A.numbers.known x top.live).0 in let zero_number : n.number y ≡ 0 = ap n.number b ∙ A.numbers.base in absurd (omega arith))
        (λ (l : (t.rows y).live ≡ true). A.numbers.apart y x l top.live e)
        place

    alone : IsAlone p u h (n.number x)
    alone g lt ne e = let hart : g < z.harts = let q = same in omega arith in
        left.0 g 0 hart ne (is_x (top_site (t.stacks g)) ((owners_are_places z done t reached).0 g hart) (sym (A.owners g hart) ∙ e))

    -- No site that is added later has it as its parent.
    none_later : (q : ℕ) → IsLater ended n q → q ≢ n.number x
    none_later q is e = let k = A.numbers.known x top.live in let low = k.0 in let high = k.1 in ⊎_elim
        (λ (b : q ≡ 0). absurd (omega arith))
        (λ (m : (n.count < q) ⊎ ((y : ℕ) × ((ended.rows y).live ≡ true) × (n.number y ≡ q))). ⊎_elim
        (λ (c : n.count < q). absurd (omega arith))
        (λ (l : (y : ℕ) × ((ended.rows y).live ≡ true) × (n.number y ≡ q)).
        let y_is : l.0 ≡ x = A.numbers.apart l.0 x (was_live t record { hart = h; act = act.Unregister x } refl l.0 l.1) top.live (l.2 ∙ e) in
        let dead : (ended.rows l.0).live ≡ false = ap (λ (r : OpenRow). r.live) (put-here x (next_row h (t.stacks h) (act.Unregister x) (t.rows x)) t.rows l.0 y_is) in
        let live = l.1 in absurd (cc))
        m)
        is

    gone : ((c : ℕ) → IsSite p c → n.count < c → IsLater ended n (parent p c)) → ChildrenGone p u (n.number x)
    gone later c site up = dite (dec_le c n.count)
        (λ le. by_stage (row u c).stage refl le)
        (λ nle. absurd (none_later (parent p c) (later c site (omega arith)) up))
      where
        by_stage : (g : Stage) → (row u c).stage ≡ g → c ≤ n.count → (row u c).stage ≡ Gone
        by_stage New e le = absurd (B.begun c site le e)
        by_stage Live e le =
            let l = A.others c site e in
            absurd (left.1 l.0 l.1 (is_x (t.rows l.0).parent ((owners_are_places z done t reached).1 l.0 l.1)
            (sym (A.live l.0 l.1).parent ∙ (ap (parent p) l.2 ∙ up))))
        by_stage Gone e le = e

    pub unregister : ((c : ℕ) → IsSite p c → n.count < c → IsLater ended n (parent p c)) → Moved z p ended n u (Unregister h (n.number x) ∷ [])
    unregister later =
        let hart = ok.0 in let a = A.live x top.live in
        let s : ℕ = n.number x in let site = in_plan z p t n u u A few x top.live in
        let C = unregister_changes p u sized h s (in_harts hart) site in record {
          to = effect_of p u (Unregister h s);
          leads = replay_one p u _ (Unregister h s) (admits_unregister p u sized h s (in_harts hart) site (own_number hart x ok.1.1) (a.home ∙ ap (λ (g : ℕ). Some g) top.home) alone (gone later));
          sized = C.sized;
          agrees = ends z p t n u _ A few h x (parent p s) _ _ _ C (a.parent ∙ ap n.number top.parent) top.live refl refl;
          begun = begun_kept p u _ n h (parent p s) s _ C (A.numbers.known x top.live).1 (λ e. absurd (cc)) B;
          asked = asked_after p u _ h (parent p s) s _ C (Unregister h s ∷ []) (omega arith);
        }

-- The states still agree after an entry of the open table and its transfer in the plan.
use Rattle.std.proofs.Common.{◌≡◌, ◌≢◌, ℕ, ◌+◌, ◌<◌, ◌≤◌, true, List, sym, ap, refl, ◌∙◌, subst, arith, Some, false, ◌∷◌}
use mathlib.Core.Logic.{dite}
use native.Mathlib.Decide.{ℕ_discrete}
use Rattle.transfer_table.specs.Plan.{Plan, IsSite, parent, site_count}
use Rattle.transfer_table.specs.Table.{TableState, owner, row}
use Rattle.transfer_table.specs.declared.entry.Row.{Row}
use Rattle.transfer_table.specs.declared.entry.Stage.TheVariants.{New, Live, Gone}
use Rattle.open_table.specs.declared.table.Size.{Size}
use Rattle.open_table.specs.declared.table.Post.{Post}
use Rattle.open_table.specs.Table.{TableState as OpenState, Row as OpenRow, owner as top_site, put, new_row, new_mark, free_row}
use Rattle.open_table.specs.Laws.{IsPlace}
use Rattle.open_table.specs.declared.table.Post.TheVariants.{Home}
use Rattle.open_table.proofs.Sums.{put-here, put-there}
use Rattle.table_laws.specs.Planned.{Numbering}
use Rattle.table_laws.specs.Agreement.{IsAlike, Agrees, AreBegun}
use Rattle.table_laws.proofs.Numbers.{next_here, next_there, next_place, old_live, new_numbers}
use Rattle.table_laws.proofs.Transfers.{Changes}

-- A site is alike if its row in the plan is as before.
same_row : (p : Plan) (u v : TableState) (n : Numbering) (r : OpenRow) (s : ℕ) → row v s ≡ row u s → IsAlike p u n r s → IsAlike p v n r s
same_row p u v n r s e a = record {
  live = ap (λ (q : Row). q.stage) e ∙ a.live;
  home = ap (λ (q : Row). q.home) e ∙ a.home;
  parent = a.parent;
  wishes = let w = a.wishes in let z : (row v s).wishes ≡ (row u s).wishes = ap (λ (q : Row). q.wishes) e in omega arith;
}

module _ (z : Size) (p : Plan) (t : OpenState) (n : Numbering) (u v : TableState) (A : Agrees z t n p u) (few : n.count ≤ site_count p) where
  -- The number of a live site is that of a site of the plan.
  pub in_plan : (x : ℕ) → (t.rows x).live ≡ true → IsSite p (n.number x)
  in_plan x l = let k = A.numbers.known x l in let a = k.0 in let b = k.1 in (omega arith, omega arith)

  module _ (h x o : ℕ) (s' : List Post) (r' : OpenRow) (r : Row) (C : Changes p u v h o (n.number x) r) (own : o ≡ n.number (top_site s')) where
    -- The owners agree if the numbers stay.
    owners_agree : (g : ℕ) → g < z.harts → owner v g ≡ n.number (top_site (put h s' t.stacks g))
    owners_agree g lt = dite (ℕ_discrete g h)
        (λ e. ap (owner v) e ∙ (C.mover ∙ (own ∙ ap (λ (q : List Post). n.number (top_site q)) (sym (put-here h s' t.stacks g e)))))
        (λ ne. C.rest g ne ∙ (A.owners g lt ∙ ap (λ (q : List Post). n.number (top_site q)) (sym (put-there h s' t.stacks g ne))))

    module _ (was : (t.rows x).live ≡ true) where
      apart_from : (y : ℕ) → y ≢ x → (t.rows y).live ≡ true → n.number y ≢ n.number x
      apart_from y ne l e = ne (A.numbers.apart y x l was e)

      -- The row of another live site is alike.
      other_alike : (y : ℕ) → y ≢ x → (t.rows y).live ≡ true → IsAlike p v n (put x r' t.rows y) (n.number y)
      other_alike y ne l = subst (λ (q : OpenRow). IsAlike p v n q (n.number y)) (sym (put-there x r' t.rows y ne))
          (same_row p u v n (t.rows y) (n.number y) (C.there (n.number y) (in_plan y l) (apart_from y ne l)) (A.live y l))

      -- Another site of the plan that is live is that of a live site.
      other_site : (s : ℕ) → IsSite p s → s ≢ n.number x → (row v s).stage ≡ Live → (y : ℕ) × ((put x r' t.rows y).live ≡ true) × (n.number y ≡ s)
      other_site s site ne is =
          let l = A.others s site (sym (ap (λ (q : Row). q.stage) (C.there s site ne)) ∙ is) in
          (l.0, ap (λ (q : OpenRow). q.live) (put-there x r' t.rows l.0 (λ e. ne (sym l.2 ∙ ap n.number e))) ∙ l.1, l.2)

      -- The site's row changes, and the site stays live.
      module _ (live : r'.live ≡ true) (home : r'.home ≡ (t.rows x).home) (up : r'.parent ≡ (t.rows x).parent)
          (stage : r.stage ≡ Live) (keeper : r.home ≡ (row u (n.number x)).home) (wishes : r'.asked ≤ r'.entered + r.wishes) where
        lives : (y : ℕ) → (put x r' t.rows y).live ≡ true → (t.rows y).live ≡ true
        lives y l = dite (ℕ_discrete y x)
            (λ e. subst (λ (q : ℕ). (t.rows q).live ≡ true) (sym e) was)
            (λ ne. sym (ap (λ (q : OpenRow). q.live) (put-there x r' t.rows y ne)) ∙ l)

        own_alike : IsAlike p v n r' (n.number x)
        own_alike = let a = A.live x was in record {
          live = ap (λ (q : Row). q.stage) C.here ∙ stage;
          home = ap (λ (q : Row). q.home) C.here ∙ (keeper ∙ (a.home ∙ ap (λ (g : ℕ). Some g) (sym home)));
          parent = a.parent ∙ ap n.number (sym up);
          wishes = let e : (row v (n.number x)).wishes ≡ r.wishes = ap (λ (q : Row). q.wishes) C.here in omega arith;
        }

        pub stays : Agrees z record { stacks = put h s' t.stacks; rows = put x r' t.rows } n p v
        stays = record {
          numbers = record {
            base = A.numbers.base;
            known = λ y l. A.numbers.known y (lives y l);
            apart = λ y w a b. A.numbers.apart y w (lives y a) (lives w b);
          };
          owners = owners_agree;
          live = λ y l. dite (ℕ_discrete y x)
              (λ e. subst (λ (q : ℕ). IsAlike p v n (put x r' t.rows q) (n.number q)) (sym e)
              (subst (λ (q : OpenRow). IsAlike p v n q (n.number x)) (sym (put-here x r' t.rows x refl)) own_alike))
              (λ ne. other_alike y ne (lives y l));
          others = λ s site is. dite (ℕ_discrete s (n.number x))
              (λ e. (x, ap (λ (q : OpenRow). q.live) (put-here x r' t.rows x refl) ∙ live, sym e))
              (λ ne. other_site s site ne is);
        }

      -- The site ends.
      module _ (dead : r' ≡ free_row) (stage : r.stage ≡ Gone) where
        not_ended : (y : ℕ) → (put x r' t.rows y).live ≡ true → y ≢ x
        not_ended y l e = let q : (put x r' t.rows y).live ≡ (free_row).live = ap (λ (w : OpenRow). w.live) (put-here x r' t.rows y e ∙ dead) in absurd (cc)

        left_live : (y : ℕ) → (put x r' t.rows y).live ≡ true → (t.rows y).live ≡ true
        left_live y l = sym (ap (λ (q : OpenRow). q.live) (put-there x r' t.rows y (not_ended y l))) ∙ l

        pub ends : Agrees z record { stacks = put h s' t.stacks; rows = put x r' t.rows } n p v
        ends = record {
          numbers = record {
            base = A.numbers.base;
            known = λ y l. A.numbers.known y (left_live y l);
            apart = λ y w a b. A.numbers.apart y w (left_live y a) (left_live w b);
          };
          owners = owners_agree;
          live = λ y l. other_alike y (not_ended y l) (left_live y l);
          others = λ s site is. dite (ℕ_discrete s (n.number x))
              (λ e. let g : (row v s).stage ≡ Gone = ap (λ (q : ℕ). (row v q).stage) e ∙ (ap (λ (q : Row). q.stage) C.here ∙ stage) in absurd (cc))
              (λ ne. other_site s site ne is);
        }

  -- Hart h registers site x, which gets the number k of a site of the plan that isn't live.
  module _ (h x k c : ℕ) (r : Row) (some : x ≢ 0) (dead : (t.rows x).live ≡ false) (hart : h < z.harts) (C : Changes p u v h k k r)
      (site : IsSite p k) (high : k ≤ c) (more : n.count ≤ c) (free : (y : ℕ) → (t.rows y).live ≡ true → n.number y ≢ k)
      (place : (g : ℕ) → g < z.harts → IsPlace t (top_site (t.stacks g))) (above : (y : ℕ) → (t.rows y).live ≡ true → IsPlace t (t.rows y).parent)
      (stage : r.stage ≡ Live) (home : r.home ≡ Some h) (up : parent p k ≡ n.number (top_site (t.stacks h))) where
    abbrev next : Numbering
    next = record { count = c; number = put x k n.number }

    abbrev begun : OpenRow
    begun = new_row h (top_site (t.stacks h))

    abbrev rows : ℕ → OpenRow
    rows = put x begun t.rows

    here : next.number x ≡ k
    here = next_here t n A.numbers x k c some dead begun site.0 high more free

    was : (y : ℕ) → y ≢ x → (rows y).live ≡ true → (t.rows y).live ≡ true
    was y ne l = old_live t n A.numbers x k c some dead begun site.0 high more free y ne l

    there : (y : ℕ) → y ≢ x → next.number y ≡ n.number y
    there y ne = next_there t n A.numbers x k c some dead begun site.0 high more free y ne

    at_place : (y : ℕ) → IsPlace t y → next.number y ≡ n.number y
    at_place y is = next_place t n A.numbers x k c some dead begun site.0 high more free y is

    begun_owners : (g : ℕ) → g < z.harts → owner v g ≡ next.number (top_site (put h (Home x new_mark ∷ t.stacks h) t.stacks g))
    begun_owners g lt = dite (ℕ_discrete g h)
        (λ e. ap (owner v) e ∙ (C.mover ∙ (sym here ∙ ap (λ (q : List Post). next.number (top_site q)) (sym (put-here h (Home x new_mark ∷ t.stacks h) t.stacks g e)))))
        (λ ne. C.rest g ne ∙ (A.owners g lt ∙ (sym (at_place (top_site (t.stacks g)) (place g lt)) ∙ ap (λ (q : List Post). next.number (top_site q)) (sym (put-there h (Home x new_mark ∷ t.stacks h) t.stacks g ne)))))

    begun_alike : IsAlike p v next begun k
    begun_alike = record {
      live = ap (λ (q : Row). q.stage) C.here ∙ stage;
      home = ap (λ (q : Row). q.home) C.here ∙ home;
      parent = up ∙ sym (at_place (top_site (t.stacks h)) (place h hart));
      wishes = omega arith;
    }

    old_alike : (y : ℕ) → (t.rows y).live ≡ true → IsAlike p v next (t.rows y) (n.number y)
    old_alike y l = let a = same_row p u v n (t.rows y) (n.number y) (C.there (n.number y) (in_plan y l) (free y l)) (A.live y l) in
        record { live = a.live; home = a.home; parent = a.parent ∙ sym (at_place (t.rows y).parent (above y l)); wishes = a.wishes }

    pub registers : Agrees z record { stacks = put h (Home x new_mark ∷ t.stacks h) t.stacks; rows = rows } next p v
    registers = record {
      numbers = new_numbers t n A.numbers x k c some dead begun site.0 high more free (put h (Home x new_mark ∷ t.stacks h) t.stacks);
      owners = begun_owners;
      live = λ y l. dite (ℕ_discrete y x)
          (λ e. subst (λ (q : ℕ). IsAlike p v next (rows q) (next.number q)) (sym e)
          (subst (λ (q : OpenRow). IsAlike p v next q (next.number x)) (sym (put-here x begun t.rows x refl))
          (subst (λ (q : ℕ). IsAlike p v next begun q) (sym here) begun_alike)))
          (λ ne. subst (λ (q : OpenRow). IsAlike p v next q (next.number y)) (sym (put-there x begun t.rows y ne))
          (subst (λ (q : ℕ). IsAlike p v next (t.rows y) q) (sym (there y ne)) (old_alike y (was y ne l))));
      others = λ s of_plan is. dite (ℕ_discrete s k)
          (λ e. (x, ap (λ (q : OpenRow). q.live) (put-here x begun t.rows x refl), here ∙ sym e))
          (λ ne. let l = A.others s of_plan (sym (ap (λ (q : Row). q.stage) (C.there s of_plan ne)) ∙ is) in
          let new : l.0 ≢ x = λ e. let d = subst (λ (q : ℕ). (t.rows q).live ≡ true) e l.1 in absurd (cc) in
          (l.0, ap (λ (q : OpenRow). q.live) (put-there x begun t.rows l.0 new) ∙ l.1, there l.0 new ∙ l.2));
    }

-- ---- the sites so far

-- A site of those so far stays among them.
pub begun_kept : (p : Plan) (u v : TableState) (n : Numbering) (h o s : ℕ) (r : Row) → Changes p u v h o s r → s ≤ n.count → r.stage ≢ New → AreBegun n p u → AreBegun n p v
begun_kept p u v n h o s r C le old B = record {
  begun = λ y site few e. dite (ℕ_discrete y s)
      (λ same. old (sym (ap (λ (q : Row). q.stage) C.here) ∙ (ap (λ (q : ℕ). (row v q).stage) (sym same) ∙ e)))
      (λ ne. B.begun y site few (sym (ap (λ (q : Row). q.stage) (C.there y site ne)) ∙ e));
  new = λ y site lt. ap (λ (q : Row). q.stage) (C.there y site (λ e. absurd (omega arith))) ∙ B.new y site lt;
}

-- The next site is begun.
pub begun_next : (p : Plan) (u v : TableState) (n : Numbering) (h o : ℕ) (r : Row) (f : ℕ → ℕ) → Changes p u v h o (n.count + 1) r → r.stage ≢ New → AreBegun n p u
    → AreBegun record { count = n.count + 1; number = f } p v
begun_next p u v n h o r f C old B = record {
  begun = λ y site few e. dite (ℕ_discrete y (n.count + 1))
      (λ same. old (sym (ap (λ (q : Row). q.stage) C.here) ∙ (ap (λ (q : ℕ). (row v q).stage) (sym same) ∙ e)))
      (λ ne. B.begun y site (omega arith) (sym (ap (λ (q : Row). q.stage) (C.there y site ne)) ∙ e));
  new = λ y site lt. ap (λ (q : Row). q.stage) (C.there y site (λ e. absurd (omega arith))) ∙ B.new y site (omega arith);
}

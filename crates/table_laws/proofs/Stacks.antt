-- The sites on a hart's stack.
use Rattle.std.proofs.Common.{◌≡◌, ◌≢◌, ◌⊎◌, ℕ, zero, suc, ◌+◌, ◌<◌, ◌≤◌, Bool, true, false, List, [], ◌∷◌, sym, ap, refl, ◌∙◌, subst, arith, inl, inr, ⊎_elim, eqb, ne_eqb}
use mathlib.Core.Logic.{dite}
use native.Mathlib.Decide.{ℕ_discrete}
use Rattle.open_table.specs.declared.table.Size.{Size}
use Rattle.open_table.specs.declared.table.Mark.{Mark}
use Rattle.open_table.specs.declared.table.Post.{Post}
use Rattle.open_table.specs.declared.table.Post.TheVariants.{Home, Guest}
use Rattle.open_table.specs.declared.table.Entry.{Entry}
use Rattle.open_table.specs.Table.{TableState, Row, owner as top_site, below, homes, is_home, is_guest, on_top, one_if, times_in, sum_below, guests, Reaches}
use Rattle.open_table.specs.Sound.{Has, Sound}
use Rattle.open_table.specs.Laws.{sunk, up}
use Rattle.open_table.proofs.Steps.{live_slot}
use Rattle.open_table.proofs.Entries.{guest_at, home_at, reached_is_sound}
use Rattle.open_table.proofs.Ways.{once_on_a_stack, stacks_are_ways}

pub top_stays : (f : Mark → Mark) (s : List Post) → top_site (on_top f s) ≡ top_site s
top_stays f [] = refl
top_stays f (Home x m ∷ rest) = refl
top_stays f (Guest x ∷ rest) = refl

pub homes_stay : (f : Mark → Mark) (s : List Post) → homes (on_top f s) ≡ homes s
homes_stay f [] = refl
homes_stay f (Home x m ∷ rest) = refl
homes_stay f (Guest x ∷ rest) = refl

pub homes_below : (s : List Post) → homes (below s) ≤ homes s
homes_below [] = omega arith
homes_below (p ∷ rest) = omega arith

-- The hart is the home or a guest of its owner.
pub top_kind : (x : ℕ) (s : List Post) → x ≡ top_site s → x ≢ 0 → (is_home s ≡ true) ⊎ (is_guest s ≡ true)
top_kind x [] is some = absurd (some is)
top_kind x (Home y m ∷ rest) is some = inl refl
top_kind x (Guest y ∷ rest) is some = inr refl

-- A site of which the hart is the home is at some depth of the hart's stack.
has_depth : (x : ℕ) (s : List Post) → Has x s → (m : ℕ) × (top_site (sunk m s) ≡ x)
has_depth x [] has = absurd has
has_depth x (Home y m ∷ rest) has = ⊎_elim
    (λ (e : y ≡ x). (0, e))
    (λ (b : Has x rest). let r = has_depth x rest b in (suc r.0, r.1))
    has
has_depth x (Guest y ∷ rest) has = ⊎_elim
    (λ (e : ⊥). absurd e)
    (λ (b : Has x rest). let r = has_depth x rest b in (suc r.0, r.1))
    has

-- A site of which the hart is a guest is at some depth of the hart's stack.
guest_depth : (x : ℕ) (s : List Post) → 1 ≤ times_in x s → (m : ℕ) × (top_site (sunk m s) ≡ x)
guest_depth x [] some = absurd (omega arith)
guest_depth x (Home y m ∷ rest) some = let r = guest_depth x rest (omega arith) in (suc r.0, r.1)
guest_depth x (Guest y ∷ rest) some = dite (ℕ_discrete y x)
    (λ e. (0, e))
    (λ ne. let z : one_if (eqb y x) ≡ 0 = ap one_if (ne_eqb y x ne) in let r = guest_depth x rest (omega arith) in (suc r.0, r.1))

-- One site further up is the parent of the last.
up_parent : (t : TableState) (j o : ℕ) → up t (suc j) o ≡ (t.rows (up t j o)).parent
up_parent t zero o = refl
up_parent t (suc j) o = up_parent t j (t.rows o).parent

no_sum : (f : ℕ → ℕ) (n : ℕ) → ((g : ℕ) → g < n → f g ≡ 0) → sum_below f n ≡ 0
no_sum f zero none = refl
no_sum f (suc n) none = let a = no_sum f n (λ g lt. none g (omega arith)) in let b = none n (omega arith) in omega arith

module _ (z : Size) (done : List Entry) (t : TableState) (reached : Reaches z done t) (h : ℕ) where
  -- The home of a site isn't a guest of it.
  pub not_home : (x : ℕ) → h < z.harts → is_guest (t.stacks h) ≡ true → x ≡ top_site (t.stacks h) → (t.rows x).live ≡ true → (t.rows x).home ≢ h
  not_home x hart guest is live e =
      let stack = guest_at (t.stacks h) x guest is in
      let has : Has x (t.stacks h) = subst (λ (g : ℕ). Has x (t.stacks g)) e ((reached_is_sound z done t reached).at_home x live).1 in
      let under : Has x (below (t.stacks h)) = ⊎_elim (λ (b : ⊥). absurd b) (λ (b : Has x (below (t.stacks h))). b) (let w : Has x (Guest x ∷ below (t.stacks h)) = subst (Has x) stack has in w) in
      let d = has_depth x (below (t.stacks h)) under in
      let deep : top_site (sunk (suc d.0) (t.stacks h)) ≡ x = ap (λ (q : List Post). top_site (sunk (suc d.0) q)) stack ∙ d.1 in
      let low = (live_slot z t (reached_is_sound z done t reached) x live).0 in
      let once = once_on_a_stack z done t reached h 0 (suc d.0) hart (sym is ∙ sym deep) (λ b. absurd (omega arith)) in
      absurd (omega arith)

  -- No hart is a guest of the site if no other hart's owner is the site, and no live site has it as its parent.
  pub no_guests : (x : ℕ) → h < z.harts → is_home (t.stacks h) ≡ true → x ≡ top_site (t.stacks h) → (t.rows x).live ≡ true
      → ((g : ℕ) → g < z.harts → g ≢ h → top_site (t.stacks g) ≢ x) → ((y : ℕ) → (t.rows y).live ≡ true → (t.rows y).parent ≢ x)
      → guests z t.stacks x ≡ 0
  no_guests x hart home is live alone childless = no_sum (λ g. times_in x (t.stacks g)) z.harts (λ g lt. none_in g lt (times_in x (t.stacks g)) refl)
    where
      S : Sound z t
      S = reached_is_sound z done t reached

      some : x ≢ 0
      some e = let low = (live_slot z t S x live).0 in absurd (omega arith)

      own : (k : ℕ) → times_in x (t.stacks h) ≡ suc k → ⊥
      own k e =
          let stack = home_at (t.stacks h) x home is in
          let same : times_in x (t.stacks h) ≡ times_in x (below (t.stacks h)) + 0 = ap (times_in x) stack in
          let d = guest_depth x (below (t.stacks h)) (omega arith) in
          let deep : top_site (sunk (suc d.0) (t.stacks h)) ≡ x = ap (λ (q : List Post). top_site (sunk (suc d.0) q)) stack ∙ d.1 in
          let once = once_on_a_stack z done t reached h 0 (suc d.0) hart (sym is ∙ sym deep) (λ b. some (is ∙ b)) in absurd (omega arith)

      -- The site above x on the hart's stack is live and has x as its parent.
      above : (g m : ℕ) → g < z.harts → g ≢ h → top_site (sunk m (t.stacks g)) ≡ x → ⊥
      above g zero lt ne e = alone g lt ne e
      above g (suc j) lt ne e =
          let y : ℕ = up t j (top_site (t.stacks g)) in
          let parent : (t.rows y).parent ≡ x = sym (up_parent t j (top_site (t.stacks g))) ∙ (stacks_are_ways z done t reached g (suc j) lt ∙ e) in
          is_live y (t.rows y).live refl parent
        where
          is_live : (y : ℕ) (b : Bool) → (t.rows y).live ≡ b → (t.rows y).parent ≡ x → ⊥
          is_live y true l p = childless y l p
          is_live y false l p = some (sym p ∙ ap (λ (r : Row). r.parent) (S.free y l))

      none_in : (g : ℕ) → g < z.harts → (k : ℕ) → times_in x (t.stacks g) ≡ k → times_in x (t.stacks g) ≡ 0
      none_in g lt zero e = e
      none_in g lt (suc k) e = dite (ℕ_discrete g h)
          (λ same. absurd (own k (ap (λ (q : ℕ). times_in x (t.stacks q)) (sym same) ∙ e)))
          (λ ne. let d = guest_depth x (t.stacks g) (omega arith) in absurd (above g d.0 lt ne d.1))

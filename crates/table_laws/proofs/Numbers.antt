-- How the numbers of sites change with an entry.
use Rattle.std.proofs.Common.{◌≡◌, ◌≢◌, ◌⊎◌, ℕ, zero, suc, ◌+◌, ◌<◌, ◌≤◌, Bool, true, false, List, [], ◌∷◌, ◌++◌, length, slice_index, sym, ap, refl, ◌∙◌, subst, arith, inl, inr, ⊎_elim}
use mathlib.Core.Logic.{dite}
use native.Mathlib.Decide.{ℕ_discrete}
use Rattle.open_table.specs.declared.table.Size.{Size}
use Rattle.open_table.specs.declared.table.Post.{Post}
use Rattle.open_table.specs.declared.table.Act.{Act}
use Rattle.open_table.specs.declared.table.Act.TheVariants.{Register, Request, Withdraw, Enter, Yield, Close, SeeEmpty, Unregister}
use Rattle.open_table.specs.declared.table.Entry.{Entry}
use Rattle.open_table.specs.Table.{Row, TableState, owner, homes, slot, put, site_of, next_row, after, Admits, Leads, Reaches}
use Rattle.open_table.specs.Laws.{IsPlace}
use Rattle.open_table.specs.Sound.{Sound}
use Rattle.open_table.proofs.Sums.{put-here, put-there}
use Rattle.open_table.proofs.Steps.{next_free, true_false}
use Rattle.open_table.proofs.Entries.{reached_is_sound}
use Rattle.open_table.proofs.Ways.{owners_are_places}
use Rattle.table_laws.specs.Planned.{Numbering, numbered, parents_in, parents_from}
use Rattle.table_laws.specs.Agreement.{HasNumbers}

-- Whether the act is a Register.
abbrev pub begins : Act → Bool
begins (Register x) = true
begins (Request x k) = false
begins (Withdraw x k) = false
begins (Enter x) = false
begins (Yield x) = false
begins (Close x) = false
begins (SeeEmpty x) = false
begins (Unregister x) = false

row_live : (h : ℕ) (s : List Post) (a : Act) (r : Row) → begins a ≡ false → (next_row h s a r).live ≡ true → r.live ≡ true
row_live h s (Register x) r old l = absurd (cc)
row_live h s (Request x k) r old l = l
row_live h s (Withdraw x k) r old l = l
row_live h s (Enter x) r old l = l
row_live h s (Yield x) r old l = l
row_live h s (Close x) r old l = l
row_live h s (SeeEmpty x) r old l = l
row_live h s (Unregister x) r old l = absurd (cc)

-- Only a Register makes a site live.
pub was_live : (t : TableState) (e : Entry) → begins e.act ≡ false → (y : ℕ) → ((after t e).rows y).live ≡ true → (t.rows y).live ≡ true
was_live t e old y l =
    let x : ℕ = site_of e.act in
    let r' : Row = next_row e.hart (t.stacks e.hart) e.act (t.rows x) in
    dite (ℕ_discrete y x)
    (λ same. subst (λ (q : ℕ). (t.rows q).live ≡ true) (sym same)
    (row_live e.hart (t.stacks e.hart) e.act (t.rows x) old (sym (ap (λ (r : Row). r.live) (put-here x r' t.rows y same)) ∙ l)))
    (λ ne. sym (ap (λ (r : Row). r.live) (put-there x r' t.rows y ne)) ∙ l)

kept_numbers : (t : TableState) (n : Numbering) (e : Entry) → begins e.act ≡ false → HasNumbers t n → HasNumbers (after t e) n
kept_numbers t n e old N = record {
  base = N.base;
  known = λ x l. N.known x (was_live t e old x l);
  apart = λ x y a b. N.apart x y (was_live t e old x a) (was_live t e old y b);
}

-- Site x, which isn't live, gets the number q, which no live site has.
module _ (t : TableState) (n : Numbering) (N : HasNumbers t n) (x q c : ℕ) (some : x ≢ 0) (dead : (t.rows x).live ≡ false) (r' : Row)
    (low : 1 ≤ q) (high : q ≤ c) (more : n.count ≤ c) (free : (y : ℕ) → (t.rows y).live ≡ true → n.number y ≢ q) where
  abbrev next : ℕ → ℕ
  next = put x q n.number

  pub next_here : next x ≡ q
  next_here = put-here x q n.number x refl

  pub next_there : (y : ℕ) → y ≢ x → next y ≡ n.number y
  next_there y ne = put-there x q n.number y ne

  next_base : next 0 ≡ 0
  next_base = next_there 0 (λ e. some (sym e)) ∙ N.base

  -- A place isn't the new site.
  pub next_place : (y : ℕ) → IsPlace t y → next y ≡ n.number y
  next_place y is = next_there y (λ e. ⊎_elim
      (λ (z : y ≡ 0). some (sym e ∙ z))
      (λ (l : (t.rows y).live ≡ true). true_false l (subst (λ (w : ℕ). (t.rows w).live ≡ false) (sym e) dead))
      is)

  pub old_live : (y : ℕ) → y ≢ x → (put x r' t.rows y).live ≡ true → (t.rows y).live ≡ true
  old_live y ne l = sym (ap (λ (r : Row). r.live) (put-there x r' t.rows y ne)) ∙ l

  next_known : (y : ℕ) → (put x r' t.rows y).live ≡ true → (1 ≤ next y) × (next y ≤ c)
  next_known y l = dite (ℕ_discrete y x)
      (λ e. let z : next y ≡ q = put-here x q n.number y e in (omega arith, omega arith))
      (λ ne. let z = next_there y ne in let k = N.known y (old_live y ne l) in let a = k.0 in let b = k.1 in (omega arith, omega arith))

  next_apart : (y w : ℕ) → (put x r' t.rows y).live ≡ true → (put x r' t.rows w).live ≡ true → next y ≡ next w → y ≡ w
  next_apart y w a b e = dite (ℕ_discrete y x)
      (λ yx. dite (ℕ_discrete w x)
      (λ wx. yx ∙ sym wx)
      (λ wn. absurd (free w (old_live w wn b) (sym (next_there w wn) ∙ (sym e ∙ put-here x q n.number y yx)))))
      (λ yn. dite (ℕ_discrete w x)
      (λ wx. absurd (free y (old_live y yn a) (sym (next_there y yn) ∙ (e ∙ put-here x q n.number w wx))))
      (λ wn. N.apart y w (old_live y yn a) (old_live w wn b) (sym (next_there y yn) ∙ (e ∙ next_there w wn))))

  pub new_numbers : (stacks : ℕ → List Post) → HasNumbers record { stacks = stacks; rows = put x r' t.rows } record { count = c; number = next }
  new_numbers stacks = record { base = next_base; known = next_known; apart = next_apart }

-- No live site has the next number.
pub next_free_number : (t : TableState) (n : Numbering) → HasNumbers t n → (y : ℕ) → (t.rows y).live ≡ true → n.number y ≢ n.count + 1
next_free_number t n N y l e = let k = (N.known y l).1 in absurd (omega arith)

-- The site of a Register is not the base, and not live.
pub fresh_site : (z : Size) (t : TableState) → Sound z t → (h x : ℕ) → Admits z t record { hart = h; act = Register x } → (x ≢ 0) × ((t.rows x).live ≡ false)
fresh_site z t S h x ok =
    let is : x ≡ slot z h (homes (t.stacks h)) = ok.1.1 in
    ((λ e. absurd (omega arith)), subst (λ (q : ℕ). (t.rows q).live ≡ false) (sym is) (next_free z t S h ok.0 ok.1.0))

-- Each entry keeps the numbers right.
pub numbers_after : (z : Size) (t : TableState) (n : Numbering) → Sound z t → (h : ℕ) (a : Act) → Admits z t record { hart = h; act = a } → HasNumbers t n
    → HasNumbers (after t record { hart = h; act = a }) (numbered a n)
numbers_after z t n S h (Register x) ok N =
    let f = fresh_site z t S h x ok in new_numbers t n N x (n.count + 1) (n.count + 1) f.0 f.1 _ (omega arith) (omega arith) (omega arith) (next_free_number t n N) _
numbers_after z t n S h (Request x k) ok N = kept_numbers t n record { hart = h; act = Request x k } refl N
numbers_after z t n S h (Withdraw x k) ok N = kept_numbers t n record { hart = h; act = Withdraw x k } refl N
numbers_after z t n S h (Enter x) ok N = kept_numbers t n record { hart = h; act = Enter x } refl N
numbers_after z t n S h (Yield x) ok N = kept_numbers t n record { hart = h; act = Yield x } refl N
numbers_after z t n S h (Close x) ok N = kept_numbers t n record { hart = h; act = Close x } refl N
numbers_after z t n S h (SeeEmpty x) ok N = kept_numbers t n record { hart = h; act = SeeEmpty x } refl N
numbers_after z t n S h (Unregister x) ok N = kept_numbers t n record { hart = h; act = Unregister x } refl N

-- ---- the parents that a run adds

-- The entries lead on by one more.
leads-snoc : (z : Size) (es : List Entry) (e : Entry) (t u : TableState) → Leads z t es u → Admits z u e → Leads z t (es ++ e ∷ []) (after u e)
leads-snoc z [] e t u l ok = (subst (λ (q : TableState). Admits z q e) (sym l) ok, ap (λ (q : TableState). after q e) l)
leads-snoc z (d ∷ es) e t u l ok = (l.0, leads-snoc z es e (after t d) u l.1 ok)

pub reaches-snoc : (z : Size) (es : List Entry) (e : Entry) (u : TableState) → Reaches z es u → Admits z u e → Reaches z (es ++ e ∷ []) (after u e)
reaches-snoc z es e u l ok = leads-snoc z es e _ u l ok

-- The number of a parent that is added later: the base, a site that isn't registered yet, or a live site.
abbrev pub IsLater : TableState → Numbering → ℕ → Type 0
IsLater t n q = (q ≡ 0) ⊎ ((n.count < q) ⊎ ((x : ℕ) × ((t.rows x).live ≡ true) × (n.number x ≡ q)))

-- Each parent in the list is such a number, and the one at index i at most the sites so far and i.
abbrev pub AreLater : TableState → Numbering → List ℕ → Type 0
AreLater t n qs = (i : ℕ) → i < length qs → IsLater t n (slice_index qs i) × (slice_index qs i ≤ n.count + i)

kept_later : (t : TableState) (n : Numbering) (e : Entry) → begins e.act ≡ false → (qs : List ℕ) → AreLater (after t e) n qs → AreLater t n qs
kept_later t n e old qs later i lt = let is = later i lt in (
  ⊎_elim
      (λ (b : slice_index qs i ≡ 0). inl b)
      (λ (m : (n.count < slice_index qs i) ⊎ ((x : ℕ) × (((after t e).rows x).live ≡ true) × (n.number x ≡ slice_index qs i))). ⊎_elim
      (λ (c : n.count < slice_index qs i). inr (inl c))
      (λ (l : (x : ℕ) × (((after t e).rows x).live ≡ true) × (n.number x ≡ slice_index qs i)). inr (inr (l.0, was_live t e old l.0 l.1, l.2)))
      m)
      is.0,
  is.1,
)

module _ (z : Size) (t : TableState) (n : Numbering) (N : HasNumbers t n) (h x : ℕ) (some : x ≢ 0) (dead : (t.rows x).live ≡ false) where
  -- What is added after a Register, seen before it.
  register_later : (q : ℕ) → IsLater (after t record { hart = h; act = Register x }) (numbered (Register x) n) q → IsLater t n q
  register_later q is = ⊎_elim
      (λ (b : q ≡ 0). inl b)
      (λ (m : (n.count + 1 < q) ⊎ ((y : ℕ) × ((put x (next_row h (t.stacks h) (Register x) (t.rows x)) t.rows y).live ≡ true) × (put x (n.count + 1) n.number y ≡ q))). ⊎_elim
      (λ (c : n.count + 1 < q). inr (inl (omega arith)))
      (λ (l : (y : ℕ) × ((put x (next_row h (t.stacks h) (Register x) (t.rows x)) t.rows y).live ≡ true) × (put x (n.count + 1) n.number y ≡ q)). dite (ℕ_discrete l.0 x)
      (λ e. let v : put x (n.count + 1) n.number l.0 ≡ n.count + 1 = put-here x (n.count + 1) n.number l.0 e in let w = l.2 in inr (inl (omega arith)))
      (λ ne. inr (inr (l.0, sym (ap (λ (r : Row). r.live) (put-there x (next_row h (t.stacks h) (Register x) (t.rows x)) t.rows l.0 ne)) ∙ l.1, sym (put-there x (n.count + 1) n.number l.0 ne) ∙ l.2))))
      m)
      is

  owner_later : IsPlace t (owner (t.stacks h)) → IsLater t n (n.number (owner (t.stacks h))) × (n.number (owner (t.stacks h)) ≤ n.count + 0)
  owner_later is = ⊎_elim
      (λ (b : owner (t.stacks h) ≡ 0). let v : n.number (owner (t.stacks h)) ≡ 0 = ap n.number b ∙ N.base in (inl v, omega arith))
      (λ (l : (t.rows (owner (t.stacks h))).live ≡ true). let k = (N.known (owner (t.stacks h)) l).1 in (inr (inr (owner (t.stacks h), l, refl)), omega arith))
      is

  new_later : IsPlace t (owner (t.stacks h)) → (qs : List ℕ) → AreLater (after t record { hart = h; act = Register x }) (numbered (Register x) n) qs → AreLater t n (n.number (owner (t.stacks h)) ∷ qs)
  new_later is qs later zero lt = owner_later is
  new_later is qs later (suc i) lt = let r = later i (omega arith) in let b = r.1 in (register_later (slice_index qs i) r.0, omega arith)

module _ (z : Size) (done : List Entry) (t : TableState) (n : Numbering) (reached : Reaches z done t) (N : HasNumbers t n) (h : ℕ) where
  later_after : (a : Act) → Admits z t record { hart = h; act = a } → (qs : List ℕ) → AreLater (after t record { hart = h; act = a }) (numbered a n) qs → AreLater t n (parents_in (t.stacks h) a n ++ qs)
  later_after (Register x) ok qs later =
      let f = fresh_site z t (reached_is_sound z done t reached) h x ok in
      new_later z t n N h x f.0 f.1 ((owners_are_places z done t reached).0 h ok.0) qs later
  later_after (Request x k) ok qs later = kept_later t n record { hart = h; act = Request x k } refl qs later
  later_after (Withdraw x k) ok qs later = kept_later t n record { hart = h; act = Withdraw x k } refl qs later
  later_after (Enter x) ok qs later = kept_later t n record { hart = h; act = Enter x } refl qs later
  later_after (Yield x) ok qs later = kept_later t n record { hart = h; act = Yield x } refl qs later
  later_after (Close x) ok qs later = kept_later t n record { hart = h; act = Close x } refl qs later
  later_after (SeeEmpty x) ok qs later = kept_later t n record { hart = h; act = SeeEmpty x } refl qs later
  later_after (Unregister x) ok qs later = kept_later t n record { hart = h; act = Unregister x } refl qs later

-- The parents that the entries add are such numbers.
pub all_later : (z : Size) (es done : List Entry) (t w : TableState) (n : Numbering) → Reaches z done t → Leads z t es w → HasNumbers t n → AreLater t n (parents_from t n es)
all_later z [] done t w n reached l N = λ i lt. absurd (omega arith)
all_later z (e ∷ es) done t w n reached l N =
    later_after z done t n reached N e.hart e.act l.0 (parents_from (after t e) (numbered e.act n) es)
    (all_later z es (done ++ e ∷ []) (after t e) w (numbered e.act n) (reaches-snoc z done e t reached l.0) l.1
    (numbers_after z t n (reached_is_sound z done t reached) e.hart e.act l.0 N))

-- Cells of which only the listed ones were touched.
use Rattle.std.proofs.Common.{◌≡◌, ℕ, zero, suc, ◌+◌, ◌<◌, ◌≤◌, Bool, true, false, List, [], ◌∷◌, ◌++◌, drop, length, replicate, refl, sym, ap, subst, ◌∙◌, ⊎_elim, arith, length-set, drop-cons, add-one}
use Rattle.std.specs.Prelude.{◌||◌, max, nat_eq, get_or, slice_set, slice_index_or}
use Rattle.std.proofs.lemmas.Bool.{cases_lt, false≢true}
use Rattle.std.proofs.lemmas.Bool.Decides.{nat_tests}
use Rattle.std.proofs.lemmas.List.{length-replicate, get_or-set_same, get_or-set_other}
use mathlib.Core.Logic.{dite}
use native.Mathlib.Decide.{ℕ_discrete}
use Rattle.pipe_walk.specs.declared.touch.Touch.{Touch}
use Rattle.pipe_walk.specs.declared.past.Past.{Past}
use Rattle.pipe_walk.specs.Inside.Members.{joined, untouched, touch_in}
use Rattle.pipe_walk.specs.Inside.Tables.{added, no_past, passed, past_in}
use Rattle.pipe_walk.specs.Inside.Cells.{CellParts, is_listed, IsBlankOutside, AreListed, AreCells, AreSettled, blank_cells}

-- ---- lists

pub anywhere : {A : Type 0} (n : ℕ) (x : A) (i : ℕ) → slice_index_or (replicate n x) i x ≡ x
anywhere zero x i = refl
anywhere (suc n) x zero = refl
anywhere (suc n) x (suc i) = anywhere n x i

-- A list that has the same at each index.
pub all_same : {A : Type 0} (xs : List A) (x : A) → ((i : ℕ) → slice_index_or xs i x ≡ x) → xs ≡ replicate (length xs) x
all_same [] x h = refl
all_same (y ∷ ys) x h = ap (λ z. z ∷ ys) (h 0) ∙ ap (λ zs. x ∷ zs) (all_same ys x (λ i. h (suc i)))

-- What holds of the new item and of the old one.
set_keeps : {A : Type 0} (P : A → Type 0) (xs : List A) (i j : ℕ) (x d : A) → P x → P (slice_index_or xs j d) → P (slice_index_or (slice_set xs i x) j d)
set_keeps P [] i j x d new old = old
set_keeps P (y ∷ ys) zero zero x d new old = new
set_keeps P (y ∷ ys) zero (suc j) x d new old = old
set_keeps P (y ∷ ys) (suc i) zero x d new old = old
set_keeps P (y ∷ ys) (suc i) (suc j) x d new old = set_keeps P ys i j x d new old

-- An item that also stands for those after the end.
set_blank : {A : Type 0} (xs : List A) (i : ℕ) (d : A) → slice_index_or (slice_set xs i d) i d ≡ d
set_blank [] i d = refl
set_blank (y ∷ ys) zero d = refl
set_blank (y ∷ ys) (suc i) d = set_blank ys i d

-- After the end nothing is set.
set_after : {A : Type 0} (xs : List A) (i : ℕ) (x : A) → length xs ≤ i → slice_set xs i x ≡ xs
set_after [] i x h = refl
set_after (y ∷ ys) zero x h = absurd (omega arith)
set_after (y ∷ ys) (suc i) x h = ap (λ zs. y ∷ zs) (set_after ys i x (omega arith))

-- ---- the list of touched cells

-- A cell outside a longer list.
listed_first : (first : ℕ) (more : List ℕ) (cell : ℕ) → is_listed (first ∷ more) cell ≡ false → (is_listed more cell ≡ false) × (cell ≡ first → ⊥)
listed_first first more cell e = cases (nat_eq first cell) refl e
  where
    cases : (b : Bool) → nat_eq first cell ≡ b → (b || is_listed more cell) ≡ false → (is_listed more cell ≡ false) × (cell ≡ first → ⊥)
    cases true same f = absurd (false≢true (sym f))
    cases false other f = (f, λ same. false≢true (sym other ∙ (let yes' : nat_eq first cell ≡ true = grind (arith, nat_tests) in yes')))

pub listed_last : (listed : List ℕ) (last cell : ℕ) → is_listed (listed ++ last ∷ []) cell ≡ false → (is_listed listed cell ≡ false) × (cell ≡ last → ⊥)
listed_last [] last cell e = (refl, (listed_first last [] cell e).1)
listed_last (first ∷ more) last cell e = cases (nat_eq first cell) e (λ f. listed_last more last cell f)
  where
    cases : (b : Bool) → (b || is_listed (more ++ last ∷ []) cell) ≡ false
        → (is_listed (more ++ last ∷ []) cell ≡ false → (is_listed more cell ≡ false) × (cell ≡ last → ⊥))
        → ((b || is_listed more cell) ≡ false) × (cell ≡ last → ⊥)
    cases true f rest = absurd (false≢true (sym f))
    cases false f rest = rest f

-- Outside what is left after an item, but for the item.
left_but_one : (listed : List ℕ) (i d cell : ℕ) → i < length listed → is_listed (drop (i + 1) listed) cell ≡ false → (cell ≡ get_or listed i d → ⊥) → is_listed (drop i listed) cell ≡ false
left_but_one listed i d cell small e other =
    ap (λ left. is_listed left cell) (drop-cons listed i d small)
    ∙ cases (nat_eq (get_or listed i d) cell) refl
  where
    rest : is_listed (drop (suc i) listed) cell ≡ false
    rest = rw add-one at e

    cases : (b : Bool) → nat_eq (get_or listed i d) cell ≡ b → (b || is_listed (drop (suc i) listed) cell) ≡ false
    cases true same = absurd (other (grind (arith, nat_tests)))
    cases false no' = rest

none_left : (listed : List ℕ) (i cell : ℕ) → length listed ≤ i → is_listed (drop i listed) cell ≡ false
none_left [] zero cell h = refl
none_left [] (suc i) cell h = refl
none_left (first ∷ more) zero cell h = absurd (omega arith)
none_left (first ∷ more) (suc i) cell h = none_left more i cell (omega arith)

-- ---- touches and pasts

max_none : (n : ℕ) → max n (max 0 0) ≡ n
max_none n = omega arith

max_nothing : (n : ℕ) → max n 0 ≡ n
max_nothing n = omega arith

or_none : (b : Bool) → (b || (false || false)) ≡ b
or_none true = refl
or_none false = refl

-- A phase without a touch.
pub passed_none : (p : Past) → passed p untouched ≡ p
passed_none p =
    ap (λ n. past_of n (max p.changer 0) (p.crossed || (false || false))) (max_none p.toucher)
    ∙ ap (λ n. past_of p.toucher n (p.crossed || (false || false))) (max_nothing p.changer)
    ∙ ap (past_of p.toucher p.changer) (or_none p.crossed)
  where
    past_of : ℕ → ℕ → Bool → Past
    past_of toucher changer crossed = record { toucher = toucher; changer = changer; crossed = crossed }

-- ---- the cells

-- What is known of new cells.
pub cells_new : (n : ℕ) → AreCells (record { touches = replicate n untouched; past = replicate n no_past; listed = []; crossed = false })
cells_new n = record {
  size = length-replicate n untouched ∙ sym (length-replicate n no_past);
  noted = λ clear cell. ap (λ (p : Past). p.crossed) (anywhere n no_past cell);
}

-- Of all cells that were cleared.
pub cells_cleared : (c : CellParts) → AreCells c → AreCells (blank_cells c)
cells_cleared c is = record {
  size = length-replicate (length c.touches) untouched ∙ is.size ∙ sym (length-replicate (length c.past) no_past);
  noted = λ clear cell. ap (λ (p : Past). p.crossed) (anywhere (length c.past) no_past cell);
}

or_parts : (a b : Bool) → (a || b) ≡ false → (a ≡ false) × (b ≡ false)
or_parts true b e = absurd (false≢true (sym e))
or_parts false b e = (refl, e)

-- And of cells where one has another past.
pub cells_passed : (c : CellParts) (i : ℕ) (p : Past) → AreCells c → AreCells (record c { past = slice_set c.past i p; crossed = c.crossed || p.crossed })
cells_passed c i p is = record {
  size = is.size ∙ sym (length-set c.past i p);
  noted = λ clear cell. let both = or_parts c.crossed p.crossed clear in
      set_keeps (λ (q : Past). q.crossed ≡ false) c.past i cell p no_past both.1 (is.noted both.0 cell);
}

-- Of cells where one has another touch.
pub cells_touched : (c : CellParts) (i : ℕ) (t : Touch) (listed : List ℕ) → AreCells c → AreCells (record c { touches = slice_set c.touches i t; listed = listed })
cells_touched c i t listed is = record { size = length-set c.touches i t ∙ is.size; noted = is.noted }

-- Of cells without a touch.
pub cells_untouched : (c : CellParts) → AreCells c → AreCells (record c { touches = replicate (length c.touches) untouched })
cells_untouched c is = record { size = length-replicate (length c.touches) untouched ∙ is.size; noted = is.noted }

-- And of cells where one has no past.
pub cells_fresh : (c : CellParts) (i j : ℕ) (t : Touch) → AreCells c → AreCells (record c { touches = slice_set c.touches j t; past = slice_set c.past i no_past })
cells_fresh c i j t is = record {
  size = length-set c.touches j t ∙ is.size ∙ sym (length-set c.past i no_past);
  noted = λ clear cell. set_keeps (λ (q : Past). q.crossed ≡ false) c.past i cell no_past no_past refl (is.noted clear cell);
}

-- ---- one more touch

-- Of a cell that has one.
pub touch_again : (c : CellParts) (cell : ℕ) (more : Touch) → (touch_in c.touches cell ≡ untouched → ⊥) → AreListed c → AreListed (record c { touches = added cell more c.touches })
touch_again c cell more has are k out = dite (ℕ_discrete k cell)
    (λ same. absurd (has (let P : ℕ → Type 0 = λ n. touch_in c.touches n ≡ untouched in subst P same (are k out).0)))
    (λ other. (get_or-set_other c.touches cell k (joined more (touch_in c.touches cell)) untouched other ∙ (are k out).0, (are k out).1))

-- Of a cell that is listed now.
pub touch_first : (c : CellParts) (cell : ℕ) (more : Touch) → AreListed c → AreListed (record c { touches = added cell more c.touches; listed = c.listed ++ cell ∷ [] })
touch_first c cell more are k out =
    let before = listed_last c.listed cell k out in
    (get_or-set_other c.touches cell k (joined more (touch_in c.touches cell)) untouched before.1 ∙ (are k before.0).0, (are k before.0).1)

-- ---- the end of a phase in which only listed cells were touched

-- What is kept as the listed cells below an index have joined their past: what is left to join gives the same.
pub record IsJoining (before now : CellParts) (i : ℕ) : Type 0 where
  pub listed : now.listed ≡ before.listed
  pub size : length now.touches ≡ length before.touches
  pub places : length now.past ≡ length before.past
  pub blank : (c : ℕ) → is_listed (drop i before.listed) c ≡ false → touch_in now.touches c ≡ untouched
  pub same : (c : ℕ) → passed (past_in now.past c) (touch_in now.touches c) ≡ passed (past_in before.past c) (touch_in before.touches c)

pub joining_none : (c : CellParts) → AreListed c → IsJoining c c 0
joining_none c are = record { listed = refl; size = refl; places = refl; blank = λ k out. (are k out).0; same = λ k. refl }

abbrev pub joined_one : CellParts → ℕ → CellParts
joined_one c k = record {
  touches = slice_set c.touches k untouched;
  past = slice_set c.past k (passed (past_in c.past k) (touch_in c.touches k));
  listed = c.listed;
  crossed = c.crossed || (passed (past_in c.past k) (touch_in c.touches k)).crossed;
}

-- What is left to join stays the same, at the cell itself and at others.
joined_same : (c : CellParts) (k cell : ℕ) → length c.touches ≡ length c.past →
    passed (past_in (joined_one c k).past cell) (touch_in (joined_one c k).touches cell) ≡ passed (past_in c.past cell) (touch_in c.touches cell)
joined_same c k cell size = dite (ℕ_discrete cell k)
    (λ e. let P : ℕ → Type 0 = λ n. passed (past_in (joined_one c k).past n) (touch_in (joined_one c k).touches n) ≡ passed (past_in c.past n) (touch_in c.touches n) in
    subst P (sym e) (⊎_elim here after (cases_lt k (length c.past))))
    (λ n. ap (λ p. passed p (touch_in (joined_one c k).touches cell)) (get_or-set_other c.past k cell (passed (past_in c.past k) (touch_in c.touches k)) no_past n)
    ∙ ap (passed (past_in c.past cell)) (get_or-set_other c.touches k cell untouched untouched n))
  where
    own : Past
    own = passed (past_in c.past k) (touch_in c.touches k)

    here : k < length c.past → passed (past_in (slice_set c.past k own) k) (touch_in (slice_set c.touches k untouched) k) ≡ own
    here small =
        ap (λ p. passed p (touch_in (slice_set c.touches k untouched) k)) (get_or-set_same c.past k own no_past small)
        ∙ ap (passed own) (set_blank c.touches k untouched)
        ∙ passed_none own

    after : length c.past ≤ k → passed (past_in (slice_set c.past k own) k) (touch_in (slice_set c.touches k untouched) k) ≡ own
    after high =
        ap (λ ps. passed (past_in ps k) (touch_in (slice_set c.touches k untouched) k)) (set_after c.past k own high)
        ∙ ap (λ ts. passed (past_in c.past k) (touch_in ts k)) (set_after c.touches k untouched (omega arith))

pub joining_more : (before now : CellParts) (i d : ℕ) → AreCells now → i < length before.listed → IsJoining before now i →
    IsJoining before (joined_one now (get_or before.listed i d)) (i + 1)
joining_more before now i d is small h =
    let k = get_or before.listed i d in
    record {
      listed = h.listed;
      size = length-set now.touches k untouched ∙ h.size;
      places = length-set now.past k (passed (past_in now.past k) (touch_in now.touches k)) ∙ h.places;
      blank = λ c out. dite (ℕ_discrete c k)
          (λ e. let P : ℕ → Type 0 = λ n. touch_in (slice_set now.touches k untouched) n ≡ untouched in subst P (sym e) (set_blank now.touches k untouched))
          (λ n. get_or-set_other now.touches k c untouched untouched n ∙ h.blank c (left_but_one before.listed i d c small out n));
      same = λ c. joined_same now k c is.size ∙ h.same c;
    }

pub joining_all : (before now : CellParts) (i : ℕ) → AreListed before → length before.listed ≤ i → IsJoining before now i →
    AreSettled before now (λ cell. touch_in before.touches cell) × AreListed now
joining_all before now i are all h = (
  record {
    touches = all_same now.touches untouched blank ∙ ap (λ n. replicate n untouched) h.size;
    places = h.places;
    past = λ c small. past_is c;
  },
  λ c out. let was = are c (let P : List ℕ → Type 0 = λ listed. is_listed listed c ≡ false in subst P h.listed out) in
      (blank c, past_is c ∙ ap (λ p. passed p (touch_in before.touches c)) was.1 ∙ ap (passed no_past) was.0 ∙ passed_none no_past),
)
  where
    blank : (c : ℕ) → touch_in now.touches c ≡ untouched
    blank c = h.blank c (none_left before.listed i c all)

    past_is : (c : ℕ) → past_in now.past c ≡ passed (past_in before.past c) (touch_in before.touches c)
    past_is c = sym (passed_none (past_in now.past c)) ∙ ap (passed (past_in now.past c)) (sym (blank c)) ∙ h.same c

-- ---- a new construct, after one that touched only listed cells

-- What is kept as the listed cells below an index are cleared.
pub record IsClearing (before now : CellParts) (i : ℕ) : Type 0 where
  pub listed : now.listed ≡ before.listed
  pub size : length now.touches ≡ length before.touches
  pub places : length now.past ≡ length before.past
  pub blank : IsBlankOutside (drop i before.listed) now.touches now.past

pub clearing_none : (c : CellParts) → AreListed c → IsClearing c c 0
clearing_none c are = record { listed = refl; size = refl; places = refl; blank = are }

pub clearing_more : (before now : CellParts) (i d : ℕ) → i < length before.listed → IsClearing before now i →
    IsClearing before (record now { touches = slice_set now.touches (get_or before.listed i d) untouched; past = slice_set now.past (get_or before.listed i d) no_past }) (i + 1)
clearing_more before now i d small h =
    let k = get_or before.listed i d in
    record {
      listed = h.listed;
      size = length-set now.touches k untouched ∙ h.size;
      places = length-set now.past k no_past ∙ h.places;
      blank = λ c out. dite (ℕ_discrete c k)
          (λ e. let P : ℕ → Type 0 = λ n. (touch_in (slice_set now.touches k untouched) n ≡ untouched) × (past_in (slice_set now.past k no_past) n ≡ no_past) in
          subst P (sym e) (set_blank now.touches k untouched, set_blank now.past k no_past))
          (λ n. let was = h.blank c (left_but_one before.listed i d c small out n) in
          (get_or-set_other now.touches k c untouched untouched n ∙ was.0, get_or-set_other now.past k c no_past no_past n ∙ was.1));
    }

pub clearing_all : (before now : CellParts) (i : ℕ) → length before.listed ≤ i → IsClearing before now i →
    record { touches = now.touches; past = now.past; listed = []; crossed = false } ≡ blank_cells before
clearing_all before now i all h =
    let blank : (c : ℕ) → (touch_in now.touches c ≡ untouched) × (past_in now.past c ≡ no_past) = λ c. h.blank c (none_left before.listed i c all) in
    let touches = all_same now.touches untouched (λ c. (blank c).0) ∙ ap (λ n. replicate n untouched) h.size in
    let past = all_same now.past no_past (λ c. (blank c).1) ∙ ap (λ n. replicate n no_past) h.places in
    λ k. record { touches = touches k; past = past k; listed = []; crossed = false }

-- ---- the end of a phase in which any cell may have been touched

-- What is kept as the cells below an index have joined their past.
pub record IsSettling (before now : CellParts) (touch : ℕ → Touch) (i : ℕ) : Type 0 where
  pub touches : now.touches ≡ before.touches
  pub places : length now.past ≡ length before.past
  pub done : (c : ℕ) → c < i → c < length before.past → past_in now.past c ≡ passed (past_in before.past c) (touch c)
  pub rest : (c : ℕ) → i ≤ c → past_in now.past c ≡ past_in before.past c

pub settling_none : (c : CellParts) (touch : ℕ → Touch) → IsSettling c c touch 0
settling_none c touch = record { touches = refl; places = refl; done = λ k less. absurd (omega arith); rest = λ k above. refl }

pub settling_more : (before now : CellParts) (touch : ℕ → Touch) (i : ℕ) → IsSettling before now touch i → i < length before.past →
    (crossed : Bool) → IsSettling before (record now { past = slice_set now.past i (passed (past_in now.past i) (touch i)); crossed = crossed }) touch (i + 1)
settling_more before now touch i h small crossed =
    let own = passed (past_in now.past i) (touch i) in
    let own_is : own ≡ passed (past_in before.past i) (touch i) = ap (λ (p : Past). passed p (touch i)) (h.rest i (omega arith)) in
    record {
      touches = h.touches;
      places = length-set now.past i own ∙ h.places;
      done = λ c less there. ⊎_elim
          (λ l. get_or-set_other now.past i c own no_past (λ e. absurd (omega arith)) ∙ h.done c l there)
          (λ l. let is : c ≡ i = omega arith in
          ap (λ k. past_in (slice_set now.past k own) c) (sym is)
          ∙ get_or-set_same now.past c own no_past (let e = h.places in omega arith)
          ∙ own_is
          ∙ ap (λ k. passed (past_in before.past k) (touch k)) (sym is))
          (cases_lt c i);
      rest = λ c above. get_or-set_other now.past i c own no_past (λ e. absurd (omega arith)) ∙ h.rest c (omega arith);
    }

-- How the count of children that aren't gone changes with a row.
use Rattle.std.proofs.Common.{◌≡◌, ◌≢◌, ℕ, zero, suc, ◌+◌, ◌-◌, ◌<◌, ◌≤◌, Bool, true, false, not, ◌&&◌, ◌==◌, if◌then◌else◌, eq-eqb, ne_eqb, List, [], ◌∷◌, length, get_or, set, replicate, drop, refl, sym, ap, subst, ◌∙◌, add-one, arith, slice_index, slice_index_or, slice_set, Some, None, length-set, get_or-set_same, get_or-set_other}
use Rattle.std.proofs.lemmas.List.{length-replicate}
use mathlib.Core.Logic.{dite}
use native.Mathlib.Decide.{ℕ_discrete}
use mir.Val.{bool_byte}
use Rattle.transfer_table.specs.declared.entry.Row.{Row}
use Rattle.transfer_table.specs.declared.entry.Stage.TheVariants.{Gone}
use Rattle.transfer_table.specs.Plan.{Plan, IsPlan, site_count, parent}
use Rattle.transfer_table.specs.Table.{Position, first_state, least_left, is_gone, blank, swept_row}
use Rattle.transfer_table.specs.Board.{IsBoard, IsCount, AreEnds, count_left}
use Rattle.transfer_table.proofs.Lists.{any_default, replicate_at}

-- A row that is gone iff the old one is keeps the count.
pub count_left-set_same : (qs : List ℕ) (rs : List Row) (s i : ℕ) (r d : Row) → is_gone r.stage ≡ is_gone (get_or rs i d).stage → count_left qs (set rs i r) s ≡ count_left qs rs s
count_left-set_same [] rs s i r d e = refl
count_left-set_same (q ∷ qs) [] s i r d e = refl
count_left-set_same (q ∷ qs) (x ∷ rs) s zero r d e = rw e refl
count_left-set_same (q ∷ qs) (x ∷ rs) s (suc i) r d e = rw (count_left-set_same qs rs s i r d e) refl

-- If the count is 0, the scan finds no child.
pub none_left : (qs : List ℕ) (rs : List Row) (s k : ℕ) → count_left qs rs s ≡ 0 → least_left qs rs s k ≡ None
none_left [] rs s k e = refl
none_left (q ∷ qs) [] s k e = refl
none_left (q ∷ qs) (r ∷ rs) s k e = split ((q == s) && not (is_gone r.stage)) (none_left qs rs s (k + 1)) e
  where
    split : (b : Bool) → (count_left qs rs s ≡ 0 → least_left qs rs s (k + 1) ≡ None) → (if b then 1 + count_left qs rs s else count_left qs rs s) ≡ 0 → (if b then Some k else least_left qs rs s (k + 1)) ≡ None
    split true again f = absurd (omega arith)
    split false again f = again f

-- A child that isn't gone is counted. Once it is gone, the count is one less.
pub count_left-set_gone : (qs : List ℕ) (rs : List Row) (i : ℕ) (r d : Row) → i < length qs → i < length rs → is_gone (get_or rs i d).stage ≡ false → is_gone r.stage ≡ true
    → count_left qs rs (get_or qs i 0) ≡ count_left qs (set rs i r) (get_or qs i 0) + 1
count_left-set_gone [] rs i r d a b e f = absurd (omega arith)
count_left-set_gone (q ∷ qs) [] i r d a b e f = absurd (omega arith)
count_left-set_gone (q ∷ qs) (x ∷ rs) zero r d a b e f = rw (eq-eqb q q refl, e, f) (omega arith)
count_left-set_gone (q ∷ qs) (x ∷ rs) (suc i) r d a b e f = more _ _ ((q == get_or qs i 0) && not (is_gone x.stage)) (count_left-set_gone qs rs i r d (omega arith) (omega arith) e f)
  where
    more : (m n : ℕ) (c : Bool) → m ≡ n + 1 → (if c then 1 + m else m) ≡ (if c then 1 + n else n) + 1
    more m n true g = omega arith
    more m n false g = g

-- Another site's count stays.
pub count_left-set_other : (qs : List ℕ) (rs : List Row) (s i : ℕ) (r : Row) → get_or qs i 0 ≢ s → count_left qs (set rs i r) s ≡ count_left qs rs s
count_left-set_other [] rs s i r n = refl
count_left-set_other (q ∷ qs) [] s i r n = refl
count_left-set_other (q ∷ qs) (x ∷ rs) s zero r n = rw (ne_eqb q s n) refl
count_left-set_other (q ∷ qs) (x ∷ rs) s (suc i) r n = rw (count_left-set_other qs rs s i r n) refl

-- A property of every row holds after a replacement, if the new row has it.
pub get_or-set_keeps : (P : Row → Type 0) (rs : List Row) (i j : ℕ) (r d : Row) → P r → P (get_or rs j d) → P (get_or (set rs i r) j d)
get_or-set_keeps P [] i j r d new old = old
get_or-set_keeps P (x ∷ xs) zero zero r d new old = new
get_or-set_keeps P (x ∷ xs) zero (suc j) r d new old = old
get_or-set_keeps P (x ∷ xs) (suc i) zero r d new old = old
get_or-set_keeps P (x ∷ xs) (suc i) (suc j) r d new old = get_or-set_keeps P xs i j r d new old

-- A board stays a board if a row gets a new home or new wishes.
pub board-row : {ends : List ℕ} (b : Position) (counts : List ℕ) (h o i : ℕ) (r : Row) → IsBoard b counts ends → is_gone r.stage ≡ is_gone (slice_index_or b.state.rows i blank).stage → r.wishes ≤ r.asked
    → IsBoard record { plan = b.plan; state = record { owners = slice_set b.state.owners h o; rows = slice_set b.state.rows i r } } counts ends
board-row b counts h o i r is same few = record {
  position = record { plan = is.position.plan; owners = length-set b.state.owners h o ∙ is.position.owners; rows = length-set b.state.rows i r ∙ is.position.rows };
  wished = λ s. get_or-set_keeps (λ x. x.wishes ≤ x.asked) b.state.rows i (s - 1) r blank few (is.wished s);
  left = record { size = is.left.size; counted = λ s high. is.left.counted s high ∙ sym (count_left-set_same b.plan.parents b.state.rows s i r blank same) };
  bounds = is.bounds;
}

-- The same for new wishes alone, with the owners unchanged.
pub board-wishes : {ends : List ℕ} (b : Position) (counts : List ℕ) (i : ℕ) (r : Row) → IsBoard b counts ends → is_gone r.stage ≡ is_gone (slice_index_or b.state.rows i blank).stage → r.wishes ≤ r.asked
    → IsBoard record { plan = b.plan; state = record { owners = b.state.owners; rows = slice_set b.state.rows i r } } counts ends
board-wishes b counts i r is same few = record {
  position = record { plan = is.position.plan; owners = is.position.owners; rows = length-set b.state.rows i r ∙ is.position.rows };
  wished = λ s. get_or-set_keeps (λ x. x.wishes ≤ x.asked) b.state.rows i (s - 1) r blank few (is.wished s);
  left = record { size = is.left.size; counted = λ s high. is.left.counted s high ∙ sym (count_left-set_same b.plan.parents b.state.rows s i r blank same) };
  bounds = is.bounds;
}

small_parent : (p : Plan) → IsPlan p → (i : ℕ) → i < site_count p → slice_index p.parents i ≤ site_count p
small_parent p is i lt = let b = is.below (i + 1) (omega arith) (omega arith) in let e : i + 1 - 1 ≡ i = omega arith in let c = ap (slice_index p.parents) e in omega arith

-- How much a row counts.
abbrev pub counts_for : Row → ℕ
counts_for r = if is_gone r.stage then 0 else 1

-- The parent's count is at least what one row counts.
pub counted_once : {ends : List ℕ} (b : Position) (counts : List ℕ) (i : ℕ) → IsBoard b counts ends → i < site_count b.plan → counts_for (slice_index_or b.state.rows i blank) ≤ slice_index counts (slice_index b.plan.parents i)
counted_once b counts i is lt = split (is_gone (slice_index_or b.state.rows i blank).stage) refl
  where
    split : (g : Bool) → is_gone (slice_index_or b.state.rows i blank).stage ≡ g → (if g then 0 else 1) ≤ slice_index counts (slice_index b.plan.parents i)
    split true e = omega arith
    split false e = let z = is.position.rows in let gone : Row = record blank { stage = Gone } in
        let a = count_left-set_gone b.plan.parents b.state.rows i gone blank lt (omega arith) e refl in
        let bound = small_parent b.plan is.position.plan i lt in
        let k = is.left.counted (slice_index b.plan.parents i) (omega arith) in omega arith

-- A board stays a board if a row becomes gone and its parent's count falls by what the row counted.
pub board-gone : {ends : List ℕ} (b : Position) (counts os : List ℕ) (i n : ℕ) (r : Row) → IsBoard b counts ends → length os ≡ b.plan.harts → i < site_count b.plan → is_gone r.stage ≡ true → r.wishes ≤ r.asked → n ≡ counts_for (slice_index_or b.state.rows i blank)
    → IsBoard record { plan = b.plan; state = record { owners = os; rows = slice_set b.state.rows i r } } (slice_set counts (slice_index b.plan.parents i) (slice_index counts (slice_index b.plan.parents i) - n)) ends
board-gone b counts os i n r is size lt gone few here = record {
  position = record { plan = is.position.plan; owners = size; rows = length-set b.state.rows i r ∙ is.position.rows };
  wished = λ s. get_or-set_keeps (λ x. x.wishes ≤ x.asked) b.state.rows i (s - 1) r blank few (is.wished s);
  left = record {
    size = length-set counts (slice_index b.plan.parents i) (slice_index counts (slice_index b.plan.parents i) - n) ∙ is.left.size;
    counted = λ s high. dite (ℕ_discrete (slice_index b.plan.parents i) s)
        (λ e. let P : ℕ → Type 0 = λ x. slice_index (slice_set counts (slice_index b.plan.parents i) (slice_index counts (slice_index b.plan.parents i) - n)) x ≡ count_left b.plan.parents (slice_set b.state.rows i r) x in subst P e (get_or-set_same counts (slice_index b.plan.parents i) (slice_index counts (slice_index b.plan.parents i) - n) 0 (let z = is.left.size in let bound = small_parent b.plan is.position.plan i lt in omega arith) ∙ falls (is_gone (slice_index_or b.state.rows i blank).stage) refl))
        (λ m. get_or-set_other counts (slice_index b.plan.parents i) s (slice_index counts (slice_index b.plan.parents i) - n) 0 (λ e. m (sym e)) ∙ is.left.counted s high ∙ sym (count_left-set_other b.plan.parents b.state.rows s i r m));
  };
  bounds = is.bounds;
}
  where
    falls : (g : Bool) → is_gone (slice_index_or b.state.rows i blank).stage ≡ g → slice_index counts (slice_index b.plan.parents i) - n ≡ count_left b.plan.parents (slice_set b.state.rows i r) (slice_index b.plan.parents i)
    falls true e = let n0 : n ≡ 0 = here ∙ ap (λ (x : Bool). if x then 0 else 1) e in let k = is.left.counted (slice_index b.plan.parents i) (small_parent b.plan is.position.plan i lt) in
        let same = count_left-set_same b.plan.parents b.state.rows (slice_index b.plan.parents i) i r blank (gone ∙ sym e) in omega arith
    falls false e = let n1 : n ≡ 1 = here ∙ ap (λ (x : Bool). if x then 0 else 1) e in let k = is.left.counted (slice_index b.plan.parents i) (small_parent b.plan is.position.plan i lt) in let z = is.position.rows in
        let a = count_left-set_gone b.plan.parents b.state.rows i r blank lt (omega arith) e gone in omega arith

-- What was read at an index of the rows is the row there.
pub row_read : {ends : List ℕ} (b : Position) (counts : List ℕ) (i : ℕ) (r : Row) → IsBoard b counts ends → i < site_count b.plan → r ≡ slice_index_or b.state.rows i r → r ≡ slice_index_or b.state.rows i blank
row_read b counts i r is lt read = read ∙ any_default b.state.rows i r blank (let z = is.position.rows in omega arith)

-- What was read at an index of the counts is the count there.
pub count_read : {ends : List ℕ} (b : Position) (counts : List ℕ) (s n : ℕ) → IsBoard b counts ends → s ≤ site_count b.plan → n ≡ slice_index_or counts s n → n ≡ count_left b.plan.parents b.state.rows s
count_read b counts s n is high read = read ∙ any_default counts s n 0 (let z = is.left.size in omega arith) ∙ is.left.counted s high

-- What was read at the index of a site's parent is the parent's count.
pub start_read : {ends : List ℕ} (b : Position) (counts : List ℕ) (i n : ℕ) → IsBoard b counts ends → i < site_count b.plan → n ≡ slice_index_or counts (slice_index b.plan.parents i) n → n ≡ slice_index counts (slice_index b.plan.parents i)
start_read b counts i n is lt read = read ∙ any_default counts (slice_index b.plan.parents i) n 0 (let z = is.left.size in let bound = small_parent b.plan is.position.plan i lt in omega arith)

byte_for : (g : Bool) → bool_byte (not g) ≡ (if g then 0 else 1)
byte_for true = refl
byte_for false = refl

-- A board when a site becomes gone: r, q, k, g and n are what the code reads, r' is the new row.
pub board-ends : {ends : List ℕ} (b : Position) (counts os : List ℕ) (x q k n : ℕ) (g : Bool) (r r' : Row) → IsBoard b counts ends → length os ≡ b.plan.harts → 1 ≤ x → x ≤ site_count b.plan
    → r ≡ slice_index_or b.state.rows (x - 1) r → q ≡ parent b.plan x → k ≡ slice_index_or counts q k → g ≡ is_gone r.stage → n ≡ bool_byte (not g)
    → is_gone r'.stage ≡ true → r'.wishes ≡ r.wishes → r'.asked ≡ r.asked
    → (n ≤ k) × IsBoard record { plan = b.plan; state = record { owners = os; rows = slice_set b.state.rows (x - 1) r' } } (slice_set counts q (k - n)) ends
board-ends {ends = ends} b counts os x q k n g r r' is size low high read_row read_parent read_count read_stage read_byte gone wishes asked =
    let lt : x - 1 < site_count b.plan = omega arith in
    let here = row_read b counts (x - 1) r is lt read_row in
    let same : n ≡ counts_for (slice_index_or b.state.rows (x - 1) blank) = read_byte ∙ (byte_for g ∙ (ap (λ (y : Bool). if y then 0 else 1) read_stage ∙ ap counts_for here)) in
    let P : ℕ → Type 0 = λ y. k ≡ slice_index_or counts y k in
    let start = start_read b counts (x - 1) k is lt (subst P read_parent read_count) in
    let once = counted_once b counts (x - 1) is lt in
    let few : r.wishes ≤ r.asked = subst (λ (y : Row). y.wishes ≤ y.asked) (sym here) (is.wished x) in
    let Q : ℕ × ℕ → Type 0 = λ y. IsBoard record { plan = b.plan; state = record { owners = os; rows = slice_set b.state.rows (x - 1) r' } } (slice_set counts y.0 (y.1 - n)) ends in
    (omega arith, subst Q (λ i. (sym read_parent i, sym start i)) (board-gone b counts os (x - 1) n r' is size lt gone (omega arith) same))

-- The same for an unregister.
pub board-unregister : {ends : List ℕ} (b : Position) (counts : List ℕ) (h x q k n : ℕ) (g : Bool) (r : Row) → IsBoard b counts ends → 1 ≤ x → x ≤ site_count b.plan
    → r ≡ slice_index_or b.state.rows (x - 1) r → q ≡ parent b.plan x → k ≡ slice_index_or counts q k → g ≡ is_gone r.stage → n ≡ bool_byte (not g)
    → (n ≤ k) × IsBoard record { plan = b.plan; state = record { owners = slice_set b.state.owners h q; rows = slice_set b.state.rows (x - 1) record r { stage = Gone } } } (slice_set counts q (k - n)) ends
board-unregister b counts h x q k n g r is low high read_row read_parent read_count read_stage read_byte =
    board-ends b counts (slice_set b.state.owners h q) x q k n g r (record r { stage = Gone }) is (length-set b.state.owners h q ∙ is.position.owners) low high read_row read_parent read_count read_stage read_byte refl refl refl

-- The same for a site that is marked as gone by a skip.
pub board-swept : {ends : List ℕ} (b : Position) (counts : List ℕ) (x q k n : ℕ) (g : Bool) (r : Row) → IsBoard b counts ends → 1 ≤ x → x ≤ site_count b.plan
    → r ≡ slice_index_or b.state.rows (x - 1) r → q ≡ parent b.plan x → k ≡ slice_index_or counts q k → g ≡ is_gone r.stage → n ≡ bool_byte (not g)
    → (n ≤ k) × IsBoard record { plan = b.plan; state = record { owners = b.state.owners; rows = slice_set b.state.rows (x - 1) (swept_row r) } } (slice_set counts q (k - n)) ends
board-swept b counts x q k n g r is low high read_row read_parent read_count read_stage read_byte =
    board-ends b counts b.state.owners x q k n g r (swept_row r) is is.position.owners low high read_row read_parent read_count read_stage read_byte refl refl refl

-- The number of parents that are s.
abbrev pub children : List ℕ → ℕ → ℕ
children [] s = 0
children (q ∷ qs) s = if q == s then 1 + children qs s else children qs s

-- If all rows are blank, each child is counted.
pub count_left-blank : (qs : List ℕ) (s : ℕ) → count_left qs (replicate (length qs) blank) s ≡ children qs s
count_left-blank [] s = refl
count_left-blank (q ∷ qs) s = split (q == s) (count_left-blank qs s)
  where
    split : (b : Bool) → count_left qs (replicate (length qs) blank) s ≡ children qs s → (if (b && true) then 1 + count_left qs (replicate (length qs) blank) s else count_left qs (replicate (length qs) blank) s) ≡ (if b then 1 + children qs s else children qs s)
    split true e = ap (λ (x : ℕ). 1 + x) e
    split false e = e

children-drop : (qs : List ℕ) (i s : ℕ) → i < length qs → children (drop i qs) s ≡ (if get_or qs i 0 == s then 1 + children (drop (suc i) qs) s else children (drop (suc i) qs) s)
children-drop [] i s lt = absurd (omega arith)
children-drop (q ∷ qs) zero s lt = refl
children-drop (q ∷ qs) (suc i) s lt = children-drop qs i s (omega arith)

-- The parents of the first i sites are counted.
pub record AreCounted (qs counts : List ℕ) (i : ℕ) : Type 0 where
  pub size : length counts ≡ length qs + 1
  pub few : (s : ℕ) → slice_index counts s ≤ i
  pub so_far : (s : ℕ) → s ≤ length qs → slice_index counts s + children (drop i qs) s ≡ children qs s

pub none_counted : (qs : List ℕ) → AreCounted qs (replicate (length qs + 1) 0) 0
none_counted qs = record {
  size = length-replicate (length qs + 1) 0;
  few = λ s. let e : slice_index (replicate (length qs + 1) 0) s ≡ 0 = replicate_at (length qs + 1) s 0 in omega arith;
  so_far = λ s high. let e : slice_index (replicate (length qs + 1) 0) s ≡ 0 = replicate_at (length qs + 1) s 0 in omega arith;
}

pub one_counted : (qs counts : List ℕ) (i : ℕ) → AreCounted qs counts i → i < length qs → get_or qs i 0 ≤ length qs → AreCounted qs (slice_set counts (get_or qs i 0) (get_or counts (get_or qs i 0) 0 + 1)) (i + 1)
one_counted qs counts i is lt small = record {
  size = length-set counts (get_or qs i 0) (get_or counts (get_or qs i 0) 0 + 1) ∙ is.size;
  few = λ s. dite (ℕ_discrete s (get_or qs i 0))
      (λ e. let P : ℕ → Type 0 = λ x. slice_index (slice_set counts (get_or qs i 0) (get_or counts (get_or qs i 0) 0 + 1)) x ≤ i + 1 in subst P (sym e) (let a = get_or-set_same counts (get_or qs i 0) (get_or counts (get_or qs i 0) 0 + 1) 0 (let z = is.size in omega arith) in let f = is.few (get_or qs i 0) in omega arith))
      (λ m. let a = get_or-set_other counts (get_or qs i 0) s (get_or counts (get_or qs i 0) 0 + 1) 0 m in let f = is.few s in omega arith);
  so_far = λ s high. dite (ℕ_discrete s (get_or qs i 0))
      (λ e. let P : ℕ → Type 0 = λ x. slice_index (slice_set counts (get_or qs i 0) (get_or counts (get_or qs i 0) 0 + 1)) x + children (drop (i + 1) qs) x ≡ children qs x in subst P (sym e) (let a = get_or-set_same counts (get_or qs i 0) (get_or counts (get_or qs i 0) 0 + 1) 0 (let z = is.size in omega arith) in let f = is.so_far (get_or qs i 0) small in let d = children-drop qs i (get_or qs i 0) lt in let d' : children (drop i qs) (get_or qs i 0) ≡ 1 + children (drop (suc i) qs) (get_or qs i 0) = rw (eq-eqb (get_or qs i 0) (get_or qs i 0) refl) at d in rw (add-one i) (omega arith)))
      (λ m. let a = get_or-set_other counts (get_or qs i 0) s (get_or counts (get_or qs i 0) 0 + 1) 0 m in let f = is.so_far s high in let d = children-drop qs i s lt in let d' : children (drop i qs) s ≡ children (drop (suc i) qs) s = rw (ne_eqb (get_or qs i 0) s (λ z. m (sym z))) at d in rw (add-one i) (omega arith));
}

nothing_more : (qs : List ℕ) (s : ℕ) → children (drop (length qs) qs) s ≡ 0
nothing_more [] s = refl
nothing_more (q ∷ qs) s = nothing_more qs s

pub all_counted : (p : Plan) (counts : List ℕ) → AreCounted p.parents counts (site_count p) → IsCount p (first_state p).rows counts
all_counted p counts is = record {
  size = is.size;
  counted = λ s high. let f = is.so_far s high in let z = nothing_more p.parents s in let b = count_left-blank p.parents s in omega arith;
}

-- The first state of a plan is a board.
pub board-first : (p : Plan) (counts ends : List ℕ) → IsPlan p → IsCount p (first_state p).rows counts → AreEnds p ends → IsBoard record { plan = p; state = first_state p } counts ends
board-first p counts ends plan is last = record {
  position = record { plan = plan; owners = length-replicate p.harts 0; rows = length-replicate (site_count p) blank };
  wished = λ s. let e = replicate_at (site_count p) (s - 1) blank in subst (λ (x : Row). x.wishes ≤ x.asked) (sym e) (omega arith);
  left = is;
  bounds = last;
}

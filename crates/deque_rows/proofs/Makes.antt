-- How the deques are made.
use Rattle.std.proofs.Common.{◌≡◌, ◌<◌, ◌≤◌, ◌*◌, ◌+◌, ◌-◌, ◌/◌, ◌%◌, ℕ, true, List, [], ◌∷◌, map, length, replicate, get_or, set, sym, ap, subst, ◌∙◌, arith, inl, inr, refl}
use Rattle.std.proofs.lemmas.List.{get_or-map, get_or-replicate, get_or-set_same, get_or-set_other, length-map, length-set}
use Rattle.std.proofs.lemmas.Bool.{cases_eq}
use Rattle.std.proofs.Math.Seq.{map-set_same}
use Rattle.std.proofs.Math.ListN.{get_or-map as get_or-map_same}
use Rattle.deque_rows.specs.declared.account.Log.{Log}
use Rattle.deque_rows.specs.declared.hart.HartRows.{HartRows}
use Rattle.deque_rows.specs.declared.ends.StealingEnd.{StealingEnd}
use Rattle.deque_rows.specs.Account.{idle, blank}
use Rattle.deque_rows.specs.Rows.{Identity, identity, share, home_logs, home_names, pass_logs, owner_log, row_at, place, rooms, AreAll, AreNew, HasRooms}
use Rattle.deque_rows.specs.Lines.{IsHome, IsAt, IsLine, Standing, standing, less, end_log, end_name}
use Rattle.deque_rows.proofs.Places.{hart_of_row, mod_three, pick, hart_row, row_at-map}

-- Two maps in sequence are one map.
pub map_one : {X Y Z : Type 0} (f : Y → Z) (g : X → Y) (h : X → Z) → ((x : X) → f (g x) ≡ h x) → (xs : List X) → map f (map g xs) ≡ map h xs
map_one f g h same [] = refl
map_one f g h same (x ∷ xs) = λ i. same x i ∷ map_one f g h same xs i

pub map_twice : {W X Y Z : Type 0} (f : Y → Z) (g : X → Y) (h : W → Z) (k : X → W) → ((x : X) → f (g x) ≡ h (k x)) → (xs : List X) → map f (map g xs) ≡ map h (map k xs)
map_twice f g h k same [] = refl
map_twice f g h k same (x ∷ xs) = λ i. same x i ∷ map_twice f g h k same xs i

pub begun : (harts : ℕ) (rows : List HartRows) → length rows ≡ harts → ((h : ℕ) (d : HartRows) → h < harts → IsHome harts h (get_or rows h d))
    → ((r : ℕ) → r < 3 * harts → owner_log rows r ≡ blank 64 true) × ((h : ℕ) (d : HartRows) → h < harts → IsAt harts 0 (map home_names rows) h (get_or rows h d))
begun harts rows count homes = (
  (λ r there.
      let i = hart_of_row r harts there in
      let inside : r / 3 < length rows = omega (arith, i, count) in
      let d = pick rows (r / 3) inside in
      ap (λ l. get_or l (r % 3) idle) (get_or-map home_logs rows (r / 3) d [] inside ∙ (homes (r / 3) d i).0) ∙ get_or-replicate 3 (r % 3) (blank 64 true) idle (mod_three r)),
  (λ h d there.
      let is = (homes h d there).1 in record {
        place = ap (λ (s : Standing). s.hart) is;
        bares = ap (λ (s : Standing). s.bares) is;
        reaches = λ none. absurd (omega (arith, none));
        line = λ none. absurd (omega (arith, none));
      }),
)

-- A hart whose standing is the same in both lists.
pub stands : (rows mid : List HartRows) (h : ℕ) (d : HartRows) → map standing mid ≡ map standing rows → standing (get_or mid h d) ≡ standing (get_or rows h d)
stands rows mid h d same = sym (get_or-map_same standing mid h d) ∙ ap (λ l. get_or l h (standing d)) same ∙ get_or-map_same standing rows h d

-- If one hart's deques keep their capacities, all do.
pub rooms_kept : (rows mid : List HartRows) (h : ℕ) (d y : HartRows) → rooms y ≡ rooms (get_or mid h d) → map standing mid ≡ map standing rows → map rooms (set mid h y) ≡ map rooms rows
rooms_kept rows mid h d y same stay =
    let of : (l : List HartRows) → map rooms l ≡ map (λ (s : Standing). s.rooms) (map standing l) = λ l. sym (map_one (λ (s : Standing). s.rooms) standing rooms (λ r. refl) l) in
    map-set_same rooms mid h y d same ∙ of mid ∙ ap (map (λ (s : Standing). s.rooms)) stay ∙ sym (of rows)

-- All deques have this capacity, and keep it.
pub have_rooms : (harts room : ℕ) (rows after : List HartRows) → map rooms after ≡ map rooms rows → ((h : ℕ) (d : HartRows) → h < harts → rooms (get_or rows h d) ≡ replicate 3 room)
    → (h : ℕ) (d : HartRows) → h < harts → HasRooms room (get_or after h d)
have_rooms harts room rows after same each h d there level is =
    let l : level - 1 < 3 = omega (arith, is.0, is.1) in
    let at : rooms (get_or after h d) ≡ replicate 3 room = sym (get_or-map_same rooms after h d) ∙ ap (λ z. get_or z h (rooms d)) same ∙ get_or-map_same rooms rows h d ∙ each h d there in
    ap (λ z. get_or z (level - 1) 0) at ∙ get_or-replicate 3 (level - 1) room 0 l

-- Each deque has lent an end, and the next hart gets these ends.
module _ (harts g : ℕ) (rows mid : List HartRows) (d0 y : HartRows) (ends : List StealingEnd)
    (count : length rows ≡ harts) (few : g < harts)
    (owners : (r : ℕ) → r < 3 * harts → owner_log rows r ≡ blank (64 - g) true)
    (ats : (h : ℕ) (d : HartRows) → h < harts → IsAt harts g (map home_names rows) h (get_or rows h d))
    (lent : (r : ℕ) → r < 3 * length rows → owner_log mid r ≡ less (owner_log rows r))
    (names : map home_names mid ≡ map home_names rows) (stay : map standing mid ≡ map standing rows)
    (is_line : IsLine (map home_names rows) ends)
    (own : home_logs y ≡ home_logs (get_or mid g d0)) (own_names : home_names y ≡ home_names (get_or mid g d0))
    (stood : standing y ≡ record (standing (get_or mid g d0)) { harts = harts; ends = ends }) where
  length_mid : length mid ≡ harts
  length_mid = sym (length-map mid standing) ∙ ap length stay ∙ length-map rows standing ∙ count

  pub reached_count : length (set mid g y) ≡ harts
  reached_count = length-set mid g y ∙ length_mid

  pub reached_owners : (r : ℕ) → r < 3 * harts → owner_log (set mid g y) r ≡ blank (64 - (g + 1)) true
  reached_owners r there =
      ap (λ l. row_at idle l r) (map-set_same home_logs mid g y d0 own)
      ∙ lent r (omega (arith, there, count)) ∙ ap less (owners r there)
      ∙ ap (λ p. blank p true) (let e : 64 - g - 1 ≡ 64 - (g + 1) = omega arith in e)

  names_after : map home_names (set mid g y) ≡ map home_names rows
  names_after = map-set_same home_names mid g y d0 own_names ∙ names

  pub reached_ats : (h : ℕ) (d : HartRows) → h < harts → IsAt harts (g + 1) (map home_names (set mid g y)) h (get_or (set mid g y) h d)
  reached_ats h d there = elim (cases_eq h g) [
    | inl same ↦
        let at : get_or (set mid g y) h d ≡ y = ap (λ i. get_or (set mid g y) i d) same ∙ get_or-set_same mid g y d (omega (arith, few, length_mid)) in
        let is : standing (get_or (set mid g y) h d) ≡ record (standing (get_or rows g d0)) { harts = harts; ends = ends } =
        ap standing at ∙ stood ∙ ap (λ (s : Standing). record s { harts = harts; ends = ends }) (stands rows mid g d0 stay) in
        let was = ats g d0 few in record {
          place = ap (λ (s : Standing). s.hart) is ∙ was.place ∙ sym same;
          bares = ap (λ (s : Standing). s.bares) is ∙ was.bares;
          reaches = λ _. ap (λ (s : Standing). s.harts) is;
          line = λ _. subst (λ ns. IsLine ns (get_or (set mid g y) h d).ends.items) (sym names_after) (subst (IsLine (map home_names rows)) (sym (ap (λ (s : Standing). s.ends) is)) is_line);
        }
    | inr other ↦
        let at : get_or (set mid g y) h d ≡ get_or mid h d = get_or-set_other mid g h y d other in
        let is : standing (get_or (set mid g y) h d) ≡ standing (get_or rows h d) = ap standing at ∙ stands rows mid h d stay in
        let was = ats h d there in record {
          place = ap (λ (s : Standing). s.hart) is ∙ was.place;
          bares = ap (λ (s : Standing). s.bares) is ∙ was.bares;
          reaches = λ below. ap (λ (s : Standing). s.harts) is ∙ was.reaches (omega (arith, below, other));
          line = λ below. subst (λ ns. IsLine ns (get_or (set mid g y) h d).ends.items) (sym names_after)
              (subst (IsLine (map home_names rows)) (sym (ap (λ (s : Standing). s.ends) is)) (was.line (omega (arith, below, other))));
        }
  ]

-- All harts have their ends.
module _ (harts : ℕ) (rows : List HartRows) (count : length rows ≡ harts) (few : harts ≤ 16)
    (owners : (r : ℕ) → r < 3 * harts → owner_log rows r ≡ blank (64 - harts) true)
    (ats : (h : ℕ) (d : HartRows) → h < harts → IsAt harts harts (map home_names rows) h (get_or rows h d)) where
  all_identities : length (map identity rows) ≡ harts
  all_identities = length-map rows identity ∙ count

  identity_at : (h : ℕ) (d : Identity) (there : h < length (map identity rows)) (q : HartRows) → get_or (map identity rows) h d ≡ identity (get_or rows h q)
  identity_at h d there q = get_or-map identity rows h q d (subst (λ n. h < n) (length-map rows identity) there)

  some_at : (h : ℕ) → h < length (map identity rows) → HartRows
  some_at h there = pick rows h (subst (λ n. h < n) (length-map rows identity) there)

  is_at : (h : ℕ) (there : h < length (map identity rows)) → IsAt harts harts (map home_names rows) h (get_or rows h (some_at h there))
  is_at h there = ats h (some_at h there) (subst (λ n. h < n) all_identities there)

  -- The ends of one hart.
  ends_of : (h r : ℕ) (there : h < length (map identity rows)) → r < 3 * length (map identity rows) → r < length (get_or rows h (some_at h there)).ends.items
  ends_of h r there below =
      let q = get_or rows h (some_at h there) in
      let a = (is_at h there).reaches (subst (λ n. h < n) all_identities there) in
      let b = q.reaches in
      let k = q.ends.ok in
      omega (arith, a, b, k, below, all_identities)

  pub all_reached : AreAll (map identity rows)
  all_reached = record {
    few = omega (arith, few, all_identities);
    places = λ h d there. ap (λ (k : Identity). k.hart) (identity_at h d there (some_at h there)) ∙ (is_at h there).place;
    reaches = λ h d there. ap (λ (k : Identity). k.harts) (identity_at h d there (some_at h there)) ∙ (is_at h there).reaches (subst (λ n. h < n) all_identities there) ∙ sym all_identities;
    shares = λ r there.
        let all : map (λ (k : Identity). k.home_shares) (map identity rows) ≡ map (map share) (map home_logs rows) = map_twice (λ (k : Identity). k.home_shares) identity (map share) home_logs (λ q. refl) rows in
        ap (λ l. row_at (0, []) l r) all ∙ row_at-map share (map home_logs rows) idle r ∙ ap share (owners r (omega (arith, there, all_identities)))
        ∙ ap (λ n. (64 - n, [])) (sym all_identities);
    passes = λ h r d n there below.
        let q = get_or rows h (some_at h there) in
        let inside = ends_of h r there below in
        let e = pick q.ends.items r inside in
        let all : map (λ (k : Identity). k.home_names) (map identity rows) ≡ map home_names rows = map_one (λ (k : Identity). k.home_names) identity home_names (λ z. refl) rows in
        ap (λ (k : Identity). get_or k.pass_names r n) (identity_at h d there (some_at h there)) ∙ get_or-map end_name q.ends.items r e n inside
        ∙ ((is_at h there).line (subst (λ m. h < m) all_identities there) r e n inside).1 ∙ ap (λ l. row_at n l r) (sym all);
    parts = λ h r d there below.
        let q = get_or rows h (some_at h there) in
        let inside = ends_of h r there below in
        let e = pick q.ends.items r inside in
        ap (λ (k : Identity). get_or k.pass_parts r 0) (identity_at h d there (some_at h there))
        ∙ get_or-map_same (λ (v : Log). v.parts) (pass_logs q) r idle
        ∙ ap (λ (v : Log). v.parts) (get_or-map end_log q.ends.items r e idle inside ∙ ((is_at h there).line (subst (λ m. h < m) all_identities there) r e (end_name e) inside).0);
  }

  pub all_new : (h : ℕ) (d : HartRows) → h < harts → AreNew harts (get_or rows h d)
  all_new h d there =
      let q = get_or rows h d in
      let at = ats h d there in
      let first : 3 * h < 3 * harts = omega (arith, there) in record {
        own = λ level is.
            let l : level - 1 < 3 = omega (arith, is.0, is.1) in
            let inside : h < length rows = omega (arith, there, count) in
            ap (λ z. get_or z (level - 1) idle) (sym (get_or-map home_logs rows h d [] inside))
            ∙ sym (hart_row idle (map home_logs rows) h (level - 1) l)
            ∙ owners (3 * h + (level - 1)) (omega (arith, there, l));
        passes = λ hart level below is.
            let inside : place hart level < length q.ends.items = (let a = at.reaches there in let b = q.reaches in let k = q.ends.ok in omega (arith, a, b, k, below, is.0, is.1)) in
            let e = pick q.ends.items (place hart level) inside in
            get_or-map end_log q.ends.items (place hart level) e idle inside ∙ (at.line there (place hart level) e (end_name e) inside).0;
        bares = λ hart level below is. ap (λ l. get_or l (place hart level) 0) at.bares ∙ get_or-replicate (3 * harts) (place hart level) 0 0 (omega (arith, below, is.0, is.1));
      }

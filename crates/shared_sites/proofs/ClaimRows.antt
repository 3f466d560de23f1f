-- Claim counters that are added one by one, as far as there is room, are those of all sites.
use Rattle.std.proofs.Common.{◌≡◌, ◌∙◌, ℕ, ◌+◌, ◌-◌, ◌<◌, ◌≤◌, List, [], ◌∷◌, ◌++◌, length, length-append, map, append_assoc, append-nil, replicate, take, slice_get, ◌==◌, if◌then◌else◌, Bool, true, false, Some, None, sym, ap, refl, inl, inr, arith}
use Rattle.std.specs.Option.{option_map}
use Rattle.std.proofs.lemmas.List.{take_all, take-append-le, length-take, length-take-le, length-map, map-append, get_or_append_left, take_more}
use Rattle.std.proofs.Math.Seq.{get_or-append_seam}
use Rattle.std.proofs.lemmas.Bool.{cases_lt}
use Rattle.std.proofs.lemmas.Option.{same_Some, slice_get_within, slice_get-get_or, get_or_from_slice_get, slice_get-map}
use Rattle.std.proofs.lemmas.Grind.{replicate_next}
use Rattle.claim_words.specs.declared.table.TheConstants.{MOST_ROWS}
use Rattle.disjoint_check.specs.Shapes.{Shape}
use Rattle.step_eval.specs.Nests.{NestedParts}
use Rattle.loop_team.specs.Teams.{phases_in}
use Rattle.shared_sites.specs.ClaimRows.{rows_of_shape, rows_of_shapes, claim_rows, shape_of, AreBehind, at_site, IsFirstRow}
use Rattle.shared_sites.specs.declared.claims.SiteRows.{SiteRows}

-- ---- the first n of a list that grows
pub take_room : {X : Type 0} (n : ℕ) (xs : List X) (x : X) → length (take n xs) < n → take n xs ++ x ∷ [] ≡ take n (xs ++ x ∷ [])
take_room n xs x below =
    let short : length xs < n = omega (arith, length-take n xs, below) in
    ap (λ l. l ++ x ∷ []) (take_all n xs (omega (arith, short))) ∙ sym (take_all n (xs ++ x ∷ []) (omega (arith, short, length-append xs (x ∷ []))))

pub take_full : {X : Type 0} (n : ℕ) (xs : List X) (x : X) → n ≤ length (take n xs) → take n xs ≡ take n (xs ++ x ∷ [])
take_full n xs x full = sym (take-append-le n xs (x ∷ []) (omega (arith, length-take n xs, full)))

pub take_twice : {X : Type 0} (n : ℕ) (xs ys : List X) → take n (take n xs ++ ys) ≡ take n (xs ++ ys)
take_twice n xs ys = elim (cases_lt (length xs) n) [
  | inl below ↦ ap (λ l. take n (l ++ ys)) (take_all n xs (omega (arith, below)))
  | inr above ↦
      let long : n ≤ length xs = above in
      let completed : length (take n xs) ≡ n = length-take-le n xs long in
      take-append-le n (take n xs) ys (omega (arith, completed)) ∙ take_all n (take n xs) (omega (arith, completed)) ∙ sym (take-append-le n xs ys long)
]

-- ---- the counters of one more site
get_left : {X : Type 0} (xs ys : List X) (i : ℕ) (d : X) → i < length xs → slice_get (xs ++ ys) i ≡ slice_get xs i
get_left xs ys i d below =
    slice_get-get_or (xs ++ ys) i d (omega (arith, below, length-append xs ys)) ∙ ap Some (get_or_append_left xs ys d i below) ∙ sym (slice_get-get_or xs i d below)

get_seam : {X : Type 0} (xs : List X) (x : X) → slice_get (xs ++ x ∷ []) (length xs) ≡ Some x
get_seam xs x = slice_get-get_or (xs ++ x ∷ []) (length xs) x (omega (arith, length-append xs (x ∷ []))) ∙ ap Some (get_or-append_seam xs x [] x)

rows_append : (before more : List Shape) → rows_of_shapes (before ++ more) ≡ rows_of_shapes before ++ rows_of_shapes more
rows_append [] more = refl
rows_append (shape ∷ before) more =
    ap (λ l. rows_of_shape shape ++ l) (rows_append before more) ∙ sym (append_assoc (rows_of_shape shape) (rows_of_shapes before) (rows_of_shapes more))

pub rows_next : (shapes : List Shape) (shape : Shape) → take MOST_ROWS (claim_rows shapes ++ rows_of_shape shape) ≡ claim_rows (shapes ++ shape ∷ [])
rows_next shapes shape =
    take_twice MOST_ROWS (rows_of_shapes shapes) (rows_of_shape shape)
    ∙ ap (take MOST_ROWS) (ap (λ l. rows_of_shapes shapes ++ l) (sym (append-nil (rows_of_shape shape))) ∙ sym (rows_append shapes (shape ∷ [])))

-- So many sites have their counters.
pub record ArePlaced (sites : List SiteRows) (counts : List ℕ) : Type 0 where
  pub rows : counts ≡ claim_rows (map shape_of sites)
  pub behind : AreBehind sites

pub none_placed : ArePlaced [] []
none_placed = record { rows = refl; behind = λ i rows e. cc e }

-- One more site, whose first counter comes after them.
pub placed_next : (sites : List SiteRows) (counts counts' : List ℕ) (rows : SiteRows) → ArePlaced sites counts → rows.first ≡ length counts
    → counts' ≡ take MOST_ROWS (counts ++ rows_of_shape (shape_of rows)) → ArePlaced (sites ++ rows ∷ []) counts'
placed_next sites counts counts' rows are first more = record { rows = told; behind = behind }
  where
    more_shapes : map shape_of (sites ++ rows ∷ []) ≡ map shape_of sites ++ shape_of rows ∷ []
    more_shapes = map-append shape_of sites (rows ∷ [])

    told : counts' ≡ claim_rows (map shape_of (sites ++ rows ∷ []))
    told = more ∙ ap (λ l. take MOST_ROWS (l ++ rows_of_shape (shape_of rows))) are.rows ∙ rows_next (map shape_of sites) (shape_of rows) ∙ ap claim_rows (sym more_shapes)

    early : (i : ℕ) → i ≤ length sites → take i (map shape_of (sites ++ rows ∷ [])) ≡ take i (map shape_of sites)
    early i below = ap (take i) more_shapes ∙ take-append-le i (map shape_of sites) (shape_of rows ∷ []) (omega (arith, below, length-map sites shape_of))

    behind : AreBehind (sites ++ rows ∷ [])
    behind i r at = elim (cases_lt i (length sites)) [
      | inl below ↦
          let here : slice_get sites i ≡ Some r = sym (get_left sites (rows ∷ []) i r below) ∙ at in
          are.behind i r here ∙ ap (λ l. length (claim_rows l)) (sym (early i (omega (arith, below))))
      | inr above ↦
          let within = slice_get_within (sites ++ rows ∷ []) i r at in
          let is : i ≡ length sites = (omega (arith, above, within, length-append sites (rows ∷ []))) in
          let same : rows ≡ r = same_Some rows r (sym (get_seam sites rows) ∙ ap (slice_get (sites ++ rows ∷ [])) (sym is) ∙ at) in
          let all : take i (map shape_of (sites ++ rows ∷ [])) ≡ map shape_of sites = early i (omega (arith, is)) ∙ take_all i (map shape_of sites) (omega (arith, is, length-map sites shape_of)) in
          ap (λ (s : SiteRows). s.first) (sym same) ∙ first ∙ ap length are.rows ∙ ap (λ l. length (claim_rows l)) (sym all)
    ]

pub row_next : (before : List ℕ) (n member : ℕ) → (before ++ replicate n member) ++ member ∷ [] ≡ before ++ replicate (n + 1) member
row_next before n member = append_assoc before (replicate n member) (member ∷ []) ∙ ap (λ l. before ++ l) (sym (replicate_next n member))

pub placed_short : (sites : List SiteRows) (counts : List ℕ) → ArePlaced sites counts → length counts ≤ MOST_ROWS
placed_short sites counts are = (let e = ap length are.rows in omega (arith, e, length-take MOST_ROWS (rows_of_shapes (map shape_of sites))))

pub shapes_next : (shapes : List Shape) (i : ℕ) (shape : Shape) → slice_get shapes i ≡ Some shape → take (i + 1) shapes ≡ take i shapes ++ shape ∷ []
shapes_next shapes i shape at =
    take_more shapes i shape (slice_get_within shapes i shape at) ∙ ap (λ s. take i shapes ++ s ∷ []) (get_or_from_slice_get shapes i shape shape at)

-- ---- the shape of a site
at_shapes : (sites : List SiteRows) (site : ℕ) → at_site (map shape_of sites) site ≡ option_map shape_of (at_site sites site)
at_shapes sites site = go (site == 0)
  where
    go : (b : Bool) → (if b then None else slice_get (map shape_of sites) (site - 1)) ≡ option_map shape_of (if b then None else slice_get sites (site - 1))
    go true = refl
    go false = slice_get-map shape_of sites (site - 1)

at_place : (sites : List SiteRows) (site : ℕ) (rows : SiteRows) → at_site sites site ≡ Some rows → slice_get sites (site - 1) ≡ Some rows
at_place sites site rows at = go (site == 0) at
  where
    go : (b : Bool) → (if b then None else slice_get sites (site - 1)) ≡ Some rows → slice_get sites (site - 1) ≡ Some rows
    go true e = cc e
    go false e = e

pub first_row : (sites : List SiteRows) (nested : NestedParts) (rows : SiteRows) → AreBehind sites → at_site sites nested.site ≡ Some rows
    → rows.phases ≡ phases_in nested → IsFirstRow (map shape_of sites) nested rows.first
first_row sites nested rows behind at same = record {
  shape = shape_of rows;
  there = at_shapes sites nested.site ∙ ap (option_map shape_of) at;
  phases = same;
  behind = behind (nested.site - 1) rows (at_place sites nested.site rows at);
}

-- A site has one first counter, and as many counters as phases.
pub only_row : (sites : List SiteRows) (nested : NestedParts) (rows : SiteRows) (row : ℕ) → AreBehind sites → at_site sites nested.site ≡ Some rows
    → IsFirstRow (map shape_of sites) nested row → (rows.phases ≡ phases_in nested) × (row ≡ rows.first)
only_row sites nested rows row behind at is =
    let same : shape_of rows ≡ is.shape = same_Some (shape_of rows) is.shape (sym (at_shapes sites nested.site ∙ ap (option_map shape_of) at) ∙ is.there) in
    (ap (λ (s : Shape). s.1) same ∙ is.phases, is.behind ∙ sym (behind (nested.site - 1) rows (at_place sites nested.site rows at)))

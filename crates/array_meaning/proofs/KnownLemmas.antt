-- A walk through statements with known names visits only known arrays, so the writes lie inside the arrays.
use Rattle.std.proofs.Common.{◌≡◌, ℕ, zero, suc, ◌<◌, Bool, true, false, List, [], ◌∷◌, ◌++◌, ℤ, pos, ◌+ℤ◌, refl, inl, inr}
use Rattle.std.specs.Prelude.{◌&&◌, All}
use Rattle.std.proofs.lemmas.Bool.{false≢true, and_parts}
use Rattle.array_tree.specs.Trees.{Expression, Number, Var, Read, Neg, Binary, Statement, Assign, For, If, Par, Team, Sequence, ended, followed, Sequences, no_more, beside}
use Rattle.array_meaning.specs.Stores.{Arrays, Vars, Store, Write, cells_of, HaveCells, length_of}
use Rattle.array_meaning.specs.Steps.{Steps, Done, Set, Choose, followed_by, writes_of}
use Rattle.array_meaning.specs.Work.{turns, span, loop, statement_work, sequence_work, branches_work, phases_work}
use Rattle.array_meaning.specs.Touch.{Visit, reads_in, walk, Touches}
use Rattle.array_meaning.specs.Names.{is_among, are_known, uses_known_names, has_known_names, statement_has_known_names, have_known_names}
use Rattle.array_meaning.specs.Accepted.{is_inside, are_inside}
use Rattle.array_meaning.specs.Pieces.{piece_of}
use Rattle.array_meaning.proofs.FrameLemmas.{IsWritten, writes_within, walk_followed_by}
use Rattle.array_meaning.proofs.CellLemmas.{some_cell}
use Rattle.array_meaning.proofs.BelowLemmas.{AreBelow, all_of, below_lays}
use Rattle.array_meaning.proofs.InsideLemmas.{names_in, covers_inside}

and : (a b : Bool) → a ≡ true → b ≡ true → (a && b) ≡ true
and true b e f = f
and false b e f = absurd (false≢true e)

-- ---- known names

pub known_append : (names : List (List ℕ)) (xs ys : List Visit) → are_known names xs ≡ true → are_known names ys ≡ true → are_known names (xs ++ ys) ≡ true
known_append names [] ys e f = f
known_append names (v ∷ xs) ys e f =
    let parts = and_parts (is_among v.array names) (are_known names xs) e in
    and (is_among v.array names) (are_known names (xs ++ ys)) parts.0 (known_append names xs ys parts.1 f)

module _ (arrays : Arrays) (names : List (List ℕ)) where
  reads_known : (line : ℕ) (vars : Vars) (e : Expression) (around : List (List ℕ)) → uses_known_names e names around ≡ true →
      are_known names (reads_in arrays line vars e) ≡ true
  reads_known line vars (Number n) around h = refl
  reads_known line vars (Var name) around h = refl
  reads_known line vars (Read array index) around h =
      let parts = and_parts (is_among array names) (uses_known_names index names around) h in
      known_append names (reads_in arrays line vars index) _ (reads_known line vars index around parts.1) (and (is_among array names) true parts.0 refl)
  reads_known line vars (Neg e) around h = reads_known line vars e around h
  reads_known line vars (Binary op a b) around h =
      let parts = and_parts (uses_known_names a names around) (uses_known_names b names around) h in
      known_append names (reads_in arrays line vars a) (reads_in arrays line vars b) (reads_known line vars a around parts.0) (reads_known line vars b around parts.1)

  abbrev IsKnown : Steps → Type 0
  IsKnown steps = are_known names (walk arrays steps) ≡ true

  then_known : (a b : Steps) → IsKnown a → IsKnown b → IsKnown (followed_by a b)
  then_known a b h k = rw (walk_followed_by arrays a b) (known_append names (walk arrays a) (walk arrays b) h k)

  turns_known : (body : ℤ → Steps) (low : ℤ) (n : ℕ) → ((x : ℤ) → IsKnown (body x)) → IsKnown (turns body low n)
  turns_known body low zero h = refl
  turns_known body low (suc n) h = then_known (body low) (turns body (low +ℤ pos 1) n) (h low) (turns_known body (low +ℤ pos 1) n h)

  set_known : (line : ℕ) (vars : Vars) (array : List ℕ) (index value : Expression) (around : List (List ℕ)) →
      (is_among array names && (uses_known_names index names around && uses_known_names value names around)) ≡ true → IsKnown (Set line vars array index value Done)
  set_known line vars array index value around h =
      let one = and_parts (is_among array names) (uses_known_names index names around && uses_known_names value names around) h in
      let two = and_parts (uses_known_names index names around) (uses_known_names value names around) one.1 in
      known_append names (reads_in arrays line vars index) _ (reads_known line vars index around two.0)
      (known_append names (reads_in arrays line vars value) _ (reads_known line vars value around two.1) (and (is_among array names) true one.0 refl))

  choose_known : (line : ℕ) (vars : Vars) (test : Expression) (a b : Steps) (around : List (List ℕ)) →
      uses_known_names test names around ≡ true → IsKnown a → IsKnown b → IsKnown (Choose line vars test a b Done)
  choose_known line vars test a b around h k l =
      known_append names (reads_in arrays line vars test) _ (reads_known line vars test around h)
      (known_append names (walk arrays a) _ k (known_append names (walk arrays b) [] l refl))

  mutual
    pub statement_known : (s : Statement) (around : List (List ℕ)) (vars : Vars) → statement_has_known_names s names around ≡ true →
        are_known names (walk arrays (statement_work s vars)) ≡ true
    statement_known (Assign line array index value) around vars h = set_known line vars array index value around h
    statement_known (For line var low high body) around vars h =
        turns_known (λ x. sequence_work body ((var, x) ∷ vars)) low (span low high) (λ x. sequence_known body (var ∷ around) ((var, x) ∷ vars) h)
    statement_known (If line test then_block else_block) around vars h =
        let one = and_parts (uses_known_names test names around) (has_known_names then_block names around && has_known_names else_block names around) h in
        let two = and_parts (has_known_names then_block names around) (has_known_names else_block names around) one.1 in
        choose_known line vars test (sequence_work then_block vars) (sequence_work else_block vars) around one.0
        (sequence_known then_block around vars two.0) (sequence_known else_block around vars two.1)
    statement_known (Par line branches) around vars h = branches_known branches around vars h
    statement_known (Team line var low high members phases) around vars h = phases_known phases var low high around vars h

    pub sequence_known : (s : Sequence) (around : List (List ℕ)) (vars : Vars) → has_known_names s names around ≡ true →
        are_known names (walk arrays (sequence_work s vars)) ≡ true
    sequence_known ended around vars h = refl
    sequence_known (followed first rest) around vars h =
        let parts = and_parts (statement_has_known_names first names around) (has_known_names rest names around) h in
        then_known (statement_work first vars) (sequence_work rest vars) (statement_known first around vars parts.0) (sequence_known rest around vars parts.1)

    pub branches_known : (bs : Sequences) (around : List (List ℕ)) (vars : Vars) → have_known_names bs names around ≡ true →
        are_known names (walk arrays (branches_work bs vars)) ≡ true
    branches_known no_more around vars h = refl
    branches_known (beside first rest) around vars h =
        let parts = and_parts (has_known_names first names around) (have_known_names rest names around) h in
        then_known (sequence_work first vars) (branches_work rest vars) (sequence_known first around vars parts.0) (branches_known rest around vars parts.1)

    pub phases_known : (bs : Sequences) (var : List ℕ) (low high : ℤ) (around : List (List ℕ)) (vars : Vars) → have_known_names bs names (var ∷ around) ≡ true →
        are_known names (walk arrays (phases_work bs var low high vars)) ≡ true
    phases_known no_more var low high around vars h = refl
    phases_known (beside first rest) var low high around vars h =
        let parts = and_parts (has_known_names first names (var ∷ around)) (have_known_names rest names (var ∷ around)) h in
        then_known (loop var low high (sequence_work first) vars) (phases_work rest var low high vars)
        (turns_known (λ x. sequence_work first ((var, x) ∷ vars)) low (span low high) (λ x. sequence_known first (var ∷ around) ((var, x) ∷ vars) parts.0))
        (phases_known rest var low high around vars parts.1)

  -- A member's loop.
  pub loop_known : (s : Sequence) (var : List ℕ) (low high : ℤ) (around : List (List ℕ)) (vars : Vars) → has_known_names s names (var ∷ around) ≡ true →
      are_known names (walk arrays (loop var low high (sequence_work s) vars)) ≡ true
  loop_known s var low high around vars h =
      turns_known (λ x. sequence_work s ((var, x) ∷ vars)) low (span low high) (λ x. sequence_known s (var ∷ around) ((var, x) ∷ vars) h)

-- ---- inside the arrays

pub touched_inside : (arrays : Arrays) (w : Bool) (vs : List Visit) (cell : ℕ) → are_known (names_in arrays) vs ≡ true → are_inside arrays vs ≡ true →
    Touches arrays w vs cell → cell < cells_of arrays
touched_inside arrays w [] cell known inside h = absurd h
touched_inside arrays w (v ∷ vs) cell known inside (inl h) =
    covers_inside arrays v.array v.index cell (and_parts (is_among v.array (names_in arrays)) (are_known (names_in arrays) vs) known).0
    (and_parts (is_inside (length_of arrays v.array) v.index) (are_inside arrays vs) inside).0 h.1
touched_inside arrays w (v ∷ vs) cell known inside (inr h) =
    touched_inside arrays w vs cell (and_parts (is_among v.array (names_in arrays)) (are_known (names_in arrays) vs) known).1
    (and_parts (is_inside (length_of arrays v.array) v.index) (are_inside arrays vs) inside).1 h

all_below : (n : ℕ) (ws : List Write) → ((cell : ℕ) → IsWritten ws cell → cell < n) → AreBelow n ws
all_below n [] h = tt
all_below n (w ∷ ws) h = (h w.0 (inl refl), all_below n ws (λ cell k. h cell (inr k)))

pub writes_below : (arrays : Arrays) → HaveCells arrays → (steps : Steps) (store : Store) →
    are_known (names_in arrays) (walk arrays steps) ≡ true → are_inside arrays (walk arrays steps) ≡ true →
    AreBelow (cells_of arrays) (writes_of arrays steps store)
writes_below arrays have steps store known inside =
    all_below (cells_of arrays) (writes_of arrays steps store)
    (λ cell h. touched_inside arrays true (walk arrays steps) cell known inside (writes_within arrays (some_cell arrays have) steps store cell h))

-- What steps with known names and indices inside write lies inside the arrays.
pub writes_inside : (arrays : Arrays) → HaveCells arrays → (steps : Steps) (store : Store) →
    are_known (names_in arrays) (walk arrays steps) ≡ true → are_inside arrays (walk arrays steps) ≡ true →
    All (λ w. w.0 < cells_of arrays) (writes_of arrays steps store)
writes_inside arrays have steps store known inside =
    all_of (cells_of arrays) (writes_of arrays steps store) (writes_below arrays have steps store known inside)

-- The same for the steps' piece.
pub piece_inside : (arrays : Arrays) → HaveCells arrays → (steps : Steps) (store : Store) →
    are_known (names_in arrays) (walk arrays steps) ≡ true → are_inside arrays (walk arrays steps) ≡ true →
    All (λ w. w.0 < cells_of arrays) (piece_of arrays steps store)
piece_inside arrays have steps store known inside =
    all_of (cells_of arrays) (piece_of arrays steps store)
    (below_lays (cells_of arrays) (writes_of arrays steps store) [] (writes_below arrays have steps store known inside) tt)

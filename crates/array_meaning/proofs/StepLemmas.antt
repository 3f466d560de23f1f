-- Steps in sequence, and loops turn by turn.
use Rattle.std.proofs.Common.{◌≡◌, ℕ, suc, cond, List, [], ◌∷◌, ◌++◌, length, true, false, ℤ, pos, ◌+ℤ◌, ◌<ℤ◌, refl, ap, ◌∙◌, arith, append_assoc, length-set}
use Rattle.array_tree.specs.Trees.{ProgramTree}
use Rattle.std.proofs.lemmas.List.{length-replicate}
use Rattle.std.proofs.lemmas.Int.{ints}
use Rattle.array_meaning.specs.Values.{holds}
use Rattle.array_meaning.specs.Stores.{Arrays, Vars, Store, Write, written, after, is_dynamic, cell_of, value_of, arrays_of, cells_of}
use Rattle.array_meaning.specs.Steps.{Steps, Done, Set, Choose, followed_by, writes_of, exec}
use Rattle.array_meaning.specs.Work.{Work, turns, span, loop, sequence_work, first_store, final_store}

pub followed_by_done : (a : Steps) → followed_by a Done ≡ a
followed_by_done Done = refl
followed_by_done (Set l vs n i e rest) = ap (Set l vs n i e) (followed_by_done rest)
followed_by_done (Choose l vs t left right rest) = ap (Choose l vs t left right) (followed_by_done rest)

pub followed_by_assoc : (a b c : Steps) → followed_by (followed_by a b) c ≡ followed_by a (followed_by b c)
followed_by_assoc Done b c = refl
followed_by_assoc (Set l vs n i e rest) b c = ap (Set l vs n i e) (followed_by_assoc rest b c)
followed_by_assoc (Choose l vs t left right rest) b c = ap (Choose l vs t left right) (followed_by_assoc rest b c)

pub after_append : (a b : List Write) (store : Store) → after (a ++ b) store ≡ after b (after a store)
after_append [] b store = refl
after_append (w ∷ a) b store = after_append a b (written store w.0 w.1)

pub writes_followed_by : (arrays : Arrays) (a b : Steps) (store : Store) →
    writes_of arrays (followed_by a b) store ≡ writes_of arrays a store ++ writes_of arrays b (after (writes_of arrays a store) store)
writes_followed_by arrays Done b store = refl
writes_followed_by arrays (Set l vs n i e rest) b store =
    rw (writes_followed_by arrays rest b (written store (cell_of arrays n (is_dynamic i) (value_of arrays vs i store)) (value_of arrays vs e store))) refl
writes_followed_by arrays (Choose l vs t left right rest) b store =
    let side = cond (holds (value_of arrays vs t store)) (writes_of arrays left store) (writes_of arrays right store) in
    rw (writes_followed_by arrays rest b (after side store), after_append side (writes_of arrays rest (after side store)) store, append_assoc) refl

-- Two steps in sequence.
pub exec_followed_by : (arrays : Arrays) (a b : Steps) (store : Store) →
    exec arrays (followed_by a b) store ≡ exec arrays b (exec arrays a store)
exec_followed_by arrays a b store =
    ap (λ ws. after ws store) (writes_followed_by arrays a b store)
    ∙ after_append (writes_of arrays a store) (writes_of arrays b (after (writes_of arrays a store) store)) store

-- A choice runs one of its sides.
pub exec_choose : (arrays : Arrays) (line : ℕ) (vars : Vars) (test : _) (left right : Steps) (store : Store) →
    exec arrays (Choose line vars test left right Done) store
    ≡ cond (holds (value_of arrays vars test store)) (exec arrays left store) (exec arrays right store)
exec_choose arrays line vars test left right store =
    after_append (cond (holds (value_of arrays vars test store)) (writes_of arrays left store) (writes_of arrays right store)) [] store
    ∙ sides (holds (value_of arrays vars test store))
  where
    sides : (b : _) → after (cond b (writes_of arrays left store) (writes_of arrays right store)) store
        ≡ cond b (exec arrays left store) (exec arrays right store)
    sides b = elim b as (λ d. after (cond d (writes_of arrays left store) (writes_of arrays right store)) store ≡ cond d (exec arrays left store) (exec arrays right store)) [ true ↦ refl | false ↦ refl ]

-- One more turn is left.
pub span_next : (x high : ℤ) → x <ℤ high → span x high ≡ suc (span (x +ℤ pos 1) high)
span_next x high h = grind (arith, ints)

pub span_none : (x high : ℤ) → (x <ℤ high → ⊥) → span x high ≡ 0
span_none x high h = grind (arith, ints)

-- A loop is its first turn and then the remaining turns.
pub loop_next : (var : List ℕ) (x high : ℤ) (body : Work) (vars : Vars) → x <ℤ high →
    loop var x high body vars ≡ followed_by (body ((var, x) ∷ vars)) (loop var (x +ℤ pos 1) high body vars)
loop_next var x high body vars h = ap (turns (λ y. body ((var, y) ∷ vars)) x) (span_next x high h)

-- Writes keep the number of cells.
pub length_after : (ws : List Write) (store : Store) → length (after ws store) ≡ length store
length_after [] store = refl
length_after (w ∷ ws) store = length_after ws (written store w.0 w.1) ∙ length-set store w.0 w.1

-- A program's store has one value per cell of its arrays.
pub length_final_store : (program : ProgramTree) → length (final_store program) ≡ cells_of (arrays_of program.arrays)
length_final_store program =
    let arrays = arrays_of program.arrays in
    length_after (writes_of arrays (sequence_work program.body []) (first_store arrays)) (first_store arrays)
    ∙ length-replicate (cells_of arrays) (pos 0)

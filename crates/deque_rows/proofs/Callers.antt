-- Facts for a caller that has the deques of all harts.
use Rattle.std.proofs.Common.{◌≡◌, ◌<◌, ℕ, suc, List, [], ◌∷◌, ◌++◌, map, length, get_or, set, sym, ap, subst, ◌∙◌, arith, refl}
use Rattle.std.proofs.lemmas.List.{length-map, length-append, get_or_push, get_or_append_left}
use Rattle.std.proofs.Math.Seq.{map-set_same}
use Rattle.std.proofs.Math.ListN.{get_or-map as get_or-map_same}
use Rattle.deque_rows.specs.declared.hart.HartRows.{HartRows}
use Rattle.deque_rows.specs.Rows.{Identity, identity, AreAll}

-- Each hart reaches the deques of all harts.
pub reaches_all : (rows : List HartRows) → AreAll (map identity rows) → (h : ℕ) (d : HartRows) → h < length rows → (get_or rows h d).harts ≡ length rows
reaches_all rows all h d there =
    ap (λ (k : Identity). k.harts) (sym (get_or-map_same identity rows h d)) ∙ all.reaches h (identity d) (subst (λ n. h < n) (sym (length-map rows identity)) there) ∙ length-map rows identity

-- If all harts reach n harts, the last one does, and so do those before it.
pub last_reaches : (rs rs' : List HartRows) (r : HartRows) (n : ℕ) → rs ≡ rs' ++ r ∷ [] → ((h : ℕ) (d : HartRows) → h < length rs → (get_or rs h d).harts ≡ n) → r.harts ≡ n
last_reaches rs rs' r n split all =
    let there : length rs' < length rs = omega (arith, ap length split, length-append rs' (r ∷ [])) in
    ap (λ (x : HartRows). x.harts) (sym (get_or_push rs' r r (length rs') refl) ∙ ap (λ xs. get_or xs (length rs') r) (sym split)) ∙ all (length rs') r there

pub rest_reach : (rs rs' : List HartRows) (r : HartRows) (n : ℕ) → rs ≡ rs' ++ r ∷ [] → ((h : ℕ) (d : HartRows) → h < length rs → (get_or rs h d).harts ≡ n)
    → (h : ℕ) (d : HartRows) → h < length rs' → (get_or rs' h d).harts ≡ n
rest_reach rs rs' r n split all h d below =
    let there : h < length rs = omega (arith, below, ap length split, length-append rs' (r ∷ [])) in
    ap (λ (x : HartRows). x.harts) (sym (get_or_append_left rs' (r ∷ []) d h below) ∙ ap (λ xs. get_or xs h d) (sym split)) ∙ all h d there

-- One hart's deques change, or each hart's do, and no identity changes.
pub one_moved : (rows : List HartRows) (h : ℕ) (y d : HartRows) → identity y ≡ identity (get_or rows h d) → map identity (set rows h y) ≡ map identity rows
one_moved rows h y d same = map-set_same identity rows h y d same

pub each_moved : (old new : List HartRows) → length new ≡ length old → ((h : ℕ) (d : HartRows) → h < length old → identity (get_or new h d) ≡ identity (get_or old h d)) → map identity new ≡ map identity old
each_moved [] [] count same = refl
each_moved [] (y ∷ new) count same = absurd (omega (arith, count))
each_moved (x ∷ old) [] count same = absurd (omega (arith, count))
each_moved (x ∷ old) (y ∷ new) count same = λ i. same 0 x (omega arith) i ∷ each_moved old new (omega (arith, count)) (λ h d below. same (suc h) d (omega (arith, below))) i

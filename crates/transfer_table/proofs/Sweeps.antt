-- Rows that a skip makes gone.
use Rattle.std.proofs.Common.{◌≡◌, ℕ, zero, suc, ◌+◌, ◌-◌, ◌<◌, ◌≤◌, slice_index_or, slice_set, length-set, get_or-set_same, get_or-set_other, Bool, true, false, if◌then◌else◌, List, [], ◌∷◌, length, get_or, set, refl, sym, ap, subst, ◌∙◌, ⊎_elim, arith}
use Rattle.std.proofs.lemmas.Bool.{cases_lt}
use mathlib.Core.Logic.{dite}
use native.Mathlib.Decide.{ℕ_discrete}
use Rattle.transfer_table.specs.declared.entry.Row.{Row}
use Rattle.transfer_table.specs.Plan.{Plan, is_within, site_count}
use Rattle.transfer_table.specs.Table.{TableState, swept, swept_row, blank, row, with_row}

pub length-swept : (p : Plan) (s : ℕ) (rs : List Row) (k : ℕ) → length (swept p s rs k) ≡ length rs
length-swept p s [] k = refl
length-swept p s (r ∷ rs) k = ap suc (length-swept p s rs (k + 1))

-- A row within the site is gone and has no home.
pub swept-within : (p : Plan) (s : ℕ) (rs : List Row) (k i : ℕ) (d : Row) → i < length rs → is_within p s (k + i) ≡ true → get_or (swept p s rs k) i d ≡ swept_row (get_or rs i d)
swept-within p s [] k i d lt w = absurd (omega arith)
swept-within p s (r ∷ rs) k zero d lt w = let e : k + 0 ≡ k = omega arith in let w' : is_within p s k ≡ true = sym (ap (is_within p s) e) ∙ w in rw w' refl
swept-within p s (r ∷ rs) k (suc i) d lt w = let e : k + suc i ≡ k + 1 + i = omega arith in swept-within p s rs (k + 1) i d (omega arith) (sym (ap (is_within p s) e) ∙ w)

-- A row outside the site stays.
pub swept-outside : (p : Plan) (s : ℕ) (rs : List Row) (k i : ℕ) (d : Row) → i < length rs → is_within p s (k + i) ≡ false → get_or (swept p s rs k) i d ≡ get_or rs i d
swept-outside p s [] k i d lt w = absurd (omega arith)
swept-outside p s (r ∷ rs) k zero d lt w = let e : k + 0 ≡ k = omega arith in let w' : is_within p s k ≡ false = sym (ap (is_within p s) e) ∙ w in rw w' refl
swept-outside p s (r ∷ rs) k (suc i) d lt w = let e : k + suc i ≡ k + 1 + i = omega arith in swept-outside p s rs (k + 1) i d (omega arith) (sym (ap (is_within p s) e) ∙ w)

-- If the rows within the site are gone already, nothing changes.
pub swept-done : (p : Plan) (s : ℕ) (rs : List Row) (k : ℕ) (d : Row) → ((i : ℕ) → i < length rs → is_within p s (k + i) ≡ true → get_or rs i d ≡ swept_row (get_or rs i d)) → swept p s rs k ≡ rs
swept-done p s [] k d f = refl
swept-done p s (r ∷ rs) k d f = split (is_within p s k) refl (swept-done p s rs (k + 1) d (λ i lt w. let e : k + suc i ≡ k + 1 + i = omega arith in f (suc i) (omega arith) (ap (is_within p s) e ∙ w)))
  where
    split : (b : Bool) → is_within p s k ≡ b → swept p s rs (k + 1) ≡ rs → (if b then swept_row r else r) ∷ swept p s rs (k + 1) ≡ r ∷ rs
    split true w more = let e : k + 0 ≡ k = omega arith in let z : r ≡ swept_row r = f 0 (omega arith) (ap (is_within p s) e ∙ w) in λ i. sym z i ∷ more i
    split false w more = ap (λ (l : List Row). r ∷ l) more

-- A row that is made gone beforehand makes no difference.
pub swept-set : (p : Plan) (s : ℕ) (rs : List Row) (k i : ℕ) (d : Row) → i < length rs → is_within p s (k + i) ≡ true → swept p s (set rs i (swept_row (get_or rs i d))) k ≡ swept p s rs k
swept-set p s [] k i d lt w = absurd (omega arith)
swept-set p s (r ∷ rs) k zero d lt w = let e : k + 0 ≡ k = omega arith in let w' : is_within p s k ≡ true = sym (ap (is_within p s) e) ∙ w in rw w' refl
swept-set p s (r ∷ rs) k (suc i) d lt w = let e : k + suc i ≡ k + 1 + i = omega arith in ap (λ (l : List Row). (if is_within p s k then swept_row r else r) ∷ l) (swept-set p s rs (k + 1) i d (omega arith) (sym (ap (is_within p s) e) ∙ w))

-- The rows below i are done: to do all rows from here has the same result as from the start.
pub record IsSweptTo (p : Plan) (s : ℕ) (old now : TableState) (i : ℕ) : Type 0 where
  pub owners : now.owners ≡ old.owners
  pub size : length now.rows ≡ site_count p
  pub same : swept p s now.rows 1 ≡ swept p s old.rows 1
  pub done : (j : ℕ) → j < i → is_within p s (1 + j) ≡ true → get_or now.rows j blank ≡ swept_row (get_or now.rows j blank)

-- The next row is within the site, and is done.
pub swept_next : (p : Plan) (s : ℕ) (old now : TableState) (i : ℕ) → i < site_count p → is_within p s (i + 1) ≡ true → IsSweptTo p s old now i
    → IsSweptTo p s old record { owners = now.owners; rows = with_row now (i + 1) (swept_row (row now (i + 1))) } (i + 1)
swept_next p s old now i lt w is =
    let e : i + 1 - 1 ≡ i = omega arith in
    let Q : ℕ → Type 0 = λ k. IsSweptTo p s old record { owners = now.owners; rows = slice_set now.rows k (swept_row (slice_index_or now.rows k blank)) } (i + 1) in
    let z = is.size in let f : 1 + i ≡ i + 1 = omega arith in let w' : is_within p s (1 + i) ≡ true = ap (is_within p s) f ∙ w in subst Q (sym e) record {
      owners = is.owners;
      size = length-set now.rows i _ ∙ is.size;
      same = swept-set p s now.rows 1 i blank (omega arith) w' ∙ is.same;
      done = λ j l v. dite (ℕ_discrete j i)
          (λ q. let P : ℕ → Type 0 = λ k. get_or (set now.rows i (swept_row (get_or now.rows i blank))) k blank ≡ swept_row (get_or (set now.rows i (swept_row (get_or now.rows i blank))) k blank) in
          let here = get_or-set_same now.rows i (swept_row (get_or now.rows i blank)) blank (omega arith) in subst P (sym q) (here ∙ ap swept_row (sym here)))
          (λ n. let there = get_or-set_other now.rows i j (swept_row (get_or now.rows i blank)) blank n in there ∙ (is.done j (omega arith) v ∙ ap swept_row (sym there)));
    }

-- The next row is outside the site.
pub swept_past : (p : Plan) (s : ℕ) (old now : TableState) (i : ℕ) → is_within p s (i + 1) ≡ false → IsSweptTo p s old now i → IsSweptTo p s old now (i + 1)
swept_past p s old now i w is = record {
  owners = is.owners;
  size = is.size;
  same = is.same;
  done = λ j l v. dite (ℕ_discrete j i)
      (λ q. let f : 1 + j ≡ i + 1 = omega arith in absurd (let g : true ≡ false = sym v ∙ (ap (is_within p s) f ∙ w) in cc))
      (λ n. is.done j (omega arith) v);
}

-- No later row is inside the site, so all rows are done.
pub swept_over : (p : Plan) (s : ℕ) (old now : TableState) (i : ℕ) → ((j : ℕ) → i ≤ j → j < site_count p → is_within p s (1 + j) ≡ true → ⊥) → IsSweptTo p s old now i →
    now ≡ record { owners = old.owners; rows = swept p s old.rows 1 }
swept_over p s old now i none is =
    let r : now.rows ≡ swept p s old.rows 1
    = sym (swept-done p s now.rows 1 blank (λ j l w. ⊎_elim
    (λ below. is.done j below w)
    (λ above. absurd (none j above (let z = is.size in omega arith) w))
    (cases_lt j i)))
    ∙ is.same in
    λ k. record { owners = is.owners k; rows = r k }

-- What follows from names: an array that is added to is declared and accumulating, and no declaration has its rows' name.
use Rattle.std.proofs.Common.{◌≡◌, ℕ, true, false, List, [], ◌∷◌, Option, Some, None, refl, sym, subst, inl, inr, ⊎_elim}
use Rattle.std.specs.Prelude.{◌&&◌, not, codes}
use Rattle.std.specs.Option.{is_some}
use Rattle.std.specs.Cmp.Lexicographic.{same_text}
use Rattle.std.proofs.lemmas.Bool.{false≢true, both_ways, and_parts, or_cases, or_from, or_left, or_right, not-true, false_from_ne_true}
use Rattle.std.proofs.lemmas.Cmp.{nat_list_eq_equiv}
use Rattle.std.proofs.lemmas.List.{append_cancel_right}
use Rattle.array_tree.specs.Trees.{Expression, Statement, Assign, For, If, Par, Team, Sequence, ended, followed, Sequences, no_more, beside, Declaration}
use Rattle.array_tree.specs.Equal.{name_eq}
use Rattle.array_meaning.specs.Stores.{Arrays, arrays_of}
use Rattle.array_meaning.specs.Names.{is_among, names_of, are_declared_once, uses_known_names, has_known_names, statement_has_known_names, have_known_names}
use Rattle.array_meaning.specs.Pieces.{IsMember}
use Rattle.array_meaning.proofs.InsideLemmas.{names_in}
use Rattle.spread_laws.specs.Adds.{is_sum, added, has_add, statement_has_add, have_add}
use Rattle.spread_laws.specs.Rows.{rows_name}
use Rattle.spread_laws.specs.Faults.{needed_names, declared_at}
use Rattle.spread_laws.proofs.Inside.{added_is, none_cond}

-- ---- names

pub name_self : (x : List ℕ) → name_eq x x ≡ true
name_self x = nat_list_eq_equiv.refl x

pub rows_self : (x y : List ℕ) → name_eq x y ≡ true → name_eq (rows_name x) (rows_name y) ≡ true
rows_self x y h = subst (λ z. name_eq (rows_name x) (rows_name z) ≡ true) (same_text x y (sym h)) (name_self (rows_name x))

-- Arrays of two names have rows of two names.
pub rows_other : (x y : List ℕ) → name_eq x y ≡ false → name_eq (rows_name x) (rows_name y) ≡ false
rows_other x y h = false_from_ne_true (name_eq (rows_name x) (rows_name y)) (λ t.
    let same : x ≡ y = append_cancel_right x y (codes "_rows") (same_text (rows_name x) (rows_name y) (sym t)) in
    both_ways (name_eq x y) h (subst (λ z. name_eq x z ≡ true) same (name_self x)))

-- ---- an array that is added to

some_sum : (x : List ℕ) (e value : Expression) (o : Option Expression) → added x e value ≡ o → is_some o ≡ true → is_sum x ≡ true
some_sum x e value None p h = absurd (false≢true h)
some_sum x e value (Some v) p h = (added_is x e value v p).sum

module _ (y : List ℕ) (names : List (List ℕ)) where
  abbrev IsKnown : Type 0
  IsKnown = (is_sum y ≡ true) × (is_among y names ≡ true)

  mutual
    pub statement_known : (s : Statement) (vars : List (List ℕ)) → statement_has_known_names s names vars ≡ true → statement_has_add y s ≡ true → (is_sum y ≡ true) × (is_among y names ≡ true)
    statement_known (Assign line x e value) vars known h =
        let k = and_parts (is_among x names) (uses_known_names e names vars && uses_known_names value names vars) known in
        let a = and_parts (name_eq x y) (is_some (added x e value)) h in
        subst (λ z. (is_sum z ≡ true) × (is_among z names ≡ true)) (same_text x y (sym a.0)) (some_sum x e value (added x e value) refl a.1, k.0)
    statement_known (For line var low high body) vars known h = sequence_known body (var ∷ vars) known h
    statement_known (If line test a b) vars known h =
        let k = and_parts (uses_known_names test names vars) (has_known_names a names vars && has_known_names b names vars) known in
        let j = and_parts (has_known_names a names vars) (has_known_names b names vars) k.1 in
        ⊎_elim (λ l. sequence_known a vars j.0 l) (λ r. sequence_known b vars j.1 r) (or_cases (has_add y a) (has_add y b) h)
    statement_known (Par line branches) vars known h = branches_known branches vars known h
    statement_known (Team line var low high members phases) vars known h = branches_known phases (var ∷ vars) known h

    sequence_known : (s : Sequence) (vars : List (List ℕ)) → has_known_names s names vars ≡ true → has_add y s ≡ true → IsKnown
    sequence_known ended vars known h = absurd (false≢true h)
    sequence_known (followed first rest) vars known h =
        let k = and_parts (statement_has_known_names first names vars) (has_known_names rest names vars) known in
        ⊎_elim (λ l. statement_known first vars k.0 l) (λ r. sequence_known rest vars k.1 r) (or_cases (statement_has_add y first) (has_add y rest) h)

    branches_known : (bs : Sequences) (vars : List (List ℕ)) → have_known_names bs names vars ≡ true → have_add y bs ≡ true → IsKnown
    branches_known no_more vars known h = absurd (false≢true h)
    branches_known (beside first rest) vars known h =
        let k = and_parts (has_known_names first names vars) (have_known_names rest names vars) known in
        ⊎_elim (λ l. sequence_known first vars k.0 l) (λ r. branches_known rest vars k.1 r) (or_cases (has_add y first) (have_add y rest) h)

-- ---- a needed name isn't declared

pub not_declared : (names : List (List ℕ)) (ds : List Declaration) (y : List ℕ) → declared_at names ds ≡ None → is_among y names ≡ true → is_among y (names_of ds) ≡ false
not_declared names [] y h needed = refl
not_declared names (d ∷ ds) y h needed =
    let p = none_cond (is_among d.name names) d.line (declared_at names ds) h in
    or_from (name_eq d.name y) (is_among y (names_of ds))
    (false_from_ne_true (name_eq d.name y) (λ t. both_ways (is_among y names) (subst (λ z. is_among z names ≡ false) (same_text d.name y (sym t)) p.0) needed))
    (not_declared names ds y p.1 needed)

pub rows_needed : (ds : List Declaration) (x : List ℕ) → is_among x (names_of ds) ≡ true → is_among (rows_name x) (needed_names ds) ≡ true
rows_needed [] x h = absurd (false≢true h)
rows_needed (d ∷ ds) x h = ⊎_elim
    (λ l. or_left (name_eq (rows_name d.name) (rows_name x)) _ (rows_self d.name x l))
    (λ r. or_right (name_eq (rows_name d.name) (rows_name x)) _ (or_right _ (is_among (rows_name x) (needed_names ds)) (rows_needed ds x r)))
    (or_cases (name_eq d.name x) (is_among x (names_of ds)) h)

-- ---- each array is declared once

abbrev pub AreSingle : Arrays → Type 0
AreSingle [] = Unit {0}
AreSingle (a ∷ more) = (is_among a.0 (names_in more) ≡ false) × AreSingle more

before_absent : (ds : List Declaration) (before : List (List ℕ)) (x : List ℕ) → are_declared_once ds before ≡ true → is_among x before ≡ true → is_among x (names_in (arrays_of ds)) ≡ false
before_absent [] before x h first = refl
before_absent (d ∷ ds) before x h first =
    let p = and_parts (not (is_among d.name before)) (are_declared_once ds (d.name ∷ before)) h in
    or_from (name_eq d.name x) (is_among x (names_in (arrays_of ds)))
    (false_from_ne_true (name_eq d.name x) (λ t. both_ways (is_among x before) (subst (λ z. is_among z before ≡ false) (same_text d.name x (sym t)) (not-true (is_among d.name before) p.0)) first))
    (before_absent ds (d.name ∷ before) x p.1 (or_right (name_eq d.name x) (is_among x before) first))

pub single : (ds : List Declaration) (before : List (List ℕ)) → are_declared_once ds before ≡ true → AreSingle (arrays_of ds)
single [] before h = tt
single (d ∷ ds) before h =
    let p = and_parts (not (is_among d.name before)) (are_declared_once ds (d.name ∷ before)) h in
    (before_absent ds (d.name ∷ before) d.name p.1 (or_left (name_eq d.name d.name) (is_among d.name before) (name_self d.name)), single ds (d.name ∷ before) p.1)

-- A member's name is among the names.
pub member_named : (arrays : Arrays) (a : List ℕ × ℕ) → IsMember a arrays → is_among a.0 (names_in arrays) ≡ true
member_named [] a in_a = absurd in_a
member_named (b ∷ more) a (inl p) = or_left (name_eq b.0 a.0) (is_among a.0 (names_in more)) (subst (λ z. name_eq b.0 z.0 ≡ true) p (name_self b.0))
member_named (b ∷ more) a (inr q) = or_right (name_eq b.0 a.0) (is_among a.0 (names_in more)) (member_named more a q)

-- A member's name differs from that of an earlier array.
pub member_other : (arrays : Arrays) (x : List ℕ) (a : List ℕ × ℕ) → is_among x (names_in arrays) ≡ false → IsMember a arrays → name_eq x a.0 ≡ false
member_other arrays x a absent in_a = false_from_ne_true (name_eq x a.0) (λ t.
    both_ways (is_among x (names_in arrays)) absent (subst (λ z. is_among z (names_in arrays) ≡ true) (sym (same_text x a.0 (sym t))) (member_named arrays a in_a)))

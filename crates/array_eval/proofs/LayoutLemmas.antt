-- The first array of a slot, and the array of a name from there on.
use Rattle.std.proofs.Common.{◌≡◌, ℕ, zero, suc, ◌+◌, ◌<◌, ◌≤◌, Bool, true, false, cond, List, [], ◌∷◌, length, map, take, drop, replicate, get_or, slice_set, refl, sym, ap, subst, ◌∙◌, arith}
use Rattle.std.specs.Prelude.{nat_eq, unsigned_abs}
use Rattle.std.specs.Cmp.Lexicographic.{same_text}
use Rattle.std.proofs.lemmas.Bool.{false≢true}
use Rattle.std.proofs.lemmas.Bool.Decides.{nat_tests}
use Rattle.std.proofs.lemmas.List.{get_or-replicate, get_or-set_same, get_or-set_other, length-replicate, length-set, drop_more, get_or_default}
use Rattle.array_tree.specs.Trees.{declaration_of}
use Rattle.array_tree.specs.declared.tree.ArrayDecl.{ArrayDecl}
use Rattle.array_tree.specs.Equal.{name_eq}
use Rattle.array_meaning.specs.Stores.{Arrays, HaveCells, AreSized, arrays_of, base_of, length_of, cells_of}
use Rattle.array_eval.specs.declared.layout.First.{First}
use Rattle.array_eval.specs.Layouts.{number_of, slot_of, first_in, cells_before, at_slot, AreFirsts, BeginsAt}

-- ---- the arrays before the first one of a name's slot have other names

pub first_within : (slot : ℕ) (arrays : Arrays) → first_in slot arrays ≤ length arrays
first_within slot [] = omega arith
first_within slot (a ∷ more) = cases (nat_eq (slot_of a.0) slot) (first_within slot more)
  where
    cases : (b : Bool) → first_in slot more ≤ length more → cond b 0 (suc (first_in slot more)) ≤ length (a ∷ more)
    cases true h = omega arith
    cases false h = omega arith

pub cells_behind : (slot : ℕ) (arrays : Arrays) → cells_before slot arrays + cells_of (drop (first_in slot arrays) arrays) ≡ cells_of arrays
cells_behind slot [] = refl
cells_behind slot (a ∷ more) = cases (nat_eq (slot_of a.0) slot) (cells_behind slot more)
  where
    cases : (b : Bool) → cells_before slot more + cells_of (drop (first_in slot more) more) ≡ cells_of more →
        cond b 0 (a.1 + cells_before slot more) + cells_of (drop (cond b 0 (suc (first_in slot more))) (a ∷ more)) ≡ cells_of (a ∷ more)
    cases true h = omega arith
    cases false h = omega arith

pub cells_left : (n : ℕ) (arrays : Arrays) → HaveCells arrays → HaveCells (drop n arrays)
cells_left zero arrays h = h
cells_left (suc n) [] h = h
cells_left (suc n) (a ∷ more) h = cells_left n more h.1

other_slot : (a name : List ℕ) → nat_eq (slot_of a) (slot_of name) ≡ false → name_eq a name ≡ true → ⊥
other_slot a name e h =
    let same : slot_of a ≡ slot_of name = ap slot_of (same_text a name (sym h)) in
    false≢true (sym e ∙ let yes' : nat_eq (slot_of a) (slot_of name) ≡ true = grind (arith, nat_tests) in yes')

-- The position of a name's array, by the arrays that are left and the counts of those before them.
pub record IsFound (arrays : Arrays) (name : List ℕ) (count cells : ℕ) (rest : Arrays) : Type 0 where
  pub number : count + number_of rest name ≡ number_of arrays name
  pub base : cells + base_of rest name ≡ base_of arrays name
  pub length : length_of rest name ≡ length_of arrays name

pub found_from_first : (arrays : Arrays) (name : List ℕ) →
    IsFound arrays name (first_in (slot_of name) arrays) (cells_before (slot_of name) arrays) (drop (first_in (slot_of name) arrays) arrays)
found_from_first [] name = record { number = omega arith; base = omega arith; length = refl }
found_from_first (a ∷ more) name =
    cases (nat_eq (slot_of a.0) (slot_of name)) (name_eq a.0 name) refl refl (found_from_first more name)
  where
    cases : (b d : Bool) → nat_eq (slot_of a.0) (slot_of name) ≡ b → name_eq a.0 name ≡ d →
        IsFound more name (first_in (slot_of name) more) (cells_before (slot_of name) more) (drop (first_in (slot_of name) more) more) →
        IsFound (a ∷ more) name (cond b 0 (suc (first_in (slot_of name) more))) (cond b 0 (a.1 + cells_before (slot_of name) more))
        (drop (cond b 0 (suc (first_in (slot_of name) more))) (a ∷ more))
    cases true d e f rest = record { number = omega arith; base = omega arith; length = refl }
    cases false true e f rest = absurd (other_slot a.0 name e f)
    cases false false e f rest = record {
      number = (let behind = rest.number in omega arith) ∙ sym (ap (λ b. cond b 0 (1 + number_of more name)) f);
      base = (let behind = rest.base in omega arith) ∙ sym (ap (λ b. cond b 0 (a.1 + base_of more name)) f);
      length = rest.length ∙ sym (ap (λ b. cond b a.1 (length_of more name)) f);
    }

-- ---- the table

pub no_firsts : (count cells : ℕ) → AreFirsts count cells [] (replicate 256 (record { number = count; base = cells }))
no_firsts count cells = record {
  slots = length-replicate 256 none;
  number = λ slot h. ap (λ f. f.number) (nothing slot h) ∙ (omega arith);
  base = λ slot h. ap (λ f. f.base) (nothing slot h) ∙ (omega arith);
}
  where
    none : First
    none = record { number = count; base = cells }

    nothing : (slot : ℕ) → slot < 256 → at_slot (replicate 256 none) slot ≡ none
    nothing slot h = get_or-replicate 256 slot none (record { number = 0; base = 0 }) h

-- The table with one more array in front.
pub put_first : (count cells : ℕ) (a : List ℕ × ℕ) (more : Arrays) (firsts : List First) → AreFirsts (count + 1) (cells + a.1) more firsts →
    AreFirsts count cells (a ∷ more) (slice_set firsts (slot_of a.0) (record { number = count; base = cells }))
put_first count cells a more firsts before = record {
  slots = length-set firsts (slot_of a.0) (record { number = count; base = cells }) ∙ before.slots;
  number = λ slot h. numbered slot h (nat_eq (slot_of a.0) slot) refl;
  base = λ slot h. based slot h (nat_eq (slot_of a.0) slot) refl;
}
  where
    put : First
    put = record { number = count; base = cells }

    here : (slot : ℕ) → slot < 256 → slot_of a.0 ≡ slot → at_slot (slice_set firsts (slot_of a.0) put) slot ≡ put
    here slot h e = ap (λ s. at_slot (slice_set firsts s put) slot) e
        ∙ get_or-set_same firsts slot put (record { number = 0; base = 0 }) (let many = before.slots in omega arith)

    there : (slot : ℕ) → (slot ≡ slot_of a.0 → ⊥) → at_slot (slice_set firsts (slot_of a.0) put) slot ≡ at_slot firsts slot
    there slot n = get_or-set_other firsts (slot_of a.0) slot put (record { number = 0; base = 0 }) n

    apart : (slot : ℕ) → nat_eq (slot_of a.0) slot ≡ false → slot ≡ slot_of a.0 → ⊥
    apart slot e same = false≢true (sym e ∙ let yes' : nat_eq (slot_of a.0) slot ≡ true = grind (arith, nat_tests) in yes')

    numbered : (slot : ℕ) → slot < 256 → (b : Bool) → nat_eq (slot_of a.0) slot ≡ b →
        (at_slot (slice_set firsts (slot_of a.0) put) slot).number ≡ count + cond b 0 (suc (first_in slot more))
    numbered slot h true e =
        let found = ap (λ f. f.number) (here slot h (let same : slot_of a.0 ≡ slot = grind (arith, nat_tests) in same)) in omega arith
    numbered slot h false e =
        let found = ap (λ f. f.number) (there slot (apart slot e)) in let old = before.number slot h in omega arith

    based : (slot : ℕ) → slot < 256 → (b : Bool) → nat_eq (slot_of a.0) slot ≡ b →
        (at_slot (slice_set firsts (slot_of a.0) put) slot).base ≡ cells + cond b 0 (a.1 + cells_before slot more)
    based slot h true e =
        let found = ap (λ f. f.base) (here slot h (let same : slot_of a.0 ≡ slot = grind (arith, nat_tests) in same)) in omega arith
    based slot h false e =
        let found = ap (λ f. f.base) (there slot (apart slot e)) in let old = before.base slot h in omega arith

-- ---- declarations

pub declared_within : (ds : List ArrayDecl) → HaveCells (arrays_of (map declaration_of ds)) → length ds ≤ cells_of (arrays_of (map declaration_of ds))
declared_within [] h = omega arith
declared_within (d ∷ ds) h = let more = declared_within ds h.1 in let some' = h.0 in omega arith

-- The cells before a declaration, and its own.
pub cells_with : (ds : List ArrayDecl) (n : ℕ) (d : ArrayDecl) → n < length ds →
    cells_of (arrays_of (map declaration_of (take (suc n) ds))) ≡ cells_of (arrays_of (map declaration_of (take n ds))) + unsigned_abs (get_or ds n d).length
cells_with [] n d h = absurd (omega arith)
cells_with (x ∷ ds) zero d h = omega arith
cells_with (x ∷ ds) (suc n) d h = let more = cells_with ds n d (omega arith) in omega arith

pub own_cells : (ds : List ArrayDecl) (left n base : ℕ) (d : ArrayDecl) → left ≡ n + 1 → n < length ds → d ≡ get_or ds n d →
    base ≡ cells_of (arrays_of (map declaration_of (take left ds))) →
    base ≡ cells_of (arrays_of (map declaration_of (take n ds))) + unsigned_abs d.length
own_cells ds left n base d e h is taken =
    taken ∙ ap (λ k. cells_of (arrays_of (map declaration_of (take k ds)))) (let same : left ≡ suc n = omega arith in same)
    ∙ cells_with ds n d h ∙ ap (λ x. cells_of (arrays_of (map declaration_of (take n ds))) + unsigned_abs x.length) (sym is)

pub put_next : (ds : List ArrayDecl) (left n base rest : ℕ) (d : ArrayDecl) (firsts : List First) → left ≡ n + 1 → n < length ds → d ≡ get_or ds n d →
    base ≡ rest + unsigned_abs d.length → AreFirsts left base (arrays_of (map declaration_of (drop left ds))) firsts →
    AreFirsts n rest (arrays_of (map declaration_of (drop n ds))) (slice_set firsts (slot_of d.name) (record { number = n; base = rest }))
put_next ds left n base rest d firsts e h is own before =
    let put : List First = slice_set firsts (slot_of d.name) (record { number = n; base = rest }) in
    let first-here : Arrays → Type 0 = λ arrays. AreFirsts n rest arrays put in
    let from-here : ℕ → Type 0 = λ k. AreFirsts k base (arrays_of (map declaration_of (drop k ds))) firsts in
    let with-own : ℕ → Type 0 = λ b. AreFirsts (n + 1) b (arrays_of (map declaration_of (drop (n + 1) ds))) firsts in
    subst first-here
    (ap (λ x. arrays_of (map declaration_of (x ∷ drop (n + 1) ds))) is ∙ sym (ap (λ xs. arrays_of (map declaration_of xs)) (drop_more ds n d h)))
    (put_first n rest (d.name, unsigned_abs d.length) (arrays_of (map declaration_of (drop (n + 1) ds))) firsts (subst with-own own (subst from-here e before)))

-- The position where the search for a name among declarations begins.
pub record IsStart (ds : List ArrayDecl) (name : List ℕ) (count cells : ℕ) : Type 0 where
  pub within : count ≤ length ds
  pub each : HaveCells (arrays_of (map declaration_of (drop count ds)))
  pub whole : cells + cells_of (arrays_of (map declaration_of (drop count ds))) ≤ 4096
  pub found : IsFound (arrays_of (map declaration_of ds)) name count cells (arrays_of (map declaration_of (drop count ds)))

dropped : (ds : List ArrayDecl) (n : ℕ) → drop n (arrays_of (map declaration_of ds)) ≡ arrays_of (map declaration_of (drop n ds))
dropped ds zero = refl
dropped [] (suc n) = refl
dropped (d ∷ ds) (suc n) = dropped ds n

length-arrays : (ds : List ArrayDecl) → length (arrays_of (map declaration_of ds)) ≡ length ds
length-arrays [] = refl
length-arrays (d ∷ ds) = let more = length-arrays ds in omega arith

first_is_start : (ds : List ArrayDecl) (name : List ℕ) → AreSized (arrays_of (map declaration_of ds)) →
    IsStart ds name (first_in (slot_of name) (arrays_of (map declaration_of ds))) (cells_before (slot_of name) (arrays_of (map declaration_of ds)))
first_is_start ds name sized =
    let arrays = arrays_of (map declaration_of ds) in
    let slot = slot_of name in
    let n = first_in slot arrays in
    let found-in : Arrays → Type 0 = λ rest. IsFound arrays name n (cells_before slot arrays) rest in
    record {
      within = (let inside = first_within slot arrays in let all = length-arrays ds in omega arith);
      each = subst HaveCells (dropped ds n) (cells_left n arrays sized.each);
      whole = (let behind = cells_behind slot arrays in let same = ap cells_of (dropped ds n) in let small = sized.whole in omega arith);
      found = subst found-in (dropped ds n) (found_from_first arrays name);
    }

slot_small : (name : List ℕ) → slot_of name < 256
slot_small name = omega arith

begins_at : (ds : List ArrayDecl) (name : List ℕ) (first : First) → IsStart ds name first.number first.base → BeginsAt (arrays_of (map declaration_of ds)) name first
begins_at ds name first start =
    let arrays = arrays_of (map declaration_of ds) in
    let same : arrays_of (map declaration_of (drop first.number ds)) ≡ drop first.number arrays = sym (dropped ds first.number) in
    record {
      within = (let inside = start.within in let all = length-arrays ds in omega arith);
      each = subst HaveCells same start.each;
      whole = (let e = ap cells_of same in let small = start.whole in omega arith);
      number = (let e = ap (λ rest. number_of rest name) same in let found = start.found.number in omega arith);
      base = (let e = ap (λ rest. base_of rest name) same in let found = start.found.base in omega arith);
      length = sym (ap (λ rest. length_of rest name) same) ∙ start.found.length;
    }

-- A search may begin at the first array.
pub begins_first : (arrays : Arrays) (name : List ℕ) (first : First) → AreSized arrays → first.number ≡ 0 → first.base ≡ 0 → BeginsAt arrays name first
begins_first arrays name first sized number base =
    let same : drop first.number arrays ≡ arrays = ap (λ n. drop n arrays) number in
    record {
      within = omega arith;
      each = subst HaveCells (sym same) sized.each;
      whole = (let e = ap cells_of same in let small = sized.whole in omega arith);
      number = (let e = ap (λ rest. number_of rest name) same in omega arith);
      base = (let e = ap (λ rest. base_of rest name) same in omega arith);
      length = ap (λ rest. length_of rest name) same;
    }

-- A search may begin at the first array of the name's slot, which was read from the table.
pub begins_slot : (ds : List ArrayDecl) (firsts : List First) (cells : ℕ) (name : List ℕ) (slot : ℕ) (first : First) →
    AreSized (arrays_of (map declaration_of ds)) → AreFirsts 0 0 (arrays_of (map declaration_of ds)) firsts → slot ≡ slot_of name → first ≡ get_or firsts slot first →
    BeginsAt (arrays_of (map declaration_of ds)) name first
begins_slot ds firsts cells name slot first sized right at read =
    let arrays = arrays_of (map declaration_of ds) in
    let own = slot_of name in
    let counted : (at_slot firsts own).number ≡ first_in own arrays = (let e = right.number own (slot_small name) in omega arith) in
    let based : (at_slot firsts own).base ≡ cells_before own arrays = (let e = right.base own (slot_small name) in omega arith) in
    let small : slot < length firsts = (let many = right.slots in let inside = slot_small name in omega arith) in
    let same : at_slot firsts own ≡ first =
    ap (at_slot firsts) (sym at) ∙ get_or_default firsts slot (record { number = 0; base = 0 }) first small ∙ sym read in
    let at-count : ℕ → Type 0 = λ n. IsStart ds name n (at_slot firsts own).base in
    let at-base : ℕ → Type 0 = λ b. IsStart ds name (first_in own arrays) b in
    subst (λ (f : First). BeginsAt arrays name f) same
    (begins_at ds name (at_slot firsts own) (subst at-count (sym counted) (subst at-base (sym based) (first_is_start ds name sized))))

-- ---- the search in a layout's own arrays

-- The position where a search may begin, by the declarations.
pub start_of : (ds : List ArrayDecl) (name : List ℕ) (first : First) → BeginsAt (arrays_of (map declaration_of ds)) name first → IsStart ds name first.number first.base
start_of ds name first begins =
    let same : drop first.number (arrays_of (map declaration_of ds)) ≡ arrays_of (map declaration_of (drop first.number ds)) = dropped ds first.number in
    record {
      within = (let inside = begins.within in let all = length-arrays ds in omega arith);
      each = subst HaveCells same begins.each;
      whole = (let e = ap cells_of same in let small = begins.whole in omega arith);
      found = record {
        number = (let e = ap (λ rest. number_of rest name) same in let found = begins.number in omega arith);
        base = (let e = ap (λ rest. base_of rest name) same in let found = begins.base in omega arith);
        length = sym (ap (λ rest. length_of rest name) same) ∙ begins.length;
      };
    }

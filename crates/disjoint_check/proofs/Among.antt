-- Names among others.
use Rattle.std.proofs.lemmas.List.{reverse-append, take_more}
use Rattle.std.proofs.Common.{◌≡◌, ℕ, suc, ◌+◌, ◌<◌, Bool, true, false, not, ◌||◌, List, [], ◌∷◌, ◌++◌, length, map, reverse, take, drop, get_or, drop-cons, add-one, ap, refl, sym, ◌∙◌}
use Rattle.array_tree.specs.declared.tree.ArrayDecl.{ArrayDecl}
use Rattle.array_tree.specs.Trees.{declaration_of}
use Rattle.array_tree.specs.Equal.{name_eq}
use Rattle.array_meaning.specs.Names.{is_among, names_of}
use Rattle.disjoint_check.specs.Faults.{unless, first_fault}
use Rattle.disjoint_check.specs.FirstNames.{duplicate_declaration}

or_assoc : (a b c : Bool) → (a || (b || c)) ≡ ((a || b) || c)
or_assoc true b c = refl
or_assoc false b c = refl

or_comm : (a b : Bool) → (a || b) ≡ (b || a)
or_comm true true = refl
or_comm true false = refl
or_comm false true = refl
or_comm false false = refl

or_none : (a : Bool) → (a || false) ≡ a
or_none true = refl
or_none false = refl

pub among_append : (name : List ℕ) (xs ys : List (List ℕ)) → is_among name (xs ++ ys) ≡ (is_among name xs || is_among name ys)
among_append name [] ys = refl
among_append name (x ∷ xs) ys =
    ap (λ b. name_eq x name || b) (among_append name xs ys) ∙ or_assoc (name_eq x name) (is_among name xs) (is_among name ys)

among_reverse : (name : List ℕ) (xs : List (List ℕ)) → is_among name (reverse xs) ≡ is_among name xs
among_reverse name [] = refl
among_reverse name (x ∷ xs) =
    ap (is_among name) (reverse-append (x ∷ []) xs)
    ∙ among_append name (reverse xs) (x ∷ [])
    ∙ ap (λ b. b || (name_eq x name || false)) (among_reverse name xs)
    ∙ ap (λ b. is_among name xs || b) (or_none (name_eq x name))
    ∙ or_comm (is_among name xs) (name_eq x name)

abbrev names : List ArrayDecl → List (List ℕ)
names ds = names_of (map declaration_of ds)

names_append : (xs ys : List ArrayDecl) → names (xs ++ ys) ≡ names xs ++ names ys
names_append [] ys = refl
names_append (x ∷ xs) ys = ap (λ rest. x.name ∷ rest) (names_append xs ys)

names_more : (ds : List ArrayDecl) (i : ℕ) (d : ArrayDecl) → i < length ds →
    reverse (names (take (i + 1) ds)) ≡ (get_or ds i d).name ∷ reverse (names (take i ds))
names_more ds i d h =
    ap (λ xs. reverse (names xs)) (take_more ds i d h)
    ∙ ap reverse (names_append (take i ds) (get_or ds i d ∷ []))
    ∙ reverse-append (names (take i ds)) ((get_or ds i d).name ∷ [])

-- One declaration of the search for a name that is declared twice.
pub duplicates_next : (ds : List ArrayDecl) (i : ℕ) (d : ArrayDecl) → i < length ds →
    duplicate_declaration (map declaration_of (drop i ds)) (reverse (names (take i ds)))
    ≡ first_fault
    (unless (not (is_among (get_or ds i d).name (names (take i ds)))) (get_or ds i d).line
    ∷ duplicate_declaration (map declaration_of (drop (i + 1) ds)) (reverse (names (take (i + 1) ds)))
    ∷ [])
duplicates_next ds i d h =
    let a = get_or ds i d in
    let before = reverse (names (take i ds)) in
    ap (λ rest. duplicate_declaration (map declaration_of rest) before) (drop-cons ds i d h)
    ∙ ap (λ b. first_fault (unless (not b) a.line ∷ duplicate_declaration (map declaration_of (drop (suc i) ds)) (a.name ∷ before) ∷ []))
    (among_reverse a.name (names (take i ds)))
    ∙ ap (λ taken. first_fault (unless (not (is_among a.name (names (take i ds)))) a.line ∷ duplicate_declaration (map declaration_of (drop (suc i) ds)) taken ∷ []))
    (sym (names_more ds i d h))
    ∙ rw add-one refl

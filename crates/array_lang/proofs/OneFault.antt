-- A text has at most one fault, except a lack of memory. A text that spells a program has none.
use Rattle.std.proofs.Common.{◌≡◌, ℕ, suc, ◌+◌, ◌≤◌, ◌<◌, arith, append_assoc, append-nil, length-append, take-append-drop, take, drop, add-one, length-take, List, [], ◌∷◌, ◌++◌, Some, None, length, refl, sym, ap, ◌∙◌, subst}
use Rattle.std.specs.Prelude.{◌≢◌}
use Rattle.array_tokens.specs.Lexemes.{Spot}
use Rattle.array_tree.specs.Trees.{ProgramTree}
use Rattle.array_lang.specs.Parsing.Scan.{first_nested}
use Rattle.array_lang.specs.Grammar.{SpellsProgram, Begins, StopsAt}
use Rattle.array_lang.specs.Spelled.{Spells, HasFault, in_cutting, in_tokens, no_memory, HasTokenFault, IsUnexpected, IsTooNested, IsAfter, place_of, cutting_fault}
use Rattle.array_lang.specs.declared.fault.SyntaxFault.{SyntaxFault}
use Rattle.array_lang.specs.declared.fault.SyntaxFault.TheVariants.{Unexpected, Memory, TooNested}
use Rattle.array_lang.specs.declared.nesting.Reach.TheVariants.{Outside}
use Rattle.std.proofs.Math.Seq.{take-append_seam}
use Rattle.array_lang.proofs.Places.{scan_places}
use Rattle.array_lang.proofs.Whole.{scan_prefix, none_cut}

-- A program that begins with more tokens begins with fewer.
fewer : (front back : List Spot) → Begins (front ++ back) → Begins front
fewer front back b = (back ++ b.0, b.1, subst (λ ts. SpellsProgram ts b.1) (append_assoc front back b.0) b.2)

next_front : (front rest : List Spot) (t : Spot) → (front ++ t ∷ []) ++ rest ≡ front ++ t ∷ rest
next_front front rest t = append_assoc front (t ∷ []) rest

-- If reading stops, no program is spelled.
none_spelled : (tokens rest : List Spot) (p : ProgramTree) → StopsAt tokens rest → SpellsProgram tokens p → ⊥
none_spelled tokens [] p s d = s.ends p (subst (λ ts. SpellsProgram ts p) (s.all ∙ append-nil s.front) d)
none_spelled tokens (t ∷ rest) p s d =
    s.ends (rest, p, subst (λ ts. SpellsProgram ts p) (s.all ∙ sym (next_front s.front rest t)) d)

-- Two cuts of one list, by which of them is later.
data Later (a b c d : List Spot) : Type 0 where
  second : (m : List Spot) → c ≡ a ++ m → b ≡ m ++ d → Later a b c d
  first : (m : List Spot) → a ≡ c ++ m → d ≡ m ++ b → Later a b c d

later_on : (x : Spot) (a b c d : List Spot) → Later a b c d → Later (x ∷ a) b (x ∷ c) d
later_on x a b c d (second m e f) = second m (ap (λ l. x ∷ l) e) f
later_on x a b c d (first m e f) = first m (ap (λ l. x ∷ l) e) f

compared : (a b c d : List Spot) → a ++ b ≡ c ++ d → Later a b c d
compared [] b c d e = second c refl e
compared (x ∷ a) b [] d e = first (x ∷ a) refl (sym e)
compared (x ∷ a) b (y ∷ c) d e =
    let same : y ≡ x = cc in
    let rest : a ++ b ≡ c ++ d = cc in
    subst (λ z. Later (x ∷ a) b (z ∷ c) d) (sym same) (later_on x a b c d (compared a b c d rest))

-- No program begins with more tokens than those before the token that stops reading.
none_beyond : (tokens rest more m : List Spot) (s : StopsAt tokens rest) → rest ≡ m ++ more → Begins (s.front ++ m) → m ≡ []
none_beyond tokens rest more [] s e b = refl
none_beyond tokens [] more (t ∷ m) s e b = cc
none_beyond tokens (u ∷ rest) more (t ∷ m) s e b =
    let same : t ≡ u = cc in
    absurd (s.ends (subst (λ v. Begins (s.front ++ v ∷ [])) same (fewer (s.front ++ t ∷ []) m (subst Begins (sym (next_front s.front m t)) b))))

-- Reading stops at one position only.
one_stop : (tokens rest rest' : List Spot) → StopsAt tokens rest → StopsAt tokens rest' → rest ≡ rest'
one_stop tokens rest rest' s s' = which (compared s.front rest s'.front rest' (sym s.all ∙ s'.all))
  where
    which : Later s.front rest s'.front rest' → rest ≡ rest'
    which (second m e f) = let none = none_beyond tokens rest rest' m s f (subst Begins e s'.begins) in f ∙ ap (λ l. l ++ rest') none
    which (first m e f) = let none = none_beyond tokens rest' rest m s' f (subst Begins e s.begins) in sym (f ∙ ap (λ l. l ++ rest) none)

-- The first token that exceeds a limit doesn't depend on the tokens after it.
nested_of : (tokens : List Spot) (end at : ℕ) (n : IsTooNested tokens end at) → first_nested tokens ≡ Some n.index
nested_of tokens end at n =
    let front = take (n.index + 1) tokens in
    let within : n.index < length tokens = n.inside in
    let long : length front ≡ n.index + 1 = omega (arith, length-take (n.index + 1) tokens) in
    let scanned : first_nested (front ++ n.begins.0) ≡ Some n.index = scan_places (front ++ n.begins.0) n.begins.1 n.begins.2 ∙ n.beyond in
    let kept = scan_prefix Outside 0 (front ++ n.begins.0) n.index (drop (n.index + 1) tokens) scanned in
    let seam : take (suc n.index) (front ++ n.begins.0) ≡ front
    = ap (λ k. take k (front ++ n.begins.0)) (sym (long ∙ add-one n.index)) ∙ take-append_seam front n.begins.0 in
    ap first_nested (sym (take-append-drop (n.index + 1) tokens) ∙ ap (λ l. l ++ drop (n.index + 1) tokens) (sym seam)) ∙ kept

-- If a token exceeds a limit, reading stops no earlier than that token.
none_both : (tokens : List Spot) (end at at' : ℕ) → IsUnexpected tokens end at → IsTooNested tokens end at' → ⊥
none_both tokens end at at' u n = which (compared (take (n.index + 1) tokens) (drop (n.index + 1) tokens) u.stops.front u.rest
    (take-append-drop (n.index + 1) tokens ∙ u.stops.all))
  where
    long : length (take (n.index + 1) tokens) ≡ n.index + 1
    long = let within : n.index < length tokens = n.inside in omega (arith, length-take (n.index + 1) tokens)

    clash : (m : List Spot) → u.stops.front ≡ take (n.index + 1) tokens ++ m → ⊥
    clash m e =
        let more = u.stops.begins.0 in
        let scanned : first_nested (u.stops.front ++ more) ≡ Some n.index
        = ap (λ l. first_nested (l ++ more)) e ∙ ap first_nested (append_assoc (take (n.index + 1) tokens) m more)
        ∙ ap (λ k. first_nested (take k tokens ++ (m ++ more))) (add-one n.index)
        ∙ scan_prefix Outside 0 tokens n.index (m ++ more) (nested_of tokens end at' n) in
        let after : length u.stops.front ≤ n.index
        = subst (IsAfter (length u.stops.front)) (sym (scan_places (u.stops.front ++ more) u.stops.begins.1 u.stops.begins.2) ∙ scanned) u.within in
        omega (arith, after, ap length e, length-append (take (n.index + 1) tokens) m, long)

    which : Later (take (n.index + 1) tokens) (drop (n.index + 1) tokens) u.stops.front u.rest → ⊥
    which (second m e f) = clash m e
    which (first m e f) =
        let none = none_beyond tokens u.rest (drop (n.index + 1) tokens) m u.stops f (subst Begins e n.begins) in
        clash [] (sym (append-nil u.stops.front) ∙ ap (λ l. u.stops.front ++ l) (sym none) ∙ sym e ∙ sym (append-nil (take (n.index + 1) tokens)))

one_place : (tokens : List Spot) (end at at' : ℕ) → IsUnexpected tokens end at → IsUnexpected tokens end at' → at ≡ at'
one_place tokens end at at' u v =
    u.place ∙ ap (place_of end) (one_stop tokens u.rest v.rest u.stops v.stops) ∙ sym v.place

one_nested : (tokens : List Spot) (end at at' : ℕ) → IsTooNested tokens end at → IsTooNested tokens end at' → at ≡ at'
one_nested tokens end at at' n k =
    let e = nested_of tokens end at n in
    let f = nested_of tokens end at' k in
    let same : n.index ≡ k.index = cc in
    n.place ∙ ap (λ i. place_of end (drop i tokens)) same ∙ sym k.place

one_in_tokens : (tokens : List Spot) (end : ℕ) (f g : SyntaxFault) → f ≢ Memory → g ≢ Memory → HasTokenFault tokens end f → HasTokenFault tokens end g → f ≡ g
one_in_tokens tokens end Memory g nf ng h k = absurd (nf refl)
one_in_tokens tokens end f Memory nf ng h k = absurd (ng refl)
one_in_tokens tokens end (Unexpected at) (Unexpected at') nf ng h k = ap Unexpected (one_place tokens end at at' h k)
one_in_tokens tokens end (TooNested at) (TooNested at') nf ng h k = ap TooNested (one_nested tokens end at at' h k)
one_in_tokens tokens end (Unexpected at) (TooNested at') nf ng h k = absurd (none_both tokens end at at' h k)
one_in_tokens tokens end (TooNested at) (Unexpected at') nf ng h k = absurd (none_both tokens end at' at k h)
one_in_tokens tokens end (Unexpected at) g nf ng h k = absurd k
one_in_tokens tokens end (TooNested at) g nf ng h k = absurd k
one_in_tokens tokens end f g nf ng h k = absurd h

-- No text has two faults.
pub one_fault : (text : List ℕ) (f g : SyntaxFault) → HasFault text f → HasFault text g → f ≢ Memory → g ≢ Memory → f ≡ g
one_fault text f g (no_memory e) k nf ng = absurd (nf e)
one_fault text f g h (no_memory e) nf ng = absurd (ng e)
one_fault text f g (in_cutting c e h nm) (in_cutting d e' k nm') nf ng = let same : c ≡ d = cc in h ∙ ap cutting_fault same ∙ sym k
one_fault text f g (in_cutting c e h nm) (in_tokens ts e' k nm') nf ng = cc
one_fault text f g (in_tokens ts e h nm) (in_cutting c e' k nm') nf ng = cc
one_fault text f g (in_tokens ts e h nm) (in_tokens ts' e' k nm') nf ng =
    let same : ts' ≡ ts = cc in
    one_in_tokens ts (length text) f g nf ng h (subst (λ l. HasTokenFault l (length text) g) same k)

none_in_tokens : (tokens : List Spot) (end : ℕ) (p : ProgramTree) (f : SyntaxFault) → SpellsProgram tokens p → first_nested tokens ≡ None → HasTokenFault tokens end f → f ≡ Memory
none_in_tokens tokens end p Memory d n h = refl
none_in_tokens tokens end p (Unexpected at) d n h = absurd (none_spelled tokens h.rest p h.stops d)
none_in_tokens tokens end p (TooNested at) d n h = let e = nested_of tokens end at h in cc
none_in_tokens tokens end p f d n h = absurd h

-- A text that spells a program has no fault.
pub none_where_spelled : (text : List ℕ) (p : ProgramTree) (f : SyntaxFault) → Spells text p → HasFault text f → f ≡ Memory
none_where_spelled text p f s (no_memory e) = e
none_where_spelled text p f s (in_cutting c e h nm) = absurd (none_cut text c p e s)
none_where_spelled text p f s (in_tokens ts e h nm) =
    let same : s.tokens ≡ ts = let k = sym s.cut ∙ e in cc in
    none_in_tokens ts (length text) p f (subst (λ l. SpellsProgram l p) same s.tree)
    (subst (λ l. first_nested l ≡ None) same (scan_places s.tokens p s.tree ∙ s.fits)) h

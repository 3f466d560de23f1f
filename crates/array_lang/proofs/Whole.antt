-- From tokens to texts.
use Rattle.std.proofs.Common.{◌≡◌, ℕ, zero, suc, ◌+◌, ◌≤◌, ◌<◌, arith, append_assoc, append-nil, length-append, length-take, take-append-drop, take, drop, add-one, Bool, true, false, Option, List, [], ◌∷◌, ◌++◌, Some, None, Result, Ok, Err, length, refl, sym, ap, ◌∙◌, subst}
use Rattle.std.specs.Prelude.{IfOk, IfErr}
use Rattle.array_tokens.specs.Lexemes.{Spot, spots, spot_of, tokens_of, Fails}
use Rattle.array_tokens.specs.declared.token.Token.{Token}
use Rattle.array_tokens.specs.declared.fault.TokenFault.{TokenFault}
use Rattle.array_tokens.specs.declared.fault.TokenFault.TheVariants as cutting
use Rattle.array_tree.specs.Trees.{ProgramTree, program_of}
use Rattle.array_tree.specs.declared.tree.Program.{Program}
use Rattle.array_lang.specs.Parsing.Scan.{reach_after, depth_after, is_over, nested_at, first_nested}
use Rattle.array_lang.specs.Grammar.{SpellsProgram, Begins, StopsAt}
use Rattle.array_lang.specs.Parsing.Machine.{parse_of}
use Rattle.array_lang.specs.Nesting.{later, first_over, first_beyond}
use Rattle.array_lang.specs.Parsing.Reading.{IsWhole}
use Rattle.array_lang.specs.Spelled.{IsRead, Spells, IsUnexpected, IsTooNested, HasFault, HasTokenFault, in_cutting, in_tokens, no_memory, cutting_fault, place_of, IsAfter}
use Rattle.array_lang.specs.declared.nesting.Reach.{Reach}
use Rattle.array_lang.specs.declared.nesting.Reach.TheVariants.{Outside}
use Rattle.array_lang.specs.declared.fault.SyntaxFault.{SyntaxFault}
use Rattle.array_lang.specs.declared.fault.SyntaxFault.TheVariants.{Memory, Unexpected, TooNested}
use Rattle.array_lang.proofs.Complete.{complete}
use Rattle.array_lang.proofs.Places.{scan_places}
use Rattle.array_lang.proofs.Sound.{sound}
use Rattle.array_lang.proofs.Stops.{stops}

-- If the tokens so far have no fault, some program begins with them.
begins_all : (front : List Spot) → StopsAt front [] → Begins front
begins_all front s = subst Begins (sym (append-nil s.front) ∙ sym s.all) s.begins

pub begins_read : (front : List Spot) (p : ProgramTree) → parse_of front ≡ Ok p → Begins front
begins_read front p h = ([], p, rw append-nil (sound front p h))

pub found : (text : List ℕ) (tokens : List Spot) (p : ProgramTree) → tokens_of text ≡ Ok tokens → first_nested tokens ≡ None → parse_of tokens ≡ Ok p → Spells text p
found text tokens p e n h =
    let d : SpellsProgram tokens p = sound tokens p h in
    record { tokens = tokens; cut = e; tree = d; fits = sym (scan_places tokens p d) ∙ n }

same_tokens : (text : List ℕ) (tokens : List Spot) (q : ProgramTree) → tokens_of text ≡ Ok tokens → Spells text q → SpellsProgram tokens q × (first_nested tokens ≡ None)
same_tokens text tokens q e s =
    let same : s.tokens ≡ tokens = let h = sym s.cut ∙ e in cc in
    (subst (λ ts. SpellsProgram ts q) same s.tree, subst (λ ts. first_nested ts ≡ None) same (scan_places s.tokens q s.tree ∙ s.fits))

pub only_found : (text : List ℕ) (tokens : List Spot) (p q : ProgramTree) → tokens_of text ≡ Ok tokens → parse_of tokens ≡ Ok p → Spells text q → p ≡ q
only_found text tokens p q e h s = let k = sym h ∙ complete (same_tokens text tokens q e s).0 in cc

pub only_memory : (text : List ℕ) (tokens : List Spot) (fault : SyntaxFault) (q : ProgramTree) → tokens_of text ≡ Ok tokens → ((p : ProgramTree) → SpellsProgram tokens p → fault ≡ Memory) → Spells text q → fault ≡ Memory
only_memory text tokens fault q e h s = h q (same_tokens text tokens q e s).0

pub none_nested : (text : List ℕ) (tokens : List Spot) (index : ℕ) (q : ProgramTree) → tokens_of text ≡ Ok tokens → first_nested tokens ≡ Some index → Spells text q → ⊥
none_nested text tokens index q e n s = let k = sym n ∙ (same_tokens text tokens q e s).1 in cc

pub none_parsed : (tokens rest : List Spot) (q : ProgramTree) → parse_of tokens ≡ Err rest → SpellsProgram tokens q → ⊥
none_parsed tokens rest q h d = let k = sym h ∙ complete d in cc

pub none_cut : (text : List ℕ) (fault : TokenFault) (q : ProgramTree) → tokens_of text ≡ Err fault → Spells text q → ⊥
none_cut text fault q e s = let k = sym e ∙ s.cut in cc

-- A limit that is exceeded within some tokens is exceeded there whatever follows them.
first_prefix : (b : Bool) (o o' : Option ℕ) (k : ℕ) → first_over b o ≡ Some k → ((j : ℕ) → suc j ≡ k → o ≡ Some j → o' ≡ Some j) → first_over b o' ≡ Some k
first_prefix true o o' k e h = e
first_prefix false None o' k e h = cc
first_prefix false (Some j) o' k e h =
    let s : j + 1 ≡ k = cc in
    ap later (h j (omega (arith, s)) refl) ∙ ap Some s

pub scan_prefix : (r : Reach) (depth : ℕ) (ts : List Spot) (k : ℕ) (more : List Spot) → nested_at r depth ts ≡ Some k → nested_at r depth (take (suc k) ts ++ more) ≡ Some k
scan_prefix r depth [] k more e = cc
scan_prefix r depth (t ∷ ts) k more e =
    first_prefix (is_over (depth_after depth t.lexeme) (reach_after r t.lexeme)) (nested_at (reach_after r t.lexeme) (depth_after depth t.lexeme) ts) (nested_at (reach_after r t.lexeme) (depth_after depth t.lexeme) (take k ts ++ more)) k e
    (λ j s h. subst (λ n. nested_at (reach_after r t.lexeme) (depth_after depth t.lexeme) (take n ts ++ more) ≡ Some j) s (scan_prefix (reach_after r t.lexeme) (depth_after depth t.lexeme) ts j more h))

after_first : (n : ℕ) (b : Bool) (o o' : Option ℕ) → IsAfter (suc n) (first_over b o) → (IsAfter n o → IsAfter n o') → IsAfter (suc n) (first_over b o')
after_first n true o o' a h = a
after_first n false None None a h = tt
after_first n false None (Some k) a h = let q = h tt in omega (arith, q)
after_first n false (Some j) None a h = tt
after_first n false (Some j) (Some k) a h = let q = h (omega (arith, a)) in omega (arith, q)

after_none : (o : Option ℕ) → IsAfter 0 o
after_none None = tt
after_none (Some k) = omega arith

after_prefix : (r : Reach) (depth : ℕ) (front rest more : List Spot) → IsAfter (length front) (nested_at r depth (front ++ rest)) → IsAfter (length front) (nested_at r depth (front ++ more))
after_prefix r depth [] rest more a = after_none (nested_at r depth more)
after_prefix r depth (t ∷ front) rest more a =
    after_first (length front) (is_over (depth_after depth t.lexeme) (reach_after r t.lexeme)) _ _ a
    (λ h. after_prefix (reach_after r t.lexeme) (depth_after depth t.lexeme) front rest more h)

after_beyond : (tokens front rest : List Spot) (b : Begins front) → tokens ≡ front ++ rest → IsAfter (length front) (first_nested tokens) → IsAfter (length front) (first_beyond b.2)
after_beyond tokens front rest b all a =
    subst (IsAfter (length front)) (scan_places (front ++ b.0) b.1 b.2)
    (after_prefix Outside 0 front rest b.0 (subst (λ ts. IsAfter (length front) (first_nested ts)) all a))

beyond : (tokens : List Spot) (index : ℕ) (b : Begins (take (index + 1) tokens)) → first_nested tokens ≡ Some index → first_beyond b.2 ≡ Some index
beyond tokens index b n =
    sym (scan_places (take (index + 1) tokens ++ b.0) b.1 b.2)
    ∙ ap (λ k. first_nested (take k tokens ++ b.0)) (add-one index)
    ∙ scan_prefix Outside 0 tokens index b.0 n

-- No limit is exceeded, and reading stops.
pub unexpected : (tokens rest : List Spot) (end at : ℕ) → first_nested tokens ≡ None → parse_of tokens ≡ Err rest → at ≡ place_of end rest → IsUnexpected tokens end at
unexpected tokens rest end at n h p =
    let s = stops tokens rest h in
    record { rest = rest; stops = s; place = p; within = after_beyond tokens s.front rest s.begins s.all (rw n tt) }

-- A limit is exceeded, and reading stops before.
pub unexpected_before : (tokens front more rest : List Spot) (t : Spot) (end index : ℕ) → tokens ≡ front ++ more → length front ≡ index + 1 → first_nested tokens ≡ Some index → parse_of front ≡ Err (t ∷ rest) → IsUnexpected tokens end t.at
unexpected_before tokens front more rest t end index all long n h =
    let s = stops front (t ∷ rest) h in
    let short : length s.front ≤ index = omega (arith, long, ap length s.all, length-append s.front (t ∷ rest)) in
    let whole : tokens ≡ s.front ++ t ∷ (rest ++ more) = all ∙ ap (λ l. l ++ more) s.all ∙ append_assoc s.front (t ∷ rest) more in
    record {
      rest = t ∷ (rest ++ more);
      stops = record { front = s.front; all = whole; begins = s.begins; ends = s.ends };
      place = refl;
      within = after_beyond tokens s.front (t ∷ (rest ++ more)) s.begins whole (rw n short);
    }

pub unexpected_short : (tokens front more : List Spot) (rest : List Token) (end at index : ℕ) → tokens ≡ front ++ more → length front ≡ index + 1 → first_nested tokens ≡ Some index → parse_of front ≡ Err (spots rest) → 0 < length rest → at ≡ place_of 0 (spots rest) → IsUnexpected tokens end at
unexpected_short tokens front more [] end at index all long n h some p = absurd (omega arith)
unexpected_short tokens front more (t ∷ rest) end at index all long n h some p =
    subst (IsUnexpected tokens end) (sym p) (unexpected_before tokens front more (spots rest) (spot_of t) end index all long n h)

place_inside : (index : ℕ) (tokens : List Spot) (end at : ℕ) → index < length tokens → at ≡ place_of 0 (drop index tokens) → at ≡ place_of end (drop index tokens)
place_inside index [] end at h p = absurd (omega arith)
place_inside zero (t ∷ tokens) end at h p = p
place_inside (suc index) (t ∷ tokens) end at h p = place_inside index tokens end at (omega arith) p

-- A limit is exceeded at this token, and reading doesn't stop before.
pub too_nested : (tokens : List Spot) (end at index : ℕ) → index < length tokens → first_nested tokens ≡ Some index → Begins (take (index + 1) tokens) → at ≡ place_of 0 (drop index tokens) → IsTooNested tokens end at
too_nested tokens end at index within n b p =
    record { index = index; inside = within; begins = b; beyond = beyond tokens index b n; place = place_inside index tokens end at within p }

pub nested_short : (tokens : List Spot) (rest : List Token) (index end at : ℕ) → index < length tokens → first_nested tokens ≡ Some index → parse_of (take (index + 1) tokens) ≡ Err (spots rest) → length rest ≡ 0 → at ≡ place_of 0 (drop index tokens) → IsTooNested tokens end at
nested_short tokens [] index end at within n h none p =
    too_nested tokens end at index within n (begins_all (take (index + 1) tokens) (stops (take (index + 1) tokens) [] h)) p
nested_short tokens (t ∷ rest) index end at within n h none p = absurd (omega arith)

-- A cutting fault is the text's fault.
pub cut_fault : (text : List ℕ) (cause : TokenFault) (fault : SyntaxFault) → Fails cause (tokens_of text) → fault ≡ cutting_fault cause → HasFault text fault
cut_fault text cutting.Memory fault h e = no_memory e
cut_fault text (cutting.NotAscii at) fault h e = in_cutting (cutting.NotAscii at) h e (λ m. let wrong = sym e ∙ m in cc)
cut_fault text (cutting.BadToken at) fault h e = in_cutting (cutting.BadToken at) h e (λ m. let wrong = sym e ∙ m in cc)
cut_fault text (cutting.NumberTooLarge at) fault h e = in_cutting (cutting.NumberTooLarge at) h e (λ m. let wrong = sym e ∙ m in cc)

pub only_fault : (text : List ℕ) (cause : TokenFault) (fault : SyntaxFault) (q : ProgramTree) → Fails cause (tokens_of text) → fault ≡ cutting_fault cause → Spells text q → fault ≡ Memory
only_fault text cutting.Memory fault q h e s = e
only_fault text (cutting.NotAscii at) fault q h e s = absurd (none_cut text _ q h s)
only_fault text (cutting.BadToken at) fault q h e s = absurd (none_cut text _ q h s)
only_fault text (cutting.NumberTooLarge at) fault q h e s = absurd (none_cut text _ q h s)

pub found_whole : (text : List ℕ) (tokens : List Spot) (end : ℕ) (r : Result Program SyntaxFault) → tokens_of text ≡ Ok tokens → first_nested tokens ≡ None → IsWhole tokens end r → IfOk r (λ b. Spells text (program_of b))
found_whole text tokens end (Ok b) e n h = found text tokens (program_of b) e n h
found_whole text tokens end (Err fault) e n h = tt

pub only_whole : (text : List ℕ) (tokens : List Spot) (end : ℕ) (r : Result Program SyntaxFault) → tokens_of text ≡ Ok tokens → IsWhole tokens end r → (p : ProgramTree) → Spells text p → IsRead p r
only_whole text tokens end (Ok b) e h p s = only_found text tokens (program_of b) p e h s
only_whole text tokens end (Err fault) e h p s = only_memory text tokens fault p e h.1 s

-- A fault of the tokens is the text's fault.
pub token_fault : (text : List ℕ) (tokens : List Spot) (fault : SyntaxFault) → tokens_of text ≡ Ok tokens → HasTokenFault tokens (length text) fault → HasFault text fault
token_fault text tokens Memory e h = no_memory refl
token_fault text tokens (Unexpected at) e h = in_tokens tokens e h (λ m. let wrong = m in cc)
token_fault text tokens (TooNested at) e h = in_tokens tokens e h (λ m. let wrong = m in cc)
token_fault text tokens fault e h = absurd h

pub fault_whole : (text : List ℕ) (tokens : List Spot) (r : Result Program SyntaxFault) → tokens_of text ≡ Ok tokens → IsWhole tokens (length text) r → IfErr r (HasFault text)
fault_whole text tokens (Ok b) e h = tt
fault_whole text tokens (Err fault) e h = token_fault text tokens fault e h.0

spots-take : (n : ℕ) (ts : List Token) → spots (take n ts) ≡ take n (spots ts)
spots-take zero ts = refl
spots-take (suc n) [] = refl
spots-take (suc n) (t ∷ ts) = ap (λ l. spot_of t ∷ l) (spots-take n ts)

spots-drop : (n : ℕ) (ts : List Token) → spots (drop n ts) ≡ drop n (spots ts)
spots-drop zero ts = refl
spots-drop (suc n) [] = refl
spots-drop (suc n) (t ∷ ts) = spots-drop n ts

length-spots : (ts : List Token) → length (spots ts) ≡ length ts
length-spots [] = refl
length-spots (t ∷ ts) = ap suc (length-spots ts)

pub short_over : (tokens read over rest : List Token) (index end at : ℕ) → index < length tokens → read ≡ take (index + 1) tokens → over ≡ drop index tokens → first_nested (spots tokens) ≡ Some index → parse_of (spots read) ≡ Err (spots rest) → length rest ≡ 0 → at ≡ place_of 0 (spots over) → IsTooNested (spots tokens) end at
short_over tokens read over rest index end at within r o n h none p =
    nested_short (spots tokens) rest index end at (omega (arith, length-spots tokens)) n
    (ap parse_of (sym (spots-take (index + 1) tokens) ∙ ap spots (sym r)) ∙ h) none
    (p ∙ ap (λ l. place_of 0 (spots l)) o ∙ ap (place_of 0) (spots-drop index tokens))

pub short_unexpected : (tokens read rest : List Token) (index end at : ℕ) → index < length tokens → read ≡ take (index + 1) tokens → first_nested (spots tokens) ≡ Some index → parse_of (spots read) ≡ Err (spots rest) → 0 < length rest → at ≡ place_of 0 (spots rest) → IsUnexpected (spots tokens) end at
short_unexpected tokens read rest index end at within r n h some p =
    unexpected_short (spots tokens) (spots read) (drop (index + 1) (spots tokens)) rest end at index
    (sym (take-append-drop (index + 1) (spots tokens)) ∙ ap (λ l. l ++ drop (index + 1) (spots tokens)) (sym (spots-take (index + 1) tokens) ∙ ap spots (sym r)))
    (ap (λ l. length (spots l)) r ∙ length-spots (take (index + 1) tokens) ∙ omega (arith, length-take (index + 1) tokens))
    n h some p

pub whole_over : (tokens read over : List Token) (index end at : ℕ) → index < length tokens → read ≡ take (index + 1) tokens → over ≡ drop index tokens → first_nested (spots tokens) ≡ Some index → Begins (spots read) → at ≡ place_of 0 (spots over) → IsTooNested (spots tokens) end at
whole_over tokens read over index end at within r o n b p =
    too_nested (spots tokens) end at index (omega (arith, length-spots tokens)) n
    (subst Begins (ap spots r ∙ spots-take (index + 1) tokens) b)
    (p ∙ ap (λ l. place_of 0 (spots l)) o ∙ ap (place_of 0) (spots-drop index tokens))

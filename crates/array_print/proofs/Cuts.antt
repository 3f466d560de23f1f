-- How printed texts are cut into tokens, for any safe rest that follows.
use Rattle.std.proofs.Common.{◌≡◌, ℕ, suc, ◌+◌, List, [], ◌∷◌, ◌++◌, length, take, true, false, Result, Ok, Err, None, refl, sym, ap, ◌∙◌, subst, arith, append_assoc, length-append, append-nil, one-add, nat_lt}
use Rattle.std.proofs.lemmas.Bool.Decides.{nat_tests}
use Rattle.std.specs.List.{prefix_len}
use Rattle.std.proofs.Math.Seq.{drop-append_seam}
use Rattle.std.specs.Prelude.{position, not}
use Rattle.array_tokens.specs.Lexemes.{Lexeme, Spot, gap, piece, front_of, is_ascii, is_name_byte, with_tokens, cut, cut_ascii, tokens_of}
use Rattle.array_tokens.specs.declared.fault.TokenFault.{TokenFault}
use Rattle.array_tokens.proofs.Cutting.{cut_step, newlines, with_tokens-none}
use Rattle.array_lang.specs.Grammar.{spot}

-- One token of this lexeme stands from s up to t.
pub data One (l : Lexeme) : List Spot → List Spot → Type 0 where
  one : {t : List Spot} {a n : ℕ} → One l (spot l a n ∷ t) t

-- No token stands from s up to t.
pub data Nothing : List Spot → List Spot → Type 0 where
  nothing : {t : List Spot} → Nothing t t

-- The first relation holds up to some position, and the second from there.
pub data Then (R S : List Spot → List Spot → Type 0) (s u : List Spot) : Type 0 where
  joined : {t : List Spot} → R s t → S t u → Then R S s u

abbrev pub AreAscii : List ℕ → Type 0
AreAscii [] = Unit {0}
AreAscii (b ∷ bs) = (is_ascii b ≡ true) × AreAscii bs

pub ascii_both : (a b : List ℕ) → AreAscii a → AreAscii b → AreAscii (a ++ b)
ascii_both [] b f g = g
ascii_both (x ∷ a) b f g = (f.0, ascii_both a b f.1 g)

-- No byte of a name follows.
abbrev pub NoName : List ℕ → Type 0
NoName [] = Unit {0}
NoName (b ∷ bs) = is_name_byte b ≡ false

abbrev pub Anything : List ℕ → Type 0
Anything rest = Unit {0}

-- At this position, before this rest, the text becomes tokens that stand in the relation.
pub record Cut (text : List ℕ) (R : List Spot → List Spot → Type 0) (at line : ℕ) (rest : List ℕ) : Type 0 where
  pub last : ℕ
  pub tokens : List Spot
  pub spells : (t : List Spot) → R (tokens ++ t) t
  pub is : cut 0 at line (text ++ rest) ≡ with_tokens tokens (cut 0 (at + length text) last rest)

-- The same at each position, before each safe rest.
pub record CutsInto (text : List ℕ) (R : List Spot → List Spot → Type 0) (Safe : List ℕ → Type 0) : Type 0 where
  pub ascii : AreAscii text
  pub cuts : (rest : List ℕ) → Safe rest → (at line : ℕ) → Cut text R at line rest

with_both : (a b : List Spot) (r : Result (List Spot) TokenFault) → with_tokens a (with_tokens b r) ≡ with_tokens (a ++ b) r
with_both a b (Ok ts) = ap Ok (sym (append_assoc a b ts))
with_both a b (Err e) = refl

-- Two texts in sequence.
pub cuts_both : {R S : List Spot → List Spot → Type 0} {Safe Then' : List ℕ → Type 0} {a b : List ℕ} → CutsInto a R Safe → CutsInto b S Then' → ((rest : List ℕ) → Then' rest → Safe (b ++ rest)) → CutsInto (a ++ b) (Then R S) Then'
cuts_both {R} {S} {Safe} {Then'} {a} {b} f g safe = record {
  ascii = ascii_both a b f.ascii g.ascii;
  cuts = λ rest h at line.
      let x = f.cuts (b ++ rest) (safe rest h) at line in
      let y = g.cuts rest h (at + length a) x.last in
      let long : at + length a + length b ≡ at + length (a ++ b) = omega (arith, length-append a b) in
      record {
        last = y.last;
        tokens = x.tokens ++ y.tokens;
        spells = λ t. subst (λ s. Then R S s t) (sym (append_assoc x.tokens y.tokens t)) (joined (x.spells (y.tokens ++ t)) (y.spells t));
        is = ap (cut 0 at line) (append_assoc a b rest) ∙ x.is ∙ ap (with_tokens x.tokens) y.is
            ∙ with_both x.tokens y.tokens (cut 0 (at + length a + length b) y.last rest)
            ∙ ap (λ n. with_tokens (x.tokens ++ y.tokens) (cut 0 n y.last rest)) long;
      };
}

-- A relation may be replaced by a weaker one.
pub cuts_as : {R S : List Spot → List Spot → Type 0} {Safe : List ℕ → Type 0} {text : List ℕ} → CutsInto text R Safe → ((s t : List Spot) → R s t → S s t) → CutsInto text S Safe
cuts_as f g = record {
  ascii = f.ascii;
  cuts = λ rest h at line. let x = f.cuts rest h at line in record { last = x.last; tokens = x.tokens; spells = λ t. g (x.tokens ++ t) t (x.spells t); is = x.is };
}

-- The condition on the rest may be strengthened.
pub weaker : {R : List Spot → List Spot → Type 0} {Safe Then' : List ℕ → Type 0} {text : List ℕ} → ((rest : List ℕ) → Then' rest → Safe rest) → CutsInto text R Safe → CutsInto text R Then'
weaker f g = record { ascii = g.ascii; cuts = λ rest h. g.cuts rest (f rest h) }

-- A text that is one token.
pub cuts_one : {Safe : List ℕ → Type 0} (b : ℕ) (bs : List ℕ) (l : Lexeme) → AreAscii (b ∷ bs) → ((rest : List ℕ) → Safe rest → (piece l, suc (length bs)) ≡ front_of b (b ∷ (bs ++ rest))) → CutsInto (b ∷ bs) (One l) Safe
cuts_one b bs l small f = record {
  ascii = small;
  cuts = λ rest h at line.
      let step = cut_step (b ∷ (bs ++ rest)) (suc (length bs)) at line (piece l) (omega arith) (omega arith) (f rest h) in
      record {
        last = line + newlines (take (suc (length bs)) (b ∷ (bs ++ rest)));
        tokens = spot l at line ∷ [];
        spells = λ t. one;
        is = step ∙ ap (λ r. with_tokens (spot l at line ∷ []) (cut 0 (at + suc (length bs)) (line + newlines (take (suc (length bs)) (b ∷ (bs ++ rest)))) r)) (drop-append_seam bs rest);
      };
}

-- The empty text.
pub cuts_none : CutsInto [] Nothing Anything
cuts_none = record {
  ascii = tt;
  cuts = λ rest h at line. record { last = line; tokens = []; spells = λ t. nothing; is = ap (λ n. cut 0 n line rest) (omega arith) ∙ sym (with_tokens-none _) };
}

-- A text that is a blank.
cuts_gap : (b : ℕ) → is_ascii b ≡ true → ((rest : List ℕ) → (gap, 1) ≡ front_of b (b ∷ rest)) → CutsInto (b ∷ []) Nothing Anything
cuts_gap b small f = record {
  ascii = (small, tt);
  cuts = λ rest h at line.
      record { last = line + newlines (b ∷ []); tokens = []; spells = λ t. nothing; is = cut_step (b ∷ rest) 1 at line gap (omega arith) (omega arith) (f rest) ∙ sym (with_tokens-none _) };
}

pub cuts_space : CutsInto (32 ∷ []) Nothing Anything
cuts_space = cuts_gap 32 refl (λ rest. refl)

pub cuts_newline : CutsInto (10 ∷ []) Nothing Anything
cuts_newline = cuts_gap 10 refl (λ rest. refl)

all_pass : (bs : List ℕ) → AreAscii bs → prefix_len (λ b. not (not (is_ascii b))) bs ≡ length bs
all_pass [] h = refl
all_pass (b ∷ bs) h = rw h.0 (ap (λ n. 1 + n) (all_pass bs h.1) ∙ one-add (length bs))

no_byte : (bs : List ℕ) → AreAscii bs → position (λ b. not (is_ascii b)) bs ≡ None
no_byte bs h =
    let full : prefix_len (λ b. not (not (is_ascii b))) bs ≡ length bs = all_pass bs h in
    let none : nat_lt (prefix_len (λ b. not (not (is_ascii b))) bs) (length bs) ≡ false = grind (arith, nat_tests) in
    rw none refl

-- The tokens of a complete text.
pub record Whole (text : List ℕ) (R : List Spot → List Spot → Type 0) : Type 0 where
  pub tokens : List Spot
  pub cut_is : tokens_of text ≡ Ok tokens
  pub spells : R tokens []

pub cuts_whole : {R : List Spot → List Spot → Type 0} {Safe : List ℕ → Type 0} {text : List ℕ} → CutsInto text R Safe → Safe [] → Whole text R
cuts_whole {text} f h =
    let x = f.cuts [] h 0 1 in
    record {
      tokens = x.tokens ++ [];
      cut_is = ap (λ o. cut_ascii o text) (no_byte text f.ascii) ∙ ap (cut 0 0 1) (sym (append-nil text)) ∙ x.is;
      spells = x.spells [];
    }

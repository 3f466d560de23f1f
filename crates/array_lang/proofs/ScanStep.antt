-- A step of the scan for tokens that exceed a limit.
use Rattle.std.proofs.Common.{◌≡◌, ℕ, ◌+◌, ◌<◌, List, ◌∷◌, Option, Some, None, length, drop, refl, sym, ap, ◌∙◌, arith, Bool, false, suc, add-one, get_or}
use Rattle.std.proofs.Math.Seq.{drop-cons}
use Rattle.array_tokens.specs.Lexemes.{spots, lexeme_of}
use Rattle.array_tokens.specs.declared.token.Token.{Token}
use Rattle.array_lang.specs.Parsing.Scan.{reach_after, depth_after, is_over, nested_at}
use Rattle.array_lang.specs.Nesting.{later, first_over}
use Rattle.array_lang.specs.declared.nesting.Reach.{Reach}

-- The index in a longer list, with n more tokens in front.
abbrev pub further : ℕ → Option ℕ → Option ℕ
further n None = None
further n (Some k) = Some (n + k)

further_later : (i : ℕ) (o : Option ℕ) → further (i + 1) o ≡ further i (later o)
further_later i None = refl
further_later i (Some k) = ap Some (omega arith)

over_later : (b : Bool) (o : Option ℕ) → false ≡ b → first_over b o ≡ later o
over_later b o e = rw (sym e) refl

pub nested_step : (tokens : List Token) (i : ℕ) (d x : Token) (r r' : Reach) (depth depth' : ℕ) → i < length tokens → x ≡ get_or tokens i d → r' ≡ reach_after r (lexeme_of x.kind) → depth' ≡ depth_after depth (lexeme_of x.kind) → false ≡ is_over depth' r' → further (i + 1) (nested_at r' depth' (spots (drop (i + 1) tokens))) ≡ further i (nested_at r depth (spots (drop i tokens)))
nested_step tokens i d x r r' depth depth' within is e f o =
    let cut : drop i tokens ≡ x ∷ drop (suc i) tokens =
    drop-cons tokens i d within ∙ ap (λ y. y ∷ drop (suc i) tokens) (sym is) in
    further_later i (nested_at r' depth' (spots (drop (i + 1) tokens)))
    ∙ ap (further i) (sym (over_later (is_over depth' r') (nested_at r' depth' (spots (drop (i + 1) tokens))) o))
    ∙ ap (λ n. further i (first_over (is_over depth' r') (nested_at r' depth' (spots (drop n tokens))))) (add-one i)
    ∙ ap (λ q. further i (first_over (is_over depth' q) (nested_at q depth' (spots (drop (suc i) tokens))))) e
    ∙ ap (λ q. further i (first_over (is_over q (reach_after r (lexeme_of x.kind))) (nested_at (reach_after r (lexeme_of x.kind)) q (spots (drop (suc i) tokens))))) f
    ∙ ap (λ ts. further i (nested_at r depth (spots ts))) (sym cut)

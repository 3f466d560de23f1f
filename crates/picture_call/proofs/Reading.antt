-- Reading goes on, or stops at the first fault.
use Rattle.std.proofs.Common.{◌≡◌, ◌∙◌, ◌≤◌, ◌<◌, ◌==◌, ℕ, zero, suc, List, [], ◌∷◌, length, drop, Result, Ok, Err, IfOk, sym, ap, subst, arith}
use Rattle.std.proofs.lemmas.Bool.Decides.{nat_tests}
use Rattle.std.proofs.lemmas.List.Splits.{length-slice_split}
use Rattle.journal_text.specs.Reading.{and_then, lines_of}
use Rattle.journal_text.specs.Seen.{Reads}
use Rattle.journal_text.specs.declared.fault.TextFault.{TextFault}
use Rattle.journal_text.specs.declared.fault.TextFault.TheVariants.{BadLine, BadNumber, WrongCount, Memory}
use Rattle.picture_call.specs.Picture.{behind}

-- What stops the first reading stops the whole.
pub stop : {A B C D : Type 0} (same : A → B) (seen : C → D) (f : B → Result D TextFault) (wanted : Result B TextFault) (fault : TextFault)
    → Reads same wanted (Err fault) → Reads seen (and_then f wanted) (Err fault)
stop same seen f wanted (BadLine line) is = ap (and_then f) is
stop same seen f wanted (BadNumber line) is = ap (and_then f) is
stop same seen f wanted (WrongCount said found) is = ap (and_then f) is
stop same seen f wanted Memory is = tt

-- And where it reads something, the whole goes on from there.
pub go_on : {A B C D : Type 0} (same : A → B) (seen : C → D) (f : B → D) (wanted : Result B TextFault) (x : A) (y : C)
    → Reads same wanted (Ok x) → seen y ≡ f (same x) → Reads seen (and_then (λ b. Ok (f b)) wanted) (Ok y)
go_on same seen f wanted x y is next = subst (λ d. and_then (λ b. Ok (f b)) wanted ≡ Ok d) (sym next) (ap (and_then (λ b. Ok (f b))) is)

-- A result that shows one thing shows whatever equals it.
pub same_answer : {A B F : Type 0} (r : Result A F) (view : A → B) (a b : B) → a ≡ b → IfOk r (λ x. view x ≡ a) → IfOk r (λ x. view x ≡ b)
same_answer (Ok x) view a b same is = is ∙ same
same_answer (Err why) view a b same is = tt

pub behind_some : (n : ℕ) (lines : List (List ℕ)) → n < length lines → behind n lines ≡ Ok (drop n lines)
behind_some n lines more = grind (arith, nat_tests)

pub behind_none : (n : ℕ) (lines : List (List ℕ)) → length lines ≤ n → behind n lines ≡ Err (BadLine 1)
behind_none n lines few = grind (arith, nat_tests)

pub drop_next : {A : Type 0} (i : ℕ) (xs after : List A) (x : A) → drop i xs ≡ x ∷ after → drop (suc i) xs ≡ after
drop_next zero xs after x is = ap (drop 1) is
drop_next (suc i) [] after x is = cc
drop_next (suc i) (y ∷ ys) after x is = drop_next i ys after x is

-- A text has a line, if it be empty.
pub lines_some : (text : List ℕ) → 0 < length (lines_of text)
lines_some text = omega (arith, length-slice_split (λ byte. byte == 10) text)

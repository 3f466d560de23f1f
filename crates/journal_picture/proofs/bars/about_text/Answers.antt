use Rattle.std.proofs.Common.{◌≡◌, ◌∙◌, ◌∷◌, ℕ, List, [], Option, IfOk, string_bytes, subst, sym, rules}
use Rattle.std.specs.Prelude.{codes}
use Rattle.std.specs.Fmt.{decimal}
use Rattle.std.specs.List.{concat}
use Rattle.journal_picture.specs.declared.shape.Shape.{Shape}
use Rattle.journal_picture.specs.Kinds.{kind_text}
use Rattle.journal_picture.specs.SvgBars.{about_text}
use Rattle.journal_picture.proofs.bars.about_text.Goals as goal

pub returns-in_ok-name-in-Some : goal.returns-in_ok-name-in-Some
returns-in_ok-name-in-Some c =
    let shape = c.in-Some.shape in
    let kind : c.as_str-kind.result.now ≡ kind_text shape.kind = c.as_str-kind.ensures.value ∙ c.in_ok-name-in-Some.ensures in
    let words : IfOk c.format.result (λ about. string_bytes about ≡ concat (codes ", " ∷ c.as_str-kind.result.now ∷ codes ", line " ∷ decimal shape.line ∷ [])) = search rules in
    subst (λ (s : Option Shape). IfOk c.format.result (λ about. string_bytes about ≡ about_text s c.args.hart)) (sym c.in-Some.is)
    (subst (λ (k : List ℕ). IfOk c.format.result (λ about. string_bytes about ≡ concat (codes ", " ∷ k ∷ codes ", line " ∷ decimal shape.line ∷ []))) kind words)

use Rattle.std.proofs.Common.{◌≡◌, ◌∙◌, ◌∷◌, ℕ, List, [], IfOk, string_bytes, ap, subst, rules}
use Rattle.std.specs.Prelude.{codes}
use Rattle.std.specs.Fmt.{decimal}
use Rattle.std.specs.List.{concat}
use Rattle.transfer_table.specs.Entry.{hart_of}
use Rattle.journal_picture.proofs.axis.who_text.Goals as goal

pub returns : goal.returns
returns c =
    let h = c.hart_of-hart.result in
    let s = c.site_of-site.result in
    let words : IfOk c.format.result (λ who. string_bytes who ≡ concat (codes "h" ∷ decimal h ∷ codes " s" ∷ decimal s ∷ [])) = search rules in
    let same = ap (λ (x : ℕ). concat (codes "h" ∷ decimal x ∷ codes " s" ∷ decimal s ∷ [])) c.hart_of-hart.ensures
    ∙ ap (λ (x : ℕ). concat (codes "h" ∷ decimal (hart_of c.args.entry) ∷ codes " s" ∷ decimal x ∷ [])) c.site_of-site.ensures in
    subst (λ (x : List ℕ). IfOk c.format.result (λ who. string_bytes who ≡ x)) same words

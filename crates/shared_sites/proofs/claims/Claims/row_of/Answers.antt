use Rattle.std.proofs.Common.{◌≡◌, ◌∙◌, Some, ap, sym, subst}
use Rattle.std.proofs.lemmas.Option.{same_Some}
use Rattle.step_eval.specs.Nests.{NestedParts}
use Rattle.loop_team.specs.Rows.{RowsFit}
use Rattle.shared_sites.specs.ClaimRows.{IsFirstRow, at_site}
use Rattle.shared_sites.proofs.ClaimRows.{first_row, only_row}
use Rattle.shared_sites.proofs.claims.Claims.row_of.Goals as goal

pub returns-then-rows_fit-clause-first : goal.returns-then-rows_fit-clause-first
returns-then-rows_fit-clause-first c = λ x e.
    let this = c.args.self.now in
    let at : at_site this.sites.items c.args.nested.now.site ≡ Some c.in_ok-rows.rows = sym (c.in_ok-rows.ensures ∙ ap (λ l. at_site l c.nested.inside.site) c.deref.ensures.value ∙ ap (λ (n : NestedParts). at_site this.sites.items n.site) c.nested.view_is) in
    let same = sym c.phases.ensures.same in
    let few = c.if-rows-phases.false in
    subst (IsFirstRow (_) c.args.nested.now) (same_Some c.in_ok-rows.rows.first x e) (first_row this.sites.items c.args.nested.now c.in_ok-rows.rows this.behind at (few ∙ c.phases.ensures.same))

pub returns-else-rows_fit-clause-none : goal.returns-else-rows_fit-clause-none
returns-else-rows_fit-clause-none c = λ e row is fits.
    let this = c.args.self.now in
    let at : at_site this.sites.items c.args.nested.now.site ≡ Some c.in_ok-rows.rows = sym (c.in_ok-rows.ensures ∙ ap (λ l. at_site l c.nested.inside.site) c.deref.ensures.value ∙ ap (λ (n : NestedParts). at_site this.sites.items n.site) c.nested.view_is) in
    let one = only_row this.sites.items c.args.nested.now c.in_ok-rows.rows row this.behind at is in
    let bad = c.if-rows_fit.ensures.1 (subst (λ r. RowsFit this.table.counts.items r c.args.nested.now) one.1 fits) in cc bad

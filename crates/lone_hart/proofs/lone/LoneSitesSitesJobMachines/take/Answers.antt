use Rattle.std.proofs.Common.{◌≡◌, ◌++◌, ◌∷◌, [], ℕ, Bool, true, false, List, subst, sym, ap, ◌∙◌, refl}
use Rattle.std.proofs.lemmas.Option.{same_Some}
use Rattle.transfer_table.specs.Plan.{Plan, IsPlan}
use Rattle.transfer_table.specs.declared.entry.Entry.{Entry}
use Rattle.transfer_table.specs.declared.entry.Entry.TheVariants.{Register, Unregister}
use Rattle.join_book.specs.Books.{HasFailed}
use Rattle.step_eval.specs.Nests.{NestedParts}
use Rattle.lone_hart.specs.Sites.{construct_in, IsOverSite}
use Rattle.job_machines.specs.Accounts.{is_run}
use Rattle.lone_hart.specs.Served.{is_serving}
use Rattle.lone_hart.specs.declared.site.LoneSite.{LoneSite}
use Rattle.lone_hart.proofs.ServedSites.{pool_run, team_run, not_failed}
use Rattle.lone_hart.proofs.lone.LoneSitesSitesJobMachines.take.Goals as goal

-- A site's account implies that its construct was run.
abbrev Reports : LoneSite → NestedParts → Type 0
Reports site nested = (p : Plan) (before es : List Entry) (hart : ℕ) → IsPlan p → is_serving site p nested.site (before ++ Register hart nested.site ∷ []) es
    → is_run p before (es ++ Unregister hart nested.site ∷ []) nested

false_if : (b : Bool) → ¬ (b ≡ true) → b ≡ false
false_if false no_it = refl
false_if true no_it = absurd (no_it refl)

pub returns-in-Pool-clause-ran : goal.returns-in-Pool-clause-ran
returns-in-Pool-clause-ran g c = λ nested is.
    let own = c.in-Pool.nested in
    let same : own ≡ nested = same_Some own nested (sym (ap construct_in c.in-Pool.is) ∙ is) in
    let ended = subst IsOverSite c.in-Pool.is c.requires.over in
    not_failed c.take_from_pool.result (HasFailed c.in-Pool.pool.book) (Reports c.args.site nested) c.take_from_pool.ensures.failed
    (λ well. subst (Reports c.args.site) same (λ p before es hart plan serving.
    pool_run own c.in-Pool.pool p before es hart well ended.1 plan (subst (λ s. is_serving s p own.site (before ++ Register hart own.site ∷ []) es) c.in-Pool.is serving).1))

pub returns-in-Team-clause-ran : goal.returns-in-Team-clause-ran
returns-in-Team-clause-ran g c = λ nested is.
    let team = c.in-Team.team in
    let same : team.nested ≡ nested = same_Some team.nested nested (sym (ap construct_in c.in-Team.is) ∙ is) in
    not_failed c.take_all.result (team.failed ≡ true) (Reports c.args.site nested) c.take_all.ensures.failed
    (λ well. subst (Reports c.args.site) same (λ p before es hart plan serving.
    team_run team p before es hart (false_if team.failed well) (subst IsOverSite c.in-Team.is c.requires.over) plan
    (subst (λ s. is_serving s p team.nested.site (before ++ Register hart team.nested.site ∷ []) es) c.in-Team.is serving).1))

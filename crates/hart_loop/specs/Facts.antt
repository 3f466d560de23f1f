-- What contracts see of a site of several harts.
use Rattle.std.specs.Prelude.{ℕ, Option, Some, None, option_map}
use Rattle.array_jobs.specs.Jobs.{JobParts}
use Rattle.step_eval.specs.Nests.{NestedParts}
use Rattle.hart_work.specs.Accounts.{Account}
use Rattle.hart_work.specs.Sites.{SiteFacts}
use Rattle.shared_sites.specs.References.{site_at}
use Rattle.shared_sites.specs.declared.shared_site.SharedSite.{SharedSite}
use Rattle.hart_loop.specs.Openings.{IsOpened, kept_in}
use Rattle.hart_loop.specs.declared.hart_site.HartSite.{HartSite}

-- The site of a scheduler that isn't the base's; otherwise the base.
abbrev pub site_or_base : Option SharedSite → ℕ
site_or_base None = 0
site_or_base (Some shared) = site_at shared

-- The site's number.
abbrev pub number_in : {S : Type 0} → (S → SharedSite) → HartSite S → ℕ
number_in held site = site_or_base (option_map held (kept_in site.placement))

-- The account of several harts, which is never right: they share the table, so none keeps an account of its entries for sites.
abbrev pub no_account : Account
no_account p around start es = ⊥

-- Lock-protected state may have changed at every look. So a site owes nothing, and counts as settled and as done as soon as the
-- scheduler was made for its construct.
abbrev pub hart_facts : {S : Type 0} → (S → SharedSite) → SiteFacts (HartSite S) JobParts NestedParts
hart_facts held = record {
  construct = λ site. site.opened;
  number = number_in held;
  settled = IsOpened held;
  owed = λ site job. IsOpened held site;
  over = IsOpened held;
  failed = λ site. ⊥;
  serving = λ site. no_account;
  lent = λ site job. no_account;
  left = λ site. site.turns;
}

-- What contracts see of a site of several harts: its calls keep whether its scheduler was made for its construct.
use Rattle.std.proofs.Common.{◌≡◌, ◌<◌, ℕ, sym, ap, subst, arith}
use Rattle.std.specs.Prelude.{IfSome, option_map}
use Rattle.array_jobs.specs.Jobs.{JobParts}
use Rattle.job_machines.specs.Accounts.{is_fresh_job}
use Rattle.sched_api.specs.declared.scheduler.Next.{Next}
use Rattle.sched_api.specs.declared.scheduler.Next.TheVariants.{Run, Lend, Nothing}
use Rattle.hart_work.specs.Sites.{HasNext, HasAccount, Gives, Stays}
use Rattle.shared_sites.specs.declared.shared_site.SharedSite.{SharedSite}
use Rattle.hart_loop.specs.Facts.{hart_facts, site_or_base}
use Rattle.hart_loop.specs.Openings.{IsOpened, IsMadeFor, kept_in}
use Rattle.hart_loop.specs.declared.hart_site.HartSite.{HartSite}

-- Fewer actions are left after any.
fewer : {J : Type 0} (before after : ℕ) (next : Next J) → after < before → HasNext before next after
fewer before after (Run job) less = less
fewer before after (Lend child) less = less
fewer before after Nothing less = omega (arith, less)

owed : {J A : Type 0} (next : Next J) → A → HasAccount A (λ job. A) next
owed (Run job) is = is
owed (Lend child) is = is
owed Nothing is = is

opened : {S : Type 0} (held : S → SharedSite) (before after : HartSite S) → after.opened ≡ before.opened → after.placement ≡ before.placement → IsOpened held before → IsOpened held after
opened held before after same placed is =
    subst (λ o. IfSome o (IsMadeFor (option_map held (kept_in after.placement)))) (sym same)
    (subst (λ p. IfSome before.opened (IsMadeFor (option_map held (kept_in p)))) (sym placed) is)

-- Any action is right.
pub gives_any : {S : Type 0} (held : S → SharedSite) (before after : HartSite S) (next : Next JobParts) → after.opened ≡ before.opened → after.placement ≡ before.placement → after.turns < before.turns →
    IsOpened held before → Gives (hart_facts held) is_fresh_job before next after
gives_any held before after next same placed less is = record {
  construct = same;
  left = fewer before.turns after.turns next less;
  account = owed next (opened held before after same placed is);
  over = λ none home. opened held before after same placed is;
  served = λ p around start es never. absurd never;
}

-- A turn changes nothing else.
pub stays_turned : {S : Type 0} (held : S → SharedSite) (before after : HartSite S) → after.opened ≡ before.opened → after.placement ≡ before.placement → after.turns < before.turns →
    Stays (hart_facts held) before after
stays_turned held before after same placed less = record {
  construct = same;
  number = ap (λ p. site_or_base (option_map held (kept_in p))) placed;
  settled = opened held before after same placed;
  owed = λ job. opened held before after same placed;
  serving = λ p around start es never. never;
  lent = λ job p around start es never. never;
  left = omega (arith, less);
}

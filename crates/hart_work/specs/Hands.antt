-- The effects of the calls of a hand on a site's scheduler.
use Rattle.std.specs.Prelude.{◌≡◌, List, ℕ}
use Rattle.transfer_table.specs.Plan.{Plan}
use Rattle.transfer_table.specs.declared.entry.Entry.{Entry}
use Rattle.sched_api.specs.declared.hearing.Told.{Told}
use Rattle.sched_api.specs.declared.scheduler.Next.{Next}
use Rattle.hart_work.specs.Sites.{SiteFacts, Stays, Gives}
use Rattle.hart_work.specs.declared.at.At.{At}

-- The hand is on the same site of the same hart, whose hart-local state is unchanged.
pub record IsSameHand {R M H S T : Type 0} (lent : H → T) (before after : At R M H S) : Type 0 where
  pub sites : after.sites.ghost_name ≡ before.sites.ghost_name
  pub site : after.site.ghost_name ≡ before.site.ghost_name
  pub hart_local : lent after.sites.now ≡ lent before.sites.now

-- The site's scheduler got this callback, which changed nothing that counts.
pub record Hears {R M H S T J N : Type 0} (lent : H → T) (f : SiteFacts S J N)
    (hears_at : S → Told → S → Type 0) (before : At R M H S) (told : Told)
    (after : At R M H S) : Type 0 where
  pub same : IsSameHand lent before after
  pub hears : hears_at before.site.now told after.site.now
  pub stays : Stays f before.site.now after.site.now

-- The site, if it was settled, gave this action.
pub record Answers {R M H S T J N : Type 0} (lent : H → T) (f : SiteFacts S J N)
    (fresh : Plan → ℕ → List Entry → J → Type 0) (before : At R M H S) (next : Next J)
    (after : At R M H S) : Type 0 where
  pub same : IsSameHand lent before after
  pub gives : f.settled before.site.now → Gives f fresh before.site.now next after.site.now

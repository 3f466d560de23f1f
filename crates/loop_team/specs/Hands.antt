-- The calls of a hart's hand on a shared team. A look is one read of the team under its lock.
use Rattle.std.specs.Prelude.{◌≡◌, ◌⊎◌, ℕ, ◌+◌, ◌<◌, ◌≤◌, List, [], ◌∷◌, ◌++◌, Option, Some, None}
use Rattle.array_jobs.specs.Jobs.{JobParts}
use Rattle.claim_words.specs.declared.seat_view.Look.{Look}
use Rattle.claim_words.specs.declared.seat_view.LookKind.{LookKind}
use Rattle.claim_words.specs.Claims.{look}
use Rattle.claim_words.specs.Seats.{identity, seat_view, ClaimGives}
use Rattle.claim_words.specs.declared.claimed.Claimed.{Claimed}
use Rattle.hart_port.specs.Count.{Rose}
use Rattle.sched_api.specs.declared.scheduler.Next.{Next}
use Rattle.sched_api.specs.declared.scheduler.Next.TheVariants.{Run, Lend, Nothing}
use Rattle.loop_team.specs.declared.found.Found.{Found}
use Rattle.loop_team.specs.declared.found.Found.TheVariants as found
use Rattle.loop_team.specs.declared.hand.TeamHand.{TeamHand}
use Rattle.step_eval.specs.declared.work.Work.{Work}
use Rattle.step_eval.specs.declared.work.Work.TheVariants.{Begin, Ready}
use Rattle.loop_team.specs.Teams.{phases_in, members_in}

-- No call of a hand changes its team, its claim counters, and the hart of its seat.
pub record IsSameHand {R : Type 0} (before after : TeamHand R) : Type 0 where
  pub team : after.shared ≡ before.shared
  pub claims : after.claims ≡ before.claims
  pub row : after.row ≡ before.row
  pub name : after.seat.ghost_name ≡ before.seat.ghost_name
  pub identity : identity after.seat.now ≡ identity before.seat.now

-- The hand's last look had this result.
pub record HasFound {R : Type 0} (before : TeamHand R) (what : Found)
    (after : TeamHand R) : Type 0 where
  pub looked : Rose before.looks after.looks
  pub last : after.found ≡ what

-- The seat's last claim was a member: the job is that of the team, its phase and index.
pub record HasClaimed {R : Type 0} (before : TeamHand R) (job : JobParts)
    (after : TeamHand R) : Type 0 where
  pub site : job.site ≡ before.shared.now.site
  pub phase : job.phase < phases_in before.shared.now
  pub place : job.place < members_in before.shared.now
  pub earlier : List (ℕ × ℕ)
  pub claimed : (seat_view after.seat.now).claimed ≡ ((seat_view before.seat.now).claimed ++ earlier)
      ++ (before.row + job.phase, job.place) ∷ []

-- The word that the seat read last is the claim counter of a phase, and shows at least as many claims as the phase has members.
pub record NoneWasLeft {R : Type 0} (before after : TeamHand R) : Type 0 where
  pub phase : ℕ
  pub there : phase < phases_in before.shared.now
  pub earlier : List Look
  pub kind : LookKind
  pub shown : ℕ
  pub full : members_in before.shared.now ≤ shown
  pub looks : (seat_view after.seat.now).looks ≡ ((seat_view before.seat.now).looks ++ earlier)
      ++ look (before.row + phase) kind shown ∷ []

-- The work that runs was found under the lock, or is a member that was claimed.
abbrev pub Begins : {R : Type 0} → TeamHand R → Work → TeamHand R → Type 0
Begins before (Begin job) after = HasFound before found.Work after ⊎ HasClaimed before job after
Begins before (Ready context) after = HasFound before found.Work after

-- The cause of a result of `enter`, all of it found by the call. `enter` meets a child's wish, or returns `Nothing` for a team
-- that isn't handed out, only if no member was left to be claimed.
abbrev pub HasCause : {R : Type 0} → TeamHand R → Next Work → TeamHand R → Type 0
HasCause before (Run work) after = Begins before work after
HasCause before (Lend child) after = HasFound before found.Wish after × NoneWasLeft before after
HasCause before Nothing after =
    HasFound before found.HandedOut after
    ⊎ (HasFound before found.Idle after × NoneWasLeft before after)

-- The hand is the same, and the result of `enter` has its cause in what the call found.
pub record Enters {R : Type 0} (before : TeamHand R) (next : Next Work)
    (after : TeamHand R) : Type 0 where
  pub same : IsSameHand before after
  pub cause : HasCause before next after

-- The hand took one more look under the lock, and its seat is unchanged.
pub record HasLooked {R : Type 0} (before after : TeamHand R) : Type 0 where
  pub team : after.shared ≡ before.shared
  pub claims : after.claims ≡ before.claims
  pub row : after.row ≡ before.row
  pub seat : after.seat ≡ before.seat
  pub looked : Rose before.looks after.looks

-- The hand claimed at the claim counter of a phase, and took no look under the lock.
pub record HasTried {R : Type 0} (before : TeamHand R) (phase : ℕ) (answer : Claimed)
    (after : TeamHand R) : Type 0 where
  pub team : after.shared ≡ before.shared
  pub claims : after.claims ≡ before.claims
  pub row : after.row ≡ before.row
  pub name : after.seat.ghost_name ≡ before.seat.ghost_name
  pub identity : identity after.seat.now ≡ identity before.seat.now
  pub looks : after.looks ≡ before.looks
  pub gives : ClaimGives before.claims.now.counts.items (before.row + phase) before.seat.now answer
      after.seat.now

-- The hand may have taken more looks, and its seat read and claimed more.
pub record HasGoneOn {R : Type 0} (before after : TeamHand R) : Type 0 where
  pub same : IsSameHand before after
  pub read : (more : List Look)
      × ((seat_view after.seat.now).looks ≡ (seat_view before.seat.now).looks ++ more)
  pub claimed : (more : List (ℕ × ℕ))
      × ((seat_view after.seat.now).claimed ≡ (seat_view before.seat.now).claimed ++ more)
  pub looks : before.looks ≤ after.looks

-- A turn of `enter`: it has a result, or the hand looks again.
abbrev pub Turns : {R : Type 0} → TeamHand R → Option (Next Work) → TeamHand R → Type 0
Turns before None after = HasGoneOn before after
Turns before (Some next) after = Enters before next after

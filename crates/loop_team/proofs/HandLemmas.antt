-- The looks, claims and turns of a hand.
use Rattle.std.proofs.Common.{◌≡◌, ◌⊎◌, ℕ, ◌+◌, ◌<◌, ◌≤◌, List, [], ◌∷◌, ◌++◌, Option, Some, None, inl, inr, refl, sym, ap, ◌∙◌, subst, arith, slice_index}
use Rattle.std.proofs.Math.Nat.{eq-or-lt_of_le}
use Rattle.std.proofs.lemmas.List.{append_assoc, append-nil}
use Rattle.array_jobs.specs.Jobs.{JobParts}
use Rattle.std.specs.Borrow.{Bor, MutBor}
use Rattle.step_eval.specs.Nests.{NestedParts}
use Rattle.claim_words.specs.declared.seat.ClaimSeat.{ClaimSeat}
use Rattle.claim_words.specs.declared.claimed.Claimed.{Claimed}
use Rattle.claim_words.specs.declared.claimed.Claimed.TheVariants.{Member, NoneLeft}
use Rattle.claim_words.specs.declared.seat_view.Look.{Look}
use Rattle.claim_words.specs.declared.seat_view.LookKind.{LookKind}
use Rattle.claim_words.specs.declared.seat_view.LookKind.TheVariants as kind
use Rattle.claim_words.specs.Claims.{look}
use Rattle.claim_words.specs.Seats.{identity, seat_view}
use Rattle.hart_port.specs.Count.{Rose}
use Rattle.sched_api.specs.declared.scheduler.Next.{Next}
use Rattle.sched_api.specs.declared.scheduler.Next.TheVariants.{Run, Lend, Nothing}
use Rattle.loop_team.specs.declared.found.Found.{Found}
use Rattle.loop_team.specs.declared.hand.TeamHand.{TeamHand}
use Rattle.step_eval.specs.declared.work.Work.{Work}
use Rattle.step_eval.specs.declared.work.Work.TheVariants.{Begin, Ready}
use Rattle.loop_team.specs.Hands.{IsSameHand, HasFound, HasClaimed, NoneWasLeft, HasCause, Enters, HasLooked, HasTried, HasGoneOn, Turns}
use Rattle.loop_team.specs.Looks.{ReportsReady, ReportsRest}
use Rattle.loop_team.specs.Rows.{RowsFit}
use Rattle.loop_team.specs.Teams.{phases_in, members_in}

-- ---- counters that rise, and lists that grow

rose_least : (a b : ℕ) → Rose a b → a ≤ b
rose_least a b (inl less) = omega (arith, less)
rose_least a b (inr same) = (let e = same.1 in omega (arith, e))

rose_after : (a b c : ℕ) → a ≤ b → Rose b c → Rose a c
rose_after a b c least (inl less) = inl (omega (arith, least, less))
rose_after a b c least (inr same) = at (eq-or-lt_of_le least)
  where
    at : (a ≡ b) ⊎ (a < b) → Rose a c
    at (inl e) = inr (e ∙ same.0, same.1 ∙ sym e)
    at (inr less) = (let e = same.1 in inl (omega (arith, less, e)))

grown : {X : Type 0} → (xs ys zs one two : List X) → ys ≡ xs ++ one → zs ≡ ys ++ two → zs ≡ xs ++ (one ++ two)
grown xs ys zs one two first second = second ∙ ap (λ l. l ++ two) first ∙ append_assoc xs one two

grown_last : {X : Type 0} → (xs ys zs one two : List X) (x : X) → ys ≡ xs ++ one → zs ≡ (ys ++ two) ++ x ∷ [] → zs ≡ (xs ++ (one ++ two)) ++ x ∷ []
grown_last xs ys zs one two x first second = second ∙ ap (λ l. l ++ x ∷ []) (grown xs ys (ys ++ two) one two first refl)

-- The last read of a claim that found no member left.
abbrev ReadLast : ℕ → ℕ → ℕ → List Look → List Look → Type 0
ReadLast row count shown before after = (after ≡ before ++ look row kind.Look shown ∷ [])
    ⊎ ((n : ℕ) × (n < count) × (after ≡ before ++ look row kind.Look n ∷ look row kind.Draw shown ∷ []))

module _ {R : Type 0} where
  -- ---- a look

  looked_same : (before after : TeamHand R) → HasLooked before after → IsSameHand before after
  looked_same before after looked = record {
    team = looked.team;
    claims = looked.claims;
    row = looked.row;
    name = ap (λ (s : MutBor ClaimSeat). s.ghost_name) looked.seat;
    identity = ap (λ (s : MutBor ClaimSeat). identity s.now) looked.seat;
  }

  looked_on : (before after : TeamHand R) → HasLooked before after → HasGoneOn before after
  looked_on before after looked = record {
    same = looked_same before after looked;
    read = ([], ap (λ (s : MutBor ClaimSeat). (seat_view s.now).looks) looked.seat ∙ sym (append-nil _));
    claimed = ([], ap (λ (s : MutBor ClaimSeat). (seat_view s.now).claimed) looked.seat ∙ sym (append-nil _));
    looks = rose_least before.looks after.looks looked.looked;
  }

  found_of : (before after : TeamHand R) (what : Found) → HasLooked before after → after.found ≡ what → HasFound before what after
  found_of before after what looked e = record { looked = looked.looked; last = e }

  pub ready_turn : (before after : TeamHand R) (next : Option (Next Work)) → HasLooked before after → ReportsReady after.found next → Turns before next after
  ready_turn before after None looked reports = looked_on before after looked
  ready_turn before after (Some (Run (Begin job))) looked reports = record { same = looked_same before after looked; cause = inl (found_of before after _ looked reports) }
  ready_turn before after (Some (Run (Ready context))) looked reports = record { same = looked_same before after looked; cause = found_of before after _ looked reports }
  ready_turn before after (Some (Lend child)) looked reports = absurd reports
  ready_turn before after (Some Nothing) looked reports = record { same = looked_same before after looked; cause = inl (found_of before after _ looked reports) }

  -- ---- a claim

  tried_same : (before after : TeamHand R) (phase : ℕ) (answer : Claimed) → HasTried before phase answer after → IsSameHand before after
  tried_same before after phase answer tried = record { team = tried.team; claims = tried.claims; row = tried.row; name = tried.name; identity = tried.identity }

  -- A member whose job is gone.
  pub empty_turn : (before after : TeamHand R) (phase m : ℕ) → HasTried before phase (Member m) after → HasGoneOn before after
  empty_turn before after phase m tried = record {
    same = tried_same before after phase (Member m) tried;
    read = (look (before.row + phase) kind.Look tried.gives.2.0 ∷ look (before.row + phase) kind.Draw m ∷ [], tried.gives.2.2);
    claimed = ((before.row + phase, m) ∷ [], tried.gives.1);
    looks = (let e = tried.looks in omega (arith, e));
  }

  -- A member whose job it is.
  pub member_turn : (before after : TeamHand R) (phase m : ℕ) (job : JobParts) → RowsFit before.claims.now.counts.items before.row before.shared.now →
      phase < phases_in before.shared.now → HasTried before phase (Member m) after → job.site ≡ before.shared.now.site → job.phase ≡ phase → job.place ≡ m → Enters before (Run (Begin job)) after
  member_turn before after phase m job fits there tried same_site same_phase same_place = record {
    same = tried_same before after phase (Member m) tried;
    cause = inr (record {
      site = same_site;
      phase = subst (λ n. n < phases_in before.shared.now) (sym same_phase) there;
      place = (let below = tried.gives.0 in let count = fits.same phase there in omega (arith, below, count, same_place));
      earlier = [];
      claimed = tried.gives.1 ∙ ap (λ l. l ++ (before.row + phase, m) ∷ []) (sym (append-nil (seat_view before.seat.now).claimed))
          ∙ ap (λ n. ((seat_view before.seat.now).claimed ++ []) ++ (before.row + n, m) ∷ []) (sym same_phase)
          ∙ ap (λ n. ((seat_view before.seat.now).claimed ++ []) ++ (before.row + job.phase, n) ∷ []) (sym same_place);
    });
  }

  -- No member is left, and the hand looks under the lock.
  none_left : (before mid after : TeamHand R) (phase shown : ℕ) → RowsFit before.claims.now.counts.items before.row before.shared.now →
      phase < phases_in before.shared.now → HasTried before phase (NoneLeft shown) mid → HasLooked mid after → NoneWasLeft before after
  none_left before mid after phase shown fits there tried looked = at tried.gives.2
    where
      last : (seat_view after.seat.now).looks ≡ (seat_view mid.seat.now).looks
      last = ap (λ (s : MutBor ClaimSeat). (seat_view s.now).looks) looked.seat

      full : members_in before.shared.now ≤ shown
      full = (let most = tried.gives.0 in let count = fits.same phase there in omega (arith, most, count))

      told : (earlier : List Look) (k : LookKind) → (seat_view mid.seat.now).looks ≡ ((seat_view before.seat.now).looks ++ earlier) ++ look (before.row + phase) k shown ∷ [] → NoneWasLeft before after
      told earlier k read = record { phase = phase; there = there; earlier = earlier; kind = k; shown = shown; full = full; looks = last ∙ read }

      at : ReadLast (before.row + phase) (slice_index before.claims.now.counts.items (before.row + phase)) shown (seat_view before.seat.now).looks (seat_view mid.seat.now).looks → NoneWasLeft before after
      at (inl read) = told [] kind.Look (read ∙ ap (λ l. l ++ look (before.row + phase) kind.Look shown ∷ []) (sym (append-nil _)))
      at (inr drew) = told (look (before.row + phase) kind.Look drew.0 ∷ []) kind.Draw (drew.2 ∙ sym (append_assoc _ (look (before.row + phase) kind.Look drew.0 ∷ []) _))

  same_after : (before mid after : TeamHand R) → IsSameHand before mid → IsSameHand mid after → IsSameHand before after
  same_after before mid after first second = record {
    team = second.team ∙ first.team;
    claims = second.claims ∙ first.claims;
    row = second.row ∙ first.row;
    name = second.name ∙ first.name;
    identity = second.identity ∙ first.identity;
  }

  pub goes_on : (before mid after : TeamHand R) → HasGoneOn before mid → HasGoneOn mid after → HasGoneOn before after
  goes_on before mid after first second = record {
    same = same_after before mid after first.same second.same;
    read = (first.read.0 ++ second.read.0, grown _ _ _ _ _ first.read.1 second.read.1);
    claimed = (first.claimed.0 ++ second.claimed.0, grown _ _ _ _ _ first.claimed.1 second.claimed.1);
    looks = (let a = first.looks in let b = second.looks in omega (arith, a, b));
  }

  tried_on : (before after : TeamHand R) (phase shown : ℕ) → HasTried before phase (NoneLeft shown) after → HasGoneOn before after
  tried_on before after phase shown tried = record {
    same = tried_same before after phase (NoneLeft shown) tried;
    read = read tried.gives.2;
    claimed = ([], tried.gives.1 ∙ sym (append-nil _));
    looks = (let e = tried.looks in omega (arith, e));
  }
    where
      read : ReadLast (before.row + phase) (slice_index before.claims.now.counts.items (before.row + phase)) shown (seat_view before.seat.now).looks (seat_view after.seat.now).looks → (more : List Look) × ((seat_view after.seat.now).looks ≡ (seat_view before.seat.now).looks ++ more)
      read (inl one) = (look (before.row + phase) kind.Look shown ∷ [], one)
      read (inr two) = (look (before.row + phase) kind.Look two.0 ∷ look (before.row + phase) kind.Draw shown ∷ [], two.2)

  found_after : (before mid after : TeamHand R) (what : Found) → mid.looks ≡ before.looks → HasLooked mid after → after.found ≡ what → HasFound before what after
  found_after before mid after what same looked e = record { looked = subst (λ n. Rose n after.looks) same looked.looked; last = e }

  pub rest_turn : (before mid after : TeamHand R) (phase shown : ℕ) (next : Option (Next Work)) → RowsFit before.claims.now.counts.items before.row before.shared.now →
      phase < phases_in before.shared.now → HasTried before phase (NoneLeft shown) mid → HasLooked mid after → ReportsRest after.found next → Turns before next after
  rest_turn before mid after phase shown None fits there tried looked reports =
      goes_on before mid after (tried_on before mid phase shown tried) (looked_on mid after looked)
  rest_turn before mid after phase shown (Some next) fits there tried looked reports = record {
    same = same_after before mid after (tried_same before mid phase _ tried) (looked_same mid after looked);
    cause = cause_of next reports;
  }
    where
      found : (what : Found) → after.found ≡ what → HasFound before what after
      found what e = found_after before mid after what tried.looks looked e

      none : NoneWasLeft before after
      none = none_left before mid after phase shown fits there tried looked

      cause_of : (next : Next Work) → ReportsRest after.found (Some next) → HasCause before next after
      cause_of (Run (Begin job)) reports = inl (found _ reports)
      cause_of (Run (Ready context)) reports = found _ reports
      cause_of (Lend child) reports = (found _ reports, none)
      cause_of Nothing (inl out) = inl (found _ out)
      cause_of Nothing (inr idle) = inr (found _ idle, none)

  -- ---- more turns

  pub not_moved : (hand : TeamHand R) → HasGoneOn hand hand
  not_moved hand = record {
    same = record { team = refl; claims = refl; row = refl; name = refl; identity = refl };
    read = ([], sym (append-nil _));
    claimed = ([], sym (append-nil _));
    looks = omega arith;
  }

  later_found : (before mid after : TeamHand R) (what : Found) → HasGoneOn before mid → HasFound mid what after → HasFound before what after
  later_found before mid after what gone has = record { looked = rose_after _ _ _ gone.looks has.looked; last = has.last }

  later_none : (before mid after : TeamHand R) → HasGoneOn before mid → NoneWasLeft mid after → NoneWasLeft before after
  later_none before mid after gone none = record {
    phase = none.phase;
    there = (let e = ap (λ (s : Bor NestedParts). phases_in s.now) gone.same.team in let t = none.there in omega (arith, e, t));
    earlier = gone.read.0 ++ none.earlier;
    kind = none.kind;
    shown = none.shown;
    full = (let e = ap (λ (s : Bor NestedParts). members_in s.now) gone.same.team in let f = none.full in omega (arith, e, f));
    looks = grown_last _ _ _ _ _ _ gone.read.1 none.looks ∙ ap (λ r. ((seat_view before.seat.now).looks ++ (gone.read.0 ++ none.earlier)) ++ look (r + none.phase) none.kind none.shown ∷ []) gone.same.row;
  }

  later_claimed : (before mid after : TeamHand R) (job : JobParts) → HasGoneOn before mid → HasClaimed mid job after → HasClaimed before job after
  later_claimed before mid after job gone has = record {
    site = has.site ∙ ap (λ (s : Bor NestedParts). s.now.site) gone.same.team;
    phase = (let e = ap (λ (s : Bor NestedParts). phases_in s.now) gone.same.team in let t = has.phase in omega (arith, e, t));
    place = (let e = ap (λ (s : Bor NestedParts). members_in s.now) gone.same.team in let t = has.place in omega (arith, e, t));
    earlier = gone.claimed.0 ++ has.earlier;
    claimed = grown_last _ _ _ _ _ _ gone.claimed.1 has.claimed ∙ ap (λ r. ((seat_view before.seat.now).claimed ++ (gone.claimed.0 ++ has.earlier)) ++ (r + job.phase, job.place) ∷ []) gone.same.row;
  }

  pub later_enters : (before mid after : TeamHand R) (next : Next Work) → HasGoneOn before mid → Enters mid next after → Enters before next after
  later_enters before mid after next gone enters = record { same = same_after before mid after gone.same enters.same; cause = cause_of next enters.cause }
    where
      cause_of : (next : Next Work) → HasCause mid next after → HasCause before next after
      cause_of (Run (Begin job)) (inl has) = inl (later_found before mid after _ gone has)
      cause_of (Run (Begin job)) (inr has) = inr (later_claimed before mid after job gone has)
      cause_of (Run (Ready context)) has = later_found before mid after _ gone has
      cause_of (Lend child) has = (later_found before mid after _ gone has.0, later_none before mid after gone has.1)
      cause_of Nothing (inl has) = inl (later_found before mid after _ gone has)
      cause_of Nothing (inr has) = inr (later_found before mid after _ gone has.0, later_none before mid after gone has.1)

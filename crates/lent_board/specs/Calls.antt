-- What a seat knows after each call of the board.
use Rattle.std.specs.Prelude.{◌≡◌, ◌≢◌, ℕ, ◌+◌, ◌-◌, ◌≤◌, Bool, true, false, List, [], ◌∷◌, ◌++◌, Result, Ok, Err}
use Rattle.transfer_table.specs.Plan.{Plan}
use Rattle.transfer_table.specs.Entry.{registers, requested}
use Rattle.transfer_table.specs.declared.entry.Entry.{Entry}
use Rattle.transfer_table.specs.declared.entry.Entry.TheVariants.{Register, Enter, Skip}
use Rattle.hart_port.specs.PortView.{is_in, with_site}
use Rattle.hart_port.specs.Words.{is_claimed, is_closed, is_wanted, flight_of}
use Rattle.hart_port.specs.declared.port.Taken.{Taken}
use Rattle.hart_port.specs.declared.port.Entered.{Entered}
use Rattle.hart_port.specs.declared.port.Entered.TheVariants.{Inside, NotWanted, Moved}
use Rattle.hart_port.specs.declared.port.Seen.{Seen}
use Rattle.hart_port.specs.declared.port.Seen.TheVariants.{Empty, Flying, Held}
use Rattle.board_rule.specs.declared.view.View.{View}
use Rattle.board_rule.specs.declared.view.Look.{Look}
use Rattle.board_rule.specs.declared.view.LookKind.TheVariants as look
use Rattle.board_rule.specs.declared.view.Marks.{Marks}
use Rattle.board_rule.specs.Words.{others_at}
use Rattle.board_rule.specs.declared.layout.Layout.{Layout}
use Rattle.board_rule.specs.declared.layout.Layout.TheVariants.{Owners, Guests}
use Rattle.board_rule.specs.Rule.{SawChildren}
use Rattle.board_rule.specs.Views.{look_at, looked, home_marks, see_gone_view, drained_marks, empty_marks}

-- The view after an entry: the new owner, the entry last among the hart's entries, the index that was drawn for it in the
-- journal, the new marks, and the words that the call read. Everything else is unchanged.
abbrev pub did : Entry → ℕ → ℕ → Marks → List Look → View → View
did e place o m words v = record v {
  owner = o;
  mine = v.mine ++ e ∷ [];
  places = v.places ++ place ∷ [];
  marks = m;
  looks = v.looks ++ words;
}

-- A call that reads no word: the hart made the entry, at some index of the journal.
abbrev pub Makes : Entry → ℕ → Marks → View → View → Type 0
Makes e o m v w = (place : ℕ)
    × (w ≡ record v {
      owner = o;
      mine = v.mine ++ e ∷ [];
      places = v.places ++ place ∷ [];
      marks = m;
    })

-- A register: the claim found the site unclaimed, and the hart made its Register, having made neither Register nor Request of
-- the site before. Or the claim found the site claimed.
abbrev pub Registers : View → ℕ → Result (Unit {0}) Taken → View → Type 0
Registers v x (Ok done) w =
    (found place : ℕ) × (is_claimed found ≡ false)
    × (w ≡ did (Register v.hart x) place x (home_marks x v.marks) (look_at x look.Claim found ∷ []) v)
    × (registers x v.mine ≡ 0) × (requested x v.mine ≡ 0)
Registers v x (Err taken) w =
    (is_claimed taken.shown ≡ true) × (w ≡ looked x look.Claim taken.shown v)

-- A skip: the claim found the site unclaimed, and the hart made its Skip. Or the claim found the site claimed.
abbrev pub Skips : View → ℕ → Result (Unit {0}) Taken → View → Type 0
Skips v x (Ok done) w =
    (found place : ℕ) × (is_claimed found ≡ false)
    × (w ≡ did (Skip v.hart x) place v.owner v.marks (look_at x look.Claim found ∷ []) v)
Skips v x (Err taken) w =
    (is_claimed taken.shown ≡ true) × (w ≡ looked x look.Claim taken.shown v)

-- When a hart may request more harts: it is its owner's home, hasn't closed the owner, and requests at least one but not too
-- many.
pub record MayAsk (p : Plan) (v : View) (x k : ℕ) : Type 0 where
  pub inside : v.owner ≡ x
  pub home : is_in v.marks.homes x ≡ true
  pub is_open : is_in v.marks.closed x ≡ false
  pub some_hart : 1 ≤ k
  pub few : requested x v.mine + k ≤ p.harts - 1

-- A try to enter: the word that was read wants a hart, the exchange found the same word, and the hart made its Enter. Or the
-- word wants no hart. Or it wants one, and the exchange found another word.
abbrev pub Enters : View → ℕ → Entered → View → Type 0
Enters v x Inside w = (read place : ℕ) × (is_wanted read ≡ true)
    × (w ≡ did (Enter v.hart x) place x v.marks
    (look_at x look.Look read ∷ look_at x look.Reserve read ∷ []) v)
Enters v x (NotWanted shown) w = (is_wanted shown ≡ false) × (w ≡ looked x look.Look shown v)
Enters v x (Moved read found) w =
    (is_wanted read ≡ true) × (read ≢ found)
    × (w ≡ record v {
      looks = v.looks ++ look_at x look.Look read
          ∷ look_at x look.Reserve found ∷ [];
    })

-- A check whether a site is gone: the result is whether the word that was read is closed. If so, the site joins those seen
-- gone. If it wasn't seen gone before, its parent isn't seen empty afterwards.
abbrev pub SeesGone : View → ℕ → Bool → View → Type 0
SeesGone v x answer w = (found : ℕ) × (answer ≡ is_closed found) × (w ≡ see_gone_view x found v)

-- The read of a first word that holds the owners: it has no other hart in the owner, or it has one.
abbrev pub SeesOwners : View → Seen → View → Type 0
SeesOwners v Empty w = (board : ℕ) × (others_at v.plan.harts board v.hart v.owner ≡ false)
    × (w ≡ record v {
      marks = record v.marks { empty = with_site v.marks.empty v.owner };
      looks = v.looks ++ look_at 0 look.LookAtBoard board ∷ [];
    })
SeesOwners v (Flying shown) w = ⊥
SeesOwners v (Held shown) w = (others_at v.plan.harts shown v.hart v.owner ≡ true)
    × (w ≡ looked 0 look.LookAtBoard shown v)

-- A check that finds the owner empty: its word has no guest. If the first word holds the owners, it also has no other hart in
-- the owner.
abbrev pub SeesEmpty : Layout → View → View → Type 0
SeesEmpty Owners v w = (site board : ℕ) × (flight_of site ≡ 0)
    × (others_at v.plan.harts board v.hart v.owner ≡ false)
    × (w ≡ record v {
      marks = empty_marks v;
      looks = v.looks ++ look_at v.owner look.Look site ∷ look_at 0 look.LookAtBoard board ∷ [];
    })
SeesEmpty Guests v w = (site : ℕ) × (flight_of site ≡ 0)
    × (w ≡ record v {
      marks = empty_marks v;
      looks = v.looks ++ look_at v.owner look.Look site ∷ [];
    })

-- A check that finds another hart in the owner, by the first word.
abbrev pub SeesHeld : Layout → View → ℕ → View → Type 0
SeesHeld Owners v shown w = (others_at v.plan.harts shown v.hart v.owner ≡ true)
    × ((site : ℕ) × (flight_of site ≡ 0)
    × (w ≡ record v {
      marks = drained_marks v;
      looks = v.looks ++ look_at v.owner look.Look site
          ∷ look_at 0 look.LookAtBoard shown ∷ [];
    }))
SeesHeld Guests v shown w = ⊥

-- A check whether the owner is empty: it is, or its word has a guest, or the first word has another hart in it.
abbrev pub Sees : Layout → View → Seen → View → Type 0
Sees lay v Empty w = SeesEmpty lay v w
Sees lay v (Flying shown) w = (1 ≤ flight_of shown) × (w ≡ looked v.owner look.Look shown v)
Sees lay v (Held shown) w = SeesHeld lay v shown w

-- When a hart may unregister its owner: it is the home, has closed the owner and seen it empty since, and has seen each child
-- gone.
pub record MayLeaveHome (p : Plan) (v : View) : Type 0 where
  pub home : is_in v.marks.homes v.owner ≡ true
  pub closed : is_in v.marks.closed v.owner ≡ true
  pub empty : is_in v.marks.empty v.owner ≡ true
  pub children : SawChildren p v.marks v.owner

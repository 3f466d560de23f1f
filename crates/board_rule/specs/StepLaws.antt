-- The effect of each kind of step, and of making and joining seats, on the invariant and on the journal. In each law, id is a seat
-- that was not joined into hart 0's, and v is its view.
use Rattle.std.specs.Prelude.{◌≡◌, ◌≢◌, ℕ, ◌+◌, ◌-◌, ◌*◌, ◌%◌, ◌^◌, ◌<◌, ◌≤◌, ◌==◌, [], ◌∷◌, ◌++◌, slice_index, slice_set, bit_or, Some}
use mathlib.Core.Option.{some}
use lib.ListN.{get_elem?}
use prog.Atomic.{either}
use Rattle.transfer_table.specs.Plan.{Plan, IsSite, parent}
use Rattle.transfer_table.specs.Table.{row}
use Rattle.transfer_table.specs.Entry.{enters}
use Rattle.transfer_table.specs.declared.entry.Stage.TheVariants.{Live, Gone}
use Rattle.transfer_table.specs.declared.entry.Entry.{Entry}
use Rattle.transfer_table.specs.declared.entry.Entry.TheVariants.{Register, Request, Enter, Yield, Unregister, Skip}
use Rattle.board_rule.specs.declared.view.View.{View}
use Rattle.board_rule.specs.declared.view.Doing.TheVariants.{Idle, Claiming, Crediting, Reserved, Landing, Leaving, Sealing}
use Rattle.hart_port.specs.Words.{flight_of}
use Rattle.board_rule.specs.declared.layout.Layout.{Layout}
use Rattle.board_rule.specs.declared.layout.Layout.TheVariants.{Owners, Guests}
use Rattle.board_rule.specs.Layouts.{entries_of, Adds}
use Rattle.board_rule.specs.Encodings.{journal_index, spelled, wish_unit, guest_unit}
use Rattle.board_rule.specs.Counts.{busy_at, load, guests}
use Rattle.board_rule.specs.Views.{split_left, split_right, joined_view, spent_view, glance_view, see_gone_view, see_drained_view, see_empty_view, claim_view, reserve_view, done_view, close_view, jot_view, register_view, request_view, enter_view, yield_view, unregister_view, skip_view}
use Rattle.board_rule.specs.Rule.{Stands, IsSeat}
use Rattle.board_rule.specs.Steps.{IsReady, MayFollow, MayClaim, MayReserve, MayRequest, MayYield, MayClose, MaySeeDrained, MaySeeEmpty, MayUnregister}
use Rattle.board_rule.specs.Laws.{St, after_step, Keeps, Appends}

-- ---- these keep the journal

-- Setting the claimed bit of a site keeps the invariant and the journal.
abbrev pub ClaimKeeps : Layout → Type 0
ClaimKeeps lay = (p : Plan) (s : St) (k : Stands lay p s) (id : ℕ) (v : View) (x : ℕ)
    → get_elem? s.views id ≡ some v → IsSeat v → MayClaim p v x
    → Keeps lay p s k (after_step s x (bit_or (slice_index s.words x) 1) id
    (claim_view x (slice_index s.words x) v))

-- Writing an entry at its reserved index keeps the invariant and the journal.
abbrev pub JotKeeps : Layout → Type 0
JotKeeps lay = (p : Plan) (s : St) (k : Stands lay p s) (id : ℕ) (v : View) (place : ℕ) (e : Entry)
    → get_elem? s.views id ≡ some v → IsSeat v → v.drawn ≡ Some record { place = place; entry = e }
    → Keeps lay p s k (after_step s (journal_index p place) (spelled e) id (jot_view v))

-- Adding to the want of a site keeps the invariant and the journal.
abbrev pub CreditKeeps : Layout → Type 0
CreditKeeps lay = (p : Plan) (s : St) (k : Stands lay p s) (id : ℕ) (v : View) (x n : ℕ)
    → get_elem? s.views id ≡ some v → IsSeat v → slice_index s.words x < 2 ^ 64
    → MayFollow v (Crediting x n)
    → Keeps lay p s k (after_step s x ((slice_index s.words x + wish_unit * n) % 2 ^ 64) id (done_view v))

-- A look at a site's word before an Enter keeps the invariant and the journal.
abbrev pub GlanceKeeps : Layout → Type 0
GlanceKeeps lay = (p : Plan) (s : St) (k : Stands lay p s) (id : ℕ) (v : View) (x : ℕ)
    → get_elem? s.views id ≡ some v → IsSeat v → IsReady v
    → Keeps lay p s k (after_step s x (slice_index s.words x) id
    (glance_view x (slice_index s.words x) v))

-- A look at a site's word to see the site gone keeps the invariant and the journal.
abbrev pub SeeGoneKeeps : Layout → Type 0
SeeGoneKeeps lay = (p : Plan) (s : St) (k : Stands lay p s) (id : ℕ) (v : View) (x : ℕ)
    → get_elem? s.views id ≡ some v → IsSeat v → IsReady v → IsSite p x
    → Keeps lay p s k (after_step s x (slice_index s.words x) id
    (see_gone_view x (slice_index s.words x) v))

-- A look at the owner's word to see the owner without a guest keeps the invariant and the journal.
abbrev pub SeeDrainedKeeps : Layout → Type 0
SeeDrainedKeeps lay = (p : Plan) (s : St) (k : Stands lay p s) (id : ℕ) (v : View)
    → get_elem? s.views id ≡ some v → IsSeat v → MaySeeDrained v
    → Keeps lay p s k (after_step s v.owner (slice_index s.words v.owner) id
    (see_drained_view lay (slice_index s.words v.owner) v))

-- A look at a first word that has the owners, to see the owner without another hart inside, keeps the invariant and the journal.
abbrev pub SeeEmptyKeeps : Type 0
SeeEmptyKeeps = (p : Plan) (s : St) (k : Stands Owners p s) (id : ℕ) (v : View)
    → get_elem? s.views id ≡ some v → IsSeat v → MaySeeEmpty v
    → Keeps Owners p s k (after_step s 0 (slice_index s.words 0) id
    (see_empty_view (slice_index s.words 0) v))

-- An exchange that moves one from the want to the guests keeps the invariant and the journal.
abbrev pub ReserveKeeps : Layout → Type 0
ReserveKeeps lay = (p : Plan) (s : St) (k : Stands lay p s) (id : ℕ) (v : View) (x w : ℕ)
    → get_elem? s.views id ≡ some v → IsSeat v → MayReserve p v x w
    → Keeps lay p s k (after_step s x (either (slice_index s.words x == w) (w - wish_unit + guest_unit)
    (slice_index s.words x)) id (reserve_view x w (slice_index s.words x) v))

-- Taking one from the guests, by a hart that has landed, keeps the invariant and the journal.
abbrev pub LandKeeps : Layout → Type 0
LandKeeps lay = (p : Plan) (s : St) (k : Stands lay p s) (id : ℕ) (v : View) (x : ℕ)
    → get_elem? s.views id ≡ some v → IsSeat v → slice_index s.words x < 2 ^ 64
    → MayFollow v (Landing x)
    → Keeps lay p s k (after_step s x ((slice_index s.words x + (2 ^ 64 - guest_unit)) % 2 ^ 64) id
    (done_view v))

-- Taking one from the guests, by a hart that leaves, keeps the invariant and the journal.
abbrev pub LeaveKeeps : Layout → Type 0
LeaveKeeps lay = (p : Plan) (s : St) (k : Stands lay p s) (id : ℕ) (v : View) (x : ℕ)
    → get_elem? s.views id ≡ some v → IsSeat v → slice_index s.words x < 2 ^ 64
    → MayFollow v (Leaving x)
    → Keeps lay p s k (after_step s x ((slice_index s.words x + (2 ^ 64 - guest_unit)) % 2 ^ 64) id
    (done_view v))

-- Setting the closing bit of the owner keeps the invariant and the journal.
abbrev pub CloseKeeps : Layout → Type 0
CloseKeeps lay = (p : Plan) (s : St) (k : Stands lay p s) (id : ℕ) (v : View)
    → get_elem? s.views id ≡ some v → IsSeat v → MayClose v
    → Keeps lay p s k (after_step s v.owner (bit_or (slice_index s.words v.owner) 2) id (close_view v))

-- Setting the closed bit of a site keeps the invariant and the journal.
abbrev pub SealKeeps : Layout → Type 0
SealKeeps lay = (p : Plan) (s : St) (k : Stands lay p s) (id : ℕ) (v : View) (x : ℕ)
    → get_elem? s.views id ≡ some v → IsSeat v → MayFollow v (Sealing x)
    → Keeps lay p s k (after_step s x (bit_or (slice_index s.words x) 4) id (done_view v))

-- Splitting the next hart's seat off hart 0's keeps the invariant and the journal.
abbrev pub SplitKeeps : Layout → Type 0
SplitKeeps lay = (p : Plan) (s : St) (k : Stands lay p s) (id : ℕ) (v : View)
    → get_elem? s.views id ≡ some v → v.hart ≡ 0 → v.plan ≡ p → v.made < p.harts → v.doing ≡ Idle
    → Keeps lay p s k record {
      words = s.words;
      homes = s.homes;
      views = slice_set s.views id (split_left v) ++ split_right v ∷ [];
    }

-- Joining another hart's seat into hart 0's keeps the invariant and the journal.
abbrev pub JoinKeeps : Layout → Type 0
JoinKeeps lay = (p : Plan) (s : St) (k : Stands lay p s) (id other : ℕ) (v w : View)
    → get_elem? s.views id ≡ some v → other ≢ id → get_elem? s.views other ≡ some w
    → v.hart ≡ 0 → IsSeat v → v.doing ≡ Idle → IsSeat w → IsReady w
    → Keeps lay p s k record {
      words = s.words;
      homes = s.homes;
      views = slice_set (slice_set s.views id (joined_view v w)) other spent_view;
    }

-- ---- these make an entry of the journal, each by one addition to the first word

-- The state after the first word has grown. The seat reserves the index that the word had before.
abbrev pub after_tick : Layout → St → ℕ → ℕ → (ℕ → View) → St
after_tick lay s amount id next = let word : ℕ = slice_index s.words 0 in
    after_step s 0 ((word + amount) % 2 ^ 64) id (next (entries_of lay word))

-- The step of a Register appends exactly its entry.
abbrev pub RegisterAppends : Layout → Type 0
RegisterAppends lay = (p : Plan) (s : St) (k : Stands lay p s) (id : ℕ) (v : View) (x amount : ℕ)
    → get_elem? s.views id ≡ some v → IsSeat v → v.doing ≡ Claiming x → Adds lay v.owner v.hart x amount
    → Appends lay p s k (Register v.hart (busy_at v.doing))
    (after_tick lay s amount id (λ place. register_view place v))

-- The step of a Request appends exactly its entry.
abbrev pub RequestAppends : Layout → Type 0
RequestAppends lay = (p : Plan) (s : St) (k : Stands lay p s) (id : ℕ) (v : View) (n amount : ℕ)
    → get_elem? s.views id ≡ some v → IsSeat v → MayRequest p v n → Adds lay v.owner v.hart v.owner amount
    → Appends lay p s k (Request v.hart v.owner n)
    (after_tick lay s amount id (λ place. request_view n place v))

-- The step of an Enter appends exactly its entry.
abbrev pub EnterAppends : Layout → Type 0
EnterAppends lay = (p : Plan) (s : St) (k : Stands lay p s) (id : ℕ) (v : View) (x amount : ℕ)
    → get_elem? s.views id ≡ some v → IsSeat v → v.doing ≡ Reserved x → Adds lay v.owner v.hart x amount
    → Appends lay p s k (Enter v.hart (busy_at v.doing))
    (after_tick lay s amount id (λ place. enter_view lay place v))

-- The step of a Yield appends exactly its entry.
abbrev pub YieldAppends : Layout → Type 0
YieldAppends lay = (p : Plan) (s : St) (k : Stands lay p s) (id : ℕ) (v : View) (amount : ℕ)
    → get_elem? s.views id ≡ some v → IsSeat v → MayYield v → Adds lay v.owner v.hart (parent p v.owner) amount
    → Appends lay p s k (Yield v.hart v.owner)
    (after_tick lay s amount id (λ place. yield_view lay place v))

-- The step of an Unregister appends exactly its entry.
abbrev pub UnregisterAppends : Layout → Type 0
UnregisterAppends lay = (p : Plan) (s : St) (k : Stands lay p s) (id : ℕ) (v : View) (amount : ℕ)
    → get_elem? s.views id ≡ some v → IsSeat v → MayUnregister p v
    → Adds lay v.owner v.hart (parent p v.owner) amount
    → Appends lay p s k (Unregister v.hart v.owner)
    (after_tick lay s amount id (λ place. unregister_view place v))

-- The step of a Skip appends exactly its entry.
abbrev pub SkipAppends : Layout → Type 0
SkipAppends lay = (p : Plan) (s : St) (k : Stands lay p s) (id : ℕ) (v : View) (x amount : ℕ)
    → get_elem? s.views id ≡ some v → IsSeat v → v.doing ≡ Claiming x → Adds lay v.owner v.hart v.owner amount
    → Appends lay p s k (Skip v.hart (busy_at v.doing))
    (after_tick lay s amount id (λ place. skip_view place v))

-- ---- what follows from the invariant

-- A gone site stays gone over an entry, so a site that a seat saw gone stays gone.
abbrev pub GoneStaysGone : Layout → Type 0
GoneStaysGone lay = (p : Plan) (s s' : St) (k : Stands lay p s) (e : Entry) → (step : Appends lay p s k e s')
    → (x : ℕ) → IsSite p x → (row k.table x).stage ≡ Gone → (row (step.0).table x).stage ≡ Gone

-- The harts that a site requested are its want, the harts reserved to the site, the harts that entered it, and the wishes not yet
-- added to the want.
abbrev pub WantsBalance : Layout → Type 0
WantsBalance lay = (p : Plan) (s : St) (k : Stands lay p s) (x : ℕ) → (site : IsSite p x)
    → (k.sites x site).want + (load x s.views).reserves + enters x k.journal
    + (load x s.views).credits ≡ (row k.table x).asked

-- In the layout that counts guests, a site's word shows the number of guests, and a site that isn't live has none.
abbrev pub GuestsAreShown : Type 0
GuestsAreShown = (p : Plan) (s : St) (k : Stands Guests p s) (x : ℕ) → IsSite p x
    → (flight_of (slice_index s.words x) ≡ guests Guests p k.table s.views x)
    × ((row k.table x).stage ≢ Live → guests Guests p k.table s.views x ≡ 0)

-- The want and the guests are each fewer than the harts: a hart counts at most once, and the home doesn't count.
abbrev pub GuestsAreFew : Type 0
GuestsAreFew = (p : Plan) (s : St) (k : Stands Guests p s) (x : ℕ) → (site : IsSite p x)
    → (guests Guests p k.table s.views x ≤ p.harts - 1) × ((k.sites x site).want ≤ p.harts - 1)

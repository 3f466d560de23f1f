-- Each kind of step is allowed, and what the step shows its seat.
use Rattle.std.proofs.Common.{◌≡◌, ℕ, ◌+◌, ◌-◌, ◌*◌, ◌%◌, ◌^◌, ◌<◌, ◌==◌, slice_index, List, sym, ap, subst, arith, bit_or, Some}
use mathlib.Core.Option.{some}
use lib.ListN.{get_elem?}
use prog.Atomic.{either}
use Rattle.atomic_table.specs.Table.{Allows, Me}
use Rattle.transfer_table.specs.Plan.{Plan, IsSite, parent, room}
use Rattle.transfer_table.specs.Allowed.{IsAllowed}
use Rattle.transfer_table.specs.Entry.{registers, requested}
use Rattle.transfer_table.specs.declared.entry.Entry.{Entry}
use Rattle.transfer_table.specs.declared.entry.Entry.TheVariants.{Register, Request, Enter, Yield, Unregister, Skip}
use Rattle.board_rule.specs.declared.view.View.{View}
use Rattle.board_rule.specs.declared.view.LookKind.TheVariants as look
use Rattle.board_rule.specs.declared.view.Doing.{Doing}
use Rattle.board_rule.specs.declared.view.Doing.TheVariants.{Claiming, Crediting, Reserved, Landing, Leaving, Sealing}
use Rattle.board_rule.specs.declared.layout.Layout.{Layout}
use Rattle.board_rule.specs.declared.layout.Layout.TheVariants.{Owners}
use Rattle.board_rule.specs.Layouts.{entries_of, Adds}
use Rattle.board_rule.specs.Encodings.{journal_index, spelled}
use Rattle.board_rule.specs.Counts.{busy_at}
use Rattle.board_rule.specs.Views.{claim_view, reserve_view, glance_view, see_gone_view, see_drained_next, see_drained_view, see_empty_view, close_view, done_view, jot_view, register_view, request_view, enter_view, yield_view, unregister_view, skip_view}
use Rattle.board_rule.specs.Rule.{Stands, IsSeat, DoesRight}
use Rattle.board_rule.specs.Steps.{IsReady, MayFollow, MayClaim, MayReserve, MayRequest, MayYield, MayClose, MaySeeDrained, MaySeeEmpty, MayUnregister}
use Rattle.board_rule.specs.Laws.{St}
use Rattle.board_rule.proofs.Asked.{new_untouched}
use Rattle.board_rule.proofs.Rooms.{has_room}
use Rattle.board_rule.proofs.Bounds.{small_word}
use Rattle.board_rule.proofs.Claims.{claim_keeps, reserve_keeps}
use Rattle.board_rule.proofs.Dones.{credit_keeps, land_keeps, leave_keeps, seal_keeps, close_keeps}
use Rattle.board_rule.proofs.Jots.{jot_keeps}
use Rattle.board_rule.proofs.Looks.{glance_keeps, see_gone_keeps, see_drained_keeps, see_empty_keeps}
use Rattle.board_rule.proofs.Moves.{enter_allowed, enter_appends, yield_allowed, yield_appends, unregister_allowed, unregister_appends}
use Rattle.board_rule.proofs.Registers.{register_allowed, register_appends, skip_allowed, skip_appends, request_allowed, request_appends}
use Rattle.board_rule.proofs.Layouts.{length_of}
use Rattle.board_rule.proofs.Reports.{allowed}
use Rattle.lent_board.specs.Plays.{Reports, noting, nothing_more, IsPlaceOf, IsNewPlace, IsSmall}

abbrev pub M : Type 0
M = Me (Unit {0}) View

module _ (lay : Layout) (p : Plan) (slots id : ℕ) (me : M) (seat : IsSeat me.0) where
  pub claims : (x : ℕ) → MayClaim p me.0 x → Allows (Stands lay p) slots id me x (λ n. bit_or n 1) (Reports (claim_view x) nothing_more me)
  claims x may = allowed lay p slots id me x (λ n. bit_or n 1) (claim_view x) nothing_more (λ _. seat) (λ s k at _. ((claim_keeps lay p s k id me.0 x at seat may).0, tt))

  pub jots : (place : ℕ) (e : Entry) → me.0.drawn ≡ Some record { place = place; entry = e } → Allows (Stands lay p) slots id me (journal_index p place) (λ _. spelled e) (λ _. Reports (λ _. jot_view) nothing_more me (spelled e))
  jots place e drawn = allowed lay p slots id me (journal_index p place) (λ _. spelled e) (λ _. jot_view) nothing_more (λ _. seat) (λ s k at _. ((jot_keeps lay p s k id me.0 place e at seat drawn).0, tt))

  pub credits : (x n : ℕ) → MayFollow me.0 (Crediting x n) → Allows (Stands lay p) slots id me x (λ w. (w + 256 * n) % 2 ^ 64) (Reports (λ _. done_view) nothing_more me)
  credits x n does = allowed lay p slots id me x (λ w. (w + 256 * n) % 2 ^ 64) (λ _. done_view) nothing_more (λ _. seat) (λ s k at small. ((credit_keeps lay p s k id me.0 x n at seat small does).0, tt))

  pub lands : (x : ℕ) → MayFollow me.0 (Landing x) → Allows (Stands lay p) slots id me x (λ w. (w + (2 ^ 64 - 65536)) % 2 ^ 64) (Reports (λ _. done_view) nothing_more me)
  lands x does = allowed lay p slots id me x (λ w. (w + (2 ^ 64 - 65536)) % 2 ^ 64) (λ _. done_view) nothing_more (λ _. seat) (λ s k at small. ((land_keeps lay p s k id me.0 x at seat small does).0, tt))

  pub leaves : (x : ℕ) → MayFollow me.0 (Leaving x) → Allows (Stands lay p) slots id me x (λ w. (w + (2 ^ 64 - 65536)) % 2 ^ 64) (Reports (λ _. done_view) nothing_more me)
  leaves x does = allowed lay p slots id me x (λ w. (w + (2 ^ 64 - 65536)) % 2 ^ 64) (λ _. done_view) nothing_more (λ _. seat) (λ s k at small. ((leave_keeps lay p s k id me.0 x at seat small does).0, tt))

  pub seals : (x : ℕ) → MayFollow me.0 (Sealing x) → Allows (Stands lay p) slots id me x (λ w. bit_or w 4) (Reports (λ _. done_view) nothing_more me)
  seals x does = allowed lay p slots id me x (λ w. bit_or w 4) (λ _. done_view) nothing_more (λ _. seat) (λ s k at _. ((seal_keeps lay p s k id me.0 x at seat does).0, tt))

  pub glances : (x : ℕ) → IsReady me.0 → IsSite p x → Allows (Stands lay p) slots id me x (λ n. n) (Reports (glance_view x) IsSmall me)
  glances x ready site = allowed lay p slots id me x (λ n. n) (glance_view x) IsSmall (λ _. seat) (λ s k at _. ((glance_keeps lay p s k id me.0 x at seat ready).0, small_word lay p s k x site))

  pub sees_gone : (x : ℕ) → IsReady me.0 → IsSite p x → Allows (Stands lay p) slots id me x (λ n. n) (Reports (see_gone_view x) nothing_more me)
  sees_gone x ready site = allowed lay p slots id me x (λ n. n) (see_gone_view x) nothing_more (λ _. seat) (λ s k at _. ((see_gone_keeps lay p s k id me.0 x at seat ready site).0, tt))

  pub sees_drained : (x : ℕ) → me.0.owner ≡ x → MaySeeDrained me.0 → Allows (Stands lay p) slots id me x (λ n. n) (Reports (noting x look.Look (see_drained_next lay)) nothing_more me)
  sees_drained x is may = subst (λ (q : ℕ). Allows (Stands lay p) slots id me q (λ n. n) (Reports (noting q look.Look (see_drained_next lay)) nothing_more me)) is
      (allowed lay p slots id me me.0.owner (λ n. n) (see_drained_view lay) nothing_more (λ _. seat) (λ s k at _. ((see_drained_keeps lay p s k id me.0 at seat may).0, tt)))

  pub sees_empty : lay ≡ Owners → MaySeeEmpty me.0 → Allows (Stands lay p) slots id me 0 (λ n. n) (Reports see_empty_view nothing_more me)
  sees_empty owners may = subst (λ (q : Layout). Allows (Stands q p) slots id me 0 (λ n. n) (Reports see_empty_view nothing_more me)) (sym owners)
      (allowed Owners p slots id me 0 (λ n. n) see_empty_view nothing_more (λ _. seat) (λ s k at _. ((see_empty_keeps p s k id me.0 at seat may).0, tt)))

  pub reserves : (x w : ℕ) → MayReserve p me.0 x w → Allows (Stands lay p) slots id me x (λ n. either (n == w) (w - 256 + 65536) n) (Reports (reserve_view x w) nothing_more me)
  reserves x w may = allowed lay p slots id me x (λ n. either (n == w) (w - 256 + 65536) n) (reserve_view x w) nothing_more (λ _. seat) (λ s k at _. ((reserve_keeps lay p s k id me.0 x w at seat may).0, tt))

  pub closes : (x : ℕ) → me.0.owner ≡ x → MayClose me.0 → Allows (Stands lay p) slots id me x (λ n. bit_or n 2) (Reports (λ _. close_view) nothing_more me)
  closes x is may = subst (λ (q : ℕ). Allows (Stands lay p) slots id me q (λ n. bit_or n 2) (Reports (λ _. close_view) nothing_more me)) is
      (allowed lay p slots id me me.0.owner (λ n. bit_or n 2) (λ _. close_view) nothing_more (λ _. seat) (λ s k at _. ((close_keeps lay p s k id me.0 at seat may).0, tt)))

  -- The index that the board word shows is inside the journal.
  placed : (s : St) (k : Stands lay p s) (e : Entry) → get_elem? s.views id ≡ some me.0 → IsAllowed p k.table e → entries_of lay (slice_index s.words 0) < room me.0.plan
  placed s k e at a = let less = has_room p k.plan k.journal k.table e k.legal a in let is = length_of lay p k.plan k.few k.journal k.table k.legal (slice_index s.words 0) k.board in
      subst (λ (q : Plan). entries_of lay (slice_index s.words 0) < room q) (sym (k.views id me.0 at seat).itself.plan) (let r : entries_of lay (slice_index s.words 0) < room p = omega arith in r)

  pub registers_at : (x amount : ℕ) → me.0.doing ≡ Claiming x → Adds lay me.0.owner me.0.hart x amount → Allows (Stands lay p) slots id me 0 (λ n. (n + amount) % 2 ^ 64) (Reports (λ n. register_view (entries_of lay n)) (IsNewPlace lay me.0) me)
  registers_at x amount does moves = allowed lay p slots id me 0 (λ n. (n + amount) % 2 ^ 64) (λ n. register_view (entries_of lay n)) (IsNewPlace lay me.0) (λ _. seat) (λ s k at _.
      let know = k.views id me.0 at seat in
      let R : Doing → Type 0 = λ q. DoesRight lay p k.journal k.table me.0 q in
      let right : DoesRight lay p k.journal k.table me.0 (Claiming x) = subst R does know.does in
      let new = new_untouched p k.plan k.journal k.table k.legal x me.0.hart right.0 right.2 in
      let Q : ℕ × List Entry → Type 0 = λ z. (registers z.0 z.1 ≡ 0) × (requested z.0 z.1 ≡ 0) in
      let first = subst Q (λ i. (sym (ap busy_at does) i, sym know.itself.mine i)) new in
      ((register_appends lay p s k id me.0 x amount at seat does moves).0, (placed s k (Register me.0.hart x) at (register_allowed lay p s k id me.0 x at seat does), first.0, first.1)))

  pub skips_at : (x amount : ℕ) → me.0.doing ≡ Claiming x → Adds lay me.0.owner me.0.hart me.0.owner amount → Allows (Stands lay p) slots id me 0 (λ n. (n + amount) % 2 ^ 64) (Reports (λ n. skip_view (entries_of lay n)) (IsPlaceOf lay me.0) me)
  skips_at x amount does adds = allowed lay p slots id me 0 (λ n. (n + amount) % 2 ^ 64) (λ n. skip_view (entries_of lay n)) (IsPlaceOf lay me.0) (λ _. seat) (λ s k at _.
      ((skip_appends lay p s k id me.0 x amount at seat does adds).0, placed s k (Skip me.0.hart x) at (skip_allowed lay p s k id me.0 x at seat does)))

  pub requests : (n amount : ℕ) → MayRequest p me.0 n → Adds lay me.0.owner me.0.hart me.0.owner amount → Allows (Stands lay p) slots id me 0 (λ w. (w + amount) % 2 ^ 64) (Reports (λ w. request_view n (entries_of lay w)) (IsPlaceOf lay me.0) me)
  requests n amount may adds = allowed lay p slots id me 0 (λ w. (w + amount) % 2 ^ 64) (λ w. request_view n (entries_of lay w)) (IsPlaceOf lay me.0) (λ _. seat) (λ s k at _.
      ((request_appends lay p s k id me.0 n amount at seat may adds).0, placed s k (Request me.0.hart me.0.owner n) at (request_allowed lay p s k id me.0 n at seat may)))

  pub enters_at : (x amount : ℕ) → me.0.doing ≡ Reserved x → Adds lay me.0.owner me.0.hart x amount → Allows (Stands lay p) slots id me 0 (λ n. (n + amount) % 2 ^ 64) (Reports (λ n. enter_view lay (entries_of lay n)) (IsPlaceOf lay me.0) me)
  enters_at x amount does moves = allowed lay p slots id me 0 (λ n. (n + amount) % 2 ^ 64) (λ n. enter_view lay (entries_of lay n)) (IsPlaceOf lay me.0) (λ _. seat) (λ s k at _.
      ((enter_appends lay p s k id me.0 x amount at seat does moves).0, placed s k (Enter me.0.hart x) at (enter_allowed lay p s k id me.0 x at seat does)))

  pub yields : (amount : ℕ) → MayYield me.0 → Adds lay me.0.owner me.0.hart (parent p me.0.owner) amount → Allows (Stands lay p) slots id me 0 (λ n. (n + amount) % 2 ^ 64) (Reports (λ n. yield_view lay (entries_of lay n)) (IsPlaceOf lay me.0) me)
  yields amount may moves = allowed lay p slots id me 0 (λ n. (n + amount) % 2 ^ 64) (λ n. yield_view lay (entries_of lay n)) (IsPlaceOf lay me.0) (λ _. seat) (λ s k at _.
      ((yield_appends lay p s k id me.0 amount at seat may moves).0, placed s k (Yield me.0.hart me.0.owner) at (yield_allowed lay p s k id me.0 at seat may)))

  pub unregisters_at : (amount : ℕ) → MayUnregister p me.0 → Adds lay me.0.owner me.0.hart (parent p me.0.owner) amount → Allows (Stands lay p) slots id me 0 (λ n. (n + amount) % 2 ^ 64) (Reports (λ n. unregister_view (entries_of lay n)) (IsPlaceOf lay me.0) me)
  unregisters_at amount may moves = allowed lay p slots id me 0 (λ n. (n + amount) % 2 ^ 64) (λ n. unregister_view (entries_of lay n)) (IsPlaceOf lay me.0) (λ _. seat) (λ s k at _.
      ((unregister_appends lay p s k id me.0 amount at seat may moves).0, placed s k (Unregister me.0.hart me.0.owner) at (unregister_allowed lay p s k id me.0 at seat may)))

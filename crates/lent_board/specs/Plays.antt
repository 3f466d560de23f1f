-- The effect of each kind of step on its seat's view.
use Rattle.std.specs.Prelude.{◌≡◌, ℕ, ◌<◌, ◌++◌, [], ◌∷◌}
use Rattle.atomic_table.specs.Table.{Me, Step}
use Rattle.transfer_table.specs.Plan.{room}
use Rattle.transfer_table.specs.Entry.{registers, requested}
use Rattle.board_rule.specs.declared.view.View.{View}
use Rattle.board_rule.specs.declared.view.LookKind.{LookKind}
use Rattle.board_rule.specs.declared.view.LookKind.TheVariants as look
use Rattle.board_rule.specs.declared.layout.Layout.{Layout}
use Rattle.board_rule.specs.Layouts.{entries_of}
use Rattle.board_rule.specs.Counts.{busy_at}
use Rattle.board_rule.specs.Rule.{FitsPlan}
use Rattle.board_rule.specs.Views.{look_at, claim_next, reserve_next, see_gone_next, see_drained_next, see_empty_next, done_view, close_view, jot_view, register_view, request_view, enter_view, yield_view, unregister_view, skip_view}

-- The new view, by the word that the step found. The view fits the plan, and the word found has a further property.
abbrev pub Reports : (ℕ → View → View) → (ℕ → Type 0) → Me (Unit {0}) View → ℕ
    → Me (Unit {0}) View → Type 0
Reports next more me found after = (after ≡ (next found me.0, me.1)) × FitsPlan after.0 × more found

-- The step notes the word x that it found, as a read of this kind, besides its other effect on the view.
abbrev pub noting : ℕ → LookKind → (ℕ → View → View) → ℕ → View → View
noting x kind next found v = record (next found v) { looks = v.looks ++ look_at x kind found ∷ [] }

-- The step notes no word.
abbrev pub unnoted : (ℕ → View → View) → ℕ → View → View
unnoted next found v = record (next found v) { looks = v.looks }

-- ---- what else the word found shows

-- No further property.
abbrev pub nothing_more : ℕ → Type 0
nothing_more found = Unit {0}

-- The index that was drawn is inside the journal.
abbrev pub IsPlaceOf : Layout → View → ℕ → Type 0
IsPlaceOf lay v found = entries_of lay found < room v.plan

-- The index is inside the journal, and the hart had made neither Register nor Request of the site that it claimed.
abbrev pub IsNewPlace : Layout → View → ℕ → Type 0
IsNewPlace lay v found = (entries_of lay found < room v.plan) × (registers (busy_at v.doing) v.mine ≡ 0)
    × (requested (busy_at v.doing) v.mine ≡ 0)

-- A bound of a site's word, far below the end of its type: the word counts few harts.
abbrev pub word_bound : ℕ
word_bound = 2097152

-- A word below the bound.
abbrev pub IsSmall : ℕ → Type 0
IsSmall found = found < word_bound

-- ---- the kinds of step, each of the step, the seat before, the word found and the seat after

-- A play relates a step, the seat before, the word found, and the seat after.
abbrev pub Play : Type 1
Play = Step (Unit {0}) → Me (Unit {0}) View → ℕ → Me (Unit {0}) View → Type 0

-- Claims a site, and notes the word.
abbrev pub claims : Play
claims step = Reports (noting step.word look.Claim (claim_next step.word)) nothing_more

-- Reads a site's word, and notes it.
abbrev pub glances : Play
glances step = Reports (noting step.word look.Look (λ found v. v)) IsSmall

-- Checks by a site's word whether the site is gone, and notes the word.
abbrev pub sees_gone : Play
sees_gone step = Reports (noting step.word look.Look (see_gone_next step.word)) nothing_more

-- Checks by the owner's word whether it has a guest, and notes the word.
abbrev pub sees_drained : Layout → Play
sees_drained lay step = Reports (noting step.word look.Look (see_drained_next lay)) nothing_more

-- Checks by the first word whether another hart is in the owner, and notes the word.
abbrev pub sees_empty : Play
sees_empty step = Reports (noting step.word look.LookAtBoard see_empty_next) nothing_more

-- Reserves the hart to a site, and notes the word.
abbrev pub reserves : Play
reserves step = Reports (noting step.word look.Reserve (reserve_next step.word step.first)) nothing_more

-- Makes a Register, at the index found.
abbrev pub makes_register : Layout → Play
makes_register lay step me =
    Reports (unnoted (λ found. register_view (entries_of lay found))) (IsNewPlace lay me.0) me

-- Makes a Skip, at the index found.
abbrev pub makes_skip : Layout → Play
makes_skip lay step me = Reports (unnoted (λ found. skip_view (entries_of lay found))) (IsPlaceOf lay me.0) me

-- Makes a Request, at the index found.
abbrev pub makes_request : Layout → ℕ → Play
makes_request lay count step me =
    Reports (unnoted (λ found. request_view count (entries_of lay found))) (IsPlaceOf lay me.0) me

-- Makes an Enter, at the index found.
abbrev pub makes_enter : Layout → Play
makes_enter lay step me = Reports (unnoted (λ found. enter_view lay (entries_of lay found))) (IsPlaceOf lay me.0) me

-- Makes a Yield, at the index found.
abbrev pub makes_yield : Layout → Play
makes_yield lay step me = Reports (unnoted (λ found. yield_view lay (entries_of lay found))) (IsPlaceOf lay me.0) me

-- Makes an Unregister, at the index found.
abbrev pub makes_unregister : Layout → Play
makes_unregister lay step me =
    Reports (unnoted (λ found. unregister_view (entries_of lay found))) (IsPlaceOf lay me.0) me

-- Writes an entry into the journal.
abbrev pub jots : Play
jots step = Reports (unnoted (λ found. jot_view)) nothing_more

-- Makes the step that follows an entry on its site's word.
abbrev pub follows : Play
follows step = Reports (unnoted (λ found. done_view)) nothing_more

-- Sets the owner's closing bit.
abbrev pub shuts : Play
shuts step = Reports (unnoted (λ found. close_view)) nothing_more

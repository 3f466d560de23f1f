-- How the layouts differ for an entry.
use Rattle.std.proofs.Common.{◌≡◌, ◌≢◌, ℕ, ◌+◌, ◌*◌, ◌%◌, ◌^◌, ◌≤◌, List, length, refl, sym, ap, ◌∙◌, subst, arith}
use Rattle.transfer_table.specs.Plan.{Plan, IsPlan, IsSite}
use Rattle.transfer_table.specs.Table.{TableState, effect_of, owner, row}
use Rattle.transfer_table.specs.Journal.{Reaches}
use Rattle.transfer_table.specs.Allowed.{IsAllowed}
use Rattle.transfer_table.specs.Entry.{hart_of, site_of}
use Rattle.transfer_table.specs.declared.entry.Stage.TheVariants.{Live}
use Rattle.transfer_table.specs.declared.entry.Entry.{Entry}
use Rattle.transfer_table.specs.declared.entry.Entry.TheVariants.{Enter, Yield}
use Rattle.transfer_table.proofs.Effects.{owner_after}
use Rattle.transfer_table.specs.Guests.{guests_in, comes_in, goes_out}
use Rattle.transfer_table.proofs.Changes.{guests_change}
use Rattle.board_rule.specs.Places.{is_last}
use Rattle.board_rule.proofs.Rooms.{has_room}
use Rattle.board_rule.specs.declared.layout.Layout.{Layout}
use Rattle.board_rule.specs.declared.layout.Layout.TheVariants.{Owners, Guests}
use Rattle.board_rule.specs.declared.view.View.{View}
use Rattle.board_rule.specs.declared.view.Doing.TheVariants.{Landing, Leaving}
use Rattle.board_rule.specs.Words.{length_unit}
use Rattle.board_rule.specs.Layouts.{HasRoom, first_word, entries_of, Adds, insiders, after_enter, after_yield}
use Rattle.board_rule.specs.Counts.{Load, no_load, weight, part}
use Rattle.board_rule.specs.Rule.{DoesRight}
use Rattle.board_rule.proofs.Fields.{digits_small, entries_is}
use Rattle.board_rule.proofs.BoardWords.{board_next}
use Rattle.board_rule.proofs.Loads.{part-elsewhere, part-here, part-idle}

-- ---- the first word

-- The first word determines the length.
pub length_of : (lay : Layout) (p : Plan) → IsPlan p → HasRoom lay p.harts → (es : List Entry) (t : TableState) → Reaches p es t → (n : ℕ) → n ≡ first_word lay t (length es) → entries_of lay n ≡ length es
length_of Owners p plan few es t leads n is = entries_is n (length es) t.owners is (digits_small p plan few es t leads)
length_of Guests p plan few es t leads n is = is

-- The first word after an entry is the first word of the longer journal.
pub word_next : (lay : Layout) (p : Plan) → IsPlan p → HasRoom lay p.harts → (es : List Entry) (t : TableState) (e : Entry) → Reaches p es t → IsAllowed p t e → (n amount o : ℕ) (v : View) → n ≡ first_word lay t (length es)
    → hart_of e ≡ v.hart → v.owner ≡ owner t v.hart → o ≡ owner_after p e → Adds lay v.owner v.hart o amount → (n + amount) % 2 ^ 64 ≡ first_word lay (effect_of p t e) (length es + 1)
word_next Owners p plan few es t e leads a n amount o v is by own next adds =
    let own' : v.owner ≡ owner t (hart_of e) = own ∙ ap (owner t) (sym by) in
    let P : ℕ × ℕ × ℕ → Type 0 = λ q. amount + q.1 * 4096 ^ q.0 ≡ length_unit + q.2 * 4096 ^ q.0 in
    board_next p plan few es t e leads a n amount is (subst P (λ i. (sym by i, own' i, next i)) adds)
word_next Guests p plan few es t e leads a n amount o v is by own next adds =
    let short = plan.short in let less = has_room p plan es t e leads a in omega arith

-- ---- the guests that are inside

-- An entry changes the insiders of its own site only.
pub insiders_elsewhere : (lay : Layout) (p : Plan) → IsPlan p → (es : List Entry) (t : TableState) (e : Entry) → Reaches p es t → IsAllowed p t e → (y : ℕ) → IsSite p y → y ≢ site_of e → insiders lay p (effect_of p t e) y ≡ insiders lay p t y
insiders_elsewhere Owners p plan es t e leads a y site n = refl
insiders_elsewhere Guests p plan es t e leads a y site n = ((guests_change p es t plan leads).1 e a).elsewhere y site n

-- An entry by which no hart comes or goes leaves them.
pub insiders_stay : (lay : Layout) (p : Plan) → IsPlan p → (es : List Entry) (t : TableState) (e : Entry) → Reaches p es t → IsAllowed p t e → comes_in e ≡ 0 → goes_out e ≡ 0 → insiders lay p (effect_of p t e) (site_of e) ≡ insiders lay p t (site_of e)
insiders_stay Owners p plan es t e leads a none none' = refl
insiders_stay Guests p plan es t e leads a none none' = let here = ((guests_change p es t plan leads).1 e a).here in omega arith

-- A site that isn't live has none.
pub no_insider : (lay : Layout) (p : Plan) → IsPlan p → (es : List Entry) (t : TableState) → Reaches p es t → (y : ℕ) → IsSite p y → (row t y).stage ≢ Live → insiders lay p t y ≡ 0
no_insider Owners p plan es t leads y site idle = refl
no_insider Guests p plan es t leads y site idle = (guests_change p es t plan leads).0.idle y site idle

pub few_insiders : (lay : Layout) (p : Plan) → IsPlan p → (es : List Entry) (t : TableState) → Reaches p es t → (y : ℕ) → IsSite p y → insiders lay p t y ≤ 15
few_insiders Owners p plan es t leads y site = omega arith
few_insiders Guests p plan es t leads y site = let few = (guests_change p es t plan leads).0.few y site in let harts = plan.few_harts in omega arith

-- ---- an Enter

-- A hart that comes in has d left to do at the site. The insiders were m and are m': the hart is among them, or landing.
pub record Comes (d : Load) (m m' : ℕ) : Type 0 where
  pub claims : d.claims ≡ 0
  pub seals : d.seals ≡ 0
  pub reserves : d.reserves ≡ 0
  pub leaves : d.leaves ≡ 0
  pub credits : d.credits ≡ 0
  pub inside : m' + d.lands ≡ m + 1

pub comes_as : (lay : Layout) (p : Plan) → IsPlan p → (es : List Entry) (t : TableState) (h x : ℕ) → Reaches p es t → IsAllowed p t (Enter h x) → Comes (weight (after_enter lay x)) (insiders lay p t x) (insiders lay p (effect_of p t (Enter h x)) x)
comes_as Owners p plan es t h x leads a = record { claims = refl; seals = refl; reserves = refl; leaves = refl; credits = refl; inside = refl }
comes_as Guests p plan es t h x leads a = let here = ((guests_change p es t plan leads).1 (Enter h x) a).here in record { claims = refl; seals = refl; reserves = refl; leaves = refl; credits = refl; inside = here }

pub enter-here : (lay : Layout) (x : ℕ) → part (after_enter lay x) x ≡ weight (after_enter lay x)
enter-here Owners x = part-here (Landing x) x refl
enter-here Guests x = part-idle x

pub enter-elsewhere : (lay : Layout) (x y : ℕ) → y ≢ x → part (after_enter lay x) y ≡ no_load
enter-elsewhere Owners x y n = part-elsewhere (Landing x) y (λ c. n (sym c))
enter-elsewhere Guests x y n = part-idle y

pub enter_right : (lay : Layout) (p : Plan) (es : List Entry) (t : TableState) (v : View) (x : ℕ) → IsSite p x → is_last v.mine (Enter v.hart x) → DoesRight lay p es t v (after_enter lay x)
enter_right Owners p es t v x site last = (site, last, refl)
enter_right Guests p es t v x site last = tt

-- ---- a Yield

-- A hart that goes out has d left to do at the site. It was an insider and is leaving, or it wasn't counted.
pub record Goes (d : Load) (m m' : ℕ) : Type 0 where
  pub claims : d.claims ≡ 0
  pub seals : d.seals ≡ 0
  pub reserves : d.reserves ≡ 0
  pub lands : d.lands ≡ 0
  pub credits : d.credits ≡ 0
  pub inside : m' + d.leaves ≡ m

pub goes_as : (lay : Layout) (p : Plan) → IsPlan p → (es : List Entry) (t : TableState) (h x : ℕ) → Reaches p es t → IsAllowed p t (Yield h x) → Goes (weight (after_yield lay x)) (insiders lay p t x) (insiders lay p (effect_of p t (Yield h x)) x)
goes_as Owners p plan es t h x leads a = record { claims = refl; seals = refl; reserves = refl; lands = refl; credits = refl; inside = refl }
goes_as Guests p plan es t h x leads a = let here = ((guests_change p es t plan leads).1 (Yield h x) a).here in record { claims = refl; seals = refl; reserves = refl; lands = refl; credits = refl; inside = (let z : guests_in p (effect_of p t (Yield h x)) x + 1 ≡ guests_in p t x + 0 = here in omega arith) }

pub yield-here : (lay : Layout) (x : ℕ) → part (after_yield lay x) x ≡ weight (after_yield lay x)
yield-here Owners x = part-idle x
yield-here Guests x = part-here (Leaving x) x refl

pub yield-elsewhere : (lay : Layout) (x y : ℕ) → y ≢ x → part (after_yield lay x) y ≡ no_load
yield-elsewhere Owners x y n = part-idle y
yield-elsewhere Guests x y n = part-elsewhere (Leaving x) y (λ c. n (sym c))

pub yield_right : (lay : Layout) (p : Plan) (es : List Entry) (t : TableState) (v : View) (x : ℕ) → IsSite p x → is_last v.mine (Yield v.hart x) → DoesRight lay p es t v (after_yield lay x)
yield_right Owners p es t v x site last = tt
yield_right Guests p es t v x site last = (site, last, refl)

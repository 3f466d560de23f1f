-- The laws of stays hold.
use Rattle.std.proofs.Common.{◌≡◌, ◌∙◌, ◌≤◌, ℕ, List, [], ◌∷◌, length, take, Some, sym, ap, subst, arith, inl, inr}
use Rattle.transfer_table.specs.Plan.{Plan, IsPlan, IsSite, IsWithin}
use Rattle.transfer_table.specs.Table.{TableState, owner, row, first_state}
use Rattle.transfer_table.specs.Journal.{Reaches}
use Rattle.transfer_table.specs.Laws.{IsBaseOrLive}
use Rattle.transfer_table.specs.declared.entry.Entry.{Entry}
use Rattle.transfer_table.proofs.Lists.{replicate_at}
use Rattle.transfer_table.proofs.Positions.{fits_first}
use Rattle.transfer_table.proofs.LawsHold.{harts_are_conserved, homes_stay_inside}
use Rattle.journal_picture.specs.declared.stay.Stay.{Stay}
use Rattle.journal_picture.specs.Stays.{stays_from}
use Rattle.journal_picture.specs.Laws.{IsOnlyAt, OneStayAtEachPlace, GuestsAreWithTheHome}
use Rattle.journal_picture.proofs.Places.{Only, place_only}

pub one_stay : OneStayAtEachPlace
one_stay p es k t plan short leads h hart =
    let start : owner (first_state p) h ≡ 0 = replicate_at p.harts h 0 in
    subst (λ (s : ℕ). Only k (stays_from p h s 0 0 es) h (owner t h)) start
    (subst (λ (j : ℕ). Only j (stays_from p h (owner (first_state p) h) 0 0 es) h (owner t h)) (omega arith)
    (place_only p h 0 0 k es (first_state p) t (fits_first p plan) (omega arith) short leads))

live_home : (p : Plan) (es : List Entry) (k : ℕ) (t : TableState) → IsPlan p → k ≤ length es → Reaches p (take k es) t → (s : ℕ) → IsSite p s → IsBaseOrLive p t s
    → (home : ℕ) × (homes : Stay) × ((row t s).home ≡ Some home) × IsOnlyAt p es home k homes × IsWithin p s homes.site
live_home p es k t plan short leads s site (inl base) = let low = site.0 in absurd (omega arith)
live_home p es k t plan short leads s site (inr live) =
    let home = homes_stay_inside p (take k es) t plan leads s site live.1 in
    let stay = one_stay p es k t plan short leads home.0 home.2 in
    (home.0, stay.0, home.1, stay.1, subst (IsWithin p s) (sym stay.3) home.3)

pub with_home : GuestsAreWithTheHome
with_home p es k t plan short leads h hart stay only site =
    let one = one_stay p es k t plan short leads h hart in
    let same : stay ≡ one.0 = let both : stay ∷ [] ≡ one.0 ∷ [] = sym only ∙ one.1 in cc in
    let at : owner t h ≡ stay.site = sym (ap (λ (x : Stay). x.site) same ∙ one.3) in
    live_home p es k t plan short leads stay.site site (subst (IsBaseOrLive p t) at ((harts_are_conserved p (take k es) t plan leads).0 h hart))

use Rattle.std.proofs.Common.{◌≡◌, ap, ◌∙◌, sym, Some, ℕ, slice_get, slice_set, subst}
use Rattle.std.proofs.lemmas.Option.{get_or_from_slice_get}
use Rattle.loop_team.specs.declared.stripes.Seat.{Seat}
use Rattle.loop_team.specs.declared.stripes.Seat.TheVariants as seat
use Rattle.loop_team.specs.Stripes.{StripeParts, Starts, HasPiece, with_seat}
use Rattle.loop_team.proofs.stripes.Stripe.take.Goals as goal

pub returns : goal.returns
returns c =
    let seats = c.self.inside.seats.items in
    let old = c.index_mut.result.now in
    let has : HasPiece c.args.self.now c.args.row = c.has_piece.ensures.0 c.if-not-has_piece.false in
    let there : slice_get seats c.from.result ≡ Some has.0
    = ap (slice_get seats) c.from.ensures ∙ ap (λ (s : StripeParts). slice_get s.seats c.args.row) c.self.view_is ∙ has.1 in
    let same : old ≡ has.0 = c.index_mut.ensures.value ∙ get_or_from_slice_get seats c.from.result has.0 old there in
    let is : has.0 ≡ seat.Came c.in-Came.piece = sym same ∙ sym c.replace.ensures.value ∙ c.in-Came.is in
    let start : c.in-Came.piece.job.store ≡ c.self.inside.start
    = subst (Starts c.self.inside.start) is (c.self.invariant.starts c.from.result has.0 there) in
    let told : ℕ → Seat → StripeParts = λ row s. record { number = c.self.inside.number; start = c.self.inside.start; seats = slice_set seats row s } in (
      has.1 ∙ ap Some is,
      start ∙ ap (λ (s : StripeParts). s.start) c.self.view_is,
      ap (λ x. told c.from.result x) c.replace.ensures.after ∙ ap (λ n. told n seat.Gone) c.from.ensures
          ∙ ap (λ s. with_seat s c.args.row seat.Gone) c.self.view_is,
    )

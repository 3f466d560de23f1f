use Rattle.std.proofs.Common.{ℕ, ap, ◌∙◌, sym, subst}
use Rattle.std.proofs.lemmas.Bool.{false≢true}
use Rattle.join_book.specs.Books.{all_writes, Open, IsPlaceOf, IsMarked}
use Rattle.lithe_barrier.specs.Arrivals.{Fills}
use Rattle.lithe_barrier.proofs.BarrierLemmas.{waits_on, is_done, has_room, no_room, not_free}
use Rattle.lithe_barrier.proofs.state.BarrierState.arrive.Goals as goal

pub invariant_of-self-then-not-is_full : goal.invariant_of-self-then-not-is_full
invariant_of-self-then-not-is_full c =
    let fills : Fills c.self.inside.book c.args.piece c.deposit.new.self = record { own = c.in-Kept.ensures.0; free = c.in-Kept.ensures.1; filled = c.in-Kept.ensures.2 } in
    waits_on c.self.inside.book c.deposit.new.self c.self.inside.room c.args.piece c.self.invariant fills

pub returns-then-not-is_full : goal.returns-then-not-is_full
returns-then-not-is_full c =
    let fills : Fills c.self.inside.book c.args.piece c.deposit.new.self = record { own = c.in-Kept.ensures.0; free = c.in-Kept.ensures.1; filled = c.in-Kept.ensures.2 } in (
      subst (λ b. Fills b c.args.piece c.deposit.new.self) c.self.view_is fills,
      λ full. false≢true (sym c.if-not-is_full.true ∙ c.is_full.ensures.1 full),
    )

pub merged_writes-requires-clause-none_failed : goal.merged_writes-requires-clause-none_failed
merged_writes-requires-clause-none_failed c =
    let fills : Fills c.self.inside.book c.args.piece c.deposit.new.self = record { own = c.in-Kept.ensures.0; free = c.in-Kept.ensures.1; filled = c.in-Kept.ensures.2 } in
    (waits_on c.self.inside.book c.deposit.new.self c.self.inside.room c.args.piece c.self.invariant fills).none_failed

pub merged_writes-requires-clause-room : goal.merged_writes-requires-clause-room
merged_writes-requires-clause-room c =
    let fills : Fills c.self.inside.book c.args.piece c.deposit.new.self = record { own = c.in-Kept.ensures.0; free = c.in-Kept.ensures.1; filled = c.in-Kept.ensures.2 } in
    has_room c.self.inside.book c.deposit.new.self c.self.inside.room c.args.piece c.in-Some.room c.self.invariant fills (sym c.take.ensures.value ∙ c.in-Some.is)

pub unreachable-requires : goal.unreachable-requires
unreachable-requires c =
    let fills : Fills c.self.inside.book c.args.piece c.deposit.new.self = record { own = c.in-Kept.ensures.0; free = c.in-Kept.ensures.1; filled = c.in-Kept.ensures.2 } in
    no_room c.self.inside.book c.deposit.new.self c.self.inside.room c.args.piece c.self.invariant fills (sym c.take.ensures.value ∙ c.in-None.is)

pub invariant_of-self-in-Kept : goal.invariant_of-self-in-Kept
invariant_of-self-in-Kept c =
    let fills : Fills c.self.inside.book c.args.piece c.deposit.new.self = record { own = c.in-Kept.ensures.0; free = c.in-Kept.ensures.1; filled = c.in-Kept.ensures.2 } in
    let done = is_done c.self.inside.book c.deposit.new.self c.self.inside.room c.args.piece c.self.invariant fills (c.is_full.ensures.0 c.if-not-is_full.false) in
    rw c.take.ensures.after done

pub returns-in-Some : goal.returns-in-Some
returns-in-Some c =
    let fills : Fills c.self.inside.book c.args.piece c.deposit.new.self = record { own = c.in-Kept.ensures.0; free = c.in-Kept.ensures.1; filled = c.in-Kept.ensures.2 } in (
      subst (λ b. Fills b c.args.piece c.deposit.new.self) c.self.view_is fills,
      c.is_full.ensures.0 c.if-not-is_full.false,
      c.merged_writes.ensures ∙ ap all_writes fills.filled ∙ ap all_writes c.self.view_is,
    )

pub returns-in-Double : goal.returns-in-Double
returns-in-Double c =
    let no = c.in-Double.ensures in (
      subst (λ b. (i : ℕ) → IsPlaceOf b i c.args.piece.job → IsMarked b i Open → ⊥) c.self.view_is
          (not_free c.self.inside.book c.self.inside.room c.args.piece.job c.self.invariant no.0 no.1),
      no.2,
      no.3 ∙ c.self.view_is,
    )

pub returns-in-Stranger : goal.returns-in-Stranger
returns-in-Stranger c =
    let no = c.in-Stranger.ensures in (
      subst (λ b. (i : ℕ) → IsPlaceOf b i c.args.piece.job → IsMarked b i Open → ⊥) c.self.view_is (λ i is at. no.0 i is),
      no.1,
      no.2 ∙ c.self.view_is,
    )

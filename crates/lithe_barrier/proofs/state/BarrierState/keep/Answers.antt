use Rattle.std.proofs.Common.{◌∙◌, sym, subst}
use Rattle.join_book.specs.Books.{IsPlaceOf, IsMarked, Open}
use Rattle.lithe_barrier.specs.Arrivals.{Fills}
use Rattle.lithe_barrier.proofs.BarrierLemmas.{waits_on, is_done, has_room}
use Rattle.lithe_barrier.proofs.state.BarrierState.keep.Goals as goal

pub keep-requires-clause-own : goal.keep-requires-clause-own
keep-requires-clause-own c =
    subst (λ b. IsPlaceOf b c.args.piece.job.place c.args.piece.job) (sym c.self.view_is) c.requires.own

pub keep-requires-clause-open : goal.keep-requires-clause-open
keep-requires-clause-open c =
    subst (λ b. IsMarked b c.args.piece.job.place Open) (sym c.self.view_is) c.requires.free

pub invariant_of-self : goal.invariant_of-self
invariant_of-self c =
    let own = subst (λ b. IsPlaceOf b c.args.piece.job.place c.args.piece.job) (sym c.self.view_is) c.requires.own in
    let free = subst (λ b. IsMarked b c.args.piece.job.place Open) (sym c.self.view_is) c.requires.free in
    let fills : Fills c.self.inside.book c.args.piece c.keep.new.self = record { own = own; free = free; filled = c.keep.ensures } in
    waits_on c.self.inside.book c.keep.new.self c.self.inside.room c.args.piece c.self.invariant fills

pub merged_writes-requires-clause-none_failed : goal.merged_writes-requires-clause-none_failed
merged_writes-requires-clause-none_failed c =
    let own = subst (λ b. IsPlaceOf b c.args.piece.job.place c.args.piece.job) (sym c.self.view_is) c.requires.own in
    let free = subst (λ b. IsMarked b c.args.piece.job.place Open) (sym c.self.view_is) c.requires.free in
    let fills : Fills c.self.inside.book c.args.piece c.keep.new.self = record { own = own; free = free; filled = c.keep.ensures } in
    (waits_on c.self.inside.book c.keep.new.self c.self.inside.room c.args.piece c.self.invariant fills).none_failed

pub merged_writes-requires-clause-room : goal.merged_writes-requires-clause-room
merged_writes-requires-clause-room c =
    let own = subst (λ b. IsPlaceOf b c.args.piece.job.place c.args.piece.job) (sym c.self.view_is) c.requires.own in
    let free = subst (λ b. IsMarked b c.args.piece.job.place Open) (sym c.self.view_is) c.requires.free in
    let fills : Fills c.self.inside.book c.args.piece c.keep.new.self = record { own = own; free = free; filled = c.keep.ensures } in
    has_room c.self.inside.book c.keep.new.self c.self.inside.room c.args.piece c.in-Some.room c.self.invariant fills (sym c.take.ensures.value ∙ c.in-Some.is)

pub invariant_of-self-2 : goal.invariant_of-self-2
invariant_of-self-2 c =
    let own = subst (λ b. IsPlaceOf b c.args.piece.job.place c.args.piece.job) (sym c.self.view_is) c.requires.own in
    let free = subst (λ b. IsMarked b c.args.piece.job.place Open) (sym c.self.view_is) c.requires.free in
    let fills : Fills c.self.inside.book c.args.piece c.keep.new.self = record { own = own; free = free; filled = c.keep.ensures } in
    let done = is_done c.self.inside.book c.keep.new.self c.self.inside.room c.args.piece c.self.invariant fills (c.is_full.ensures.0 c.if-not-is_full.false) in
    rw c.take.ensures.after done

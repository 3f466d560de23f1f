-- The owners from a hart on are less than 2^48, so one more digit fits.
use Rattle.std.proofs.Common.{◌≡◌, ◌∙◌, ap, sym, arith, ℕ, ◌-◌, take, drop, []}
use Rattle.std.proofs.lemmas.List.{drop_all, length-take, get_or-take}
use Rattle.std.proofs.lemmas.Bool.Decides.{nat_tests}
use Rattle.transfer_table.proofs.Positions.{legal_position}
use Rattle.transfer_table.specs.Plan.{Plan}
use Rattle.hart_port.specs.Words.{owner_digits}
use Rattle.hart_port.specs.Ledger.{LedgerState}
use Rattle.hart_port.proofs.Ledgers.{digits_small, digits_before}
use Rattle.hart_port.proofs.ledger.Ledger.owner_digits.Goals as goal

pub loop-hart-init : goal.loop-hart-init
loop-hart-init c =
    let b = c.self.inside.board in
    let is = c.self.invariant.ledger in
    let fits = legal_position b.plan is.plan c.self.inside.entries.items b.state is.reached in
    let size = fits.owners in
    let harts = c.harts.ensures.same ∙ ap (λ (p : Plan). p.harts) c.plan.ensures.same in
    let most = length-take 4 b.state.owners in
    let none : drop c.min-hart.result (take 4 b.state.owners) ≡ [] = drop_all c.min-hart.result (take 4 b.state.owners) (grind (arith, nat_tests, c.min-hart)) in
    record { same = sym (ap owner_digits none); most = omega arith }

pub overflow_mul-digits : goal.overflow_mul-digits
overflow_mul-digits c =
    let small = digits_small _ c.self.invariant.ledger c.loop-hart.hart in
    let same = c.loop-hart.invariant.same in
    omega arith

pub overflow_add-digits : goal.overflow_add-digits
overflow_add-digits c =
    let small = digits_small _ c.self.invariant.ledger c.loop-hart.hart in
    let same = c.loop-hart.invariant.same in
    omega arith

pub loop-hart-preserved : goal.loop-hart-preserved
loop-hart-preserved c =
    let before = digits_before (take 4 c.self.inside.board.state.owners) c.loop-hart.hart c.loop-hart-test.true c.loop-hart.invariant.most in
    let same = c.loop-hart.invariant.same in
    let most = c.loop-hart.invariant.most in
    let first = length-take 4 c.self.inside.board.state.owners in
    let shown = get_or-take 4 c.self.inside.board.state.owners (c.loop-hart.hart - 1) 0 (omega arith) in
    let owner = c.owner.ensures.same in
    record { same = omega arith; most = omega arith }

pub returns-clause-same : goal.returns-clause-same
returns-clause-same c =
    let owners = take 4 c.self.inside.board.state.owners in
    let last : c.loop-hart.hart ≡ 0 = omega arith in
    c.loop-hart.invariant.same ∙ ap (λ (h : ℕ). owner_digits (drop h owners)) last ∙ ap (λ (l : LedgerState). owner_digits (take 4 l.state.owners)) c.self.view_is

pub returns-clause-below : goal.returns-clause-below
returns-clause-below c =
    let small = digits_small _ c.self.invariant.ledger c.loop-hart.hart in
    let same = c.loop-hart.invariant.same in
    omega arith

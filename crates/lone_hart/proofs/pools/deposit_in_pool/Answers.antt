use Rattle.std.proofs.Common.{◌≡◌, suc, sym, subst}
use Rattle.join_book.specs.Books.{Open, Filled, IsMarked, IsPlaceOf, marked_book}
use Rattle.forkjoin_sched.specs.Pools.{PoolParts, with_book}
use Rattle.step_eval.specs.declared.work.Work.TheVariants.{Begin}
use Rattle.lone_hart.specs.Accounts.{AllCameBack}
use Rattle.lone_hart.proofs.Accounts.{came_back, out_place}
use Rattle.lone_hart.proofs.pools.deposit_in_pool.Goals as goal

filled_open : Filled ≡ Open → ⊥
filled_open e = cc

pub keep-requires-clause-own : goal.keep-requires-clause-own
keep-requires-clause-own c =
    let before = c.args.pool.now in
    let job = c.args.piece.job in
    let place = out_place Begin before.book before.agenda job c.requires.0 c.requires.1 c.requires.2 in
    subst (λ i. IsPlaceOf before.book i job) (sym place.0) place.2

pub keep-requires-clause-open : goal.keep-requires-clause-open
keep-requires-clause-open c =
    let before = c.args.pool.now in
    let job = c.args.piece.job in
    let place = out_place Begin before.book before.agenda job c.requires.0 c.requires.1 c.requires.2 in
    subst (λ i. IsMarked before.book i Open) (sym place.0) place.1

pub returns-clause-account : goal.returns-clause-account
returns-clause-account c =
    let before = c.args.pool.now in
    let k = c.requires.0 in
    let stands = c.requires.2 in
    let place = out_place Begin before.book before.agenda c.args.piece.job k c.requires.1 stands in
    let is : c.keep.new.self ≡ with_book before (marked_book before.book k Filled) = subst (λ i. c.keep.new.self ≡ with_book before (marked_book before.book i Filled)) place.0 c.keep.ensures in
    subst (λ (p : PoolParts). AllCameBack Begin p.book p.agenda) (sym is) (suc k, came_back Begin before.book before.agenda k Filled filled_open stands)

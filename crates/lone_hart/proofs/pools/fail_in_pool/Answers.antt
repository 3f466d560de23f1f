use Rattle.std.proofs.Common.{◌≡◌, suc, sym, subst, ◌∙◌}
use Rattle.join_book.specs.Books.{Open, Failed, HasFailed, marked_book}
use Rattle.forkjoin_sched.specs.Pools.{PoolParts, with_book}
use Rattle.step_eval.specs.declared.work.Work.TheVariants.{Begin}
use Rattle.lone_hart.specs.Accounts.{AllCameBack}
use Rattle.lone_hart.proofs.Accounts.{came_back, out_place, marked_now}
use Rattle.lone_hart.proofs.pools.fail_in_pool.Goals as goal

failed_open : Failed ≡ Open → ⊥
failed_open e = cc

pub returns-clause-account : goal.returns-clause-account
returns-clause-account c =
    let before = c.args.pool.now in
    let job = c.requires.0 in
    let k = c.requires.1.0 in
    let stands = c.requires.1.2 in
    let place = out_place Begin before.book before.agenda job k c.requires.1.1 stands in
    let there : k ≡ c.args.place = sym place.0 ∙ c.requires.2 in
    let is : c.fail.new.self ≡ with_book before (marked_book before.book k Failed) = subst (λ i. c.fail.new.self ≡ with_book before (marked_book before.book i Failed)) (sym there) c.fail.ensures in
    subst (λ (p : PoolParts). AllCameBack Begin p.book p.agenda) (sym is) (suc k, came_back Begin before.book before.agenda k Failed failed_open stands)

pub returns-clause-failed : goal.returns-clause-failed
returns-clause-failed c =
    let before = c.args.pool.now in
    let job = c.requires.0 in
    let k = c.requires.1.0 in
    let stands = c.requires.1.2 in
    let place = out_place Begin before.book before.agenda job k c.requires.1.1 stands in
    let there : k ≡ c.args.place = sym place.0 ∙ c.requires.2 in
    let is : c.fail.new.self ≡ with_book before (marked_book before.book k Failed) = subst (λ i. c.fail.new.self ≡ with_book before (marked_book before.book i Failed)) (sym there) c.fail.ensures in
    subst (λ (p : PoolParts). HasFailed p.book) (sym is) (k, marked_now before.book.places k Failed Open place.1)

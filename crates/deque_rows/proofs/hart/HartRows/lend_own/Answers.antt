use Rattle.std.proofs.Common.{◌-◌, ◌<◌, ℕ, List, length, arith}
use Rattle.deque_rows.specs.declared.account.Log.{Log}
use Rattle.deque_rows.specs.Lines.{Standing, standing}
use Rattle.deque_rows.proofs.Places.{ok_map, home_put, names_kept, made_kept}
use Rattle.deque_rows.proofs.hart.HartRows.lend_own.Goals as goal

pub returns-clause-cut : goal.returns-clause-cut
returns-clause-cut c =
    let rows = c.args.self.now in
    let there : c.args.at < length rows.own.items = omega (arith, c.requires.at, rows.levels) in
    ok_map c.another.result (λ end cut. home_put rows.own.items c.args.at c.another.new.self c.index_mut.result.now (λ (v : Log). record v { parts = v.parts - 1 }) c.index_mut.ensures.value there cut) c.another.ensures.cut

pub returns-clause-names : goal.returns-clause-names
returns-clause-names c = names_kept c.args.self.now.own.items c.args.at c.another.new.self c.index_mut.result.now c.index_mut.ensures.value c.another.ensures.same

abbrev with_rooms : Standing → List ℕ → Standing
with_rooms s rooms = record s { rooms = rooms }

pub returns-clause-standing : goal.returns-clause-standing
returns-clause-standing c = λ i. with_rooms (standing c.args.self.now) (made_kept c.args.self.now.own.items c.args.at c.another.new.self c.index_mut.result.now c.index_mut.ensures.value c.another.ensures.made i)

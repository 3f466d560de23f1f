use Rattle.std.proofs.Common.{◌<◌, length, arith, sym, ◌∙◌}
use Rattle.deque_rows.specs.declared.account.Log.{Log}
use Rattle.deque_rows.specs.Account.{joined}
use Rattle.deque_rows.specs.Lines.{end_log}
use Rattle.deque_rows.proofs.Places.{home_name_of, name_at, home_put}
use Rattle.deque_rows.proofs.hart.HartRows.give_own.Goals as goal

pub absorb-requires : goal.absorb-requires
absorb-requires c =
    let rows = c.args.self.now in
    let there : c.args.at < length rows.own.items = omega (arith, c.requires.at, rows.levels) in
    c.requires.of (home_name_of c.index_mut.result.now) ∙ sym (name_at rows.own.items c.args.at c.index_mut.result.now (home_name_of c.index_mut.result.now) c.index_mut.ensures.value there)

pub returns-clause-joined : goal.returns-clause-joined
returns-clause-joined c =
    let rows = c.args.self.now in
    let there : c.args.at < length rows.own.items = omega (arith, c.requires.at, rows.levels) in
    home_put rows.own.items c.args.at c.absorb.new.self c.index_mut.result.now (λ (v : Log). joined v (end_log c.args.end)) c.index_mut.ensures.value there c.absorb.ensures.joined

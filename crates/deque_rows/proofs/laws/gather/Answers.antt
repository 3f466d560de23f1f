use Rattle.std.proofs.Common.{◌≡◌, ◌≢◌, ◌+◌, ◌-◌, suc, ◌++◌, map, length, get_or, set, ap, sym, ◌∙◌, arith, refl}
use Rattle.std.proofs.lemmas.List.{length-set, get_or-set_other}
use Rattle.std.proofs.Math.Seq.{map-set_same}
use Rattle.deque_rows.specs.declared.account.Log.{Log}
use Rattle.deque_rows.specs.declared.ends.StealingEnd.{StealingEnd}
use Rattle.std.specs.Prelude.{Vec}
use Rattle.std.specs.declared.alloc.Global.{Global}
use Rattle.deque_rows.specs.Account.{idle, joined}
use Rattle.deque_rows.specs.Rows.{home_logs, home_names, owner_log, row_at, pass_logs, stolen_by}
use Rattle.deque_rows.specs.Lines.{Standing, standing, end_log, end_name, gathered}
use Rattle.deque_rows.proofs.Makes.{stands}
use Rattle.deque_rows.proofs.Places.{pick}
use Rattle.deque_rows.proofs.Settles.{untouched, few_rows, sums, ends_count, end_of, end_in_line, end_part, gathers}
use Rattle.deque_rows.proofs.laws.gather.Goals as goal

pub loop-hart-init : goal.loop-hart-init
loop-hart-init c = (refl, (λ r there. untouched c.args.rows.now c.requires r there), (λ h d _ _. refl))

pub give_line-requires-clause-count : goal.give_line-requires-clause-count
give_line-requires-clause-count c =
    let first = c.args.rows.now in
    let g = c.loop-hart.hart in
    let d = c.index-rows-hart.result in
    let i = c.loop-hart.invariant in
    let count = ends_count first c.requires g d c.loop-hart-test.true in
    let taken = ap (λ (v : Vec StealingEnd Global). length v.items) c.take_ends-ends.ensures.ends ∙ ap (λ (s : Standing). length s.ends) (i.2 g d (omega arith) c.loop-hart-test.true) in
    let k = c.take_ends-ends.result.ok in
    let j = (get_or first g d).ends.ok in
    let long = length-set c.loop-hart.rows g c.take_ends-ends.new.self ∙ c.loop-hart.auto.rows in
    omega (arith, count, taken, k, j, long)

pub give_line-requires-clause-of : goal.give_line-requires-clause-of
give_line-requires-clause-of c = λ r e n there.
    let first = c.args.rows.now in
    let g = c.loop-hart.hart in
    let d = c.index-rows-hart.result in
    let i = c.loop-hart.invariant in
    let taken = ap (λ (v : Vec StealingEnd Global). v.items) c.take_ends-ends.ensures.ends ∙ ap (λ (s : Standing). s.ends) (i.2 g d (omega arith) c.loop-hart-test.true) in
    let long = length-set c.loop-hart.rows g c.take_ends-ends.new.self ∙ c.loop-hart.auto.rows in
    let names = map-set_same home_names c.loop-hart.rows g c.take_ends-ends.new.self d c.take_ends-ends.ensures.names ∙ i.0 in
    ap (λ l. end_name (get_or l r e)) taken
    ∙ end_of first c.requires g d c.loop-hart-test.true r e n (omega (arith, there, long))
    ∙ ap (λ l. row_at n l r) (sym names)

pub loop-hart-preserved : goal.loop-hart-preserved
loop-hart-preserved c =
    let i = c.loop-hart.invariant in
    let g = c.loop-hart.hart in
    let first = c.args.rows.now in
    let d0 = c.index-rows-hart.result in
    let mid = set c.loop-hart.rows g c.take_ends-ends.new.self in
    let lines = map pass_logs first in
    let long : length mid ≡ length first = length-set c.loop-hart.rows g c.take_ends-ends.new.self ∙ c.loop-hart.auto.rows in
    let items : c.take_ends-ends.result.items ≡ (get_or first g d0).ends.items = ap (λ (v : Vec StealingEnd Global). v.items) c.take_ends-ends.ensures.ends ∙ ap (λ (s : Standing). s.ends) (i.2 g d0 (omega arith) c.loop-hart-test.true) in (
      c.give_line.ensures.names ∙ map-set_same home_names c.loop-hart.rows g c.take_ends-ends.new.self d0 c.take_ends-ends.ensures.names ∙ i.0,
      (λ r there.
          let count = ends_count first c.requires g d0 c.loop-hart-test.true in
          let k = (get_or first g d0).ends.ok in
          let e = pick (get_or first g d0).ends.items r (omega (arith, count, k, there)) in
          let stolen = stolen_by lines r g in
          let was : owner_log mid r ≡ gathered (owner_log first r) (64 - length first + g) stolen =
          ap (λ l. row_at idle l r) (map-set_same home_logs c.loop-hart.rows g c.take_ends-ends.new.self d0 c.take_ends-ends.ensures.logs) ∙ i.1 r there in
          let end : Log = end_log (get_or (get_or first g d0).ends.items r e) in
          let got : end_log (get_or c.take_ends-ends.result.items r e) ≡ end = ap (λ l. end_log (get_or l r e)) items in
          let more : gathered (owner_log first r) (64 - length first + g + 1) (stolen ++ end.stolen) ≡ gathered (owner_log first r) (64 - length first + (g + 1)) (stolen_by lines r (suc g)) =
          λ j. gathered (owner_log first r) (sums (64 - length first) g j) (stolen ++ (end_in_line first c.requires g d0 c.loop-hart-test.true r e there j).stolen) in
          let next : suc g ≡ g + 1 = omega arith in
          c.give_line.ensures.joined r e (omega (arith, there, long))
          ∙ ap (λ (v : Log). joined v (end_log (get_or c.take_ends-ends.result.items r e))) was
          ∙ ap (λ (w : Log). joined (gathered (owner_log first r) (64 - length first + g) stolen) w) got
          ∙ gathers (owner_log first r) end (64 - length first + g) stolen (end_part first c.requires g d0 c.loop-hart-test.true r e there)
          ∙ more
          ∙ ap (λ n. gathered (owner_log first r) (64 - length first + (g + 1)) (stolen_by lines r n)) next),
      (λ h d above there.
          let apart : h ≢ g = λ is. omega (arith, is, above) in
          stands mid c.give_line.new.rows h d c.give_line.ensures.standing ∙ ap standing (get_or-set_other c.loop-hart.rows g h c.take_ends-ends.new.self d apart) ∙ i.2 h d (omega (arith, above)) there),
    )

pub returns : goal.returns
returns c = λ r there.
    let i = c.loop-hart.invariant in
    let first = c.args.rows.now in
    let last : c.loop-hart.hart ≡ length first = omega (arith, c.loop-hart-test.false, c.loop-hart.auto.hart-end) in
    let few = few_rows first c.requires in
    let whole : 64 - length first + c.loop-hart.hart ≡ 64 = omega (arith, last, few) in
    i.1 r there ∙ (λ j. gathered (owner_log first r) (whole j) (stolen_by (map pass_logs first) r (last j)))

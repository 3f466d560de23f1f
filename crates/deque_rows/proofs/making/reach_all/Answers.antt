use Rattle.std.proofs.Common.{◌≡◌, ◌<◌, ◌*◌, ◌-◌, ℕ, true, List, map, length, get_or, ap, subst, ◌∙◌, arith, refl}
use Rattle.std.proofs.lemmas.List.{length-replicate}
use Rattle.deque_rows.specs.declared.hart.HartRows.{HartRows}
use Rattle.deque_rows.specs.Account.{blank}
use Rattle.deque_rows.specs.Rows.{home_names, owner_log}
use Rattle.deque_rows.specs.Lines.{IsAt, Standing}
use Rattle.deque_rows.proofs.Makes.{begun, rooms_kept, stands, reached_count, reached_owners, reached_ats, all_reached, all_new}
use Rattle.deque_rows.proofs.making.reach_all.Goals as goal

pub loop-hart-init : goal.loop-hart-init
loop-hart-init c =
    let first = begun c.args.harts c.args.rows.now c.requires.count c.requires.homes in
    (c.requires.count, first.0, first.1, refl)

pub line-requires-clause-parts : goal.line-requires-clause-parts
line-requires-clause-parts c = λ r there. let i = c.loop-hart.invariant in let is = ap (λ (v : Rattle.deque_rows.specs.declared.account.Log.Log). v.parts) (i.1 r (omega (arith, there, i.0))) in let t = c.loop-hart-test.true in let e = c.from-hart-end.ensures in let f = c.requires.few in omega (arith, is, t, e, f)

pub reach-requires : goal.reach-requires
reach-requires c =
    let i = c.loop-hart.invariant in
    let q = get_or c.line.new.rows c.loop-hart.hart c.index-rows-hart.result in
    let below : c.loop-hart.hart < c.args.harts = omega (arith, c.loop-hart-test.true, c.from-hart-end.ensures) in
    let bares = ap (λ (s : Standing). s.bares) (stands c.loop-hart.rows c.line.new.rows c.loop-hart.hart c.index-rows-hart.result c.in_ok-ends.ensures.standing) ∙ (i.2 c.loop-hart.hart c.index-rows-hart.result below).bares in
    let long = ap (λ (l : List ℕ). length l) bares ∙ length-replicate (3 * c.args.harts) 0 in
    ((let a = c.in_ok-ends.ensures.count in let b = i.0 in omega (arith, a, b)), (let k = q.bare.ok in omega (arith, long, k)))

pub loop-hart-preserved : goal.loop-hart-preserved
loop-hart-preserved c =
    let i = c.loop-hart.invariant in
    let below : c.loop-hart.hart < c.args.harts = omega (arith, c.loop-hart-test.true, c.from-hart-end.ensures) in
    let was = c.loop-hart.rows in
    let mid = c.line.new.rows in
    let e = c.in_ok-ends.ensures in
    let t = c.reach.ensures in (
      reached_count c.args.harts c.loop-hart.hart was mid c.index-rows-hart.result c.reach.new.self c.in_ok-ends.ends.items i.0 below i.1 i.2 e.less e.names e.standing e.ends t.logs t.names t.standing,
      reached_owners c.args.harts c.loop-hart.hart was mid c.index-rows-hart.result c.reach.new.self c.in_ok-ends.ends.items i.0 below i.1 i.2 e.less e.names e.standing e.ends t.logs t.names t.standing,
      reached_ats c.args.harts c.loop-hart.hart was mid c.index-rows-hart.result c.reach.new.self c.in_ok-ends.ends.items i.0 below i.1 i.2 e.less e.names e.standing e.ends t.logs t.names t.standing,
      rooms_kept was mid c.loop-hart.hart c.index-rows-hart.result c.reach.new.self (ap (λ (s : Standing). s.rooms) t.standing) e.standing ∙ i.3,
    )

pub returns-clause-all : goal.returns-clause-all
returns-clause-all c =
    let i = c.loop-hart.invariant in
    let last : c.loop-hart.hart ≡ c.args.harts = omega (arith, c.loop-hart-test.false, c.loop-hart.auto.hart-end, c.from-hart-end.ensures) in
    all_reached c.args.harts c.loop-hart.rows i.0 c.requires.few
    (subst (λ n. (r : ℕ) → r < 3 * c.args.harts → owner_log c.loop-hart.rows r ≡ blank (64 - n) true) last i.1)
    (subst (λ n. (h : ℕ) (d : HartRows) → h < c.args.harts → IsAt c.args.harts n (map home_names c.loop-hart.rows) h (get_or c.loop-hart.rows h d)) last i.2)

pub returns-clause-new : goal.returns-clause-new
returns-clause-new c =
    let i = c.loop-hart.invariant in
    let last : c.loop-hart.hart ≡ c.args.harts = omega (arith, c.loop-hart-test.false, c.loop-hart.auto.hart-end, c.from-hart-end.ensures) in
    all_new c.args.harts c.loop-hart.rows i.0 c.requires.few
    (subst (λ n. (r : ℕ) → r < 3 * c.args.harts → owner_log c.loop-hart.rows r ≡ blank (64 - n) true) last i.1)
    (subst (λ n. (h : ℕ) (d : HartRows) → h < c.args.harts → IsAt c.args.harts n (map home_names c.loop-hart.rows) h (get_or c.loop-hart.rows h d)) last i.2)

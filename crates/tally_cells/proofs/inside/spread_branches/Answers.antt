use Rattle.std.proofs.Common.{◌≡◌, ◌+◌, ◌<◌, ◌^◌, length, map, pos, refl, ap, ◌∙◌, arith, w64}
use Rattle.std.proofs.lemmas.Int.{to_z_pos}
use Rattle.array_tree.specs.Trees.{Number, sequence_of, sequences_of}
use Rattle.spread_laws.specs.Spread.{spread_inside, spread_branches}
use Rattle.spread_laws.specs.Served.{AreNarrow}
use Rattle.tally_cells.proofs.Pushed.{blocks_rolled, put_one, next_beside, all_beside, next_narrow_block}
use Rattle.tally_cells.proofs.inside.spread_branches.Goals as goal

-- A branch's number fits in 64 signed bits.
row_fits : (c : goal.Joined-row-3) → c.len.result < 2 ^ 63
row_fits c =
    let small = c.loop-branch.blocks.small in
    let ok = c.loop-branch.blocks.ok in
    let reported = c.len.ensures in
    omega (arith, small, ok, reported)

row_number : (c : goal.Joined-row-3) → c.len.result ≡ c.loop-branch.branch-index
row_number c =
    let ok = c.loop-branch.blocks.ok in
    let reported = c.len.ensures in
    let count = c.loop-branch.invariant.count in
    omega (arith, ok, reported, count)

count_next : (c : goal.Joined-row-3) → length c.push.new.self.items ≡ c.loop-branch.branch-index + 1
count_next c =
    let ok = c.loop-branch.blocks.ok in
    let now = c.push.new.self.ok in
    let pushed = c.in_ok-push.ensures.len in
    let count = c.loop-branch.invariant.count in
    omega (arith, ok, now, count, pushed)

pub loop-branch-preserved : goal.loop-branch-preserved
loop-branch-preserved c =
    let items = c.deref-branch-items.result.now in
    let item = c.branch-item.result in
    let i = c.loop-branch.branch-index in
    let row = to_z_pos w64 c.len.result (row_fits c) ∙ ap pos (row_number c) in
    record {
      count = count_next c;
      spread = next_beside (spread_inside c.args.layout.now (Number (pos i))) (spread_branches c.args.layout.now i) (spread_branches c.args.layout.now (i + 1)) (λ b r. refl) (map sequence_of c.loop-branch.blocks.items) (map sequence_of c.push.new.self.items) items item i (spread_branches c.args.layout.now 0 (sequences_of c.args.branches.now))
          c.loop-branch-test.true c.branch-item.is
          (put_one sequence_of c.loop-branch.blocks.items c.push.new.self.items c.in_ok-spread_block.field-0 (spread_inside c.args.layout.now (Number (pos i)) (sequence_of item)) c.in_ok-push.ensures.items
          (c.in_ok-spread_block.ensures.spread ∙ ap (λ z. spread_inside c.args.layout.now (Number z) (sequence_of item)) row))
          c.loop-branch.invariant.spread;
      narrow = next_narrow_block items item i (AreNarrow (sequences_of c.args.branches.now)) c.loop-branch-test.true c.branch-item.is c.in_ok-spread_block.ensures.narrow c.loop-branch.invariant.narrow;
    }

pub returns-clause-spread : goal.returns-clause-spread
returns-clause-spread c =
    blocks_rolled (record { blocks = c.loop-branch.blocks }) ∙ all_beside (spread_branches c.args.layout.now c.loop-branch.branch-index) refl (map sequence_of c.loop-branch.blocks.items) c.deref-branch-items.result.now c.loop-branch.branch-index
    (spread_branches c.args.layout.now 0 (sequences_of c.args.branches.now)) c.loop-branch-test.false c.loop-branch.invariant.spread

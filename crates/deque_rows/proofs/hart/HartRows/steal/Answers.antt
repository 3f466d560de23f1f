use Rattle.std.proofs.Common.{refl, ℕ, ◌<◌, List, [], ◌∷◌, length, set, get_or, subst, slice_set, slice_index, arith, ap, sym, inr, ◌∙◌}
use Rattle.deque_rows.specs.declared.account.Log.{Log}
use Rattle.deque_rows.specs.Account.{idle, after_steal, HeldAtMost, Rose}
use Rattle.deque_rows.specs.Rows.{Identity, RowName, identity, pass_log, pass_logs, bares}
use Rattle.deque_rows.proofs.Sights.{end_names, end_logs, end_parts, end_at, end_kept}
use Rattle.deque_rows.proofs.hart.HartRows.steal.Goals as goal

abbrev with_ends : Identity → List RowName × List ℕ → Identity
with_ends k p = record k { pass_names = p.0; pass_parts = p.1 }

pub returns-in-Some-clause-identity : goal.returns-in-Some-clause-identity
returns-in-Some-clause-identity g c =
    let is = c.index_mut.ensures.value in
    let names = end_names c.args.self.now.ends.items c.place-row.result c.steal.new.self c.index_mut.result.now is c.in-Some.ensures.same in
    let parts = end_parts c.args.self.now.ends.items c.place-row.result c.steal.new.self c.index_mut.result.now is (ap (λ (v : Log). v.parts) c.in-Some.ensures.took) in
    λ i. with_ends (identity c.args.self.now) (names i, parts i)

pub returns-in-Some-clause-gives : goal.returns-in-Some-clause-gives
returns-in-Some-clause-gives g c =
    let rows = c.args.self.now in
    let there : c.place-row.result < length rows.ends.items = omega (arith, c.place-row.ensures, c.requires.hart, c.requires.level.1, rows.reaches) in
    let at = end_at rows.ends.items c.place-row.result c.index_mut.result.now c.index_mut.ensures.value there ∙ ap (λ n. get_or (pass_logs rows) n idle) c.place-row.ensures in
    let log = c.in-Some.ensures.took ∙ ap (λ (v : Log). after_steal v (c.in-Some.code ∷ [])) at in (
      end_logs rows.ends.items c.place-row.result c.steal.new.self _ log ∙ ap (λ n. set (pass_logs rows) n (after_steal (pass_log rows c.args.hart c.args.level) (c.in-Some.code ∷ []))) c.place-row.ensures,
      refl,
      refl,
    )

pub note_bare-requires-clause-bare : goal.note_bare-requires-clause-bare
note_bare-requires-clause-bare g c =
    let rows = c.args.self.now in
    let there : c.place-row.result < length rows.ends.items = omega (arith, c.place-row.ensures, c.requires.hart, c.requires.level.1, rows.reaches) in
    let at = end_at rows.ends.items c.place-row.result c.index_mut.result.now c.index_mut.ensures.value there in
    let kept = end_kept rows.ends.items c.place-row.result c.steal.new.self c.index_mut.result.now c.index_mut.ensures.value c.in-None.ensures.none.0 in
    inr (subst (λ (logs : List Log). HeldAtMost 1 (get_or logs c.place-row.result idle)) (sym kept) (subst (HeldAtMost 1) at c.in-None.ensures.none.1))

pub returns-in-None-clause-identity : goal.returns-in-None-clause-identity
returns-in-None-clause-identity g c =
    let is = c.index_mut.ensures.value in
    let names = end_names c.args.self.now.ends.items c.place-row.result c.steal.new.self c.index_mut.result.now is c.in-None.ensures.same in
    let parts = end_parts c.args.self.now.ends.items c.place-row.result c.steal.new.self c.index_mut.result.now is (ap (λ (v : Log). v.parts) c.in-None.ensures.none.0) in
    c.note_bare.ensures.identity ∙ (λ i. with_ends (identity c.args.self.now) (names i, parts i))

pub returns-in-None-clause-gives : goal.returns-in-None-clause-gives
returns-in-None-clause-gives g c =
    let rows = c.args.self.now in
    let there : c.place-row.result < length rows.ends.items = omega (arith, c.place-row.ensures, c.requires.hart, c.requires.level.1, rows.reaches) in
    let at = end_at rows.ends.items c.place-row.result c.index_mut.result.now c.index_mut.ensures.value there ∙ ap (λ n. get_or (pass_logs rows) n idle) c.place-row.ensures in
    let kept = end_kept rows.ends.items c.place-row.result c.steal.new.self c.index_mut.result.now c.index_mut.ensures.value c.in-None.ensures.none.0 in
    let n = c.note_bare.ensures.rose.0 in (
      subst (HeldAtMost 1) at c.in-None.ensures.none.1,
      (
        n,
        subst (λ row. Rose (slice_index (bares rows) row) n) c.place-row.ensures c.note_bare.ensures.rose.1,
        c.note_bare.ensures.rose.2 ∙ ap (λ row. slice_set (bares rows) row n) c.place-row.ensures,
      ),
      c.note_bare.ensures.same.0,
      c.note_bare.ensures.same.1 ∙ kept,
    )

use Rattle.std.proofs.Common.{rules, ◌≡◌, ◌<◌, ℕ, ◌++◌, ◌∷◌, [], sym, ap, ◌∙◌, arith, subst, List}
use Rattle.std.specs.Mem.Slots.{slots_items}
use Rattle.transfer_table.specs.declared.entry.Entry.{Entry}
use Rattle.board_rule.proofs.Lists.{take_next}
use Rattle.board_rule.proofs.Ends.{place_of}
use Rattle.board_rule.proofs.Spelled.{spelled_once}
use Rattle.lent_board.proofs.ending.read_journal.Goals as goal

pub entry_of-entry-requires : goal.entry_of-entry-requires
entry_of-entry-requires g c = let p = c.args.plan.now in
    let r = place_of g.L.Laid.layout p (slots_items c.args.closed.now.words) c.requires.spelled.0 c.requires.spelled.1 _ _ _ c.loop-i.i c.word.ensures (subst (λ (n : ℕ). c.loop-i.i < n) c.entries_of-count.ensures c.loop-i-test.true) c.sites.ensures.same c.word-in-loop-i.ensures in
    let few = c.requires.plan in let sites = few.few_sites in let harts = few.few_harts in let in_plan = r.3 in
    (r.0, (let a = in_plan.0 in omega arith), (let a = in_plan.2 in omega arith), (let a = in_plan.1.1 in omega arith), r.2)

pub loop-i-preserved : goal.loop-i-preserved
loop-i-preserved g c = let p = c.args.plan.now in (
  search rules,
  search rules,
  λ es sp. let r = place_of g.L.Laid.layout p (slots_items c.args.closed.now.words) es sp _ _ _ c.loop-i.i c.word.ensures (subst (λ (n : ℕ). c.loop-i.i < n) c.entries_of-count.ensures c.loop-i-test.true) c.sites.ensures.same c.word-in-loop-i.ensures in
      let few = c.requires.plan in let harts = few.few_harts in let in_plan = r.3 in
      let made = c.entry_of-entry.ensures in
      let same : c.entry_of-entry.result ≡ r.0 = spelled_once c.entry_of-entry.result r.0 made.0 made.1 (let a = in_plan.0 in omega arith) (let a = in_plan.2 in omega arith) (sym made.2 ∙ r.2) in
      let items : c.push_reserved.new.self.items ≡ c.loop-i.list.items ++ c.entry_of-entry.result ∷ [] = c.push_reserved.ensures.items in
      items ∙ ap (λ (z : Entry). c.loop-i.list.items ++ z ∷ []) same ∙ ap (λ (z : List Entry). z ++ r.0 ∷ []) (c.loop-i.invariant.2 es sp) ∙ sym (take_next es c.loop-i.i r.0 r.1),
)

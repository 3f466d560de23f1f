use Rattle.std.proofs.Common.{◌≡◌, ℕ, sym, subst, List}
use mathlib.Core.Option.{some}
use lib.ListN.{get_elem?}
use Rattle.std.specs.Mem.Slots.{slots_items}
use Rattle.transfer_table.specs.Plan.{Plan}
use Rattle.transfer_table.specs.declared.entry.Entry.{Entry}
use Rattle.board_rule.specs.Rule.{Stands}
use Rattle.board_rule.specs.Ends.{Spells, AllEnded, IsJournal}
use Rattle.board_rule.specs.Laws.{St}
use Rattle.board_rule.proofs.Ends.{ends}
use Rattle.lent_board.specs.declared.seat.HartSeat.{HartSeat}
use Rattle.board_rule.specs.declared.layout.Layout.{Layout}
use Rattle.lent_board.proofs.ending.finish.Goals as goal

-- The journal of the last state.
last : (lay : Layout) (p : Plan) (q : HartSeat) (ws : List ℕ) (s : St) → Stands lay p s → get_elem? s.views q.seat.id ≡ some q.seat.me.0 → s.words ≡ ws → q.seat.me.0.hart ≡ 0 → AllEnded p q.seat.me.0
    → (es : List Entry) × Spells lay p ws es × IsJournal p q.seat.me.0 es
last lay p q ws s k at words zeroth all =
    let P : List ℕ → Type 0 = λ z. Spells lay p z k.journal in
    let r = ends lay p s k q.seat.id q.seat.me.0 at zeroth q.is_seat q.none_drawn all in
    (k.journal, subst P words r.0, r.1)

pub read_journal-requires-clause-spelled : goal.read_journal-requires-clause-spelled
read_journal-requires-clause-spelled g c = let b = c.args.board in let q : HartSeat = c.args.first in
    let f = c.close_with-closed.ensures.values.2 in
    let P : Plan → Type 0 = λ p. Stands g.L.Laid.layout p f.0 in
    let r = last g.L.Laid.layout b.plan q (slots_items c.close_with-closed.result.words) f.0 (subst P b.key f.1.0) f.1.1 f.2 c.requires.first.0 c.requires.first.2 in
    (r.0, r.1)

pub returns : goal.returns
returns g c = let b = c.args.board in let q : HartSeat = c.args.first in
    let f = c.close_with-closed.ensures.values.2 in
    let P : Plan → Type 0 = λ p. Stands g.L.Laid.layout p f.0 in
    let r = last g.L.Laid.layout b.plan q (slots_items c.close_with-closed.result.words) f.0 (subst P b.key f.1.0) f.1.1 f.2 c.requires.first.0 c.requires.first.2 in
    let same : c.read_journal.new.list.items ≡ r.0 = c.read_journal.ensures r.0 r.1 in
    let Q : List Entry → Type 0 = λ es. IsJournal b.plan q.seat.me.0 es in subst Q (sym same) r.2

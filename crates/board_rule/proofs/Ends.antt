-- Once all seats are joined no index is drawn but unwritten, so each journal word is written.
use Rattle.std.proofs.Common.{◌≡◌, ◌≢◌, ℕ, suc, ◌+◌, ◌<◌, List, length, slice_index, slice_get, sym, ap, ◌∙◌, arith, Option, Some, None}
use mathlib.Core.Option.{some, some-injective}
use mathlib.Core.Logic.{dite}
use native.Mathlib.Decide.{ℕ_discrete, dec_le}
use lib.ListN.{get_elem?}
use Rattle.transfer_table.specs.Plan.{Plan, site_count}
use Rattle.transfer_table.specs.Entry.{made_by}
use Rattle.transfer_table.specs.Laws.{IsEntryOf}
use Rattle.transfer_table.specs.declared.entry.Entry.{Entry}
use Rattle.transfer_table.proofs.Bounds.{legal_length}
use Rattle.transfer_table.proofs.Balance.{legal_entries}
use Rattle.board_rule.specs.declared.view.View.{View}
use Rattle.board_rule.specs.declared.entries.Drawn.{Drawn}
use Rattle.board_rule.specs.declared.entries.Ended.{Ended}
use Rattle.board_rule.specs.declared.layout.Layout.{Layout}
use Rattle.board_rule.specs.Layouts.{entries_of}
use Rattle.board_rule.specs.Encodings.{journal_word, spelled}
use Rattle.board_rule.specs.Sums.{total, draws_in, ended_as}
use Rattle.board_rule.specs.Counts.{draws}
use Rattle.board_rule.specs.Rule.{Stands, IsSeat}
use Rattle.board_rule.specs.Ends.{Spells, AllEnded, IsJournal}
use Rattle.board_rule.specs.Laws.{St}
use Rattle.board_rule.proofs.Lists.{index_of, get_there}
use Rattle.board_rule.proofs.Totals.{total-none}
use Rattle.board_rule.proofs.BoardSteps.{in_plan, one_seat, other_hart}
use Rattle.board_rule.proofs.Layouts.{length_of}
use Rattle.board_rule.proofs.Spelled.{entry_at}

pub settled : (lay : Layout) (p : Plan) (s : St) (k : Stands lay p s) (id : ℕ) (v : View) → get_elem? s.views id ≡ some v → v.hart ≡ 0 → IsSeat v → v.drawn ≡ None → AllEnded p v
    → (i : ℕ) (e : Entry) → slice_get k.journal i ≡ Some e → journal_word p s.words i ≡ spelled e
settled lay p s k id v at zeroth seat undrawn all i e is = (k.places i e is).written (total-none (draws i) s.views none)
  where
    none : (j : ℕ) (u : View) → get_elem? s.views j ≡ some u → draws i u ≡ 0
    none j u there = dite (dec_le (suc u.hart) u.plan.harts)
        (λ seat_u. dite (ℕ_discrete j id)
        (λ z. let same : v ≡ u = some-injective v u (sym at ∙ ap (get_elem? s.views) (sym z) ∙ there) in ap (λ (d : Option Drawn). draws_in d i) (ap (λ (c : View). c.drawn) (sym same) ∙ undrawn))
        (λ apart. absurd (
        let c = one_seat lay p s k j u there seat_u in let ended : k.ended ≡ v.ended = sym ((k.views id v at seat).itself.joined zeroth).1 in
        let g : total (ended_as u.hart) v.ended ≡ 0 = ap (total (ended_as u.hart)) (sym ended) ∙ c.1 in
        let lt = in_plan lay p s k j u there seat_u in
        let other = other_hart lay p s k id j v u at seat apart there in
        let m = all u.hart (let low : u.hart ≢ 0 = λ z. other (z ∙ sym zeroth) in omega arith) lt in omega arith)))
        (λ not. ap (λ (c : View). draws_in c.drawn i) (k.spent j u there not))

-- A word that was read has its entry in the journal.
pub place_of : (lay : Layout) (p : Plan) (ws : List ℕ) (es : List Entry) → Spells lay p ws es → (head n m i : ℕ) → get_elem? ws 0 ≡ some head → i < entries_of lay head → m ≡ site_count p → get_elem? ws (1 + m + i) ≡ some n
    → (e : Entry) × (slice_get es i ≡ Some e) × (n ≡ spelled e) × IsEntryOf p e
place_of lay p ws es sp head n m i at lt is there =
    let first : slice_index ws 0 ≡ head = index_of ws 0 head 0 at in
    let count = sp.count in
    let inside : i < length es = (let a : entries_of lay (slice_index ws 0) ≡ entries_of lay head = ap (entries_of lay) first in omega arith) in
    let e = get_there es i inside in
    let here = sp.places i e.0 e.1 in
    let word : journal_word p ws i ≡ n = ap (λ (q : ℕ). slice_index ws (1 + q + i)) (sym is) ∙ index_of ws (1 + m + i) n 0 there in
    (e.0, e.1, sym word ∙ here.0, here.1)

-- The words at the end have the journal.
pub ends : (lay : Layout) (p : Plan) (s : St) (k : Stands lay p s) (id : ℕ) (v : View) → get_elem? s.views id ≡ some v → v.hart ≡ 0 → IsSeat v → v.drawn ≡ None → AllEnded p v → Spells lay p s.words k.journal × IsJournal p v k.journal
ends lay p s k id v at zeroth seat undrawn all =
    let know = k.views id v at seat in
    let ended : v.ended ≡ k.ended = (know.itself.joined zeroth).1 in (
      record {
        count = length_of lay p k.plan k.few k.journal k.table k.legal (slice_index s.words 0) k.board;
        few = legal_length p k.plan k.journal k.table k.legal;
        places = λ i e is. (settled lay p s k id v at zeroth seat undrawn all i e is, entry_at p k.journal i e is (legal_entries p k.plan k.journal k.table k.legal));
      },
      record {
        table = k.table;
        legal = k.legal;
        first = (ap (λ (h : ℕ). made_by h k.journal) (sym zeroth) ∙ sym know.itself.mine, know.itself.placed);
        others = λ i e is. let o = k.over i e (ap (λ (z : List Ended). get_elem? z i) (sym ended) ∙ is) in (sym o.0, o.1);
        gone = know.sites.gone;
      },
    )

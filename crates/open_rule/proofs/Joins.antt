-- Hart 0's seat takes in another hart's seat; the contents of its view at the end.
use Rattle.std.proofs.Common.{◌≡◌, ℕ, ◌<◌, List, [], ◌∷◌, ◌++◌, length, set, refl, sym, ap, ◌∙◌, subst, arith, ⊎_elim, length-set}
use lib.ListN.{get_elem?}
use Rattle.atomic_table.specs.Table.{Joins}
use Rattle.atomic_table.proofs.Lists.{at_set, at_snoc, set_here, set_else}
use Rattle.open_table.specs.declared.table.Size.{Size}
use Rattle.open_table.specs.Table.{made_by}
use Rattle.open_rule.specs.declared.view.View.{View}
use Rattle.open_rule.specs.declared.view.Ended.{Ended}
use Rattle.open_rule.specs.Views.{joined_view, spent_view}
use Rattle.open_rule.specs.Rule.{IsSeat, Knows, HasEnded, Stands}
use Rattle.open_rule.specs.StepLaws.{JoinKeeps}
use Rattle.open_rule.proofs.Moves.{inside, ended_other}

pub join_keeps : JoinKeeps
join_keeps z s k id v at seat zeroth other w apart there seat_w base =
    let both : View = joined_view v w in
    let e : Ended = record { hart = w.hart; mine = w.mine } in
    let know = k.views id v at seat in let know_w = k.views other w there seat_w in
    let id_zero : id ≡ 0 = sym know.hart ∙ zeroth in
    let mid : List View = set s.views id both in
    let vs : List View = set mid other spent_view in
    let count : length vs ≡ length s.views = length-set mid other spent_view ∙ length-set s.views id both in
    let now : List Ended = k.ended ++ e ∷ [] in
    let in_mid : other < length mid = let i = inside s.views other w there in let n = length-set s.views id both in omega arith in (
      record {
        journal = k.journal;
        table = k.table;
        ended = now;
        size = k.size;
        legal = k.legal;
        wide = k.wide;
        words = k.words;
        seats = let c = k.seats in omega arith;
        views = λ j q is lives. ⊎_elim
            (λ t. absurd (let gone : IsSeat spent_view = subst IsSeat (sym t.1) lives in omega arith))
            (λ t. ⊎_elim
            (λ hit. subst (Knows z k.journal k.table (length vs) now j) hit.1 (record {
              size = know.size;
              hart = know.hart ∙ sym hit.0;
              stack = know.stack ∙ ap k.table.stacks (sym hit.0);
              mine = know.mine ∙ ap (λ (q : ℕ). made_by q k.journal) (sym hit.0);
              most = know.most;
              made = λ first. know.made (sym hit.0 ∙ first) ∙ sym count;
              joined = λ first. ap (λ (es : List Ended). es ++ e ∷ []) (know.joined (sym hit.0 ∙ first));
            }))
            (λ miss. let o = k.views j q miss.1 lives in record {
              size = o.size;
              hart = o.hart;
              stack = o.stack;
              mine = o.mine;
              most = o.most;
              made = λ first. absurd (miss.0 (first ∙ sym id_zero));
              joined = λ first. absurd (miss.0 (first ∙ sym id_zero));
            })
            (at_set s.views id j both q t.1))
            (at_set mid other j spent_view q is);
        over = λ i d is. ⊎_elim
            (λ old. let o = k.over i d old in record {
              spent = set_else mid other d.hart spent_view (ended_other z s k other w there seat_w i d old) ∙ set_else s.views id d.hart both (ended_other z s k id v at seat i d old) ∙ o.spent;
              stack = o.stack;
              mine = o.mine;
            })
            (λ new. subst (HasEnded k.journal k.table vs) new (record {
              spent = ap (get_elem? vs) know_w.hart ∙ set_here mid other spent_view in_mid;
              stack = ap k.table.stacks know_w.hart ∙ sym know_w.stack ∙ base;
              mine = know_w.mine ∙ ap (λ (q : ℕ). made_by q k.journal) (sym know_w.hart);
            }))
            (at_snoc k.ended e d i is);
        unmade = λ j high. k.unmade j (omega arith);
      },
      refl,
      refl,
    )

pub joins : (z : Size) (id other : ℕ) (v w : View) → v.hart ≡ 0 → IsSeat v → IsSeat w → w.stack ≡ [] → Joins (Stands z) id v other w (joined_view v w) spent_view
joins z id other v w zeroth seat seat_w base s k at apart there =
    (join_keeps z s k id v at seat zeroth other w apart (sym (set_else s.views id other (joined_view v w) apart) ∙ there) seat_w base).0

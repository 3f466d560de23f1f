use Rattle.std.proofs.Common.{◌∙◌, ◌++◌, ◌<◌, ◌≤◌, ◌∷◌, [], ℕ, Vec, Global, append-nil, length, replicate, take, ap, sym, arith}
use Rattle.std.proofs.lemmas.List.{take_all}
use Rattle.claim_words.specs.declared.table.TheConstants.{MOST_ROWS}
use Rattle.shared_sites.proofs.ClaimRows.{take_room, take_full, row_next}
use Rattle.shared_sites.proofs.claims.add_rows.Goals.{then-len-lt-MOST_ROWS+in_ok-push, else-len-lt-MOST_ROWS}
use Rattle.shared_sites.proofs.claims.add_rows.Goals as goal

pub loop-done-init : goal.loop-done-init
loop-done-init c = sym (ap (take MOST_ROWS) (append-nil c.args.counts.now.items) ∙ take_all MOST_ROWS c.args.counts.now.items c.requires)

pub loop-done-preserved : goal.loop-done-preserved
loop-done-preserved c =
    let before = c.args.counts.now.items in
    let rows = before ++ replicate c.loop-done.done c.args.members in
    let was = c.loop-done.invariant in
    let next = ap (take MOST_ROWS) (row_next before c.loop-done.done c.args.members) in
    elim c.if-len-lt-MOST_ROWS.branch [
      | then-len-lt-MOST_ROWS+in_ok-push w ↦
          let short : length (take MOST_ROWS rows) < MOST_ROWS = (let a = w.if-len-lt-MOST_ROWS.true in let b = c.len.ensures in omega (arith, a, b, ap length was)) in
          ap (λ (v : Vec ℕ Global). v.items) w.counts-is ∙ w.in_ok-push.ensures.items ∙ ap (λ l. l ++ c.args.members ∷ []) was ∙ take_room MOST_ROWS rows c.args.members short ∙ next
      | else-len-lt-MOST_ROWS w ↦
          let full : MOST_ROWS ≤ length (take MOST_ROWS rows) = (let a = w.if-len-lt-MOST_ROWS.false in let b = c.len.ensures in omega (arith, a, b, ap length was)) in
          ap (λ (v : Vec ℕ Global). v.items) w.counts-is ∙ was ∙ take_full MOST_ROWS rows c.args.members full ∙ next
    ]

use Rattle.std.proofs.Common.{◌≡◌, ◌+◌, ◌-◌, ◌<◌, ◌==◌, length, take, drop, sym, arith, length-drop}
use Rattle.std.proofs.lemmas.List.{take_all, length-take-le}
use Rattle.journal_text.proofs.Cuts.{uncut, cut_at, cut_within}
use Rattle.journal_text.proofs.read.cut_line.Goals as goal

pub returns-in_err-end : goal.returns-in_err-end
returns-in_err-end c = rw c.from_residual.ensures (uncut (λ byte. byte == 10) c.args.text.now (sym (c.in_err-end.ensures)))

pub returns : goal.returns
returns c =
    let text = c.args.text.now in
    let end = c.in_ok-end.end in
    let within : end < length text = cut_within (λ byte. byte == 10) text end (sym (c.in_ok-end.ensures)) in
    let rest : take (length text - (end + 1)) (drop (end + 1) text) ≡ drop (end + 1) text = take_all (length text - (end + 1)) (drop (end + 1) text) (omega (arith, length-drop (end + 1) text)) in
    rw rest (cut_at (λ byte. byte == 10) text end 0 (sym (c.in_ok-end.ensures)), omega (arith, length-take-le end text (omega arith), length-drop (end + 1) text))

use Rattle.std.proofs.Common.{◌≡◌, ◌∙◌, ◌++◌, ◌+◌, ◌<◌, ◌≤◌, [], List, ℕ, length, drop, string_bytes, ap, refl, sym, rules}
use Rattle.std.proofs.lemmas.List.{append-nil, drop_all}
use Rattle.std.specs.Fmt.{decimal}
use Rattle.std.specs.Prelude.{codes}
use Rattle.journal_picture.specs.TextPicture.{cell, mark_text, numbers_text}
use Rattle.journal_picture.proofs.Turns.{numbers_more}
use Rattle.journal_picture.proofs.Written.{on_four, on_pushed, turn}
use Rattle.journal_picture.proofs.text.write_numbers_line.Goals as goal

pub loop-i-preserved : goal.loop-i-preserved
loop-i-preserved c =
    let at = c.args.at in
    let i = c.loop-i.i in
    let es = c.args.shown.now in
    let within : i < length es = search rules in
    let wrote : string_bytes c.write_number.new.text ≡ string_bytes c.loop-i.text ++ cell (decimal (at + i)) = search rules in
    turn (string_bytes c.loop-i.text) (string_bytes c.write_number.new.text) (cell (decimal (at + i))) (numbers_text (at + i) (drop i es))
    (numbers_text (at + (i + 1)) (drop (i + 1) es)) _ c.loop-i.invariant (numbers_more at i es within) wrote

pub returns : goal.returns
returns c =
    let old = string_bytes c.args.text.now in
    let head = codes "    entry" in
    let second = string_bytes c.loop-i.text in
    let third = string_bytes c.write_mark.new.text in
    let fourth = string_bytes c.push_str-2.new.self in
    let es = c.args.shown.now in
    let i = c.loop-i.i in
    let past : length es ≤ i = search rules in
    let none : numbers_text (c.args.at + i) (drop i es) ≡ [] = ap (numbers_text (c.args.at + i)) (drop_all i es past) in
    let numbers : second ≡ (old ++ head) ++ numbers_text c.args.at es = sym (append-nil second) ∙ ap (λ (x : List ℕ). second ++ x) (sym none) ∙ c.loop-i.invariant in
    on_four c.push_str-2.result old (old ++ head) second third fourth head (numbers_text c.args.at c.args.shown.now)
    (mark_text c.args.marked) (codes "\n") refl numbers c.in_ok-write_mark.ensures
    (on_pushed c.push_str-2.result fourth third (codes "\n") c.push_str-2.ensures.bytes)

use Rattle.std.proofs.Common.{◌≡◌, ◌∙◌, ◌++◌, ◌≤◌, [], List, ℕ, length, drop, string_bytes, ap, refl, sym, rules}
use Rattle.std.proofs.lemmas.List.{append-nil, drop_all}
use Rattle.std.specs.List.{flat_map}
use Rattle.std.specs.Prelude.{codes}
use Rattle.transfer_table.specs.declared.entry.Entry.{Entry}
use Rattle.journal_picture.specs.TextPicture.{cell, word_of}
use Rattle.journal_picture.proofs.Written.{on_pushed, on_three}
use Rattle.journal_picture.proofs.text.write_entries_line.Goals as goal

pub returns : goal.returns
returns c =
    let es = c.args.shown.now in
    let i = c.loop-entry.entry-index in
    let old = string_bytes c.args.text.now in
    let head = codes "         " in
    let cells = flat_map (λ (e : Entry). cell (word_of c.args.line e)) in
    let second = string_bytes c.loop-entry.text in
    let third = string_bytes c.push_str-2.new.self in
    let past : length es ≤ i = search rules in
    let none : cells (drop i es) ≡ [] = ap (λ (x : List Entry). cells x) (drop_all i es past) in
    let written : second ≡ (old ++ head) ++ cells es = sym (append-nil second) ∙ ap (λ (x : List ℕ). second ++ x) (sym none) ∙ c.loop-entry.invariant in
    on_three c.push_str-2.result old (old ++ head) second third head (cells es) (codes "\n") refl written
    (on_pushed c.push_str-2.result third second (codes "\n") c.push_str-2.ensures.bytes)

use Rattle.std.proofs.Common.{◌≡◌, ◌∙◌, ◌++◌, ◌+◌, ℕ, OnOk, string_bytes, ap, subst}
use Rattle.journal_picture.specs.Scale.{rows_of}
use Rattle.journal_picture.specs.SvgMarks.{fault_note, fault_stroke, fault_word, fault_x, guide_text}
use Rattle.journal_picture.specs.Views.{view_of}
use Rattle.journal_picture.proofs.Written.{on_three}
use Rattle.journal_picture.proofs.marks.write_fault_marks.Goals as goal

pub returns : goal.returns
returns c =
    let v = view_of c.args.drawing.now in
    let x = c.args.x in
    let top = c.args.top in
    let words = c.args.words.now in
    let r = c.write_fault_note.result in
    let old = string_bytes c.args.text.now in
    let first = string_bytes c.write_guide.new.text in
    let second = string_bytes c.write_fault_word.new.text in
    let third = string_bytes c.write_fault_note.new.text in
    let left : c.fault_x.result ≡ fault_x (rows_of v) = c.fault_x.ensures ∙ ap (λ (n : ℕ). fault_x n) c.rows.ensures.same in
    let note : OnOk r (third ≡ second ++ fault_note (fault_x (rows_of v)) words) = subst (λ (n : ℕ). OnOk r (third ≡ second ++ fault_note n words)) left c.write_fault_note.ensures in
    on_three r old first second third (guide_text v x top fault_stroke) (fault_word x (top + 24) words) (fault_note (fault_x (rows_of v)) words)
    c.in_ok-write_guide.ensures c.in_ok-write_fault_word.ensures note

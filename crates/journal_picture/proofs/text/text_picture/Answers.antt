use Rattle.std.proofs.Common.{◌≡◌, ◌∙◌, ◌++◌, ℕ, Bool, List, Option, IfOk, ap, subst, rules}
use Rattle.transfer_table.specs.Journal.{first_fault_of}
use Rattle.transfer_table.specs.declared.entry.Entry.{Entry}
use Rattle.transfer_table.specs.declared.fault.Fault.{Fault}
use Rattle.journal_picture.specs.Drawn.{before, drawn, has_fault}
use Rattle.journal_picture.specs.Faults.{fault_line_of}
use Rattle.journal_picture.specs.TextPicture.{ending_of, text_of}
use Rattle.journal_picture.specs.Views.{View, view, view_of}
use Rattle.journal_picture.proofs.text.text_picture.Goals as goal

pub returns : goal.returns
returns c =
    let p = c.args.plan.now in
    let meant = c.args.meant.now in
    let shapes = c.args.shapes.now in
    let es = c.args.list.now in
    let verdict = c.args.verdict.now in
    let fault : c.in_ok-fault.fault ≡ first_fault_of p meant es = c.in_ok-fault.ensures.fault in
    let shown : view_of c.in_ok-drawing.drawing ≡ view p shapes (drawn p meant es) =
    c.in_ok-drawing.ensures ∙ ap (λ (x : List Entry). view p shapes x) (c.before-2.ensures.same ∙ ap (λ (f : Option Fault). before f es) fault) in
    let faulty : c.is_some.result ≡ has_fault p meant es = search rules in
    let ending : c.deref.result.now ≡ ending_of p meant es verdict =
    c.deref.ensures.value ∙ c.in_ok-ending.ensures ∙ ap (λ (f : Option Fault). fault_line_of p es f ++ verdict) fault in
    let whole = ap (λ (x : View). text_of x c.is_some.result c.deref.result.now) shown
    ∙ ap (λ (b : Bool). text_of (view p shapes (drawn p meant es)) b c.deref.result.now) faulty
    ∙ ap (λ (x : List ℕ). text_of (view p shapes (drawn p meant es)) (has_fault p meant es) x) ending in
    subst (λ (x : List ℕ). IfOk c.text_of.result (λ text. text.items ≡ x)) whole c.text_of.ensures

use Rattle.std.proofs.Common.{List, ℕ, map, string_bytes, sym, subst}
use Rattle.run_audit.specs.Parts.{most_audited}
use Rattle.picture_call.specs.Seen.{picture_seen}
use Rattle.lithe_call.specs.Printing.{GivesWithin}
use Rattle.picture_call.proofs.Showing.{no_picture_is_fault, picture_of_given}
use Rattle.picture_call.proofs.call.picture_for.Goals as goal

pub returns-clause-picture : goal.returns-clause-picture
returns-clause-picture g c =
    let wanted = c.in_ok-wanted.wanted in
    let left = g.A.Source.left c.args.source.now in
    let left' = g.A.Source.left c.read_all.new.source in
    let given = subst (λ (bytes : List ℕ). GivesWithin most_audited left bytes left') (sym c.deref.ensures.value) c.in_ok-bytes.ensures.whole in
    picture_of_given picture_seen (map string_bytes c.args.words.now) wanted.form wanted.runner wanted.harts c.drawn.result c.deref.result.now left left'
    c.in_ok-wanted.ensures.named c.in_ok-wanted.ensures.parsed given c.drawn.ensures.picture

pub returns-clause-fault : goal.returns-clause-fault
returns-clause-fault g c =
    let wanted = c.in_ok-wanted.wanted in
    let left = g.A.Source.left c.args.source.now in
    let left' = g.A.Source.left c.read_all.new.source in
    let given = subst (λ (bytes : List ℕ). GivesWithin most_audited left bytes left') (sym c.deref.ensures.value) c.in_ok-bytes.ensures.whole in
    no_picture_is_fault (map string_bytes c.args.words.now) wanted.runner wanted.harts c.drawn.result c.deref.result.now left left'
    (g.A.Source.faults c.args.source.now) (g.A.Source.faults c.read_all.new.source) c.in_ok-wanted.ensures.parsed given c.drawn.ensures.fault

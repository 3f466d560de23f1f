use Rattle.std.proofs.Common.{ap, ◌∙◌, map, ◌≡◌, take}
use Rattle.journal_text.specs.Reading.{words_of, entry_of}
use Rattle.journal_text.proofs.Steps.{entry_of_few, reads_exactly}
use Rattle.journal_text.proofs.read.entry_of.Goals as goal

pub returns : goal.returns
returns c =
    let words : map (λ word. word.now) c.deref.result.now ≡ take 7 (words_of c.args.line.now) = ap (map (λ word. word.now)) c.deref.ensures.value ∙ c.in_ok-words.ensures in
    reads_exactly _ c.entry_by.result (c.entry_by.ensures ∙ ap (entry_of c.args.plan.now c.args.place) words ∙ entry_of_few c.args.plan.now c.args.place (words_of c.args.line.now))

use Rattle.std.proofs.Common.{ap, ◌∙◌, map, ◌≡◌, take}
use Rattle.journal_text.specs.Reading.{words_of, count_in}
use Rattle.journal_text.proofs.Steps.{count_of_few, reads_exactly}
use Rattle.journal_text.proofs.read.count_in.Goals as goal

pub returns : goal.returns
returns c =
    let words : map (λ word. word.now) c.deref.result.now ≡ take 7 (words_of c.args.line.now) = ap (map (λ word. word.now)) c.deref.ensures.value ∙ c.in_ok-words.ensures in
    reads_exactly _ c.count_by.result (c.count_by.ensures ∙ ap count_in words ∙ count_of_few (words_of c.args.line.now))

use Rattle.array_lang.proofs.Whole.{unexpected, none_parsed}
use Rattle.array_lang.proofs.spelling.whole.Goals as goal

pub returns-in-Err-Unexpected : goal.returns-in-Err-Unexpected
returns-in-Err-Unexpected c =
    let h = rw c.in-Err-Unexpected.field-0-is at c.in-Err-Unexpected.ensures in
    (unexpected _ _ _ _ c.requires h c.place.ensures, λ p d. absurd (none_parsed _ _ p h d))

use Rattle.std.proofs.Common.{◌≡◌, ◌∷◌, ◌++◌, [], ◌+◌, ◌<◌, true, length, drop, get_or, string_bytes, rules}
use Rattle.std.specs.List.{take_while}
use Rattle.journal_picture.specs.Kinds.{is_letter}
use Rattle.journal_picture.proofs.Named.{letter_low, letters_more}
use Rattle.journal_picture.proofs.Written.{turn}
use Rattle.journal_picture.proofs.shape.kind_name.Goals as goal

pub loop-i-preserved : goal.loop-i-preserved
loop-i-preserved c =
    let xs = c.args.kind.letters in
    let i = c.loop-i.i in
    let x = get_or xs i 0 in
    let within : i < length xs = search rules in
    let is : is_letter x ≡ true = search rules in
    let low : x < 128 = letter_low x is in
    let wrote : string_bytes c.push.new.self ≡ string_bytes c.loop-i.name ++ x ∷ [] = search rules in
    turn (string_bytes c.loop-i.name) (string_bytes c.push.new.self) (x ∷ []) (take_while is_letter (drop i xs))
    (take_while is_letter (drop (i + 1) xs)) _ c.loop-i.invariant (letters_more xs i within is) wrote

use Rattle.std.proofs.Common.{◌≡◌, ◌∙◌, ◌<◌, [], map, string_bytes, length, sym, arith}
use Rattle.std.proofs.lemmas.Bool.{eqb-true}
use Rattle.std.proofs.lemmas.Bool.Decides.{nat_tests}
use Rattle.std.proofs.lemmas.List.{length-map, nil_from_length}
use Rattle.picture_call.proofs.Cutting.{values_one, values_stopped, values_two, values_more}
use Rattle.picture_call.proofs.options.values.Goals as goal

pub returns-then-is_empty : goal.returns-then-is_empty
returns-then-is_empty c =
    let rest = map string_bytes c.in_ok-name.rest.now in
    let none : rest ≡ [] = nil_from_length rest (length-map c.in_ok-name.rest.now string_bytes ∙ eqb-true (length c.in_ok-name.rest.now) 0 (sym c.if-is_empty.ensures)) in
    c.value_alone.ensures ∙ sym (values_one (map string_bytes c.args.words.now) (c.in_ok-name.name.now, c.in_ok-name.value.now) rest (sym c.in_ok-name.ensures) none)

pub returns-in_err-second : goal.returns-in_err-second
returns-in_err-second c =
    let rest = map string_bytes c.in_ok-name.rest.now in
    let some : 0 < length c.in_ok-name.rest.now = grind (arith, nat_tests, c.if-is_empty.ensures) in
    rw c.from_residual-in_err-second.ensures (sym (values_stopped (map string_bytes c.args.words.now) (c.in_ok-name.name.now, c.in_ok-name.value.now) rest
    (sym c.in_ok-name.ensures) (omega (arith, some, length-map c.in_ok-name.rest.now string_bytes)) (sym c.in_err-second.ensures)))

pub returns-then-not-is_empty : goal.returns-then-not-is_empty
returns-then-not-is_empty c =
    let rest = map string_bytes c.in_ok-name.rest.now in
    let last = map string_bytes c.in_ok-second.rest.now in
    let some : 0 < length c.in_ok-second.rest.now = grind (arith, nat_tests, c.if-not-is_empty.ensures) in
    sym (values_more (map string_bytes c.args.words.now) (c.in_ok-name.name.now, c.in_ok-name.value.now) (c.in_ok-second.second.now, c.in_ok-second.other.now) rest last
    (sym c.in_ok-name.ensures) (sym c.in_ok-second.ensures) (omega (arith, some, length-map c.in_ok-second.rest.now string_bytes)))

pub returns : goal.returns
returns c =
    let rest = map string_bytes c.in_ok-name.rest.now in
    let last = map string_bytes c.in_ok-second.rest.now in
    let none : last ≡ [] = nil_from_length last (length-map c.in_ok-second.rest.now string_bytes ∙ eqb-true (length c.in_ok-second.rest.now) 0 (sym c.if-not-is_empty.ensures)) in
    c.two_values.ensures ∙ sym (values_two (map string_bytes c.args.words.now) (c.in_ok-name.name.now, c.in_ok-name.value.now) (c.in_ok-second.second.now, c.in_ok-second.other.now) rest last
    (sym c.in_ok-name.ensures) (sym c.in_ok-second.ensures) none)

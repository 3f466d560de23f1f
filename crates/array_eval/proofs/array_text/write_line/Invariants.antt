use Rattle.std.proofs.Common.{◌≡◌, ◌++◌, ◌∷◌, [], take}
use Rattle.std.specs.Prelude.{flat_map}
use Rattle.std.specs.Fmt.{signed_decimal}
use Rattle.array_eval.proofs.array_text.write_line.Given as goal

abbrev pub invariant-loop-value : goal.invariant-loop-value
invariant-loop-value l =
    l.text.items ≡ l.fn.text.items ++ (l.name ++ (32 ∷ 61 ∷ []) ++ flat_map (λ value. 32 ∷ signed_decimal value) (take l.value-index l.cells))

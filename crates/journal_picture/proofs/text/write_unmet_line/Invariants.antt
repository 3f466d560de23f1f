use Rattle.std.proofs.Common.{◌≡◌, ◌++◌, drop, string_bytes}
use Rattle.std.specs.Fmt.{decimal}
use Rattle.std.specs.List.{flat_map}
use Rattle.std.specs.Prelude.{codes}
use Rattle.journal_picture.specs.declared.strip.Figures.{Figures}
use Rattle.journal_picture.specs.TextPicture.{cell}
use Rattle.journal_picture.proofs.text.write_unmet_line.Given as goal

-- The text so far, and the figures of the other places.
abbrev pub invariant-loop-figures : goal.invariant-loop-figures
invariant-loop-figures l =
    string_bytes l.text ++ flat_map (λ (f : Figures). cell (decimal f.unmet)) (drop l.figures-index l.shown)
    ≡ (string_bytes l.fn.text ++ codes "unm") ++ flat_map (λ (f : Figures). cell (decimal f.unmet)) l.shown

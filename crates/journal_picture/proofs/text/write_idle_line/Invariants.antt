use Rattle.std.proofs.Common.{◌≡◌, ◌++◌, drop, string_bytes}
use Rattle.std.specs.List.{flat_map}
use Rattle.std.specs.Prelude.{codes}
use Rattle.journal_picture.specs.declared.strip.Figures.{Figures}
use Rattle.journal_picture.specs.TextPicture.{cell, idle_words}
use Rattle.journal_picture.proofs.text.write_idle_line.Given as goal

-- The text so far, and the figures of the other places.
abbrev pub invariant-loop-figures : goal.invariant-loop-figures
invariant-loop-figures l =
    string_bytes l.text ++ flat_map (λ (f : Figures). cell (idle_words f)) (drop l.figures-index l.shown)
    ≡ (string_bytes l.fn.text ++ codes "idl") ++ flat_map (λ (f : Figures). cell (idle_words f)) l.shown

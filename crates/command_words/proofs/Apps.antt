-- The program with its commands, one by one.
use Rattle.std.proofs.Common.{◌≡◌, ◌+◌, ◌<◌, ◌≤◌, ℕ, false, List, [], ◌∷◌, length, take, get_or, codes, fold, sym, ap, ap₂, ◌∙◌}
use Rattle.std.proofs.lemmas.List.{take_all}
use Rattle.std.proofs.lemmas.List.Sums.{fold_more}
use Rattle.std.specs.Borrow.{Bor}
use Rattle.clap.specs.Words.{App, Shape, with_subcommand}
use Rattle.command_words.specs.App.{command_with, program_shape}
use Rattle.command_words.specs.Form.{harts_alone, made_from}

-- The program with the first two commands; and one more command that has only a number of harts.
abbrev pub first_app : App
first_app = record { top = record program_shape { is_leaf = false }; subs = command_with (codes "solo") [] ∷ command_with (codes "make") made_from ∷ [] }

abbrev pub one_more : App → Bor (List ℕ) → App
one_more app name = with_subcommand app (command_with name.now harts_alone)

abbrev pub with_all : List (Bor (List ℕ)) → App
with_all names = fold one_more first_app names

pub step_all : (names : List (Bor (List ℕ))) (i : ℕ) (d : Bor (List ℕ)) (app new : App) (sub : Shape) → app ≡ with_all (take i names) → new ≡ with_subcommand app sub
    → sub ≡ command_with (get_or names i d).now harts_alone → i < length names → new ≡ with_all (take (i + 1) names)
step_all names i d app new sub so_far added is below = added ∙ ap₂ with_subcommand so_far is ∙ sym (fold_more one_more first_app names i d below)

pub done_all : (names : List (Bor (List ℕ))) (i : ℕ) (app : App) → app ≡ with_all (take i names) → length names ≤ i → app ≡ with_all names
done_all names i app so_far all = so_far ∙ ap with_all (take_all i names all)

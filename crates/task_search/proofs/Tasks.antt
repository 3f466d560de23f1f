-- The tasks of a search, and what they found.
use Rattle.std.proofs.Common.{◌≡◌, ℕ, ◌<◌, Bool, Option, List, [], ◌∷◌, zero, suc, ◌∙◌, length, get_or, ap, sym, subst, arith, Bor}
use Rattle.std.specs.List.{AllZip, find}
use Rattle.std.specs.Option.{option_copied}
use Rattle.task_search.specs.Preorder.{preorder}
use Rattle.task_search.specs.Searches.{IsSearchOf}
use Rattle.task_search.specs.declared.search.Search.{Search}
use Rattle.task_search.specs.declared.tree.Tree.{Tree}

-- What each task found is the first in its tree.
pub found_of_each : {T W : Type 0} (wants : W → T → Bool) (wanted : W) (levels : ℕ) (trees : List (Tree T)) (searches : List (Search T W)) (found : List (Option (Bor T))) → AllZip (IsSearchOf wanted levels) trees searches → AllZip (λ search one. option_copied one ≡ find (wants search.wanted.now) (preorder search.tree.now)) searches found → AllZip (λ tree one. option_copied one ≡ find (wants wanted) (preorder tree)) trees found
found_of_each wants wanted levels [] [] [] _ _ = tt
found_of_each wants wanted levels [] [] (one ∷ found) _ given = absurd given
found_of_each wants wanted levels [] (search ∷ searches) found are _ = absurd are
found_of_each wants wanted levels (tree ∷ trees) [] found are _ = absurd are
found_of_each wants wanted levels (tree ∷ trees) (search ∷ searches) [] _ given = absurd given
found_of_each wants wanted levels (tree ∷ trees) (search ∷ searches) (one ∷ found) are given = (
  given.0
      ∙ ap (λ w. find (wants w) (preorder search.tree.now)) are.0.1
      ∙ ap (λ t. find (wants wanted) (preorder t)) are.0.0,
  found_of_each wants wanted levels trees searches found are.1 given.1,
)

-- Each task has fewer levels inside than there are.
pub levels_below : {T W : Type 0} (wanted : W) (levels limit : ℕ) (trees : List (Tree T)) (searches : List (Search T W)) → AllZip (IsSearchOf wanted levels) trees searches → levels < limit → (k : ℕ) (d : Search T W) → k < length searches → (get_or searches k d).levels < limit
levels_below wanted levels limit [] [] _ _ k d within = absurd (omega arith)
levels_below wanted levels limit [] (search ∷ searches) are _ k d _ = absurd are
levels_below wanted levels limit (tree ∷ trees) [] are _ k d _ = absurd are
levels_below wanted levels limit (tree ∷ trees) (search ∷ searches) are fewer zero d _ =
    subst (λ n. n < limit) (sym are.0.2) fewer
levels_below wanted levels limit (tree ∷ trees) (search ∷ searches) are fewer (suc k) d within =
    levels_below wanted levels limit trees searches are.1 fewer k d (omega arith)

-- The values of a tree, by those of the trees below.
use Rattle.std.proofs.Common.{◌≡◌, ℕ, ◌+◌, ◌<◌, ◌≤◌, Bool, true, false, cond, None, Some, List, ◌∷◌, ◌∙◌, length, get_or, take, ap, sym}
use Rattle.std.specs.List.{find, flat_map}
use Rattle.std.proofs.lemmas.List.{take_all}
use Rattle.std.proofs.lemmas.List.Folds.{flat_map-map}
use Rattle.task_search.specs.Preorder.{preorder, values_of}
use Rattle.task_search.specs.declared.tree.Tree.{Tree}
use Rattle.task_search.specs.declared.tree.Tree.TheViews.{out-Tree}
use Rattle.task_search.specs.declared.tree.Tree.TheFolds.{fold_out-Tree}
use Rattle.task_search.proofs.Finds.{find_through, find_stays}

-- A tree's values are its root's, and then those of the trees below.
pub preorder_out : {T : Type 0} (tree : Tree T) → preorder tree ≡ (out-Tree T tree).value ∷ flat_map preorder (out-Tree T tree).children.items
preorder_out {T} tree =
    fold_out-Tree T (List T) values_of tree
    ∙ ap (λ values. (out-Tree T tree).value ∷ values) (flat_map-map (λ (values : List T). values) preorder (out-Tree T tree).children.items)

-- The first value that passes a test is that of the root, if it passes.
pub find_root : {T : Type 0} (p : T → Bool) (tree : Tree T) → p (out-Tree T tree).value ≡ true → find p (preorder tree) ≡ Some (out-Tree T tree).value
find_root {T} p tree passes =
    ap (find p) (preorder_out tree)
    ∙ ap (λ b. cond b (Some (out-Tree T tree).value) (find p (flat_map preorder (out-Tree T tree).children.items))) passes

-- And else that of the trees below.
pub find_below : {T : Type 0} (p : T → Bool) (tree : Tree T) → p (out-Tree T tree).value ≡ false → find p (preorder tree) ≡ find p (flat_map preorder (out-Tree T tree).children.items)
find_below {T} p tree fails =
    ap (find p) (preorder_out tree)
    ∙ ap (λ b. cond b (Some (out-Tree T tree).value) (find p (flat_map preorder (out-Tree T tree).children.items))) fails

-- The trees below are searched in order: one has been found in tree i.
pub found_at : {T : Type 0} (p : T → Bool) (tree : Tree T) (trees : List (Tree T)) (i : ℕ) (child : Tree T) (found : T) → p (out-Tree T tree).value ≡ false → trees ≡ (out-Tree T tree).children.items → i < length trees → child ≡ get_or trees i child → find p (flat_map preorder (take i trees)) ≡ None → find p (preorder child) ≡ Some found → find p (preorder tree) ≡ Some found
found_at p tree trees i child found fails same within is none one =
    let through : find p (flat_map preorder (take (i + 1) trees)) ≡ Some found = find_through preorder p trees i child within is none ∙ one in
    find_below p tree fails
    ∙ ap (λ ts. find p (flat_map preorder ts)) (sym same)
    ∙ find_stays preorder p trees (i + 1) found through

-- None has been found in any.
pub none_at : {T : Type 0} (p : T → Bool) (tree : Tree T) (trees : List (Tree T)) (i : ℕ) → p (out-Tree T tree).value ≡ false → trees ≡ (out-Tree T tree).children.items → length trees ≤ i → find p (flat_map preorder (take i trees)) ≡ None → find p (preorder tree) ≡ None
none_at p tree trees i fails same past none =
    find_below p tree fails
    ∙ ap (λ ts. find p (flat_map preorder ts)) (sym same ∙ sym (take_all i trees past))
    ∙ none

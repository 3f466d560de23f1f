-- The notes of several parts in sequence.
use Rattle.std.proofs.Common.{◌≡◌, ℕ, true, List, [], ◌∷◌, ◌++◌, ap, ◌∙◌}
use Rattle.std.specs.List.{fold}
use Rattle.std.proofs.lemmas.List.Sums.{fold-append}
use Rattle.array_tree.specs.Trees.{Expression}
use Rattle.array_meaning.specs.Stores.{Arrays, Vars}
use Rattle.array_meaning.specs.Steps.{Steps, Set, Choose, Done, followed_by}
use Rattle.array_meaning.specs.Touch.{Visit, walk, reads_in, visit}
use Rattle.array_meaning.proofs.FrameLemmas.{walk_followed_by}
use Rattle.site_walk.specs.Visits.{after}

pub visits_append : {N : Type 0} (noted : N → Visit → N) (notes : N) (xs ys : List Visit) →
    fold noted notes (xs ++ ys) ≡ fold noted (fold noted notes xs) ys
visits_append noted notes xs ys = fold-append noted notes xs ys

pub after_followed_by : {N : Type 0} (noted : N → Visit → N) (arrays : Arrays) (a b : Steps) (notes : N) →
    after noted arrays (followed_by a b) notes ≡ after noted arrays b (after noted arrays a notes)
after_followed_by noted arrays a b notes =
    ap (fold noted notes) (walk_followed_by arrays a b) ∙ fold-append noted notes (walk arrays a) (walk arrays b)

pub after_set : {N : Type 0} (noted : N → Visit → N) (arrays : Arrays) (l : ℕ) (vs : Vars) (n : List ℕ) (i e : Expression) (notes : N) →
    after noted arrays (Set l vs n i e Done) notes
    ≡ noted (fold noted (fold noted notes (reads_in arrays l vs i)) (reads_in arrays l vs e)) (visit arrays l true vs n i)
after_set noted arrays l vs n i e notes =
    let own = visit arrays l true vs n i ∷ [] in
    fold-append noted notes (reads_in arrays l vs i) (reads_in arrays l vs e ++ own)
    ∙ fold-append noted (fold noted notes (reads_in arrays l vs i)) (reads_in arrays l vs e) own

pub after_choose : {N : Type 0} (noted : N → Visit → N) (arrays : Arrays) (l : ℕ) (vs : Vars) (e : Expression) (a b : Steps) (notes : N) →
    after noted arrays (Choose l vs e a b Done) notes
    ≡ after noted arrays b (after noted arrays a (fold noted notes (reads_in arrays l vs e)))
after_choose noted arrays l vs e a b notes =
    let tested = fold noted notes (reads_in arrays l vs e) in
    fold-append noted notes (reads_in arrays l vs e) (walk arrays a ++ (walk arrays b ++ []))
    ∙ fold-append noted tested (walk arrays a) (walk arrays b ++ [])
    ∙ fold-append noted (after noted arrays a tested) (walk arrays b) []

-- The sites of a loop over the tree's lists: the first of the remaining ones, and then the others.
use Rattle.std.proofs.Common.{◌≡◌, ℕ, zero, suc, ◌+◌, ◌<◌, List, [], ◌∷◌, ◌++◌, map, length, drop, get_or, drop-cons, add-one, Option, ℤ, pos, ◌+ℤ◌, ◌<ℤ◌, refl, sym, ap, ◌∙◌, arith}
use Rattle.array_tree.specs.declared.tree.Stmt.{Stmt}
use Rattle.array_tree.specs.declared.tree.Block.{Block}
use Rattle.array_tree.specs.Trees.{Sequence, statement_of, sequence_of, sequence, sequences}
use Rattle.array_meaning.specs.Stores.{Vars}
use Rattle.array_meaning.specs.Work.{span}
use Rattle.array_meaning.specs.Plans.{sites_in}
use Rattle.array_meaning.specs.Sites.{Site, turn_sites, loop_sites, statement_sites, sequence_sites, branches_sites, phases_sites}
use Rattle.array_meaning.proofs.StepLemmas.{span_next}
use Rattle.array_meaning.proofs.LastLemmas.{or_none}
use Rattle.array_meaning.proofs.PlanLemmas.{sequence_sites_length}
use Rattle.site_counts.specs.Capped.{capped}
use Rattle.site_walk.specs.Firsts.{or_first_of}
use Rattle.site_walk.proofs.FirstLemmas.{or_first_append}

none_long : (sites : List Site) → length sites ≡ 0 → sites ≡ []
none_long [] e = refl
none_long (s ∷ sites) e = absurd (omega arith)

no_turn_sites : (body : ℤ → List Site) → ((x : ℤ) → body x ≡ []) → (low : ℤ) (n : ℕ) → turn_sites body low n ≡ []
no_turn_sites body none low zero = refl
no_turn_sites body none low (suc n) = ap (λ sites. sites ++ turn_sites body (low +ℤ pos 1) n) (none low) ∙ no_turn_sites body none (low +ℤ pos 1) n

module _ {F : Type 0} (f : Site → Option F) where
  pub statement_next : (ss : List Stmt) (i : ℕ) (d : Stmt) (vars : Vars) (s : Option F) → i < length ss →
      or_first_of f (sequence_sites (sequence (map statement_of (drop i ss))) vars) s
      ≡ or_first_of f (sequence_sites (sequence (map statement_of (drop (i + 1) ss))) vars) (or_first_of f (statement_sites (statement_of (get_or ss i d)) vars) s)
  statement_next ss i d vars s h =
      ap (λ rest. or_first_of f (sequence_sites (sequence (map statement_of rest)) vars) s) (drop-cons ss i d h)
      ∙ rw add-one (or_first_append f (statement_sites (statement_of (get_or ss i d)) vars) (sequence_sites (sequence (map statement_of (drop (suc i) ss))) vars) s)

  pub branch_next : (bs : List Block) (i : ℕ) (d : Block) (vars : Vars) (s : Option F) → i < length bs →
      or_first_of f (branches_sites (sequences (map sequence_of (drop i bs))) vars) s
      ≡ or_first_of f (branches_sites (sequences (map sequence_of (drop (i + 1) bs))) vars) (or_first_of f (sequence_sites (sequence_of (get_or bs i d)) vars) s)
  branch_next bs i d vars s h =
      ap (λ rest. or_first_of f (branches_sites (sequences (map sequence_of rest)) vars) s) (drop-cons bs i d h)
      ∙ rw add-one (or_first_append f (sequence_sites (sequence_of (get_or bs i d)) vars) (branches_sites (sequences (map sequence_of (drop (suc i) bs))) vars) s)

  pub phase_next : (bs : List Block) (i : ℕ) (d : Block) (var : List ℕ) (low high : ℤ) (vars : Vars) (s : Option F) → i < length bs →
      or_first_of f (phases_sites (sequences (map sequence_of (drop i bs))) var low high vars) s
      ≡ or_first_of f (phases_sites (sequences (map sequence_of (drop (i + 1) bs))) var low high vars) (or_first_of f (loop_sites var low high (sequence_sites (sequence_of (get_or bs i d))) vars) s)
  phase_next bs i d var low high vars s h =
      ap (λ rest. or_first_of f (phases_sites (sequences (map sequence_of rest)) var low high vars) s) (drop-cons bs i d h)
      ∙ rw add-one (or_first_append f (loop_sites var low high (sequence_sites (sequence_of (get_or bs i d))) vars) (phases_sites (sequences (map sequence_of (drop (suc i) bs))) var low high vars) s)

  pub turn_next : (var : List ℕ) (x high : ℤ) (body : Vars → List Site) (vars : Vars) (s : Option F) → x <ℤ high →
      or_first_of f (loop_sites var x high body vars) s ≡ or_first_of f (loop_sites var (x +ℤ pos 1) high body vars) (or_first_of f (body ((var, x) ∷ vars)) s)
  turn_next var x high body vars s h =
      ap (λ n. or_first_of f (turn_sites (λ y. body ((var, y) ∷ vars)) x n) s) (span_next x high h)
      ∙ or_first_append f (body ((var, x) ∷ vars)) (loop_sites var (x +ℤ pos 1) high body vars) s

  -- A loop whose body enters no site adds nothing.
  pub no_sites : (var : List ℕ) (low high : ℤ) (body : Sequence) (vars : Vars) (found : Option F) → capped (sites_in body) ≡ 0 →
      found ≡ or_first_of f (loop_sites var low high (sequence_sites body) vars) found
  no_sites var low high body vars found e =
      let none : sites_in body ≡ 0 = omega arith in
      sym (ap (λ sites. or_first_of f sites found)
      (no_turn_sites (λ x. sequence_sites body ((var, x) ∷ vars)) (λ x. none_long (sequence_sites body ((var, x) ∷ vars)) (sequence_sites_length body ((var, x) ∷ vars) ∙ none)) low (span low high))
      ∙ or_none found)

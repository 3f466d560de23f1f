-- There is one value per site of the plan: whether the meaning enters the site.
use Rattle.std.proofs.Common.{◌≡◌, ℕ, zero, suc, ◌+◌, ◌*◌, Bool, true, false, cond, List, ◌∷◌, ◌++◌, length, replicate, ℤ, pos, ◌+ℤ◌, refl, ◌∙◌, arith, length-append}
use Rattle.std.proofs.lemmas.List.{length-replicate}
use Rattle.array_tree.specs.Trees.{Statement, Assign, For, If, Par, Team, Sequence, ended, followed, Sequences, no_more, beside}
use Rattle.array_meaning.specs.Values.{holds}
use Rattle.array_meaning.specs.Stores.{Arrays, Vars, Store, value_of}
use Rattle.array_meaning.specs.Steps.{Steps, exec}
use Rattle.array_meaning.specs.Work.{span, loop, statement_work, sequence_work}
use Rattle.array_meaning.specs.Plans.{statement_sites_in, sites_in, branches_sites_in}
use Rattle.array_meaning.specs.Entered.{Entering, turns_entered, statement_entered, sequence_entered, branches_entered, phases_entered, sequence_part}

pub turns_length : (arrays : Arrays) (n count : ℕ) (work : ℤ → Steps) (body : ℤ → Entering) (low : ℤ) → ((x : ℤ) (store : Store) → length (body x store) ≡ count) → (store : Store) →
    length (turns_entered arrays (λ x. (work x, body x)) low n store) ≡ n * count
turns_length arrays zero count work body low h store = omega arith
turns_length arrays (suc n) count work body low h store =
    length-append (body low store) _
    ∙ rw (h low store, turns_length arrays n count work body (low +ℤ pos 1) h (exec arrays (work low) store)) (omega arith)

mutual
  pub statement_length : (arrays : Arrays) (s : Statement) (vars : Vars) (store : Store) → length (statement_entered arrays s vars store) ≡ statement_sites_in s
  statement_length arrays (Assign line array index value) vars store = refl
  statement_length arrays (For line var low high body) vars store =
      turns_length arrays (span low high) (sites_in body) (λ x. sequence_work body ((var, x) ∷ vars)) (λ x. sequence_entered arrays body ((var, x) ∷ vars)) low (λ x. sequence_length arrays body ((var, x) ∷ vars)) store
  statement_length arrays (If line test left right) vars store = side (holds (value_of arrays vars test store)) (sequence_length arrays left vars store) (sequence_length arrays right vars store)
    where
      side : (b : Bool) → length (sequence_entered arrays left vars store) ≡ sites_in left → length (sequence_entered arrays right vars store) ≡ sites_in right →
          length (cond b (sequence_entered arrays left vars store ++ replicate (sites_in right) false) (replicate (sites_in left) false ++ sequence_entered arrays right vars store)) ≡ sites_in left + sites_in right
      side true l r = length-append (sequence_entered arrays left vars store) (replicate (sites_in right) false) ∙ rw (l, length-replicate (sites_in right) false) refl
      side false l r = length-append (replicate (sites_in left) false) (sequence_entered arrays right vars store) ∙ rw (length-replicate (sites_in left) false, r) refl
  statement_length arrays (Par line branches) vars store = let inside = branches_length arrays branches vars store in omega (arith, inside)
  statement_length arrays (Team line var low high members phases) vars store =
      let inside = phases_length arrays phases var low high vars store in omega (arith, inside)

  pub sequence_length : (arrays : Arrays) (s : Sequence) (vars : Vars) (store : Store) → length (sequence_entered arrays s vars store) ≡ sites_in s
  sequence_length arrays ended vars store = refl
  sequence_length arrays (followed first rest) vars store =
      length-append (statement_entered arrays first vars store) _
      ∙ rw (statement_length arrays first vars store, sequence_length arrays rest vars (exec arrays (statement_work first vars) store)) refl

  branches_length : (arrays : Arrays) (bs : Sequences) (vars : Vars) (store : Store) → length (branches_entered arrays bs vars store) ≡ branches_sites_in bs
  branches_length arrays no_more vars store = refl
  branches_length arrays (beside first rest) vars store =
      length-append (sequence_entered arrays first vars store) _
      ∙ rw (sequence_length arrays first vars store, branches_length arrays rest vars (exec arrays (sequence_work first vars) store)) refl

  phases_length : (arrays : Arrays) (bs : Sequences) (var : List ℕ) (low high : ℤ) (vars : Vars) (store : Store) → length (phases_entered arrays bs var low high vars store) ≡ span low high * branches_sites_in bs
  phases_length arrays no_more var low high vars store = omega arith
  phases_length arrays (beside first rest) var low high vars store =
      let one = turns_length arrays (span low high) (sites_in first) (λ x. sequence_work first ((var, x) ∷ vars)) (λ x. sequence_entered arrays first ((var, x) ∷ vars)) low (λ x. sequence_length arrays first ((var, x) ∷ vars)) store in
      let more = phases_length arrays rest var low high vars (exec arrays (loop var low high (sequence_work first) vars) store) in
      length-append (turns_entered arrays (λ x. sequence_part arrays first ((var, x) ∷ vars)) low (span low high) store) _
      ∙ rw (one, more) (omega arith)

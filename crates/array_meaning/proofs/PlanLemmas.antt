-- Plans: their lengths, and parents before children.
use Rattle.std.proofs.Common.{◌≡◌, ℕ, zero, suc, ◌+◌, ◌*◌, ◌<◌, List, [], ◌∷◌, ◌++◌, length, ℤ, pos, ◌+ℤ◌, refl, ◌∙◌, arith, length-append}
use Rattle.array_tree.specs.Trees.{Statement, Assign, For, If, Par, Team, Sequence, ended, followed, Sequences, no_more, beside}
use Rattle.array_meaning.specs.Stores.{Vars}
use Rattle.array_meaning.specs.Work.{span}
use Rattle.array_meaning.specs.Plans.{Parents, and_then, repeated, construct, statement_parents, sequence_parents, branches_parents, phases_parents, statement_sites_in, sites_in, branches_sites_in, AreEarlier}
use Rattle.array_meaning.specs.Sites.{Site, turn_sites, statement_sites, sequence_sites, branches_sites, phases_sites}

-- ---- lengths

repeated_length : (n count : ℕ) (body : Parents) → ((around next : ℕ) → length (body around next) ≡ count) → (around next : ℕ) →
    length (repeated n body around next) ≡ n * count
repeated_length zero count body h around next = omega arith
repeated_length (suc n) count body h around next =
    length-append (body around next) (repeated n body around (next + length (body around next)))
    ∙ rw (h around next, repeated_length n count body h around (next + count)) (omega arith)

mutual
  statement_length : (s : Statement) (around next : ℕ) → length (statement_parents s around next) ≡ statement_sites_in s
  statement_length (Assign line array index value) around next = refl
  statement_length (For line var low high body) around next =
      repeated_length (span low high) (sites_in body) (sequence_parents body) (sequence_length body) around next
  statement_length (If line cond then_block else_block) around next =
      length-append (sequence_parents then_block around next) _
      ∙ rw (sequence_length then_block around next, sequence_length else_block around (next + sites_in then_block)) refl
  statement_length (Par line branches) around next =
      let inside = branches_length branches next (next + 1) in omega (arith, inside)
  statement_length (Team line var low high members phases) around next =
      let inside = phases_length phases (span low high) next (next + 1) in omega (arith, inside)

  pub sequence_length : (s : Sequence) (around next : ℕ) → length (sequence_parents s around next) ≡ sites_in s
  sequence_length ended around next = refl
  sequence_length (followed first rest) around next =
      length-append (statement_parents first around next) _
      ∙ rw (statement_length first around next, sequence_length rest around (next + statement_sites_in first)) refl

  branches_length : (bs : Sequences) (around next : ℕ) → length (branches_parents bs around next) ≡ branches_sites_in bs
  branches_length no_more around next = refl
  branches_length (beside first rest) around next =
      length-append (sequence_parents first around next) _
      ∙ rw (sequence_length first around next, branches_length rest around (next + sites_in first)) refl

  phases_length : (bs : Sequences) (n around next : ℕ) → length (phases_parents bs n around next) ≡ n * branches_sites_in bs
  phases_length no_more n around next = omega arith
  phases_length (beside first rest) n around next =
      let one = repeated_length n (sites_in first) (sequence_parents first) (sequence_length first) around next in
      let more = phases_length rest n around (next + n * sites_in first) in
      length-append (repeated n (sequence_parents first) around next) _
      ∙ rw (one, more) (omega arith)

-- ---- parents before children

earlier_append : (next : ℕ) (xs ys : List ℕ) → AreEarlier next xs → AreEarlier (next + length xs) ys → AreEarlier next (xs ++ ys)
earlier_append next [] ys h k = (let same : next + 0 ≡ next = omega arith in rw same at k)
earlier_append next (x ∷ xs) ys h k =
    (h.0, earlier_append (next + 1) xs ys h.1 (let same : next + suc (length xs) ≡ next + 1 + length xs = omega arith in rw same at k))

abbrev AllEarlier : Parents → Type 0
AllEarlier parents = (around next : ℕ) → around < next → AreEarlier next (parents around next)

then_earlier : (first rest : Parents) → AllEarlier first → AllEarlier rest → AllEarlier (and_then first rest)
then_earlier first rest h k around next below =
    earlier_append next (first around next) _ (h around next below)
    (k around (next + length (first around next)) (let lt : around < next + length (first around next) = omega arith in lt))

repeated_earlier : (n : ℕ) (body : Parents) → AllEarlier body → AllEarlier (repeated n body)
repeated_earlier zero body h around next below = tt
repeated_earlier (suc n) body h around next below = then_earlier body (repeated n body) h (repeated_earlier n body h) around next below

construct_earlier : (inside : Parents) → AllEarlier inside → AllEarlier (construct inside)
construct_earlier inside h around next below = (below, h next (next + 1) (let lt : next < next + 1 = omega arith in lt))

mutual
  statement_earlier : (s : Statement) → AllEarlier (statement_parents s)
  statement_earlier (Assign line array index value) around next below = tt
  statement_earlier (For line var low high body) around next below =
      repeated_earlier (span low high) (sequence_parents body) (sequence_earlier body) around next below
  statement_earlier (If line cond then_block else_block) around next below =
      then_earlier (sequence_parents then_block) (sequence_parents else_block) (sequence_earlier then_block) (sequence_earlier else_block) around next below
  statement_earlier (Par line branches) around next below =
      construct_earlier (branches_parents branches) (branches_earlier branches) around next below
  statement_earlier (Team line var low high members phases) around next below =
      construct_earlier (phases_parents phases (span low high)) (phases_earlier phases (span low high)) around next below

  pub sequence_earlier : (s : Sequence) → AllEarlier (sequence_parents s)
  sequence_earlier ended around next below = tt
  sequence_earlier (followed first rest) around next below =
      then_earlier (statement_parents first) (sequence_parents rest) (statement_earlier first) (sequence_earlier rest) around next below

  branches_earlier : (bs : Sequences) → AllEarlier (branches_parents bs)
  branches_earlier no_more around next below = tt
  branches_earlier (beside first rest) around next below =
      then_earlier (sequence_parents first) (branches_parents rest) (sequence_earlier first) (branches_earlier rest) around next below

  phases_earlier : (bs : Sequences) (n : ℕ) → AllEarlier (phases_parents bs n)
  phases_earlier no_more n around next below = tt
  phases_earlier (beside first rest) n around next below =
      then_earlier (repeated n (sequence_parents first)) (phases_parents rest n)
      (repeated_earlier n (sequence_parents first) (sequence_earlier first)) (phases_earlier rest n) around next below

-- ---- one value per parent

turn_sites_length : (n count : ℕ) (body : ℤ → List Site) (low : ℤ) → ((x : ℤ) → length (body x) ≡ count) →
    length (turn_sites body low n) ≡ n * count
turn_sites_length zero count body low h = omega arith
turn_sites_length (suc n) count body low h =
    length-append (body low) (turn_sites body (low +ℤ pos 1) n)
    ∙ rw (h low, turn_sites_length n count body (low +ℤ pos 1) h) (omega arith)

mutual
  statement_sites_length : (s : Statement) (vars : Vars) → length (statement_sites s vars) ≡ statement_sites_in s
  statement_sites_length (Assign line array index value) vars = refl
  statement_sites_length (For line var low high body) vars =
      turn_sites_length (span low high) (sites_in body) (λ x. sequence_sites body ((var, x) ∷ vars)) low (λ x. sequence_sites_length body ((var, x) ∷ vars))
  statement_sites_length (If line cond then_block else_block) vars =
      length-append (sequence_sites then_block vars) (sequence_sites else_block vars)
      ∙ rw (sequence_sites_length then_block vars, sequence_sites_length else_block vars) refl
  statement_sites_length (Par line branches) vars = let inside = branches_sites_length branches vars in omega (arith, inside)
  statement_sites_length (Team line var low high members phases) vars =
      let inside = phases_sites_length phases var low high vars in omega (arith, inside)

  pub sequence_sites_length : (s : Sequence) (vars : Vars) → length (sequence_sites s vars) ≡ sites_in s
  sequence_sites_length ended vars = refl
  sequence_sites_length (followed first rest) vars =
      length-append (statement_sites first vars) (sequence_sites rest vars)
      ∙ rw (statement_sites_length first vars, sequence_sites_length rest vars) refl

  branches_sites_length : (bs : Sequences) (vars : Vars) → length (branches_sites bs vars) ≡ branches_sites_in bs
  branches_sites_length no_more vars = refl
  branches_sites_length (beside first rest) vars =
      length-append (sequence_sites first vars) (branches_sites rest vars)
      ∙ rw (sequence_sites_length first vars, branches_sites_length rest vars) refl

  phases_sites_length : (bs : Sequences) (var : List ℕ) (low high : ℤ) (vars : Vars) → length (phases_sites bs var low high vars) ≡ span low high * branches_sites_in bs
  phases_sites_length no_more var low high vars = omega arith
  phases_sites_length (beside first rest) var low high vars =
      let one = turn_sites_length (span low high) (sites_in first) (λ x. sequence_sites first ((var, x) ∷ vars)) low (λ x. sequence_sites_length first ((var, x) ∷ vars)) in
      let more = phases_sites_length rest var low high vars in
      length-append (turn_sites (λ x. sequence_sites first ((var, x) ∷ vars)) low (span low high)) (phases_sites rest var low high vars)
      ∙ rw (one, more) (omega arith)

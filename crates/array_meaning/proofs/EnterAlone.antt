-- Which sites a part enters depends only on what it reads. So parts that are apart may each enter theirs from one store.
use Rattle.std.proofs.Common.{◌≡◌, ℕ, zero, suc, ◌+◌, ◌-◌, ◌*◌, ◌<◌, ◌≤◌, true, false, cond, List, [], ◌∷◌, ◌++◌, replicate, ℤ, pos, ◌+ℤ◌, refl, sym, ap, ◌∙◌, arith, append_assoc}
use Rattle.std.proofs.lemmas.Int.{ints}
use Rattle.std.proofs.Math.Nat.{mul-div_cancel, zero-div}
use Rattle.array_tree.specs.Trees.{Statement, Assign, For, If, Par, Team, Sequence, ended, followed, Sequences, no_more, beside}
use Rattle.array_meaning.specs.Values.{holds}
use Rattle.array_meaning.specs.Stores.{Arrays, Vars, Store, after, at_cell, length_of, value_of}
use Rattle.array_meaning.specs.Steps.{Steps, followed_by, join, writes_of, exec}
use Rattle.array_meaning.specs.Work.{turns, span, loop, statement_work, sequence_work, branches_work, phases_work}
use Rattle.array_meaning.specs.Touch.{walk, reads_in, reads_of, IsApart}
use Rattle.array_meaning.specs.Sites.{branch_works}
use Rattle.array_meaning.specs.Members.{first_of, start_of, member_work, member_works}
use Rattle.array_meaning.specs.Plans.{sites_in}
use Rattle.array_meaning.specs.Entered.{Entering, entered_then, turns_entered, loop_entered, statement_entered, sequence_entered, branches_entered, phases_entered, DependsOnReads, branches_alone, members_alone, sequence_part}
use Rattle.array_meaning.proofs.StepLemmas.{length_after, exec_followed_by}
use Rattle.array_meaning.proofs.FrameLemmas.{walk_followed_by, touched_left, touched_right, value_same, writes_same, writes_within, kept, same_after}
use Rattle.array_meaning.proofs.OrderLemmas.{separate_join}
use Rattle.array_meaning.proofs.MemberLemmas.{span_cut, first_of_far}

-- A part: its steps, and what it enters.
abbrev Part : Type 0
Part = Steps × Entering

abbrev works_in : List Part → List Steps
works_in [] = []
works_in (p ∷ ps) = p.0 ∷ works_in ps

-- What parts enter in sequence, and what each enters from the one store.
abbrev threaded : Arrays → List Part → Entering
threaded arrays [] store = []
threaded arrays (p ∷ ps) store = entered_then arrays p (threaded arrays ps) store

abbrev alone : List Part → Entering
alone [] store = []
alone (p ∷ ps) store = p.1 store ++ alone ps store

module _ (arrays : Arrays) (sizes : (name : List ℕ) → 0 < length_of arrays name) where
  -- One part followed by another depends on what both read.
  depends_then : (a b : Steps) (first rest : Entering) → DependsOnReads arrays a first → DependsOnReads arrays b rest →
      DependsOnReads arrays (followed_by a b) (entered_then arrays (a, first) rest)
  depends_then a b first rest da db s t len agree =
      let on_a : (c : ℕ) → reads_of arrays a c → at_cell s c ≡ at_cell t c
      = λ c h. agree c (rw (walk_followed_by arrays a b) (touched_left arrays false (walk arrays a) (walk arrays b) c h)) in
      let on_b : (c : ℕ) → reads_of arrays b c → at_cell s c ≡ at_cell t c
      = λ c h. agree c (rw (walk_followed_by arrays a b) (touched_right arrays false (walk arrays a) (walk arrays b) c h)) in
      let ws = writes_of arrays a t in
      let wrote : writes_of arrays a s ≡ ws = writes_same arrays sizes a s t len on_a in
      let here : first s ≡ first t = da s t len on_a in
      let there : rest (after ws s) ≡ rest (after ws t)
      = db (after ws s) (after ws t) (length_after ws s ∙ len ∙ sym (length_after ws t)) (λ c h. same_after ws s t c len (on_b c h)) in
      ap (λ x. x ++ rest (exec arrays a s)) here
      ∙ ap (λ x. first t ++ rest (after x s)) wrote
      ∙ ap (λ x. first t ++ x) there

  depends_turns : (work : ℤ → Steps) (body : ℤ → Entering) (n : ℕ) (low : ℤ) → ((x : ℤ) → DependsOnReads arrays (work x) (body x)) →
      DependsOnReads arrays (turns work low n) (turns_entered arrays (λ x. (work x, body x)) low n)
  depends_turns work body zero low h s t len agree = refl
  depends_turns work body (suc n) low h s t len agree =
      depends_then (work low) (turns work (low +ℤ pos 1) n) (body low) (turns_entered arrays (λ x. (work x, body x)) (low +ℤ pos 1) n) (h low) (depends_turns work body n (low +ℤ pos 1) h) s t len agree

  mutual
    depends_statement : (st : Statement) (vars : Vars) → DependsOnReads arrays (statement_work st vars) (statement_entered arrays st vars)
    depends_statement (Assign line array index value) vars s t len agree = refl
    depends_statement (For line var low high body) vars s t len agree =
        depends_turns (λ x. sequence_work body ((var, x) ∷ vars)) (λ x. sequence_entered arrays body ((var, x) ∷ vars)) (span low high) low (λ x. depends_sequence body ((var, x) ∷ vars)) s t len agree
    depends_statement (If line test left right) vars s t len agree =
        let walked = reads_in arrays line vars test in
        let l = walk arrays (sequence_work left vars) in
        let r = walk arrays (sequence_work right vars) in
        let on_left = depends_sequence left vars s t len (λ c h. agree c (touched_right arrays false walked _ c (touched_left arrays false l _ c h))) in
        let on_right = depends_sequence right vars s t len (λ c h. agree c (touched_right arrays false walked _ c (touched_right arrays false l _ c (touched_left arrays false r _ c h)))) in
        let at_test : value_of arrays vars test s ≡ value_of arrays vars test t = value_same arrays sizes line vars test s t (λ c h. agree c (touched_left arrays false walked _ c h)) in
        ap (λ v. cond (holds v) (sequence_entered arrays left vars s ++ replicate (sites_in right) false) (replicate (sites_in left) false ++ sequence_entered arrays right vars s)) at_test
        ∙ ap (λ v. cond (holds (value_of arrays vars test t)) (v ++ replicate (sites_in right) false) (replicate (sites_in left) false ++ sequence_entered arrays right vars s)) on_left
        ∙ ap (λ v. cond (holds (value_of arrays vars test t)) (sequence_entered arrays left vars t ++ replicate (sites_in right) false) (replicate (sites_in left) false ++ v)) on_right
    depends_statement (Par line branches) vars s t len agree = ap (λ x. true ∷ x) (depends_branches branches vars s t len agree)
    depends_statement (Team line var low high members phases) vars s t len agree = ap (λ x. true ∷ x) (depends_phases phases var low high vars s t len agree)

    pub depends_sequence : (body : Sequence) (vars : Vars) → DependsOnReads arrays (sequence_work body vars) (sequence_entered arrays body vars)
    depends_sequence ended vars s t len agree = refl
    depends_sequence (followed first rest) vars s t len agree =
        depends_then (statement_work first vars) (sequence_work rest vars) (statement_entered arrays first vars) (sequence_entered arrays rest vars) (depends_statement first vars) (depends_sequence rest vars) s t len agree

    depends_branches : (bs : Sequences) (vars : Vars) → DependsOnReads arrays (branches_work bs vars) (branches_entered arrays bs vars)
    depends_branches no_more vars s t len agree = refl
    depends_branches (beside first rest) vars s t len agree =
        depends_then (sequence_work first vars) (branches_work rest vars) (sequence_entered arrays first vars) (branches_entered arrays rest vars) (depends_sequence first vars) (depends_branches rest vars) s t len agree

    depends_phases : (bs : Sequences) (var : List ℕ) (low high : ℤ) (vars : Vars) → DependsOnReads arrays (phases_work bs var low high vars) (phases_entered arrays bs var low high vars)
    depends_phases no_more var low high vars s t len agree = refl
    depends_phases (beside first rest) var low high vars s t len agree =
        depends_then (loop var low high (sequence_work first) vars) (phases_work rest var low high vars)
        (loop_entered arrays var low high (sequence_part arrays first) vars) (phases_entered arrays rest var low high vars)
        (depends_turns (λ x. sequence_work first ((var, x) ∷ vars)) (λ x. sequence_entered arrays first ((var, x) ∷ vars)) (span low high) low (λ x. depends_sequence first ((var, x) ∷ vars)))
        (depends_phases rest var low high vars) s t len agree

  -- ---- parts that are apart

  abbrev AllDepend : List Part → Type 0
  AllDepend [] = Unit {0}
  AllDepend (p ∷ ps) = DependsOnReads arrays p.0 p.1 × AllDepend ps

  depends_all : (ps : List Part) → AllDepend ps → DependsOnReads arrays (join (works_in ps)) (threaded arrays ps)
  depends_all [] all s t len agree = refl
  depends_all (p ∷ ps) all s t len agree = depends_then p.0 (join (works_in ps)) p.1 (threaded arrays ps) all.0 (depends_all ps all.1) s t len agree

  -- No later part reads what an earlier part changes, so each enters the same sites as from the one store.
  enter_alone : (ps : List Part) (store : Store) → AllDepend ps → IsApart arrays (works_in ps) → threaded arrays ps store ≡ alone ps store
  enter_alone [] store all apart = refl
  enter_alone (p ∷ ps) store all apart =
      let ws = writes_of arrays p.0 store in
      let unmoved : threaded arrays ps (after ws store) ≡ threaded arrays ps store
      = depends_all ps all.1 (after ws store) store (length_after ws store)
      (λ c h. kept ws store c (λ wrote. separate_join arrays sizes false p.0 (works_in ps) c apart.0 (writes_within arrays sizes p.0 store c wrote) h)) in
      ap (λ x. p.1 store ++ x) (unmoved ∙ enter_alone ps store all.1 apart.1)

  -- ---- branches

  abbrev branch_parts : Sequences → Vars → List Part
  branch_parts no_more vars = []
  branch_parts (beside first rest) vars = (sequence_work first vars, sequence_entered arrays first vars) ∷ branch_parts rest vars

  branches_are_parts : (bs : Sequences) (vars : Vars) → AllDepend (branch_parts bs vars) × (works_in (branch_parts bs vars) ≡ branch_works bs vars)
      × ((store : Store) → threaded arrays (branch_parts bs vars) store ≡ branches_entered arrays bs vars store)
      × ((store : Store) → alone (branch_parts bs vars) store ≡ branches_alone arrays bs vars store)
  branches_are_parts no_more vars = (tt, refl, λ store. refl, λ store. refl)
  branches_are_parts (beside first rest) vars =
      let more = branches_are_parts rest vars in (
        (depends_sequence first vars, more.0),
        ap (λ x. sequence_work first vars ∷ x) more.1,
        λ store. ap (λ x. sequence_entered arrays first vars store ++ x) (more.2 (exec arrays (sequence_work first vars) store)),
        λ store. ap (λ x. sequence_entered arrays first vars store ++ x) (more.3 store),
      )

  pub branches_enter : (bs : Sequences) (vars : Vars) (store : Store) → IsApart arrays (branch_works bs vars) →
      branches_entered arrays bs vars store ≡ branches_alone arrays bs vars store
  branches_enter bs vars store apart =
      let parts = branches_are_parts bs vars in
      sym (parts.2 store) ∙ enter_alone (branch_parts bs vars) store parts.0 (rw parts.1 apart) ∙ parts.3 store

  -- ---- members

  -- A loop may be cut at any turn.
  turns_cut : (work : ℤ → Steps) (body : ℤ → Entering) (a b : ℕ) (low : ℤ) (store : Store) →
      turns_entered arrays (λ x. (work x, body x)) low (a + b) store
      ≡ turns_entered arrays (λ x. (work x, body x)) low a store ++ turns_entered arrays (λ x. (work x, body x)) (low +ℤ pos a) b (exec arrays (turns work low a) store)
  turns_cut work body zero b low store =
      let none : zero + b ≡ b = omega arith in
      let same : low +ℤ pos 0 ≡ low = omega (arith, ints) in
      rw (none, same) refl
  turns_cut work body (suc a) b low store =
      let more : suc a + b ≡ suc (a + b) = omega arith in
      let same : low +ℤ pos 1 +ℤ pos a ≡ low +ℤ pos (suc a) = omega (arith, ints) in
      let next = exec arrays (work low) store in
      ap (λ n. turns_entered arrays (λ x. (work x, body x)) low n store) more
      ∙ ap (λ x. body low store ++ x) (turns_cut work body a b (low +ℤ pos 1) next)
      ∙ ap (λ y. body low store ++ (turns_entered arrays (λ x. (work x, body x)) (low +ℤ pos 1) a next ++ turns_entered arrays (λ x. (work x, body x)) y b (exec arrays (turns work (low +ℤ pos 1) a) next))) same
      ∙ ap (λ s. body low store ++ (turns_entered arrays (λ x. (work x, body x)) (low +ℤ pos 1) a next ++ turns_entered arrays (λ x. (work x, body x)) (low +ℤ pos (suc a)) b s)) (sym (exec_followed_by arrays (work low) (turns work (low +ℤ pos 1) a) store))
      ∙ sym (append_assoc (body low store) (turns_entered arrays (λ x. (work x, body x)) (low +ℤ pos 1) a next) (turns_entered arrays (λ x. (work x, body x)) (low +ℤ pos (suc a)) b (exec arrays (turns work low (suc a)) store)))

  module _ (var : List ℕ) (low high : ℤ) (m : ℕ) (body : Sequence) (vars : Vars) where
    abbrev one : ℤ → Steps
    one x = sequence_work body ((var, x) ∷ vars)

    abbrev enters : ℤ → Entering
    enters x = sequence_entered arrays body ((var, x) ∷ vars)

    abbrev member_parts : ℕ → ℕ → List Part
    member_parts j zero = []
    member_parts j (suc k) =
        (member_work var low high m (sequence_work body) j vars, loop_entered arrays var (start_of low high m j) (start_of low high m (j + 1)) (sequence_part arrays body) vars)
        ∷ member_parts (j + 1) k

    members_are_parts : (j k : ℕ) → AllDepend (member_parts j k) × (works_in (member_parts j k) ≡ member_works var low high m (sequence_work body) j k vars)
        × ((store : Store) → alone (member_parts j k) store ≡ members_alone arrays var low high m body j k vars store)
    members_are_parts j zero = (tt, refl, λ store. refl)
    members_are_parts j (suc k) =
        let more = members_are_parts (j + 1) k in
        let a = start_of low high m j in
        let b = start_of low high m (j + 1) in (
          (depends_turns one enters (span a b) a (λ x. depends_sequence body ((var, x) ∷ vars)), more.0),
          ap (λ x. member_work var low high m (sequence_work body) j vars ∷ x) more.1,
          λ store. ap (λ x. loop_entered arrays var a b (sequence_part arrays body) vars store ++ x) (more.2 store),
        )

    -- The members in sequence are the loop over their iterations.
    members_threaded : (j k : ℕ) (store : Store) → threaded arrays (member_parts j k) store
        ≡ turns_entered arrays (λ x. (one x, enters x)) (low +ℤ pos (first_of (span low high) m j)) (first_of (span low high) m (j + k) - first_of (span low high) m j) store
    members_threaded j zero store =
        let e : j + 0 ≡ j = omega arith in
        let z : first_of (span low high) m j - first_of (span low high) m j ≡ 0 = omega arith in
        rw (e, z) refl
    members_threaded j (suc k) store =
        let n = span low high in
        let a = first_of n m j in
        let b = first_of n m (j + 1) in
        let c = first_of n m (j + suc k) in
        let ab : a ≤ b = first_of_far n m j 1 in
        let next : j + 1 + k ≡ j + suc k = omega arith in
        let bc : b ≤ c = rw next at (first_of_far n m (j + 1) k) in
        let sum : (b - a) + (c - b) ≡ c - a = omega arith in
        let place : low +ℤ pos a +ℤ pos (b - a) ≡ low +ℤ pos b = omega (arith, ints) in
        let here : span (low +ℤ pos a) (low +ℤ pos b) ≡ b - a = span_cut low a b ab in
        let then = exec arrays (turns one (low +ℤ pos a) (b - a)) store in
        let rest : threaded arrays (member_parts (j + 1) k) then ≡ turns_entered arrays (λ x. (one x, enters x)) (low +ℤ pos b) (c - b) then
        = members_threaded (j + 1) k then ∙ ap (λ q. turns_entered arrays (λ x. (one x, enters x)) (low +ℤ pos b) (first_of n m q - b) then) next in
        ap (λ w. turns_entered arrays (λ x. (one x, enters x)) (low +ℤ pos a) w store ++ threaded arrays (member_parts (j + 1) k) (exec arrays (turns one (low +ℤ pos a) w) store)) here
        ∙ ap (λ x. turns_entered arrays (λ x. (one x, enters x)) (low +ℤ pos a) (b - a) store ++ x) (rest ∙ ap (λ y. turns_entered arrays (λ x. (one x, enters x)) y (c - b) then) (sym place))
        ∙ sym (turns_cut one enters (b - a) (c - b) (low +ℤ pos a) store)
        ∙ ap (λ w. turns_entered arrays (λ x. (one x, enters x)) (low +ℤ pos a) w store) sum

    pub members_enter : (store : Store) → 0 < m → IsApart arrays (member_works var low high m (sequence_work body) 0 m vars) →
        loop_entered arrays var low high (sequence_part arrays body) vars store ≡ members_alone arrays var low high m body 0 m vars store
    members_enter store some apart =
        let n = span low high in
        let parts = members_are_parts 0 m in
        let start : first_of n m 0 ≡ 0 = (let z : n * 0 ≡ 0 = omega arith in rw z (zero-div m)) in
        let end : first_of n m (0 + m) ≡ n = (let e : 0 + m ≡ m = omega arith in rw e (mul-div_cancel n some)) in
        let at : low +ℤ pos 0 ≡ low = omega (arith, ints) in
        let whole : n - 0 ≡ n = omega arith in
        let loop_of : threaded arrays (member_parts 0 m) store ≡ loop_entered arrays var low high (sequence_part arrays body) vars store
        = members_threaded 0 m store ∙ rw (start, end, at, whole) refl in
        sym loop_of ∙ enter_alone (member_parts 0 m) store parts.0 (rw parts.1 apart) ∙ parts.2 store

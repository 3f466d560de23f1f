-- Parts that are pushed one by one, with a rest behind them.
use Rattle.std.proofs.Common.{◌≡◌, ℕ, zero, suc, ◌+◌, ◌<◌, ◌≤◌, true, List, [], ◌∷◌, ◌++◌, length, map, drop, get_or, drop-cons, refl, sym, ap, ◌∙◌, subst, arith}
use Rattle.array_tree.specs.declared.tree.Stmt.{Stmt}
use Rattle.array_tree.specs.declared.tree.Block.{Block}
use Rattle.array_tree.specs.declared.tree.Blocks.{Blocks, roll-Blocks}
use Rattle.array_tree.specs.declared.tree.Stmt.TheOpen as open_tree
use Rattle.array_tree.specs.declared.tree.Stmt.TheFolds.{fold-roll-Blocks}
use Rattle.array_tree.specs.Trees.{Statement, Sequence, ended, followed, Sequences, no_more, beside, statement_of, sequence_of, sequences_of, sequence, sequences, statement_step, block_step, blocks_step}
use Rattle.std.proofs.lemmas.Bool.{and_parts}
use Rattle.array_meaning.specs.Limits.{has_right_ranges, statement_has_right_ranges}
use Rattle.spread_laws.specs.Spread.{and_rest}
use Rattle.spread_laws.specs.Served.{IsNarrowStatement, IsNarrowSequence, AreNarrow}

-- Blocks, and more blocks behind them.
abbrev pub and_beside : List Sequence → Sequences → Sequences
and_beside [] rest = rest
and_beside (b ∷ more) rest = beside b (and_beside more rest)

-- The item at i and those behind it.
pub cut_at : {A : Type 0} (items : List A) (item : A) (i : ℕ) → i < length items → item ≡ get_or items i item → drop i items ≡ item ∷ drop (i + 1) items
cut_at items item i lt at =
    let next : suc i ≡ i + 1 = omega arith in
    drop-cons items i item lt ∙ ap (λ z. z ∷ drop (suc i) items) (sym at) ∙ ap (λ (n : ℕ). item ∷ drop n items) next

none_left : {A : Type 0} (items : List A) (i : ℕ) → length items ≤ i → drop i items ≡ []
none_left [] zero le = refl
none_left [] (suc i) le = refl
none_left (x ∷ items) zero le = absurd (omega (arith, le))
none_left (x ∷ items) (suc i) le = none_left items i (omega (arith, le))

rest_append : (xs ys : List Statement) (rest : Sequence) → and_rest (xs ++ ys) rest ≡ and_rest xs (and_rest ys rest)
rest_append [] ys rest = refl
rest_append (x ∷ xs) ys rest = ap (followed x) (rest_append xs ys rest)

rest_ended : (xs : List Statement) → and_rest xs ended ≡ sequence xs
rest_ended [] = refl
rest_ended (x ∷ xs) = ap (followed x) (rest_ended xs)

beside_append : (xs : List Sequence) (b : Sequence) (rest : Sequences) → and_beside (xs ++ (b ∷ [])) rest ≡ and_beside xs (beside b rest)
beside_append [] b rest = refl
beside_append (x ∷ xs) b rest = ap (beside x) (beside_append xs b rest)

rest_no_more : (xs : List Sequence) → and_beside xs no_more ≡ sequences xs
rest_no_more [] = refl
rest_no_more (x ∷ xs) = ap (beside x) (rest_no_more xs)

map_pushed : {A B : Type 0} (f : A → B) (xs : List A) (x : A) → map f (xs ++ (x ∷ [])) ≡ map f xs ++ (f x ∷ [])
map_pushed f [] x = refl
map_pushed f (y ∷ xs) x = ap (λ zs. f y ∷ zs) (map_pushed f xs x)

-- One part is pushed.
pub put_one : {A B : Type 0} (f : A → B) (before after : List A) (x : A) (b : B) → after ≡ before ++ (x ∷ []) → f x ≡ b → map f after ≡ map f before ++ (b ∷ [])
put_one f before after x b put is = ap (map f) put ∙ map_pushed f before x ∙ ap (λ z. map f before ++ (z ∷ [])) is

-- ---- statements

-- The new form of the statement at i is pushed behind those before.
pub next_pushed : (g : Statement → List Statement) (F : Sequence → Sequence) → ((s : Statement) (r : Sequence) → F (followed s r) ≡ and_rest (g s) (F r))
    → (before after : List Statement) (items : List Stmt) (item : Stmt) (i : ℕ) (whole : Sequence) → i < length items → item ≡ get_or items i item
    → after ≡ before ++ g (statement_of item)
    → and_rest before (F (sequence (map statement_of (drop i items)))) ≡ whole → and_rest after (F (sequence (map statement_of (drop (i + 1) items)))) ≡ whole
next_pushed g F step before after items item i whole lt at put so =
    let rest = F (sequence (map statement_of (drop (i + 1) items))) in
    ap (λ xs. and_rest xs rest) put ∙ rest_append before (g (statement_of item)) rest
    ∙ ap (and_rest before) (sym (step (statement_of item) (sequence (map statement_of (drop (i + 1) items))))
    ∙ ap (λ zs. F (sequence (map statement_of zs))) (sym (cut_at items item i lt at))) ∙ so

-- At the end all are pushed.
pub all_pushed : (F : Sequence → Sequence) → F ended ≡ ended → (xs : List Statement) (items : List Stmt) (i : ℕ) (whole : Sequence) → length items ≤ i
    → and_rest xs (F (sequence (map statement_of (drop i items)))) ≡ whole → sequence xs ≡ whole
all_pushed F none xs items i whole le so =
    sym (rest_ended xs) ∙ ap (and_rest xs) (sym none ∙ ap (λ zs. F (sequence (map statement_of zs))) (sym (none_left items i le))) ∙ so

pub next_narrow : (items : List Stmt) (item : Stmt) (i : ℕ) (N : Type 0) → i < length items → item ≡ get_or items i item → IsNarrowStatement (statement_of item)
    → (IsNarrowSequence (sequence (map statement_of (drop i items))) → N) → IsNarrowSequence (sequence (map statement_of (drop (i + 1) items))) → N
next_narrow items item i N lt at narrow so rest =
    so (subst (λ zs. IsNarrowSequence (sequence (map statement_of zs))) (sym (cut_at items item i lt at)) (narrow, rest))

pub next_ranges : (items : List Stmt) (item : Stmt) (i : ℕ) → i < length items → item ≡ get_or items i item
    → has_right_ranges (sequence (map statement_of (drop i items))) ≡ true
    → (statement_has_right_ranges (statement_of item) ≡ true) × (has_right_ranges (sequence (map statement_of (drop (i + 1) items))) ≡ true)
next_ranges items item i lt at right =
    and_parts (statement_has_right_ranges (statement_of item)) (has_right_ranges (sequence (map statement_of (drop (i + 1) items))))
    (subst (λ zs. has_right_ranges (sequence (map statement_of zs)) ≡ true) (cut_at items item i lt at) right)

-- ---- blocks beside one another

pub next_beside : (g : Sequence → Sequence) (F next : Sequences → Sequences) → ((b : Sequence) (r : Sequences) → F (beside b r) ≡ beside (g b) (next r))
    → (before after : List Sequence) (items : List Block) (item : Block) (i : ℕ) (whole : Sequences) → i < length items → item ≡ get_or items i item
    → after ≡ before ++ (g (sequence_of item) ∷ [])
    → and_beside before (F (sequences (map sequence_of (drop i items)))) ≡ whole → and_beside after (next (sequences (map sequence_of (drop (i + 1) items)))) ≡ whole
next_beside g F next step before after items item i whole lt at put so =
    let rest = next (sequences (map sequence_of (drop (i + 1) items))) in
    ap (λ xs. and_beside xs rest) put ∙ beside_append before (g (sequence_of item)) rest
    ∙ ap (and_beside before) (sym (step (sequence_of item) (sequences (map sequence_of (drop (i + 1) items))))
    ∙ ap (λ zs. F (sequences (map sequence_of zs))) (sym (cut_at items item i lt at))) ∙ so

pub all_beside : (F : Sequences → Sequences) → F no_more ≡ no_more → (xs : List Sequence) (items : List Block) (i : ℕ) (whole : Sequences) → length items ≤ i
    → and_beside xs (F (sequences (map sequence_of (drop i items)))) ≡ whole → sequences xs ≡ whole
all_beside F none xs items i whole le so =
    sym (rest_no_more xs) ∙ ap (and_beside xs) (sym none ∙ ap (λ zs. F (sequences (map sequence_of zs))) (sym (none_left items i le))) ∙ so

pub next_narrow_block : (items : List Block) (item : Block) (i : ℕ) (N : Type 0) → i < length items → item ≡ get_or items i item → IsNarrowSequence (sequence_of item)
    → (AreNarrow (sequences (map sequence_of (drop i items))) → N) → AreNarrow (sequences (map sequence_of (drop (i + 1) items))) → N
next_narrow_block items item i N lt at narrow so rest =
    so (subst (λ zs. AreNarrow (sequences (map sequence_of zs))) (sym (cut_at items item i lt at)) (narrow, rest))

-- Blocks are the list that they are made of.
pub blocks_rolled : (blocks : open_tree.Blocks-F Stmt Block Blocks) → sequences_of (roll-Blocks blocks) ≡ sequences (map sequence_of blocks.blocks.items)
blocks_rolled blocks = fold-roll-Blocks Statement Sequence Sequences statement_step block_step blocks_step blocks

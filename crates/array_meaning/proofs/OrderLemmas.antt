-- Pieces that are apart may run from one store and be merged in any order.
use Rattle.std.proofs.Common.{◌≡◌, ℕ, ◌<◌, Bool, true, false, cond, List, [], ◌∷◌, ◌++◌, Option, Some, None, ℤ, refl, sym, ap, ◌∙◌, subst, ◌⊎◌, inl, inr, ⊎_elim, arith, map}
use Rattle.std.specs.Prelude.{nat_eq}
use Rattle.std.proofs.lemmas.Bool.Decides.{nat_tests}
use Rattle.array_meaning.specs.Stores.{Arrays, Store, Write, after, length_of}
use Rattle.array_meaning.specs.Steps.{Steps, join, writes_of}
use Rattle.array_meaning.specs.Touch.{walk, Touches, reads_of, changes_of, IsSeparate, IsSeparateFrom, IsApart}
use Rattle.std.specs.Option.{option_or}
use Rattle.array_meaning.specs.Pieces.{lays, last_writes, merged, piece_of, IsMember, HaveSameMembers, last_value}
use Rattle.array_meaning.proofs.StepLemmas.{length_after, writes_followed_by}
use Rattle.array_meaning.proofs.LastLemmas.{last_value_append, lays_append, same_last, last_value_last}
use Rattle.array_meaning.proofs.FrameLemmas.{IsWritten, kept, touched_either, writes_same, writes_within, walk_followed_by}

abbrev pub concat : List (List Write) → List Write
concat [] = []
concat (p ∷ ps) = p ++ concat ps

module _ (arrays : Arrays) (sizes : (name : List ℕ) → 0 < length_of arrays name) where
  -- A piece that is apart from each other one is apart from all of them together.
  pub separate_join : (w : Bool) (a : Steps) (bs : List Steps) (c : ℕ) → IsSeparateFrom arrays a bs → changes_of arrays a c → Touches arrays w (walk arrays (join bs)) c → ⊥
  separate_join w a [] c apart changed touched = touched
  separate_join w a (b ∷ bs) c apart changed touched =
      ⊎_elim
      (λ here. apart.0.left c changed (either w b c here))
      (λ there. separate_join w a bs c apart.1 changed there)
      (touched_either arrays w (walk arrays b) (walk arrays (join bs)) c (rw walk_followed_by at touched))
    where
      either : (w : Bool) (b : Steps) (c : ℕ) → Touches arrays w (walk arrays b) c → reads_of arrays b c ⊎ changes_of arrays b c
      either true b c h = inr h
      either false b c h = inl h

  -- In sequence, parts that are apart write what each writes from the one store.
  writes_join : (bs : List Steps) (s : Store) → IsApart arrays bs → writes_of arrays (join bs) s ≡ concat (map (λ b. writes_of arrays b s) bs)
  writes_join [] s apart = refl
  writes_join (b ∷ bs) s apart =
      let ws = writes_of arrays b s in
      let later = writes_same arrays sizes (join bs) (after ws s) s (length_after ws s)
      (λ c h. kept ws s c (λ wrote. separate_join false b bs c apart.0 (writes_within arrays sizes b s c wrote) h)) in
      writes_followed_by arrays b (join bs) s ∙ ap (λ x. ws ++ x) (later ∙ writes_join bs s apart.1)

-- ---- any order

-- Two pieces with a value at this cell have the same value.
abbrev Agreeing : List (List Write) → ℕ → Type 0
Agreeing ps k = (x y : List Write) → IsMember x ps → IsMember y ps → (u v : ℤ) → last_value x k ≡ Some u → last_value y k ≡ Some v → u ≡ v

-- A value after the merge comes from one of the pieces.
from_some : (ps : List (List Write)) (k : ℕ) (u : ℤ) → last_value (concat ps) k ≡ Some u → (p : List Write) × IsMember p ps × (last_value p k ≡ Some u)
from_some [] k u e = absurd (cc)
from_some (p ∷ ps) k u e = cases (from_some ps k) (last_value (concat ps) k) refl (sym (last_value_append p (concat ps) k) ∙ e)
  where
    cases : ((u : ℤ) → last_value (concat ps) k ≡ Some u → (p : List Write) × IsMember p ps × (last_value p k ≡ Some u)) →
        (x : Option ℤ) → last_value (concat ps) k ≡ x → option_or x (last_value p k) ≡ Some u → (q : List Write) × IsMember q (p ∷ ps) × (last_value q k ≡ Some u)
    cases ih None f g = (p, inl refl, g)
    cases ih (Some x) f g = let r = ih u (f ∙ g) in (r.0, inr r.1, r.2)

-- A cell with a value in one of the pieces has a value after the merge.
to_some : (ps : List (List Write)) (k : ℕ) (p : List Write) (u : ℤ) → IsMember p ps → last_value p k ≡ Some u → (v : ℤ) × (last_value (concat ps) k ≡ Some v)
to_some [] k p u m e = absurd m
to_some (q ∷ ps) k p u (inl same) e =
    rw (last_value_append q (concat ps) k) (cases (last_value (concat ps) k) (last_value q k) (ap (λ x. last_value x k) same ∙ e))
  where
    cases : (x y : Option ℤ) → y ≡ Some u → (v : ℤ) × (option_or x y ≡ Some v)
    cases None y f = (u, f)
    cases (Some x) y f = (x, refl)
to_some (q ∷ ps) k p u (inr m) e =
    let r = to_some ps k p u m e in
    (r.0, rw (last_value_append q (concat ps) k, r.1) refl)

-- The same pieces in another order leave the same value at a cell on which they agree.
same_pieces : (ps qs : List (List Write)) (k : ℕ) → ((x : List Write) → IsMember x ps → IsMember x qs) → ((x : List Write) → IsMember x qs → IsMember x ps) →
    Agreeing ps k → last_value (concat ps) k ≡ last_value (concat qs) k
same_pieces ps qs k to from agree = cases (last_value (concat ps) k) (last_value (concat qs) k) refl refl
  where
    cases : (a b : Option ℤ) → last_value (concat ps) k ≡ a → last_value (concat qs) k ≡ b → a ≡ b
    cases None None e f = refl
    cases None (Some v) e f =
        let q = from_some qs k v f in
        let lost = to_some ps k q.0 v (from q.0 q.1) q.2 in
        absurd (let wrong = sym e ∙ lost.1 in cc)
    cases (Some u) None e f =
        let p = from_some ps k u e in
        let lost = to_some qs k p.0 u (to p.0 p.1) p.2 in
        absurd (let wrong = sym f ∙ lost.1 in cc)
    cases (Some u) (Some v) e f =
        let p = from_some ps k u e in
        let q = from_some qs k v f in
        ap (λ x. Some x) (agree p.0 q.0 p.1 (from q.0 q.1) u v p.2 q.2)

pub member_map : {A B : Type 0} (f : A → B) (xs : List A) (y : B) → IsMember y (map f xs) → (x : A) × IsMember x xs × (f x ≡ y)
member_map f [] y m = absurd m
member_map f (x ∷ xs) y (inl e) = (x, inl refl, e)
member_map f (x ∷ xs) y (inr m) = let r = member_map f xs y m in (r.0, inr r.1, r.2)

pub map_member : {A B : Type 0} (f : A → B) (xs : List A) (x : A) → IsMember x xs → IsMember (f x) (map f xs)
map_member f [] x m = absurd m
map_member f (y ∷ xs) x (inl e) = inl (ap f e)
map_member f (y ∷ xs) x (inr m) = inr (map_member f xs x m)

pub members_map : {A B : Type 0} (f : A → B) (xs ys : List A) → ((x : A) → IsMember x xs → IsMember x ys) → (y : B) → IsMember y (map f xs) → IsMember y (map f ys)
members_map f xs ys to y m =
    let r = member_map f xs y m in
    subst (λ z. IsMember z (map f ys)) r.2 (map_member f ys r.0 (to r.0 r.1))

last_value_written : (ws : List Write) (k : ℕ) (u : ℤ) → last_value ws k ≡ Some u → IsWritten ws k
last_value_written [] k u e = absurd (cc)
last_value_written (w ∷ ws) k u e = cases (last_value_written ws k) (last_value ws k) (nat_eq w.0 k) refl refl e
  where
    cases : ((u : ℤ) → last_value ws k ≡ Some u → IsWritten ws k) → (x : Option ℤ) (y : Bool) → last_value ws k ≡ x → nat_eq w.0 k ≡ y → option_or x (cond y (Some w.1) None) ≡ Some u → IsWritten (w ∷ ws) k
    cases ih (Some x) y f g h = inr (ih x f)
    cases ih None true f g h = inl (grind (arith, nat_tests))
    cases ih None false f g h = absurd (cc)

merged_concat : (ps : List (List Write)) (o : List Write) → merged ps o ≡ lays (concat ps) o
merged_concat [] o = refl
merged_concat (p ∷ ps) o = merged_concat ps (lays p o) ∙ sym (lays_append p (concat ps) o)

module _ (arrays : Arrays) (sizes : (name : List ℕ) → 0 < length_of arrays name) where
  separate_either : (a : Steps) (bs : List Steps) (b : Steps) → IsSeparateFrom arrays a bs → IsMember b bs → IsSeparate arrays a b
  separate_either a [] b apart m = absurd m
  separate_either a (c ∷ bs) b apart (inl e) = subst (λ x. IsSeparate arrays a x) e apart.0
  separate_either a (c ∷ bs) b apart (inr m) = separate_either a bs b apart.1 m

  -- Two parts of a list of parts that are apart are equal, or change no common cell.
  one_or_separate : (bs : List Steps) (a b : Steps) → IsApart arrays bs → IsMember a bs → IsMember b bs →
      (a ≡ b) ⊎ ((c : ℕ) → changes_of arrays a c → changes_of arrays b c → ⊥)
  one_or_separate [] a b apart m n = absurd m
  one_or_separate (c ∷ bs) a b apart (inl e) (inl f) = inl (sym e ∙ f)
  one_or_separate (c ∷ bs) a b apart (inl e) (inr n) =
      inr (subst (λ x. (k : ℕ) → changes_of arrays x k → changes_of arrays b k → ⊥) e (λ k p q. (separate_either c bs b apart.0 n).left k p (inr q)))
  one_or_separate (c ∷ bs) a b apart (inr m) (inl f) =
      inr (subst (λ x. (k : ℕ) → changes_of arrays a k → changes_of arrays x k → ⊥) f (λ k p q. (separate_either c bs a apart.0 m).left k q (inr p)))
  one_or_separate (c ∷ bs) a b apart (inr m) (inr n) = one_or_separate bs a b apart.1 m n

  agreeing : (bs : List Steps) (s : Store) (k : ℕ) → IsApart arrays bs → Agreeing (map (λ b. writes_of arrays b s) bs) k
  agreeing bs s k apart x y m n u v e f =
      let a = member_map (λ b. writes_of arrays b s) bs x m in
      let b = member_map (λ b. writes_of arrays b s) bs y n in
      ⊎_elim
      (λ same. let one : x ≡ y = sym a.2 ∙ ap (λ b. writes_of arrays b s) same ∙ b.2 in let both : Some u ≡ Some v = sym e ∙ ap (λ z. last_value z k) one ∙ f in cc)
      (λ other. absurd (other k
      (writes_within arrays sizes a.0 s k (last_value_written _ k u (ap (λ z. last_value z k) a.2 ∙ e)))
      (writes_within arrays sizes b.0 s k (last_value_written _ k v (ap (λ z. last_value z k) b.2 ∙ f)))))
      (one_or_separate bs a.0 b.0 apart a.1 b.1)

  last_value_pieces : (order : List Steps) (s : Store) (k : ℕ) →
      last_value (concat (map (λ b. piece_of arrays b s) order)) k ≡ last_value (concat (map (λ b. writes_of arrays b s) order)) k
  last_value_pieces [] s k = refl
  last_value_pieces (b ∷ order) s k =
      last_value_append (piece_of arrays b s) _ k
      ∙ rw (last_value_pieces order s k, last_value_last (writes_of arrays b s) k) (sym (last_value_append (writes_of arrays b s) _ k))

  -- Pieces of parts that are apart, each run from the one store and merged in any order, are the last values of what the parts
  -- write in sequence.
  pub any_order : (bs order : List Steps) (s : Store) → IsApart arrays bs → HaveSameMembers order bs →
      merged (map (λ b. piece_of arrays b s) order) [] ≡ last_writes (writes_of arrays (join bs) s)
  any_order bs order s apart same =
      merged_concat (map (λ b. piece_of arrays b s) order) []
      ∙ same_last (concat (map (λ b. piece_of arrays b s) order)) (writes_of arrays (join bs) s) (λ k. last_value_pieces order s k
      ∙ sym (same_pieces _ _ k (members_map (λ b. writes_of arrays b s) bs order same.from) (members_map (λ b. writes_of arrays b s) order bs same.to) (agreeing bs s k apart))
      ∙ ap (λ ws. last_value ws k) (sym (writes_join arrays sizes bs s apart)))

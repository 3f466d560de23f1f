-- Legal lists with more entries, and properties that each entry keeps.
use Rattle.std.proofs.Common.{◌≡◌, List, [], ◌∷◌, ◌++◌, refl, sym, subst, append_assoc, append-nil, Result, Ok, Err}
use Rattle.transfer_table.specs.Plan.{Plan}
use Rattle.transfer_table.specs.Table.{TableState, admit_of, first_state}
use Rattle.transfer_table.specs.Journal.{replay_from, and_then, Reaches}
use Rattle.transfer_table.specs.declared.entry.Entry.{Entry}
use Rattle.transfer_table.specs.declared.entry.NotAdmitted.{NotAdmitted}

replay_from-snoc : (p : Plan) (es : List Entry) (e : Entry) (t u w : TableState) → replay_from p t es ≡ Ok u → admit_of p u e ≡ Ok w → replay_from p t (es ++ e ∷ []) ≡ Ok w
replay_from-snoc p [] e t u w a b = let P : TableState → Type 0 = λ (x : TableState). and_then {E = NotAdmitted} (λ y. Ok y) (admit_of p x e) ≡ Ok w in let same : u ≡ t = cc in subst P same (rw b refl)
replay_from-snoc p (x ∷ xs) e t u w a b = more (admit_of p t x) (λ y k. replay_from-snoc p xs e y u w k b) a
  where
    more : (r : Result TableState NotAdmitted) → ((y : TableState) → replay_from p y xs ≡ Ok u → replay_from p y (xs ++ e ∷ []) ≡ Ok w) → and_then (λ y. replay_from p y xs) r ≡ Ok u → and_then (λ y. replay_from p y (xs ++ e ∷ [])) r ≡ Ok w
    more (Ok y) again k = again y k
    more (Err f) again k = absurd (cc)

pub reaches-snoc : (p : Plan) (es : List Entry) (e : Entry) (u w : TableState) → Reaches p es u → admit_of p u e ≡ Ok w → Reaches p (es ++ e ∷ []) w
reaches-snoc p es e u w a b = replay_from-snoc p es e _ u w a b

kept_from : (p : Plan) (P : List Entry → TableState → Type 0) → ((es : List Entry) (t u : TableState) (e : Entry) → Reaches p es t → P es t → admit_of p t e ≡ Ok u → P (es ++ e ∷ []) u)
    → (es before : List Entry) (t u : TableState) → Reaches p before t → P before t → replay_from p t es ≡ Ok u → P (before ++ es) u
kept_from p P step [] before t u leads holds is = let same : t ≡ u = cc in let nothing : before ++ [] ≡ before = append-nil before in subst (λ (z : List Entry × TableState). P z.0 z.1) (λ i. (sym nothing i, same i)) holds
kept_from p P step (e ∷ es) before t u leads holds is = more (admit_of p t e) refl is (λ v a k. subst (λ (l : List Entry). P l u) (append_assoc before (e ∷ []) es) (kept_from p P step es (before ++ e ∷ []) v u (reaches-snoc p before e t v leads a) (step before t v e leads holds a) k))
  where
    more : (r : Result TableState NotAdmitted) → admit_of p t e ≡ r → and_then (λ v. replay_from p v es) r ≡ Ok u → ((v : TableState) → admit_of p t e ≡ Ok v → replay_from p v es ≡ Ok u → P (before ++ e ∷ es) u) → P (before ++ e ∷ es) u
    more (Ok v) same k go = go v same k
    more (Err f) same k go = absurd (cc)

-- What holds at first, and is kept by each admitted entry, holds after each legal list.
pub kept : (p : Plan) (P : List Entry → TableState → Type 0) → P [] (first_state p)
    → ((es : List Entry) (t u : TableState) (e : Entry) → Reaches p es t → P es t → admit_of p t e ≡ Ok u → P (es ++ e ∷ []) u)
    → (es : List Entry) (t : TableState) → Reaches p es t → P es t
kept p P start step es t is = kept_from p P step es [] (first_state p) t refl start is

-- A prefix of a legal list is legal.
pub replay_from-append : (p : Plan) (xs ys : List Entry) (t u : TableState) → replay_from p t (xs ++ ys) ≡ Ok u → (v : TableState) × (replay_from p t xs ≡ Ok v) × (replay_from p v ys ≡ Ok u)
replay_from-append p [] ys t u is = (t, refl, is)
replay_from-append p (x ∷ xs) ys t u is = more (admit_of p t x) is (λ y k. replay_from-append p xs ys y u k)
  where
    more : (r : Result TableState NotAdmitted) → and_then (λ y. replay_from p y (xs ++ ys)) r ≡ Ok u → ((y : TableState) → replay_from p y (xs ++ ys) ≡ Ok u → (v : TableState) × (replay_from p y xs ≡ Ok v) × (replay_from p v ys ≡ Ok u))
        → (v : TableState) × (and_then (λ y. replay_from p y xs) r ≡ Ok v) × (replay_from p v ys ≡ Ok u)
    more (Ok y) k again = again y k
    more (Err f) k again = absurd (cc)

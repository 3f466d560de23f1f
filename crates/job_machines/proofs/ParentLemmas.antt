-- Parts of a plan.
use Rattle.std.proofs.Common.{◌≡◌, ℕ, suc, ◌+◌, ◌-◌, ◌≤◌, List, [], ◌∷◌, ◌++◌, length, refl, sym, ap, ◌∙◌, arith, get_or, append_assoc, length-append, slice_index}
use Rattle.array_meaning.specs.Plans.{Parents, StayInside}
use Rattle.job_machines.specs.Planned.{HasParentsFrom}

pub splits : (ps : List ℕ) (n : ℕ) (a b : List ℕ) → HasParentsFrom ps n (a ++ b) → HasParentsFrom ps n a × HasParentsFrom ps (n + length a) b
splits ps n a b s =
    let joined : ps ≡ s.before ++ (a ++ (b ++ s.after)) = s.is ∙ ap (λ xs. s.before ++ xs) (append_assoc a b s.after) in (
      record { before = s.before; after = b ++ s.after; place = s.place; is = joined },
      record {
        before = s.before ++ a;
        after = s.after;
        place = (let l = length-append s.before a in let p = s.place in omega arith);
        is = joined ∙ sym (append_assoc s.before a (b ++ s.after));
      },
    )

-- A property of two consecutive parts of a plan is one of each, if the second part stays inside the site around.
abbrev pub Cuts : (ℕ → List ℕ → Type 0) → ℕ → Type 0
Cuts Has around = (n : ℕ) (a : List ℕ) (f : Parents) → StayInside f → Has n (a ++ f around (n + length a)) → Has n a × Has (n + length a) (f around (n + length a))

pub planned_cuts : (ps : List ℕ) (around : ℕ) → Cuts (HasParentsFrom ps) around
planned_cuts ps around n a f stay has = splits ps n a (f around (n + length a)) has

at_length : (xs : List ℕ) (q : ℕ) (ys : List ℕ) → get_or (xs ++ q ∷ ys) (length xs) 0 ≡ q
at_length [] q ys = refl
at_length (x ∷ xs) q ys = at_length xs q ys

pub first_parent : (ps : List ℕ) (n q : ℕ) (more : List ℕ) → HasParentsFrom ps n (q ∷ more) → slice_index ps (n - 1) ≡ q
first_parent ps n q more s =
    let place : n - 1 ≡ length s.before = (let p = s.place in omega arith) in
    ap (λ i. slice_index ps i) place ∙ ap (λ xs. slice_index xs (length s.before)) s.is ∙ at_length s.before q (more ++ s.after)

pub first_known : (ps : List ℕ) (n q : ℕ) (more : List ℕ) → HasParentsFrom ps n (q ∷ more) → (1 ≤ n) × (n ≤ length ps)
first_known ps n q more s =
    let all : length ps ≡ length s.before + suc (length (more ++ s.after)) = ap length s.is ∙ length-append s.before (q ∷ (more ++ s.after)) in
    let p = s.place in (omega arith, omega arith)

pub after_first : (ps : List ℕ) (n q : ℕ) (more : List ℕ) → HasParentsFrom ps n (q ∷ more) → HasParentsFrom ps (n + 1) more
after_first ps n q more s = (splits ps n (q ∷ []) more s).1

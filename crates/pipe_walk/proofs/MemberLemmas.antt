-- Which members did something, in several parts, and what the crossing test needs of them.
use Rattle.std.proofs.Common.{◌≡◌, ℕ, zero, suc, ◌+◌, ◌-◌, Bool, true, false, List, [], ◌∷◌, take, refl, ap, ◌∙◌, arith}
use Rattle.std.specs.Prelude.{◌&&◌, ◌||◌, min, max, nat_lt, if◌then◌else◌}
use Rattle.std.proofs.lemmas.Bool.Decides.{nat_tests}
use Rattle.array_meaning.specs.Steps.{Steps}
use Rattle.phase_order.specs.Tests.{some_of, highest}
use Rattle.pipe_walk.specs.declared.members.Members.{Members}
use Rattle.pipe_walk.specs.declared.members.Members.TheVariants.{NoMember, Between}
use Rattle.pipe_walk.specs.Inside.Members.{joined_members, starts_below, last_of}

-- ---- sets of members

both : (a b c d : ℕ) → a ≡ c → b ≡ d → Between a b ≡ Between c d
both a b c d e f = cc

pub members_assoc : (a b c : Members) → joined_members (joined_members a b) c ≡ joined_members a (joined_members b c)
members_assoc NoMember b c = refl
members_assoc (Between f l) NoMember c = refl
members_assoc (Between f l) (Between g m) NoMember = refl
members_assoc (Between f l) (Between g m) (Between h n) = both _ _ _ _ (omega arith) (omega arith)

pub members_turned : (a b c : Members) → joined_members a (joined_members b c) ≡ joined_members b (joined_members a c)
members_turned NoMember NoMember c = refl
members_turned NoMember (Between g m) c = refl
members_turned (Between f l) NoMember c = refl
members_turned (Between f l) (Between g m) NoMember = both _ _ _ _ (omega arith) (omega arith)
members_turned (Between f l) (Between g m) (Between h n) = both _ _ _ _ (omega arith) (omega arith)

pub members_again : (a b : Members) → joined_members a (joined_members a b) ≡ joined_members a b
members_again NoMember b = refl
members_again (Between f l) NoMember = both _ _ _ _ (omega arith) (omega arith)
members_again (Between f l) (Between g m) = both _ _ _ _ (omega arith) (omega arith)

-- The set with a member, if there is one.
abbrev pub member_if : Bool → ℕ → Members → Members
member_if true j m = joined_members (Between j j) m
member_if false j m = m

pub below_one : (n : ℕ) (b : Bool) (j : ℕ) (m : Members) → starts_below n (member_if b j m) ≡ ((b && nat_lt j n) || starts_below n m)
below_one n false j m = refl
below_one n true j NoMember = grind (arith, nat_tests)
below_one n true j (Between f l) = cases (nat_lt j n) (nat_lt f n) refl refl
  where
    cases : (x y : Bool) → nat_lt j n ≡ x → nat_lt f n ≡ y → nat_lt (min j f) n ≡ (x || y)
    cases true y e g = grind (arith, nat_tests)
    cases false true e g = grind (arith, nat_tests)
    cases false false e g = grind (arith, nat_tests)

pub last_one : (b : Bool) (j : ℕ) (m : Members) → last_of (member_if b j m) ≡ max (last_of m) (if b then j else 0)
last_one false j m = omega arith
last_one true j NoMember = omega arith
last_one true j (Between f l) = omega arith

-- ---- the marks of pieces that are numbered from one on

abbrev pub members_in : (Steps → Bool) → ℕ → List Steps → Members → Members
members_in test j [] m = m
members_in test j (piece ∷ more) m = members_in test (j + 1) more (member_if (test piece) j m)

none_more : (x : Bool) → x ≡ (x || false)
none_more true = refl
none_more false = refl

too_high : (b x : Bool) → (((b && false) || x) || false) ≡ (x || false)
too_high true x = refl
too_high false x = refl

low_enough : (b x s : Bool) → (((b && true) || x) || s) ≡ (x || (b || s))
low_enough true true s = refl
low_enough true false s = refl
low_enough false x s = refl

pub members_below : (test : Steps → Bool) (n j k : ℕ) (pieces : List Steps) (m : Members) → k ≡ n - j →
    starts_below n (members_in test j pieces m) ≡ (starts_below n m || some_of test (take k pieces))
members_below test n j zero [] m e = none_more (starts_below n m)
members_below test n j (suc k) [] m e = none_more (starts_below n m)
members_below test n j zero (p ∷ ps) m e =
    let high : nat_lt j n ≡ false = grind (arith, nat_tests) in
    members_below test n (j + 1) zero ps (member_if (test p) j m) (omega arith)
    ∙ ap (λ b. b || false) (below_one n (test p) j m ∙ ap (λ b. (test p && b) || starts_below n m) high)
    ∙ too_high (test p) (starts_below n m)
members_below test n j (suc k) (p ∷ ps) m e =
    let low : nat_lt j n ≡ true = grind (arith, nat_tests) in
    members_below test n (j + 1) k ps (member_if (test p) j m) (omega arith)
    ∙ ap (λ b. b || some_of test (take k ps)) (below_one n (test p) j m ∙ ap (λ b. (test p && b) || starts_below n m) low)
    ∙ low_enough (test p) (starts_below n m) (some_of test (take k ps))

pub members_last : (test : Steps → Bool) (j : ℕ) (pieces : List Steps) (m : Members) →
    last_of (members_in test j pieces m) ≡ max (last_of m) (if some_of test pieces then j + highest test pieces else 0)
members_last test j [] m = omega arith
members_last test j (p ∷ ps) m =
    members_last test (j + 1) ps (member_if (test p) j m)
    ∙ ap (λ n. max n (if some_of test ps then (j + 1) + highest test ps else 0)) (last_one (test p) j m)
    ∙ cases (test p) (some_of test ps)
  where
    cases : (b s : Bool) → max (max (last_of m) (if b then j else 0)) (if s then (j + 1) + highest test ps else 0)
        ≡ max (last_of m) (if b || s then j + (if s then suc (highest test ps) else 0) else 0)
    cases true true = omega arith
    cases true false = omega arith
    cases false true = omega arith
    cases false false = omega arith

-- If no piece passes, the highest is 0.
pub none_highest : (test : Steps → Bool) (pieces : List Steps) → (if some_of test pieces then 0 + highest test pieces else 0) ≡ highest test pieces
none_highest test [] = refl
none_highest test (p ∷ ps) = cases (test p) (some_of test ps)
  where
    cases : (b s : Bool) → (if b || s then 0 + (if s then suc (highest test ps) else 0) else 0) ≡ (if s then suc (highest test ps) else 0)
    cases true true = omega arith
    cases true false = omega arith
    cases false true = omega arith
    cases false false = omega arith

-- A piece passes one of two tests.
pub either_some : (s t : Steps → Bool) (pieces : List Steps) → some_of (λ p. s p || t p) pieces ≡ (some_of s pieces || some_of t pieces)
either_some s t [] = refl
either_some s t (p ∷ ps) = ap (λ b. (s p || t p) || b) (either_some s t ps) ∙ cases (s p) (t p) (some_of s ps) (some_of t ps)
  where
    cases : (a b c d : Bool) → ((a || b) || (c || d)) ≡ ((a || c) || (b || d))
    cases true b c d = refl
    cases false true true d = refl
    cases false true false d = refl
    cases false false c d = refl

pub either_highest : (s t : Steps → Bool) (pieces : List Steps) → highest (λ p. s p || t p) pieces ≡ max (highest s pieces) (highest t pieces)
either_highest s t [] = omega arith
either_highest s t (p ∷ ps) =
    ap (λ b. if b then suc (highest (λ q. s q || t q) ps) else 0) (either_some s t ps)
    ∙ cases (some_of s ps) (some_of t ps) (either_highest s t ps) (none_highest s ps) (none_highest t ps)
  where
    cases : (a b : Bool) → highest (λ q. s q || t q) ps ≡ max (highest s ps) (highest t ps) →
        (if a then 0 + highest s ps else 0) ≡ highest s ps → (if b then 0 + highest t ps else 0) ≡ highest t ps →
        (if a || b then suc (highest (λ q. s q || t q) ps) else 0) ≡ max (if a then suc (highest s ps) else 0) (if b then suc (highest t ps) else 0)
    cases true true e f g = omega (arith, e)
    cases true false e f g = omega (arith, e, g)
    cases false true e f g = omega (arith, e, f)
    cases false false e f g = omega arith

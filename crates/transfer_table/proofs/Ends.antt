-- How the greatest site inside each site is found.
use Rattle.std.proofs.Common.{◌≡◌, ℕ, ◌+◌, ◌<◌, ◌≤◌, List, length, replicate, sym, ap, subst, ◌∙◌, arith, slice_index, slice_index_or, length-set, get_or-set_same, get_or-set_other, true}
use Rattle.std.specs.Prelude.{max}
use Rattle.std.proofs.Math.Nat.{le-max_left, le-max_right}
use Rattle.std.proofs.lemmas.List.{length-replicate}
use mathlib.Core.Logic.{dite}
use native.Mathlib.Decide.{ℕ_discrete}
use Rattle.transfer_table.specs.Plan.{Plan, IsPlan, parent, site_count, is_within}
use Rattle.transfer_table.specs.Board.{AreEnds, raised}
use Rattle.transfer_table.proofs.Lists.{replicate_at, any_default}
use Rattle.transfer_table.proofs.Within.{within_all}

-- At the site the end is the greater of both.
raised_here : (ends : List ℕ) (s end : ℕ) → s < length ends → slice_index (raised ends s end) s ≡ max (slice_index ends s) end
raised_here ends s end lt = get_or-set_same ends s (max (slice_index ends s) end) 0 lt

-- At another site the end stays.
raised_there : (ends : List ℕ) (s end o : ℕ) → (o ≡ s → ⊥) → slice_index (raised ends s end) o ≡ slice_index ends o
raised_there ends s end o other = get_or-set_other ends s o (max (slice_index ends s) end) 0 other

-- No end falls.
raised_up : (ends : List ℕ) (s end o : ℕ) → s < length ends → slice_index ends o ≤ slice_index (raised ends s end) o
raised_up ends s end o lt = dite (ℕ_discrete o s)
    (λ e. let P : ℕ → Type 0 = λ x. slice_index ends x ≤ slice_index (raised ends s end) x in
    subst P (sym e) (let h = raised_here ends s end lt in let m = le-max_left (slice_index ends s) end in omega arith))
    (λ n. let h = raised_there ends s end o n in omega arith)

-- The site's end is at least the new one.
raised_over : (ends : List ℕ) (s end : ℕ) → s < length ends → end ≤ slice_index (raised ends s end) s
raised_over ends s end lt = let h = raised_here ends s end lt in let m = le-max_right (slice_index ends s) end in omega arith

max_below : (a b n : ℕ) → a ≤ n → b ≤ n → max a b ≤ n
max_below a b n x y = omega arith

-- A bound of the ends and of the new one stays a bound.
raised_few : (ends : List ℕ) (s end o n : ℕ) → s < length ends → slice_index ends o ≤ n → end ≤ n → slice_index (raised ends s end) o ≤ n
raised_few ends s end o n lt a b = dite (ℕ_discrete o s)
    (λ e. let P : ℕ → Type 0 = λ x. slice_index ends x ≤ n → slice_index (raised ends s end) x ≤ n in
    subst P (sym e) (λ c. let h = raised_here ends s end lt in let m = max_below (slice_index ends s) end n c b in omega arith) a)
    (λ m. let h = raised_there ends s end o m in omega arith)

-- The sites above t have been visited: the end of each is no smaller than the site, and no greater than its parent's end.
pub record AreRaised (p : Plan) (ends : List ℕ) (t : ℕ) : Type 0 where
  pub size : length ends ≡ site_count p + 1
  pub few : (s : ℕ) → slice_index ends s ≤ site_count p
  pub own : (o : ℕ) → t < o → o ≤ site_count p → o ≤ slice_index ends o
  pub above : (o : ℕ) → t < o → o ≤ site_count p → slice_index ends o ≤ slice_index ends (parent p o)

pub none_raised : (p : Plan) → AreRaised p (replicate (site_count p + 1) 0) (site_count p)
none_raised p = record {
  size = length-replicate (site_count p + 1) 0;
  few = λ s. let e : slice_index (replicate (site_count p + 1) 0) s ≡ 0 = replicate_at (site_count p + 1) s 0 in omega arith;
  own = λ o low high. absurd (omega arith);
  above = λ o low high. absurd (omega arith);
}

-- One more site is visited: its own end is raised first, and then its parent's.
one_raised : (p : Plan) → IsPlan p → (ends : List ℕ) (t : ℕ) → t < site_count p → AreRaised p ends (t + 1) →
    let own = raised ends (t + 1) (t + 1) in
    AreRaised p (raised own (parent p (t + 1)) (slice_index own (t + 1))) t
one_raised p plan ends t lt is =
    let site = t + 1 in
    let q = parent p site in
    let own = raised ends site site in
    let end = slice_index own site in
    let new = raised own q end in
    let less : q < site = plan.below site (omega arith) (omega arith) in
    let room : length own ≡ site_count p + 1 = length-set ends site (max (slice_index ends site) site) ∙ is.size in
    let in_ends : site < length ends = let z = is.size in omega arith in
    let in_own : q < length own = omega arith in
    let up : (o : ℕ) → slice_index ends o ≤ slice_index new o
    = λ o. let a = raised_up ends site site o in_ends in let b = raised_up own q end o in_own in omega arith in
    let few_own : (s : ℕ) → slice_index own s ≤ site_count p = λ s. raised_few ends site site s (site_count p) in_ends (is.few s) (omega arith) in
    record {
      size = length-set own q (max (slice_index own q) end) ∙ room;
      few = λ s. raised_few own q end s (site_count p) in_own (few_own s) (few_own site);
      own = λ o low high. dite (ℕ_discrete o site)
          (λ e. let P : ℕ → Type 0 = λ x. x ≤ slice_index new x in
          subst P (sym e) (let a = raised_over ends site site in_ends in let b = raised_up own q end site in_own in omega arith))
          (λ n. let a = is.own o (omega arith) high in let b = up o in omega arith);
      above = λ o low high. dite (ℕ_discrete o site)
          (λ e. let P : ℕ → Type 0 = λ x. slice_index new x ≤ slice_index new (parent p x) in
          subst P (sym e) (let a = raised_there own q end site (λ z. omega arith) in let b = raised_over own q end in_own in omega arith))
          (λ n. let a = is.above o (omega arith) high in let b = up (parent p o) in
          let c = raised_there ends site site o n in let d = raised_there own q end o (λ z. omega arith) in omega arith);
    }

-- The same for what the loop reads: the site's raised end, and its parent.
pub raised_next : (p : Plan) → IsPlan p → (ends own new : List ℕ) (t q end : ℕ) → t < site_count p → AreRaised p ends (t + 1) →
    own ≡ raised ends (t + 1) (t + 1) → end ≡ slice_index_or own (t + 1) end → q ≡ parent p (t + 1) → new ≡ raised own q end → AreRaised p new t
raised_next p plan ends own new t q end lt is first read around last =
    let size : length own ≡ site_count p + 1 = ap length first ∙ (length-set ends (t + 1) (max (slice_index ends (t + 1)) (t + 1)) ∙ is.size) in
    let here : end ≡ slice_index own (t + 1) = read ∙ any_default own (t + 1) end 0 (omega arith) in
    let made : new ≡ raised own (parent p (t + 1)) (slice_index own (t + 1))
    = last ∙ (ap (λ (x : ℕ). raised own x end) around ∙ ap (raised own (parent p (t + 1))) here) in
    let whole : new ≡ raised (raised ends (t + 1) (t + 1)) (parent p (t + 1)) (slice_index (raised ends (t + 1) (t + 1)) (t + 1))
    = made ∙ ap (λ (l : List ℕ). raised l (parent p (t + 1)) (slice_index l (t + 1))) first in
    subst (λ (l : List ℕ). AreRaised p l t) (sym whole) (one_raised p plan ends t lt is)

-- Once all sites have been visited, the ends rise from each site to its ancestors.
pub all_raised : (p : Plan) → IsPlan p → (ends : List ℕ) → AreRaised p ends 0 → AreEnds p ends
all_raised p plan ends is = record {
  size = is.size;
  few = is.few;
  last = λ s o around high w.
      let there = within_all p plan s (λ c. slice_index ends c ≤ slice_index ends s) (omega arith)
      (λ c site inner less. let a = is.above c (let z = site.0 in omega arith) site.1 in omega arith) o o (omega arith) high w in
      zero_or s o high there;
}
  where
    zero_or : (s o : ℕ) → o ≤ site_count p → slice_index ends o ≤ slice_index ends s → o ≤ slice_index ends s
    zero_or s o high there = dite (ℕ_discrete o 0)
        (λ e. omega arith)
        (λ n. let a = is.own o (omega arith) high in omega arith)

-- What was read at a site's index is its end.
end_read : (p : Plan) (ends : List ℕ) (s e : ℕ) → AreEnds p ends → s ≤ site_count p → e ≡ slice_index_or ends s e → e ≡ slice_index ends s
end_read p ends s e are high read = read ∙ any_default ends s e 0 (let z = are.size in omega arith)

-- What was read as an end is a site of the plan, or 0.
pub end_few : (p : Plan) (ends : List ℕ) (s e : ℕ) → AreEnds p ends → s ≤ site_count p → e ≡ slice_index_or ends s e → e ≤ site_count p
end_few p ends s e are high read = let is = end_read p ends s e are high read in let few = are.few s in omega arith

-- No site above what was read is within the site.
pub none_after : (p : Plan) (ends : List ℕ) (s e : ℕ) → AreEnds p ends → s ≤ site_count p → e ≡ slice_index_or ends s e → (j : ℕ) → e ≤ j → j < site_count p → is_within p s (1 + j) ≡ true → ⊥
none_after p ends s e are high read j above small w =
    let is = end_read p ends s e are high read in let last = are.last s (1 + j) high (omega arith) w in omega arith

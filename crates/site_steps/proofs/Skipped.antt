-- How a hart skips sites.
use Rattle.std.proofs.Common.{◌≡◌, ℕ, ◌+◌, ◌<◌, ◌≤◌, Bool, true, false, ◌==◌, cond, if◌then◌else◌, List, [], ◌∷◌, ◌++◌, map, All, Contains, Result, Ok, Err, refl, sym, ap, ◌∙◌, subst, arith, inl, inr, append-nil, append_assoc}
use Rattle.std.proofs.lemmas.Bool.{cases_lt}
use Rattle.std.proofs.lemmas.List.{map-append}
use Rattle.std.proofs.lemmas.List.Sums.{sum_by-append}
use Rattle.std.proofs.lemmas.List.Elements.{All-nil, All-cons, All-head, All-tail, All-append, All-weaker, Contains-append_left, Contains-append_right}
use Rattle.transfer_table.specs.Plan.{Plan, IsSite, parent}
use Rattle.transfer_table.specs.Entry.{site_of, is_register, is_unregister, covers, registers, unregisters, skips_over}
use Rattle.transfer_table.specs.declared.entry.Entry.{Entry}
use Rattle.transfer_table.specs.declared.entry.Entry.TheVariants.{Skip}
use Rattle.transfer_table.proofs.Balance.{skips_over-snoc}
use Rattle.transfer_table.proofs.Within.{within-itself}
use Rattle.hart_port.specs.declared.port.Taken.{Taken}
use Rattle.hart_port.specs.Count.{Rose, RoseIfErr}
use Rattle.hart_port.specs.PortView.{PortView, Skips, HasClaimed}
use Rattle.site_steps.specs.Back.{IsSettled, IsBack}
use Rattle.site_steps.specs.Skips.{IsChildBetween, AreRising, HasSkipped, ChildrenClaimed}
use Rattle.site_steps.specs.Sweeps.{Gives, IsRefused}
use Rattle.site_steps.proofs.Sweeps.{rose_within}

-- More entries don't lower the number of registers.
came_more : (s : ℕ) (es fs : List Entry) → registers s es ≤ registers s (es ++ fs)
came_more s es fs = let z = sum_by-append (λ x. cond {A = ℕ} (if site_of x == s then is_register x else false) 1 0) es fs in omega (arith, z)

went_more : (s : ℕ) (es fs : List Entry) → unregisters s es ≤ unregisters s (es ++ fs)
went_more s es fs = let z = sum_by-append (λ x. cond {A = ℕ} (if site_of x == s then is_unregister x else false) 1 0) es fs in omega (arith, z)

skipped_more : (p : Plan) (s : ℕ) (es fs : List Entry) → skips_over p s es ≤ skips_over p s (es ++ fs)
skipped_more p s es fs = let z = sum_by-append (λ x. cond {A = ℕ} (covers p x s) 1 0) es fs in omega (arith, z)

only : (s x : ℕ) → s ≤ x → x < s + 1 → s ≡ x
only s x low high = omega (arith, low, high)

-- ---- which of the sites were skipped

-- The entries that skip these sites.
abbrev skips_of : ℕ → List ℕ → List Entry
skips_of hart sites = map (λ s. Skip hart s) sites

-- Two rising lists are one if the first lies below the second.
rising_append : (middle : ℕ) (xs ys : List ℕ) → All (λ s. s < middle) xs → All (λ s. middle ≤ s) ys → AreRising xs → AreRising ys → AreRising (xs ++ ys)
rising_append middle [] ys below above one two = two
rising_append middle (x ∷ xs) ys below above one two =
    let least : x < middle = All-head (λ s. s < middle) x xs below in (
      All-append (λ t. x < t) xs ys one.0 (All-weaker (λ s. middle ≤ s) (λ t. x < t) (λ s le. omega (arith, le, least)) ys above),
      rising_append middle xs ys (All-tail (λ s. s < middle) x xs below) above one.1 two,
    )

wider : (h : PortView) (first end low high s : ℕ) → low ≤ first → end ≤ high → IsChildBetween h first end s → IsChildBetween h low high s
wider h first end low high s a b is = record { low = (let l = is.low in omega (arith, l, a)); high = (let u = is.high in omega (arith, u, b)); site = is.site; child = is.child }

all_wider : (h : PortView) (first end low high : ℕ) (sites : List ℕ) → low ≤ first → end ≤ high → All (IsChildBetween h first end) sites → All (IsChildBetween h low high) sites
all_wider h first end low high sites a b all = All-weaker (IsChildBetween h first end) (IsChildBetween h low high) (λ s is. wider h first end low high s a b is) sites all

module _ {P : Type 0} (gives : Gives P) where
  -- The same for other bounds that have the same sites between them.
  pub skipped_within : (h a : PortView) (r r' first end high : ℕ) → ((x : ℕ) → first ≤ x → x < end → x < high) → ((x : ℕ) → first ≤ x → x < high → x < end)
      → HasSkipped gives h r a r' first end → HasSkipped gives h r a r' first high
  skipped_within h a r r' first end high bound other made = record {
    sites = made.sites;
    same = made.same;
    children = All-weaker (IsChildBetween h first end) (IsChildBetween h first high) (λ s is. record { low = is.low; high = bound s is.low is.high; site = is.site; child = is.child }) made.sites made.children;
    rising = made.rising;
    each = λ s is. made.each s record { low = is.low; high = other s is.low is.high; site = is.site; child = is.child };
  }

  -- If the skip of each child between the bounds was refused, nothing was skipped.
  pub skipped_none : (h : PortView) (r r' first end : ℕ) → ((s : ℕ) → IsChildBetween h first end s → Rose r r' × IsRefused gives s) → HasSkipped gives h r h r' first end
  skipped_none h r r' first end none = record {
    sites = [];
    same = ap (λ es. record h { mine = es }) (sym (append-nil h.mine));
    children = All-nil (IsChildBetween h first end);
    rising = tt;
    each = λ s is. inr (none s is);
  }

  -- At the first bound no site was looked at yet.
  pub skipped_not_yet : (h : PortView) (r first : ℕ) → HasSkipped gives h r h r first first
  skipped_not_yet h r first = skipped_none h r r first first (λ s is. let low = is.low in let high = is.high in absurd (omega (arith, low, high)))

  pub skipped_then : (a b c : PortView) (r r' r'' first middle end : ℕ) → first ≤ middle → middle ≤ end → r ≤ r' → r' ≤ r''
      → HasSkipped gives a r b r' first middle → HasSkipped gives b r' c r'' middle end → HasSkipped gives a r c r'' first end
  skipped_then a b c r r' r'' first middle end low high less more one late =
      let two : HasSkipped gives (record a { mine = a.mine ++ skips_of a.hart one.sites }) r' c r'' middle end = subst (λ x. HasSkipped gives x r' c r'' middle end) one.same late in
      record {
        sites = one.sites ++ two.sites;
        same = two.same ∙ ap (λ es. record a { mine = es }) (append_assoc a.mine (skips_of a.hart one.sites) (skips_of a.hart two.sites)
            ∙ ap (λ es. a.mine ++ es) (sym (map-append (λ s. Skip a.hart s) one.sites two.sites)));
        children = All-append (IsChildBetween a first end) one.sites two.sites (all_wider a first middle first end one.sites (omega arith) high one.children)
            (All-weaker (IsChildBetween (record a { mine = a.mine ++ skips_of a.hart one.sites }) middle end) (IsChildBetween a first end)
            (λ s is. record { low = (let l = is.low in omega (arith, l, low)); high = is.high; site = is.site; child = is.child }) two.sites two.children);
        rising = rising_append middle one.sites two.sites (All-weaker (IsChildBetween a first middle) (λ s. s < middle) (λ s is. is.high) one.sites one.children)
            (All-weaker (IsChildBetween (record a { mine = a.mine ++ skips_of a.hart one.sites }) middle end) (λ s. middle ≤ s) (λ s is. is.low) two.sites two.children) one.rising two.rising;
        each = λ s is. elim (cases_lt s middle) [
          | inl early ↦ elim (one.each s record { low = is.low; high = early; site = is.site; child = is.child }) [
            | inl was ↦ inl (Contains-append_left one.sites two.sites s was)
            | inr not ↦ inr (rose_within r r r' r'' (omega arith) not.0 more, not.1)
          ]
          | inr late ↦ elim (two.each s record { low = omega (arith, late); high = is.high; site = is.site; child = is.child }) [
            | inl was ↦ inl (Contains-append_right one.sites two.sites s was)
            | inr not ↦ inr (rose_within r r' r'' r'' less not.0 (omega arith), not.1)
          ]
        ];
      }

  -- One child is skipped.
  pub skipped_one : (h a : PortView) (before after : P) (r r' s : ℕ) (answer : Result (Unit {0}) Taken) → IsSite h.plan s → parent h.plan s ≡ h.owner
      → Skips h s answer a → gives before s answer after → RoseIfErr answer r r' → HasSkipped gives h r a r' s (s + 1)
  skipped_one h a before after r r' s (Ok done) site child is told rose = record {
    sites = s ∷ [];
    same = is;
    children = All-cons (IsChildBetween h s (s + 1)) s [] record { low = omega arith; high = omega arith; site = site; child = child } (All-nil (IsChildBetween h s (s + 1)));
    rising = (All-nil (λ t. s < t), tt);
    each = λ x own. inl (subst (Contains (s ∷ [])) (let l = own.low in let u = own.high in only s x l u) (0, omega arith, refl));
  }
  skipped_one h a before after r r' s (Err taken) site child is told rose =
      subst (λ x. HasSkipped gives h r x r' s (s + 1)) (sym is.0)
      (skipped_none h r r' s (s + 1) (λ x own. (rose, subst (IsRefused gives) (let l = own.low in let u = own.high in only s x l u) (before, after, taken, told))))

  -- A site that is no child isn't skipped.
  pub skipped_no_child : (h : PortView) (r s : ℕ) → (IsSite h.plan s × (parent h.plan s ≡ h.owner) → ⊥) → HasSkipped gives h r h r s (s + 1)
  skipped_no_child h r s none = skipped_none h r r s (s + 1)
      (λ x own. absurd (none (subst (λ y. IsSite h.plan y × (parent h.plan y ≡ h.owner)) (sym (let l = own.low in let u = own.high in only s x l u)) (own.site, own.child))))

claimed_one : (h a : PortView) (s : ℕ) (r : Result (Unit {0}) Taken) → Skips h s r a → a.alone ≡ true → HasClaimed a s
claimed_one h a s (Ok done) is alone =
    let more = skips_over-snoc h.plan s h.mine (Skip h.hart s) in
    let one : cond {A = ℕ} (covers h.plan (Skip h.hart s) s) 1 0 ≡ 1 = ap (λ (b : Bool). cond {A = ℕ} b 1 0) (within-itself h.plan s) in
    subst (λ (x : PortView). HasClaimed x s) (sym is) (omega (arith, more, one))
claimed_one h a s (Err taken) is alone = subst (λ (x : PortView). HasClaimed x s) (sym is.0) (is.2 (subst (λ (x : PortView). x.alone ≡ true) is.0 alone))

pub child_claimed : (h a : PortView) (s : ℕ) (r : Result (Unit {0}) Taken) → Skips h s r a → ChildrenClaimed a s (s + 1)
child_claimed h a s r is alone x low high site child = subst (HasClaimed a) (only s x low high) (claimed_one h a s r is alone)

-- A site that is no child isn't claimed.
pub no_child : (h : PortView) (s : ℕ) → (IsSite h.plan s × (parent h.plan s ≡ h.owner) → ⊥) → ChildrenClaimed h s (s + 1)
no_child h s none alone x low high site child = absurd (none (subst (λ y. IsSite h.plan y × (parent h.plan y ≡ h.owner)) (sym (only s x low high)) (site, child)))

claimed_stays : (b c : PortView) (made : List Entry) (s : ℕ) → c ≡ record b { mine = b.mine ++ made } → HasClaimed b s → HasClaimed c s
claimed_stays b c made s same claimed =
    let came = came_more s b.mine made in
    let skipped = skipped_more b.plan s b.mine made in
    subst (λ (x : PortView). HasClaimed x s) (sym same) (omega (arith, came, skipped, claimed))

pub claimed_then : (b c : PortView) (made : List Entry) (first middle end : ℕ) → c ≡ record b { mine = b.mine ++ made } → ChildrenClaimed b first middle → ChildrenClaimed c middle end → ChildrenClaimed c first end
claimed_then b c made first middle end same one two alone x low high site child = elim (cases_lt x middle) [
  | inl early ↦ claimed_stays b c made x same (one (subst (λ (v : PortView). v.alone ≡ true) same alone) x low early
      (subst (λ (v : PortView). IsSite v.plan x) same site) (subst (λ (v : PortView). parent v.plan x ≡ v.owner) same child))
  | inr late ↦ two alone x (omega (arith, late)) high site child
]

-- A hart that skipped sites is where it was.
pub skipped_back : (h a : PortView) (made : List Entry) → IsSettled h → a ≡ record h { mine = h.mine ++ made } → IsBack h a
skipped_back h a made settled same = subst (IsBack h) (sym same) record {
  plan = refl;
  hart = refl;
  alone = refl;
  table = refl;
  owner = refl;
  homes = λ s le. refl;
  inner = settled;
  closed = λ s le. refl;
  gone = λ s is. is;
  over = λ s. went_more s h.mine made;
  skipped = λ p s. skipped_more p s h.mine made;
}

-- A counter of refusals doesn't fall.
pub count_rose : (r : Result (Unit {0}) Taken) (before after : ℕ) → RoseIfErr r before after → before ≤ after
count_rose (Ok done) before after same = omega (arith, same)
count_rose (Err taken) before after (inl more) = omega (arith, more)
count_rose (Err taken) before after (inr last) = let same = last.1 in omega (arith, same)

-- The laws of accounts.
use Rattle.std.specs.Prelude.{◌≡◌, ◌↔◌, ℕ, ◌+◌, ◌<◌, ◌≤◌, ◌⊎◌, Bool, true, false, List, [], ◌∷◌, ◌++◌, length, replicate}
use Rattle.std.specs.List.{All}
use Rattle.transfer_table.specs.Plan.{Plan, IsPlan, IsSite, parent, site_count}
use Rattle.transfer_table.specs.Entry.{site_of, is_skip, registers, unregisters, skips_over}
use Rattle.transfer_table.specs.Table.{TableState}
use Rattle.transfer_table.specs.Journal.{Reaches, IsComplete}
use Rattle.transfer_table.specs.declared.entry.Entry.{Entry}
use Rattle.transfer_table.specs.Accounts.{AreOverAs, AreFresh, HasGrown, KeepsOutside, IsSpan}

-- Sites that have ended as meant stay ended as meant.
abbrev pub OverLasts : Type 0
OverLasts = (p : Plan) (before after : List Entry) (s : ℕ) (meant : List Bool)
    → HasGrown p before after → AreOverAs p before s meant → AreOverAs p after s meant

-- Two neighbouring ranges have ended as meant together exactly if each has.
abbrev pub OverJoins : Type 0
OverJoins = (p : Plan) (es : List Entry) (s : ℕ) (xs ys : List Bool)
    → AreOverAs p es s (xs ++ ys) ↔ (AreOverAs p es s xs × AreOverAs p es (s + length xs) ys)

-- Sites that aren't meant to be entered have ended exactly if each was skipped.
abbrev pub SkippedAreOver : Type 0
SkippedAreOver = (p : Plan) (es : List Entry) (s n : ℕ)
    → ((x : ℕ) → s ≤ x → x < s + n → 1 ≤ skips_over p x es)
    ↔ AreOverAs p es s (replicate n false)

-- A site that has ended as meant was unregistered or skipped.
abbrev pub OverHaveEnded : Type 0
OverHaveEnded = (p : Plan) (es : List Entry) (s : ℕ) (meant : List Bool)
    → AreOverAs p es s meant → (x : ℕ) → s ≤ x → x < s + length meant
    → 1 ≤ unregisters x es + skips_over p x es

-- Before the first entry, every site is fresh.
abbrev pub AllAreFreshAtFirst : Type 0
AllAreFreshAtFirst = (p : Plan) (s n : ℕ) → AreFresh p [] s n

-- Two neighbouring ranges are fresh together exactly if each is.
abbrev pub FreshJoins : Type 0
FreshJoins = (p : Plan) (es : List Entry) (s a b : ℕ)
    → AreFresh p es s (a + b) ↔ (AreFresh p es s a × AreFresh p es (s + a) b)

-- Fresh sites stay fresh while the entries are about other sites.
abbrev pub FreshLasts : Type 0
FreshLasts = (p : Plan) (before after : List Entry) (s n t m : ℕ) → KeepsOutside p before after t m
    → (s + n ≤ t) ⊎ (t + m ≤ s) → AreFresh p before s n → AreFresh p after s n

-- Entries that touch only sites inside wider bounds touch nothing outside the bounds. The same holds of two such lists in sequence.
abbrev pub KeptJoins : Type 0
KeptJoins = (p : Plan) (first second third : List Entry) (s n t m u k : ℕ)
    → KeepsOutside p first second s n → KeepsOutside p second third t m
    → u ≤ s → s + n ≤ u + k → u ≤ t → t + m ≤ u + k
    → KeepsOutside p first third u k

-- An entry that skips nothing touches only its own site. A skip touches only a span that contains the skipped site.
pub record TouchesLittle (p : Plan) (es : List Entry) (e : Entry) : Type 0 where
  pub grown : HasGrown p es (es ++ e ∷ [])
  pub own : is_skip e ≡ false → KeepsOutside p es (es ++ e ∷ []) (site_of e) 1
  pub span : (around s n : ℕ) → IsSpan p around s n → s ≤ site_of e → site_of e < s + n
      → KeepsOutside p es (es ++ e ∷ []) s n

-- `TouchesLittle` holds of each entry, appended to any list.
abbrev pub EntriesTouchLittle : Type 0
EntriesTouchLittle = (p : Plan) (es : List Entry) (e : Entry) → IsPlan p → TouchesLittle p es e

-- If the topmost sites of a span were skipped, all sites of the span have ended as sites that aren't meant.
abbrev pub SpansAreSkippedByTheirTops : Type 0
SpansAreSkippedByTheirTops =
    (p : Plan) (es : List Entry) (around s n : ℕ) → IsPlan p → IsSpan p around s n
    → ((x : ℕ) → s ≤ x → x < s + n → parent p x ≡ around → 1 ≤ skips_over p x es)
    → AreOverAs p es s (replicate n false)

-- The effect of skips of a span's sites, made until each of its topmost sites is skipped: all its sites have ended as sites
-- that aren't meant, and no other site is touched.
pub record IsSkippedSpan (p : Plan) (before after : List Entry) (s n : ℕ) : Type 0 where
  pub over : AreOverAs p after s (replicate n false)
  pub grown : HasGrown p before after
  pub outside : KeepsOutside p before after s n

-- A fresh span becomes a skipped span if only skips of its sites are made, and each topmost site is then registered or skipped.
abbrev pub FreshSpansAreSkipped : Type 0
FreshSpansAreSkipped =
    (p : Plan) (before made : List Entry) (around s n : ℕ) → IsPlan p → IsSpan p around s n
    → AreFresh p before s n
    → All (λ e. (is_skip e ≡ true) × (s ≤ site_of e) × (site_of e < s + n)) made
    → ((x : ℕ) → s ≤ x → x < s + n → IsSite p x → parent p x ≡ around
    → 1 ≤ registers x (before ++ made) + skips_over p x (before ++ made))
    → IsSkippedSpan p before (before ++ made) s n

-- A legal list is complete if all sites of the plan have ended as meant: every site is gone, and the registered sites are
-- exactly the meant ones.
abbrev pub AllOverIsComplete : Type 0
AllOverIsComplete = (p : Plan) (meant : List Bool) (es : List Entry) (t : TableState) → IsPlan p
    → Reaches p es t → length meant ≡ site_count p → AreOverAs p es 1 meant
    → IsComplete p meant es

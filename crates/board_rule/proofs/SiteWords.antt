-- A site's word in each kind of step, as facts on numbers.
use Rattle.std.proofs.Common.{◌≡◌, ◌≢◌, ℕ, ◌+◌, ◌-◌, ◌*◌, ◌/◌, ◌%◌, ◌^◌, ◌<◌, ◌≤◌, Bool, true, false, refl, ap, arith, bit_or, Some}
use Rattle.std.specs.Option.{is_some}
use Rattle.transfer_table.specs.Table.{is_gone, blank, swept_row}
use Rattle.transfer_table.specs.declared.entry.Row.{Row}
use Rattle.transfer_table.specs.declared.entry.Stage.{Stage}
use Rattle.transfer_table.specs.declared.entry.Stage.TheVariants.{New, Live, Gone}
use Rattle.transfer_table.specs.Counts.{one_if}
use Rattle.board_rule.specs.Shown.{started}
use Rattle.board_rule.proofs.Bits.{or_one, or_two, or_four, bit_of, gone_bit, unstarted, all_gone, live_now}
use Rattle.board_rule.specs.declared.view.Doing.TheVariants.{Claiming, Crediting, Reserved, Landing, Leaving, Sealing}
use Rattle.board_rule.specs.Counts.{Load, no_load, weight}
use Rattle.board_rule.specs.Rule.{IsSiteWord}
use Rattle.board_rule.proofs.Loads.{Shifts}
use Rattle.board_rule.proofs.Layouts.{Comes, Goes}

-- ---- what the fields of the word are

pub record Fields (w : ℕ) (b : Bool) (c : Load) (r : Row) (m want : ℕ) : Type 0 where
  pub claimed : w % 2 ≡ started r.stage + c.claims
  pub closing : w / 2 % 2 ≡ one_if b
  pub closed : w / 4 % 2 + c.seals ≡ one_if (is_gone r.stage)
  pub wanted : w / 256 % 256 ≡ want
  pub shows : w / 65536 ≡ m + c.reserves + c.lands + c.leaves

pub fields : (w : ℕ) (b : Bool) (c : Load) (r : Row) (m : ℕ) → r.wishes ≤ 255 → (i : IsSiteWord w b c r m) → Fields w b c r m i.want
fields w b c r m few i = let a = i.wishes in let is = i.word_is in let one = i.claimed in let sealed = i.sealed in let e = bit_of b in let f = gone_bit r.stage in
    let bits : ℕ = started r.stage + c.claims + 2 * one_if b + 4 * (one_if (is_gone r.stage) - c.seals) in
    let whole : w ≡ bits + 256 * i.want + 65536 * (m + c.reserves + c.lands + c.leaves) = omega arith in
    let small : bits ≤ 7 = omega arith in
    record { claimed = omega arith; closing = omega arith; closed = omega arith; wanted = omega arith; shows = omega arith }

-- A word with the closed bit is a gone site's.
pub closed_gone : (w : ℕ) (b : Bool) (c : Load) (r : Row) (m : ℕ) → r.wishes ≤ 255 → IsSiteWord w b c r m → w / 4 % 2 ≡ 1 → r.stage ≡ Gone
closed_gone w b c r m few i bit = let f = (fields w b c r m few i).closed in let g = gone_bit r.stage in all_gone r.stage (omega arith)

-- An open site with a want is live.
pub wanted_live : (w : ℕ) (b : Bool) (c : Load) (r : Row) (m : ℕ) → (r.stage ≡ New → is_some r.home ≡ false) → (is_some r.home ≡ false → r.wishes ≡ 0) → (i : IsSiteWord w b c r m) → b ≡ false → 1 ≤ i.want → r.stage ≡ Live
wanted_live w b c r m homeless askless i unclosed some_want = let a = i.wishes in
    live_now r.stage (λ z. let none = askless (homeless z) in absurd (omega arith)) (λ z. by_home (is_some r.home) refl z)
  where
    by_home : (h : Bool) → is_some r.home ≡ h → r.stage ≡ Gone → ⊥
    by_home true e z = let over = i.over z e in cc
    by_home false e z = let none = askless e in let a = i.wishes in omega arith

-- ---- steps that leave the row

pub claimed_word : (w : ℕ) (b : Bool) (c c' : Load) (r : Row) (m x : ℕ) → Shifts c c' no_load (weight (Claiming x)) → w % 2 ≢ 1 → IsSiteWord w b c r m → (r.stage ≡ New) × IsSiteWord (bit_or w 1) b c' r m
claimed_word w b c c' r m x shift even i =
    let a = i.wishes in let is = i.word_is in let one = i.claimed in let sealed = i.sealed in let g = gone_bit r.stage in let o = or_one w in
    let m0 : c'.claims + 0 ≡ c.claims + 1 = shift.claims in let m1 : c'.seals + 0 ≡ c.seals + 0 = shift.seals in let m2 : c'.reserves + 0 ≡ c.reserves + 0 = shift.reserves in let m3 : c'.lands + 0 ≡ c.lands + 0 = shift.lands in let m5 : c'.leaves + 0 ≡ c.leaves + 0 = shift.leaves in let m4 : c'.credits + 0 ≡ c.credits + 0 = shift.credits in
    let none : started r.stage + c.claims ≡ 0 = omega arith in
    let new : r.stage ≡ New = unstarted r.stage (omega arith) in (
      new,
      record {
        want = i.want;
        claimed = omega arith;
        fresh = i.fresh;
        over = i.over;
        idle = λ z. let s = i.idle z in omega arith;
        sealed = omega arith;
        wishes = omega arith;
        word_is = omega arith;
      },
    )

pub reserved_word : (w : ℕ) (b : Bool) (c c' : Load) (r : Row) (m x : ℕ) → Shifts c c' no_load (weight (Reserved x)) → r.stage ≡ Live → (i : IsSiteWord w b c r m) → 1 ≤ i.want → IsSiteWord (w - 256 + 65536) b c' r m
reserved_word w b c c' r m x shift live i some_want =
    let a = i.wishes in let is = i.word_is in let one = i.claimed in let sealed = i.sealed in let g = gone_bit r.stage in
    let m0 : c'.claims + 0 ≡ c.claims + 0 = shift.claims in let m1 : c'.seals + 0 ≡ c.seals + 0 = shift.seals in let m2 : c'.reserves + 0 ≡ c.reserves + 1 = shift.reserves in let m3 : c'.lands + 0 ≡ c.lands + 0 = shift.lands in let m5 : c'.leaves + 0 ≡ c.leaves + 0 = shift.leaves in let m4 : c'.credits + 0 ≡ c.credits + 0 = shift.credits in record {
      want = i.want - 1;
      claimed = omega arith;
      fresh = i.fresh;
      over = i.over;
      idle = λ z. absurd (z live);
      sealed = omega arith;
      wishes = omega arith;
      word_is = omega arith;
    }

pub landed_word : (w : ℕ) (b : Bool) (c c' : Load) (r : Row) (m x : ℕ) → Shifts c c' (weight (Landing x)) no_load → w < 2 ^ 64 → IsSiteWord w b c r m → IsSiteWord ((w + (2 ^ 64 - 65536)) % 2 ^ 64) b c' r m
landed_word w b c c' r m x shift small i =
    let a = i.wishes in let is = i.word_is in let one = i.claimed in let sealed = i.sealed in
    let m0 : c'.claims + 0 ≡ c.claims + 0 = shift.claims in let m1 : c'.seals + 0 ≡ c.seals + 0 = shift.seals in let m2 : c'.reserves + 0 ≡ c.reserves + 0 = shift.reserves in let m3 : c'.lands + 1 ≡ c.lands + 0 = shift.lands in let m5 : c'.leaves + 0 ≡ c.leaves + 0 = shift.leaves in let m4 : c'.credits + 0 ≡ c.credits + 0 = shift.credits in record {
      want = i.want;
      claimed = omega arith;
      fresh = i.fresh;
      over = i.over;
      idle = λ z. let s = i.idle z in omega arith;
      sealed = omega arith;
      wishes = omega arith;
      word_is = omega arith;
    }

pub left_word : (w : ℕ) (b : Bool) (c c' : Load) (r : Row) (m x : ℕ) → Shifts c c' (weight (Leaving x)) no_load → w < 2 ^ 64 → IsSiteWord w b c r m → IsSiteWord ((w + (2 ^ 64 - 65536)) % 2 ^ 64) b c' r m
left_word w b c c' r m x shift small i =
    let a = i.wishes in let is = i.word_is in let one = i.claimed in let sealed = i.sealed in
    let m0 : c'.claims + 0 ≡ c.claims + 0 = shift.claims in let m1 : c'.seals + 0 ≡ c.seals + 0 = shift.seals in let m2 : c'.reserves + 0 ≡ c.reserves + 0 = shift.reserves in let m3 : c'.lands + 0 ≡ c.lands + 0 = shift.lands in let m5 : c'.leaves + 1 ≡ c.leaves + 0 = shift.leaves in let m4 : c'.credits + 0 ≡ c.credits + 0 = shift.credits in record {
      want = i.want;
      claimed = omega arith;
      fresh = i.fresh;
      over = i.over;
      idle = λ z. let s = i.idle z in omega arith;
      sealed = omega arith;
      wishes = omega arith;
      word_is = omega arith;
    }

pub credited_word : (w n : ℕ) (b : Bool) (c c' : Load) (r : Row) (m x : ℕ) → Shifts c c' (weight (Crediting x n)) no_load → r.wishes ≤ 255 → w < 2 ^ 64 → IsSiteWord w b c r m → IsSiteWord ((w + 256 * n) % 2 ^ 64) b c' r m
credited_word w n b c c' r m x shift few small i =
    let a = i.wishes in let is = i.word_is in let one = i.claimed in let sealed = i.sealed in let e = bit_of b in let g = gone_bit r.stage in
    let m0 : c'.claims + 0 ≡ c.claims + 0 = shift.claims in let m1 : c'.seals + 0 ≡ c.seals + 0 = shift.seals in let m2 : c'.reserves + 0 ≡ c.reserves + 0 = shift.reserves in let m3 : c'.lands + 0 ≡ c.lands + 0 = shift.lands in let m5 : c'.leaves + 0 ≡ c.leaves + 0 = shift.leaves in let m4 : c'.credits + n ≡ c.credits + 0 = shift.credits in
    let top : m + c.reserves + c.lands + c.leaves < 2 ^ 48 = omega arith in record {
      want = i.want + n;
      claimed = omega arith;
      fresh = i.fresh;
      over = i.over;
      idle = λ z. let s = i.idle z in omega arith;
      sealed = omega arith;
      wishes = omega arith;
      word_is = omega arith;
    }

pub closing_word : (w : ℕ) (b : Bool) (c : Load) (r : Row) (m : ℕ) → r.stage ≡ Live → r.wishes ≤ 255 → IsSiteWord w b c r m → IsSiteWord (bit_or w 2) true c r m
closing_word w b c r m live few i =
    let f = (fields w b c r m few i).closing in let o = or_two w in let is = i.word_is in record {
      want = i.want;
      claimed = i.claimed;
      fresh = λ z. absurd (cc);
      over = λ _ _. refl;
      idle = i.idle;
      sealed = i.sealed;
      wishes = i.wishes;
      word_is = omega arith;
    }

pub sealed_word : (w : ℕ) (b : Bool) (c c' : Load) (r : Row) (m x : ℕ) → Shifts c c' (weight (Sealing x)) no_load → r.stage ≡ Gone → r.wishes ≤ 255 → IsSiteWord w b c r m → IsSiteWord (bit_or w 4) b c' r m
sealed_word w b c c' r m x shift gone few i =
    let f = (fields w b c r m few i).closed in let o = or_four w in
    let a = i.wishes in let is = i.word_is in let one = i.claimed in let sealed = i.sealed in let g = gone_bit r.stage in
    let m0 : c'.claims + 0 ≡ c.claims + 0 = shift.claims in let m1 : c'.seals + 1 ≡ c.seals + 0 = shift.seals in let m2 : c'.reserves + 0 ≡ c.reserves + 0 = shift.reserves in let m3 : c'.lands + 0 ≡ c.lands + 0 = shift.lands in let m5 : c'.leaves + 0 ≡ c.leaves + 0 = shift.leaves in let m4 : c'.credits + 0 ≡ c.credits + 0 = shift.credits in record {
      want = i.want;
      claimed = omega arith;
      fresh = λ z. absurd (cc);
      over = i.over;
      idle = λ z. let s = i.idle z in omega arith;
      sealed = omega arith;
      wishes = omega arith;
      word_is = omega arith;
    }

-- ---- steps on the first word, which leave the site's word and change its row

pub registered_word : (w : ℕ) (b : Bool) (c c' : Load) (r : Row) (m m' h x : ℕ) → Shifts c c' (weight (Claiming x)) no_load → m' ≡ m → r ≡ blank → IsSiteWord w b c r m → IsSiteWord w b c' (record { stage = Live; home = Some h; wishes = 0; asked = 0 }) m'
registered_word w b c c' r m m' h x shift inner new i =
    let a = i.wishes in let is = i.word_is in let one = i.claimed in let sealed = i.sealed in
    let st : started r.stage ≡ 0 = ap (λ (z : Row). started z.stage) new in let go : one_if (is_gone r.stage) ≡ 0 = ap (λ (z : Row). one_if (is_gone z.stage)) new in let wi : r.wishes ≡ 0 = ap (λ (z : Row). z.wishes) new in let none = i.idle (λ live. let z : r.stage ≡ New = ap (λ (q : Row). q.stage) new in cc) in
    let m0 : c'.claims + 1 ≡ c.claims + 0 = shift.claims in let m1 : c'.seals + 0 ≡ c.seals + 0 = shift.seals in let m2 : c'.reserves + 0 ≡ c.reserves + 0 = shift.reserves in let m3 : c'.lands + 0 ≡ c.lands + 0 = shift.lands in let m5 : c'.leaves + 0 ≡ c.leaves + 0 = shift.leaves in let m4 : c'.credits + 0 ≡ c.credits + 0 = shift.credits in record {
      want = i.want;
      claimed = omega arith;
      fresh = λ z. absurd (cc);
      over = λ z. absurd (cc);
      idle = λ z. absurd (z refl);
      sealed = omega arith;
      wishes = omega arith;
      word_is = omega arith;
    }

pub requested_word : (w n : ℕ) (b : Bool) (c c' : Load) (r : Row) (m m' x : ℕ) → Shifts c c' no_load (weight (Crediting x n)) → m' ≡ m → IsSiteWord w b c r m → IsSiteWord w b c' (record r { wishes = r.wishes + n; asked = r.asked + n }) m'
requested_word w n b c c' r m m' x shift inner i =
    let a = i.wishes in let is = i.word_is in let one = i.claimed in let sealed = i.sealed in
    let m0 : c'.claims + 0 ≡ c.claims + 0 = shift.claims in let m1 : c'.seals + 0 ≡ c.seals + 0 = shift.seals in let m2 : c'.reserves + 0 ≡ c.reserves + 0 = shift.reserves in let m3 : c'.lands + 0 ≡ c.lands + 0 = shift.lands in let m5 : c'.leaves + 0 ≡ c.leaves + 0 = shift.leaves in let m4 : c'.credits + 0 ≡ c.credits + n = shift.credits in record {
      want = i.want;
      claimed = omega arith;
      fresh = i.fresh;
      over = i.over;
      idle = λ z. let s = i.idle z in omega arith;
      sealed = omega arith;
      wishes = omega arith;
      word_is = omega arith;
    }

-- A hart that was reserved is inside, or landing.
pub entered_word : (w : ℕ) (b : Bool) (c c' d : Load) (r : Row) (m m' x : ℕ) → Shifts c c' (weight (Reserved x)) d → Comes d m m' → IsSiteWord w b c r m → IsSiteWord w b c' (record r { wishes = r.wishes - 1 }) m'
entered_word w b c c' d r m m' x shift comes i =
    let a = i.wishes in let is = i.word_is in let one = i.claimed in let sealed = i.sealed in
    let d0 = comes.claims in let d1 = comes.seals in let d2 = comes.reserves in let d5 = comes.leaves in let d4 = comes.credits in let inner = comes.inside in
    let m0 : c'.claims + 0 ≡ c.claims + d.claims = shift.claims in let m1 : c'.seals + 0 ≡ c.seals + d.seals = shift.seals in let m2 : c'.reserves + 1 ≡ c.reserves + d.reserves = shift.reserves in let m3 : c'.lands + 0 ≡ c.lands + d.lands = shift.lands in let m5 : c'.leaves + 0 ≡ c.leaves + d.leaves = shift.leaves in let m4 : c'.credits + 0 ≡ c.credits + d.credits = shift.credits in record {
      want = i.want;
      claimed = omega arith;
      fresh = i.fresh;
      over = i.over;
      idle = λ z. let s = i.idle z in omega arith;
      sealed = omega arith;
      wishes = omega arith;
      word_is = omega arith;
    }

-- A hart that was inside is leaving, or wasn't counted.
pub yielded_word : (w : ℕ) (b : Bool) (c c' d : Load) (r : Row) (m m' x : ℕ) → Shifts c c' no_load d → Goes d m m' → IsSiteWord w b c r m → IsSiteWord w b c' r m'
yielded_word w b c c' d r m m' x shift goes i =
    let a = i.wishes in let is = i.word_is in let one = i.claimed in let sealed = i.sealed in
    let d0 = goes.claims in let d1 = goes.seals in let d2 = goes.reserves in let d3 = goes.lands in let d4 = goes.credits in let inner = goes.inside in
    let m0 : c'.claims + 0 ≡ c.claims + d.claims = shift.claims in let m1 : c'.seals + 0 ≡ c.seals + d.seals = shift.seals in let m2 : c'.reserves + 0 ≡ c.reserves + d.reserves = shift.reserves in let m3 : c'.lands + 0 ≡ c.lands + d.lands = shift.lands in let m5 : c'.leaves + 0 ≡ c.leaves + d.leaves = shift.leaves in let m4 : c'.credits + 0 ≡ c.credits + d.credits = shift.credits in record {
      want = i.want;
      claimed = omega arith;
      fresh = i.fresh;
      over = i.over;
      idle = λ z. let s = i.idle z in omega arith;
      sealed = omega arith;
      wishes = omega arith;
      word_is = omega arith;
    }

pub unregistered_word : (w : ℕ) (b : Bool) (c c' : Load) (r : Row) (m m' x : ℕ) → Shifts c c' no_load (weight (Sealing x)) → m' ≡ m → r.stage ≡ Live → b ≡ true → m + c.reserves + c.lands + c.leaves ≡ 0 → IsSiteWord w b c r m → IsSiteWord w b c' (record r { stage = Gone }) m'
unregistered_word w b c c' r m m' x shift inner live over none i =
    let a = i.wishes in let is = i.word_is in let one = i.claimed in let sealed = i.sealed in
    let st : started r.stage ≡ 1 = ap started live in let go : one_if (is_gone r.stage) ≡ 0 = ap (λ (z : Stage). one_if (is_gone z)) live in
    let m0 : c'.claims + 0 ≡ c.claims + 0 = shift.claims in let m1 : c'.seals + 0 ≡ c.seals + 1 = shift.seals in let m2 : c'.reserves + 0 ≡ c.reserves + 0 = shift.reserves in let m3 : c'.lands + 0 ≡ c.lands + 0 = shift.lands in let m5 : c'.leaves + 0 ≡ c.leaves + 0 = shift.leaves in let m4 : c'.credits + 0 ≡ c.credits + 0 = shift.credits in record {
      want = i.want;
      claimed = omega arith;
      fresh = λ z. absurd (cc);
      over = λ _ _. over;
      idle = λ _. omega arith;
      sealed = omega arith;
      wishes = omega arith;
      word_is = omega arith;
    }

pub skipped_word : (w : ℕ) (b : Bool) (c c' : Load) (r : Row) (m m' x : ℕ) → Shifts c c' (weight (Claiming x)) (weight (Sealing x)) → m' ≡ m → r ≡ blank → IsSiteWord w b c r m → IsSiteWord w b c' (swept_row r) m'
skipped_word w b c c' r m m' x shift inner new i =
    let a = i.wishes in let is = i.word_is in let one = i.claimed in let sealed = i.sealed in
    let st : started r.stage ≡ 0 = ap (λ (z : Row). started z.stage) new in let go : one_if (is_gone r.stage) ≡ 0 = ap (λ (z : Row). one_if (is_gone z.stage)) new in let wi : r.wishes ≡ 0 = ap (λ (z : Row). z.wishes) new in let none = i.idle (λ live. let z : r.stage ≡ New = ap (λ (q : Row). q.stage) new in cc) in
    let m0 : c'.claims + 1 ≡ c.claims + 0 = shift.claims in let m1 : c'.seals + 0 ≡ c.seals + 1 = shift.seals in let m2 : c'.reserves + 0 ≡ c.reserves + 0 = shift.reserves in let m3 : c'.lands + 0 ≡ c.lands + 0 = shift.lands in let m5 : c'.leaves + 0 ≡ c.leaves + 0 = shift.leaves in let m4 : c'.credits + 0 ≡ c.credits + 0 = shift.credits in record {
      want = i.want;
      claimed = omega arith;
      fresh = λ z. absurd (cc);
      over = λ _ h. absurd (cc);
      idle = λ _. omega arith;
      sealed = omega arith;
      wishes = omega arith;
      word_is = omega arith;
    }

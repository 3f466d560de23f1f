-- One turn of a loop that counts.
use Rattle.std.proofs.Common.{◌≡◌, ◌∙◌, ℕ, zero, suc, ◌+◌, ◌-◌, ◌*◌, ◌<◌, ◌==◌, cond, Bool, true, false, List, ◌∷◌, ◌++◌, length, drop, replicate, get_or, refl, ap, arith}
use Rattle.transfer_table.specs.Plan.{Plan, parent}
use Rattle.transfer_table.specs.Table.{TableState, admit_of}
use Rattle.transfer_table.specs.declared.entry.Entry.{Entry}
use Rattle.journal_picture.specs.Drawn.{or_same}
use Rattle.journal_picture.specs.Stays.{stays_of}
use Rattle.std.specs.Fmt.{decimal}
use Rattle.std.proofs.lemmas.List.{drop_more}
use Rattle.transfer_table.specs.declared.entry.Entry.TheVariants.{Enter}
use Rattle.journal_picture.specs.declared.stay.Stay.{Stay}
use Rattle.journal_picture.specs.declared.strip.Figures.{Figures}
use Rattle.journal_picture.specs.Scale.{lane_y}
use Rattle.journal_picture.specs.SvgBars.{bars_text, lanes_svg, part_text, parts_text}
use Rattle.journal_picture.specs.SvgMarks.{figures_svg, hart_at, harts_svg, row_names, rows_svg, strip_svg}
use Rattle.journal_picture.specs.Views.{View}
use Rattle.journal_picture.specs.SvgTable.{listed_row, rows_from}
use Rattle.journal_picture.specs.Travels.{travels_from, travels_in}
use Rattle.journal_picture.specs.TextPicture.{band_text, bands_text, cell, lanes_of, numbers_text, sites_of, steps_up}

-- What a function of what is left gives, where one more is left.
one_more : {A : Type 0} (f : ℕ → A) (n i : ℕ) → i < n → f (n - i) ≡ f (suc (n - (i + 1)))
one_more f n i lt = ap f (omega arith)

pub replicate_more : {A : Type 0} (n i : ℕ) (x : A) → i < n → replicate (n - i) x ≡ x ∷ replicate (n - (i + 1)) x
replicate_more n i x lt = one_more (λ k. replicate k x) n i lt

pub bands_more : (faulty : Bool) (es : List Entry) (lanes : List (List ℕ)) (strip : List Figures) (n i : ℕ) → i < n
    → bands_text faulty es lanes strip i (n - i) ≡ band_text faulty es lanes strip (14 * i) ++ bands_text faulty es lanes strip (i + 1) (n - (i + 1))
bands_more faulty es lanes strip n i lt = one_more (λ k. bands_text faulty es lanes strip i k) n i lt

pub lanes_more : (p : Plan) (es : List Entry) (n i : ℕ) → i < n
    → lanes_of p es i (n - i) ≡ sites_of (length es) (stays_of p i es) ∷ lanes_of p es (i + 1) (n - (i + 1))
lanes_more p es n i lt = one_more (λ k. lanes_of p es i k) n i lt

base_steps : (p : Plan) (n : ℕ) → steps_up p n 0 ≡ 0
base_steps p zero = refl
base_steps p (suc n) = refl

-- From the base no step is left.
pub steps_none : (p : Plan) (n at : ℕ) → at ≡ 0 → steps_up p n at ≡ 0
steps_none p n at e = ap (steps_up p n) e ∙ base_steps p n

pub steps_more : (p : Plan) (n i at : ℕ) → i < n → (at ≡ 0 → ⊥) → steps_up p (n - i) at ≡ 1 + steps_up p (n - (i + 1)) (parent p at)
steps_more p n i at lt up = one_more (λ k. steps_up p k at) n i lt ∙ by (at == 0) refl
  where
    by : (b : Bool) → (at == 0) ≡ b → cond b 0 (1 + steps_up p (n - (i + 1)) (parent p at)) ≡ 1 + steps_up p (n - (i + 1)) (parent p at)
    by false same = refl
    by true same = absurd (up (grind arith))

pub numbers_more : (at i : ℕ) (es : List Entry) → i < length es → numbers_text (at + i) (drop i es) ≡ cell (decimal (at + i)) ++ numbers_text (at + (i + 1)) (drop (i + 1) es)
numbers_more at i es lt =
    ap (numbers_text (at + i)) (drop_more es i (Enter 0 0) lt)
    ∙ ap (λ k. cell (decimal (at + i)) ++ numbers_text k (drop (i + 1) es)) (omega arith)

pub svg_lanes_more : (v : View) (n i : ℕ) → i < n
    → lanes_svg v i (n - i) ≡ bars_text v (stays_of v.plan i v.list) ++ lanes_svg v (i + 1) (n - (i + 1))
svg_lanes_more v n i lt = one_more (λ k. lanes_svg v i k) n i lt

pub harts_more : (top n i : ℕ) → i < n
    → harts_svg top i (n - i) ≡ hart_at (lane_y top i + 34) i ++ harts_svg top (i + 1) (n - (i + 1))
harts_more top n i lt = one_more (λ k. harts_svg top i k) n i lt

pub rows_more : (v : View) (n i : ℕ) → i < n → rows_svg v i (n - i) ≡ row_names v i ++ rows_svg v (i + 1) (n - (i + 1))
rows_more v n i lt = one_more (λ k. rows_svg v i k) n i lt

pub parts_more : (v : View) (stay : Stay) (row n i : ℕ) → i < n
    → parts_text v stay (row + i) (n - i) ≡ part_text v stay (row + i) ++ parts_text v stay (row + (i + 1)) (n - (i + 1))
parts_more v stay row n i lt =
    one_more (λ k. parts_text v stay (row + i) k) n i lt
    ∙ ap (λ r. part_text v stay (row + i) ++ parts_text v stay r (n - (i + 1))) (omega arith)

pub strip_more : (v : View) (t : TableState) (i : ℕ) (es : List Entry) (other : Entry) → i < length es
    → strip_svg v t i (drop i es) ≡ figures_svg v t i ++ strip_svg v (or_same t (admit_of v.plan t (get_or es i other))) (i + 1) (drop (i + 1) es)
strip_more v t i es other lt = ap (strip_svg v t i) (drop_more es i other lt)

pub rows_from_more : (v : View) (s n i : ℕ) → i < n → rows_from v s (n - i) ≡ listed_row v s ++ rows_from v (s + 1) (n - (i + 1))
rows_from_more v s n i lt = one_more (λ k. rows_from v s k) n i lt

pub travels_more : (p : Plan) (es : List Entry) (n h : ℕ) → h < n
    → travels_from p es h (n - h) ≡ travels_in p es h ∷ travels_from p es (h + 1) (n - (h + 1))
travels_more p es n h lt = one_more (λ k. travels_from p es h k) n h lt

-- The picture as SVG 1.1: rows of places, in each a lane for each hart, a bar for each stay, and the strip. All numbers are whole.
use Rattle.std.specs.Prelude.{ℕ, ◌+◌, ◌==◌, nat_le, nat_lt, Bool, true, false, if◌then◌else◌, List, [], ◌∷◌, ◌++◌, codes, length}
use Rattle.std.specs.List.{concat, flat_map}
use Rattle.std.specs.Fmt.{decimal}
use Rattle.transfer_table.specs.Plan.{Plan, site_count}
use Rattle.transfer_table.specs.Table.{first_state}
use Rattle.transfer_table.specs.Journal.{first_fault_of}
use Rattle.transfer_table.specs.declared.entry.Entry.{Entry}
use Rattle.journal_picture.specs.declared.shape.Shape.{Shape}
use Rattle.journal_picture.specs.Drawn.{drawn, has_fault}
use Rattle.journal_picture.specs.Faults.{words_of}
use Rattle.journal_picture.specs.Scale.{rows_of, rows_bottom, step_of, width_of}
use Rattle.journal_picture.specs.SvgBars.{base_fill, lanes_svg, mark_svg, rect_text, site_fill}
use Rattle.journal_picture.specs.SvgMarks.{fault_svg, marks_text, red, rows_svg, strip_svg, ticks_text}
use Rattle.journal_picture.specs.SvgTable.{tables_height, tables_svg}
use Rattle.journal_picture.specs.Views.{View, view}

-- ---- the frame

-- The head of an SVG file of this width and height, with a white background.
unfoldable pub head_of : ℕ → ℕ → List ℕ
head_of width height =
    concat (codes "<svg xmlns='http://www.w3.org/2000/svg' version='1.1' width='" ∷
    decimal width ∷ codes "' height='" ∷ decimal height ∷ codes "' viewBox='0 0 " ∷ decimal width ∷
    codes " " ∷ decimal height ∷
    codes "' font-family='Helvetica, Arial, sans-serif' font-size='11' text-anchor='middle'>\n<rect width='100%' height='100%' fill='#ffffff'/>\n" ∷ [])

-- The head of the picture.
abbrev pub head_svg : View → List ℕ
head_svg v = head_of (width_of v) (rows_bottom v + 76 + tables_height v)

-- The title line of the picture, and the note of the axis.
unfoldable pub title_svg : ℕ → ℕ → ℕ → List ℕ
title_svg harts sites entries =
    concat (
    codes "<text x='16' y='30' font-size='19' font-weight='bold' text-anchor='start'>Lithe, harts " ∷
    decimal harts ∷ codes ", sites " ∷ decimal sites ∷ codes ", entries " ∷ decimal entries ∷
    codes "</text>\n<text x='56' y='72' text-anchor='start'>entries in order, not time</text>\n" ∷ [])

-- A picture that leaves rows out says so.
abbrev pub note_svg : ℕ → List ℕ
note_svg rows =
    if nat_le rows 32 then []
    else codes "<text x='260' y='72' text-anchor='start'>of " ++ decimal rows
    ++ codes " rows the first 16 and the last 16 are shown</text>\n"

-- A colour and what it means.
abbrev pub swatch_svg : ℕ → ℕ → List ℕ → List ℕ → List ℕ
swatch_svg x y fill words = rect_text x y 24 fill words ++ mark_svg (x + 32) (y + 11) words

-- The legend's colours of harts in the base.
abbrev pub base_swatches : ℕ → List ℕ
base_swatches y =
    swatch_svg 56 y (base_fill 0) (codes "the program's body")
    ++ swatch_svg 216 y (base_fill 1) (codes "an idle hart")

-- The legend's colours of sites and of missed wishes.
abbrev pub site_swatches : ℕ → List ℕ
site_swatches y =
    swatch_svg 336 y (site_fill false 1) (codes "a site")
    ++ swatch_svg 416 y (site_fill true 1) (codes "a site of phases")
    ++ swatch_svg 556 y red (codes "a missed wish")

-- What the marks mean.
abbrev pub marks_note : ℕ → List ℕ
marks_note step =
    if nat_lt step 40
    then codes "a line: the home requests harts. a dot: wishes that no hart met. red and slanted: a skip."
    else codes "+1: the home requests a hart. 1 unmet: a wish that no hart met. skip: a site that isn't entered."

-- The two lines of the legend's text as SVG, at these heights.
unfoldable pub words_svg : ℕ → ℕ → List ℕ → List ℕ
words_svg first second note =
    concat (codes "<text x='56' y='" ∷ decimal first ∷
    codes "'>higher and darker: deeper in the tree. a missed wish: a child of the base has an unmet wish while a hart is idle.</text>\n<text x='56' y='" ∷
    decimal second ∷ codes "'>" ∷ note ∷ codes "</text>\n</g>\n" ∷ [])

-- The legend, from this height on.
abbrev pub legend_at : View → ℕ → List ℕ
legend_at v y =
    codes "<g text-anchor='start'>\n" ++ base_swatches y ++ site_swatches y
    ++ words_svg (y + 32) (y + 50) (marks_note (step_of v))

-- The legend below the rows.
abbrev pub legend_svg : View → List ℕ
legend_svg v = legend_at v (rows_bottom v + 8)

-- The start of the verdict's line as SVG.
abbrev pub verdict_start : List ℕ
verdict_start = codes "<text x='16' y='52' font-size='14' text-anchor='start'>"

-- A byte of the verdict, as XML has it. In place of what is no printable letter of ASCII and no line's end stands '?'.
abbrev pub escaped_byte : ℕ → List ℕ
escaped_byte byte =
    if byte == 60 then codes "&lt;" else
    if byte == 38 then codes "&amp;" else
    if byte == 10 then byte ∷ [] else
    if nat_le 32 byte then (if nat_le byte 126 then byte ∷ [] else codes "?") else codes "?"

-- The verdict with each byte escaped.
abbrev pub escaped : List ℕ → List ℕ
escaped verdict = flat_map escaped_byte verdict

-- The escaped verdict and the end of the SVG file.
unfoldable pub end_svg : List ℕ → List ℕ
end_svg verdict = escaped verdict ++ codes "</text>\n</svg>\n"

-- Head, title and note, and the legend.
abbrev pub frame_svg : View → List ℕ
frame_svg v =
    head_svg v ++ title_svg v.plan.harts (site_count v.plan) (length v.list) ++ note_svg (rows_of v)
    ++ legend_svg v

-- ---- the whole, with the verdict's line

-- What lies over the bars, and the fault with its words.
abbrev pub over_svg : View → Bool → List ℕ → List ℕ
over_svg v faulty words =
    marks_text v 0 v.list ++ strip_svg v (first_state v.plan) 0 v.list ++ fault_svg v faulty words

-- The rows of the picture: the names and the axis under the bars, the bars of all harts, and what lies over the bars.
abbrev pub picture_svg : View → Bool → List ℕ → List ℕ
picture_svg v faulty words =
    rows_svg v 0 (rows_of v) ++ ticks_text v 0 v.list ++ lanes_svg v 0 v.plan.harts
    ++ over_svg v faulty words

-- The picture up to the verdict: the frame, the rows, the tables, and the start of the verdict's line.
unfoldable pub shown_svg : View → Bool → List ℕ → List ℕ
shown_svg v faulty words =
    frame_svg v ++ picture_svg v faulty words ++ tables_svg v ++ verdict_start

-- The SVG picture of a list: its entries before the first fault, the words of the first fault, and the verdict.
abbrev pub svg_picture : Plan → List Bool → List Shape → List Entry → List ℕ → List ℕ
svg_picture p meant shapes es verdict =
    shown_svg (view p shapes (drawn p meant es)) (has_fault p meant es)
    (words_of p es (first_fault_of p meant es))
    ++ end_svg verdict

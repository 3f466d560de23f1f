-- What stands around the bars: the names of the lanes, the axis, the marks of requests, unmet wishes and skips, the strip, and the
-- fault.
use Rattle.std.specs.Prelude.{ℕ, zero, suc, ◌+◌, ◌*◌, ◌%◌, ◌==◌, nat_le, nat_lt, Bool, true, false, if◌then◌else◌, ◌&&◌, List, [], ◌∷◌, ◌++◌, codes, length}
use Rattle.std.specs.List.{concat}
use Rattle.std.specs.Fmt.{decimal}
use Rattle.transfer_table.specs.Plan.{Plan}
use Rattle.transfer_table.specs.Table.{TableState, admit_of, no_such_site, row}
use Rattle.transfer_table.specs.Entry.{hart_of, site_of}
use Rattle.transfer_table.specs.declared.entry.Entry.{Entry}
use Rattle.transfer_table.specs.declared.entry.Entry.TheVariants.{Register, Request, Enter, Yield, Unregister, Skip}
use Rattle.journal_picture.specs.declared.strip.Figures.{Figures}
use Rattle.journal_picture.specs.Drawn.{or_same}
use Rattle.journal_picture.specs.Faults.{entry_words}
use Rattle.journal_picture.specs.Strip.{figures_of}
use Rattle.journal_picture.specs.Scale.{step_of, row_of, rows_of, is_shown, entry_x, place_x, row_y, strip_y, lane_y, every}
use Rattle.journal_picture.specs.SvgBars.{mark_svg, rect_text}
use Rattle.journal_picture.specs.TextPicture.{deed}
use Rattle.journal_picture.specs.Views.{View}

-- ---- at the left of a row: the names of its lanes and of the strip's numbers

-- The name of a hart as SVG, at this height.
unfoldable pub hart_at : ℕ → ℕ → List ℕ
hart_at y h =
    concat (codes "<text x='28' y='" ∷ decimal y ∷
    codes "' font-size='13' font-weight='bold'>h" ∷ decimal h ∷ codes "</text>\n" ∷ [])

-- The names of n harts, from hart h on.
abbrev pub harts_svg : ℕ → ℕ → ℕ → List ℕ
harts_svg top h zero = []
harts_svg top h (suc n) = hart_at (lane_y top h + 34) h ++ harts_svg top (h + 1) n

-- The names of the strip's two numbers, from this height on.
abbrev pub strip_names : ℕ → List ℕ
strip_names y =
    mark_svg 28 (y + 11) (codes "unmet") ++ mark_svg 28 (y + 25) (codes "idle")

-- The names at the left of this row; nothing if the row isn't shown.
abbrev pub row_names : View → ℕ → List ℕ
row_names v row =
    if is_shown v row then harts_svg (row_y v row) 0 v.plan.harts ++ strip_names (strip_y v row)
    else []

-- The names at the left of n rows, from this row on.
abbrev pub rows_svg : View → ℕ → ℕ → List ℕ
rows_svg v row zero = []
rows_svg v row (suc n) = row_names v row ++ rows_svg v (row + 1) n

-- ---- the axis: an entry's number, and where there is room what it does, whose it is and of which site

-- The hart and the site of an entry, in words.
abbrev pub who_text : Entry → List ℕ
who_text e = concat (codes "h" ∷ decimal (hart_of e) ∷ codes " s" ∷ decimal (site_of e) ∷ [])

-- The words below an entry's number: its kind, its hart and its site. Nothing if a place is less than 40 units wide.
abbrev pub deed_text : View → ℕ → ℕ → Entry → List ℕ
deed_text v x top e =
    if nat_lt (step_of v) 40 then []
    else mark_svg x (top + 24) (deed e) ++ mark_svg x (top + 36) (who_text e)

-- A line across the lanes of a row that begins at this height.
unfoldable pub guide_text : View → ℕ → ℕ → List ℕ → List ℕ
guide_text v x top stroke =
    concat (codes "<path d='M" ∷ decimal x ∷ codes " " ∷ decimal (top + 40) ∷ codes "v" ∷
    decimal (44 * v.plan.harts) ∷ codes "' stroke='" ∷ stroke ∷ codes "'/>\n" ∷ [])

-- The marks of entry k on the axis: a line across the lanes, the number and the words.
abbrev pub tick_marks : View → ℕ → ℕ → ℕ → Entry → List ℕ
tick_marks v x top k e =
    guide_text v x top (codes "#d5dade") ++ mark_svg x (top + 12) (decimal k)
    ++ deed_text v x top e

-- The marks of entry k on the axis; nothing if the entry has no number or its row isn't shown.
abbrev pub tick_text : View → ℕ → Entry → List ℕ
tick_text v k e =
    if (k % every v == 0) && is_shown v (row_of v k)
    then tick_marks v (entry_x v k) (row_y v (row_of v k)) k e else []

-- The marks on the axis for these entries, the first of which is entry k.
abbrev pub ticks_text : View → ℕ → List Entry → List ℕ
ticks_text v k [] = []
ticks_text v k (e ∷ es) = tick_text v k e ++ ticks_text v (k + 1) es

-- ---- marks on the lanes, each with the entry as its title: words where there is room, else a line

-- Words as SVG at this position, with a title.
unfoldable pub titled_svg : ℕ → ℕ → List ℕ → List ℕ → List ℕ
titled_svg x y words title =
    concat (codes "<text x='" ∷ decimal x ∷ codes "' y='" ∷ decimal y ∷ codes "'>" ∷ words ∷
    codes "<title>" ∷ title ∷ codes "</title></text>\n" ∷ [])

-- A line as SVG from this position, with its path and stroke in `look`, and a title.
unfoldable pub line_svg : ℕ → ℕ → List ℕ → List ℕ → List ℕ
line_svg x y look title =
    concat (codes "<path d='M" ∷ decimal x ∷ codes " " ∷ decimal y ∷ look ∷ codes "'><title>" ∷
    title ∷ codes "</title></path>\n" ∷ [])

-- A request is a line, unmet wishes are a dot, a skip is a slanted line.
abbrev pub look_of : Entry → List ℕ
look_of (Register h s) = []
look_of (Request h s k) = codes "v-8' stroke='#000000"
look_of (Enter h s) = []
look_of (Yield h s) = []
look_of (Unregister h s) = codes "v-4' stroke='#000000' stroke-width='4"
look_of (Skip h s) = codes "l-5 -8' stroke='#b00020"

-- The foot of the marks of a lane.
abbrev pub mark_y : ℕ → ℕ → ℕ
mark_y top h = lane_y top h + 6

-- The mark of entry k at this position: words, or a line if a place is less than 40 units wide.
abbrev pub placed_mark : View → ℕ → ℕ → ℕ → Entry → List ℕ → List ℕ
placed_mark v x y k e words =
    if nat_lt (step_of v) 40 then line_svg x y (look_of e) (entry_words k e)
    else titled_svg x y words (entry_words k e)

-- The mark of entry k with these words; nothing if its row isn't shown.
abbrev pub mark_text : View → ℕ → Entry → List ℕ → List ℕ
mark_text v k e words =
    if is_shown v (row_of v k)
    then placed_mark v (entry_x v k) (mark_y (row_y v (row_of v k)) (hart_of e)) k e words else []

-- The unmet wishes of a site; 0 if the plan has no such site.
abbrev pub unmet_at : Plan → TableState → ℕ → ℕ
unmet_at p t s = if no_such_site p s then 0 else (row t s).wishes

-- The mark of entry k for so many unmet wishes; nothing if there are none.
abbrev pub unmet_mark : View → ℕ → Entry → ℕ → List ℕ
unmet_mark v k e wishes =
    if wishes == 0 then [] else mark_text v k e (decimal wishes ++ codes " unmet")

-- The mark of an entry: how many harts it requests, how many wishes of its site are unmet, or which site it skips.
abbrev pub entry_mark : View → ℕ → Entry → List ℕ
entry_mark v k (Request h s count) = mark_text v k (Request h s count) (codes "+" ++ decimal count)
entry_mark v k (Unregister h s) = unmet_mark v k (Unregister h s) (unmet_at v.plan v.state s)
entry_mark v k (Skip h s) = mark_text v k (Skip h s) (codes "skip s" ++ decimal s)
entry_mark v k (Register h s) = []
entry_mark v k (Enter h s) = []
entry_mark v k (Yield h s) = []

-- The marks of these entries; the first of them is entry k.
abbrev pub marks_text : View → ℕ → List Entry → List ℕ
marks_text v k [] = []
marks_text v k (e ∷ es) = entry_mark v k e ++ marks_text v (k + 1) es

-- ---- the strip: for each place the unmet wishes and the idle harts, red where a lender missed a wish

-- The figures of a place in words.
abbrev pub figures_words : ℕ → Figures → List ℕ
figures_words k f =
    concat (codes "before entry " ∷ decimal k ∷ codes ": unmet " ∷ decimal f.unmet ∷ codes ", idle " ∷
    decimal f.idle ∷ [])

-- The fill and the stroke of a missed wish.
abbrev pub red : List ℕ
red = codes "#f6b3b9' stroke='#b00020"

-- The red rectangle of place k in the strip, if a lender missed a wish there.
abbrev pub red_svg : View → ℕ → Figures → List ℕ
red_svg v k f =
    if f.missed
    then rect_text (place_x v k) (strip_y v (row_of v k)) (step_of v) red (figures_words k f) else []

-- The two numbers of place k in the strip; nothing if a place is less than 24 units wide.
abbrev pub numbers_svg : View → ℕ → Figures → List ℕ
numbers_svg v k f =
    if nat_lt (step_of v) 24 then []
    else mark_svg (place_x v k + 12) (strip_y v (row_of v k) + 11) (decimal f.unmet)
    ++ mark_svg (place_x v k + 12) (strip_y v (row_of v k) + 25) (decimal f.idle)

-- The figures of place k in the strip, where the table has this state; nothing if the row of the place isn't shown.
abbrev pub figures_svg : View → TableState → ℕ → List ℕ
figures_svg v t k =
    if is_shown v (row_of v k)
    then red_svg v k (figures_of v.plan t) ++ numbers_svg v k (figures_of v.plan t) else []

-- The strip from place k on, where the table has this state.
abbrev pub strip_svg : View → TableState → ℕ → List Entry → List ℕ
strip_svg v t k [] = figures_svg v t k
strip_svg v t k (e ∷ es) =
    figures_svg v t k ++ strip_svg v (or_same t (admit_of v.plan t e)) (k + 1) es

-- ---- the fault, at the right end of the last place

-- The stroke of the dashed line at the fault.
abbrev pub fault_stroke : List ℕ
fault_stroke = codes "#b00020' stroke-width='3' stroke-dasharray='6 3"

-- The word `fault` as SVG at this position, with the fault's words as its title.
unfoldable pub fault_word : ℕ → ℕ → List ℕ → List ℕ
fault_word x y words =
    concat (codes "<text x='" ∷ decimal x ∷ codes "' y='" ∷ decimal y ∷
    codes "' fill='#b00020' font-weight='bold'>fault<title>" ∷ words ∷ codes "</title></text>\n" ∷ [])

-- The fault's words below the verdict. They stand behind the axis's note, and behind that of the rows if there is one.
unfoldable pub fault_note : ℕ → List ℕ → List ℕ
fault_note x words =
    concat (codes "<text x='" ∷ decimal x ∷
    codes "' y='72' fill='#b00020' font-weight='bold' text-anchor='start'>" ∷ words ∷
    codes "</text>\n" ∷ [])

-- The left end of the fault's note. A picture that leaves rows out has the rows' note before it.
abbrev pub fault_x : ℕ → ℕ
fault_x rows = if nat_le rows 32 then 260 else 560

-- The line, the word and the note of a fault, whose row begins at this height.
abbrev pub fault_marks : View → ℕ → ℕ → List ℕ → List ℕ
fault_marks v x top words =
    guide_text v x top fault_stroke ++ fault_word x (top + 24) words
    ++ fault_note (fault_x (rows_of v)) words

-- The marks of a fault behind the last entry; nothing if there is no fault.
abbrev pub fault_svg : View → Bool → List ℕ → List ℕ
fault_svg v false words = []
fault_svg v true words =
    fault_marks v (entry_x v (length v.list)) (row_y v (row_of v (length v.list))) words

-- The picture in text: in each band 14 entries and a line for each hart, with the site where it is at each place; then the tree
-- of the sites.
use Rattle.std.specs.Prelude.{ℕ, zero, suc, ◌+◌, ◌-◌, ◌*◌, ◌/◌, ◌==◌, nat_le, Bool, if◌then◌else◌, ◌&&◌, List, [], ◌∷◌, ◌++◌, codes, length, take, drop, replicate, Option, Some, None}
use Rattle.std.specs.List.{concat, flat_map}
use Rattle.std.specs.Fmt.{decimal}
use Rattle.transfer_table.specs.Plan.{Plan, parent}
use Rattle.transfer_table.specs.Table.{row}
use Rattle.transfer_table.specs.Entry.{site_of}
use Rattle.transfer_table.specs.Journal.{first_fault_of}
use Rattle.transfer_table.specs.declared.entry.Row.{Row}
use Rattle.transfer_table.specs.declared.entry.Stage.{Stage}
use Rattle.transfer_table.specs.declared.entry.Stage.TheVariants.{New, Live, Gone}
use Rattle.transfer_table.specs.declared.entry.Entry.{Entry}
use Rattle.transfer_table.specs.declared.entry.Entry.TheVariants.{Register, Request, Enter, Yield, Unregister, Skip}
use Rattle.journal_picture.specs.declared.stay.Stay.{Stay}
use Rattle.journal_picture.specs.declared.shape.Shape.{Shape}
use Rattle.journal_picture.specs.declared.strip.Figures.{Figures}
use Rattle.journal_picture.specs.Kinds.{kind_text}
use Rattle.journal_picture.specs.Stays.{stays_of}
use Rattle.journal_picture.specs.declared.visits.Visits.{Visits}
use Rattle.journal_picture.specs.declared.travels.Travels.{Travels}
use Rattle.journal_picture.specs.declared.text.Line.{Line}
use Rattle.journal_picture.specs.declared.text.Line.TheVariants.{Deeds, Doers, Sites}
use Rattle.journal_picture.specs.Strip.{strip_of}
use Rattle.journal_picture.specs.Visits.{visits_at}
use Rattle.journal_picture.specs.Drawn.{drawn, has_fault}
use Rattle.journal_picture.specs.Faults.{fault_line_of}
use Rattle.journal_picture.specs.Views.{View, view}

-- ---- where a hart is at each place

-- How many places a stay has, in a list whose last place is this.
abbrev pub last_or : ℕ → Option ℕ → ℕ
last_or end None = end
last_or end (Some last) = last

-- A stay has so many places, the last one included.
abbrev pub places_of : ℕ → Stay → ℕ
places_of end stay = last_or end stay.last + 1 - stay.first

-- The site of each place.
abbrev pub sites_of : ℕ → List Stay → List ℕ
sites_of end stays = flat_map (λ stay. replicate (places_of end stay) stay.site) stays

-- Those of so many harts, from this one on.
abbrev pub lanes_of : Plan → List Entry → ℕ → ℕ → List (List ℕ)
lanes_of p es h zero = []
lanes_of p es h (suc n) = sites_of (length es) (stays_of p h es) ∷ lanes_of p es (h + 1) n

-- ---- the bands

-- A text of n blanks.
abbrev pub blanks : ℕ → List ℕ
blanks n = replicate n 32

-- The text at the right of six columns.
abbrev pub cell : List ℕ → List ℕ
cell text = blanks (6 - length text) ++ text

-- The name of a site: its number behind an `s`, or `base`.
abbrev pub site_name : ℕ → List ℕ
site_name s = if s == 0 then codes "base" else codes "s" ++ decimal s

-- The word of an entry's kind.
abbrev pub deed : Entry → List ℕ
deed (Register h s) = codes "reg"
deed (Request h s k) = codes "req"
deed (Enter h s) = codes "enter"
deed (Yield h s) = codes "yield"
deed (Unregister h s) = codes "unreg"
deed (Skip h s) = codes "skip"

-- The numbers of the entries, the first of which has this one.
abbrev pub numbers_text : ℕ → List Entry → List ℕ
numbers_text k [] = []
numbers_text k (e ∷ es) = cell (decimal k) ++ numbers_text (k + 1) es

-- A hart and how many harts it requests.
abbrev pub requesting : ℕ → ℕ → List ℕ
requesting h k = concat (codes "h" ∷ decimal h ∷ codes "+" ∷ decimal k ∷ [])

-- The hart of an entry, and how many harts the entry requests.
abbrev pub doer : Entry → List ℕ
doer (Register h s) = codes "h" ++ decimal h
doer (Request h s k) = requesting h k
doer (Enter h s) = codes "h" ++ decimal h
doer (Yield h s) = codes "h" ++ decimal h
doer (Unregister h s) = codes "h" ++ decimal h
doer (Skip h s) = codes "h" ++ decimal h

-- The word of an entry in a line: what the entry does, whose it is, or of which site.
abbrev pub word_of : Line → Entry → List ℕ
word_of Deeds e = deed e
word_of Doers e = doer e
word_of Sites e = site_name (site_of e)

-- The line of the entries' words, each in a cell.
abbrev pub entries_line : Line → List Entry → List ℕ
entries_line line es =
    codes "         " ++ flat_map (λ e. cell (word_of line e)) es ++ codes "\n"

-- The names of these sites, each in a cell.
abbrev pub sites_text : List ℕ → List ℕ
sites_text sites = flat_map (λ s. cell (site_name s)) sites

-- The text at the left of three columns.
abbrev pub name_cell : List ℕ → List ℕ
name_cell text = text ++ blanks (3 - length text)

-- The name of a hart, its number behind an `h`, at the left of three columns.
abbrev pub hart_name : ℕ → List ℕ
hart_name h = name_cell (codes "h" ++ decimal h)

-- The lines of harts, the first of which is this one: before the entry at a place, and behind it and the 13 that follow.
abbrev pub lanes_text : ℕ → ℕ → List (List ℕ) → List ℕ
lanes_text at h [] = []
lanes_text at h (lane ∷ more) =
    hart_name h ++ sites_text (take 15 (drop at lane)) ++ codes "\n" ++ lanes_text at (h + 1) more

-- The mark of a fault.
abbrev pub mark_text : Bool → List ℕ
mark_text marked = if marked then cell (codes "fault") else []

-- The line of the entries' numbers, with the mark of a fault or without.
abbrev pub numbers_line : Bool → ℕ → List Entry → List ℕ
numbers_line marked at shown =
    codes "    entry" ++ numbers_text at shown ++ mark_text marked ++ codes "\n"

-- The three lines of the entries: their words, their harts and their sites.
abbrev pub deed_lines : List Entry → List ℕ
deed_lines shown = entries_line Deeds shown ++ entries_line Doers shown ++ entries_line Sites shown

-- ---- the strip: how many wishes are unmet at each place, and how many harts idle, with a mark where a lender missed a wish

-- The number of idle harts at a place, behind a `!` if a lender missed a wish.
abbrev pub idle_words : Figures → List ℕ
idle_words f = if f.missed then codes "!" ++ decimal f.idle else decimal f.idle

-- The line of unmet wishes.
abbrev pub unmet_line : List Figures → List ℕ
unmet_line fs = codes "unm" ++ flat_map (λ (f : Figures). cell (decimal f.unmet)) fs ++ codes "\n"

-- The line of idle harts, which an empty line follows.
abbrev pub idle_line : List Figures → List ℕ
idle_line fs = codes "idl" ++ flat_map (λ (f : Figures). cell (idle_words f)) fs ++ codes "\n\n"

-- The two lines of the strip.
abbrev pub strip_lines : List Figures → List ℕ
strip_lines shown = unmet_line shown ++ idle_line shown

-- The band of the entry at a place and the 13 that follow.
abbrev pub band_text : Bool → List Entry → List (List ℕ) → List Figures → ℕ → List ℕ
band_text faulty es lanes strip at =
    numbers_line (faulty && nat_le (length es) (at + 14)) at (take 14 (drop at es))
    ++ deed_lines (take 14 (drop at es)) ++ lanes_text at 0 lanes
    ++ strip_lines (take 15 (drop at strip))

-- The texts of n bands, from this band on.
abbrev pub bands_text : Bool → List Entry → List (List ℕ) → List Figures → ℕ → ℕ → List ℕ
bands_text faulty es lanes strip band zero = []
bands_text faulty es lanes strip band (suc n) =
    band_text faulty es lanes strip (14 * band) ++ bands_text faulty es lanes strip (band + 1) n

-- The number of bands of a list. A list without entries has one band.
abbrev pub band_count : ℕ → ℕ
band_count entries = if entries == 0 then 1 else (entries + 13) / 14

-- ---- the tree of the sites

-- The number of steps from a site to the base, up to the limit n.
abbrev pub steps_up : Plan → ℕ → ℕ → ℕ
steps_up p zero s = 0
steps_up p (suc n) s = if s == 0 then 0 else 1 + steps_up p n (parent p s)

-- The depth of a site. The base is at depth 0.
abbrev pub depth_of : Plan → ℕ → ℕ
depth_of p s = steps_up p s s

-- The words about a site's home. A site without a home is skipped.
abbrev pub home_text : Option ℕ → List ℕ
home_text None = codes ", skipped"
home_text (Some h) = codes ", home h" ++ decimal h

-- The words about what became of a site.
abbrev pub fate_text : Stage → Option ℕ → List ℕ
fate_text New home = codes ", not entered"
fate_text Live home = home_text home ++ codes ", not ended"
fate_text Gone home = home_text home

-- The site's name, its kind and its source line, indented by the site's depth.
abbrev pub site_start : View → ℕ → Shape → List ℕ
site_start v s shape =
    blanks (2 * depth_of v.plan s) ++ (codes "s" ++ decimal s ++ codes " " ++ kind_text shape.kind
    ++ codes ", line " ++ decimal shape.line)

-- The numbers at the left of a line of the tree: the harts that the site requested, the wishes that a hart met and those that none met.
abbrev pub wish_cells : Row → List ℕ
wish_cells found =
    cell (decimal found.asked) ++ cell (decimal (found.asked - found.wishes))
    ++ cell (decimal found.wishes)

-- The most guests at once, and the entries that harts made inside.
abbrev pub visit_cells : Visits → List ℕ
visit_cells v = cell (decimal v.guests) ++ cell (decimal v.entries) ++ codes "  "

-- A line of the tree: the site's numbers, its name, its kind and its source line, and what became of it.
abbrev pub site_line : View → ℕ → Shape → List ℕ
site_line v s shape =
    wish_cells (row v.state s) ++ visit_cells (visits_at v.visits s) ++ site_start v s shape
    ++ fate_text (row v.state s).stage (row v.state s).home
    ++ codes "\n"

-- The lines of sites with these shapes, from a site on.
abbrev pub site_lines : View → ℕ → List Shape → List ℕ
site_lines v s [] = []
site_lines v s (shape ∷ more) = site_line v s shape ++ site_lines v (s + 1) more

-- The tree of the sites: the names of the numbers, the base, and a line for each site.
abbrev pub tree_text : View → List ℕ
tree_text v = codes "   req   met unmet guest  made  base\n" ++ site_lines v 1 v.shapes

-- ---- the table of harts

-- The numbers at the left of a hart: the entries that it made, its stays, and the sites that it visited.
abbrev pub travel_cells : Travels → List ℕ
travel_cells v =
    cell (decimal v.entries) ++ cell (decimal v.stays) ++ cell (decimal v.sites)

-- The line of a hart in the table of harts: its numbers and its name.
abbrev pub hart_line : ℕ → Travels → List ℕ
hart_line h v = travel_cells v ++ concat (codes "  h" ∷ decimal h ∷ codes "\n" ∷ [])

-- The lines of harts with these numbers, the first of which is this one.
abbrev pub hart_lines : ℕ → List Travels → List ℕ
hart_lines h [] = []
hart_lines h (v ∷ more) = hart_line h v ++ hart_lines (h + 1) more

-- The table of harts: the names of the numbers, and a line for each hart.
abbrev pub harts_text : List Travels → List ℕ
harts_text vs = codes "\n  made stays sites  hart\n" ++ hart_lines 0 vs

-- The legend, which explains the words of entries, of the strip and of the numbers of sites and harts.
abbrev pub legend_text : List ℕ
legend_text =
    codes "\nreg registers a site, req requests harts, unreg unregisters the site\nunm unmet wishes, idl idle harts, ! a child of the base has an unmet wish while a hart is idle\nof sites: req requested harts, met and unmet wishes, guest most guests at once, made entries inside\nof harts: made entries, stays with those in the base, sites visited, each once\n"

-- ---- the whole, with the verdict's line

-- The picture up to the last lines: the bands, the tree of the sites, the table of harts, and the legend.
abbrev pub shown_text : View → Bool → List ℕ
shown_text v faulty =
    bands_text faulty v.list (lanes_of v.plan v.list 0 v.plan.harts) (strip_of v.plan v.list) 0
    (band_count (length v.list))
    ++ tree_text v ++ harts_text v.travels ++ legend_text

-- The lines at the end of a picture: the line of the fault, if there is a fault, and the verdict.
abbrev pub ending_of : Plan → List Bool → List Entry → List ℕ → List ℕ
ending_of p meant es verdict = fault_line_of p es (first_fault_of p meant es) ++ verdict

-- What a picture shows, and these lines at its end.
abbrev pub text_of : View → Bool → List ℕ → List ℕ
text_of v faulty ending = shown_text v faulty ++ ending

-- The text picture of a list: what its entries before the first fault show, and the last lines.
abbrev pub text_picture : Plan → List Bool → List Shape → List Entry → List ℕ → List ℕ
text_picture p meant shapes es verdict =
    text_of (view p shapes (drawn p meant es)) (has_fault p meant es)
    (ending_of p meant es verdict)

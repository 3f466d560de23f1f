-- The tables below the legend: of sites, a line with numbers for each site that is listed, and of harts, a line for each.
use Rattle.std.specs.Prelude.{ℕ, zero, suc, ◌+◌, ◌-◌, ◌*◌, ◌==◌, nat_le, nat_lt, min, Bool, ◌||◌, if◌then◌else◌, List, [], ◌∷◌, ◌++◌, codes}
use Rattle.std.specs.List.{concat}
use Rattle.std.specs.Fmt.{decimal}
use Rattle.transfer_table.specs.Plan.{parent, site_count}
use Rattle.transfer_table.specs.Table.{row}
use Rattle.journal_picture.specs.declared.travels.Travels.{Travels}
use Rattle.journal_picture.specs.declared.visits.Visits.{Visits}
use Rattle.journal_picture.specs.SvgBars.{about_text, shape_of}
use Rattle.journal_picture.specs.TextPicture.{fate_text, site_name}
use Rattle.journal_picture.specs.Scale.{rows_bottom}
use Rattle.journal_picture.specs.Views.{View}
use Rattle.journal_picture.specs.Visits.{visits_at}

-- Whether a site is listed. If there are more than 40 sites, the first 20 and the last 20 are listed.
abbrev pub is_listed : ℕ → ℕ → Bool
is_listed sites s = nat_le s 20 || nat_lt sites (s + 20)

-- The position of a site that is listed, counted from 1.
abbrev pub slot_at : ℕ → ℕ → ℕ
slot_at sites s = if nat_le s 20 then s else min 40 (s - (sites - 40))

-- The height of the table of sites: a line of 18 units for each site that is listed, and two more lines. Without sites, 0.
abbrev pub table_height : ℕ → ℕ
table_height sites = if sites == 0 then 0 else 18 * (min 40 sites + 2)

-- The heading of the last column, with a note if the table leaves out sites.
abbrev pub sites_note : ℕ → List ℕ
sites_note sites =
    if nat_le sites 40 then codes "site"
    else concat (codes "site: of " ∷ decimal sites ∷ codes " the first 20 and the last 20" ∷ [])

-- The headings of the table of sites as SVG.
unfoldable pub table_head : ℕ → List ℕ → List ℕ
table_head y note =
    concat (codes "<text y='" ∷ decimal y ∷
    codes "' font-weight='bold'><tspan x='86'>requested</tspan><tspan x='146'>met</tspan><tspan x='196'>unmet</tspan><tspan x='266'>most guests</tspan><tspan x='366'>entries inside</tspan><tspan x='426' text-anchor='start'>" ∷
    note ∷ codes "</tspan></text>\n" ∷ [])

-- The start of a site's line as SVG, at this height: its requested harts, its met wishes and its unmet wishes.
unfoldable pub wishes_part : ℕ → ℕ → ℕ → List ℕ
wishes_part y requested unmet =
    concat (codes "<text y='" ∷ decimal y ∷ codes "'><tspan x='86'>" ∷ decimal requested ∷
    codes "</tspan><tspan x='146'>" ∷ decimal (requested - unmet) ∷ codes "</tspan><tspan x='196'>" ∷
    decimal unmet ∷ codes "</tspan>" ∷ [])

-- The rest of a site's line as SVG: its most guests, the entries made inside it, and its words.
unfoldable pub visits_part : Visits → List ℕ → List ℕ
visits_part visits words =
    concat (codes "<tspan x='266'>" ∷ decimal visits.guests ∷ codes "</tspan><tspan x='366'>" ∷
    decimal visits.entries ∷ codes "</tspan><tspan x='426' text-anchor='start'>" ∷ words ∷
    codes "</tspan></text>\n" ∷ [])

-- The words about the site around; nothing for a site inside the base.
abbrev pub inside_text : ℕ → List ℕ
inside_text around = if around == 0 then [] else codes ", in s" ++ decimal around

-- The words of a site's line: its name, its shape, the site around, and what became of it.
abbrev pub site_words : View → ℕ → List ℕ
site_words v s =
    site_name s ++ about_text (shape_of v.shapes s) 0 ++ inside_text (parent v.plan s)
    ++ fate_text (row v.state s).stage (row v.state s).home

-- The height of the first line of the table of sites.
abbrev pub table_top : View → ℕ
table_top v = rows_bottom v + 90

-- The line of a site; nothing if the site isn't listed.
abbrev pub listed_row : View → ℕ → List ℕ
listed_row v s =
    if is_listed (site_count v.plan) s
    then wishes_part (table_top v + 18 * slot_at (site_count v.plan) s) (row v.state s).asked
    (row v.state s).wishes
    ++ visits_part (visits_at v.visits s) (site_words v s)
    else []

-- The lines of n sites, from site s on.
abbrev pub rows_from : View → ℕ → ℕ → List ℕ
rows_from v s zero = []
rows_from v s (suc n) = listed_row v s ++ rows_from v (s + 1) n

-- The table of a plan's sites; nothing for a plan without sites.
abbrev pub table_svg : View → List ℕ
table_svg v =
    if site_count v.plan == 0 then []
    else table_head (table_top v) (sites_note (site_count v.plan)) ++ rows_from v 1 (site_count v.plan)

-- ---- the table of harts

-- The headings of the table of harts as SVG.
unfoldable pub harts_head : ℕ → List ℕ
harts_head y =
    concat (codes "<text y='" ∷ decimal y ∷
    codes "' font-weight='bold'><tspan x='86'>entries made</tspan><tspan x='166'>stays</tspan><tspan x='246'>sites visited</tspan><tspan x='306' text-anchor='start'>hart</tspan></text>\n" ∷ [])

-- A hart's line in the table as SVG, at this height.
unfoldable pub hart_row : ℕ → Travels → ℕ → List ℕ
hart_row y travels h =
    concat (codes "<text y='" ∷ decimal y ∷ codes "'><tspan x='86'>" ∷ decimal travels.entries ∷
    codes "</tspan><tspan x='166'>" ∷ decimal travels.stays ∷ codes "</tspan><tspan x='246'>" ∷
    decimal travels.sites ∷ codes "</tspan><tspan x='306' text-anchor='start'>h" ∷ decimal h ∷
    codes "</tspan></text>\n" ∷ [])

-- The lines of harts with these numbers, the first of which is this one.
abbrev pub hart_rows : ℕ → ℕ → List Travels → List ℕ
hart_rows top h [] = []
hart_rows top h (v ∷ more) = hart_row (top + 18 * (h + 1)) v h ++ hart_rows top (h + 1) more

-- The table of harts, whose first line is at this height.
abbrev pub harts_table : ℕ → List Travels → List ℕ
harts_table top vs = harts_head top ++ hart_rows top 0 vs

-- The height of the table of so many harts.
abbrev pub harts_height : ℕ → ℕ
harts_height harts = 18 * (harts + 2)

-- Both tables.
abbrev pub tables_svg : View → List ℕ
tables_svg v = table_svg v ++ harts_table (table_top v + table_height (site_count v.plan)) v.travels

-- The height of both tables of a plan.
abbrev pub tables_height : View → ℕ
tables_height v = table_height (site_count v.plan) + harts_height v.plan.harts

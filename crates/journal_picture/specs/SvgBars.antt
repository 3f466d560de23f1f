-- The bars of the picture: for each stay of a hart a bar in each row in which the stay has places.
use Rattle.std.specs.Prelude.{ℕ, zero, suc, ◌+◌, ◌-◌, ◌*◌, ◌/◌, ◌==◌, nat_le, min, max, Bool, if◌then◌else◌, List, [], ◌∷◌, ◌++◌, codes, length, slice_get, Option, Some, None}
use Rattle.std.specs.List.{concat, flat_map}
use Rattle.std.specs.Fmt.{decimal}
use Rattle.journal_picture.specs.declared.stay.Stay.{Stay}
use Rattle.journal_picture.specs.declared.shape.Shape.{Shape}
use Rattle.journal_picture.specs.Kinds.{kind_text}
use Rattle.journal_picture.specs.Stays.{stays_of}
use Rattle.journal_picture.specs.Scale.{step_of, per_row, row_of, is_shown, place_x, row_y, level_of, bar_y}
use Rattle.journal_picture.specs.TextPicture.{last_or, site_name}
use Rattle.journal_picture.specs.Views.{View}

-- The shape of the site; the base has no shape.
abbrev pub shape_of : List Shape → ℕ → Option Shape
shape_of shapes s = if s == 0 then None else slice_get shapes (s - 1)

-- ---- colours by depth; the outline is dashed if the site has phases

-- The fill colour of a site at this level.
abbrev pub depth_fill : ℕ → List ℕ
depth_fill level =
    if level == 1 then codes "#cfe3f8" else if level == 2 then codes "#9fc8f0" else codes "#6fabe4"

-- The outline of a site's bar; it is dashed if the site has phases.
abbrev pub outline : Bool → List ℕ
outline phased =
    if phased then codes "' stroke-dasharray='4 2' stroke='#2c5d8f" else codes "' stroke='#2c5d8f"

-- The fill and the outline of a site's bar.
abbrev pub site_fill : Bool → ℕ → List ℕ
site_fill phased level = depth_fill level ++ outline phased

-- The fill and the outline of a bar in the base. Hart 0 runs the program's body there; any other hart is idle.
abbrev pub base_fill : ℕ → List ℕ
base_fill h = if h == 0 then codes "#e9f3e4' stroke='#4f7a3a" else codes "#e3e6e9' stroke='#9aa4ad"

-- The fill and the outline of a bar: the site's if it has a shape, else the base's.
abbrev pub fill_text : Option Shape → ℕ → ℕ → List ℕ
fill_text None h level = base_fill h
fill_text (Some shape) h level = site_fill shape.phased level

-- ---- the title of a bar: the hart, the site with its kind and line, and from which entry to which the hart is there

-- The words of a bar's title about the site's shape: its kind and its source line. For the base, what the hart does there.
abbrev pub about_text : Option Shape → ℕ → List ℕ
about_text None h = if h == 0 then codes ", the program's body" else codes ", idle"
about_text (Some shape) h =
    concat (codes ", " ∷ kind_text shape.kind ∷ codes ", line " ∷ decimal shape.line ∷ [])

-- The first entry of a stay, in words.
abbrev pub since_text : ℕ → List ℕ
since_text first =
    if first == 0 then codes ", from the start" else codes ", from entry " ++ decimal (first - 1)

-- The last entry of a stay, in words; a stay without one lasts to the end.
abbrev pub until_text : Option ℕ → List ℕ
until_text None = codes " to the end"
until_text (Some last) = codes " to entry " ++ decimal last

-- The title of a stay's bar.
abbrev pub stay_title : List Shape → Stay → List ℕ
stay_title shapes stay =
    concat (codes "h" ∷ decimal stay.hart ∷ codes " in " ∷ site_name stay.site ∷
    about_text (shape_of shapes stay.site) stay.hart ∷ since_text stay.first ∷
    until_text stay.last ∷ [])

-- ---- a bar

-- A rectangle as SVG, 14 units high, with a title.
unfoldable pub rect_text : ℕ → ℕ → ℕ → List ℕ → List ℕ → List ℕ
rect_text x y width fill title =
    concat (codes "<rect x='" ∷ decimal x ∷ codes "' y='" ∷ decimal y ∷ codes "' width='" ∷
    decimal width ∷ codes "' height='14' fill='" ∷ fill ∷ codes "'><title>" ∷ title ∷
    codes "</title></rect>\n" ∷ [])

-- Words as SVG, at this position.
unfoldable pub mark_svg : ℕ → ℕ → List ℕ → List ℕ
mark_svg x y words =
    concat (codes "<text x='" ∷ decimal x ∷ codes "' y='" ∷ decimal y ∷ codes "'>" ∷ words ∷
    codes "</text>\n" ∷ [])

-- The kind in a bar's label, behind so many letters; nothing for the base, nor if the bar has no room for the kind.
abbrev pub kind_label : Option Shape → ℕ → ℕ → List ℕ
kind_label None letters width = []
kind_label (Some shape) letters width =
    if nat_le (width / 7 - (length (kind_text shape.kind) + 1)) letters then []
    else codes " " ++ kind_text shape.kind

-- The label of a bar as SVG; nothing if the bar is too narrow for the site's name.
abbrev pub label_text : ℕ → ℕ → ℕ → List ℕ → Option Shape → List ℕ
label_text x y width name shape =
    if nat_le (width / 7) (length name) then []
    else mark_svg (x + width / 2) (y + 11) (name ++ kind_label shape (length name) width)

-- The bar of a stay at this position: its rectangle and its label.
abbrev pub placed_bar : View → ℕ → ℕ → ℕ → Stay → List ℕ
placed_bar v x y width stay =
    rect_text x y width
    (fill_text (shape_of v.shapes stay.site) stay.hart (level_of v stay.site))
    (stay_title v.shapes stay)
    ++ label_text x y width (site_name stay.site) (shape_of v.shapes stay.site)

-- ---- the parts of a stay

-- The first place of a stay in this row.
abbrev pub first_in : View → Stay → ℕ → ℕ
first_in v stay row = max stay.first (per_row v * row)

-- The last place of a stay in this row.
abbrev pub last_in : View → Stay → ℕ → ℕ
last_in v stay row = min (last_or (length v.list) stay.last) (per_row v * row + (per_row v - 1))

-- The bar of a stay in this row; nothing if the row isn't shown.
abbrev pub part_text : View → Stay → ℕ → List ℕ
part_text v stay row =
    if is_shown v row
    then placed_bar v (place_x v (first_in v stay row))
    (bar_y (row_y v row) stay.hart (level_of v stay.site))
    (step_of v * (last_in v stay row + 1 - first_in v stay row)) stay
    else []

-- The bars of a stay in n rows, from this row on.
abbrev pub parts_text : View → Stay → ℕ → ℕ → List ℕ
parts_text v stay row zero = []
parts_text v stay row (suc n) = part_text v stay row ++ parts_text v stay (row + 1) n

-- The number of rows in which a stay has places.
abbrev pub row_count : View → Stay → ℕ
row_count v stay = row_of v (last_or (length v.list) stay.last) + 1 - row_of v stay.first

-- The bars of one stay, one in each of its rows that is shown.
abbrev pub bar_text : View → Stay → List ℕ
bar_text v stay = parts_text v stay (row_of v stay.first) (row_count v stay)

-- The bars of all these stays.
abbrev pub bars_text : View → List Stay → List ℕ
bars_text v stays = flat_map (λ stay. bar_text v stay) stays

-- The bars of n harts, from hart h on.
abbrev pub lanes_svg : View → ℕ → ℕ → List ℕ
lanes_svg v h zero = []
lanes_svg v h (suc n) = bars_text v (stays_of v.plan h v.list) ++ lanes_svg v (h + 1) n

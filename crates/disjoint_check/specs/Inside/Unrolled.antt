-- The sites of a program one after another, each with its parent and its shape: what unrolling adds to a list.
-- Only the private contracts and the proofs of this crate need these.
use Rattle.std.specs.Prelude.{ℕ, zero, suc, min, List, [], ◌∷◌, ◌++◌, length, map, unsigned_abs}
use Rattle.array_tree.specs.Trees.{Statement, Assign, For, If, Par, Team, Sequence, ended, followed, Sequences, no_more, beside}
use Rattle.array_meaning.specs.Work.{span}
use Rattle.array_meaning.specs.Limits.{count_of}
use Rattle.disjoint_check.specs.Shapes.{Shape}
use Rattle.disjoint_check.specs.declared.unroll.Site.{Site}

-- The unrolled sites, a row for each.
abbrev pub Rows : Type 0
Rows = List Site

-- The parents of the rows, in their order.
abbrev pub parents_in : Rows → List ℕ
parents_in rows = map (λ r. r.parent) rows

-- The shape of a row is its members and its phases.
abbrev pub shape : Site → Shape
shape site = (site.members, site.phases)

-- The shapes of the rows, in their order.
abbrev pub shapes_in : Rows → List Shape
shapes_in rows = map shape rows

-- The number of the last site, at most the greatest of 16 bits.
abbrev pub last_site : Rows → ℕ
last_site rows = min (length rows) 65535

-- A number of parts, at most the greatest of 8 bits.
abbrev pub parts : ℕ → ℕ
parts n = min n 255

-- The row of a site: its parent, its members and its phases.
abbrev pub row : ℕ → ℕ → ℕ → Site
row parent members phases = record { parent = parent; members = members; phases = phases }

-- The rows with the same added so many times.
abbrev pub repeat : ℕ → (Rows → Rows) → Rows → Rows
repeat zero more rows = rows
repeat (suc n) more rows = repeat n more (more rows)

-- The list with the sites of a part of a program, given the construct around it.
abbrev mutual
  pub with_statement : Statement → ℕ → Rows → Rows
  with_statement (Assign line array index value) around rows = rows
  with_statement (For line var low high body) around rows =
      repeat (span low high) (with_sequence body around) rows
  with_statement (If line cond then_block else_block) around rows =
      with_sequence else_block around (with_sequence then_block around rows)
  with_statement (Par line branches) around rows =
      let more = rows ++ row around (parts (count_of branches)) 0
      ∷ [] in with_branches branches (last_site more) more
  with_statement (Team line var low high members phases) around rows =
      let more = rows ++ row around (parts (unsigned_abs members)) (parts (count_of phases)) ∷ [] in
      with_phases phases (span low high) (last_site more) more

  pub with_sequence : Sequence → ℕ → Rows → Rows
  with_sequence ended around rows = rows
  with_sequence (followed first rest) around rows =
      with_sequence rest around (with_statement first around rows)

  pub with_branches : Sequences → ℕ → Rows → Rows
  with_branches no_more around rows = rows
  with_branches (beside first rest) around rows =
      with_branches rest around (with_sequence first around rows)

  pub with_phases : Sequences → ℕ → ℕ → Rows → Rows
  with_phases no_more iterations around rows = rows
  with_phases (beside first rest) iterations around rows =
      with_phases rest iterations around (repeat iterations (with_sequence first around) rows)

-- The first name that is taken twice, and the first statement with an unknown name: their lines, in the order of the
-- text.
use Rattle.std.specs.Prelude.{ℕ, ◌&&◌, not, List, [], ◌∷◌, Option, None}
use Rattle.array_tree.specs.Trees.{Statement, Assign, For, If, Par, Team, Sequence, ended, followed, Sequences, no_more, beside, Declaration, ProgramTree}
use Rattle.array_meaning.specs.Names.{is_among, names_of, uses_known_names}
use Rattle.disjoint_check.specs.Faults.{unless, first_fault}

-- The first declaration with one of the names before it.
abbrev pub duplicate_declaration : List Declaration → List (List ℕ) → Option ℕ
duplicate_declaration [] before = None
duplicate_declaration (d ∷ more) before =
    first_fault (unless (not (is_among d.name before)) d.line
    ∷ duplicate_declaration more (d.name ∷ before) ∷ [])

-- The first loop whose variable has a taken name: the name of an array or of a loop around it.
abbrev mutual
  pub duplicate_in : Sequence → List (List ℕ) → Option ℕ
  duplicate_in ended taken = None
  duplicate_in (followed first rest) taken =
      first_fault (statement_duplicate first taken ∷ duplicate_in rest taken ∷ [])

  pub statement_duplicate : Statement → List (List ℕ) → Option ℕ
  statement_duplicate (Assign line array index value) taken = None
  statement_duplicate (For line var low high body) taken =
      first_fault (unless (not (is_among var taken)) line ∷ duplicate_in body (var ∷ taken) ∷ [])
  statement_duplicate (If line cond then_block else_block) taken =
      first_fault (duplicate_in then_block taken ∷ duplicate_in else_block taken ∷ [])
  statement_duplicate (Par line branches) taken = duplicate_among branches taken
  statement_duplicate (Team line var low high members phases) taken =
      first_fault (unless (not (is_among var taken)) line
      ∷ duplicate_among phases (var ∷ taken) ∷ [])

  pub duplicate_among : Sequences → List (List ℕ) → Option ℕ
  duplicate_among no_more taken = None
  duplicate_among (beside first rest) taken =
      first_fault (duplicate_in first taken ∷ duplicate_among rest taken ∷ [])

-- The line of the first declaration or loop whose name is already the name of an array, or of a loop around it.
abbrev pub duplicate_name : ProgramTree → Option ℕ
duplicate_name program =
    first_fault (duplicate_declaration program.arrays []
    ∷ duplicate_in program.body (names_of program.arrays) ∷ [])

-- The line of the first statement with an unknown name, outside the blocks in it: it indexes a name that is no array's, or uses
-- a name without index that is no variable's of a loop around.
abbrev mutual
  pub unknown_in : Sequence → List (List ℕ) → List (List ℕ) → Option ℕ
  unknown_in ended arrays vars = None
  unknown_in (followed first rest) arrays vars =
      first_fault (statement_unknown first arrays vars ∷ unknown_in rest arrays vars ∷ [])

  pub statement_unknown : Statement → List (List ℕ) → List (List ℕ) → Option ℕ
  statement_unknown (Assign line array index value) arrays vars =
      unless (is_among array arrays
      && (uses_known_names index arrays vars && uses_known_names value arrays vars)) line
  statement_unknown (For line var low high body) arrays vars = unknown_in body arrays (var ∷ vars)
  statement_unknown (If line cond then_block else_block) arrays vars =
      first_fault
      (unless (uses_known_names cond arrays vars) line ∷ unknown_in then_block arrays vars
      ∷ unknown_in else_block arrays vars ∷ [])
  statement_unknown (Par line branches) arrays vars = unknown_among branches arrays vars
  statement_unknown (Team line var low high members phases) arrays vars =
      unknown_among phases arrays (var ∷ vars)

  pub unknown_among : Sequences → List (List ℕ) → List (List ℕ) → Option ℕ
  unknown_among no_more arrays vars = None
  unknown_among (beside first rest) arrays vars =
      first_fault (unknown_in first arrays vars ∷ unknown_among rest arrays vars ∷ [])

-- The line of the first unknown name of a program.
abbrev pub unknown_name : ProgramTree → Option ℕ
unknown_name program = unknown_in program.body (names_of program.arrays) []

-- Names: used once, and known where they are used.
use Rattle.std.specs.Prelude.{ℕ, Bool, true, false, not, ◌&&◌, ◌||◌, List, [], ◌∷◌, map}
use Rattle.array_tree.specs.Trees.{Expression, Number, Var, Read, Neg, Binary, Statement, Assign, For, If, Par, Team, Sequence, ended, followed, Sequences, no_more, beside, Declaration, ProgramTree}
use Rattle.array_tree.specs.Equal.{name_eq}
use Rattle.array_meaning.specs.Touch.{Visit}

-- The test decides whether the name is one of these.
abbrev pub is_among : List ℕ → List (List ℕ) → Bool
is_among name [] = false
is_among name (other ∷ more) = name_eq other name || is_among name more

-- The test decides whether no declaration's name is one of those before.
abbrev pub are_declared_once : List Declaration → List (List ℕ) → Bool
are_declared_once [] before = true
are_declared_once (d ∷ more) before =
    not (is_among d.name before) && are_declared_once more (d.name ∷ before)

-- Whether no loop's variable has a taken name: the name of an array or of a loop around it.
abbrev mutual
  pub has_new_variables : Sequence → List (List ℕ) → Bool
  has_new_variables ended taken = true
  has_new_variables (followed first rest) taken =
      statement_has_new_variables first taken && has_new_variables rest taken

  pub statement_has_new_variables : Statement → List (List ℕ) → Bool
  statement_has_new_variables (Assign line array index value) taken = true
  statement_has_new_variables (For line var low high body) taken =
      not (is_among var taken) && has_new_variables body (var ∷ taken)
  statement_has_new_variables (If line cond then_block else_block) taken =
      has_new_variables then_block taken && has_new_variables else_block taken
  statement_has_new_variables (Par line branches) taken = have_new_variables branches taken
  statement_has_new_variables (Team line var low high members phases) taken =
      not (is_among var taken) && have_new_variables phases (var ∷ taken)

  pub have_new_variables : Sequences → List (List ℕ) → Bool
  have_new_variables no_more taken = true
  have_new_variables (beside first rest) taken =
      has_new_variables first taken && have_new_variables rest taken

-- The names of the declarations, in their order.
abbrev pub names_of : List Declaration → List (List ℕ)
names_of declarations = map (λ d. d.name) declarations

-- The test decides whether no name is used twice.
abbrev pub has_single_names : ProgramTree → Bool
has_single_names program =
    are_declared_once program.arrays [] && has_new_variables program.body (names_of program.arrays)

-- The test decides whether an expression indexes arrays only, and uses without index only variables of loops around.
abbrev pub uses_known_names : Expression → List (List ℕ) → List (List ℕ) → Bool
uses_known_names (Number n) arrays vars = true
uses_known_names (Var name) arrays vars = is_among name vars
uses_known_names (Read array index) arrays vars =
    is_among array arrays && uses_known_names index arrays vars
uses_known_names (Neg e) arrays vars = uses_known_names e arrays vars
uses_known_names (Binary op a b) arrays vars =
    uses_known_names a arrays vars && uses_known_names b arrays vars

-- Whether each statement does that.
abbrev mutual
  pub has_known_names : Sequence → List (List ℕ) → List (List ℕ) → Bool
  has_known_names ended arrays vars = true
  has_known_names (followed first rest) arrays vars =
      statement_has_known_names first arrays vars && has_known_names rest arrays vars

  pub statement_has_known_names : Statement → List (List ℕ) → List (List ℕ) → Bool
  statement_has_known_names (Assign line array index value) arrays vars =
      is_among array arrays &&
      (uses_known_names index arrays vars && uses_known_names value arrays vars)
  statement_has_known_names (For line var low high body) arrays vars =
      has_known_names body arrays (var ∷ vars)
  statement_has_known_names (If line cond then_block else_block) arrays vars =
      uses_known_names cond arrays vars
      && (has_known_names then_block arrays vars && has_known_names else_block arrays vars)
  statement_has_known_names (Par line branches) arrays vars = have_known_names branches arrays vars
  statement_has_known_names (Team line var low high members phases) arrays vars =
      have_known_names phases arrays (var ∷ vars)

  pub have_known_names : Sequences → List (List ℕ) → List (List ℕ) → Bool
  have_known_names no_more arrays vars = true
  have_known_names (beside first rest) arrays vars =
      has_known_names first arrays vars && have_known_names rest arrays vars

-- The test decides whether no name is unknown.
abbrev pub has_only_known_names : ProgramTree → Bool
has_only_known_names program = has_known_names program.body (names_of program.arrays) []

-- The test decides whether each visit of a walk is to an array of these names.
abbrev pub are_known : List (List ℕ) → List Visit → Bool
are_known arrays [] = true
are_known arrays (v ∷ more) = is_among v.array arrays && are_known arrays more

-- There is no first fault of names iff the names are right.
use Rattle.std.proofs.Common.{◌≡◌, ℕ, not, ◌&&◌, List, [], ◌∷◌, refl}
use Rattle.array_tree.specs.Trees.{Statement, Assign, For, If, Par, Team, Sequence, ended, followed, Sequences, no_more, beside, Declaration, ProgramTree}
use Rattle.array_meaning.specs.Names.{is_among, names_of, uses_known_names, are_declared_once, has_new_variables, statement_has_new_variables, have_new_variables, has_single_names, has_known_names, statement_has_known_names, have_known_names, has_only_known_names}
use Rattle.disjoint_check.specs.FirstNames.{duplicate_declaration, duplicate_in, statement_duplicate, duplicate_among, duplicate_name, unknown_in, statement_unknown, unknown_among, unknown_name}
use Rattle.disjoint_check.proofs.Firsts.{is_none, none_unless, both, three}

declared_once : (ds : List Declaration) (before : List (List ℕ)) → is_none (duplicate_declaration ds before) ≡ are_declared_once ds before
declared_once [] before = refl
declared_once (d ∷ ds) before = both _ _ _ _ (none_unless (not (is_among d.name before)) d.line) (declared_once ds (d.name ∷ before))

mutual
  new_variables : (p : Sequence) (taken : List (List ℕ)) → is_none (duplicate_in p taken) ≡ has_new_variables p taken
  new_variables ended taken = refl
  new_variables (followed s p) taken = both _ _ _ _ (statement_new_variables s taken) (new_variables p taken)

  statement_new_variables : (s : Statement) (taken : List (List ℕ)) → is_none (statement_duplicate s taken) ≡ statement_has_new_variables s taken
  statement_new_variables (Assign line array index value) taken = refl
  statement_new_variables (For line var low high body) taken =
      both _ _ _ _ (none_unless (not (is_among var taken)) line) (new_variables body (var ∷ taken))
  statement_new_variables (If line cond then_block else_block) taken = both _ _ _ _ (new_variables then_block taken) (new_variables else_block taken)
  statement_new_variables (Par line branches) taken = new_variables_among branches taken
  statement_new_variables (Team line var low high members phases) taken =
      both _ _ _ _ (none_unless (not (is_among var taken)) line) (new_variables_among phases (var ∷ taken))

  new_variables_among : (bs : Sequences) (taken : List (List ℕ)) → is_none (duplicate_among bs taken) ≡ have_new_variables bs taken
  new_variables_among no_more taken = refl
  new_variables_among (beside p bs) taken = both _ _ _ _ (new_variables p taken) (new_variables_among bs taken)

pub single_names : (program : ProgramTree) → is_none (duplicate_name program) ≡ has_single_names program
single_names program = both _ _ _ _ (declared_once program.arrays []) (new_variables program.body (names_of program.arrays))

mutual
  known_names : (p : Sequence) (arrays vars : List (List ℕ)) → is_none (unknown_in p arrays vars) ≡ has_known_names p arrays vars
  known_names ended arrays vars = refl
  known_names (followed s p) arrays vars = both _ _ _ _ (statement_known_names s arrays vars) (known_names p arrays vars)

  statement_known_names : (s : Statement) (arrays vars : List (List ℕ)) → is_none (statement_unknown s arrays vars) ≡ statement_has_known_names s arrays vars
  statement_known_names (Assign line array index value) arrays vars =
      none_unless (is_among array arrays && (uses_known_names index arrays vars && uses_known_names value arrays vars)) line
  statement_known_names (For line var low high body) arrays vars = known_names body arrays (var ∷ vars)
  statement_known_names (If line cond then_block else_block) arrays vars =
      three _ _ _ _ _ _ (none_unless (uses_known_names cond arrays vars) line) (known_names then_block arrays vars) (known_names else_block arrays vars)
  statement_known_names (Par line branches) arrays vars = known_names_among branches arrays vars
  statement_known_names (Team line var low high members phases) arrays vars = known_names_among phases arrays (var ∷ vars)

  known_names_among : (bs : Sequences) (arrays vars : List (List ℕ)) → is_none (unknown_among bs arrays vars) ≡ have_known_names bs arrays vars
  known_names_among no_more arrays vars = refl
  known_names_among (beside p bs) arrays vars = both _ _ _ _ (known_names p arrays vars) (known_names_among bs arrays vars)

pub only_known_names : (program : ProgramTree) → is_none (unknown_name program) ≡ has_only_known_names program
only_known_names program = known_names program.body (names_of program.arrays) []

-- The body of a program, as a job.
use Rattle.std.specs.Prelude.{◌≡◌, []}
use Rattle.array_tree.specs.Trees.{ProgramTree}
use Rattle.array_meaning.specs.Stores.{arrays_of, after}
use Rattle.array_meaning.specs.Work.{first_store, final_store}
use Rattle.array_jobs.specs.Works.{branch_of}
use Rattle.array_jobs.specs.Jobs.{JobTree}
use Rattle.array_jobs.specs.PieceParts.{piece_of_job}

-- The whole body is the one piece of site 0, the base. It starts from zeros, and the first site inside it is 1.
abbrev pub body_of : ProgramTree → JobTree
body_of program = record {
  arrays = program.arrays;
  site = 0;
  phase = 0;
  place = 0;
  first = 1;
  work = branch_of program.body;
  vars = [];
  store = first_store (arrays_of program.arrays);
}

-- The writes of a program's body, laid over zeros, are the store with which the program ends.
abbrev pub BodiesGiveFinalStores : Type 0
BodiesGiveFinalStores = (program : ProgramTree) →
    after (piece_of_job (body_of program)) (first_store (arrays_of program.arrays))
    ≡ final_store program

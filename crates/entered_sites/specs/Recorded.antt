-- A run of a program that records for each site whether it is entered.
use Rattle.std.specs.Prelude.{Bool, List, ◌++◌}
use Rattle.array_meaning.specs.Stores.{Arrays}
use Rattle.array_meaning.specs.Entered.{Part}
use Rattle.array_eval.specs.Traces.{Trace, traced}

-- The store so far, and for each site so far whether it was entered.
pub record Recorded : Type 0 where
  pub trace : Trace
  pub sites : List Bool

-- The record with these sites, without a run.
abbrev pub recording : List Bool → Recorded → Recorded
recording sites t = record { trace = t.trace; sites = t.sites ++ sites }

-- The record after a part has run, with the sites that it enters.
abbrev pub recorded : Arrays → Part → Recorded → Recorded
recorded arrays part t = record {
  trace = traced arrays part.0 t.trace;
  sites = t.sites ++ part.1 t.trace.cells;
}

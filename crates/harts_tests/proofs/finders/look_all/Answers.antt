-- A finder may move to another thread.
use denote.Param.Send.{IsSend, sendable}
use denote.Param.SendFields.{declared_send}
use denote.Ref.{NamedLft}
use Rattle.shared_sites.proofs.Crossings.{view_send}
use Rattle.harts_tests.specs.contracts.finders.Finder as Finder
use Rattle.harts_tests.proofs.finders.look_all.Goals as goal

finder_send : (x p : NamedLft) → IsSend (Finder.the_row x p)
finder_send x p = let view = view_send x p in declared_send (Finder.the_type x p) (search sendable depth 20, (search sendable depth 20, tt))

pub for_each_mut-requires-send-T : goal.for_each_mut-requires-send-T
for_each_mut-requires-send-T g c κs within = search (finder_send, sendable) depth 20

-- A hart may move to another thread if its port may. A search through all parts at once exceeds the prover's step limit, so
-- each part is proved separately.
use denote.RattleType.{RattleType}
use denote.Param.Send.{IsSend, IsSync, sendable}
use denote.Param.SendFields.{declared_send}
use denote.Ref.{NamedLft}
use Rattle.std.proofs.Crossing.{crosses}
use Rattle.array_jobs.specs.contracts.piece.Piece as Piece
use Rattle.base_sched.specs.contracts.shared.SharedBase as SharedBase
use Rattle.base_sched.proofs.shared.SharedBase.TheSendSync as BaseCrosses
use Rattle.shared_sites.specs.contracts.shared_site.SharedSite as SharedSite
use Rattle.loop_team.proofs.Crossings.{job_send}
use Rattle.shared_sites.proofs.Crossings.{view_send}
use Rattle.shared_sites.proofs.hart_local.HartLocal.TheSendSync as HartLocalCrosses
use Rattle.hart_loop.specs.contracts.harts.HartSites as HartSites
use Rattle.hart_loop.specs.contracts.hart.Hart as Hart

base_sync : IsSync SharedBase.the_row
base_sync = BaseCrosses.the_sync

piece_send : (p : NamedLft) → IsSend (Piece.the_row p)
piece_send p = let job = job_send p in search (crosses, sendable) depth 60 fits 20000

sites_send : (a p s : NamedLft) → IsSend (HartSites.the_row a p (SharedSite.the_row s))
sites_send a p s = let view = view_send a s in let hart_local = HartLocalCrosses.the_send a in search (crosses, sendable) depth 20

-- Each type of a hart has lifetimes of its own.
pub hart_send : (a p s : NamedLft) (P : RattleType) → IsSend P → IsSend (Hart.the_row a p P (SharedSite.the_row s))
hart_send a p s P port =
    let sites = sites_send a p s in let base = base_sync in let job = job_send p in let piece = piece_send p in
    declared_send (Hart.the_type a p P (SharedSite.the_row s))
    (search sendable depth 20, (search sendable depth 20, (search (crosses, sendable) depth 20, (search sendable depth 20, (search sendable depth 20, tt)))))

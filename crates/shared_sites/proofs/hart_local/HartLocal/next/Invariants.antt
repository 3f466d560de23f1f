use Rattle.std.proofs.Common.{◌≡◌}
use Rattle.shared_sites.specs.Keeping.{StayOrGo}
use Rattle.shared_sites.proofs.hart_local.HartLocal.next.Given as goal

abbrev pub invariant-looks : goal.invariant-looks
invariant-looks g l = record {
  next : (goal.iterator-looks g).can_next l.iterator';
  finite : (goal.iterator-looks g).is_finite l.iterator';
  hart_local : l.self ≡ l.fn.self;
  kept : StayOrGo l.fn.scheduler_ref l.fn.kept l.kept;
}

-- A hart that returned is the same hart.
use Rattle.std.proofs.Common.{◌∙◌, ap}
use Rattle.hart_port.specs.PortView.{PortView}
use Rattle.site_steps.specs.Back.{IsBack, HasLooked}
use Rattle.hart_loop.specs.Harts.{IsSameHart}

pub same_back : (v after : PortView) → IsBack v after → IsSameHart v after
same_back v after back = record {
  plan = back.plan;
  hart = back.hart;
  table = back.table;
}

-- A hart that returned twice, and then looked at sites, is the same hart.
pub same_looked : (v w u after : PortView) → IsBack v w → IsBack w u → HasLooked u after → IsSameHart v after
same_looked v w u after ran swept looked = record {
  plan = ap (λ (h : PortView). h.plan) looked.same ∙ swept.plan ∙ ran.plan;
  hart = ap (λ (h : PortView). h.hart) looked.same ∙ swept.hart ∙ ran.hart;
  table = ap (λ (h : PortView). h.table) looked.same ∙ swept.table ∙ ran.table;
}

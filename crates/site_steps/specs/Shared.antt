-- Views of a hart that may share the table with others.
use Rattle.std.specs.Prelude.{false}
use Rattle.hart_port.specs.PortView.{PortView}

-- The same view, with other harts sharing the table.
abbrev pub shared : PortView → PortView
shared v = record v { alone = false }

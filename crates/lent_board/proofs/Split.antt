-- A board may be made, split and joined.
use Rattle.std.proofs.Common.{◌≡◌, ℕ, ◌<◌, sym, ◌∙◌}
use Rattle.atomic_table.specs.Table.{Splits, Joins}
use Rattle.atomic_table.proofs.Lists.{set_else}
use Rattle.transfer_table.specs.Plan.{Plan}
use Rattle.board_rule.specs.declared.layout.Layout.{Layout}
use Rattle.board_rule.specs.declared.view.View.{View}
use Rattle.board_rule.specs.declared.view.Doing.TheVariants.{Idle}
use Rattle.board_rule.specs.Views.{split_left, split_right, joined_view, spent_view}
use Rattle.board_rule.specs.Rule.{Stands, IsSeat}
use Rattle.board_rule.specs.Steps.{IsReady}
use Rattle.board_rule.proofs.Opens.{split_keeps}
use Rattle.board_rule.proofs.Joins.{join_keeps}

pub splits : (lay : Layout) (p : Plan) (id : ℕ) (v : View) → v.hart ≡ 0 → v.plan ≡ p → v.made < p.harts → v.doing ≡ Idle → Splits (Stands lay p) id v (split_left v) (split_right v)
splits lay p id v zeroth plan below idle s k at = (split_keeps lay p s k id v at zeroth plan below idle).0

pub joins : (lay : Layout) (p : Plan) (id other : ℕ) (v w : View) → v.hart ≡ 0 → IsSeat v → v.doing ≡ Idle → IsSeat w → IsReady w → Joins (Stands lay p) id v other w (joined_view v w) spent_view
joins lay p id other v w zeroth seat idle seat_w ready s k at apart at_other = (join_keeps lay p s k id other v w at apart (sym (set_else s.views id other (joined_view v w) apart) ∙ at_other) zeroth seat idle seat_w ready).0

-- The first ledger and flags that are all off make the first view.
use Rattle.std.proofs.Common.{◌≡◌, ◌∙◌, ℕ, ◌+◌, ap, false, replicate}
use Rattle.transfer_table.specs.Table.{first_state}
use Rattle.hart_port.specs.Ledger.{no_site}
use Rattle.hart_port.specs.Plain.{Plain, first_view, view_of}
use Rattle.hart_port.proofs.Views.{view-first}
use Rattle.hart_port.proofs.plain.PlainPort.new.Goals as goal

pub returns : goal.returns
returns c =
    let p = c.args.plan.now in
    let ledger = c.in_ok-new.ensures.first in
    let size : replicate (c.sites.result + 1) false ≡ no_site p = ap (λ (n : ℕ). replicate (n + 1) false) c.sites.ensures.same in
    let closed = c.in_ok-vec.ensures.items_if_clones_equal (λ _ e. e) ∙ size in
    let empty = c.in_ok-vec-2.ensures.items_if_clones_equal (λ _ e. e) ∙ size in
    let gone = c.in_ok-vec-3.ensures.items_if_clones_equal (λ _ e. e) ∙ size in
    let last : Plain = record { view = first_view p; state = first_state p; closing = no_site p; refused = 0 } in
    (λ i. record { view = view_of (ledger i) (closed i) (empty i) (gone i); state = (ledger i).state; closing = (ledger i).closing; refused = 0 })
    ∙ (λ i. record last { view = view-first p c.requires i })

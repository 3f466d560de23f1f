use Rattle.std.proofs.Common.{◌≡◌, sym, ap, ◌∙◌, length, rules}
use Rattle.std.specs.Option.{option_map}
use Rattle.transfer_table.specs.Table.{TableState}
use Rattle.transfer_table.specs.Journal.{replay_from, refused_from}
use Rattle.transfer_table.specs.declared.fault.Fault.{Fault}
use Rattle.transfer_table.specs.declared.fault.Why.{Why}
use Rattle.transfer_table.proofs.Faults.{found-fault}
use Rattle.transfer_table.proofs.fault.fault_on.Goals as goal

pub returns : goal.returns
returns c = let m : c.map.result ≡ option_map {T = Why} {U = Fault} (λ why. record { place = length c.args.list.now; why = why }) c.lacking.result = search rules in
    found-fault c.args.board.now.plan c.requires.plan c.args.meant.now c.args.list.now c.first_refused.new.board.state c.map.result c.requires.meant
    (sym (c.first_refused.ensures.first ∙ ap (λ (t : TableState). refused_from c.args.board.now.plan t c.args.list.now 0) c.requires.first) ∙ c.in_default.is)
    (sym (ap (λ (t : TableState). replay_from c.args.board.now.plan t c.args.list.now) c.requires.first) ∙ c.in_default.ensures.none)
    (m ∙ ap (option_map {T = Why} {U = Fault} (λ why. record { place = length c.args.list.now; why = why })) c.lacking.ensures)

use Rattle.std.proofs.Common.{◌+◌, drop, map, ap, sym, ◌∙◌, [], ◌∷◌}
use Rattle.array_tree.specs.Trees.{sequence_of, sequences}
use Rattle.array_meaning.specs.Work.{sequence_work}
use Rattle.array_meaning.specs.Members.{team_works}
use Rattle.array_meaning.specs.Sites.{phase_rounds}
use Rattle.array_eval.specs.Views.{vars_of}
use Rattle.std.specs.Option.{option_or}
use Rattle.site_walk.specs.FirstOverlap.{rounds_fault}
use Rattle.site_walk.proofs.SiteLemmas.{round_next}
use Rattle.site_walk.proofs.overlap.OverlapsSiteSearch.keep_team.Goals as goal

pub loop-phase-preserved : goal.loop-phase-preserved
loop-phase-preserved c =
    let arrays = c.args.layout.now in
    let vars = vars_of c.args.scope.now in
    let line = c.args.line in
    let var = c.args.turns.now.var.now in
    let low = c.args.turns.now.low in
    let high = c.args.turns.now.high in
    let members = c.args.members in
    let items = c.deref-phase-items.result.now in
    record {
      places = c.keep_phase.ensures.places;
      found = ap (λ f. option_or f (rounds_fault arrays line (phase_rounds (sequences (map sequence_of (drop (c.loop-phase.phase-index + 1) items))) var low high members vars)))
          (c.keep_phase.ensures.found ∙ ap (λ b. option_or c.loop-phase.self.found (rounds_fault arrays line (team_works var low high members (sequence_work (sequence_of b)) vars ∷ []))) c.phase-item.is)
          ∙ sym (round_next arrays line items c.loop-phase.phase-index c.phase-item.result var low high members vars c.loop-phase.self.found c.loop-phase-test.true)
          ∙ c.loop-phase.invariant.found;
    }

use Rattle.std.proofs.Common.{rules, refl, ◌≡◌, ◌∙◌, replicate, ◌+◌, ◌*◌, ◌-◌}
use Rattle.board_rule.specs.Encodings.{width}
use Rattle.board_rule.proofs.Opens.{opens}
use Rattle.lent_board.proofs.board.Board.new.Goals as goal

pub of_words-requires : goal.of_words-requires
of_words-requires g c = let p = c.args.plan.now in
    let items : c.in_ok-words.words.items ≡ replicate (1 + c.sites-sites.result + c.sites-sites.result * (3 * c.harts-harts.result - 1)) 0 = search rules in
    let zeros : c.as_slice.result.now ≡ replicate (width p) 0 = c.as_slice.ensures.value ∙ (items ∙ rw (c.sites-sites.ensures.same, c.harts-harts.ensures.same) refl) in
    rw zeros (opens g.L.Laid.layout p c.sites-sites.ensures.kept c.requires.few_harts)

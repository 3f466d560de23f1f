use Rattle.std.proofs.Common.{◌≡◌, length, map, replicate, ap, ◌∙◌, arith}
use Rattle.std.specs.Prelude.{vec_len}
use Rattle.std.proofs.lemmas.List.{length-map}
use Rattle.site_walk.specs.Inside.Touched.{untouched}
use Rattle.site_walk.specs.Inside.Rounds.{done_in}
use Rattle.site_walk.proofs.RoundLemmas.{none_in_round}
use Rattle.site_walk.proofs.layer.Layer.clear.Goals as goal

pub returns-then-self : goal.returns-then-self
returns-then-self c =
    let marks = c.self.inside.marks in
    let count : vec_len marks ≡ length c.args.self.now
    = (let known = marks.ok.0 in let mapped = length-map marks.items (done_in c.self.inside.round) in let seen = ap length c.self.view_is in omega arith) in
    ap (map (done_in 0)) (c.fill.ensures.items (λ y h. h)) ∙ none_in_round (vec_len marks) ∙ ap (λ n. replicate n untouched) count

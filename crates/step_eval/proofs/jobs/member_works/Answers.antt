use Rattle.std.proofs.Common.{◌≡◌, ◌+◌, w64, to_z, of_z, ap, ◌∙◌}
use Rattle.std.proofs.lemmas.Int.{to_z-of_z}
use Rattle.array_tree.specs.Trees.{sequence_of}
use Rattle.array_meaning.specs.Members.{start_of}
use Rattle.array_jobs.specs.declared.work.Work.TheVariants.{Member}
use Rattle.array_jobs.specs.Works.{member_of}
use Rattle.step_eval.specs.Nests.{member_trees}
use Rattle.step_eval.proofs.PieceLemmas.{member_made}
use Rattle.step_eval.proofs.jobs.member_works.Goals as goal

pub loop-member-preserved : goal.loop-member-preserved
loop-member-preserved c =
    let var = c.args.var.now in
    let low = to_z w64 (of_z w64 c.args.low) in
    let high = to_z w64 (of_z w64 c.args.high) in
    let m = c.args.members in
    let body = sequence_of c.args.body.now in
    let j = c.loop-member.member in
    let a = to_z w64 (of_z w64 c.start_of_member.result) in
    let b = to_z w64 (of_z w64 c.start_of_member-in-loop-member.result) in
    let from : a ≡ start_of low high m j = to_z-of_z w64 c.start_of_member.result (record { sfits = c.start_of_member.type_inv }) ∙ c.start_of_member.ensures in
    let to : b ≡ start_of low high m (j + 1)
    = to_z-of_z w64 c.start_of_member-in-loop-member.result (record { sfits = c.start_of_member-in-loop-member.type_inv })
    ∙ c.start_of_member-in-loop-member.ensures in
    let same : member_of var a b body ≡ member_of var (start_of low high m j) (start_of low high m (j + 1)) body
    = ap (λ x. member_of var x b body) from ∙ ap (λ x. member_of var (start_of low high m j) x body) to in
    member_made c.loop-member.works.items c.push.new.self.items (Member c.args.var a b c.args.body) var low high m body j
    (member_trees var low high m body 0 m) c.loop-member-test.true c.in_ok-push.ensures.items same c.loop-member.invariant

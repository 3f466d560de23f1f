use Rattle.std.proofs.Common.{◌≡◌, ◌∙◌, rules}
use Rattle.journal_picture.specs.Travels.{seen_up_to}
use Rattle.journal_picture.proofs.Travelled.{seen_visited}
use Rattle.journal_picture.proofs.travels.sites_in.Goals as goal

pub returns : goal.returns
returns c =
    let seen = c.in_ok-seen.seen.items in
    let counted : c.seen_count.result ≡ seen_up_to seen c.args.sites = search rules in
    counted ∙ seen_visited seen c.args.stays.now c.args.sites c.in_ok-seen.ensures.each

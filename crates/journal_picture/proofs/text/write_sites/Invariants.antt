use Rattle.std.proofs.Common.{◌≡◌, ◌++◌, drop, string_bytes}
use Rattle.journal_picture.specs.TextPicture.{sites_text}
use Rattle.journal_picture.proofs.text.write_sites.Given as goal

-- The text so far, and the names of the other sites.
abbrev pub invariant-loop-site : goal.invariant-loop-site
invariant-loop-site l = string_bytes l.text ++ sites_text (drop l.site-index l.sites) ≡ string_bytes l.fn.text ++ sites_text l.sites

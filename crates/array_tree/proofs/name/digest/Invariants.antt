use Rattle.std.proofs.Common.{◌≡◌, drop}
use Rattle.array_tree.specs.Digest.{digest_of, digest_from}
use Rattle.array_tree.proofs.name.digest.Given as goal

-- The digest of the remaining bytes, begun with that of the bytes so far, is the digest of all.
abbrev pub invariant-loop-byte : goal.invariant-loop-byte
invariant-loop-byte l = digest_from l.digest (drop l.byte-index l.bytes) ≡ digest_of l.bytes

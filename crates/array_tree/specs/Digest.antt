-- The digest that a name keeps of its bytes: the 64-bit FNV-1a hash, a public standard.
use Rattle.std.specs.Prelude.{ℕ, ◌*◌, ◌%◌, ◌^◌, List, [], ◌∷◌, bit_xor}

-- The digest of the bytes after those of this digest.
abbrev pub digest_from : ℕ → List ℕ → ℕ
digest_from digest [] = digest
digest_from digest (byte ∷ bytes) = digest_from (bit_xor digest byte * 0x100000001b3 % 2 ^ 64) bytes

-- The digest of bytes.
abbrev pub digest_of : List ℕ → ℕ
digest_of bytes = digest_from 0xcbf29ce484222325 bytes

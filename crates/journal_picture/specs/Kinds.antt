-- The name of a scheduler's kind: at most 15 letters, digits and `_`, so no picture has to escape it.
use Rattle.std.specs.Prelude.{◌≡◌, ℕ, ◌-◌, ◌==◌, nat_le, Bool, true, not, ◌&&◌, ◌||◌, if◌then◌else◌, List, ◌++◌, codes, length, replicate, Option, Some, None}
use Rattle.std.specs.List.{list_all, take_while}
use Rattle.journal_picture.specs.declared.shape.Kind.{Kind}

-- The byte is a letter, a digit or `_`.
abbrev pub is_letter : ℕ → Bool
is_letter byte =
    (nat_le 48 byte && nat_le byte 57) || (nat_le 65 byte && nat_le byte 90) || (byte == 95)
    || (nat_le 97 byte && nat_le byte 122)

-- The name: all bytes up to the first one that a name can't have.
abbrev pub kind_text : Kind → List ℕ
kind_text kind = take_while is_letter kind.letters

-- The text can be the name of a kind.
abbrev pub is_name : List ℕ → Bool
is_name text = nat_le (length text) 15 && list_all is_letter text

-- The kind with this name; zeros follow the name.
abbrev pub kind_of : List ℕ → Kind
kind_of text = record { letters = text ++ replicate (15 - length text) 0 }

-- The kind with this name; nothing if the text can't be the name of a kind.
abbrev pub kind_named : List ℕ → Option Kind
kind_named text = if is_name text then Some (kind_of text) else None

-- The kind of a `pool` scheduler.
abbrev pub pool : Kind
pool = kind_of (codes "pool")

-- The kind of a `team` scheduler.
abbrev pub team : Kind
team = kind_of (codes "team")

-- The kind of a `pipe` scheduler.
abbrev pub pipe : Kind
pipe = kind_of (codes "pipe")

-- ---- laws

-- A kind has the name that it was made with.
abbrev pub KindHasItsName : Type 0
KindHasItsName = (text : List ℕ) → is_name text ≡ true → kind_text (kind_of text) ≡ text

-- The byte begins no markup.
abbrev pub is_plain : ℕ → Bool
is_plain byte = not (byte == 60)

-- The name of no kind has a `<`.
abbrev pub KindHasNoMarkup : Type 0
KindHasNoMarkup = (kind : Kind) → list_all is_plain (kind_text kind) ≡ true

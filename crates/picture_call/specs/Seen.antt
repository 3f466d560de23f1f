-- What contracts see of a picture.
use Rattle.picture_call.specs.declared.picture.Picture.{Picture}
use Rattle.picture_call.specs.Picture.{Pictured}

-- The verdict of a picture, and its text as a list of bytes.
abbrev pub picture_seen : Picture → Pictured
picture_seen picture = record { verdict = picture.verdict; text = picture.text.items }

-- Characters of a JSON text that stand as escapes. They stand in strings alone, where an escape says the same character (RFC 8259, section 7).
use Rattle.std.specs.Prelude.{ℕ, ◌/◌, ◌%◌, List, [], ◌∷◌, ◌++◌, Bool, ◌||◌, ◌==◌, if◌then◌else◌, codes}
use Rattle.std.specs.Int.{is_in_range}
use Rattle.std.specs.Char.{encode_utf8}
use Rattle.hex.specs.Hex.{encode_lower}

-- C1 controls, which a terminal takes as orders, and the marks, embeddings, overrides and isolates that turn the direction of writing (Unicode)
abbrev pub is_hidden : ℕ → Bool
is_hidden c = is_in_range 0x80 0x9F c || ((c == 0x61C) || (is_in_range 0x200E 0x200F c || (is_in_range 0x202A 0x202E c || is_in_range 0x2066 0x2069 c)))

-- a code of 16 bits as an escape: four hexadecimal digits behind `\u`
abbrev pub escaped : ℕ → List ℕ
escaped code = codes "\\u" ++ encode_lower (code / 256 ∷ code % 256 ∷ [])

-- a character as it is, or where it is hidden as its escape
abbrev pub told_char : ℕ → List ℕ
told_char c = if is_hidden c then escaped c else encode_utf8 c

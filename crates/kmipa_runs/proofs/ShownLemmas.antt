-- The lines of items, from what is appended.
use Rattle.std.proofs.Common.{◌≡◌, ℕ, Bool, true, false, ◌+◌, ◌*◌, replicate, ◌/◌, ◌%◌, ◌<◌, List, [], ◌∷◌, ◌++◌, length, get_or, drop, refl, sym, ap, ◌∙◌, append_assoc, add-one, drop-cons}
use denote.Bor.{Bor}
use Rattle.std.specs.Prelude.{codes}
use Rattle.std.proofs.lemmas.List.{append-nil}
use Rattle.byteorder.specs.Endian.{big_bytes}
use Rattle.hex.specs.Hex.{encode_upper, encode_with}
use Rattle.kmipa_attrs.specs.Tags.{tag_name_of}
use Rattle.kmipa_ttlv.specs.ViewTree.{view_value_tree}
use Rattle.kmipa_ttlv.specs.declared.view.ViewValue.{ViewValue}
use Rattle.kmipa_ttlv.specs.declared.view.ViewValue.TheVariants.{Structure, Integer, LongInteger, BigInteger, Enumeration, Boolean, Text, Bytes, DateTime, Interval, DateTimeExtended}
use Rattle.kmipa_runs.specs.Shown.{head, kind_name, note, IsPlain, ShowsBelow, ShowsItemOver, ShowsLine, ShowsValue}

-- the line of an item without children
pub plain_line : (notes : Bool) (level tag : ℕ) (v : ViewValue) (value line : List ℕ) → IsPlain v → ShowsValue (view_value_tree tag v) value
    → line ≡ head level tag (kind_name (view_value_tree tag v)) ++ codes " " ++ value ++ note notes (view_value_tree tag v) ++ codes "\n" → ShowsLine notes level (view_value_tree tag v) line
plain_line notes level tag (Structure children) value line plain shows e = absurd plain
plain_line notes level tag (Integer z) value line plain shows e = (value, shows, e)
plain_line notes level tag (LongInteger z) value line plain shows e = (value, shows, e)
plain_line notes level tag (BigInteger bs) value line plain shows e = (value, shows, e)
plain_line notes level tag (Enumeration x) value line plain shows e = (value, shows, e)
plain_line notes level tag (Boolean b) value line plain shows e = (value, shows, e)
plain_line notes level tag (Text s) value line plain shows e = (value, shows, e)
plain_line notes level tag (Bytes bs) value line plain shows e = (value, shows, e)
plain_line notes level tag (DateTime z) value line plain shows e = (value, shows, e)
plain_line notes level tag (Interval x) value line plain shows e = (value, shows, e)
plain_line notes level tag (DateTimeExtended z) value line plain shows e = (value, shows, e)

-- nothing stands below the line of an item that is no Structure and no Byte String
pub line_alone : (messages notes : Bool) (level tag : ℕ) (v : ViewValue) (line : List ℕ) → ((x : Bor (List ℕ)) → v ≡ Bytes x → ⊥) → ShowsLine notes level (view_value_tree tag v) line
    → ShowsItemOver (ShowsBelow messages notes) notes level (view_value_tree tag v) line
line_alone messages notes level tag (Structure children) line other shows = absurd shows
line_alone messages notes level tag (Bytes bs) line other shows = absurd (other bs refl)
line_alone true notes level tag (Integer z) line other shows = (line, [], shows, refl, sym (append-nil line))
line_alone false notes level tag (Integer z) line other shows = (line, [], shows, refl, sym (append-nil line))
line_alone true notes level tag (LongInteger z) line other shows = (line, [], shows, refl, sym (append-nil line))
line_alone false notes level tag (LongInteger z) line other shows = (line, [], shows, refl, sym (append-nil line))
line_alone true notes level tag (BigInteger bs) line other shows = (line, [], shows, refl, sym (append-nil line))
line_alone false notes level tag (BigInteger bs) line other shows = (line, [], shows, refl, sym (append-nil line))
line_alone true notes level tag (Enumeration x) line other shows = (line, [], shows, refl, sym (append-nil line))
line_alone false notes level tag (Enumeration x) line other shows = (line, [], shows, refl, sym (append-nil line))
line_alone true notes level tag (Boolean b) line other shows = (line, [], shows, refl, sym (append-nil line))
line_alone false notes level tag (Boolean b) line other shows = (line, [], shows, refl, sym (append-nil line))
line_alone true notes level tag (Text s) line other shows = (line, [], shows, refl, sym (append-nil line))
line_alone false notes level tag (Text s) line other shows = (line, [], shows, refl, sym (append-nil line))
line_alone true notes level tag (DateTime z) line other shows = (line, [], shows, refl, sym (append-nil line))
line_alone false notes level tag (DateTime z) line other shows = (line, [], shows, refl, sym (append-nil line))
line_alone true notes level tag (Interval x) line other shows = (line, [], shows, refl, sym (append-nil line))
line_alone false notes level tag (Interval x) line other shows = (line, [], shows, refl, sym (append-nil line))
line_alone true notes level tag (DateTimeExtended z) line other shows = (line, [], shows, refl, sym (append-nil line))
line_alone false notes level tag (DateTimeExtended z) line other shows = (line, [], shows, refl, sym (append-nil line))

-- the digits of the next of the bytes that are left
pub next_digits : (table bytes : List ℕ) (i : ℕ) → i < length bytes
    → encode_with table (drop i bytes) ≡ get_or table (get_or bytes i 0 / 16) 0 ∷ get_or table (get_or bytes i 0 % 16) 0 ∷ encode_with table (drop (i + 1) bytes)
unfolding encode_with
next_digits table bytes i lt = rw (add-one, drop-cons bytes i 0 lt) refl

pub no_digits : (table : List ℕ) → encode_with table [] ≡ []
unfolding encode_with
no_digits table = refl

-- one append after the other
pub five : (a b d e f g : List ℕ) → (((a ++ (b ++ d)) ++ e) ++ f) ++ g ≡ a ++ (b ++ d ++ e ++ f ++ g)
five a b d e f g = simp append_assoc

pub fronted : (a b d e : List ℕ) → (a ++ (b ++ d ++ 32 ∷ [])) ++ e ≡ a ++ (b ++ d ++ 32 ∷ e)
fronted a b d e = simp append_assoc

heads : (o a b d e f : List ℕ) → (o ++ (a ++ b ++ 32 ∷ d)) ++ (32 ∷ e ++ f) ≡ o ++ ((a ++ b ++ 32 ∷ d ++ 32 ∷ e) ++ f)
heads o a b d e f = simp append_assoc

-- the words of a type end the head of a line
pub head_of : (old : List ℕ) (level tag : ℕ) (kind rest : List ℕ)
    → (old ++ (replicate (2 * level) 32 ++ encode_upper (big_bytes 3 tag) ++ 32 ∷ tag_name_of tag)) ++ (32 ∷ kind ++ rest) ≡ old ++ (head level tag kind ++ rest)
head_of old level tag kind rest = heads old (replicate (2 * level) 32) (encode_upper (big_bytes 3 tag)) (tag_name_of tag) kind rest

digits_both : (table a b : List ℕ) → encode_with table (a ++ b) ≡ encode_with table a ++ encode_with table b
unfolding encode_with
digits_both table [] b = refl
digits_both table (x ∷ xs) b = rw (digits_both table xs b) refl

-- the digits of a block are printed, and those of the others are left
pub digits_on : (table old new block others left all : List ℕ) → left ≡ block ++ others → new ≡ old ++ encode_with table block → old ++ encode_with table left ≡ all
    → new ++ encode_with table others ≡ all
digits_on table old new block others left all e h inv =
    ap (λ (l : List ℕ). l ++ encode_with table others) h ∙ append_assoc old (encode_with table block) (encode_with table others)
    ∙ ap (λ (l : List ℕ). old ++ l) (sym (ap (encode_with table) e ∙ digits_both table block others)) ∙ inv

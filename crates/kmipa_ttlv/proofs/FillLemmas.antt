-- Buffers that are filled, and bytes that came short.
use Rattle.std.proofs.Common.{◌≡◌, ℕ, ◌+◌, ◌*◌, ◌/◌, ◌≤◌, List, ◌++◌, length, take, drop, None, Some, refl, ap, sym, ◌∙◌, arith, append_assoc, length-append, length-take-le, take-add, take-take, take_at, drop_at, take_all}
use Rattle.std.proofs.Math.Seq.{drop-append_seam, take-append_seam}
use Rattle.std.proofs.lemmas.Slice.{take-put_mid}
use Rattle.std.proofs.lemmas.List.{take-append-le}
use borrow.Rule.Slice.PartMut.{put_mid}
use Rattle.std.specs.Io.{appended_bytes}
use Rattle.kmipa_ttlv.specs.Spelling.{extent}
use Rattle.kmipa_ttlv.specs.Flaw.{head_flaw}
use Rattle.kmipa_ttlv.specs.Stream.{IsCutShort}
use Rattle.kmipa_ttlv.specs.Reading.{CameShort, StopsInside}
use Rattle.kmipa_ttlv.specs.declared.fault.FaultKind.{FaultKind}
use Rattle.kmipa_ttlv.specs.declared.fault.FaultKind.TheVariants.{Truncated, UnknownType, BadLength, BadBoolean, BadText, Overrun, TooDeep, TooLong, Device, Memory}
use Rattle.kmipa_ttlv.proofs.FrontLemmas.{len_at-append}
use Rattle.kmipa_ttlv.proofs.ReadLemmas.{head_flaw-append, head_flaw_own, head_short, no_header, since, ByCause-own}

-- ---- buffers

-- a part of a buffer was written, of which the first n count
pub filled : (xs ys : List ℕ) (i k n : ℕ) → i ≤ length xs → n ≤ length ys → take (i + n) (put_mid i k xs ys) ≡ take i xs ++ take n ys
filled xs ys i k n within few =
    let front = length-take-le i xs within in
    sym (take-take (i + n) (i + length ys) (put_mid i k xs ys) (omega (arith, few))) ∙ ap (take (i + n)) (take-put_mid i k xs ys (i + length ys) refl within) ∙ take-add i n (take i xs ++ ys)
    ∙ (λ j. take_at (take i xs) ys i front j ++ take n (drop_at (take i xs) ys i front j))

-- one more part of what came
pub filled_more : (before came after xs ys : List ℕ) (i k n : ℕ) → i ≤ length xs → n ≤ length ys → came ≡ before ++ take i xs → after ≡ came ++ take n ys
    → after ≡ before ++ take (i + n) (put_mid i k xs ys)
filled_more before came after xs ys i k n within few e f =
    f ∙ ap (λ (l : List ℕ). l ++ take n ys) e ∙ append_assoc before (take i xs) (take n ys) ∙ ap (λ (l : List ℕ). before ++ l) (sym (filled xs ys i k n within few))

-- a part of a vector was written, of which the first n count, and what is after them is cut off
cut : (xs ys p q : List ℕ) (i n m : ℕ) → i ≤ length xs → n ≤ length ys → i + n ≤ m → take (i + n) (take m (take i xs ++ (ys ++ p) ++ q)) ≡ take i xs ++ take n ys
cut xs ys p q i n m within few room =
    let front = length-take-le i xs within in
    let rest = (ys ++ p) ++ q in
    let less : take n rest ≡ take n ys = ap (take n) (append_assoc ys p q) ∙ take-append-le n ys (p ++ q) few in
    ap (λ (l : List ℕ). take (i + n) (take m l)) (append_assoc (take i xs) (ys ++ p) q) ∙ take-take (i + n) m (take i xs ++ rest) room ∙ take-add i n (take i xs ++ rest) ∙ (λ j. take_at (take i xs) rest i front j ++ take n (drop_at (take i xs) rest i front j))
    ∙ ap (λ (l : List ℕ). take i xs ++ l) less

-- the vector whose bytes from this place on were written
abbrev pub front_of : List ℕ → ℕ → List ℕ → List ℕ
front_of xs i ys = take i xs ++ (ys ++ drop (length ys) (drop i xs))

abbrev pub written : List ℕ → ℕ → List ℕ → List ℕ
written xs i ys = front_of xs i ys ++ drop (length (front_of xs i ys)) xs

-- what stands after the bytes that were there
pub appended_filled : (old xs ys out : List ℕ) (i n m : ℕ) → i ≡ length old → take i xs ≡ old → i ≤ length xs → n ≤ length ys → i + n ≤ m
    → out ≡ take (i + n) (take m (written xs i ys)) → appended_bytes old out ≡ take n ys
appended_filled old xs ys out i n m len same within few room e =
    ap (drop (length old)) (e ∙ cut xs ys (drop (length ys) (drop i xs)) (drop (length (front_of xs i ys)) xs) i n m within few room ∙ ap (λ (l : List ℕ). l ++ take n ys) same)
    ∙ drop-append_seam old (take n ys)

pub kept : (old rest : List ℕ) (i m : ℕ) → i ≡ length old → i ≤ m → take i (take m old ++ rest) ≡ old
kept old rest i m len le =
    ap (λ (l : List ℕ). take i (l ++ rest)) (take_all m old (omega (arith, len))) ∙ ap (λ (j : ℕ). take j (old ++ rest)) len ∙ take-append_seam old rest

-- ---- where a reading stopped

pub stops : (kind : FaultKind) (came : List ℕ) → IsCutShort came → StopsInside kind came
stops Device came h = h
stops Memory came h = h
stops Truncated came h = tt
stops UnknownType came h = tt
stops BadLength came h = tt
stops BadBoolean came h = tt
stops BadText came h = tt
stops Overrun came h = tt
stops TooDeep came h = tt
stops TooLong came h = tt

pub stops_in_header : (kind : FaultKind) (old new : List ℕ) → CameShort old new 8 → StopsInside kind (appended_bytes old new)
stops_in_header kind old new s =
    stops kind (appended_bytes old new) (rw (since old new s.more s.after) (length s.more, no_header s.more s.fewer))

pub flawed_header_stops : (kind : FaultKind) (offset : ℕ) (came bytes : List ℕ) → head_flaw bytes ≡ Some (offset, kind) → StopsInside kind came
flawed_header_stops kind offset came bytes flaw = ByCause-own kind _ _ _ (head_flaw_own bytes offset kind flaw) tt

-- the header is right, and fewer bytes came after it than it says
pub stops_in_value : (kind : FaultKind) (old mid new front : List ℕ) (most : ℕ) → mid ≡ old ++ front → 8 ≡ length front → head_flaw front ≡ None → extent front ≡ 8 + most
    → CameShort mid new most → StopsInside kind (appended_bytes old new)
stops_in_value kind old mid new front most e long right all s =
    let came = front ++ s.more in
    let at : 8 ≤ length front = omega (arith, long) in
    let whole : new ≡ old ++ came = s.after ∙ ap (λ (l : List ℕ). l ++ s.more) e ∙ append_assoc old front s.more in
    let same : extent came ≡ extent front = ap (λ (n : ℕ). 8 + (n + 7) / 8 * 8) (len_at-append front s.more at) in
    let len = length-append front s.more in
    stops kind (appended_bytes old new) (rw (since old new came whole) (
      length came,
      head_short came (omega (arith, len, long)) (head_flaw-append front s.more at ∙ right) (omega (arith, len, long, all, same, s.fewer)),
    ))

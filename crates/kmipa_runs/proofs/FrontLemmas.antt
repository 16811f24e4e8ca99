-- The front of a line: digits that were written into spaces.
use Rattle.std.proofs.Common.{◌≡◌, ℕ, ◌+◌, ◌-◌, ◌*◌, ◌≤◌, List, [], ◌∷◌, ◌++◌, length, replicate, take, drop, sym, ap, ◌∙◌, append_assoc, length-append, take-take, arith}
use Rattle.std.proofs.Math.Seq.{take-append-add, drop-append-add}
use borrow.Rule.Slice.PartMut.{put_mid}
use Rattle.std.proofs.lemmas.List.{length-replicate, replicate-append-replicate, take-replicate, drop-replicate, take_at}
use Rattle.kmipa_ttlv.proofs.FillLemmas.{front_of, written}

abbrev spaces : ℕ → List ℕ
spaces count = replicate count 32

-- what stands behind the digits and a space
abbrev behind : ℕ → List ℕ
behind level = spaces (73 - 2 * level)

-- the spaces before the digits, and behind them
before_digits : (level : ℕ) → level ≤ 31 → take (2 * level) (spaces 80) ≡ spaces (2 * level)
before_digits level few = take-replicate (2 * level) 80 32 (omega arith)

behind_digits : (level : ℕ) → level ≤ 31 → drop 6 (drop (2 * level) (spaces 80)) ≡ 32 ∷ behind level
behind_digits level few =
    let count : 80 - 2 * level - 6 ≡ 1 + (73 - 2 * level) = omega arith in
    ap (λ (l : List ℕ). drop 6 l) (drop-replicate (2 * level) 80 32) ∙ drop-replicate 6 (80 - 2 * level) 32 ∙ ap spaces count
    ∙ sym (replicate-append-replicate 1 (73 - 2 * level) 32)

around : (a b d : List ℕ) → a ++ (b ++ 32 ∷ d) ≡ (a ++ b ++ 32 ∷ []) ++ d
around a b d = simp append_assoc

around_all : (o a b d e : List ℕ) → ((o ++ a) ++ (b ++ 32 ∷ d)) ++ e ≡ (o ++ (a ++ b ++ 32 ∷ [])) ++ (d ++ e)
around_all o a b d e = simp append_assoc

long_front : (level : ℕ) (digits : List ℕ) → length digits ≡ 6 → length (spaces (2 * level) ++ digits ++ 32 ∷ []) ≡ 2 * level + 7
long_front level digits six = rw (length-append, length-append, length-replicate, six) (omega arith)

-- six digits were written into spaces
pub filled_front : (level k : ℕ) (before part digits : List ℕ) → level ≤ 31 → k ≡ 6 → before ≡ spaces 80 → part ≡ digits → length part ≡ 6
    → take (2 * level + 7) (put_mid (2 * level) k before part) ≡ spaces (2 * level) ++ digits ++ 32 ∷ []
filled_front level k before part digits few ek es ep long =
    let a : ℕ = 2 * level in
    let margin : List ℕ = spaces a in
    let six : length digits ≡ 6 = sym (ap (λ (l : List ℕ). length l) ep) ∙ long in
    let same : put_mid a k before part ≡ put_mid a 6 (spaces 80) digits
    = ap (λ (n : ℕ). put_mid a n before part) ek ∙ ap (λ (l : List ℕ). put_mid a 6 l part) es ∙ ap (λ (l : List ℕ). put_mid a 6 (spaces 80) l) ep in
    let whole : put_mid a k before part ≡ (margin ++ digits ++ 32 ∷ []) ++ behind level
    = same ∙ ap (λ (l : List ℕ). l ++ (digits ++ drop 6 (drop a (spaces 80)))) (before_digits level few) ∙ ap (λ (l : List ℕ). margin ++ (digits ++ l)) (behind_digits level few)
    ∙ around margin digits (behind level) in
    ap (take (2 * level + 7)) whole ∙ take_at (margin ++ digits ++ 32 ∷ []) (behind level) (2 * level + 7) (long_front level digits six)

-- six digits were written into spaces that stand behind what was held, and what is behind the next space was cut off
pub held_front : (level i m : ℕ) (old xs digits out : List ℕ) → level ≤ 31 → i ≡ length old + 2 * level → xs ≡ old ++ spaces 80 → length digits ≡ 6 → i + 7 ≤ m
    → out ≡ take (i + 7) (take m (written xs i digits)) → out ≡ old ++ (spaces (2 * level) ++ digits ++ 32 ∷ [])
held_front level i m old xs digits out few ei ex six room e =
    let a : ℕ = 2 * level in
    let margin : List ℕ = spaces a in
    let front : List ℕ = old ++ (margin ++ digits ++ 32 ∷ []) in
    let others : List ℕ = drop (length (front_of xs i digits)) xs in
    let first : take i xs ≡ old ++ margin
    = ap (λ (n : ℕ). take n xs) ei ∙ ap (λ (l : List ℕ). take (length old + a) l) ex ∙ take-append-add old (spaces 80) a ∙ ap (λ (l : List ℕ). old ++ l) (before_digits level few) in
    let last : drop (length digits) (drop i xs) ≡ 32 ∷ behind level
    = ap (λ (n : ℕ). drop n (drop i xs)) six ∙ ap (λ (n : ℕ). drop 6 (drop n xs)) ei ∙ ap (λ (l : List ℕ). drop 6 (drop (length old + a) l)) ex
    ∙ ap (λ (l : List ℕ). drop 6 l) (drop-append-add old (spaces 80) a) ∙ behind_digits level few in
    let whole : written xs i digits ≡ front ++ (behind level ++ others)
    = ap (λ (l : List ℕ). (l ++ (digits ++ drop (length digits) (drop i xs))) ++ others) first ∙ ap (λ (l : List ℕ). ((old ++ margin) ++ (digits ++ l)) ++ others) last
    ∙ around_all old margin digits (behind level) others in
    let long : length front ≡ i + 7 = length-append old (margin ++ digits ++ 32 ∷ []) ∙ ap (λ (n : ℕ). length old + n) (long_front level digits six) ∙ (omega (arith, ei)) in
    e ∙ take-take (i + 7) m (written xs i digits) room ∙ ap (λ (l : List ℕ). take (i + 7) l) whole ∙ take_at front (behind level ++ others) (i + 7) long

-- What requests and responses share: the version, the count, and the items one after the other.
use Rattle.std.proofs.Common.{◌≡◌, ◌==◌, ◌&&◌, nat_lt, ℕ, ℤ, suc, pos, negsuc, Bool, true, false, cond, List, [], ◌∷◌, map, length, Option, Some, refl, sym, ap, ◌∙◌, eq-eqb}
use Rattle.std.specs.Prelude.{All}
use Rattle.std.proofs.lemmas.List.Elements.{All-head, All-tail}
use Rattle.kmipa_ttlv.specs.Tree.{Tree, Trees, forest}
use Rattle.kmipa_attrs.specs.Fields.{tag_of, first, every, as_integer, at}
use Rattle.kmipa_attrs.specs.Tags.{batch_count, protocol_version, protocol_version_major, protocol_version_minor}
use Rattle.kmipa_attrs.specs.declared.fields.Field.{Field}
use Rattle.kmipa_attrs.specs.declared.fields.Field.TheVariants.{Absent, Wrong, There}
use Rattle.kmipa_msgs.specs.Headers.{is_number, is_version, count_is, is_count}
use Rattle.kmipa_msgs.specs.Outside.{SaysEach}
use Rattle.kmipa_msgs.specs.WrittenFields.{in_order}
use Rattle.kmipa_msgs.specs.Written.{version_fields, written_version}
use Rattle.kmipa_msgs.proofs.WrittenFieldLemmas.{find, inside_written}

second_true : (a b : Bool) → (a && b) ≡ true → b ≡ true
second_true true b e = e
second_true false b e = cc

-- a message that counts its items has one
some_counted : (f : Field ℤ) (n : ℕ) → count_is f n ≡ true → nat_lt 0 n ≡ true
some_counted Absent n e = cc
some_counted Wrong n e = cc
some_counted (There (pos m)) n e = second_true (m == n) (nat_lt 0 n) e
some_counted (There (negsuc m)) n e = cc

pub each_length : {X : Type 0} (Said : ℕ → Tree → X → Type 0) (ts : List Tree) (xs : List X) → SaysEach Said ts xs → length ts ≡ length xs
each_length Said [] [] s = refl
each_length Said (t ∷ ts) (x ∷ xs) s = ap suc (each_length (λ i. Said (suc i)) ts xs s.1)
each_length Said [] (x ∷ xs) s = absurd s
each_length Said (t ∷ ts) [] s = absurd s

-- what each item says is said by what is written of it
pub each_written : {X : Type 0} (P : X → Type 0) (Said : ℕ → Tree → X → Type 0) (made : X → Tree) → ((i : ℕ) (t : Tree) (x : X) → P x → Said i t x → Said i (made x) x)
    → (ts : List Tree) (xs : List X) → All P xs → SaysEach Said ts xs → SaysEach Said (map made xs) xs
each_written P Said made keeps [] [] w s = tt
each_written P Said made keeps (t ∷ ts) (x ∷ xs) w s = (keeps 0 t x (All-head P x xs w) s.0, each_written P (λ i. Said (suc i)) made (λ i. keeps (suc i)) ts xs (All-tail P x xs w) s.1)
each_written P Said made keeps [] (x ∷ xs) w s = absurd s
each_written P Said made keeps (t ∷ ts) [] w s = absurd s

pub every_written : {X : Type 0} (made : X → Tree) (n : ℕ) → ((x : X) → (tag_of (made x) == n) ≡ true) → (xs : List X) → every n (forest made xs) ≡ map made xs
unfolding every
every_written made n same [] = refl
every_written made n same (x ∷ xs) =
    ap (λ (b : Bool). cond b (made x ∷ every n (forest made xs)) (every n (forest made xs))) (same x)
    ∙ ap (λ (ts : List Tree). made x ∷ ts) (every_written made n same xs)

version_is : is_number (at as_integer protocol_version_major (in_order version_fields)) (pos 2) && is_number (at as_integer protocol_version_minor (in_order version_fields)) (pos 1) ≡ true
unfolding first as_integer
version_is = refl

pub version_written : (fields : List (Option Tree)) → find protocol_version fields ≡ Some written_version → is_version (in_order fields) ≡ true
version_written fields e =
    ap (λ (ts : Trees). is_number (at as_integer protocol_version_major ts) (pos 2) && is_number (at as_integer protocol_version_minor ts) (pos 1)) (inside_written protocol_version protocol_version fields (in_order version_fields) e)
    ∙ version_is

-- the count is that of the items, of which there is one
pub count_written : {X : Type 0} (hs gs : Trees) (ts us : List Tree) (xs : List X) → is_count gs (length us) ≡ true → length us ≡ length xs → length ts ≡ length xs
    → at as_integer batch_count hs ≡ There (pos (length xs)) → is_count hs (length ts) ≡ true
count_written hs gs ts us xs counted old new e =
    ap (is_count hs) new
    ∙ ap (λ (f : Field ℤ). count_is f (length xs)) e
    ∙ ap (λ (b : Bool). b && nat_lt 0 (length xs)) (eq-eqb (length xs) (length xs) refl)
    ∙ ap (nat_lt 0) (sym old)
    ∙ some_counted (at as_integer batch_count gs) (length us) counted

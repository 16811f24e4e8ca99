-- What is appended item by item.
use Rattle.std.proofs.Common.{◌≡◌, ◌<◌, ◌+◌, ℕ, suc, List, [], ◌∷◌, ◌++◌, length, map, take, drop, get_or, Result, Ok, Err, OnOk, append_assoc, refl, sym, ap, subst, ◌∙◌, arith}
use Rattle.std.specs.Prelude.{All}
use Rattle.std.specs.Io.{StartsWith}
use Rattle.std.specs.List.{flat_map}
use Rattle.std.proofs.lemmas.List.{map-append, take_more, flat_map_more, append-nil}
use Rattle.std.proofs.lemmas.List.Concat.{flat_map-cons}
use Rattle.std.proofs.lemmas.List.Elements.{All-push, All-nil, All-contains, All-cons, All-tail, Contains-append_right}
use Rattle.std.proofs.Math.Seq.{take-append_seam}
use Rattle.kmipa_ttlv.proofs.ReadLemmas.{starts_with_rest}
use Rattle.kmipa_ttlv.specs.ItemTree.{value_tree, tree}
use Rattle.kmipa_ttlv.specs.Tree.{Tree}
use Rattle.kmipa_ttlv.specs.Spelling.{Spells}
use Rattle.kmipa_ttlv.specs.Stream.{Begins}
use Rattle.kmipa_ttlv.specs.Written.{spelling, Legal}
use Rattle.kmipa_ttlv.proofs.SpellLemmas.{spells_legal}
use Rattle.kmipa_ttlv.specs.declared.item.Item.{Item}
use Rattle.kmipa_ttlv.specs.declared.item.Value.{Value, Structure'}
use Rattle.kmipa_attrs.specs.Fields.{tag_of}
use Rattle.kmipa_record.specs.WitnessReading.{IsStructure}
use Rattle.kmipa_record.specs.Writing.{Adds, AddsAll, Refused, starved, refused}
use Rattle.kmipa_record.specs.declared.fault.RecordKind.{RecordKind}
use Rattle.kmipa_record.proofs.TurnLemmas.{cut_here}

-- ---- lists

pub mapped_more : {X Y : Type 0} (f : X → Y) (xs : List X) (i : ℕ) (x : X) → i < length xs → x ≡ get_or xs i x → map f (take (i + 1) xs) ≡ map f (take i xs) ++ f x ∷ []
mapped_more f xs i x h is = ap (map f) (take_more xs i x h ∙ ap (λ (y : _). take i xs ++ y ∷ []) (sym is)) ∙ map-append f (take i xs) (x ∷ [])

pub mapped_here : {X Y : Type 0} (f : X → Y) (xs : List X) (i : ℕ) (x : X) → i < length xs → x ≡ get_or xs i x → map f xs ≡ map f (take i xs) ++ f x ∷ map f (drop (suc i) xs)
mapped_here f xs i x h is = ap (map f) (cut_here xs i x h is) ∙ map-append f (take i xs) (x ∷ drop (suc i) xs)

pub mapped_twice : {X Y Z : Type 0} (f : X → Y) (g : Y → Z) (xs : List X) → map (λ (x : X). g (f x)) xs ≡ map g (map f xs)
mapped_twice f g [] = refl
mapped_twice f g (x ∷ xs) = ap (λ (l : List _). g (f x) ∷ l) (mapped_twice f g xs)

-- what holds of each element holds of this one
pub one_of : {X : Type 0} (P : X → Type 0) (xs before after : List X) (x : X) → xs ≡ before ++ x ∷ after → All P xs → P x
one_of P xs before after x e all = All-contains P (before ++ x ∷ after) x (subst (All P) e all) (Contains-append_right before (x ∷ after) x (0, omega arith, refl))

-- what holds of what each element is taken for
pub all_mapped : {X Y : Type 0} (f : X → Y) (P : Y → Type 0) (xs : List X) → All P (map f xs) → All (λ (x : X). P (f x)) xs
all_mapped f P [] all = All-nil (λ x. P (f x))
all_mapped f P (x ∷ xs) all = All-cons (λ y. P (f y)) x xs (one_of P (f x ∷ map f xs) [] (map f xs) (f x) refl all) (all_mapped f P xs (All-tail P (f x) (map f xs) all))

-- what holds of the elements ahead and of the next one
pub all_at : {X : Type 0} (P : X → Type 0) (xs : List X) (i : ℕ) (d : X) → i < length xs → All P (take i xs) → P (get_or xs i d) → All P (take (i + 1) xs)
all_at P xs i d h all one = subst (All P) (sym (take_more xs i d h)) (All-push P (take i xs) (get_or xs i d) all one)

-- one more child
pub pushed_more : {X : Type 0} (item_of : X → Tree) (old mid new : List Item) (item : Item) (xs : List X) (i : ℕ) (x : X) → i < length xs → x ≡ get_or xs i x → new ≡ mid ++ item ∷ [] → tree item ≡ item_of x
    → map tree mid ≡ map tree old ++ map item_of (take i xs) → map tree new ≡ map tree old ++ map item_of (take (i + 1) xs)
pushed_more item_of old mid new item xs i x h is e t before =
    ap (map tree) e ∙ map-append tree mid (item ∷ []) ∙ ap (λ (l : List Tree). l ++ tree item ∷ []) before ∙ ap (λ (u : Tree). (map tree old ++ map item_of (take i xs)) ++ u ∷ []) t
    ∙ append_assoc (map tree old) (map item_of (take i xs)) (item_of x ∷ []) ∙ ap (λ (l : List Tree). map tree old ++ l) (sym (mapped_more item_of xs i x h is))

-- ---- spellings

pub adds_more : (items : List Tree) (item : Tree) (old mid new : List ℕ) → AddsAll items old mid → Adds item mid new → AddsAll (items ++ item ∷ []) old new
adds_more items item old mid new all one = record {
  after = one.after ∙ ap (λ (l : List ℕ). l ++ spelling item) all.after ∙ flat_map_more spelling old items item;
  spelled = All-push (λ t. Spells t (spelling t)) items item all.spelled one.spelled;
}

pub adds_none : (old : List ℕ) → AddsAll [] old old
adds_none old = record { after = sym (append-nil old); spelled = All-nil (λ t. Spells t (spelling t)) }

pub adds_behind : (item : Tree) (items : List Tree) (old mid new : List ℕ) → Adds item old mid → AddsAll items mid new → AddsAll (item ∷ items) old new
adds_behind item items old mid new one all = record {
  after = all.after ∙ ap (λ (l : List ℕ). l ++ flat_map spelling items) one.after ∙ append_assoc old (spelling item) (flat_map spelling items)
      ∙ ap (λ (l : List ℕ). old ++ l) (sym (flat_map-cons spelling item items));
  spelled = All-cons (λ t. Spells t (spelling t)) item items one.spelled all.spelled;
}

pub behind_starts : (old new more : List ℕ) → new ≡ old ++ more → StartsWith new old
behind_starts old new more e = subst (λ (l : List ℕ). StartsWith l old) (sym e) (take-append_seam old more)

pub starts_on : (a b c : List ℕ) → StartsWith b a → StartsWith c b → StartsWith c a
starts_on a b c s t =
    let e : c ≡ a ++ (drop (length a) b ++ drop (length b) c) = starts_with_rest c b t ∙ ap (λ (l : List ℕ). l ++ drop (length b) c) (starts_with_rest b a s) ∙ append_assoc a (drop (length a) b) (drop (length b) c) in
    behind_starts a c (drop (length a) b ++ drop (length b) c) e

pub begins_spelled : (items : List Tree) → All (λ t. Spells t (spelling t)) items → Begins items (flat_map spelling items) []
begins_spelled [] all = refl
begins_spelled (t ∷ ts) all =
    (spelling t, flat_map spelling ts, flat_map-cons spelling t ts, one_of (λ u. Spells u (spelling u)) (t ∷ ts) [] ts t refl all, begins_spelled ts (All-tail (λ u. Spells u (spelling u)) t ts all))

-- each item of a file breaks no limit
pub legal_in : (before after : List Tree) (item : Tree) (bytes rest : List ℕ) → Begins (before ++ item ∷ after) bytes rest → Legal 16 item
legal_in [] after item bytes rest b = spells_legal item b.0 b.3
legal_in (t ∷ before) after item bytes rest b = legal_in before after item b.1 rest b.4

-- ---- structures

tag_of-item : (n : ℕ) (v : Value) → tag_of (value_tree n v) ≡ n
tag_of-item n (Structure' shape row) = refl
tag_of-item n _ = refl

pub other_structure : (item : Item) (tag : ℕ) → (item.tag.number ≡ tag → ⊥) → IsStructure tag (tree item) → ⊥
other_structure item tag ne s = ne (sym (tag_of-item item.tag.number item.value) ∙ ap tag_of s.is)

-- ---- refusals

pub refused_map : {P Q : Type 0} (kind : RecordKind) → (Q → P) → Refused P kind → Refused Q kind
refused_map kind f (starved k) = starved k
refused_map kind f (refused k n) = refused k (λ q. n (f q))

pub on_ok_map : {A E : Type 0} (r : Result A E) (P Q : Type 0) → (P → Q) → OnOk r P → OnOk r Q
on_ok_map (Ok x) P Q f h = f h
on_ok_map (Err e) P Q f h = tt

-- A file has one first fault at most.
use Rattle.std.proofs.Common.{◌≡◌, ◌<◌, ℕ, ◌+◌, List, [], ◌∷◌, ◌++◌, length, map, refl, sym, ap, subst, ◌∙◌, arith}
use Rattle.std.proofs.lemmas.List.{length-append, append_cancel_left}
use Rattle.kmipa_ttlv.specs.Tree.{Tree}
use Rattle.kmipa_ttlv.specs.Spelling.{Spells}
use Rattle.kmipa_ttlv.specs.Flaw.{OuterFlaw}
use Rattle.kmipa_ttlv.specs.Stream.{Begins, capped, IsBeginningOf}
use Rattle.kmipa_ttlv.specs.declared.fault.FaultKind.{FaultKind}
use Rattle.kmipa_ttlv.proofs.LawLemmas.{one_spelling_lem, one_flaw_lem}
use Rattle.kmipa_ttlv.proofs.StreamLemmas.{all_given}
use Rattle.kmipa_record.specs.Files.{IsUpTo, FirstFault, in_bytes, in_item, at_end, rest_place}
use Rattle.kmipa_record.specs.declared.fault.RecordKind.{RecordKind}
use Rattle.kmipa_record.specs.declared.fault.RecordKind.TheVariants.{Ttlv}

-- two lists of items at the front of the same bytes: they are one, or one goes on where the other ends
pub data Compared (xs ys : List Tree) (rest rest' : List ℕ) : Type 0 where
  same : xs ≡ ys → rest ≡ rest' → Compared xs ys rest rest'
  shorter : (y : Tree) (more : List Tree) → ys ≡ xs ++ y ∷ more → Begins (y ∷ more) rest rest' → Compared xs ys rest rest'
  longer : (x : Tree) (more : List Tree) → xs ≡ ys ++ x ∷ more → Begins (x ∷ more) rest' rest → Compared xs ys rest rest'

cons_same : (x y : Tree) (xs ys : List Tree) → x ≡ y → xs ≡ ys → x ∷ xs ≡ y ∷ ys
cons_same x y xs ys e f = ap (λ (t : Tree). t ∷ xs) e ∙ ap (λ (l : List Tree). y ∷ l) f

cons_compared : (x y : Tree) (xs ys : List Tree) (rest rest' : List ℕ) → x ≡ y → Compared xs ys rest rest' → Compared (x ∷ xs) (y ∷ ys) rest rest'
cons_compared x y xs ys rest rest' e (same f g) = same (cons_same x y xs ys e f) g
cons_compared x y xs ys rest rest' e (shorter t more f g) = shorter t more (cons_same y x ys (xs ++ t ∷ more) (sym e) f) g
cons_compared x y xs ys rest rest' e (longer t more f g) = longer t more (cons_same x y xs (ys ++ t ∷ more) e f) g

pub compare : (xs ys : List Tree) (bytes rest rest' : List ℕ) → Begins xs bytes rest → Begins ys bytes rest' → Compared xs ys rest rest'
compare [] [] bytes rest rest' b c = same refl (sym b ∙ c)
compare [] (y ∷ ys) bytes rest rest' b c = shorter y ys refl (subst (λ (l : List ℕ). Begins (y ∷ ys) l rest') b c)
compare (x ∷ xs) [] bytes rest rest' b c = longer x xs refl (subst (λ (l : List ℕ). Begins (x ∷ xs) l rest) c b)
compare (x ∷ xs) (y ∷ ys) bytes rest rest' b c =
    let one = one_spelling_lem x y b.0 c.0 b.1 c.1 b.3 c.3 (sym b.2 ∙ c.2) in
    let behind : b.1 ≡ c.1 = append_cancel_left b.0 b.1 c.1 (sym b.2 ∙ c.2 ∙ ap (λ (l : List ℕ). l ++ c.1) (sym one.1)) in
    cons_compared x y xs ys rest rest' one.0 (compare xs ys b.1 rest rest' b.4 (subst (λ (l : List ℕ). Begins ys l rest') (sym behind) c.4))

-- after the end there is no item
pub nothing_more : (item : Tree) (more : List Tree) (rest : List ℕ) → Begins (item ∷ more) [] rest → ⊥
nothing_more item more rest b = absurd (let long = b.3.all in omega (arith, ap length b.2, length-append b.0 b.1, long))

-- ---- values and their items

module _ {X : Type 0} (item_of : X → Tree) where
  -- values whose items are cut at an item
  pub record CutValues (values : List X) (items : List Tree) (item : Tree) : Type 0 where
    pub before : List X
    pub value : X
    pub after : List X
    pub are : values ≡ before ++ value ∷ after
    pub items_are : items ≡ map item_of before
    pub item_is : item ≡ item_of value

  pub cut_values : (values : List X) (items more : List Tree) (item : Tree) → items ++ item ∷ more ≡ map item_of values → CutValues values items item
  cut_values [] [] more item e = absurd cc
  cut_values [] (x ∷ items) more item e = absurd cc
  cut_values (value ∷ values) [] more item e = record { before = []; value = value; after = values; are = refl; items_are = refl; item_is = cc }
  cut_values (value ∷ values) (x ∷ items) more item e =
      let tail : items ++ item ∷ more ≡ map item_of values = cc in
      let head : x ≡ item_of value = cc in
      let cut = cut_values values items more item tail in
      record {
        before = value ∷ cut.before;
        value = cut.value;
        after = cut.after;
        are = ap (λ (l : List X). value ∷ l) cut.are;
        items_are = ap (λ (t : Tree). t ∷ items) head ∙ ap (λ (l : List Tree). item_of value ∷ l) cut.items_are;
        item_is = cut.item_is;
      }

  pub values_once : ((a b : X) → item_of a ≡ item_of b → a ≡ b) → (xs ys : List X) → map item_of xs ≡ map item_of ys → xs ≡ ys
  values_once once [] [] e = refl
  values_once once [] (y ∷ ys) e = absurd cc
  values_once once (x ∷ xs) [] e = absurd cc
  values_once once (x ∷ xs) (y ∷ ys) e =
      let head : item_of x ≡ item_of y = cc in
      let tail : map item_of xs ≡ map item_of ys = cc in
      let one = once x y head in
      let all = values_once once xs ys tail in
      ap (λ (v : X). v ∷ xs) one ∙ ap (λ (l : List X). y ∷ l) all

-- ---- faults

module _ (AreRight : List Tree → Type 0) (ItemFault : List Tree → Tree → RecordKind → Type 0) (EndFault : List ℕ → List Tree → ℕ → RecordKind → Type 0) where
  -- what is wrong where these items end and this rest begins
  data Wrong (bytes : List ℕ) (items : List Tree) (rest : List ℕ) (offset : ℕ) (kind : RecordKind) : Type 0 where
    wrong_bytes : (from : ℕ) (flaw : FaultKind) → 0 < length rest → OuterFlaw rest from flaw → offset ≡ capped (rest_place bytes rest + from) → kind ≡ Ttlv flaw → Wrong bytes items rest offset kind
    wrong_item : (item : Tree) (front behind : List ℕ) → rest ≡ front ++ behind → Spells item front → ItemFault items item kind → offset ≡ rest_place bytes rest → Wrong bytes items rest offset kind
    wrong_end : rest ≡ [] → EndFault bytes items offset kind → Wrong bytes items rest offset kind

  record Located (bytes : List ℕ) (offset : ℕ) (kind : RecordKind) : Type 0 where
    items : List Tree
    rest : List ℕ
    up_to : IsUpTo AreRight bytes items rest
    wrong : Wrong bytes items rest offset kind

  located : (bytes : List ℕ) (offset : ℕ) (kind : RecordKind) → FirstFault AreRight ItemFault EndFault bytes offset kind → Located bytes offset kind
  located bytes offset kind (in_bytes items rest from flaw u some f o k) = record { items = items; rest = rest; up_to = u; wrong = wrong_bytes from flaw some f o k }
  located bytes offset kind (in_item items item front behind u s f o) = record { items = items; rest = front ++ behind; up_to = u; wrong = wrong_item item front behind refl s f o }
  located bytes offset kind (at_end items u f) = record { items = items; rest = []; up_to = u; wrong = wrong_end refl f }

  flawed_no_item : (item : Tree) (front behind rest : List ℕ) (from : ℕ) (flaw : FaultKind) → rest ≡ front ++ behind → Spells item front → OuterFlaw rest from flaw → ⊥
  flawed_no_item item front behind rest from flaw e s f =
      let given : IsBeginningOf (item ∷ []) [] = all_given [] (item ∷ []) rest rest behind from flaw refl f (front, behind, e, s, refl) in
      absurd (let none = given.1 in cc)

  spelled_some : (item : Tree) (front behind rest : List ℕ) → rest ≡ front ++ behind → Spells item front → rest ≡ [] → ⊥
  spelled_some item front behind rest e s none = absurd (omega (arith, ap length none, ap length e, length-append front behind, s.all))

  module _ (no_faulty : (items more : List Tree) (item : Tree) (kind : RecordKind) → AreRight (items ++ item ∷ more) → ItemFault items item kind → ⊥) where
    -- where the items go on right, nothing is wrong
    goes_on_right : (bytes : List ℕ) (items more : List Tree) (item : Tree) (rest rest' : List ℕ) (offset : ℕ) (kind : RecordKind) → AreRight (items ++ item ∷ more) → Begins (item ∷ more) rest rest'
        → Wrong bytes items rest offset kind → ⊥
    goes_on_right bytes items more item rest rest' offset kind right b (wrong_bytes from flaw some f o k) = flawed_no_item item b.0 b.1 rest from flaw b.2 b.3 f
    goes_on_right bytes items more item rest rest' offset kind right b (wrong_item other front behind e s f o) =
        let one = one_spelling_lem other item front b.0 behind b.1 s b.3 (sym e ∙ b.2) in
        no_faulty items more item kind right (subst (λ (t : Tree). ItemFault items t kind) one.0 f)
    goes_on_right bytes items more item rest rest' offset kind right b (wrong_end none f) = spelled_some item b.0 b.1 rest b.2 b.3 none

    whole_right : (bytes : List ℕ) (items others : List Tree) (rest : List ℕ) (offset : ℕ) (kind : RecordKind) → others ≡ items → rest ≡ [] → (EndFault bytes items offset kind → ⊥)
        → Wrong bytes others rest offset kind → ⊥
    whole_right bytes items others rest offset kind e none sound (wrong_bytes from flaw some f o k) = absurd (omega (arith, some, ap length none))
    whole_right bytes items others rest offset kind e none sound (wrong_item item front behind g s f o) = spelled_some item front behind rest g s none
    whole_right bytes items others rest offset kind e none sound (wrong_end h f) = sound (subst (λ (l : List Tree). EndFault bytes l offset kind) e f)

    -- a file that is right to its end has no fault
    pub no_fault : (bytes : List ℕ) (items : List Tree) (offset : ℕ) (kind : RecordKind) → IsUpTo AreRight bytes items [] → (EndFault bytes items offset kind → ⊥)
        → FirstFault AreRight ItemFault EndFault bytes offset kind → ⊥
    no_fault bytes items offset kind u sound fault =
        let at = located bytes offset kind fault in
        elim (compare at.items items bytes at.rest [] at.up_to.begins u.begins) [
          | same e f ↦ whole_right bytes items at.items at.rest offset kind e f sound at.wrong
          | shorter y more e b ↦ goes_on_right bytes at.items more y at.rest [] offset kind (subst AreRight e u.right) b at.wrong
          | longer x more e b ↦ spelled_some x b.0 b.1 [] b.2 b.3 refl
        ]

    module _ (one_item : (items : List Tree) (item : Tree) (j k : RecordKind) → ItemFault items item j → ItemFault items item k → j ≡ k)
        (one_end : (bytes : List ℕ) (items : List Tree) (o p : ℕ) (j k : RecordKind) → EndFault bytes items o j → EndFault bytes items p k → (o ≡ p) × (j ≡ k)) where
      one_wrong : (bytes : List ℕ) (items : List Tree) (rest : List ℕ) (o p : ℕ) (j k : RecordKind) → Wrong bytes items rest o j → Wrong bytes items rest p k → (o ≡ p) × (j ≡ k)
      one_wrong bytes items rest o p j k (wrong_bytes m a s f x y) (wrong_bytes n b t g v w) =
          let one = one_flaw_lem rest m n a b f g in
          (x ∙ ap (λ (from : ℕ). capped (rest_place bytes rest + from)) one.0 ∙ sym v, y ∙ ap Ttlv one.1 ∙ sym w)
      one_wrong bytes items rest o p j k (wrong_bytes m a s f x y) (wrong_item item front behind e t g v) = absurd (flawed_no_item item front behind rest m a e t f)
      one_wrong bytes items rest o p j k (wrong_bytes m a s f x y) (wrong_end none g) = absurd (omega (arith, s, ap length none))
      one_wrong bytes items rest o p j k (wrong_item item front behind e t g v) (wrong_bytes m a s f x y) = absurd (flawed_no_item item front behind rest m a e t f)
      one_wrong bytes items rest o p j k (wrong_item item front behind e t g v) (wrong_item other front' behind' e' t' g' v') =
          let one = one_spelling_lem item other front front' behind behind' t t' (sym e ∙ e') in
          (v ∙ sym v', one_item items other j k (subst (λ (i : Tree). ItemFault items i j) one.0 g) g')
      one_wrong bytes items rest o p j k (wrong_item item front behind e t g v) (wrong_end none h) = absurd (spelled_some item front behind rest e t none)
      one_wrong bytes items rest o p j k (wrong_end none g) (wrong_bytes m a s f x y) = absurd (omega (arith, s, ap length none))
      one_wrong bytes items rest o p j k (wrong_end none g) (wrong_item item front behind e t h v) = absurd (spelled_some item front behind rest e t none)
      one_wrong bytes items rest o p j k (wrong_end none g) (wrong_end none' h) = one_end bytes items o p j k g h

      pub one_fault : (bytes : List ℕ) (o p : ℕ) (j k : RecordKind) → FirstFault AreRight ItemFault EndFault bytes o j → FirstFault AreRight ItemFault EndFault bytes p k → (o ≡ p) × (j ≡ k)
      one_fault bytes o p j k f g =
          let a = located bytes o j f in
          let b = located bytes p k g in
          elim (compare a.items b.items bytes a.rest b.rest a.up_to.begins b.up_to.begins) [
            | same e r ↦ one_wrong bytes b.items b.rest o p j k
                (subst (λ (l : List Tree). Wrong bytes l b.rest o j) e (subst (λ (l : List ℕ). Wrong bytes a.items l o j) r a.wrong)) b.wrong
            | shorter y more e c ↦ absurd (goes_on_right bytes a.items more y a.rest b.rest o j (subst AreRight e b.up_to.right) c a.wrong)
            | longer x more e c ↦ absurd (goes_on_right bytes b.items more x b.rest a.rest p k (subst AreRight e a.up_to.right) c b.wrong)
          ]

-- Turns and their items.
use Rattle.std.proofs.Common.{◌≡◌, ◌≢◌, ℕ, ℤ, List, [], ◌∷◌, ◌++◌, map, Option, None, Some, refl, sym, ap, subst, ◌∙◌, arith, ◌<◌, suc, length, take, drop, get_or, append_assoc}
use Rattle.std.specs.Prelude.{All}
use Rattle.std.proofs.lemmas.List.{take-append-drop, append-nil, map-append}
use Rattle.std.proofs.lemmas.List.Elements.{All-push, All-nil, All-tail}
use Rattle.std.proofs.Math.Seq.{drop-cons}
use Rattle.kmipa_ttlv.specs.Tree.{Tree, Trees, structure, none, more, forest}
use Rattle.kmipa_ttlv.specs.ItemTree.{tree, trees}
use Rattle.kmipa_ttlv.specs.declared.item.Item.{Item}
use Rattle.kmipa_attrs.specs.Fields.{tag_of}
use Rattle.kmipa_record.specs.Tags.{turn_tag, answer_tag, place_tag, turn_moment_tag, fill_tag, birth_tag, aside_tag}
use Rattle.kmipa_record.specs.Witnesses.{FillOf, BirthOf, TurnOf, call_item, answer_item, place_item, moment_item, fill_item, birth_item, aside_place_item, listed, turn_fields, turn_item, IsPayload, ArePayloads, IsAttributes, AreBirths}
use Rattle.kmipa_record.specs.WitnessReading.{BeginsTurn, HasPayload, HasAttributes, IsAny, Leads, MayLead, NotAhead, list_of}
use Rattle.kmipa_record.proofs.FirstFaultLemmas.{values_once}

-- ---- lists that begin with the items of values

-- another item is ahead, or none
abbrev pub NotTagged : ℕ → List Tree → Type 0
NotTagged n [] = Unit {0}
NotTagged n (t ∷ ts) = tag_of t ≢ n

untagged : {X : Type 0} (item_of : X → Tree) (n : ℕ) (items : List Tree) → ((x : X) → tag_of (item_of x) ≡ n) → NotTagged n items → NotAhead item_of items
untagged item_of n [] tagged not x rest e = absurd cc
untagged item_of n (t ∷ ts) tagged not x rest e = not (let same : t ≡ item_of x = cc in ap tag_of same ∙ tagged x)

-- items with another tag are ahead of such ones
ahead : {X : Type 0} (item_of : X → Tree) (m n : ℕ) (xs : List X) (rest : List Tree) → ((x : X) → tag_of (item_of x) ≡ m) → (m ≡ n → ⊥) → NotTagged n rest → NotTagged n (map item_of xs ++ rest)
ahead item_of m n [] rest tagged ne not = not
ahead item_of m n (x ∷ xs) rest tagged ne not = λ e. ne (sym (tagged x) ∙ e)

module _ {X : Type 0} (Is : X → Type 0) (item_of : X → Tree) (once : (a b : X) → item_of a ≡ item_of b → a ≡ b) where
  -- the values that lead are the only ones
  pub front_once : (xs ys : List X) (rest others : List Tree) → All Is xs → All Is ys → ((x : X) (more : List Tree) → Is x → rest ≢ item_of x ∷ more) → NotAhead item_of others
      → map item_of xs ++ rest ≡ map item_of ys ++ others → (xs ≡ ys) × (rest ≡ others)
  front_once [] [] rest others i j n m e = (refl, e)
  front_once [] (y ∷ ys) rest others i j n m e = absurd (n y (map item_of ys ++ others) (j 0 y (omega arith)) e)
  front_once (x ∷ xs) [] rest others i j n m e = absurd (m x (map item_of xs ++ rest) (sym e))
  front_once (x ∷ xs) (y ∷ ys) rest others i j n m e =
      let head : item_of x ≡ item_of y = cc in
      let tail : map item_of xs ++ rest ≡ map item_of ys ++ others = cc in
      let one = once x y head in
      let all = front_once xs ys rest others (All-tail Is x xs i) (All-tail Is y ys j) n m tail in
      (ap (λ (v : X). v ∷ xs) one ∙ ap (λ (l : List X). y ∷ l) all.0, all.1)

  leads_once : (items : List Tree) (xs ys : List X) (rest others : List Tree) → Leads Is item_of items xs rest → All Is ys → NotAhead item_of others → items ≡ map item_of ys ++ others → rest ≡ others
  leads_once items xs ys rest others l all m e = (front_once xs ys rest others l.each all l.last m (sym l.are ∙ e)).1

may_lead_once : {X : Type 0} (item_of : X → Tree) (items : List Tree) (o p : Option X) (rest others : List Tree) → MayLead item_of items o rest → NotAhead item_of others → items ≡ map item_of (listed p) ++ others → rest ≡ others
may_lead_once item_of items None None rest others l m e = sym l.are ∙ e
may_lead_once item_of items None (Some y) rest others l m e = absurd (l.first refl y others e)
may_lead_once item_of items (Some x) None rest others l m e = absurd (m x rest (sym e ∙ l.are))
may_lead_once item_of items (Some x) (Some y) rest others l m e = let both : item_of x ∷ rest ≡ item_of y ∷ others = sym l.are ∙ e in cc

any_numbers : (xs : List ℤ) → All IsAny xs
any_numbers xs = λ k d h. tt

-- ---- the fields

forest_once : (xs ys : List Tree) → forest (λ (t : Tree). t) xs ≡ forest (λ (t : Tree). t) ys → xs ≡ ys
forest_once [] [] e = refl
forest_once [] (y ∷ ys) e = absurd cc
forest_once (x ∷ xs) [] e = absurd cc
forest_once (x ∷ xs) (y ∷ ys) e =
    let head : x ≡ y = cc in
    let tail : forest (λ (t : Tree). t) xs ≡ forest (λ (t : Tree). t) ys = cc in
    ap (λ (t : Tree). t ∷ xs) head ∙ ap (λ (l : List Tree). y ∷ l) (forest_once xs ys tail)

answer_once : (a b : List ℕ) → answer_item a ≡ answer_item b → a ≡ b
answer_once a b e = cc

place_once : (a b : ℤ) → place_item a ≡ place_item b → a ≡ b
place_once a b e = cc

moment_once : (a b : ℤ) → moment_item a ≡ moment_item b → a ≡ b
moment_once a b e = cc

aside_once : (a b : ℤ) → aside_place_item a ≡ aside_place_item b → a ≡ b
aside_once a b e = cc

fill_once : (a b : FillOf) → fill_item a ≡ fill_item b → a ≡ b
fill_once a b e =
    let item : a.item ≡ b.item = cc in
    let payload : a.payload ≡ b.payload = cc in
    let of : ℤ → Tree → FillOf = λ n t. record { item = n; payload = t } in
    ap (λ (n : ℤ). of n a.payload) item ∙ ap (of b.item) payload

birth_once : (a b : BirthOf) → birth_item a ≡ birth_item b → a ≡ b
birth_once a b e =
    let item : a.item ≡ b.item = cc in
    let attributes : a.attributes ≡ b.attributes = cc in
    let of : ℤ → Tree → BirthOf = λ n t. record { item = n; attributes = t } in
    ap (λ (n : ℤ). of n a.attributes) item ∙ ap (of b.item) attributes

listed_once : {A : Type 0} (o p : Option A) → listed o ≡ listed p → o ≡ p
listed_once None None e = refl
listed_once None (Some y) e = absurd cc
listed_once (Some x) None e = absurd cc
listed_once (Some x) (Some y) e = let same : x ≡ y = cc in ap Some same

-- what is behind each kind of a turn's children
abbrev behind_births : TurnOf → List Tree
behind_births t = map aside_place_item t.asides

abbrev behind_fills : TurnOf → List Tree
behind_fills t = map birth_item t.births ++ behind_births t

abbrev behind_moment : TurnOf → List Tree
behind_moment t = map fill_item t.fills ++ behind_fills t

abbrev behind_places : TurnOf → List Tree
behind_places t = map moment_item (listed t.moment) ++ behind_moment t

abbrev behind_answer : TurnOf → List Tree
behind_answer t = map place_item t.places ++ behind_places t

-- nothing with this tag is ahead of what is behind each kind
module _ (n : ℕ) (t : TurnOf) (no_aside : aside_tag ≡ n → ⊥) where
  free_births : NotTagged n (behind_births t)
  free_births = subst (NotTagged n) (append-nil (behind_births t)) (ahead aside_place_item aside_tag n t.asides [] (λ x. refl) no_aside tt)

  free_fills : (birth_tag ≡ n → ⊥) → NotTagged n (behind_fills t)
  free_fills no_birth = ahead birth_item birth_tag n t.births (behind_births t) (λ x. refl) no_birth free_births

  free_moment : (birth_tag ≡ n → ⊥) → (fill_tag ≡ n → ⊥) → NotTagged n (behind_moment t)
  free_moment no_birth no_fill = ahead fill_item fill_tag n t.fills (behind_fills t) (λ x. refl) no_fill (free_fills no_birth)

  free_places : (birth_tag ≡ n → ⊥) → (fill_tag ≡ n → ⊥) → (turn_moment_tag ≡ n → ⊥) → NotTagged n (behind_places t)
  free_places no_birth no_fill no_moment = ahead moment_item turn_moment_tag n (listed t.moment) (behind_moment t) (λ x. refl) no_moment (free_moment no_birth no_fill)

  free_answer : (birth_tag ≡ n → ⊥) → (fill_tag ≡ n → ⊥) → (turn_moment_tag ≡ n → ⊥) → (place_tag ≡ n → ⊥) → NotTagged n (behind_answer t)
  free_answer no_birth no_fill no_moment no_place = ahead place_item place_tag n t.places (behind_places t) (λ x. refl) no_place (free_places no_birth no_fill no_moment)

no_birth_behind : (t : TurnOf) → NotAhead birth_item (behind_births t)
no_birth_behind t = untagged birth_item birth_tag (behind_births t) (λ x. refl) (free_births birth_tag t (λ h. absurd (omega (arith, h))))

no_fill_behind : (t : TurnOf) → NotAhead fill_item (behind_fills t)
no_fill_behind t = untagged fill_item fill_tag (behind_fills t) (λ x. refl) (free_fills fill_tag t (λ h. absurd (omega (arith, h))) (λ h. absurd (omega (arith, h))))

no_moment_behind : (t : TurnOf) → NotAhead moment_item (behind_moment t)
no_moment_behind t = untagged moment_item turn_moment_tag (behind_moment t) (λ x. refl)
    (free_moment turn_moment_tag t (λ h. absurd (omega (arith, h))) (λ h. absurd (omega (arith, h))) (λ h. absurd (omega (arith, h))))

no_place_behind : (t : TurnOf) → NotAhead place_item (behind_places t)
no_place_behind t = untagged place_item place_tag (behind_places t) (λ x. refl)
    (free_places place_tag t (λ h. absurd (omega (arith, h))) (λ h. absurd (omega (arith, h))) (λ h. absurd (omega (arith, h))) (λ h. absurd (omega (arith, h))))

no_answer_behind : (t : TurnOf) → NotAhead answer_item (behind_answer t)
no_answer_behind t = untagged answer_item answer_tag (behind_answer t) (λ x. refl)
    (free_answer answer_tag t (λ h. absurd (omega (arith, h))) (λ h. absurd (omega (arith, h))) (λ h. absurd (omega (arith, h))) (λ h. absurd (omega (arith, h))) (λ h. absurd (omega (arith, h))))

-- ---- a turn has one item

-- whatever the values are
split_once : {X : Type 0} (item_of : X → Tree) → ((a b : X) → item_of a ≡ item_of b → a ≡ b) → (xs ys : List X) (rest others : List Tree) → NotAhead item_of rest → NotAhead item_of others
    → map item_of xs ++ rest ≡ map item_of ys ++ others → (xs ≡ ys) × (rest ≡ others)
split_once {X} item_of once xs ys rest others n m e = front_once (λ (x : X). Unit {0}) item_of once xs ys rest others (λ k d h. tt) (λ k d h. tt) (λ x more _. n x more) m e

abbrev turn_with : ℤ → Option (List ℕ) → List ℤ → Option ℤ → List FillOf → List BirthOf → List ℤ → TurnOf
turn_with call answer places moment fills births asides = record { call = call; answer = answer; places = places; moment = moment; fills = fills; births = births; asides = asides }

pub turn_item_once : (a b : TurnOf) → turn_item a ≡ turn_item b → a ≡ b
turn_item_once a b e =
    let trees : forest (λ (t : Tree). t) (turn_fields a) ≡ forest (λ (t : Tree). t) (turn_fields b) = cc in
    let fields : turn_fields a ≡ turn_fields b = forest_once (turn_fields a) (turn_fields b) trees in
    let call : a.call ≡ b.call = cc in
    let behind : map answer_item (listed a.answer) ++ behind_answer a ≡ map answer_item (listed b.answer) ++ behind_answer b = cc in
    let answers = split_once answer_item answer_once (listed a.answer) (listed b.answer) (behind_answer a) (behind_answer b) (no_answer_behind a) (no_answer_behind b) behind in
    let places = split_once place_item place_once a.places b.places (behind_places a) (behind_places b) (no_place_behind a) (no_place_behind b) answers.1 in
    let moments = split_once moment_item moment_once (listed a.moment) (listed b.moment) (behind_moment a) (behind_moment b) (no_moment_behind a) (no_moment_behind b) places.1 in
    let fills = split_once fill_item fill_once a.fills b.fills (behind_fills a) (behind_fills b) (no_fill_behind a) (no_fill_behind b) moments.1 in
    let births = split_once birth_item birth_once a.births b.births (behind_births a) (behind_births b) (no_birth_behind a) (no_birth_behind b) fills.1 in
    let asides = values_once aside_place_item aside_once a.asides b.asides births.1 in
    ap (λ (n : ℤ). turn_with n a.answer a.places a.moment a.fills a.births a.asides) call
    ∙ ap (λ (o : Option (List ℕ)). turn_with b.call o a.places a.moment a.fills a.births a.asides) (listed_once a.answer b.answer answers.0)
    ∙ ap (λ (l : List ℤ). turn_with b.call b.answer l a.moment a.fills a.births a.asides) places.0
    ∙ ap (λ (o : Option ℤ). turn_with b.call b.answer b.places o a.fills a.births a.asides) (listed_once a.moment b.moment moments.0)
    ∙ ap (λ (l : List FillOf). turn_with b.call b.answer b.places b.moment l a.births a.asides) fills.0
    ∙ ap (λ (l : List BirthOf). turn_with b.call b.answer b.places b.moment b.fills l a.asides) births.0
    ∙ ap (λ (l : List ℤ). turn_with b.call b.answer b.places b.moment b.fills b.births l) asides

-- ---- a turn that is read child by child

forest_list : (ts : Trees) → ts ≡ forest (λ (t : Tree). t) (list_of ts)
forest_list none = refl
forest_list (more t ts) = ap (more t) (forest_list ts)

-- the children of a turn's item
children_are : (item : Tree) (children : Trees) (t : TurnOf) → item ≡ structure turn_tag children → item ≡ turn_item t → list_of children ≡ turn_fields t
children_are item children t e f =
    let both : structure turn_tag children ≡ turn_item t = sym e ∙ f in
    let same : children ≡ forest (λ (u : Tree). u) (turn_fields t) = cc in
    forest_once (list_of children) (turn_fields t) (sym (forest_list children) ∙ same)

pub no_call : (item : Tree) (children : Trees) → item ≡ structure turn_tag children → ((call : ℤ) (rest : List Tree) → list_of children ≡ call_item call ∷ rest → ⊥)
    → (t : TurnOf) → item ≡ turn_item t → ⊥
no_call item children e isnt t f = isnt t.call (map answer_item (listed t.answer) ++ behind_answer t) (children_are item children t e f)

-- where the children are those of a turn, nothing is behind the turn that they begin with
all_taken : (fields : List Tree) (t u : TurnOf) (rest : List Tree) → BeginsTurn fields t rest → ArePayloads u.fills → AreBirths u.births → fields ≡ turn_fields u → rest ≡ []
all_taken fields t u rest b payloads attributes e =
    let both : call_item t.call ∷ b.behind_call ≡ turn_fields u = sym b.call ∙ e in
    let called : b.behind_call ≡ map answer_item (listed u.answer) ++ behind_answer u = cc in
    let answered = may_lead_once answer_item b.behind_call t.answer u.answer b.behind_answer (behind_answer u) b.answer (no_answer_behind u) called in
    let placed = leads_once IsAny place_item place_once b.behind_answer t.places u.places b.behind_places (behind_places u) b.places (any_numbers u.places) (no_place_behind u) answered in
    let timed = may_lead_once moment_item b.behind_places t.moment u.moment b.behind_moment (behind_moment u) b.moment (no_moment_behind u) placed in
    let filled = leads_once HasPayload fill_item fill_once b.behind_moment t.fills u.fills b.behind_fills (behind_fills u) b.fills payloads (no_fill_behind u) timed in
    let born = leads_once HasAttributes birth_item birth_once b.behind_fills t.births u.births b.behind_births (behind_births u) b.births attributes (no_birth_behind u) filled in
    leads_once IsAny aside_place_item aside_once b.behind_births t.asides u.asides rest [] b.asides (any_numbers u.asides) (λ x more h. absurd cc) (born ∙ sym (append-nil (behind_births u)))

pub something_behind : (item : Tree) (children : Trees) (t u : TurnOf) (rest left : Trees) (next : Tree) → item ≡ structure turn_tag children → BeginsTurn (list_of children) t (list_of rest) → rest ≡ more next left
    → item ≡ turn_item u → ArePayloads u.fills → AreBirths u.births → ⊥
something_behind item children t u rest left next e b some f payloads attributes =
    let taken = all_taken (list_of children) t u (list_of rest) b payloads attributes (children_are item children u e f) in
    absurd (let clash : next ∷ list_of left ≡ [] = sym (ap list_of some) ∙ taken in cc)

fields_read : (fields : List Tree) (t : TurnOf) → BeginsTurn fields t [] → fields ≡ turn_fields t
fields_read fields t b =
    let born : b.behind_fills ≡ behind_fills t = b.births.are ∙ ap (λ (l : List Tree). map birth_item t.births ++ l) (b.asides.are ∙ append-nil (behind_births t)) in
    let timed : b.behind_places ≡ behind_places t = b.moment.are ∙ ap (λ (l : List Tree). map moment_item (listed t.moment) ++ l) (b.fills.are ∙ ap (λ (l : List Tree). map fill_item t.fills ++ l) born) in
    let answered : b.behind_call ≡ map answer_item (listed t.answer) ++ behind_answer t
    = b.answer.are ∙ ap (λ (l : List Tree). map answer_item (listed t.answer) ++ l) (b.places.are ∙ ap (λ (l : List Tree). map place_item t.places ++ l) timed) in
    b.call ∙ ap (λ (l : List Tree). call_item t.call ∷ l) answered

pub turn_read : (item : Tree) (children : Trees) (t : TurnOf) (rest : Trees) → item ≡ structure turn_tag children → BeginsTurn (list_of children) t (list_of rest) → rest ≡ none
    → (item ≡ turn_item t) × ArePayloads t.fills × AreBirths t.births
turn_read item children t rest e b end =
    let whole : BeginsTurn (list_of children) t [] = subst (λ (ts : Trees). BeginsTurn (list_of children) t (list_of ts)) end b in
    (e ∙ ap (structure turn_tag) (forest_list children ∙ ap (forest (λ (u : Tree). u)) (fields_read (list_of children) t whole)), whole.fills.each, whole.births.each)

-- one more value leads
pub leads_more : {X : Type 0} (Is : X → Type 0) (item_of : X → Tree) (items left rest : List Tree) (xs : List X) (x : X) → items ≡ map item_of xs ++ left → left ≡ item_of x ∷ rest
    → items ≡ map item_of (xs ++ x ∷ []) ++ rest
leads_more Is item_of items left rest xs x e next =
    e ∙ ap (λ (l : List Tree). map item_of xs ++ l) next ∙ sym (append_assoc (map item_of xs) (item_of x ∷ []) rest) ∙ ap (λ (l : List Tree). l ++ rest) (sym (map-append item_of xs (x ∷ [])))

-- a list at one of its elements
pub cut_here : {X : Type 0} (xs : List X) (i : ℕ) (x : X) → i < length xs → x ≡ get_or xs i x → xs ≡ take i xs ++ x ∷ drop (suc i) xs
cut_here xs i x h is =
    sym (take-append-drop i xs) ∙ ap (λ (l : List _). take i xs ++ l) (drop-cons xs i x h ∙ ap (λ (y : _). y ∷ drop (suc i) xs) (sym is))

-- ---- a turn that is written child by child

forest_items : (items : List Item) → trees items ≡ forest (λ (t : Tree). t) (map tree items)
forest_items [] = refl
forest_items (i ∷ items) = ap (more (tree i)) (forest_items items)

-- the items of a kind were put after the others
abbrev pub Pushes : {X : Type 0} → (X → Tree) → List X → List Item → List Item → Type 0
Pushes item_of xs old new = map tree new ≡ map tree old ++ map item_of xs

step : (old new xs rest : List Tree) → new ≡ old ++ xs → new ++ rest ≡ old ++ (xs ++ rest)
step old new xs rest e = ap (λ (l : List Tree). l ++ rest) e ∙ append_assoc old xs rest

pub turn_written : (item : Tree) (t : TurnOf) (called answered placed timed filled born children : List Item) → item ≡ structure turn_tag (trees children) → map tree called ≡ call_item t.call ∷ []
    → Pushes answer_item (listed t.answer) called answered → Pushes place_item t.places answered placed → Pushes moment_item (listed t.moment) placed timed → Pushes fill_item t.fills timed filled
    → Pushes birth_item t.births filled born → Pushes aside_place_item t.asides born children → item ≡ turn_item t
turn_written item t called answered placed timed filled born children e call answers places moments fills births asides =
    let fields : map tree children ≡ turn_fields t
    = asides ∙ step (map tree filled) (map tree born) (map birth_item t.births) (behind_births t) births
    ∙ step (map tree timed) (map tree filled) (map fill_item t.fills) (behind_fills t) fills
    ∙ step (map tree placed) (map tree timed) (map moment_item (listed t.moment)) (behind_moment t) moments
    ∙ step (map tree answered) (map tree placed) (map place_item t.places) (behind_places t) places
    ∙ step (map tree called) (map tree answered) (map answer_item (listed t.answer)) (behind_answer t) answers
    ∙ ap (λ (l : List Tree). l ++ (map answer_item (listed t.answer) ++ behind_answer t)) call in
    e ∙ ap (structure turn_tag) (forest_items children ∙ ap (forest (λ (u : Tree). u)) fields)

-- Births: what they make of a request.
use Rattle.std.proofs.Common.{◌≡◌, ◌≢◌, ◌↔◌, ◌<◌, ◌⊎◌, inl, inr, ℕ, ◌+◌, List, [], ◌∷◌, ◌++◌, map, length, take, get_or, Contains, Option, Some, None, slice_get, Err, refl, sym, ap, ◌∙◌, subst, arith}
use Rattle.std.specs.Prelude.{All, AllPairs, Bool, true, false}
use Rattle.std.proofs.lemmas.List.{length-append, map-append, take_more}
use Rattle.kmipa_ttlv.specs.Tree.{Tree, Trees, structure, scalar, none, more, tag_of}
use Rattle.kmipa_ttlv.specs.ViewTree.{view_tree}
use Rattle.kmipa_ttlv.specs.declared.view.View.{View}
use Rattle.kmipa_ttlv.proofs.ViewTreeLemmas.{tag_of-view}
use Rattle.kmipa_attrs.specs.Fields.{as_structure}
use Rattle.kmipa_attrs.specs.Names.{with_name, with_names}
use Rattle.kmipa_attrs.specs.Sets.{Attributes, NameOf, name_of}
use Rattle.kmipa_attrs.specs.declared.name.Name.{Name}
use Rattle.kmipa_record.specs.Lines.{own_tag}
use Rattle.kmipa_record.specs.Witnesses.{BirthOf}
use Rattle.kmipa_record.specs.declared.own_attribute.OwnAttribute.{OwnAttribute}
use Rattle.kmipa_msgs.specs.Messages.{AskOf, RequestOf, ResponseOf}
use Rattle.kmipa_check.specs.Bearing.{AreBornUpTo, AskCompleted, BirthsRefused, FormRefused, IsAskCompleted, IsBirthFound, IsCompleted}
use Rattle.kmipa_check.specs.Births.{AreBirthsWanted, AreGranted, AreSomeGranted, BirthFault, HasGranted, IsBirthFor, IsBirthOf, IsBorn, IsBornAt, IsGranted, SomeMisformed, as_asked, completed, formless, not_wanted, with_birth}
use Rattle.kmipa_check.specs.Deciding.{Decided}
use Rattle.kmipa_check.specs.Grants.{GrantsOf}
use Rattle.kmipa_check.specs.declared.fault.StepFault.{StepFault}
use Rattle.kmipa_check.specs.declared.fault.StepFault.TheVariants.{Unfit, Memory}
use Rattle.kmipa_check.specs.declared.fault.WitnessKind.{WitnessKind}
use Rattle.kmipa_check.proofs.BirthLemmas.{birth_within}
use Rattle.kmipa_check.proofs.FillLemmas.{once_at}
use Rattle.kmipa_check.proofs.PlaceLemmas.{apart, at_contains, at_within, pushed_at, same_elements, some_at}

-- ---- no births

none_in : (birth : BirthOf) → Contains [] birth → ⊥
none_in birth one = let p = at_contains [] birth one in let at = p.1 in cc

-- without births a request stays as it is
pub born_itself : (g : GrantsOf) (request : RequestOf) (response : ResponseOf) → IsBorn g request response [] request
born_itself g request response = record {
  wanted = record { each = λ birth one. absurd (none_in birth one); once = λ i j d below within. absurd (omega (arith, within)) };
  option = refl;
  ordered = refl;
  counted = refl;
  each = λ place ask born there at. as_asked (λ birth one its. none_in birth one) (let same : ask ≡ born = cc in sym same);
}

pub born_nothing : (g : GrantsOf) (request : RequestOf) (response : ResponseOf) (births : List BirthOf) → births ≡ [] → IsBorn g request response births request
born_nothing g request response births nothing = let P : List BirthOf → Type 0 = λ bs. IsBorn g request response bs request in subst P (sym nothing) (born_itself g request response)

-- ---- one request

same_request : (a b : RequestOf) → a.option ≡ b.option → a.ordered ≡ b.ordered → a.items ≡ b.items → a ≡ b
same_request a b e f h = λ j. record { option = e j; ordered = f j; items = h j }

never_granted : (g : GrantsOf) (t : Tree) → g.own ≡ [] → HasGranted g t → ⊥
never_granted g (structure n none) nothing h = h
never_granted g (structure n (more t ts)) nothing h = by h.0.0 (subst (λ (own : List OwnAttribute). Contains own h.0.0) nothing h.0.1)
  where
    by : (a : OwnAttribute) → Contains [] a → ⊥
    by a one = let p = at_contains [] a one in let at = p.1 in cc
never_granted g (scalar n s) nothing h = h

-- where no attribute is granted it is the one that was recorded
pub born_same : (g : GrantsOf) (request : RequestOf) (response : ResponseOf) (births : List BirthOf) (full : RequestOf) → g.own ≡ [] → IsBorn g request response births full → full ≡ request
born_same g request response births full nothing b = same_request full request b.option b.ordered (same_elements full.items request.items b.counted (λ i x at. by i x at))
  where
    by : (i : ℕ) (x : AskOf) → slice_get full.items i ≡ Some x → slice_get request.items i ≡ Some x
    by i x at =
        let ask = some_at request.items i (omega (arith, at_within full.items i x at, b.counted)) in
        here (b.each i ask.0 x ask.1 at) ask.1
      where
        here : {y : AskOf} → IsBornAt g births i y x → slice_get request.items i ≡ Some y → slice_get request.items i ≡ Some x
        here (as_asked unborn is) there = there ∙ ap Some (sym is)
        here (completed birth one its attributes of is) there = absurd (never_granted g birth.attributes nothing of.granted)

-- no two births are for one place
module _ (births : List BirthOf) (once : AllPairs (λ (a b : BirthOf). a.item ≢ b.item) births) where
  same_birth : (a b : BirthOf) → Contains births a → Contains births b → a.item ≡ b.item → a ≡ b
  same_birth a b one other same = by (at_contains births a one) (at_contains births b other)
    where
      by : (i : ℕ) × (slice_get births i ≡ Some a) → (j : ℕ) × (slice_get births j ≡ Some b) → a ≡ b
      by p q = elim (apart p.0 q.0) [
        | inl h ↦ absurd (once_at (λ (x : BirthOf). x.item) births once p.0 q.0 a b h p.1 q.1 same)
        | inr r ↦ elim r [
          | inl h ↦ absurd (once_at (λ (x : BirthOf). x.item) births once q.0 p.0 b a h q.1 p.1 (sym same))
          | inr e ↦
              let at = p.1 in
              let there = q.1 in
              cc
        ]
      ]

  one_born_at : (g : GrantsOf) (place : ℕ) (ask full other : AskOf) → IsBornAt g births place ask full → IsBornAt g births place ask other → full ≡ other
  one_born_at g place ask full other (as_asked unborn is) (as_asked never same) = is ∙ sym same
  one_born_at g place ask full other (as_asked unborn is) (completed birth one its attributes of same) = absurd (unborn birth one its)
  one_born_at g place ask full other (completed birth one its attributes of is) (as_asked never same) = absurd (never birth one its)
  one_born_at g place ask full other (completed birth one its a of is) (completed another some named b said same) =
      let e = same_birth another birth some one (named ∙ sym its) in
      let P : BirthOf → Type 0 = λ x. IsBirthOf g x b in
      let says = subst P e said in
      let attributes : b ≡ a = of.says.only b says.says.said in
      is ∙ sym (ap (λ (x : Attributes). with_birth ask x) attributes) ∙ sym same

pub one_born : (g : GrantsOf) (request : RequestOf) (response : ResponseOf) (births : List BirthOf) (full other : RequestOf) → IsBorn g request response births full → IsBorn g request response births other → full ≡ other
one_born g request response births full other a b =
    same_request full other (a.option ∙ sym b.option) (a.ordered ∙ sym b.ordered) (same_elements full.items other.items (a.counted ∙ sym b.counted) (λ i x at. by i x at))
  where
    by : (i : ℕ) (x : AskOf) → slice_get full.items i ≡ Some x → slice_get other.items i ≡ Some x
    by i x at =
        let within = at_within full.items i x at in
        let y = some_at other.items i (omega (arith, within, a.counted, b.counted)) in
        let ask = some_at request.items i (omega (arith, within, a.counted)) in
        let e = one_born_at births a.wanted.once g i ask.0 y.0 x (b.each i ask.0 y.0 ask.1 y.1) (a.each i ask.0 x ask.1 at) in
        y.1 ∙ ap Some e

-- ---- one fault

never_misformed : (g : GrantsOf) (request : RequestOf) (response : ResponseOf) (births : List BirthOf) (full : RequestOf) → IsBorn g request response births full → SomeMisformed g births → ⊥
never_misformed g request response births full b s =
    let w = b.wanted.each s.birth s.one in
    let within = birth_within request response w.0 w.2 in
    let ask = some_at request.items w.0 within.0 in
    let x = some_at full.items w.0 (omega (arith, within.0, b.counted)) in
    by w.0 w.1 (b.each w.0 ask.0 x.0 ask.1 x.1)
  where
    by : (place : ℕ) → IsBirthFor s.birth place → {ask x : AskOf} → IsBornAt g births place ask x → ⊥
    by place its (as_asked unborn is) = unborn s.birth s.one its
    by place its (completed birth one named attributes of is) =
        let e = same_birth births b.wanted.once birth s.birth one s.one (named ∙ sym its) in
        let P : BirthOf → Type 0 = λ x. IsBirthOf g x attributes in
        s.misformed attributes (subst P e of)

-- births that are put in have none
pub born_right : (g : GrantsOf) (request : RequestOf) (response : ResponseOf) (births : List BirthOf) (full : RequestOf) (kind : WitnessKind) → IsBorn g request response births full
    → BirthFault g request response births kind → ⊥
born_right g request response births full kind b (not_wanted never is) = never b.wanted
born_right g request response births full kind b (formless wanted some is) = never_misformed g request response births full b some

pub one_birth_fault : (g : GrantsOf) (request : RequestOf) (response : ResponseOf) (births : List BirthOf) (kind other : WitnessKind) → BirthFault g request response births kind → BirthFault g request response births other → kind ≡ other
one_birth_fault g request response births kind other (not_wanted never is) (not_wanted any same) = is ∙ sym same
one_birth_fault g request response births kind other (not_wanted never is) (formless wanted some same) = absurd (never wanted)
one_birth_fault g request response births kind other (formless wanted some is) (not_wanted never same) = absurd (never wanted)
one_birth_fault g request response births kind other (formless wanted some is) (formless any others same) = is ∙ sym same

-- ---- births that are put in, one item after the other

pub born_none : (g : GrantsOf) (asks : List AskOf) (births : List BirthOf) (full : List AskOf) → full ≡ [] → AreBornUpTo g asks births 0 full
born_none g asks births [] is = record { counted = refl; within = omega arith; each = λ place ask born there at. absurd cc }
born_none g asks births (x ∷ full) is = absurd cc

pub born_more : (g : GrantsOf) (asks : List AskOf) (births : List BirthOf) (count : ℕ) (full : List AskOf) (ask born : AskOf) → slice_get asks count ≡ Some ask → IsBornAt g births count ask born
    → AreBornUpTo g asks births count full → AreBornUpTo g asks births (count + 1) (full ++ born ∷ [])
born_more g asks births count full ask born here its f = record {
  counted = omega (arith, f.counted, length-append full (born ∷ []));
  within = omega (arith, at_within asks count ask here);
  each = λ place x y there at. by place x y there (pushed_at full born place y at);
}
  where
    by : (place : ℕ) (x y : AskOf) → slice_get asks place ≡ Some x → (slice_get full place ≡ Some y) ⊎ ((place ≡ length full) × (born ≡ y)) → IsBornAt g births place x y
    by place x y there (inl at) = f.each place x y there at
    by place x y there (inr p) =
        let same : count ≡ place = sym (p.0 ∙ f.counted) in
        let P : ℕ → Type 0 = λ n. slice_get asks n ≡ Some ask in
        let stands = subst P same here in
        let asked : ask ≡ x = cc in
        let Q : ℕ → Type 0 = λ n. IsBornAt g births n ask born in
        let R : AskOf → Type 0 = λ a. IsBornAt g births place a born in
        let S : AskOf → Type 0 = λ a. IsBornAt g births place x a in
        subst S p.1 (subst R asked (subst Q same its))

-- an ask with the birth that was found for its place, or without one
pub ask_born : (g : GrantsOf) (births : List BirthOf) (place : ℕ) (ask full : AskOf) (found : Option BirthOf) → IsBirthFound births place found → IsAskCompleted g ask found full → IsBornAt g births place ask full
ask_born g births place ask full None unborn is = as_asked unborn is
ask_born g births place ask full (Some birth) its born = completed birth its.0 its.1 born.0 born.1 born.2

pub ask_refused : (g : GrantsOf) (births : List BirthOf) (place : ℕ) (ask : AskOf) (found : Option BirthOf) (fault : StepFault) → IsBirthFound births place found → AskCompleted g ask found (Err fault) → FormRefused g births fault
ask_refused g births place ask found Memory its told = tt
ask_refused g births place ask None (Unfit kind) its told = absurd told
ask_refused g births place ask (Some birth) (Unfit kind) its told = (record { birth = birth; one = its.0; misformed = told.0 }, told.1)

-- where the births are wanted the completed request is the one that they make
pub born_of : (g : GrantsOf) (request : RequestOf) (response : ResponseOf) (births : List BirthOf) (full : RequestOf) → AreBirthsWanted request response births → IsCompleted g births request full
    → IsBorn g request response births full
born_of g request response births full wanted c = record { wanted = wanted; option = c.option; ordered = c.ordered; counted = c.items.counted; each = c.items.each }

pub births_refused : (g : GrantsOf) (request : RequestOf) (response : ResponseOf) (births : List BirthOf) (fault : StepFault) → AreBirthsWanted request response births → FormRefused g births fault
    → BirthsRefused g request response births fault
births_refused g request response births (Unfit kind) wanted told = formless wanted told.0 told.1
births_refused g request response births Memory wanted told = tt

-- ---- what is granted

-- none of these attributes has the tag
abbrev pub NoneHas : List OwnAttribute → ℕ → Type 0
NoneHas own tag = All (λ (a : OwnAttribute). own_tag a ≢ tag) own

pub none_granted : (g : GrantsOf) (tag : ℕ) → NoneHas g.own tag → IsGranted g tag → ⊥
none_granted g tag all (a, one, is) = subst (λ (x : OwnAttribute). own_tag x ≢ tag) one.2 (all one.0 a one.1) is

-- so many of the children are granted as of those that are left
abbrev pub IsAsLeft : GrantsOf → Trees → Trees → Type 0
IsAsLeft g all left = AreGranted g all ↔ AreGranted g left

tagged : (g : GrantsOf) (v : View) → IsGranted g v.tag.number → IsGranted g (tag_of (view_tree v))
tagged g v here = subst (λ (n : ℕ). IsGranted g n) (sym (tag_of-view v.tag.number v.value)) here

untagged : (g : GrantsOf) (v : View) → IsGranted g (tag_of (view_tree v)) → IsGranted g v.tag.number
untagged g v here = subst (λ (n : ℕ). IsGranted g n) (tag_of-view v.tag.number v.value) here

pub granted_next : (g : GrantsOf) (all left rest : Trees) (v : View) → left ≡ more (view_tree v) rest → IsGranted g v.tag.number → IsAsLeft g all left → IsAsLeft g all rest
granted_next g all left rest v is here h =
    let P : Trees → Type 0 = λ ts. AreGranted g ts in
    (λ a. (subst P is (h.0 a)).1, λ r. h.1 (subst P (sym is) (tagged g v here, r)))

pub granted_not : (g : GrantsOf) (all left rest : Trees) (v : View) → left ≡ more (view_tree v) rest → (IsGranted g v.tag.number → ⊥) → IsAsLeft g all left → AreGranted g all → ⊥
granted_not g all left rest v is never h a = let P : Trees → Type 0 = λ ts. AreGranted g ts in never (untagged g v (subst P is (h.0 a)).0)

pub granted_all : (g : GrantsOf) (all left : Trees) → left ≡ none → IsAsLeft g all left → AreGranted g all
granted_all g all left is h = let P : Trees → Type 0 = λ ts. AreGranted g ts in h.1 (subst P (sym is) tt)

pub some_granted : (g : GrantsOf) (all rest : Trees) (v : View) (b : Bool) → all ≡ more (view_tree v) rest → IsGranted g v.tag.number → Decided b (AreGranted g rest) → Decided b (AreSomeGranted g all)
some_granted g all rest v true is here h = let P : Trees → Type 0 = λ ts. AreSomeGranted g ts in subst P (sym is) (tagged g v here, h)
some_granted g all rest v false is here h = λ a. let P : Trees → Type 0 = λ ts. AreSomeGranted g ts in h (subst P is a).1

pub first_not : (g : GrantsOf) (all rest : Trees) (v : View) → all ≡ more (view_tree v) rest → (IsGranted g v.tag.number → ⊥) → AreSomeGranted g all → ⊥
first_not g all rest v is never a = let P : Trees → Type 0 = λ ts. AreSomeGranted g ts in never (untagged g v (subst P is a).0)

pub none_are_granted : (g : GrantsOf) (all : Trees) → all ≡ none → AreSomeGranted g all → ⊥
none_are_granted g all is a = let P : Trees → Type 0 = λ ts. AreSomeGranted g ts in subst P is a

-- so of an item with these children
pub structure_granted : (g : GrantsOf) (t : Tree) (ts : Trees) (b : Bool) → Some ts ≡ as_structure t → Decided b (AreSomeGranted g ts) → Decided b (HasGranted g t)
unfolding as_structure
structure_granted g (structure n us) ts b is h =
    let same : us ≡ ts = cc in
    let P : Trees → Type 0 = λ x. Decided b (AreSomeGranted g x) in
    subst P (sym same) h
structure_granted g (scalar n s) ts b is h = absurd cc

pub scalar_granted : (g : GrantsOf) (t : Tree) → None ≡ as_structure t → HasGranted g t → ⊥
unfolding as_structure
scalar_granted g (structure n us) is h = absurd cc
scalar_granted g (scalar n s) is h = h

-- ---- names

pub names_pushed : (seen added : List NameOf) (n : NameOf) → with_names seen (added ++ n ∷ []) ≡ with_name (with_names seen added) n
names_pushed seen [] n = refl
names_pushed seen (x ∷ added) n = names_pushed (with_name seen x) added n

-- the name at a place is added behind those ahead of it
pub names_more : (seen next last : List NameOf) (added : List Name) (i : ℕ) (n : Name) → i < length added → n ≡ get_or added i n → next ≡ with_names seen (map name_of (take i added)) → last ≡ with_name next (name_of n)
    → last ≡ with_names seen (map name_of (take (i + 1) added))
names_more seen next last added i n below here before is =
    let whole : take (i + 1) added ≡ take i added ++ n ∷ [] = take_more added i n below ∙ ap (λ (x : Name). take i added ++ x ∷ []) (sym here) in
    is ∙ ap (λ (l : List NameOf). with_name l (name_of n)) before ∙ sym (names_pushed seen (map name_of (take i added)) (name_of n))
    ∙ ap (with_names seen) (sym (map-append name_of (take i added) (n ∷ [])))
    ∙ ap (λ (l : List Name). with_names seen (map name_of l)) (sym whole)

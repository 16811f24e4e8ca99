-- What is read of the children of an Attributes structure is what they say, or their lowest fault.
use Rattle.std.proofs.Common.{◌≡◌, ◌<◌, ℕ, List, [], ◌∷◌, map, Some, None, Option, Result, Ok, Err, refl, sym, ap, ◌∙◌, subst, arith, inl, inr, ◌⊎◌}
use Rattle.kmipa_ttlv.specs.Tree.{Tree, Trees, structure, scalar}
use Rattle.kmipa_attrs.specs.Tags.{activation_date, compromise_date, cryptographic_algorithm, cryptographic_length, cryptographic_usage_mask, deactivation_date, destroy_date, initial_date, name_tag, object_type_tag, state_tag, unique_identifier}
use Rattle.kmipa_attrs.specs.Sets.{NameOf, Attributes, attributes_of}
use Rattle.kmipa_attrs.specs.Names.{as_name, distinct}
use Rattle.kmipa_attrs.specs.Fields.{first, as_structure, as_integer, as_enumeration, as_date}
use Rattle.kmipa_attrs.specs.Attributes.AttributesFault.{in_names, in_object_type, in_algorithm, in_length, in_mask, in_state, in_initial, in_activation, in_deactivation, in_destroy, in_compromise, of_client_state, of_client_initial, of_client_destroy, of_client_compromise, of_client_identifier}
use Rattle.kmipa_attrs.specs.Attributes.{attr_number, each, Single, SaysNames, SomeWrong, SingleFault, NamesFault, ClientFault, SaysAttributes, AttributesFault, SetFault, ReadsSet, Gives, GivesAttributes, folded, single, server_only, server_single, all_named, names_in, description_in, stages_in, ends_in, rows_in, set_at, Description, Stages, Ends, attributes_in}
use Rattle.kmipa_attrs.specs.Readings.{Reads, Lowest, both, least, map_ok}
use Rattle.kmipa_attrs.specs.declared.fault.AttrFault.{AttrFault}
use Rattle.kmipa_attrs.specs.declared.fault.AttrFault.TheVariants.{WrongType, Repeated, NotForClients, Memory}
use Rattle.kmipa_attrs.specs.declared.side.Side.{Side}
use Rattle.kmipa_attrs.specs.declared.side.Side.TheVariants.{Client, Server}
use Rattle.kmipa_attrs.specs.declared.attr_set.AttrSet.{AttrSet}
use Rattle.kmipa_attrs.proofs.ReadingLemmas.{reads_both, reads_as}

-- what is folded after a wrong one, and after a second one
after_wrong : {A : Type 0} (held : List (Option A)) → folded (Err WrongType) held ≡ Err WrongType
after_wrong [] = refl
after_wrong (None ∷ held) = after_wrong held
after_wrong (Some x ∷ held) = after_wrong held

after_repeat : {A : Type 0} (held : List (Option A)) → (SomeWrong held × (folded (Err Repeated) held ≡ Err WrongType)) ⊎ ((SomeWrong held → ⊥) × (folded (Err Repeated) held ≡ Err Repeated))
after_repeat [] = inr (λ h. h, refl)
after_repeat (None ∷ held) = inl (tt, after_wrong held)
after_repeat (Some x ∷ held) = after_repeat held

-- nothing has a number below 1
pub below_wrong : (j : AttrFault) → attr_number j < 1 → ⊥
below_wrong WrongType lt = omega arith
below_wrong Repeated lt = omega arith
below_wrong NotForClients lt = omega arith
below_wrong Memory lt = omega arith

pub reads_single : {A : Type 0} (held : List (Option A)) → Reads attr_number (Single held) (SingleFault held) (folded (Ok None) held)
reads_single {A} [] = record { said = refl; only = only; right = right }
  where
    only : (y : Option A) → Single [] y → y ≡ None
    only None e = refl
    only (Some x) e = cc

    right : (k : AttrFault) → SingleFault {A = A} [] k → ⊥
    right WrongType h = h
    right Repeated h = omega arith
    right NotForClients h = h
    right Memory h = h
reads_single {A} (None ∷ held) = let P : Result (Option A) AttrFault → Type 0 = Reads attr_number (Single (None ∷ held)) (SingleFault (None ∷ held)) in
    subst P (sym (after_wrong held)) (record { here = tt; least = λ j lt h. below_wrong j lt })
reads_single {A} (Some x ∷ []) = record { said = refl; only = only; right = right }
  where
    only : (y : Option A) → Single (Some x ∷ []) y → y ≡ Some x
    only None e = cc
    only (Some y) e = cc

    right : (k : AttrFault) → SingleFault {A = A} (Some x ∷ []) k → ⊥
    right WrongType h = h
    right Repeated h = omega arith
    right NotForClients h = h
    right Memory h = h
reads_single {A} (Some x ∷ None ∷ held) = let P : Result (Option A) AttrFault → Type 0 = Reads attr_number (Single (Some x ∷ None ∷ held)) (SingleFault (Some x ∷ None ∷ held)) in
    subst P (sym (after_wrong held)) (record { here = tt; least = λ j lt h. below_wrong j lt })
reads_single {A} (Some x ∷ Some y ∷ held) = let P : Result (Option A) AttrFault → Type 0 = Reads attr_number (Single (Some x ∷ Some y ∷ held)) (SingleFault (Some x ∷ Some y ∷ held)) in
    elim (after_repeat held) as (λ _. Reads attr_number (Single (Some x ∷ Some y ∷ held)) (SingleFault (Some x ∷ Some y ∷ held)) (folded (Err Repeated) held)) [
      | inl w ↦ subst P (sym w.1) (record { here = w.0; least = λ j lt h. below_wrong j lt })
      | inr w ↦ subst P (sym w.1) (record { here = omega arith; least = again w.0 })
    ]
  where
    again : (SomeWrong held → ⊥) → (j : AttrFault) → attr_number j < 2 → SingleFault {A = A} (Some x ∷ Some y ∷ held) j → ⊥
    again no_wrong WrongType lt h = no_wrong h
    again no_wrong Repeated lt h = omega arith
    again no_wrong NotForClients lt h = h
    again no_wrong Memory lt h = h

-- a child that no client may give
pub reads_client : (side : Side) (there : Option Tree) → Reads attr_number (λ (u : Unit {0}). Unit {0}) (ClientFault side there) (server_only side there)
reads_client Server there = record { said = tt; only = λ y h. refl; right = right }
  where
    right : (k : AttrFault) → ClientFault Server there k → ⊥
    right k h = h
reads_client Client None = record { said = tt; only = λ y h. refl; right = right }
  where
    right : (k : AttrFault) → ClientFault Client None k → ⊥
    right k h = h
reads_client Client (Some t) = record { here = tt; least = least }
  where
    least : (j : AttrFault) → attr_number j < 3 → ClientFault Client (Some t) j → ⊥
    least WrongType lt h = h
    least Repeated lt h = h
    least NotForClients lt h = omega arith
    least Memory lt h = h

pub reads_server : {A : Type 0} (how : Tree → Option A) (n : ℕ) (side : Side) (ts : Trees)
    → Reads attr_number (Single (each how n ts)) (λ k. SingleFault (each how n ts) k ⊎ ClientFault side (first n ts) k) (server_single how n side ts)
reads_server how n side ts =
    reads_as attr_number _ _ _ _ (λ p. p.0) (both attr_number (single how n ts) (server_only side (first n ts)))
    (λ p s. s.0) (λ y t. ((y, tt), (t, tt), refl)) (λ k f. f) (λ k f. f)
    (reads_both attr_number _ _ _ _ _ _ (reads_single (each how n ts)) (reads_client side (first n ts)))

-- the names of the children
reads_all : (held : List (Option NameOf)) → Reads attr_number (λ said. held ≡ map Some said) (NamesFault held) (all_named held)
reads_all [] = record { said = refl; only = only; right = right }
  where
    only : (y : List NameOf) → [] ≡ map Some y → y ≡ []
    only [] e = refl
    only (n ∷ names) e = cc

    right : (k : AttrFault) → NamesFault [] k → ⊥
    right WrongType h = h
    right Repeated h = h
    right NotForClients h = h
    right Memory h = h
reads_all (None ∷ held) = record { here = tt; least = λ j lt h. below_wrong j lt }
reads_all (Some n ∷ held) =
    reads_as attr_number (λ said. held ≡ map Some said) (NamesFault held) (λ said. Some n ∷ held ≡ map Some said) (NamesFault (Some n ∷ held)) (λ names. n ∷ names) (all_named held)
    (λ x s. ap (λ us. Some n ∷ us) s) from to back (reads_all held)
  where
    from : (y : List NameOf) → Some n ∷ held ≡ map Some y → (x : List NameOf) × (held ≡ map Some x) × (y ≡ n ∷ x)
    from [] e = cc
    from (m ∷ names) e = (names, cc, cc)

    to : (k : AttrFault) → NamesFault held k → NamesFault (Some n ∷ held) k
    to WrongType h = h
    to Repeated h = h
    to NotForClients h = h
    to Memory h = h

    back : (k : AttrFault) → NamesFault (Some n ∷ held) k → NamesFault held k
    back WrongType h = h
    back Repeated h = h
    back NotForClients h = h
    back Memory h = h

pub reads_names : (ts : Trees) → Reads attr_number (SaysNames (each as_name name_tag ts)) (NamesFault (each as_name name_tag ts)) (names_in ts)
reads_names ts =
    reads_as attr_number _ _ (SaysNames (each as_name name_tag ts)) (NamesFault (each as_name name_tag ts)) distinct (all_named (each as_name name_tag ts))
    (λ x s. (x, (s, refl))) (λ y t. (t.0, t.1.0, t.1.1)) (λ k f. f) (λ k f. f) (reads_all (each as_name name_tag ts))

-- the set is read
pub reads_attributes : (side : Side) (ts : Trees) → Reads attr_number (SaysAttributes ts) (AttributesFault side ts) (attributes_in side ts)
unfolding attributes_in
reads_attributes side ts =
    let rows =
    reads_both attr_number _ _ _ _ _ _ (reads_names ts)
    (reads_both attr_number _ _ _ _ _ _
    (reads_both attr_number _ _ _ _ _ _
    (reads_both attr_number _ _ _ _ _ _ (reads_single (each as_enumeration object_type_tag ts)) (reads_single (each as_enumeration cryptographic_algorithm ts)))
    (reads_both attr_number _ _ _ _ _ _ (reads_single (each as_integer cryptographic_length ts)) (reads_single (each as_integer cryptographic_usage_mask ts))))
    (reads_both attr_number _ _ _ _ _ _
    (reads_both attr_number _ _ _ _ _ _
    (reads_both attr_number _ _ _ _ _ _ (reads_server as_enumeration state_tag side ts) (reads_server as_date initial_date side ts))
    (reads_both attr_number _ _ _ _ _ _ (reads_single (each as_date activation_date ts)) (reads_single (each as_date deactivation_date ts))))
    (reads_both attr_number _ _ _ _ _ _
    (reads_both attr_number _ _ _ _ _ _ (reads_server as_date destroy_date side ts) (reads_server as_date compromise_date side ts))
    (reads_client side (first unique_identifier ts))))) in
    reads_as attr_number _ _ (SaysAttributes ts) (AttributesFault side ts) set_at (rows_in side ts)
    (λ p s. record {
      names = s.0;
      object_type = s.1.0.0.0;
      algorithm = s.1.0.0.1;
      length = s.1.0.1.0;
      mask = s.1.0.1.1;
      state = s.1.1.0.0.0;
      initial = s.1.1.0.0.1;
      activation = s.1.1.0.1.0;
      deactivation = s.1.1.0.1.1;
      destroy = s.1.1.1.0.0;
      compromise = s.1.1.1.0.1;
    })
    (λ y t. (
      (y.names, (((y.object_type, y.algorithm), (y.length, y.mask)), (((y.state, y.initial), (y.activation, y.deactivation)), ((y.destroy, y.compromise), tt)))),
      (t.names, (((t.object_type, t.algorithm), (t.length, t.mask)), (((t.state, t.initial), (t.activation, t.deactivation)), ((t.destroy, t.compromise), tt)))),
      refl,
    ))
    (λ k f. elim f [
      | inl w ↦ in_names w
      | inr g ↦ elim g [
        | inl h ↦ elim h [
          | inl u ↦ elim u [ inl w ↦ in_object_type w | inr w ↦ in_algorithm w ]
          | inr u ↦ elim u [ inl w ↦ in_length w | inr w ↦ in_mask w ]
        ]
        | inr h ↦ elim h [
          | inl u ↦ elim u [
            | inl v ↦ elim v [ inl x ↦ elim x [ inl w ↦ in_state w | inr w ↦ of_client_state w ] | inr x ↦ elim x [ inl w ↦ in_initial w | inr w ↦ of_client_initial w ] ]
            | inr v ↦ elim v [ inl w ↦ in_activation w | inr w ↦ in_deactivation w ]
          ]
          | inr u ↦ elim u [
            | inl v ↦ elim v [ inl x ↦ elim x [ inl w ↦ in_destroy w | inr w ↦ of_client_destroy w ] | inr x ↦ elim x [ inl w ↦ in_compromise w | inr w ↦ of_client_compromise w ] ]
            | inr w ↦ of_client_identifier w
          ]
        ]
      ]
    ])
    (λ k f. elim f [
      | in_names w ↦ inl w
      | in_object_type w ↦ inr (inl (inl (inl w)))
      | in_algorithm w ↦ inr (inl (inl (inr w)))
      | in_length w ↦ inr (inl (inr (inl w)))
      | in_mask w ↦ inr (inl (inr (inr w)))
      | in_state w ↦ inr (inr (inl (inl (inl (inl w)))))
      | in_initial w ↦ inr (inr (inl (inl (inr (inl w)))))
      | in_activation w ↦ inr (inr (inl (inr (inl w))))
      | in_deactivation w ↦ inr (inr (inl (inr (inr w))))
      | in_destroy w ↦ inr (inr (inr (inl (inl (inl w)))))
      | in_compromise w ↦ inr (inr (inr (inl (inr (inl w)))))
      | of_client_state w ↦ inr (inr (inl (inl (inl (inr w)))))
      | of_client_initial w ↦ inr (inr (inl (inl (inr (inr w)))))
      | of_client_destroy w ↦ inr (inr (inr (inl (inl (inr w)))))
      | of_client_compromise w ↦ inr (inr (inr (inl (inr (inr w)))))
      | of_client_identifier w ↦ inr (inr (inr (inr w)))
    ])
    rows

-- a wrong name is the lowest fault: then that is what is read of the whole
only_wrong : (held : List (Option NameOf)) (f : AttrFault) → map_ok distinct (all_named held) ≡ Err f → f ≡ WrongType
only_wrong [] f e = cc
only_wrong (None ∷ held) f e = cc
only_wrong (Some n ∷ held) f e = behind (all_named held) (only_wrong held f) e
  where
    behind : (r : Result (List NameOf) AttrFault) → (map_ok distinct r ≡ Err f → f ≡ WrongType) → map_ok distinct (map_ok (λ names. n ∷ names) r) ≡ Err f → f ≡ WrongType
    behind (Ok x) h g = cc
    behind (Err k) h g = h g

least_wrong : {B : Type 0} (r : Result B AttrFault) → least attr_number WrongType r ≡ WrongType
least_wrong (Ok y) = refl
least_wrong (Err WrongType) = refl
least_wrong (Err Repeated) = refl
least_wrong (Err NotForClients) = refl
least_wrong (Err Memory) = refl

pub wrong_first : {A B C D : Type 0} (ts : Trees) (rest : Result B AttrFault) (f : List NameOf × B → C) (view : A → List NameOf) (seen : D → C) (k : AttrFault)
    → Gives view (Err k) (names_in ts) → Gives seen (Err k) (map_ok f (both attr_number (names_in ts) rest))
wrong_first ts rest f view seen WrongType h = ap (λ r. map_ok f (both attr_number r rest)) h ∙ ap Err (least_wrong rest)
wrong_first ts rest f view seen Repeated h = let e : Repeated ≡ WrongType = only_wrong (each as_name name_tag ts) _ h in cc
wrong_first ts rest f view seen NotForClients h = let e : NotForClients ≡ WrongType = only_wrong (each as_name name_tag ts) _ h in cc
wrong_first ts rest f view seen Memory h = tt

pub wrong_names : (side : Side) (ts : Trees) {A : Type 0} (view : A → List NameOf) (k : AttrFault) → Gives view (Err k) (names_in ts) → GivesAttributes (Err k) (attributes_in side ts)
unfolding attributes_in
wrong_names side ts view k h = wrong_first ts (both attr_number (description_in ts) (both attr_number (stages_in side ts) (ends_in side ts))) set_at view attributes_of k h

pub gives_fault : {A B : Type 0} (view : A → B) (f : AttrFault) (read : Result B AttrFault) → read ≡ Err f → Gives view (Err f) read
gives_fault view WrongType read e = e
gives_fault view Repeated read e = e
gives_fault view NotForClients read e = e
gives_fault view Memory read e = tt

-- what is read of the whole, by what is read of the names and of the rest
pub with_first : {B C : Type 0} (ts : Trees) (names : List NameOf) (rest : Result B AttrFault) (f : List NameOf × B → C) → names_in ts ≡ Ok names
    → map_ok f (both attr_number (names_in ts) rest) ≡ map_ok (λ r. f (names, r)) rest
with_first {B} {C} ts names rest f e = ap (λ r. map_ok f (both attr_number r rest)) e ∙ by rest
  where
    by : (r : Result B AttrFault) → map_ok f (map_ok (λ y. (names, y)) r) ≡ map_ok (λ r. f (names, r)) r
    by (Ok x) = refl
    by (Err k) = refl

pub with_rest : (side : Side) (ts : Trees) (names : List NameOf) (rest : Result (Description × (Stages × Ends)) AttrFault) → names_in ts ≡ Ok names
    → rest ≡ both attr_number (description_in ts) (both attr_number (stages_in side ts) (ends_in side ts))
    → attributes_in side ts ≡ map_ok (λ r. set_at (names, r)) rest
unfolding attributes_in
with_rest side ts names rest e is =
    with_first ts names (both attr_number (description_in ts) (both attr_number (stages_in side ts) (ends_in side ts))) set_at e ∙ ap (map_ok (λ r. set_at (names, r))) (sym is)

-- the reading of an item, by that of its children
pub reads_item : (side : Side) (t : Tree) (ts : Trees) (result : Result AttrSet AttrFault) → Some ts ≡ as_structure t → GivesAttributes result (attributes_in side ts) → ReadsSet side t result
unfolding as_structure
reads_item side (structure n us) ts result e h =
    let same : ts ≡ us = cc in
    let P : Trees → Type 0 = λ vs. GivesAttributes result (attributes_in side vs) in
    by result (subst P same h)
  where
    reads : (r : Result Attributes AttrFault) → attributes_in side us ≡ r → Reads attr_number (SaysAttributes us) (AttributesFault side us) r
    reads r is = let Q : Result Attributes AttrFault → Type 0 = Reads attr_number (SaysAttributes us) (AttributesFault side us) in subst Q is (reads_attributes side us)

    by : (r : Result AttrSet AttrFault) → GivesAttributes r (attributes_in side us) → ReadsSet side (structure n us) r
    by (Ok s) g = reads (Ok (attributes_of s)) g
    by (Err WrongType) g = reads (Err WrongType) g
    by (Err Repeated) g = reads (Err Repeated) g
    by (Err NotForClients) g = reads (Err NotForClients) g
    by (Err Memory) g = tt
reads_item side (scalar n s) ts result e h = cc

pub reads_no_structure : (side : Side) (t : Tree) → None ≡ as_structure t → Lowest attr_number (SetFault side t) WrongType
unfolding as_structure
reads_no_structure side (structure n us) e = cc
reads_no_structure side (scalar n s) e = record { here = refl; least = λ j lt h. below_wrong j lt }

-- memory is no fault of attributes
client_memory : (side : Side) (there : Option Tree) → ClientFault side there Memory → ⊥
client_memory Server there h = h
client_memory Client None h = h
client_memory Client (Some t) h = h

pub never_memory : (side : Side) (ts : Trees) → AttributesFault side ts Memory → ⊥
never_memory side ts f = elim f [
  | in_names w ↦ w
  | in_object_type w ↦ w
  | in_algorithm w ↦ w
  | in_length w ↦ w
  | in_mask w ↦ w
  | in_state w ↦ w
  | in_initial w ↦ w
  | in_activation w ↦ w
  | in_deactivation w ↦ w
  | in_destroy w ↦ w
  | in_compromise w ↦ w
  | of_client_state w ↦ client_memory side _ w
  | of_client_initial w ↦ client_memory side _ w
  | of_client_destroy w ↦ client_memory side _ w
  | of_client_compromise w ↦ client_memory side _ w
  | of_client_identifier w ↦ client_memory side _ w
]

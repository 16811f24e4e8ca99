-- The ledger of an opened world: each identifier that is set aside, and then the rest.
use Rattle.std.proofs.Common.{◌≡◌, ◌≤◌, inl, inr, ℕ, ◌+◌, Bool, true, false, List, [], ◌∷◌, ◌++◌, length, take, Some, slice_get, refl, sym, ap, ◌∙◌, subst, arith, add-one}
use Rattle.std.proofs.lemmas.List.{take_all}
use Rattle.kmipa_object.specs.Inventory.{Thing}
use Rattle.kmipa_store.specs.Aside.{AsideOf, Entry, nothing_aside, said_aside}
use Rattle.kmipa_store.specs.Ledger.{Held, Meaning, LedgerState, set_aside, with_aside}
use Rattle.kmipa_store.specs.Choices.{inv}
use Rattle.kmipa_ops.specs.Ascending.{SecretsAscend}
use Rattle.kmipa_record.specs.Declarations.{DeclarationOf}
use Rattle.kmipa_aside.specs.Explains.{SecretsApart}
use Rattle.kmipa_aside.specs.Worlds.{WorldOf}
use Rattle.kmipa_check.specs.Described.{Describes, aside_declared, each_aside}
use Rattle.kmipa_check.specs.Verdicts as check
use Rattle.kmipa_check.proofs.PlaceLemmas.{apart}
use Rattle.kmipa_check.proofs.RunLemmas.{take_next}
use Rattle.kmipa_trail.specs.Leading.{AreKnown, WereReported, by_declaration}
use Rattle.kmipa_trail.specs.Setting.{with_each_aside, with_rest}

each_next : (ids : List (List ℕ)) (id : List ℕ) (es : List Entry) → each_aside (ids ++ id ∷ []) es ≡ said_aside (each_aside ids es) id
each_next [] id es = refl
each_next (x ∷ ids) id es = each_next ids id (said_aside es x)

pub each_none : (s : LedgerState) → s ≡ with_each_aside s []
each_none s = refl

-- one more
pub each_more : (s v u : LedgerState) (ids : List (List ℕ)) (n : ℕ) (id : List ℕ) → slice_get ids n ≡ Some id → v ≡ with_each_aside s (take n ids) → u ≡ set_aside v id
    → u ≡ with_each_aside s (take (n + 1) ids)
each_more s v u ids n id at before made =
    made
    ∙ ap (λ (x : LedgerState). set_aside x id) before
    ∙ ap (λ (es : List Entry). with_aside s (record { ids = es; rest = s.now.aside.rest; over = s.now.aside.over })) (sym (each_next (take n ids) id s.now.aside.ids))
    ∙ ap (λ (l : List (List ℕ)). with_each_aside s l) (sym (take_next ids n id at))
    ∙ ap (λ (k : ℕ). with_each_aside s (take k ids)) (sym (add-one n))

pub each_all : (s v : LedgerState) (ids : List (List ℕ)) (n : ℕ) → length ids ≤ n → v ≡ with_each_aside s (take n ids) → v ≡ with_each_aside s ids
each_all s v ids n past is = is ∙ ap (λ (l : List (List ℕ)). with_each_aside s l) (take_all n ids past)

-- and then the rest
pub declared_aside : (declared : DeclarationOf) (s v u : LedgerState) (rest : Bool) → v ≡ with_each_aside s declared.asides → u ≡ with_rest rest v → s.now.aside ≡ nothing_aside
    → u ≡ with_aside s (record { ids = each_aside declared.asides []; rest = rest; over = false })
declared_aside declared s v u rest each is none =
    is
    ∙ ap (with_rest rest) each
    ∙ by rest
  where
    same : with_each_aside s declared.asides ≡ with_aside s (record { ids = each_aside declared.asides []; rest = false; over = false })
    same = ap (λ (a : AsideOf). with_aside s (record { ids = each_aside declared.asides a.ids; rest = a.rest; over = a.over })) none

    by : (rest : Bool) → with_rest rest (with_each_aside s declared.asides) ≡ with_aside s (record { ids = each_aside declared.asides []; rest = rest; over = false })
    by true = ap (with_rest true) same
    by false = same

-- no two objects have one secret, where later ones have later secrets
ascend_apart : (objects : List Held) → SecretsAscend objects → SecretsApart objects
ascend_apart objects a = record {
  apart = λ p q g h s t x y u v same. elim (apart p q) [
    | inl before ↦ absurd (omega (arith, same, a.ascend p q g h s t before x y u v))
    | inr other ↦ (elim other [
      | inl behind ↦ absurd (omega (arith, same, a.ascend q p h g t s behind y x v u))
      | inr e ↦ e
    ])
  ];
}

-- the ledger stands for the worlds that the declaration describes
pub world_known : (declared : DeclarationOf) (m : Meaning) → check.AreKnown declared [] m
    → AreKnown declared [] (record { objects = m.objects; secrets = m.secrets; aside = aside_declared declared })
world_known declared m k = record {
  sound = λ c h.
      let f = k.sound c h in
      let P : List Thing → Type 0 = λ V. Describes declared V in (
        record { things = inv c m.objects; aside = aside_declared declared },
        record { things = subst P (sym f.2) f.1; aside = refl },
        (refl, refl),
      );
  complete = λ start w d l.
      let things : w.things ≡ start.things = ap (λ (x : WorldOf). x.things) l.0 in
      let f = k.complete start.things w.things d.things things in
      let aside : w.aside ≡ aside_declared declared = ap (λ (x : WorldOf). x.aside) l.0 ∙ d.aside in (
        f.0,
        f.1,
        ap (λ (V : List Thing). let x : WorldOf = record { things = V; aside = w.aside } in x) f.2
            ∙ ap (λ (a : AsideOf). let x : WorldOf = record { things = inv f.0 m.objects; aside = a } in x) aside,
      );
  reported = λ number bytes known. told bytes (k.reported number bytes known);
  apart = ascend_apart m.objects k.ascends;
}
  where
    told : (bytes : List ℕ) → check.WereReported declared [] bytes → WereReported declared [] bytes
    told bytes (check.by_declaration e has is) = by_declaration e has is
    told bytes (check.by_step s has t) = absurd (omega (arith, has.1))

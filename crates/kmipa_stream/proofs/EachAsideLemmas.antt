-- Identifiers that are set aside one after the other.
use Rattle.std.proofs.Common.{◌≡◌, ◌≢◌, ◌<◌, ◌⊎◌, ℕ, zero, suc, Bool, true, false, ◌||◌, if◌then◌else◌, List, [], ◌∷◌, ◌++◌, length, get_or, bytes_eq, refl, ap, sym, ◌∙◌, subst, arith}
use Rattle.std.proofs.lemmas.Bool.{or_right}
use Rattle.std.proofs.lemmas.Slice.Eq.{bytes_eq-Decides}
use Rattle.kmipa_store.specs.Aside.{Entry, is_any_named, said_aside, says}
use Rattle.kmipa_store.proofs.AsideLemmas.{says_of_each}
use Rattle.kmipa_check.specs.Described.{each_aside}

-- one more
pub each_aside_more : (ids : List (List ℕ)) (id : List ℕ) (es : List Entry) → each_aside (ids ++ id ∷ []) es ≡ said_aside (each_aside ids es) id
each_aside_more [] id es = refl
each_aside_more (x ∷ xs) id es = each_aside_more xs id (said_aside es x)

apart_by : (id x : List ℕ) → bytes_eq id x ≡ false → id ≢ x
apart_by id x unsaid same = let clash : true ≡ false = sym ((bytes_eq-Decides id x).1 same) ∙ unsaid in absurd cc

-- what was set aside is so when another one is, too
said_still : (id x : List ℕ) (es : List Entry) → says es id ≡ true → says (said_aside es x) id ≡ true
said_still id x es said = (elim (bytes_eq id x) as (λ t. bytes_eq id x ≡ t → says (said_aside es x) id ≡ true) [
  | true ↦ λ is. subst (λ (y : List ℕ). says (said_aside es y) id ≡ true) ((bytes_eq-Decides id x).0 is) (says_of_each.aside es id)
  | false ↦ λ is. says_of_each.aside_other es x id (apart_by id x is) ∙ said
]) refl

said_behind : (id : List ℕ) (ids : List (List ℕ)) (es : List Entry) → says es id ≡ true → says (each_aside ids es) id ≡ true
said_behind id [] es said = said
said_behind id (x ∷ xs) es said = said_behind id xs (said_aside es x) (said_still id x es said)

-- each of them is set aside
pub said_at : (ids : List (List ℕ)) (k : ℕ) (d : List ℕ) (es : List Entry) → k < length ids → says (each_aside ids es) (get_or ids k d) ≡ true
said_at [] k d es lt = absurd (omega (arith, lt))
said_at (x ∷ xs) zero d es lt = said_behind x xs (said_aside es x) (says_of_each.aside es x)
said_at (x ∷ xs) (suc k) d es lt = said_at xs k d (said_aside es x) (omega (arith, lt))

-- where an identifier stands among them
abbrev pub StandsAmong : List (List ℕ) → List ℕ → Type 0
StandsAmong ids id = (k : ℕ) × (k < length ids) × ((d : List ℕ) → get_or ids k d ≡ id)

-- one that is set aside, and wasn't before, is one of them
pub said_from : (id : List ℕ) (ids : List (List ℕ)) (es : List Entry) → says (each_aside ids es) id ≡ true → says es id ≡ false → StandsAmong ids id
said_from id [] es said unsaid = let clash : true ≡ false = sym said ∙ unsaid in absurd cc
said_from id (x ∷ xs) es said unsaid = (elim (bytes_eq id x) as (λ t. bytes_eq id x ≡ t → StandsAmong (x ∷ xs) id) [
  | true ↦ λ is. (0, omega arith, λ d. sym ((bytes_eq-Decides id x).0 is))
  | false ↦ λ is.
      let rest = said_from id xs (said_aside es x) said (says_of_each.aside_other es x id (apart_by id x is) ∙ unsaid) in
      (suc rest.0, omega (arith, rest.1), λ d. rest.2 d)
]) refl

-- some identifier is set aside where this one is
any_said : (es : List Entry) (id : List ℕ) → says es id ≡ true → is_any_named es ≡ true
any_said [] id said = absurd cc
any_said (e ∷ es) id said = (elim (bytes_eq id e.0) as (λ t. bytes_eq id e.0 ≡ t → is_any_named (e ∷ es) ≡ true) [
  | true ↦ λ is. let own : e.1 ≡ true = sym (ap (λ (t : Bool). if t then e.1 else says es id) is) ∙ said in ap (λ (b : Bool). b || is_any_named es) own
  | false ↦ λ is.
      let rest : says es id ≡ true = sym (ap (λ (t : Bool). if t then e.1 else says es id) is) ∙ said in
      or_right e.1 (is_any_named es) (any_said es id rest)
]) refl

-- none is where there are none, and only there
pub none_said : (ids : List (List ℕ)) → is_any_named (each_aside ids []) ≡ false → ids ≡ []
none_said [] none = refl
none_said (x ∷ xs) none =
    let clash : true ≡ false = sym (any_said (each_aside (x ∷ xs) []) x (said_at (x ∷ xs) 0 x [] (omega arith))) ∙ none in
    absurd cc

-- Lists of items, one after the other, and what taking one comes to.
use Rattle.std.proofs.Common.{◌≡◌, ◌≤◌, ℕ, ℤ, true, List, [], ◌∷◌, ◌++◌, length, Option, Some, None, Result, Ok, Err, ◌≢◌, refl, sym, ◌∙◌, subst, inl, inr, arith}
use Rattle.kmipa_object.specs.Inventory.{Thing}
use Rattle.kmipa_store.specs.Ledger.{Meaning, LedgerState, changed}
use Rattle.kmipa_store.specs.Choices.{inv, IsSound}
use Rattle.kmipa_store.proofs.ChoiceLemmas.{agrees_same, agrees_more, extends_same, extends_more}
use Rattle.kmipa_msgs.specs.Messages.{RulesOf, AskOf, AnswerOf}
use Rattle.kmipa_ops.specs.declared.why.Refusal.{Refusal}
use Rattle.kmipa_ops.specs.declared.why.Refusal.TheVariants.{Impossible, Memory}
use Rattle.kmipa_ops.specs.declared.why.Why.{Why}
use Rattle.kmipa_ops.specs.Whys.{whys}
use Rattle.kmipa_ops.specs.Does.{Does}
use Rattle.kmipa_ops.specs.Chains.{Chain, ChainSome, CompletesEach, ChainsComplete}
use Rattle.kmipa_ops.specs.Blame.{speaks, lowest}
use Rattle.kmipa_ops.specs.After.{after, placeholder_after}
use Rattle.kmipa_ops.proofs.AscendLemmas.{after_ascends}
use Rattle.kmipa_ops.specs.Explains.{BringsOrShows, TellsBytes, Explains, Refuted, Taken, Took, is_readable, IsPossible, BlameIsExact}
use Rattle.kmipa_ops.proofs.FirstLemmas.{find-some}
use Rattle.kmipa_ops.proofs.ItemLemmas.{item_step, never, learns_after}

module _ (rules : RulesOf) (t : ℤ) where
  pub chain_join : (V : List Thing) (p : Option (List ℕ)) (xs ys : List (AskOf × AnswerOf)) (M : List Thing) (q : Option (List ℕ)) (W : List Thing) (r : Option (List ℕ))
      → ChainSome rules t V p xs M q → ChainSome rules t M q ys W r → ChainSome rules t V p (xs ++ ys) W r
  chain_join V p [] ys M q W r c d =
      let P : List Thing → Type 0 = λ X. ChainSome rules t X q ys W r in
      let Q : Option (List ℕ) → Type 0 = λ x. ChainSome rules t V x ys W r in
      subst Q c.1 (subst P c.0 d)
  chain_join V p (x ∷ xs) ys M q W r c d = (c.0, c.1, c.2, chain_join c.0 c.1 xs ys M q W r c.3 d)

  pub chain_split : (V : List Thing) (p : Option (List ℕ)) (xs ys : List (AskOf × AnswerOf)) (W : List Thing) (r : Option (List ℕ))
      → ChainSome rules t V p (xs ++ ys) W r → (M : List Thing) × (q : Option (List ℕ)) × ChainSome rules t V p xs M q × ChainSome rules t M q ys W r
  chain_split V p [] ys W r c = (V, p, (refl, refl), c)
  chain_split V p (x ∷ xs) ys W r c = let s = chain_split c.0 c.1 xs ys W r c.3 in (s.0, s.1, (c.0, c.1, c.2, s.2), s.3)

-- what some of the items told the items told
pub tells_front : (xs ys : List (AskOf × AnswerOf)) (bytes : List ℕ) → BringsOrShows xs bytes → BringsOrShows (xs ++ ys) bytes
tells_front [] ys bytes h = absurd h
tells_front (x ∷ xs) ys bytes h = elim h [ inl a ↦ inl a | inr b ↦ inr (elim b [ inl d ↦ inl d | inr e ↦ inr (tells_front xs ys bytes e) ]) ]

pub tells_back : (xs ys : List (AskOf × AnswerOf)) (bytes : List ℕ) → BringsOrShows ys bytes → BringsOrShows (xs ++ ys) bytes
tells_back [] ys bytes h = h
tells_back (x ∷ xs) ys bytes h = inr (inr (tells_back xs ys bytes h))

-- no items change nothing
pub explains_none : (rules : RulesOf) (t : ℤ) (m : Meaning) (p : Option (List ℕ)) → Explains rules t m p [] m p
explains_none rules t m p = record {
  sound = λ c h. (h, (refl, refl));
  complete = λ c h V q e. (c, h, agrees_same (length m.secrets) c, e.0, e.1);
  learns = λ number bytes e. inl e;
  grows = omega arith;
  extends = extends_same m.secrets;
  ascends = λ a. a;
}

-- items, and then more items
pub explains_more : (rules : RulesOf) (t : ℤ) (m : Meaning) (p : Option (List ℕ)) (xs ys : List (AskOf × AnswerOf)) (k : Meaning) (q : Option (List ℕ)) (n : Meaning) (r : Option (List ℕ))
    → Explains rules t m p xs k q → Explains rules t k q ys n r → Explains rules t m p (xs ++ ys) n r
explains_more rules t m p xs ys k q n r e f = record {
  sound = λ c h.
      let g = f.sound c h in
      let b = e.sound c g.0 in
      (b.0, chain_join rules t (inv c m.objects) p xs ys (inv c k.objects) q (inv c n.objects) r b.1 g.1);
  complete = λ c h V z chain.
      let s = chain_split rules t (inv c m.objects) p xs ys V z chain in
      let b = e.complete c h s.0 s.1 s.2 in
      let P : List Thing → Type 0 = λ X. ChainSome rules t X s.1 ys V z in
      let Q : Option (List ℕ) → Type 0 = λ x. ChainSome rules t (inv b.0 k.objects) x ys V z in
      let g = f.complete b.0 b.1 V z (subst Q b.4 (subst P b.3 s.3)) in
      (g.0, g.1, agrees_more (length m.secrets) (length k.secrets) c b.0 g.0 e.grows b.2 g.2, g.3, g.4);
  learns = λ number bytes h. elim (f.learns number bytes h) [
    | inr a ↦ inr (tells_back xs ys bytes a)
    | inl a ↦ (elim (e.learns number bytes a) [ inl b ↦ inl b | inr b ↦ inr (tells_front xs ys bytes b) ])
  ];
  grows = let a : length m.secrets ≤ length k.secrets = e.grows in let b : length k.secrets ≤ length n.secrets = f.grows in omega arith;
  extends = extends_more m.secrets k.secrets n.secrets e.extends f.extends;
  ascends = λ a. f.ascends (e.ascends a);
}

-- a chain whose answers may be completed is a chain of completed answers
completed : (rules : RulesOf) (t : ℤ) (V : List Thing) (p : Option (List ℕ)) (pairs : List (AskOf × AnswerOf)) (W : List Thing) (r : Option (List ℕ))
    → ChainSome rules t V p pairs W r → (fulls : List (AskOf × AnswerOf)) × CompletesEach pairs fulls × Chain rules t V p fulls W r
completed rules t V p [] W r c = ([], tt, c)
completed rules t V p (x ∷ xs) W r c =
    let s = completed rules t c.0 c.1 xs W r c.3 in
    ((x.0, c.2.full) ∷ s.0, (refl, c.2.completes, s.1), (c.0, c.1, c.2.does, s.2))

may_complete : (rules : RulesOf) (t : ℤ) (V : List Thing) (p : Option (List ℕ)) (pairs fulls : List (AskOf × AnswerOf)) (W : List Thing) (r : Option (List ℕ))
    → CompletesEach pairs fulls → Chain rules t V p fulls W r → ChainSome rules t V p pairs W r
may_complete rules t V p [] [] W r e c = c
may_complete rules t V p [] (y ∷ ys) W r e c = absurd e
may_complete rules t V p (x ∷ xs) [] W r e c = absurd e
may_complete rules t V p (x ∷ xs) (y ∷ ys) W r e c =
    let P : AskOf → Type 0 = λ a. Does rules V p t a y.1 c.0 c.1 in
    (c.0, c.1, record { full = y.1; completes = e.1; does = subst P e.0 c.2 }, may_complete rules t c.0 c.1 xs ys W r e.2 c.3)

pub chains_complete : ChainsComplete
chains_complete rules t V p pairs W r = (completed rules t V p pairs W r, λ s. may_complete rules t V p pairs s.0 W r s.1 s.2)

-- one item of which nothing speaks against
pub explains_one : (rules : RulesOf) (m : Meaning) (p : Option (List ℕ)) (t : ℤ) (ask : AskOf) (answer : AnswerOf) → IsSound m → is_readable ask answer ≡ true → TellsBytes ask answer
    → lowest rules m p t ask answer ≡ None
    → Explains rules t m p ((ask, answer) ∷ []) (after answer.status m p t ask.asked answer.payload) (placeholder_after answer.status p ask.asked answer.payload)
explains_one rules m p t ask answer sound readable bytes none =
    let n : Meaning = after answer.status m p t ask.asked answer.payload in
    let q : Option (List ℕ) = placeholder_after answer.status p ask.asked answer.payload in
    let s = item_step rules m p t ask answer sound readable bytes none in
    record {
      sound = λ c h. let r = s.sound c h in (r.0, (inv c n.objects, q, r.1, (refl, refl)));
      complete = λ c h V z chain. let r = s.complete c h chain.0 chain.1 chain.2 in (r.0, r.1, r.2, chain.3.0 ∙ r.3, chain.3.1 ∙ r.4);
      learns = λ number b h. elim (learns_after answer.status m p t ask.asked answer.payload number b h) [
        | inl x ↦ inl x
        | inr x ↦ inr (elim x [ inl y ↦ inl y | inr y ↦ inr (inl y) ])
      ];
      grows = s.grows;
      extends = s.extends;
      ascends = λ a. after_ascends answer.status m p t ask.asked answer.payload sound a;
    }

pub took : (rules : RulesOf) (s : LedgerState) (p : Option (List ℕ)) (t : ℤ) (ask : AskOf) (answer : AnswerOf) (u : LedgerState) (q : Option (List ℕ))
    → IsSound s.now → is_readable ask answer ≡ true → TellsBytes ask answer → lowest rules s.now p t ask answer ≡ None
    → u ≡ changed s (after answer.status s.now p t ask.asked answer.payload) → q ≡ placeholder_after answer.status p ask.asked answer.payload
    → Took rules s p t ask answer u q
took rules s p t ask answer u q sound readable bytes none is to =
    let n : Meaning = after answer.status s.now p t ask.asked answer.payload in
    let P : LedgerState → Type 0 = λ x. Took rules s p t ask answer x (placeholder_after answer.status p ask.asked answer.payload) in
    let Q : Option (List ℕ) → Type 0 = λ x. Took rules s p t ask answer u x in
    subst Q (sym to)
    (subst P (sym is)
    (record {
      explains = explains_one rules s.now p t ask answer sound readable bytes none;
      sound = (item_step rules s.now p t ask answer sound readable bytes none).kept;
      marks = refl;
      left = refl;
    }))

-- but for want of memory the ledger stays sound
pub sound_after : (rules : RulesOf) (s : LedgerState) (p : Option (List ℕ)) (t : ℤ) (ask : AskOf) (answer : AnswerOf) (r : Result (Unit {0}) Refusal) (u : LedgerState) (q : Option (List ℕ))
    → IsSound s.now → r ≢ Err Memory → Taken rules s p t ask answer r u q → IsSound u.now
sound_after rules s p t ask answer (Ok done) u q sound h x = x.sound
sound_after rules s p t ask answer (Err (Impossible why)) u q sound h x = subst (λ (y : LedgerState). IsSound y.now) (sym x.1) sound
sound_after rules s p t ask answer (Err Memory) u q sound h x = absurd (h refl)

pub refuted : (rules : RulesOf) (m : Meaning) (p : Option (List ℕ)) (t : ℤ) (ask : AskOf) (answer : AnswerOf) (w : Why) → lowest rules m p t ask answer ≡ Some w → Refuted rules m p t ask answer w
refuted rules m p t ask answer w e = record {
  named = e;
  never = never rules m p t ask answer w (find-some (λ (v : Why). speaks rules m p t ask answer v) whys w e);
}

-- none speaks against an answer exactly where it is possible
allowed_by : (rules : RulesOf) (m : Meaning) (p : Option (List ℕ)) (t : ℤ) (ask : AskOf) (answer : AnswerOf) (o : Option Why) → lowest rules m p t ask answer ≡ o → IsPossible rules m p t ask answer → o ≡ None
allowed_by rules m p t ask answer None e x = refl
allowed_by rules m p t ask answer (Some w) e x = absurd ((refuted rules m p t ask answer w e).never x.choice x.chooses x.things x.placeholder x.does)

pub blame_is_exact : BlameIsExact
blame_is_exact rules m p t ask answer sound readable bytes = (
  λ none.
      let s = item_step rules m p t ask answer sound readable bytes none in
      let r = s.sound s.kept.choice.0 s.kept.choice.1 in
      record {
        choice = s.kept.choice.0;
        chooses = r.0;
        things = inv s.kept.choice.0 (after answer.status m p t ask.asked answer.payload).objects;
        placeholder = placeholder_after answer.status p ask.asked answer.payload;
        does = r.1;
      },
  λ x. allowed_by rules m p t ask answer (lowest rules m p t ask answer) refl x,
)

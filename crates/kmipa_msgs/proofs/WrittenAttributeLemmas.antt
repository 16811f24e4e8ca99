-- Attributes that were written say what was written.
use Rattle.std.proofs.Common.{◌≡◌, ℕ, Bool, true, false, ◌==◌, cond, List, [], ◌∷◌, map, Option, Some, None, refl, sym, subst}
use Rattle.kmipa_ttlv.specs.Tree.{Tree, Trees, none, more}
use Rattle.kmipa_attrs.specs.Attributes.{each, Single, SaysAttributes}
use Rattle.kmipa_attrs.specs.Fields.{tag_of, first, every, in_field, as_structure, at}
use Rattle.kmipa_attrs.specs.Names.{HasNoRepeats}
use Rattle.kmipa_attrs.specs.Sets.{Attributes}
use Rattle.kmipa_attrs.specs.Writing.{written_children}
use Rattle.kmipa_attrs.specs.Tags.{attributes_tag}
use Rattle.kmipa_attrs.specs.declared.fields.Field.{Field}
use Rattle.kmipa_attrs.specs.declared.fields.Field.TheVariants.{Absent, Wrong, There}
use Rattle.kmipa_attrs.proofs.WriteLemmas.{written_said, said-HasNoRepeats, once-same}
use Rattle.kmipa_msgs.specs.Tables.{IsThere}
use Rattle.kmipa_msgs.specs.AttributeFields.{SaysGiven}
use Rattle.kmipa_msgs.specs.WrittenFields.{in_order, written_attributes}
use Rattle.kmipa_msgs.proofs.WrittenFieldLemmas.{find, required_written}

-- ATTRIBUTES

given_once : (f : Field Trees) (a : Attributes) → SaysGiven f a → HasNoRepeats a.names
given_once Absent a s = subst (λ (b : Attributes). HasNoRepeats b.names) (sym s) tt
given_once Wrong a s = absurd s
given_once (There ts) a s = said-HasNoRepeats ts a s

pub attributes_said : (f : Field Trees) (a : Attributes) → SaysGiven f a → SaysAttributes (written_children a) a
attributes_said f a s = subst (SaysAttributes (written_children a)) (once-same a (given_once f a s)) (written_said a)

-- attributes that are said somewhere are said by what is written of them
pub given_written : (f : Field Trees) (fields : List (Option Tree)) (a : Attributes) → find attributes_tag fields ≡ Some (written_attributes a) → SaysGiven f a → SaysGiven (at as_structure attributes_tag (in_order fields)) a
unfolding as_structure
given_written f fields a e s =
    subst (λ (g : Field Trees). SaysGiven g a) (sym (required_written as_structure attributes_tag fields (written_attributes a) (written_children a) e refl)) (attributes_said f a s)

-- an attribute that is there is written
abbrev head : List Tree → Option Tree
head [] = None
head (t ∷ ts) = Some t

first_of : (n : ℕ) (ts : Trees) → first n ts ≡ head (every n ts)
unfolding first every
first_of n none = refl
first_of n (more t ts) = by (tag_of t == n) (first_of n ts)
  where
    by : (b : Bool) → first n ts ≡ head (every n ts) → cond b (Some t) (first n ts) ≡ head (cond b (t ∷ every n ts) (every n ts))
    by true e = refl
    by false e = e

none_held : {A : Type 0} (how : Tree → Option A) (us : List Tree) → map how us ≡ [] → IsThere (head us) → ⊥
none_held how [] e t = t
none_held how (u ∷ us) e t = cc

one_held : {A : Type 0} (how : Tree → Option A) (us : List Tree) (x : A) → map how us ≡ Some x ∷ [] → IsThere (head us)
one_held how [] x e = cc
one_held how (u ∷ us) x e = tt

there_again : {A : Type 0} (how : Tree → Option A) (n : ℕ) (us ws : Trees) (v : Option A) → Single (each how n us) v → IsThere (first n us) → Single (each how n ws) v → IsThere (first n ws)
unfolding each
there_again how n us ws None s t r = absurd (none_held how (every n us) s (subst IsThere (first_of n us) t))
there_again how n us ws (Some x) s t r = subst IsThere (sym (first_of n ws)) (one_held how (every n ws) x r)

-- the same in Attributes that may be absent
pub described_again : {A : Type 0} (how : Tree → Option A) (n : ℕ) (f : Field Trees) (ws : Trees) (v : Option A) → ((us : Trees) → f ≡ There us → Single (each how n us) v) → IsThere (first n (in_field f))
    → Single (each how n ws) v → IsThere (first n ws)
unfolding first
described_again how n Absent ws v s t r = absurd t
described_again how n Wrong ws v s t r = absurd t
described_again how n (There us) ws v s t r = there_again how n us ws v (s us refl) t r

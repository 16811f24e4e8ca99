-- What is known of an item that isn't judged: its request and its answer.
use Rattle.std.specs.Prelude.{ℕ, Bool, true, false, ◌==◌, List, [], ◌∷◌, map, Option, Some, None}
use Rattle.kmipa_ttlv.specs.Tree.{Tree, Trees, none, more}
use Rattle.kmipa_attrs.specs.Fields.{as_text, every, first, in_field}
use Rattle.kmipa_attrs.specs.Tags.{unique_identifier}
use Rattle.kmipa_attrs.specs.declared.fields.Field.{Field}
use Rattle.kmipa_attrs.specs.declared.fields.Field.TheVariants.{Absent, Wrong, There}
use Rattle.kmipa_passed.specs.Identifiers.{AskedOf, asked_of, identifier_asked, ShownOf, shown_of, identifier_shown, names_unclearly}
use Rattle.kmipa_passed.specs.Names.{named_in}
use Rattle.kmipa_passed.specs.Sorts.{sort_of}
use Rattle.kmipa_passed.specs.declared.passed.Outcome.{Outcome}
use Rattle.kmipa_passed.specs.declared.passed.PassedAnswer.{PassedAnswer}
use Rattle.kmipa_passed.specs.declared.passed.PassedAsk.{PassedAsk}
use Rattle.kmipa_passed.specs.declared.sorts.Sort.{Sort}

-- What an item asks for: the sort of its operation, and whether that is Locate; the object that it is about; each object that its payload names, and
-- whether it names one in a form that doesn't tell which.
pub record AskOf : Type 0 where
  pub sort : Sort
  pub locates : Bool
  pub asked : AskedOf
  pub names : List (List ℕ)
  pub unclearly : Bool

abbrev pub ask_of : PassedAsk → AskOf
ask_of a = record { sort = a.sort; locates = a.locates; asked = asked_of a.asked; names = map (λ s. s.now) a.names.items; unclearly = a.unclearly }

-- How it was answered: the object that its payload shows first, and the one that it shows alone; those that it lists; whether it is a structure or
-- absent, and whether it has no children; and each object that it names.
pub record AnswerOf : Type 0 where
  pub outcome : Outcome
  pub first : AskedOf
  pub shown : ShownOf
  pub listed : List (List ℕ)
  pub formed : Bool
  pub bare : Bool
  pub names : List (List ℕ)

abbrev pub answer_of : PassedAnswer → AnswerOf
answer_of a = record {
  outcome = a.outcome;
  first = asked_of a.first;
  shown = shown_of a.shown;
  listed = map (λ s. s.now) a.listed.items;
  formed = a.formed;
  bare = a.bare;
  names = map (λ s. s.now) a.names.items;
}

-- what a request's payload says, of an operation of this number
abbrev pub request_says : ℕ → Trees → AskOf
request_says operation payload = record {
  sort = sort_of operation payload;
  locates = operation == 8;
  asked = identifier_asked payload;
  names = named_in payload;
  unclearly = names_unclearly payload;
}

-- a text that is there, ahead of others
abbrev pub with_text : Option (List ℕ) → List (List ℕ) → List (List ℕ)
with_text None ids = ids
with_text (Some id) ids = id ∷ ids

-- the texts among these items
abbrev pub texts : List Tree → List (List ℕ)
texts [] = []
texts (t ∷ ts) = with_text (as_text t) (texts ts)

-- it is a structure, or absent
abbrev pub is_formed : Field Trees → Bool
is_formed Absent = true
is_formed Wrong = false
is_formed (There ts) = true

abbrev pub is_bare : Trees → Bool
is_bare none = true
is_bare (more t ts) = false

-- what an answer's payload says; one that isn't there says nothing
abbrev pub answer_says : Outcome → Field Trees → AnswerOf
answer_says outcome payload = record {
  outcome = outcome;
  first = identifier_asked (in_field payload);
  shown = identifier_shown (in_field payload);
  listed = texts (every unique_identifier (in_field payload));
  formed = is_formed payload;
  bare = is_bare (in_field payload);
  names = named_in (in_field payload);
}

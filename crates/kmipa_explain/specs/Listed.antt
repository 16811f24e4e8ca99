-- What is wrong in the list of a Locate.
use Rattle.std.specs.Prelude.{◌≡◌, ◌≢◌, ℕ, ℤ, Bool, cond, List, [], ◌∷◌, ◌++◌, length, take, map, find, Option, Some, None, option_map}
use Rattle.std.specs.List.{Contains}
use Rattle.std.specs.String.{string_bytes}
use Rattle.kmipa_attrs.specs.Filters.{FilterOf}
use Rattle.kmipa_object.specs.Life.{state}
use Rattle.kmipa_msgs.specs.Messages.{AskOf, AnswerOf}
use Rattle.kmipa_record.specs.Declarations.{DeclarationOf}
use Rattle.kmipa_record.specs.Entries.{EntryOf}
use Rattle.kmipa_ops.specs.Locate.{May, is_over, ListsRightly}
use Rattle.kmipa_ops.specs.declared.judged.Judged.{Judged}
use Rattle.kmipa_check.specs.Described.{card_declared, dates_in}
use Rattle.kmipa_explain.specs.Filters.{IsFirstNo, filters, refuses}
use Rattle.kmipa_explain.specs.LeftOut.{IsLocate}
use Rattle.kmipa_explain.specs.Meant.{object_held}
use Rattle.kmipa_explain.specs.Told.{AreTold}
use Rattle.kmipa_explain.specs.declared.explanation.Cause.{Cause}
use Rattle.kmipa_explain.specs.declared.explanation.Cause.TheVariants as told
use Rattle.kmipa_explain.specs.declared.held.ListFault.{ListFault}
use Rattle.kmipa_explain.specs.declared.held.ListFault.TheVariants as fault
use Rattle.kmipa_explain.specs.declared.held.ListHeld.{ListHeld}
use Rattle.kmipa_explain.specs.declared.held.WronglyListed.{WronglyListed}

-- the same identifier stands ahead of a place of the list
abbrev pub IsAgain : List (List ℕ) → ℕ → List ℕ → Type 0
IsAgain listed place id = Contains (take place listed) id

-- the first attribute of which the filter says no, of the object of this identifier at the moment
pub record IsMisfit (held : DeclarationOf) (t : ℤ) (q : FilterOf) (id : List ℕ) (attribute : Judged) : Type 0 where
  pub object : EntryOf
  pub there : object_held held (Some id) ≡ Some object
  pub first : IsFirstNo q (state (dates_in object.attributes) t) (card_declared object) attribute

-- why the identifier at a place may not be listed: it is listed again; else there is no object of it, or the filter says no
abbrev pub IsFault : DeclarationOf → ℤ → FilterOf → List (List ℕ) → ℕ → List ℕ → ListFault → Type 0
IsFault held t q listed place id fault.Again = IsAgain listed place id
IsFault held t q listed place id fault.Absent = (IsAgain listed place id → ⊥) × (object_held held (Some id) ≡ None)
IsFault held t q listed place id (fault.Excluded attribute) = (IsAgain listed place id → ⊥) × IsMisfit held t q id attribute

-- it may be listed
pub record IsRight (held : DeclarationOf) (t : ℤ) (q : FilterOf) (listed : List (List ℕ)) (place : ℕ) (id : List ℕ) : Type 0 where
  pub once : IsAgain listed place id → ⊥
  pub object : EntryOf
  pub there : object_held held (Some id) ≡ Some object
  pub may : May q (state (dates_in object.attributes) t) (card_declared object)

-- it may not, and the reason is told
pub record TellsWrong (held : DeclarationOf) (t : ℤ) (q : FilterOf) (listed : List (List ℕ)) (place : ℕ) (id : List ℕ) (w : WronglyListed) : Type 0 where
  pub identifier : string_bytes w.identifier ≡ id
  pub fault : IsFault held t q listed place id w.fault

-- exactly those are told that may not be listed, in the order of the list
abbrev pub TellsWrongs : DeclarationOf → ℤ → FilterOf → List (List ℕ) → List WronglyListed → Type 0
TellsWrongs held t q listed wrong = AreTold (TellsWrong held t q listed) (IsRight held t q listed) 0 listed wrong

-- the same of a Locate: how many are listed, the maximum where these are more, and what is wrong, which is something where they aren't more
pub record IsWrongList (held : DeclarationOf) (t : ℤ) (ask : AskOf) (answer : AnswerOf) (l : ListHeld) : Type 0 where
  pub filter : FilterOf
  pub ids : List (List ℕ)
  pub locate : IsLocate ask answer filter ids
  pub count : l.listed ≡ length ids
  pub maximum : l.maximum ≡ cond (is_over filter.maximum (length ids)) filter.maximum None
  pub wrong : TellsWrongs held t filter ids l.wrong.items
  pub some : l.maximum ≡ None → l.wrong.items ≢ []

abbrev pub TellsListed : DeclarationOf → ℤ → AskOf → AnswerOf → Cause → Type 0
TellsListed held t ask answer (told.Listed l) = IsWrongList held t ask answer l
TellsListed held t ask answer other = ⊥

-- ---- how it is found. Not promised.

-- what is wrong with an object that is listed for the first time
abbrev pub object_fault : ℤ → FilterOf → Option EntryOf → Option ListFault
object_fault t q None = Some fault.Absent
object_fault t q (Some e) = option_map fault.Excluded (find (refuses q (state (dates_in e.attributes) t) (card_declared e)) filters)

-- what is wrong with an identifier that isn't new, or is
abbrev pub fault_in : DeclarationOf → ℤ → FilterOf → List ℕ → Bool → Option ListFault
fault_in held t q id is_new = cond is_new (object_fault t q (object_held held (Some id))) (Some fault.Again)

-- a fault was told of an identifier, or there is none
abbrev pub NotesFault : List ℕ → Option ListFault → List WronglyListed → List WronglyListed → Type 0
NotesFault id None before after = after ≡ before
NotesFault id (Some f) before after = (w : WronglyListed) × (after ≡ before ++ w ∷ []) × (string_bytes w.identifier ≡ id) × (w.fault ≡ f)

-- the item is a Locate whose list isn't right
pub record IsListedWrongly (held : DeclarationOf) (t : ℤ) (ask : AskOf) (answer : AnswerOf) : Type 0 where
  pub filter : FilterOf
  pub ids : List (List ℕ)
  pub locate : IsLocate ask answer filter ids
  pub wrongly : ListsRightly (map card_declared held.entries) t filter ids → ⊥

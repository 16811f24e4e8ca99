-- The meaning of a ledger: its objects, its secrets, what is set aside, and its marks, and what each call leaves of them.
use Rattle.std.specs.Prelude.{ℕ, true, List, [], ◌∷◌, ◌++◌, map, Option, Some, None, option_map, slice_get}
use Rattle.kmipa_object.specs.Lists.{updated}
use Rattle.kmipa_object.specs.Life.{dates_of}
use Rattle.kmipa_object.specs.Inventory.{Card, card_of}
use Rattle.kmipa_object.specs.declared.life.Life.{Life}
use Rattle.kmipa_object.specs.declared.life.Material.{Material}
use Rattle.kmipa_object.specs.declared.object.Object.{Object}
use Rattle.kmipa_object.specs.declared.rule.Rule.{Rule}
use Rattle.kmipa_store.specs.Aside.{AsideOf, said_aside, said_in}
pub use Rattle.kmipa_object.specs.Inventory.{place_of}

-- an object but for its bytes, and the number of its secret, or gone
pub record Held : Type 0 where
  pub card : Card
  pub material : Material

abbrev pub held : Object → Held
held o = record { card = card_of o; material = o.life.material }

-- a secret: what its bytes must be, and they themselves where they are known
pub record Known : Type 0 where
  pub rule : Rule
  pub bytes : Option (List ℕ)

-- objects in the order of arrival, secrets by their number, and what is set aside
pub record Meaning : Type 0 where
  pub objects : List Held
  pub secrets : List Known
  pub aside : AsideOf

-- what a ledger means now, and what it meant at each mark, the newest first
pub record LedgerState : Type 0 where
  pub now : Meaning
  pub marks : List Meaning

abbrev pub cards_of : List Held → List Card
cards_of objects = map (λ (h : Held). h.card) objects

-- the identifier of the object at a place, where there is one
abbrev pub id_at : List Held → ℕ → Option (List ℕ)
id_at objects place = option_map (λ (h : Held). h.card.id) (slice_get objects place)

-- the bytes of the secret of a number, where there is one
abbrev pub bytes_at : List Known → ℕ → Option (Option (List ℕ))
bytes_at secrets number = option_map (λ (k : Known). k.bytes) (slice_get secrets number)

-- an object with the dates and the material of another life
abbrev pub with_life : Held → Life → Held
with_life h life = record { card = record h.card { dates = dates_of life }; material = life.material }

-- the object at a place leads another life
abbrev pub relived : List Held → ℕ → Life → List Held
relived objects place life = updated objects place (λ h. with_life h life)

-- the secret of a number has these bytes
abbrev pub told : List Known → ℕ → List ℕ → List Known
told secrets number bytes = updated secrets number (λ k. record { rule = k.rule; bytes = Some bytes })

-- what a call does to the present and not to the marks
abbrev pub changed : LedgerState → Meaning → LedgerState
changed s m = record { now = m; marks = s.marks }

abbrev pub added : LedgerState → Held → LedgerState
added s h = changed s (record { objects = s.now.objects ++ h ∷ []; secrets = s.now.secrets; aside = s.now.aside })

abbrev pub replaced : LedgerState → ℕ → Life → LedgerState
replaced s place life = changed s (record { objects = relived s.now.objects place life; secrets = s.now.secrets; aside = s.now.aside })

-- the object at a place is another one from now on
abbrev pub renewed : LedgerState → ℕ → Held → LedgerState
renewed s place h = changed s (record { objects = updated s.now.objects place (λ _. h); secrets = s.now.secrets; aside = s.now.aside })

abbrev pub with_secret : LedgerState → Rule → LedgerState
with_secret s rule = changed s (record { objects = s.now.objects; secrets = s.now.secrets ++ record { rule = rule; bytes = None } ∷ []; aside = s.now.aside })

abbrev pub learned : LedgerState → ℕ → List ℕ → LedgerState
learned s number bytes = changed s (record { objects = s.now.objects; secrets = told s.now.secrets number bytes; aside = s.now.aside })

-- something else is set aside
abbrev pub with_aside : LedgerState → AsideOf → LedgerState
with_aside s a = changed s (record { objects = s.now.objects; secrets = s.now.secrets; aside = a })

abbrev pub set_aside : LedgerState → List ℕ → LedgerState
set_aside s id = with_aside s (record { ids = said_aside s.now.aside.ids id; rest = s.now.aside.rest; over = s.now.aside.over })

abbrev pub taken_in : LedgerState → List ℕ → LedgerState
taken_in s id = with_aside s (record { ids = said_in s.now.aside.ids id; rest = s.now.aside.rest; over = s.now.aside.over })

abbrev pub rest_set_aside : LedgerState → LedgerState
rest_set_aside s = with_aside s (record { ids = s.now.aside.ids; rest = true; over = s.now.aside.over })

abbrev pub judging_ended : LedgerState → LedgerState
judging_ended s = with_aside s (record { ids = s.now.aside.ids; rest = s.now.aside.rest; over = true })

abbrev pub marked : LedgerState → LedgerState
marked s = record { now = s.now; marks = s.now ∷ s.marks }

-- the newest mark is spent, and nothing goes back
abbrev pub kept_from : Meaning → List Meaning → LedgerState
kept_from now [] = record { now = now; marks = [] }
kept_from now (m ∷ marks) = record { now = now; marks = marks }

abbrev pub kept : LedgerState → LedgerState
kept s = kept_from s.now s.marks

-- what was set aside, and whether judging is over by now
abbrev pub aside_again : AsideOf → AsideOf → AsideOf
aside_again then now = record { ids = then.ids; rest = then.rest; over = now.over }

-- the newest mark is spent: objects and what is set aside go back to it; secrets, what was learned, and that judging is over stay
abbrev pub undone_from : Meaning → List Meaning → LedgerState
undone_from now [] = record { now = now; marks = [] }
undone_from now (m ∷ marks) = record { now = record { objects = m.objects; secrets = now.secrets; aside = aside_again m.aside now.aside }; marks = marks }

abbrev pub undone : LedgerState → LedgerState
undone s = undone_from s.now s.marks

-- the newest mark is spent, and all goes back to it
abbrev pub back_from : Meaning → List Meaning → LedgerState
back_from now [] = record { now = now; marks = [] }
back_from now (m ∷ marks) = record { now = m; marks = marks }

abbrev pub gone_back : LedgerState → LedgerState
gone_back s = back_from s.now s.marks

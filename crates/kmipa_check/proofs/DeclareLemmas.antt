-- The secret of an object whose bytes are declared.
use Rattle.std.proofs.Common.{◌≡◌, ℕ, ℤ, false, List, [], ◌∷◌, ◌++◌, is_some, Option, Some, None, Ok, refl, sym, ap, ◌∙◌, subst}
use Rattle.kmipa_object.specs.Inventory.{given_of, rule_for, rule_of}
use Rattle.kmipa_object.specs.declared.life.Material.TheVariants.{Secret}
use Rattle.kmipa_object.specs.declared.life.SecretNo.{SecretNo}
use Rattle.kmipa_object.specs.declared.rule.Rule.{Rule}
use Rattle.kmipa_store.specs.Calls.{MakesSecret, Learns}
use Rattle.kmipa_store.specs.Ledger.{Known, LedgerState, changed, learned, with_secret}
use Rattle.kmipa_store.proofs.ChoiceLemmas.{told-last}
use Rattle.kmipa_record.specs.Entries.{EntryOf}
use Rattle.kmipa_check.specs.Described.{card_declared}
use Rattle.kmipa_check.specs.Opening.{PlacedAt, Places}

none_there : {X : Type 0} (o : Option X) → is_some o ≡ false → o ≡ None
none_there None h = refl
none_there (Some x) h = cc

-- a new secret that learned the declared bytes
pub placed_known : (s t u : LedgerState) (e : EntryOf) (rule : Rule) (secret : SecretNo) (bytes : List ℕ) → is_some e.attributes.destroy ≡ false → rule ≡ rule_for e.kind (given_of e.attributes)
    → e.bytes ≡ Some bytes → MakesSecret s rule (Ok secret) t → Learns t secret.number bytes (Ok tt) u → Places s e (Ok (Secret secret)) u
placed_known s t u e rule secret bytes alive is own made learns =
    let P : Option ℤ → Type 0 = λ destroy. PlacedAt destroy s e (Secret secret) u in
    let rule_is : rule ≡ rule_of (card_declared e) = is in
    let with_known : Rule → Option (List ℕ) → LedgerState = λ r b. changed s (record { objects = s.now.objects; secrets = s.now.secrets ++ record { rule = r; bytes = b } ∷ []; aside = s.now.aside }) in
    subst P (sym (none_there e.attributes.destroy alive)) (
      ap (λ (n : ℕ). Secret (record { number = n })) made.1,
      learns.2
          ∙ ap (λ (x : LedgerState). learned x secret.number bytes) made.2
          ∙ ap (λ (n : ℕ). learned (with_secret s rule) n bytes) made.1
          ∙ ap (λ (ks : List Known). changed s (record { objects = s.now.objects; secrets = ks; aside = s.now.aside })) (told-last s.now.secrets (record { rule = rule; bytes = None }) bytes)
          ∙ ap (λ (r : Rule). with_known r (Some bytes)) rule_is
          ∙ ap (with_known (rule_of (card_declared e))) (sym own),
    )

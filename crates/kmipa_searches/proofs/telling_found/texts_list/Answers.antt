use Rattle.std.proofs.Common.{◌∙◌, ap, rules}
use Rattle.serde_json.specs.Data.{string}
use Rattle.kmipa_json.specs.Told.{items_of, with_item}
use Rattle.kmipa_searches.proofs.JsonSearchLemmas.{one_object_more}
use Rattle.kmipa_searches.proofs.telling_found.texts_list.Goals as goal

pub texts-preserved : goal.texts-preserved
texts-preserved c =
    one_object_more c.args.texts.now c.texts.text-index c.text-item.result (items_of c.texts.list) (items_of c.push_text.new.self) c.texts-test.true
    c.texts.invariant c.text-item.is (c.in_ok-push_text.ensures.ok ∙ ap (λ t. with_item (string t) (items_of c.texts.list)) c.as_str.ensures.value)

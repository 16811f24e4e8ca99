-- The tree that a view is, and the trees of the children that it lends.
use Rattle.std.specs.Prelude.{ℕ, ◌==◌, cond, List, [], ◌∷◌}
use Rattle.kmipa_ttlv.specs.Tree.{Tree, Trees, structure, scalar, none, more, tag_of}
use Rattle.kmipa_ttlv.specs.Tree
use Rattle.kmipa_ttlv.specs.ItemTree.{trees}
use Rattle.kmipa_ttlv.specs.Spelled.{items_at}
use Rattle.kmipa_ttlv.specs.declared.view.View.{View}
use Rattle.kmipa_ttlv.specs.declared.view.Source.{Source}
use Rattle.kmipa_ttlv.specs.declared.view.Source.TheVariants.{Spelled, Lent}
use Rattle.kmipa_ttlv.specs.declared.view.Children.{Children}
use Rattle.kmipa_ttlv.specs.declared.view.ViewValue.{ViewValue}
use Rattle.kmipa_ttlv.specs.declared.view.ViewValue.TheVariants.{Structure, Integer, LongInteger, BigInteger, Enumeration, Boolean, Text, Bytes, DateTime, Interval, DateTimeExtended}

-- the trees that bytes spell, or that items are
abbrev pub source_trees : Source → Trees
source_trees (Spelled bytes) = items_at bytes.now
source_trees (Lent items) = trees items.now

-- the trees of the children that are left
abbrev pub view_trees : Children → Trees
view_trees children = source_trees children.source

-- the tree of a value under this tag
abbrev pub view_value_tree : ℕ → ViewValue → Tree
view_value_tree n (Structure children) = structure n (view_trees children)
view_value_tree n (Integer z) = scalar n (Tree.integer z)
view_value_tree n (LongInteger z) = scalar n (Tree.long_integer z)
view_value_tree n (BigInteger bs) = scalar n (Tree.big_integer bs.now)
view_value_tree n (Enumeration x) = scalar n (Tree.enumeration x)
view_value_tree n (Boolean b) = scalar n (Tree.boolean b)
view_value_tree n (Text s) = scalar n (Tree.text s.now)
view_value_tree n (Bytes bs) = scalar n (Tree.byte_string bs.now)
view_value_tree n (DateTime z) = scalar n (Tree.date_time z)
view_value_tree n (Interval x) = scalar n (Tree.interval x)
view_value_tree n (DateTimeExtended z) = scalar n (Tree.date_time_extended z)

-- the tree of a view
abbrev pub view_tree : View → Tree
view_tree v = view_value_tree v.tag.number v.value

-- the trees from the first with the tag on
unfoldable pub from_tag : ℕ → Trees → Trees
from_tag n none = none
from_tag n (more t ts) = cond (tag_of t == n) (more t ts) (from_tag n ts)

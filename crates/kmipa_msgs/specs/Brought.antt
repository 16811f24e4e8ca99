-- What the program's parts of a Register mean.
use Rattle.kmipa_attrs.specs.Sets.{attributes_of}
use Rattle.kmipa_msgs.specs.declared.reading.brought.Brought.{Brought}
use Rattle.kmipa_msgs.specs.Messages.{block_of}
use Rattle.kmipa_msgs.specs.Registers.{BroughtOf}

abbrev pub brought_of : Brought → BroughtOf
brought_of b = record { object_type = b.object_type; shape = b.shape; attributes = attributes_of b.attributes; block = block_of b.block }

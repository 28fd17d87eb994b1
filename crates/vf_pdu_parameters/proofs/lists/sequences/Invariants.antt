use Rattle.std.proofs.Common.{◌≡◌, map, take}
use Rattle.vf_pdu_fields.specs.Content.{items_of}
use Rattle.vf_pdu_fields.specs.Writing.{fields, spelled_items}
use Rattle.vf_pdu_parameters.proofs.lists.sequences.Given as goal

-- what is made so far is a prefix of the list
abbrev pub invariant-loop-item : goal.invariant-loop-item
invariant-loop-item g l = l.made ≡ spelled_items (fields g.T.Item.its_row) (items_of (map g.T.Item.its_slots (take l.item-index l.items)))

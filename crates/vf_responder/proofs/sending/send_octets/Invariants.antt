use Rattle.std.proofs.Common.{◌≡◌, drop}
use Rattle.vf_responder.specs.Spoken.{joined}
use Rattle.vf_responder.proofs.BlockLemmas.{IsAmid}
use Rattle.vf_responder.proofs.sending.send_octets.Given as goal

abbrev pub invariant-loop-part : goal.invariant-loop-part
invariant-loop-part g l = record {
  amid : IsAmid (g.L.Links.told l.initial.links) (g.L.Links.told l.links) l.link l.block.items (joined (drop l.part-index l.part-items) l.octets-inside.last.items) (joined l.part-items l.octets-inside.last.items);
  link : g.L.Links.last_link l.links ≡ g.L.Links.last_link l.initial.links;
  turns : g.L.Links.turns l.links ≡ g.L.Links.turns l.initial.links;
  count : g.L.Links.fault_count l.links ≡ g.L.Links.fault_count l.initial.links;
}

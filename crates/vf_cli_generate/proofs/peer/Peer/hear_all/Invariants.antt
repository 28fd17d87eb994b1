use Rattle.std.proofs.Common.{◌≡◌, take}
use Rattle.vf_stack.specs.Association.{Association}
use Rattle.vf_cli_generate.specs.Generating.{IsCalling, hears}
use Rattle.vf_cli_generate.proofs.peer.Peer.hear_all.Given as goal

abbrev pub invariant-loop-reply : goal.invariant-loop-reply
invariant-loop-reply l = record {
  hears : (calling : Association) → IsCalling l.initial.self.stack calling → IsCalling l.self.stack (hears calling (take l.reply-index l.replies));
  link : l.self.link ≡ l.initial.self.link;
}

use Rattle.std.proofs.Common.{arith}
use Rattle.vf_cli_dialogue.proofs.MessageLemmas.{outside_told}
use Rattle.vf_cli_dialogue.proofs.conversation.append_abort.Goals as goal

pub append_reply-requires : goal.append_reply-requires
append_reply-requires c = outside_told c.from.result (omega (arith, c.from.ensures, c.ranges.place.fits))

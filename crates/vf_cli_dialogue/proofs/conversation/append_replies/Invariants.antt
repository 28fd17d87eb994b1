use Rattle.std.proofs.Common.{◌≡◌, ◌++◌, take}
use Rattle.std.specs.List.{flat_map, list_any}
use Rattle.vf_cli_dialogue.specs.Dialogue.{is_abort, reply}
use Rattle.vf_cli_dialogue.proofs.conversation.append_replies.Given as goal

abbrev pub invariant-loop-one : goal.invariant-loop-one
invariant-loop-one l =
    (l.replies.lines.items ≡ l.initial.replies.lines.items ++ flat_map reply (take l.one-index l.said))
    × (l.aborted ≡ list_any is_abort (take l.one-index l.said))

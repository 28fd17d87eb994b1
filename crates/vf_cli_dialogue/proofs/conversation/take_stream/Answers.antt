use Rattle.std.proofs.Common.{IfOk, List, ℕ, subst, arith}
use Rattle.std.proofs.lemmas.List.{drop_all}
use Rattle.vf_ber.specs.Reading.{Read}
use Rattle.vf_elements.specs.declared.message.Message.TheVariants as messages
use Rattle.vf_filestore.specs.State.{State}
use Rattle.vf_cli_dialogue.specs.declared.conversation.Taken.{Taken}
use Rattle.vf_cli_dialogue.specs.Conversation.{Appends, Holds, left_in, octets_in}
use Rattle.vf_cli_dialogue.proofs.MessageLemmas.{message_read}
use Rattle.vf_cli_dialogue.proofs.ReadingLemmas.{reading_is}
use Rattle.vf_cli_dialogue.proofs.StreamLemmas.{none_left, size_ready}
use Rattle.vf_cli_dialogue.proofs.TakenLemmas.{takes_message}
use Rattle.vf_cli_dialogue.proofs.conversation.take_stream.Goals as goal

pub take_message-requires : goal.take_message-requires
take_message-requires c =
    record { stands = c.requires.stands; read = message_read (c.in-Some.ensures.1).0 (messages.Pdu c.in-Some.request) (c.in-Some.ensures.1).2 }

pub returns-in-Some-clause-less : goal.returns-in-Some-clause-less
returns-in-Some-clause-less c = (omega (arith, size_ready c.args.stream c.requires.ready), λ more. absurd cc)

pub returns-in-Some-clause-rest : goal.returns-in-Some-clause-rest
returns-in-Some-clause-rest c = none_left c.in_ok-after.after

pub returns-in-Some-clause-took : goal.returns-in-Some-clause-took
returns-in-Some-clause-took c = λ state holds.
    let octets = octets_in c.args.stream in
    let (two, found) = c.in-Some.ensures in
    let old = c.args.replies.now.lines.items in
    let new = c.take_message.new.replies.lines.items in
    subst (λ (rest : List ℕ). Appends state octets old new c.take_message.new.filestore c.in_ok-after.after rest) (drop_all 2 octets (omega (arith, two)))
    (takes_message state octets (messages.Pdu c.in-Some.request) found.0 2 (reading_is octets (Read found.0 2) found.1) found.2
    c.take_message.new.filestore old new c.in_ok-after.after (c.in_ok-after.ensures state holds))

pub returns-clause-took : goal.returns-clause-took
returns-clause-took c =
    subst (λ (octets : List ℕ). IfOk c.take_messages.result (λ (taken : Taken). (state : State) → Holds c.args.filestore.now state
    → Appends state octets c.args.replies.now.lines.items c.take_messages.new.replies.lines.items c.take_messages.new.filestore taken.after (left_in taken.rest)))
    c.in_ok-octets.ensures c.take_messages.ensures.took

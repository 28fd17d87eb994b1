use Rattle.std.proofs.Common.{◌<◌, drop, sym, subst, arith}
use Rattle.vf_ber.specs.Reading.{Reading}
use Rattle.vf_ber.specs.Views.{tree_of}
use Rattle.vf_elements.specs.Messages.{message_in}
use Rattle.vf_cli_dialogue.specs.declared.conversation.After.{After}
use Rattle.vf_cli_dialogue.specs.Conversation.{Appends, IsFault}
use Rattle.vf_cli_dialogue.proofs.MessageLemmas.{message_read}
use Rattle.vf_cli_dialogue.proofs.ReadingLemmas.{Takes, reading-takes}
use Rattle.vf_cli_dialogue.proofs.TakenLemmas.{takes_fault, takes_message}
use Rattle.vf_cli_dialogue.proofs.conversation.take_value.Goals as goal

pub returns-in_ok-after-in-Ok-clause-advances : goal.returns-in_ok-after-in-Ok-clause-advances
returns-in_ok-after-in-Ok-clause-advances c = λ octets read.
    let fits = subst (λ (r : Reading). Takes octets r) read (reading-takes octets) in
    let above : 1 < c.args.length = fits.0 in
    (fits.1, λ goes. omega (arith, above))

pub returns-in_ok-after-in-Ok-clause-took : goal.returns-in_ok-after-in-Ok-clause-took
returns-in_ok-after-in-Ok-clause-took c = λ octets state read holds.
    takes_message state octets c.in-Ok.message (tree_of c.args.value.now) c.args.length read c.in-Ok.ensures c.take_message.new.filestore
    c.args.replies.now.lines.items c.take_message.new.replies.lines.items c.in_ok-after-in-Ok.after (c.in_ok-after-in-Ok.ensures state holds)

pub returns-in_ok-first-in-Err-clause-took : goal.returns-in_ok-first-in-Err-clause-took
returns-in_ok-first-in-Err-clause-took c = λ octets state read holds.
    let place = c.in_ok-place-in-Err.place in
    let told = c.in_ok-first-in-Err.ensures in
    let old = c.args.replies.now.lines.items in
    let new = c.append_abort.new.replies.lines.items in
    let rest = drop c.in_ok-first-in-Err.first.length octets in
    let found = subst (λ (r : Reading). IsFault r place) (sym read) (c.in_ok-place-in-Err.ensures (message_in (tree_of c.args.value.now)) c.in-Err.ensures) in
    subst (λ (a : After). Appends state octets old new c.args.filestore.now a rest) (sym told.0)
    (takes_fault state c.args.filestore.now octets old new holds place rest found told.2)

pub take_message-requires : goal.take_message-requires
take_message-requires c = record { stands = c.requires; read = message_read (tree_of c.args.value.now) c.in-Ok.message c.in-Ok.ensures }

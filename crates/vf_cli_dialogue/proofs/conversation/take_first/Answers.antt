use Rattle.std.proofs.Common.{◌≡◌, ℕ, List, Option, drop, sym, subst, arith}
use Rattle.vf_ber.specs.Reader.{reading}
use Rattle.vf_ber.specs.Reading.{IsReading, Read, Reading}
use Rattle.vf_ber.specs.Tree.{Tree}
use Rattle.vf_ber.specs.Views.{tree_of}
use Rattle.vf_elements.specs.declared.message.Message.TheVariants as messages
use Rattle.vf_cli_dialogue.specs.declared.conversation.After.{After}
use Rattle.vf_cli_dialogue.specs.Conversation.{Appends, IsUnread}
use Rattle.vf_cli_dialogue.proofs.MessageLemmas.{message_read}
use Rattle.vf_cli_dialogue.proofs.ReadingLemmas.{Takes, reading-takes, reading_is}
use Rattle.vf_cli_dialogue.proofs.TakenLemmas.{takes_fault, takes_message}
use Rattle.vf_cli_dialogue.proofs.conversation.take_first.Goals as goal

-- the octets of a slice are read as those that it is of
reading_of : (octets slice : List ℕ) (tree : Tree) → slice ≡ octets → IsReading slice (Read tree 2) → reading octets ≡ Read tree 2
reading_of octets slice tree is read = reading_is octets (Read tree 2) (subst (λ (all : List ℕ). IsReading all (Read tree 2)) is read)

pub take_message-requires : goal.take_message-requires
take_message-requires c = record { stands = c.requires; read = message_read c.in-Some.ensures.0 (messages.Pdu c.in-Some.request) c.in-Some.ensures.2 }

pub returns-in-Some-clause-advances : goal.returns-in-Some-clause-advances
returns-in-Some-clause-advances c =
    let octets = c.args.octets.now in
    let read = reading_of octets c.as_slice.result.now c.in-Some.ensures.0 c.as_slice.ensures c.in-Some.ensures.1 in
    let fits = subst (λ (r : Reading). Takes octets r) read (reading-takes octets) in
    (fits.1, λ goes. omega arith)

pub returns-in-Some-clause-took : goal.returns-in-Some-clause-took
returns-in-Some-clause-took c = λ state holds.
    let octets = c.args.octets.now in
    let found = c.in-Some.ensures in
    takes_message state octets (messages.Pdu c.in-Some.request) found.0 2 (reading_of octets c.as_slice.result.now found.0 c.as_slice.ensures found.1) found.2
    c.take_message.new.filestore c.args.replies.now.lines.items c.take_message.new.replies.lines.items c.in_ok-after.after (c.in_ok-after.ensures state holds)

pub returns-in-Err-clause-took : goal.returns-in-Err-clause-took
returns-in-Err-clause-took c = λ state holds.
    let octets = c.args.octets.now in
    let told = c.in_ok-first-in-Err.ensures in
    let old = c.args.replies.now.lines.items in
    let new = c.append_abort.new.replies.lines.items in
    let rest = drop c.in_ok-first-in-Err.first.length octets in
    let found = subst (λ (p : Option ℕ). IsUnread (reading octets) p) c.in-Some-2.is (c.in_ok-place-in-Err.ensures octets c.in-Err.ensures) in
    subst (λ (a : After). Appends state octets old new c.args.filestore.now a rest) (sym told.0)
    (takes_fault state c.args.filestore.now octets old new holds c.in-Some-2.place rest found told.2)

pub returns-clause-advances : goal.returns-clause-advances
returns-clause-advances c =
    c.in_ok-first.ensures.advances c.args.octets.now (reading_is c.args.octets.now (Read (tree_of c.in-Ok.read.0) c.in-Ok.read.1) c.in-Ok.ensures)

pub returns-clause-took : goal.returns-clause-took
returns-clause-took c = λ state holds.
    c.in_ok-first.ensures.took c.args.octets.now state (reading_is c.args.octets.now (Read (tree_of c.in-Ok.read.0) c.in-Ok.read.1) c.in-Ok.ensures) holds

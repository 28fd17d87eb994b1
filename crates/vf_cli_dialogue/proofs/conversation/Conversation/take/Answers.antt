use Rattle.std.proofs.Common.{arith, ap, sym, ◌∙◌}
use Rattle.vf_cli_dialogue.specs.Conversation.{left_in, is_ready, octets_in, size_of}
use Rattle.vf_cli_dialogue.proofs.StreamLemmas.{ready_holds, rest_short, taken_aborted, taken_goes, taken_gone}
use Rattle.vf_cli_dialogue.proofs.conversation.Conversation.take.Goals as goal

pub take_stream-requires : goal.take_stream-requires
take_stream-requires c =
    let self = c.args.self.now in
    let stands = c.requires.stands in record {
      ready = ap is_ready c.replace-stream.ensures.value ∙ c.requires.ready;
      stands = (stands.0, ready_holds self.filestore self.scan stands.0 self.stream c.requires.ready stands.1);
    }

pub rest_after-requires : goal.rest_after-requires
rest_after-requires c =
    rest_short c.in_ok-after.field-0.after c.in_ok-after.field-0.more (left_in c.in_ok-after.field-0.rest) c.in-Goes.is c.in_ok-after.ensures.rest

pub returns-in_ok-self-in-Goes-clause-takes : goal.returns-in_ok-self-in-Goes-clause-takes
returns-in_ok-self-in-Goes-clause-takes c = λ state stands.
    let self = c.args.self.now in
    taken_goes state self.stream (octets_in c.replace-stream.result) (ap octets_in (sym c.replace-stream.ensures.value)) c.args.replies.now.lines.items c.take_stream.new.replies.lines.items c.take_stream.new.filestore
    c.in_ok-after.field-0.after (left_in c.in_ok-after.field-0.rest)
    (c.in_ok-after.ensures.took state (ready_holds self.filestore self.scan state self.stream c.requires.ready stands))
    c.rest_after.new.scan _ c.in-Goes.is c.in_ok-self-in-Goes.ensures.octets c.in_ok-self-in-Goes.ensures.takes

pub returns-in-Gone-clause-takes : goal.returns-in-Gone-clause-takes
returns-in-Gone-clause-takes c = λ state stands.
    let self = c.args.self.now in
    taken_gone state self.stream (octets_in c.replace-stream.result) (ap octets_in (sym c.replace-stream.ensures.value)) c.args.replies.now.lines.items c.take_stream.new.replies.lines.items c.take_stream.new.filestore
    c.in_ok-after.field-0.after (left_in c.in_ok-after.field-0.rest)
    (c.in_ok-after.ensures.took state (ready_holds self.filestore self.scan state self.stream c.requires.ready stands))
    self.scan c.replace-stream.new.dest c.in-Gone.is c.replace-stream.ensures.after

pub returns-in-Gone-clause-size : goal.returns-in-Gone-clause-size
returns-in-Gone-clause-size c = omega (arith, ap size_of c.replace-stream.ensures.value, ap size_of c.replace-stream.ensures.after, c.in_ok-after.ensures.less.0)

pub returns-in-Aborted-clause-takes : goal.returns-in-Aborted-clause-takes
returns-in-Aborted-clause-takes c = λ state stands.
    let self = c.args.self.now in
    taken_aborted state self.stream (octets_in c.replace-stream.result) (ap octets_in (sym c.replace-stream.ensures.value)) c.args.replies.now.lines.items c.take_stream.new.replies.lines.items c.take_stream.new.filestore
    c.in_ok-after.field-0.after (left_in c.in_ok-after.field-0.rest)
    (c.in_ok-after.ensures.took state (ready_holds self.filestore self.scan state self.stream c.requires.ready stands))
    c.in-Aborted.is

pub returns-in-Aborted-clause-size : goal.returns-in-Aborted-clause-size
returns-in-Aborted-clause-size c = omega (arith, ap size_of c.replace-stream.ensures.value, ap size_of c.replace-stream.ensures.after, c.in_ok-after.ensures.less.0)

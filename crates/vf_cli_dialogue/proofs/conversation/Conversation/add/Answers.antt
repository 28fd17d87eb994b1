use Rattle.std.proofs.Common.{arith, ap, sym, subst, ◌∙◌, true, false, refl}
use Rattle.vf_cli_dialogue.specs.Conversation.{StandsBy, is_ready, octets_in, size_of}
use Rattle.vf_cli_dialogue.proofs.StreamLemmas.{not_ready, piece_added, piece_gone}
use Rattle.vf_cli_dialogue.proofs.conversation.Conversation.add.Goals as goal

pub unreachable-requires : goal.unreachable-requires
unreachable-requires c = not_ready c.args.self.now.stream true false (ap is_ready (sym c.replace.ensures.value ∙ c.in-Ready.is)) c.requires refl refl

pub returns-in_ok-self-in-Waiting-clause-adds : goal.returns-in_ok-self-in-Waiting-clause-adds
returns-in_ok-self-in-Waiting-clause-adds c = λ state stands.
    let is = sym c.replace.ensures.value ∙ c.in-Waiting.is in
    let self = c.args.self.now in
    piece_added state self.filestore self.scan c.added.new.scan self.stream _ c.in-Waiting.pending.items c.args.piece.now.items
    (ap octets_in is) (λ standing. subst (StandsBy self.filestore self.scan state) is standing)
    c.in_ok-self-in-Waiting.ensures.octets c.in_ok-self-in-Waiting.ensures.takes stands

pub returns-in_ok-self-in-Waiting-clause-size : goal.returns-in_ok-self-in-Waiting-clause-size
returns-in_ok-self-in-Waiting-clause-size c =
    let is = ap size_of (sym c.replace.ensures.value ∙ c.in-Waiting.is) in
    omega (arith, is, c.in_ok-self-in-Waiting.ensures.size)

pub returns-in-Gone-clause-adds : goal.returns-in-Gone-clause-adds
returns-in-Gone-clause-adds c = λ state stands.
    let self = c.args.self.now in
    piece_gone state self.filestore self.scan self.stream c.replace.new.dest c.args.piece.now.items
    (sym c.replace.ensures.value ∙ c.in-Gone.is) c.replace.ensures.after stands

pub returns-in-Gone-clause-size : goal.returns-in-Gone-clause-size
returns-in-Gone-clause-size c = omega (arith, ap size_of c.replace.ensures.after)

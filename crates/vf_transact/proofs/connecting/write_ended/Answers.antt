-- What a get has received, where it ended well.
use Rattle.std.proofs.Common.{List, OnErr, OnOk, sym, subst, ◌∙◌}
use Rattle.vf_base.specs.declared.element.Element.{Element}
use Rattle.vf_initiator.specs.Output.{written}
use Rattle.vf_initiator.specs.Says.{elements_of}
use Rattle.vf_initiator.specs.declared.doing.Doing.{Doing}
use Rattle.vf_transact.specs.Connecting.{Writes, WritesPart}
use Rattle.vf_transact.specs.Writing.{PassesAll, PassesFront}
use Rattle.vf_transact.proofs.connecting.write_ended.Goals as goal

pub returns-in-Ended-clause-all : goal.returns-in-Ended-clause-all
returns-in-Ended-clause-all g c = λ talk rest owes.
    subst (λ (d : Doing). OnOk c.write_elements.result (Writes c.args.kind (elements_of talk.conduct) d (g.O.Sink.taken c.args.out.now) (g.O.Sink.taken c.write_elements.new.out))) (sym c.in-Ended.is)
    (subst (λ (l : List Element). OnOk c.write_elements.result (PassesAll (written c.args.kind l) (g.O.Sink.taken c.args.out.now) (g.O.Sink.taken c.write_elements.new.out))) (c.as_slice.ensures ∙ c.elements.ensures.owed talk rest owes)
    c.write_elements.ensures.passes)

pub returns-in-Ended-clause-front : goal.returns-in-Ended-clause-front
returns-in-Ended-clause-front g c = λ talk rest owes.
    subst (λ (d : Doing). OnErr c.write_elements.result (WritesPart c.args.kind (elements_of talk.conduct) d (g.O.Sink.taken c.args.out.now) (g.O.Sink.taken c.write_elements.new.out))) (sym c.in-Ended.is)
    (subst (λ (l : List Element). OnErr c.write_elements.result (PassesFront (written c.args.kind l) (g.O.Sink.taken c.args.out.now) (g.O.Sink.taken c.write_elements.new.out))) (c.as_slice.ensures ∙ c.elements.ensures.owed talk rest owes)
    c.write_elements.ensures.front)

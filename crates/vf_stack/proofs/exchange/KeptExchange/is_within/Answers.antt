use Rattle.std.proofs.Common.{Bool, ◌&&◌, false, subst, sym}
use Rattle.std.specs.Prelude.{IsTrue}
use Rattle.vf_stack.specs.Represents.{standing_of}
use Rattle.vf_stack.specs.Sending.{IsSendable}
use Rattle.vf_stack.specs.Sends.{IsPermitted, unit_kept}
use Rattle.vf_stack.proofs.MayLemmas.{may-counts}
use Rattle.vf_stack.proofs.exchange.KeptExchange.is_within.Goals as goal

pub returns-then-permitted : goal.returns-then-permitted
returns-then-permitted c =
    let kept = c.args.self.now in
    let request = c.args.request.now in
    let fit = c.fits-fit.result in
    let P : Bool → Type 0 = λ test.
    (IsTrue (test && fit) → IsPermitted kept (unit_kept kept request) × IsSendable kept.session.side (standing_of kept) request)
    × (IsPermitted kept (unit_kept kept request) × IsSendable kept.session.side (standing_of kept) request → IsTrue (test && fit)) in
    subst P c.if-permitted.true
    (may-counts kept request c.args.octets c.parameters_of-parameters.result c.permits-permitted.result fit c.requires.suited c.requires.carried c.requires.counted c.parameters_of-parameters.ensures c.permits-permitted.ensures c.fits-fit.ensures)

pub returns-else-permitted : goal.returns-else-permitted
returns-else-permitted c =
    let kept = c.args.self.now in
    let request = c.args.request.now in
    let fit = c.fits-fit.result in
    let P : Bool → Type 0 = λ test.
    (IsTrue (test && fit) → IsPermitted kept (unit_kept kept request) × IsSendable kept.session.side (standing_of kept) request)
    × (IsPermitted kept (unit_kept kept request) × IsSendable kept.session.side (standing_of kept) request → IsTrue (test && fit)) in
    let Q : Bool → Type 0 = λ test.
    (IsTrue test → IsPermitted kept (unit_kept kept request) × IsSendable kept.session.side (standing_of kept) request)
    × (IsPermitted kept (unit_kept kept request) × IsSendable kept.session.side (standing_of kept) request → IsTrue test) in
    let none : Q false = subst P c.if-permitted.false
    (may-counts kept request c.args.octets c.parameters_of-parameters.result c.permits-permitted.result fit c.requires.suited c.requires.carried c.requires.counted c.parameters_of-parameters.ensures c.permits-permitted.ensures c.fits-fit.ensures) in
    subst Q (sym c.if-permitted.false) none

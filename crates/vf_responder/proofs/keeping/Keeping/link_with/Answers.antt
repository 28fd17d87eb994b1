use Rattle.std.proofs.Common.{◌≡◌, ◌<◌, ℕ, Some, false, slice_get, below_more, subst, arith}
use Rattle.vf_responder.specs.Represents.{IsWith}
use Rattle.vf_responder.specs.declared.link.Link.{Link}
use Rattle.vf_responder.proofs.WayLemmas.{apart-here, at-place}
use Rattle.vf_responder.proofs.keeping.Keeping.link_with.Goals as goal

pub loop-index-preserved : goal.loop-index-preserved
loop-index-preserved g c =
    let links = c.args.self.now.links.entries in
    below_more (λ (place : ℕ). (entry : ℕ × Link) → slice_get links place ≡ Some entry → IsWith c.args.identity.now c.args.activity false entry.1) c.loop-index.index c.loop-index.invariant
    (apart-here links c.loop-index.index c.in-Some.number.now c.in-Some.link.now c.args.identity.now c.args.activity c.is_at.result c.in-Some.ensures.entry c.is_at.ensures c.if-is_at.false)

pub returns-clause-none : goal.returns-clause-none
returns-clause-none g c = λ number link found.
    let links = c.args.self.now.links.entries in
    let at = at-place number links link found in
    let before : at.0 < c.loop-index.index = omega (arith, at.1, c.len-index-end.ensures.len) in
    subst (λ (one : Link). IsWith c.args.identity.now c.args.activity false one) at.4 (c.loop-index.invariant at.0 before at.2 at.3)

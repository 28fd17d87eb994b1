use Rattle.std.proofs.Common.{◌≡◌, ◌<◌, ℕ, Some, false, slice_get}
use Rattle.vf_responder.specs.Represents.{IsWith}
use Rattle.vf_responder.specs.declared.link.Link.{Link}
use Rattle.vf_responder.proofs.keeping.Keeping.link_with.Given as goal

abbrev pub invariant-loop-index : goal.invariant-loop-index
invariant-loop-index g l =
    (place : ℕ) → place < l.index → (entry : ℕ × Link) → slice_get l.self.links.entries place ≡ Some entry → IsWith l.identity l.activity false entry.1

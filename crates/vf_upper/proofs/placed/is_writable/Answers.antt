use Rattle.std.proofs.Common.{◌≡◌, true, ap, sym, ◌∙◌}
use Rattle.std.specs.Option.{is_some}
use Rattle.vf_upper.specs.Sizes.{size_of}
use Rattle.vf_upper.specs.Written.{is_placed}
use Rattle.vf_upper.proofs.Measured.{writable-sized}
use Rattle.vf_upper.proofs.placed.is_writable.Goals as goal

pub returns-then-is_placed : goal.returns-then-is_placed
returns-then-is_placed c =
    let p = c.args.primitive.now in
    let contexts = c.args.contexts.now in
    let placed : is_placed p contexts ≡ true = ap (is_placed p) (sym c.as_slice.ensures) ∙ sym c.is_placed.ensures ∙ c.if-is_placed.true in
    let same : c.is_some.result ≡ is_some (size_of p contexts) = c.is_some.ensures ∙ ap is_some (c.size_of.ensures ∙ ap (size_of p) c.as_slice-then-is_placed.ensures) in
    let both = writable-sized p contexts placed in
    (λ t. both.0 (sym same ∙ t), λ w. same ∙ both.1 w)

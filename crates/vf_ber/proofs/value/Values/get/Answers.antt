use Rattle.std.proofs.Common.{◌≡◌, ◌∙◌, sym, ap, List, ℕ, ◌<◌, ◌≤◌, length, get_or, Bor, refl}
use Rattle.std.specs.Prelude.{Option, Some, None, IfSome, MatchOption, slice_get}
use Rattle.std.specs.Option.{option_copied, option_map}
use Rattle.std.specs.List.{HoldsAt}
use Rattle.std.proofs.lemmas.Option.{slice_get_past, slice_get_read}
use Rattle.vf_ber.specs.declared.value.Value.{Value}
use Rattle.vf_ber.specs.Tree.{part_at}
use Rattle.vf_ber.specs.Views.{tree_of}
use Rattle.vf_ber.proofs.Lists.{part_at-trees_in}
use Rattle.vf_ber.proofs.value.Values.get.Goals as goal

-- what get answers is what stands at the place
found : (values : List Value) (place : ℕ) (o : Option (Bor Value)) → IfSome o (λ x. x.now ≡ get_or values place x.now)
    → MatchOption o (length values ≤ place) (λ x. (place < length values) × HoldsAt (λ y. x.now ≡ y) values place)
    → option_copied o ≡ slice_get values place
found values place None same cases = sym (slice_get_past values place cases)
found values place (Some x) same cases = sym (slice_get_read values (length values) place x.now refl cases.0 same)

pub returns : goal.returns
returns c =
    let h = c.get.ensures.lookup in
    let same = found c.deref.result.now c.args.place c.get.result h.1 h.3 in
    let listed = part_at-trees_in c.self.inside.items.items c.args.place in
    ap (option_map tree_of) same ∙ ap (λ vs. option_map tree_of (slice_get vs c.args.place)) c.deref.ensures.value ∙ sym listed ∙ ap (λ ts. part_at ts c.args.place) c.self.view_is

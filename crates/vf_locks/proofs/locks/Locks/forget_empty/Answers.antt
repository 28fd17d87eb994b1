use Rattle.std.proofs.Common.{◌≡◌, ◌∙◌, Option, [], List, ap, sym, unwrap_or}
use Rattle.vf_locks.proofs.Forgotten.{forgotten, none_from_length}
use Rattle.vf_locks.specs.Table.{held}
use Rattle.vf_locks.specs.declared.held.Held.{Held}
use Rattle.vf_locks.proofs.locks.Locks.forget_empty.Goals as goal

pub returns-then-is_empty : goal.returns-then-is_empty
returns-then-is_empty c =
    let entries = c.self.inside.by_file.entries in
    let empty : c.in-Some.holders.now ≡ []
    = sym c.as_slice.ensures.holders ∙ none_from_length c.as_slice.result.now (sym c.is_empty.ensures ∙ c.if-is_empty.true) in
    let none : held c.args.file.now entries ≡ [] = ap (λ (helds : Option (List Held)). unwrap_or helds []) (sym c.in-Some.ensures.value) ∙ empty in
    λ file. forgotten c.args.file.now entries c.take_out.new.by_file.entries c.take_out.ensures none file ∙ ap (held file) c.self.view_is

use Rattle.std.proofs.Common.{nat_eq, ◌∙◌}
use Rattle.std.specs.Cmp.Lexicographic.{pointwise}
use Rattle.std.specs.List.{list_any}
use Rattle.vf_named.proofs.Lists.{inserted_new, swapped_in}
use Rattle.vf_named.proofs.names.swap_in.Goals as goal

pub returns-clause-ok : goal.returns-clause-ok
returns-clause-ok c =
    let keys = c.args.by_name.now.keys in
    swapped_in keys c.insert.new.self.keys c.swap_remove_index.new.self.keys c.args.name c.args.place c.swap_remove_index.result c.requires.within
    (c.in_ok-insert.ensures.keys ∙ inserted_new (list_any (pointwise nat_eq c.args.name) keys) keys c.args.name c.requires.new)
    c.swap_remove_index.ensures.key c.swap_remove_index.ensures.keys

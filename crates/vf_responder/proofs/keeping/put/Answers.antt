use Rattle.std.proofs.Common.{nat_eq, ◌∙◌}
use Rattle.indexmap.proofs.CallerLemmas.{insert_entry-new}
use Rattle.vf_responder.proofs.keeping.put.Goals as goal

pub returns-clause-entries : goal.returns-clause-entries
returns-clause-entries c = λ none. c.in_ok-before.ensures.entries ∙ insert_entry-new nat_eq c.args.links.now c.args.link.number c.args.link none

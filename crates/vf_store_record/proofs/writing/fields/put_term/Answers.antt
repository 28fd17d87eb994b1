use Rattle.std.proofs.Common.{Some, refl}
use Rattle.vf_store_record.specs.Fields.{term, term_from, term_parts}
use Rattle.vf_store_record.proofs.Again.{both_writes, made_writes}
use Rattle.vf_store_record.proofs.writing.fields.put_term.Goals as goal

pub returns : goal.returns
unfolding term
returns c = made_writes (λ row. Some (term_from row)) term_parts c.args.term.now (λ q. (tt, (tt, q.in_range))) (λ q. refl) (both_writes c.in_ok-put_optional_name.ensures (both_writes c.in_ok-put_actions.ensures c.in_ok-put_optional_text.ensures))

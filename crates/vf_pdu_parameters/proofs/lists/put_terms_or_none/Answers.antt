use Rattle.std.proofs.Common.{cond, ap, sym, ◌∙◌}
use Rattle.std.specs.Prelude.{None, Some}
use Rattle.vf_pdu_fields.specs.Meaning.{context}
use Rattle.vf_pdu_fields.specs.Writing.{◌▸◌, spelled}
use Rattle.vf_pdu_parameters.specs.ParameterSlots.{term_slots, terms_content}
use Rattle.vf_pdu_parameters.specs.Parameters.{term, terms}
use Rattle.vf_pdu_parameters.proofs.ListsWritten.{list_put, not_usual}
use Rattle.vf_pdu_parameters.proofs.lists.put_terms_or_none.Goals as goal

pub returns-clause-ok : goal.returns-clause-ok
returns-clause-ok c =
    list_put term term_slots c.args.terms.now c.as_slice.result.now c.args.number c.args.parts.now c.put_sequence.new.parts c.in_ok-items.items c.in_ok-put_sequence.ensures.ok c.in_ok-items.ensures c.as_slice.ensures
    ∙ ap (λ b. c.args.parts.now ▸ cond b None (Some (spelled (context c.args.number) terms (terms_content c.args.terms.now))))
    (sym (not_usual term_slots c.args.terms.now (λ e. c.if-len-eq0.false (c.len.ensures ∙ e))))

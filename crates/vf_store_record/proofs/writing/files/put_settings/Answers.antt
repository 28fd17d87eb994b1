use Rattle.std.proofs.Common.{Some, refl}
use Rattle.vf_store_record.specs.Entries.{settings, settings_from, settings_parts}
use Rattle.vf_store_record.proofs.Again.{both_writes, made_writes, moved}
use Rattle.vf_store_record.specs.Writing.{AreTerms}
use Rattle.vf_store_record.proofs.writing.files.put_settings.Goals as goal

pub returns : goal.returns
unfolding settings
returns c = made_writes (λ row. Some (settings_from row)) settings_parts (record { permitted = c.args.permitted; contents = c.args.contents.now; terms = c.args.terms.now }) (λ q. (tt, (q.kind, q.terms))) (λ q. refl) (both_writes c.in_ok-put_actions.ensures (both_writes c.in_ok-put_contents.ensures (moved AreTerms c.as_slice.ensures c.in_ok-put_terms.ensures)))

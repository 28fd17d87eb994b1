use Rattle.std.proofs.Common.{Some, refl}
use Rattle.vf_store_record.specs.Entries.{user, user_from, user_parts}
use Rattle.vf_store_record.proofs.Again.{both_writes, made_writes}
use Rattle.vf_store_record.proofs.writing.elements.put_user.Goals as goal

pub returns : goal.returns
unfolding user
returns c = made_writes (λ row. Some (user_from row)) user_parts c.args.user.now (λ q. (tt, q)) (λ q. refl) (both_writes c.in_ok-put_name.ensures c.in_ok-put_optional_text.ensures)

use Rattle.std.proofs.Common.{◌≡◌, false, cond, ap, sym, ◌∙◌, of_z, w64, rules}
use Rattle.std.specs.Prelude.{None, Some}
use Rattle.std.specs.Ordering.{int_eq}
use Rattle.std.proofs.lemmas.Bool.{false_from_ne_true}
use Rattle.std.proofs.lemmas.Bool.Decides.{Decides-int_eq}
use Rattle.vf_pdu_fields.specs.Content.{Number}
use Rattle.vf_pdu_fields.specs.Meaning.{context}
use Rattle.vf_pdu_fields.specs.Rows.{Any, Integer, one}
use Rattle.vf_pdu_fields.specs.Writing.{◌▸◌, spelled}
use Rattle.vf_pdu_fields.proofs.writing.put_integer_or.Goals as goal

pub returns-clause-ok : goal.returns-clause-ok
returns-clause-ok c =
    let other : int_eq c.args.n c.args.usual ≡ false =
    false_from_ne_true (int_eq c.args.n c.args.usual) (λ e. c.if-n-usual.false (ap (of_z w64) ((Decides-int_eq c.args.n c.args.usual).0 e))) in
    let part = spelled (context c.args.number) (one (Integer Any)) (Number c.args.n) in
    let written : c.put_integer.new.parts ≡ c.args.parts.now ▸ Some part = search rules in
    written ∙ ap (λ b. c.args.parts.now ▸ cond b None (Some part)) (sym other)

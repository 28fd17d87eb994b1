-- The octets of what a put sends are those of the pieces that are kept.
use Rattle.std.proofs.Common.{◌≡◌, ℕ, ◌+◌, Bool, true, false, List, [], ◌∷◌, min, refl, sym, ap, ◌∙◌, Some}
use Rattle.std.proofs.lemmas.List.Sums.{sum_by-append, sum_by-cons}
use Rattle.vf_base.specs.declared.element.Element.{Element}
use Rattle.vf_initiator.specs.Assignments.{given_of, values_of}
use Rattle.vf_tables.specs.Sums.{octets_staged}
use Rattle.vf_tables.specs.declared.task.Task.{Task}
use Rattle.vf_transfer.specs.Transfer.{joined}
use Rattle.vf_tree.specs.FileTree.{octets_of, octets_of_unit}
use Rattle.vf_transact.specs.Starting.{TakenUp, octets_sent, plan_of, task_by}
use Rattle.vf_transact.specs.declared.words.PlanWords.{PlanWords}
use Rattle.vf_transact.proofs.starting.begun_kept.Goals.{then-words, else-words}
use Rattle.vf_transact.proofs.starting.begun_kept.Goals as goal

abbrev kept_plan : PlanWords → Task → TakenUp
kept_plan words task = record { plan = plan_of words []; kept = Some task }

sent_by : PlanWords → Task → Bool → ℕ
sent_by words task put =
    octets_of_unit (values_of (given_of (record { task = task_by put words []; identity = words.identity; password = words.password; activity = words.activity }) (Some task)))

pieces_joined : (pieces : List (List Element)) → octets_staged pieces ≡ octets_of_unit (joined pieces)
pieces_joined [] = refl
pieces_joined (piece ∷ pieces) =
    sum_by-cons octets_of_unit piece pieces ∙ ap (λ (n : ℕ). octets_of_unit piece + n) (pieces_joined pieces) ∙ sym (sum_by-append octets_of piece (joined pieces))

sent_by_put : (words : PlanWords) (task : Task) → words.put ≡ true → octets_staged task.staged ≡ octets_sent (kept_plan words task)
unfolding sent_by
sent_by_put words task is = pieces_joined task.staged ∙ sym (ap (sent_by words task) is)

sent_by_get : (words : PlanWords) (task : Task) → words.put ≡ false → 0 ≡ octets_sent (kept_plan words task)
unfolding sent_by
sent_by_get words task is = sym (ap (sent_by words task) is)

pub returns : goal.returns
returns c = record {
  plan = c.in_ok-plan.ensures ∙ ap (λ (l : List Element). plan_of c.args.words.now l) c.new.ensures;
  is_kept = refl;
  octets = elim c.if-words.branch [
    | then-words w ↦ w.octets-is ∙ w.octets-octets.ensures ∙ ap (λ (n : ℕ). min n 18446744073709551615) (sent_by_put c.args.words.now c.args.task.now w.if-words.true)
    | else-words w ↦ w.octets-is ∙ ap (λ (n : ℕ). min n 18446744073709551615) (sent_by_get c.args.words.now c.args.task.now w.if-words.false)
  ];
}

use Rattle.std.proofs.Common.{◌≡◌, ◌∙◌, inr, map, refl, string_bytes, subst, sym}
use Rattle.vf_cli.specs.Ftam.{DropsKept}
use Rattle.vf_journal.specs.Image.{records_of, refusal}
use Rattle.vf_journal.specs.JournalState.{when_opened}
use Rattle.vf_store.specs.Represented.{read_from}
use Rattle.vf_store_commands.specs.Dropping.{HasActivity}
use Rattle.vf_store_commands.specs.declared.dropping.KeptEntry.{KeptEntry}
use Rattle.vf_store_commands.specs.declared.limits.TheConstants.{STORE_LIMIT}
use Rattle.vf_tables.specs.Entries.{no_tables}
use Rattle.vf_cli.proofs.Completes.{drop_ends, drop_never, drop_nine}
use Rattle.vf_cli.proofs.KeptInRange.{kept_in_range, same_kept}
use Rattle.vf_cli.proofs.top.drop_named.Goals as goal

pub returns-in-Ok-clause-drops : goal.returns-in-Ok-clause-drops
returns-in-Ok-clause-drops g c = λ kept asked.
    let told : KeptEntry = c.in-Ok.kept in
    let same : told ≡ kept = same_kept told kept (sym c.in-Ok.ensures ∙ asked) in
    let good : HasActivity told = kept_in_range (map string_bytes c.args.words.now.items) told c.in-Ok.ensures in
    let drops = c.drop_kept.ensures in
    let done : DropsKept g.D.Disk.shown g.D.Disk.may_leave g.D.Disk.moment g.D.Disk.left_since told c.args.disk c.drop_kept.result.0 c.drop_kept.result.1 (g.O.Sink.taken c.args.out.now) (g.O.Sink.taken c.drop_kept.new.out) = record {
      prints = drops.prints;
      drops = λ image tables shows represents zero. drops.drops image tables shows represents good zero;
      keeps = drops.keeps;
      any_moment = λ image tables shows represents leaves. drops.any_moment image tables shows represents leaves good;
    } in
    inr (subst (λ (k : KeptEntry). DropsKept g.D.Disk.shown g.D.Disk.may_leave g.D.Disk.moment g.D.Disk.left_since k c.args.disk c.drop_kept.result.0 c.drop_kept.result.1 (g.O.Sink.taken c.args.out.now) (g.O.Sink.taken c.drop_kept.new.out)) same done)

pub returns-in-Ok-clause-completes : goal.returns-in-Ok-clause-completes
returns-in-Ok-clause-completes g c = λ octets shows out disk.
    drop_ends c.drop_kept.result.1 (drop_never 3 c.drop_kept.result.1 refl c.drop_kept.ensures.ends) (λ e. out (c.drop_kept.ensures.output_cause e)) (λ e. disk (c.drop_kept.ensures.disk_cause e))
    (refusal octets) c.in-Ok.kept (when_opened octets STORE_LIMIT) (read_from (records_of octets) no_tables) _ _ (c.drop_kept.ensures.prints octets shows)

pub returns-in-Err-clause-completes : goal.returns-in-Err-clause-completes
returns-in-Err-clause-completes g c = λ octets shows out disk. drop_nine (refusal octets) 9 refl

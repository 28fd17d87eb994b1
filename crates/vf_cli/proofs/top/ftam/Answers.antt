use Rattle.std.proofs.Common.{◌≡◌, [], ◌∷◌, inr, Option, Some, None, map, refl, string_bytes, subst, sym}
use Rattle.vf_cli.specs.Ftam.{statuses_of, usage}
use Rattle.vf_cli_words.specs.Words.{command_of}
use Rattle.vf_cli_words.specs.declared.command.Command.{Command}
use Rattle.vf_cli_words.specs.declared.command.Command.TheVariants.{Dialogue, InitStore, ListFiles, ListDockets, DropKept, Replay, Serve, Put, Get, Generate}
use Rattle.vf_cli_printing.specs.Printed.{IsOneOf}
use Rattle.vf_journal.specs.Image.{records_of, refusal}
use Rattle.vf_store.specs.Represented.{read_from}
use Rattle.vf_store_commands.specs.Dockets.{printed_by_dockets}
use Rattle.vf_store_commands.specs.Making.{printed_by_init}
use Rattle.vf_tables.specs.Entries.{no_tables}
use Rattle.vf_cli.proofs.Completes.{dialogue_ends, dialogue_never, drop_never, ends, generate_never, init_never, list_ends, list_never, replay_ends, replay_never, serve_ends, serve_never, task_never, usage_ends, usage_never}
use Rattle.vf_cli.proofs.top.ftam.Goals as goal

pub returns-in-Some-Dialogue-clause-completes : goal.returns-in-Some-Dialogue-clause-completes
returns-in-Some-Dialogue-clause-completes g c = λ octets lines shows left input out disk.
    let status = c.dialogue-status.result in
    let asked : command_of (map string_bytes c.args.words.now.items) ≡ Some Dialogue = cc (c.parse.ensures) in
    subst (λ (o : Option Command). IsOneOf (statuses_of o octets lines) status) (sym asked)
    (dialogue_ends status (λ e. input (c.dialogue-status.ensures.causes.input e)) (λ e. out (c.dialogue-status.ensures.causes.output e))
    (dialogue_never 5 status refl c.dialogue-status.ensures.ends) _ _ _ lines left c.dialogue-status.ensures.prints)

pub returns-in-Some-Dialogue-clause-disk_cause : goal.returns-in-Some-Dialogue-clause-disk_cause
returns-in-Some-Dialogue-clause-disk_cause g c = λ e. absurd (dialogue_never 5 c.dialogue-status.result refl c.dialogue-status.ensures.ends e)

pub returns-in-Some-InitStore-clause-completes : goal.returns-in-Some-InitStore-clause-completes
returns-in-Some-InitStore-clause-completes g c = λ octets lines shows left input out disk.
    let status = c.init.result.1 in
    let asked : command_of (map string_bytes c.args.words.now.items) ≡ Some InitStore = cc (c.parse.ensures) in
    subst (λ (o : Option Command). IsOneOf (statuses_of o octets lines) status) (sym asked)
    (ends status (λ e. input (c.init.ensures.input_cause e)) (λ e. out (c.init.ensures.output_cause e)) (λ e. disk (c.init.ensures.disk_cause e))
    (3 ∷ 4 ∷ 5 ∷ 9 ∷ []) (printed_by_init octets lines) _ _ (λ is. is) (c.init.ensures.prints octets lines shows left))

pub returns-in-Some-ListFiles-clause-completes : goal.returns-in-Some-ListFiles-clause-completes
returns-in-Some-ListFiles-clause-completes g c = λ octets lines shows left input out disk.
    let status = c.list.result.1 in
    let asked : command_of (map string_bytes c.args.words.now.items) ≡ Some ListFiles = cc (c.parse.ensures) in
    subst (λ (o : Option Command). IsOneOf (statuses_of o octets lines) status) (sym asked)
    (list_ends status (list_never 3 status refl c.list.ensures.ends) (λ e. out (c.list.ensures.output_cause e)) (λ e. disk (c.list.ensures.disk_cause e))
    (refusal octets) (read_from (records_of octets) no_tables).files _ _ (c.list.ensures.prints octets shows))

pub returns-in-Some-ListFiles-clause-causes : goal.returns-in-Some-ListFiles-clause-causes
returns-in-Some-ListFiles-clause-causes g c =
    record { input = λ e. absurd (list_never 3 c.list.result.1 refl c.list.ensures.ends e); output = c.list.ensures.output_cause }

pub returns-in-None-clause-completes : goal.returns-in-None-clause-completes
returns-in-None-clause-completes g c = λ octets lines shows left input out disk.
    let status = c.usage-status.result in
    let asked : command_of (map string_bytes c.args.words.now.items) ≡ None = cc (c.parse.ensures) in
    subst (λ (o : Option Command). IsOneOf (statuses_of o octets lines) status) (sym asked)
    (usage_ends status (usage_never 3 status refl c.usage-status.ensures.ends) (λ e. out (c.usage-status.ensures.cause e)) (usage_never 5 status refl c.usage-status.ensures.ends)
    usage _ _ c.usage-status.ensures.prints)

pub returns-in-None-clause-causes : goal.returns-in-None-clause-causes
returns-in-None-clause-causes g c =
    record { input = λ e. absurd (usage_never 3 c.usage-status.result refl c.usage-status.ensures.ends e); output = c.usage-status.ensures.cause }

pub returns-in-None-clause-disk_cause : goal.returns-in-None-clause-disk_cause
returns-in-None-clause-disk_cause g c = λ e. absurd (usage_never 5 c.usage-status.result refl c.usage-status.ensures.ends e)

pub returns-in-Some-Serve-clause-completes : goal.returns-in-Some-Serve-clause-completes
returns-in-Some-Serve-clause-completes g c = λ octets lines shows left input out disk.
    let status = c.serve.result.1 in
    let serves = c.serve.ensures.serves in
    let asked : command_of (map string_bytes c.args.words.now.items) ≡ Some Serve = cc (c.parse.ensures) in
    subst (λ (o : Option Command). IsOneOf (statuses_of o octets lines) status) (sym asked)
    (serve_ends status (λ e. out (c.serve.ensures.output_cause e)) (λ e. disk (c.serve.ensures.disk_cause e)) octets serves.answer _ _ serves.printed (serves.refuses octets shows))

pub returns-in-Some-Serve-clause-causes : goal.returns-in-Some-Serve-clause-causes
returns-in-Some-Serve-clause-causes g c =
    record { input = λ e. absurd (serve_never 3 c.serve.result.1 refl c.serve.ensures.ends e); output = c.serve.ensures.output_cause }

pub returns-in-Some-Dialogue-clause-links_cause : goal.returns-in-Some-Dialogue-clause-links_cause
returns-in-Some-Dialogue-clause-links_cause g c = λ e. absurd (dialogue_never 10 c.dialogue-status.result refl c.dialogue-status.ensures.ends e)

pub returns-in-Some-InitStore-clause-links_cause : goal.returns-in-Some-InitStore-clause-links_cause
returns-in-Some-InitStore-clause-links_cause g c = λ e. absurd (init_never 10 c.init.result.1 refl c.init.ensures.ends e)

pub returns-in-Some-ListFiles-clause-links_cause : goal.returns-in-Some-ListFiles-clause-links_cause
returns-in-Some-ListFiles-clause-links_cause g c = λ e. absurd (list_never 10 c.list.result.1 refl c.list.ensures.ends e)

pub returns-in-None-clause-links_cause : goal.returns-in-None-clause-links_cause
returns-in-None-clause-links_cause g c = λ e. absurd (usage_never 10 c.usage-status.result refl c.usage-status.ensures.ends e)

pub returns-in-Some-Put-clause-links_cause : goal.returns-in-Some-Put-clause-links_cause
returns-in-Some-Put-clause-links_cause g c = λ e. absurd (task_never 10 c.task.result.1 refl c.task.ensures.ends e)

pub returns-in-Some-Put-clause-completes : goal.returns-in-Some-Put-clause-completes
returns-in-Some-Put-clause-completes g c = λ octets lines shows left input out disk.
    let asked : command_of (map string_bytes c.args.words.now.items) ≡ Some Put = cc (c.parse.ensures) in
    subst (λ (o : Option Command). IsOneOf (statuses_of o octets lines) c.task.result.1) (sym asked) (c.task.ensures.completes octets shows input out disk)

pub returns-in-Some-Get-clause-links_cause : goal.returns-in-Some-Get-clause-links_cause
returns-in-Some-Get-clause-links_cause g c = λ e. absurd (task_never 10 c.task-in-Some-Get.result.1 refl c.task-in-Some-Get.ensures.ends e)

pub returns-in-Some-Get-clause-completes : goal.returns-in-Some-Get-clause-completes
returns-in-Some-Get-clause-completes g c = λ octets lines shows left input out disk.
    let asked : command_of (map string_bytes c.args.words.now.items) ≡ Some Get = cc (c.parse.ensures) in
    subst (λ (o : Option Command). IsOneOf (statuses_of o octets lines) c.task-in-Some-Get.result.1) (sym asked) (c.task-in-Some-Get.ensures.completes octets shows input out disk)

pub returns-in-Some-Generate-clause-completes : goal.returns-in-Some-Generate-clause-completes
returns-in-Some-Generate-clause-completes g c = λ octets lines shows left input out disk.
    let asked : command_of (map string_bytes c.args.words.now.items) ≡ Some Generate = cc (c.parse.ensures) in
    subst (λ (o : Option Command). IsOneOf (statuses_of o octets lines) c.draw.result.1) (sym asked) (c.draw.ensures.completes octets shows out disk)

pub returns-in-Some-Generate-clause-links_cause : goal.returns-in-Some-Generate-clause-links_cause
returns-in-Some-Generate-clause-links_cause g c = λ e. absurd (generate_never 10 c.draw.result.1 refl c.draw.ensures.ends e)

pub returns-in-Some-Generate-clause-causes : goal.returns-in-Some-Generate-clause-causes
returns-in-Some-Generate-clause-causes g c =
    record { input = λ e. absurd (generate_never 3 c.draw.result.1 refl c.draw.ensures.ends e); output = c.draw.ensures.output_cause }

pub returns-in-Some-Dialogue-clause-lost_cause : goal.returns-in-Some-Dialogue-clause-lost_cause
returns-in-Some-Dialogue-clause-lost_cause g c = λ e. absurd (dialogue_never 6 c.dialogue-status.result refl c.dialogue-status.ensures.ends e)

pub returns-in-Some-InitStore-clause-lost_cause : goal.returns-in-Some-InitStore-clause-lost_cause
returns-in-Some-InitStore-clause-lost_cause g c = λ e. absurd (init_never 6 c.init.result.1 refl c.init.ensures.ends e)

pub returns-in-Some-ListFiles-clause-lost_cause : goal.returns-in-Some-ListFiles-clause-lost_cause
returns-in-Some-ListFiles-clause-lost_cause g c = λ e. absurd (list_never 6 c.list.result.1 refl c.list.ensures.ends e)

pub returns-in-Some-Serve-clause-lost_cause : goal.returns-in-Some-Serve-clause-lost_cause
returns-in-Some-Serve-clause-lost_cause g c = λ e. absurd (serve_never 6 c.serve.result.1 refl c.serve.ensures.ends e)

pub returns-in-Some-Generate-clause-lost_cause : goal.returns-in-Some-Generate-clause-lost_cause
returns-in-Some-Generate-clause-lost_cause g c = λ e. absurd (generate_never 6 c.draw.result.1 refl c.draw.ensures.ends e)

pub returns-in-None-clause-lost_cause : goal.returns-in-None-clause-lost_cause
returns-in-None-clause-lost_cause g c = λ e. absurd (usage_never 6 c.usage-status.result refl c.usage-status.ensures.ends e)

pub returns-in-Some-ListDockets-clause-completes : goal.returns-in-Some-ListDockets-clause-completes
returns-in-Some-ListDockets-clause-completes g c = λ octets lines shows left input out disk.
    let status = c.dockets.result.1 in
    let asked : command_of (map string_bytes c.args.words.now.items) ≡ Some ListDockets = cc (c.parse.ensures) in
    subst (λ (o : Option Command). IsOneOf (statuses_of o octets lines) status) (sym asked)
    (ends status (list_never 3 status refl c.dockets.ensures.ends) (λ e. out (c.dockets.ensures.output_cause e)) (λ e. disk (c.dockets.ensures.disk_cause e))
    (4 ∷ 5 ∷ 9 ∷ []) (printed_by_dockets octets) _ _ (λ is. inr is) (c.dockets.ensures.prints octets shows))

pub returns-in-Some-ListDockets-clause-causes : goal.returns-in-Some-ListDockets-clause-causes
returns-in-Some-ListDockets-clause-causes g c =
    record { input = λ e. absurd (list_never 3 c.dockets.result.1 refl c.dockets.ensures.ends e); output = c.dockets.ensures.output_cause }

pub returns-in-Some-ListDockets-clause-links_cause : goal.returns-in-Some-ListDockets-clause-links_cause
returns-in-Some-ListDockets-clause-links_cause g c = λ e. absurd (list_never 10 c.dockets.result.1 refl c.dockets.ensures.ends e)

pub returns-in-Some-ListDockets-clause-lost_cause : goal.returns-in-Some-ListDockets-clause-lost_cause
returns-in-Some-ListDockets-clause-lost_cause g c = λ e. absurd (list_never 6 c.dockets.result.1 refl c.dockets.ensures.ends e)

pub returns-in-Some-DropKept-clause-completes : goal.returns-in-Some-DropKept-clause-completes
returns-in-Some-DropKept-clause-completes g c = λ octets lines shows left input out disk.
    let asked : command_of (map string_bytes c.args.words.now.items) ≡ Some DropKept = cc (c.parse.ensures) in
    subst (λ (o : Option Command). IsOneOf (statuses_of o octets lines) c.drop_named.result.1) (sym asked) (c.drop_named.ensures.completes octets shows out disk)

pub returns-in-Some-DropKept-clause-causes : goal.returns-in-Some-DropKept-clause-causes
returns-in-Some-DropKept-clause-causes g c =
    record { input = λ e. absurd (drop_never 3 c.drop_named.result.1 refl c.drop_named.ensures.ends e); output = c.drop_named.ensures.output_cause }

pub returns-in-Some-DropKept-clause-links_cause : goal.returns-in-Some-DropKept-clause-links_cause
returns-in-Some-DropKept-clause-links_cause g c = λ e. absurd (drop_never 10 c.drop_named.result.1 refl c.drop_named.ensures.ends e)

pub returns-in-Some-DropKept-clause-lost_cause : goal.returns-in-Some-DropKept-clause-lost_cause
returns-in-Some-DropKept-clause-lost_cause g c = λ e. absurd (drop_never 6 c.drop_named.result.1 refl c.drop_named.ensures.ends e)

pub returns-in-Some-Replay-clause-completes : goal.returns-in-Some-Replay-clause-completes
returns-in-Some-Replay-clause-completes g c = λ octets lines shows left input out disk.
    let status = c.replay-status.result in
    let asked : command_of (map string_bytes c.args.words.now.items) ≡ Some Replay = cc (c.parse.ensures) in
    subst (λ (o : Option Command). IsOneOf (statuses_of o octets lines) status) (sym asked)
    (replay_ends status (λ e. input (c.replay-status.ensures.causes.input e)) (λ e. out (c.replay-status.ensures.causes.output e))
    (replay_never 5 status refl c.replay-status.ensures.ends) lines _ _ (c.replay-status.ensures.prints lines left))

pub returns-in-Some-Replay-clause-disk_cause : goal.returns-in-Some-Replay-clause-disk_cause
returns-in-Some-Replay-clause-disk_cause g c = λ e. absurd (replay_never 5 c.replay-status.result refl c.replay-status.ensures.ends e)

pub returns-in-Some-Replay-clause-links_cause : goal.returns-in-Some-Replay-clause-links_cause
returns-in-Some-Replay-clause-links_cause g c = λ e. absurd (replay_never 10 c.replay-status.result refl c.replay-status.ensures.ends e)

pub returns-in-Some-Replay-clause-lost_cause : goal.returns-in-Some-Replay-clause-lost_cause
returns-in-Some-Replay-clause-lost_cause g c = λ e. absurd (replay_never 6 c.replay-status.result refl c.replay-status.ensures.ends e)

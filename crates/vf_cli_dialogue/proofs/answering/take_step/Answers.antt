use Rattle.std.proofs.Common.{arith}
use Rattle.vf_cli_dialogue.specs.Conversation.{left_of}
use Rattle.vf_cli_dialogue.specs.Reader.{will_say}
use Rattle.vf_cli_dialogue.proofs.LineLemmas.{on_err}
use Rattle.vf_cli_dialogue.proofs.StreamLemmas.{goes_on}
use Rattle.vf_cli_dialogue.proofs.answering.take_step.Goals as goal

pub returns-in_err-step-clause-interrupted : goal.returns-in_err-step-clause-interrupted
returns-in_err-step-clause-interrupted g c =
    on_err c.from_residual.result _ (λ state stands. c.in_err-step.ensures.interrupted state stands (will_say c.args.reader.now (g.I.Source.left c.args.input.now)))

pub returns-in_ok-step-clause-takes : goal.returns-in_ok-step-clause-takes
returns-in_ok-step-clause-takes g c = λ state stands. c.in_ok-step.ensures.takes state stands (will_say c.args.reader.now (g.I.Source.left c.args.input.now))

pub returns-in_ok-step-clause-goes : goal.returns-in_ok-step-clause-goes
returns-in_ok-step-clause-goes g c =
    goes_on (left_of c.args.reader.now c.args.conversation.now) (left_of c.args.reader.now c.take_ready.new.conversation) _ (omega (arith, c.in_ok-step.ensures.size))

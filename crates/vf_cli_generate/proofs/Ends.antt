-- How a call of `generate` ends, and by which causes.
use Rattle.std.proofs.Common.{◌≡◌, ◌∙◌, ◌<◌, ℕ, List, None, Ok, Err, sym, subst}
use Rattle.vf_base.specs.Faults.{HasRisen}
use Rattle.vf_journal.specs.Answers.{OpenCauses}
use Rattle.vf_journal.specs.Image.{refusal}
use Rattle.vf_journal.specs.declared.error.JournalError.{JournalError}
use Rattle.vf_journal.specs.declared.error.JournalError.TheVariants as errors
use Rattle.vf_responder.specs.Full.{AtFull}
use Rattle.vf_responder.specs.Represents.{AnswerCauses}
use Rattle.vf_responder.specs.Served.{RespondCauses}
use Rattle.vf_store.specs.Answers.{OpenAnswers}
use Rattle.vf_cli_generate.specs.Generating.{Answer, GenerateCauses, RefusesGenerate}

pub makes_by : (limit bound before between after : ℕ) (answer : Answer) → bound ≡ limit → between ≡ before → AnswerCauses bound between after answer → GenerateCauses limit before after answer
makes_by limit bound before between after (Ok done) same start cause = cause ∙ start
makes_by limit bound before between after (Err errors.DiskFault) same start cause = subst (λ (n : ℕ). HasRisen n after) start cause
makes_by limit bound before between after (Err (errors.Full length full)) same start cause = (subst (λ (n : ℕ). n < length) same cause.0, cause.1 ∙ same, cause.2 ∙ start)
makes_by limit bound before between after (Err errors.NoMemory) same start cause = cause ∙ start
makes_by limit bound before between after (Err (errors.NotAStore place found expected)) same start cause = absurd cause

pub opens_by : (limit before after : ℕ) (error : JournalError) → OpenCauses {T = Unit {0}} before after (Err error) → RespondCauses limit before after error
opens_by limit before after errors.DiskFault cause = cause
opens_by limit before after errors.NoMemory cause = cause
opens_by limit before after (errors.NotAStore place found expected) cause = cause
opens_by limit before after (errors.Full length bound) cause = absurd cause

-- opening is never full
pub opens_full : (holds : ℕ → Type 0) (before after : ℕ) (error : JournalError) → OpenCauses {T = Unit {0}} before after (Err error) → AtFull error holds
opens_full holds before after errors.DiskFault cause = tt
opens_full holds before after errors.NoMemory cause = tt
opens_full holds before after (errors.NotAStore place found expected) cause = tt
opens_full holds before after (errors.Full length bound) cause = absurd cause

pub opening_refuses : (image : List ℕ) (error : JournalError) → OpenAnswers {T = Unit {0}} image (Err error) → RefusesGenerate image (let answer : Answer = Err error in answer)
opening_refuses image errors.DiskFault answers = tt
opening_refuses image errors.NoMemory answers = sym answers
opening_refuses image (errors.NotAStore place found expected) answers = sym answers
opening_refuses image (errors.Full length bound) answers = absurd answers

pub making_refuses : (image : List ℕ) (bound before after : ℕ) (answer : Answer) → refusal image ≡ None → AnswerCauses bound before after answer → RefusesGenerate image answer
making_refuses image bound before after (Ok done) good cause = sym good
making_refuses image bound before after (Err errors.DiskFault) good cause = tt
making_refuses image bound before after (Err (errors.Full length full)) good cause = sym good
making_refuses image bound before after (Err errors.NoMemory) good cause = sym good
making_refuses image bound before after (Err (errors.NotAStore place found expected)) good cause = absurd cause

pub disk_by : (limit before after : ℕ) (answer : Answer) → answer ≡ Err errors.DiskFault → GenerateCauses limit before after answer → HasRisen before after
disk_by limit before after answer is causes = subst (λ (a : Answer). GenerateCauses limit before after a) is causes

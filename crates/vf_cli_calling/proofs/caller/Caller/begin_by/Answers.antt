use Rattle.std.proofs.Common.{true, false, sym, ◌∙◌}
use Rattle.vf_cli_calling.proofs.Speaking.{begun_so}
use Rattle.vf_cli_calling.proofs.caller.Caller.begin_by.Goals as goal

pub returns-then-begins_transfer : goal.returns-then-begins_transfer
returns-then-begins_transfer c = λ calling is.
    begun_so c.begin.new.self true calling c.args.message.now (sym c.if-begins_transfer.true ∙ c.begins_transfer.ensures) (c.begin.ensures calling is)

pub returns-else-begins_transfer : goal.returns-else-begins_transfer
returns-else-begins_transfer c = λ calling is.
    begun_so c.args.self.now false calling c.args.message.now (sym c.if-begins_transfer.false ∙ c.begins_transfer.ensures) is

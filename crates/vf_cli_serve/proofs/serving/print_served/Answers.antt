use Rattle.vf_cli_serve.proofs.Statuses.{counts_never_five, counts_never_ten}
use Rattle.vf_cli_serve.proofs.serving.print_served.Goals as goal

pub returns-in-Ok-clause-disk_fault : goal.returns-in-Ok-clause-disk_fault
returns-in-Ok-clause-disk_fault g c = λ e. absurd (counts_never_five c.print_counts.result c.print_counts.ensures.ends e)

pub returns-in-Ok-clause-links_fault : goal.returns-in-Ok-clause-links_fault
returns-in-Ok-clause-links_fault g c = λ e. absurd (counts_never_ten c.print_counts.result c.print_counts.ensures.ends e)

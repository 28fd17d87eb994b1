use Rattle.vf_attr.specs.declared.file.File.{File}
use Rattle.vf_tables.proofs.Distinct.{distinct_differ}
use Rattle.vf_tables.proofs.validity.files_differ.Goals as goal

pub returns-then-are_distinct : goal.returns-then-are_distinct
returns-then-are_distinct c = distinct_differ (λ (file : File). file.name) c.args.files.now (c.are_distinct.ensures c.if-are_distinct.true)

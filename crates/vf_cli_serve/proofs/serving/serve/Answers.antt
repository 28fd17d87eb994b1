use Rattle.vf_cli_serve.proofs.Statuses.{disk_by, links_by}
use Rattle.vf_cli_serve.specs.Served.{store_limit}
use Rattle.vf_filestore.specs.Tables.{tables_of}
use Rattle.vf_incarnations.proofs.Calls.{serving_incarnates}
use Rattle.vf_incarnations.proofs.Lives.{begins_so}
use Rattle.vf_responder.specs.Serving.{unheard}
use Rattle.vf_cli_serve.proofs.serving.serve.Goals as goal

pub returns-clause-serves : goal.returns-clause-serves
returns-clause-serves g c = record {
  answer = c.serve-disk.result.1;
  printed = c.print_served-status.ensures.prints;
  causes = c.serve-disk.ensures.causes;
  refuses = c.serve-disk.ensures.refuses;
  serves = λ left image tables serving told shows represents begun. c.serve-disk.ensures.serves left image tables serving told shows represents begun;
  keeps = λ left image tables serving told shows represents leaves begun. c.serve-disk.ensures.keeps left image tables serving told shows represents leaves begun;
  full = λ left image tables serving told shows represents begun. c.serve-disk.ensures.full left image tables serving told shows represents begun;
  ends = c.serve-disk.ensures.ends;
  incarnates = λ left image state told shows represents leaves may. (
      let begun = begins_so state may in
      serving_incarnates g.D.Disk.shown g.D.Disk.may_leave state c.serve-disk.result.0 c.serve-disk.result.1 _ may
      (c.serve-disk.ensures.serves left image (tables_of state) (unheard state) told shows represents begun)
      (c.serve-disk.ensures.keeps left image (tables_of state) (unheard state) told shows represents leaves begun)
      );
}

pub returns-clause-disk_cause : goal.returns-clause-disk_cause
returns-clause-disk_cause g c = λ e. disk_by store_limit _ _ _ _ c.serve-disk.result.1 (c.print_served-status.ensures.disk_fault e) c.serve-disk.ensures.causes

pub returns-clause-links_cause : goal.returns-clause-links_cause
returns-clause-links_cause g c = λ e. links_by store_limit _ _ _ _ c.serve-disk.result.1 (c.print_served-status.ensures.links_fault e) c.serve-disk.ensures.causes

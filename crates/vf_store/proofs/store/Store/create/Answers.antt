use Rattle.vf_disk.proofs.Runs.{weaker}
use Rattle.vf_journal.specs.Image.{IsNoneOrNew as IsNoneOrEmpty}
use Rattle.vf_journal.specs.Layout.{new_journal}
use Rattle.vf_store.specs.Represented.{IsNoneOrNew}
use Rattle.vf_store.proofs.Runs.{new_represents, none_or_new, shows_weaker}
use Rattle.vf_store.proofs.store.Store.create.Goals as goal

pub returns-in_err-create-clause-represents : goal.returns-in_err-create-clause-represents
returns-in_err-create-clause-represents g c = new_represents new_journal c.new_holds_none.ensures

pub returns-in_err-create-clause-seen : goal.returns-in_err-create-clause-seen
returns-in_err-create-clause-seen g c = λ octets shows. shows_weaker (g.D.Disk.shown c.create.new.disk) IsNoneOrEmpty IsNoneOrNew (c.create.ensures.seen octets shows) none_or_new

pub returns-in_err-create-clause-any_moment : goal.returns-in_err-create-clause-any_moment
returns-in_err-create-clause-any_moment g c = λ octets shows synced.
    weaker g.D.Disk.moment g.D.Disk.left_since c.args.disk.now c.create.new.disk IsNoneOrEmpty IsNoneOrNew (c.create.ensures.any_moment octets shows synced) none_or_new

pub returns-clause-represents : goal.returns-clause-represents
returns-clause-represents g c = new_represents new_journal c.new_holds_none.ensures

pub returns-clause-seen : goal.returns-clause-seen
returns-clause-seen g c = λ octets shows. shows_weaker (g.D.Disk.shown c.create.new.disk) IsNoneOrEmpty IsNoneOrNew (c.create.ensures.seen octets shows) none_or_new

pub returns-clause-any_moment : goal.returns-clause-any_moment
returns-clause-any_moment g c = λ octets shows synced.
    weaker g.D.Disk.moment g.D.Disk.left_since c.args.disk.now c.create.new.disk IsNoneOrEmpty IsNoneOrNew (c.create.ensures.any_moment octets shows synced) none_or_new

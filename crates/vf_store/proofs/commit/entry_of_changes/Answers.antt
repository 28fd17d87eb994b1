use Rattle.std.proofs.Common.{◌≤◌, ℕ, List, length, drop, subst, arith}
use Rattle.vf_journal.specs.Records.{longest}
use Rattle.vf_store_record.specs.Records.{record_of}
use Rattle.vf_store.proofs.Committing.{entry_ended}
use Rattle.vf_store.proofs.commit.entry_of_changes.Goals as goal

pub returns-clause-octets : goal.returns-clause-octets
returns-clause-octets c = entry_ended c.in_ok-octets.octets.items c.end_record.new.octets.items (record_of c.args.changes.now) c.in_ok-octets.ensures.octets c.in_ok-end_record.ensures.built

pub returns-clause-short : goal.returns-clause-short
returns-clause-short c = subst (λ (l : List ℕ). length (drop 4 l) ≤ longest) c.in_ok-octets.ensures.octets c.in_ok-end_record.ensures.short

pub returns-clause-read : goal.returns-clause-read
returns-clause-read c = λ in_range.
    let short : length (record_of c.args.changes.now) ≤ longest = subst (λ (l : List ℕ). length (drop 4 l) ≤ longest) c.in_ok-octets.ensures.octets c.in_ok-end_record.ensures.short in
    c.in_ok-octets.ensures.read in_range (omega (arith, short))

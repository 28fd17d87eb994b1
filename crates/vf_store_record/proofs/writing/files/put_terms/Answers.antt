use Rattle.std.proofs.Common.{arith}
use Rattle.vf_store_record.proofs.Again.{all_of_them, listed_writes, none_of_them, one_further, weaker}
use Rattle.vf_store_record.specs.Fields.{term, terms}
use Rattle.vf_store_record.specs.Writing.{has_short_password}
use Rattle.vf_store_record.proofs.Ranges.{taken_list, term_octet}
use Rattle.vf_store_record.proofs.writing.files.put_terms.Goals as goal

pub loop-term-init : goal.loop-term-init
loop-term-init c = none_of_them _ _ _

pub loop-term-preserved : goal.loop-term-preserved
loop-term-preserved c = one_further c.args.terms.now c.loop-term.term-index c.term-item.result (omega arith) c.term-item.is c.loop-term.invariant c.in_ok-put_term.ensures

pub returns : goal.returns
unfolding terms
returns c = weaker (taken_list has_short_password term.spell term_octet c.args.terms.now) (listed_writes c.in_ok-put_count.ensures (all_of_them c.args.terms.now c.loop-term.term-index (omega arith) c.loop-term.invariant))

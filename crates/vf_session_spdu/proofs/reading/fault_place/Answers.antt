use Rattle.vf_session_spdu.proofs.PlaceLemmas.{missing-place, value-place}
use Rattle.vf_session_spdu.proofs.reading.fault_place.Goals as goal

pub returns-in-Missing : goal.returns-in-Missing
returns-in-Missing c h = missing-place c.args.tsdu.now c.args.fault c.in-Missing.code c.place_if_gt.result c.in-Missing.is c.place_if_gt.ensures h

pub returns-in-Value : goal.returns-in-Value
returns-in-Value c h = value-place c.args.tsdu.now c.args.fault c.in-Value.code c.place_of_value.result c.in-Value.is c.place_of_value.ensures h

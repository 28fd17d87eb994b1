use Rattle.std.proofs.Common.{◌∙◌, sym, inl, inr}
use Rattle.vf_ber_scan.proofs.StepLemmas.{start_ends, start_begins}
use Rattle.vf_ber_scan.proofs.step.after_start.Goals as goal

pub returns-in_default : goal.returns-in_default
returns-in_default c = start_begins c.args.frames.now c.args.frames.now c.args.octet c.after_first.result c.requires (inl (sym c.end_room.ensures ∙ c.in_default.is)) c.after_first.ensures

pub returns-then-octet-ne0 : goal.returns-then-octet-ne0
returns-then-octet-ne0 c =
    start_begins c.args.frames.now c.args.frames.now c.args.octet c.after_first-then-octet-ne0.result c.requires (inr c.if-octet-ne0.true) c.after_first-then-octet-ne0.ensures

pub returns : goal.returns
returns c = start_ends c.in-Some.room c.args.frames.now c.pop.new.self c.args.octet (sym c.end_room.ensures ∙ c.in-Some.is) c.if-octet-ne0.false c.pop.ensures

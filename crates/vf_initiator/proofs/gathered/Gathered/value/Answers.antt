use Rattle.vf_initiator.proofs.Marks.{value_marks, value_octets, value_same}
use Rattle.vf_initiator.proofs.gathered.Gathered.value.Goals as goal

pub invariant_of-self-2 : goal.invariant_of-self-2
invariant_of-self-2 c = (
  value_marks c.self.inside.marks.items c.self.inside.elements c.push.new.self c.args.element c.in_ok-push.ensures.ok c.self.invariant.0,
  c.self.invariant.1,
  c.self.invariant.2,
  value_same c.self.inside.marks.items c.self.inside.elements c.push.new.self c.args.element c.self.inside.before.items c.self.inside.standing c.in_ok-push.ensures.ok c.self.invariant.0 c.self.invariant.3,
  value_octets c.self.inside.elements c.push.new.self c.args.element c.self.inside.octets c.octets_of-octets.result c.saturating_add-self-inside.result
      c.in_ok-push.ensures.ok c.self.invariant.4 c.octets_of-octets.ensures c.saturating_add-self-inside.ensures,
)

use Rattle.std.proofs.Common.{List, subst, sym}
use Rattle.std.specs.List.{AllByRecursion}
use Rattle.vf_session_spdu.specs.declared.spdu.Spdu.{Spdu}
use Rattle.vf_session_spdu.specs.Spelling.{IsWritten}
use Rattle.vf_stack.proofs.HeadLemmas.{all-front, all-last}
use Rattle.vf_stack.proofs.unit.put_heads.Goals as goal

pub put_all-requires : goal.put_all-requires
put_all-requires c =
    let P : List Spdu → Type 0 = λ spdus. AllByRecursion IsWritten spdus in
    subst P (sym c.as_slice.ensures.value) (all-front c.pop.new.self.items c.in-Some.last (subst P c.in-Some.ensures.items c.requires))

pub write_head-requires : goal.write_head-requires
write_head-requires c =
    let P : List Spdu → Type 0 = λ spdus. AllByRecursion IsWritten spdus in
    all-last c.pop.new.self.items c.in-Some.last (subst P c.in-Some.ensures.items c.requires)

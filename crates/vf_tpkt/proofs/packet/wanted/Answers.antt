use Rattle.std.proofs.Common.{◌≡◌, ◌≤◌, arith, get_or, length, refl}
use Rattle.std.proofs.lemmas.Bool.Decides.{nat_tests}
use Rattle.vf_tpkt.proofs.PacketLemmas.{wants-rest}
use Rattle.vf_tpkt.proofs.packet.wanted.Goals as goal
use Rattle.vf_tpkt.proofs.packet.wanted.Goals.{else-not-is_empty-via-then-not-is_empty+else-packet-ne3, else-not-is_empty-via-else-not-is_empty}
use Rattle.vf_tpkt.proofs.packet.wanted.Goals.{else-packet-gt1-via-then-packet-gt1+else-packet-ne0, else-packet-gt1-via-else-packet-gt1}

pub returns-clause-wants : goal.returns-clause-wants
returns-clause-wants c =
    let o = c.args.packet.now in
    let four : 4 ≤ length o = omega arith in
    let three : get_or o 0 0 ≡ 3 = elim c.else-not-is_empty.branch [ else-not-is_empty-via-then-not-is_empty+else-packet-ne3 w ↦ omega arith | else-not-is_empty-via-else-not-is_empty w ↦ grind (arith, nat_tests) ] in
    let none : get_or o 1 0 ≡ 0 = elim c.else-packet-gt1.branch [ else-packet-gt1-via-then-packet-gt1+else-packet-ne0 w ↦ omega arith | else-packet-gt1-via-else-packet-gt1 w ↦ omega arith ] in
    rw (c.from.ensures, c.from-2.ensures) (wants-rest c.args.place _ o four three none (omega arith) c.requires refl)

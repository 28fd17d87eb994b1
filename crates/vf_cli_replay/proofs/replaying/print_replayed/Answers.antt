use Rattle.std.proofs.Common.{inl, inr, refl, subst, List, ℕ, [], ◌∷◌}
use Rattle.vf_cli_printing.specs.Printed.{Prints}
use Rattle.vf_cli_replay.proofs.Printing.{wrote_nothing}
use Rattle.vf_cli_replay.proofs.replaying.print_replayed.Goals as goal

pub returns-in_default-clause-prints : goal.returns-in_default-clause-prints
returns-in_default-clause-prints g c = λ good. inl (refl, wrote_nothing (g.O.Sink.taken c.args.out.now))

pub returns-clause-prints : goal.returns-clause-prints
returns-clause-prints g c = λ good.
    inr (
      c.in-Ok.text.items,
      (
        c.in-Ok.ensures good,
        subst (λ (l : List ℕ). Prints (4 ∷ []) (record { octets = l; status = 0 }) c.print.result (g.O.Sink.taken c.args.out.now) (g.O.Sink.taken c.print.new.out)) c.as_slice.ensures.value c.print.ensures.prints,
      ),
    )

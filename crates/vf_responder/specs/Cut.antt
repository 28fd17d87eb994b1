-- However octets are cut into events of one moment, the same is answered to them.
use Rattle.std.specs.Prelude.{◌≡◌, ℕ, List, ◌∷◌, ◌++◌}
use Rattle.vf_base.specs.declared.events.ScriptEvent.{ScriptEvent}
use Rattle.vf_base.specs.declared.events.ScriptEvent.TheVariants.{Octets}
use Rattle.vf_responder.specs.Run.{run}
use Rattle.vf_responder.specs.Serving.{Serving}

abbrev pub OctetsMayBeCut : Type 0
OctetsMayBeCut = (link moment : ℕ) (front more : List ℕ) (later : List ScriptEvent) (serving : Serving)
    → run (Octets link moment (front ++ more) ∷ later) serving ≡ run (Octets link moment front ∷ Octets link moment more ∷ later) serving

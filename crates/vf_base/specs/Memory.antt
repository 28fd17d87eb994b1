-- What the objects in memory hold (profile).
use Rattle.std.specs.Prelude.{◌≡◌, ℕ, Bool, false, List, ◌∷◌, map, reverse}
use Rattle.vf_base.specs.Dial.{Call, Connections, Hears, OnNewest, says}
use Rattle.vf_base.specs.Faults.{counted}
use Rattle.vf_base.specs.Plans.{FailurePlan}

-- a source: the octets that are left, the calls that are to fail, and the number of those that failed
pub record Slice : Type 0 where
  pub left : List ℕ
  pub plan : FailurePlan
  pub faults : ℕ

-- a sink: the octets that were taken, the calls that are to fail, and the number of those that failed
pub record Taken : Type 0 where
  pub octets : List ℕ
  pub plan : FailurePlan
  pub faults : ℕ

-- a dial: what it tells, whether a connection stands, the number of those that were lost or not had, the calls
-- that are to fail, and the number of those that failed
pub record Dialled : Type 0 where
  pub connections : Connections
  pub stands : Bool
  pub lost : ℕ
  pub plan : FailurePlan
  pub faults : ℕ

-- a dial after a call that failed, or after the end of a stream
abbrev pub after_loss : ℕ → Dialled → Dialled
after_loss faults dial = record dial { stands = false; lost = counted dial.lost; faults = faults }

-- so many octets more were said on the connection that stands
abbrev pub Said : Dialled → Dialled → List ℕ → Type 0
Said old new octets =
    OnNewest old.connections.calls (λ call calls. new ≡ record old { connections = record old.connections { calls = says octets call ∷ calls } })

-- and so many heard
abbrev pub Heard : Dialled → Dialled → List ℕ → ℕ → Type 0
Heard old new into count =
    OnNewest old.connections.calls (λ call calls.
    (heard : Call) × (Hears call heard into count) × (new ≡ record old { connections = record old.connections { calls = heard ∷ calls } }))

-- what was said on each connection, oldest first
abbrev pub said : Dialled → List (List ℕ)
said dial = map (λ call. call.said) (reverse dial.connections.calls)

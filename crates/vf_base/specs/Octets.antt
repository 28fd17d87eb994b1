-- What octets that never change are, by where they stand.
use Rattle.std.specs.Prelude.{◌≡◌, ◌+◌, ◌≤◌, ◌<◌, List, ℕ, length, take, drop}
use Rattle.std.specs.Rc.{rc_slice_items}
use Rattle.vf_base.specs.declared.octets.Held.{Held}
use Rattle.vf_base.specs.declared.octets.Held.TheVariants as held

abbrev pub items : Held → List ℕ
items (held.Few len octets) = take len octets
items (held.Part start len kept) = take len (drop start (rc_slice_items kept))

abbrev pub IsWithin : Held → Type 0
IsWithin (held.Few len octets) = (len ≤ 22) × (length octets ≡ 22)
IsWithin (held.Part start len kept) = (start + len ≤ length (rc_slice_items kept)) × (length (rc_slice_items kept) < 4294967296)

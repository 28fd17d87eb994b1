-- The holders of one file, in their order (profile): parties by rising link, then dockets by identity and activity.
use Rattle.std.specs.Prelude.{◌≡◌, Bool, true, not, List, [], ◌∷◌, Option, if◌then◌else◌, filter, find}
use Rattle.std.specs.Cmp.Lexicographic.{slice_cmp}
use Rattle.std.specs.List.{list_all}
use Rattle.std.specs.Option.{option_map, option_map_or}
use Rattle.std.specs.Ordering.{is_eq, is_lt, nat_cmp, ordering_then}
use Rattle.std.specs.declared.cmp.Ordering.{Ordering}
use Rattle.std.specs.declared.cmp.Ordering.TheVariants.{Less, Greater}
use Rattle.vf_base.specs.declared.action.Controls.{Controls}
use Rattle.vf_locks.specs.declared.held.Held.{Held}
use Rattle.vf_locks.specs.declared.holder.Holder.{Holder}
use Rattle.vf_locks.specs.declared.holder.Holder.TheVariants.{Party, Docket}

abbrev pub holder_cmp : Holder → Holder → Ordering
holder_cmp (Party link) (Party other) = nat_cmp link other
holder_cmp (Party link) (Docket identity activity) = Less
holder_cmp (Docket identity activity) (Party link) = Greater
holder_cmp (Docket identity activity) (Docket other later) = ordering_then (slice_cmp nat_cmp identity other) (nat_cmp activity later)

abbrev pub is_same : Holder → Holder → Bool
is_same holder other = is_eq (holder_cmp holder other)

abbrev pub stands_before : Holder → Holder → Bool
stands_before holder other = is_lt (holder_cmp holder other)

-- each holder stands before all that follow it
abbrev pub IsOrdered : List Held → Type 0
IsOrdered [] = Unit {0}
IsOrdered (held ∷ later) = (list_all (λ (other : Held). stands_before held.holder other.holder) later ≡ true) × IsOrdered later

-- those that aren't this holder
abbrev pub others : Holder → List Held → List Held
others holder helds = filter (λ (held : Held). not (is_same held.holder holder)) helds

-- the controls of this holder, where it stands
abbrev pub controls_of : Holder → List Held → Option Controls
controls_of holder helds = option_map (λ (held : Held). held.controls) (find (λ (held : Held). is_same held.holder holder) helds)

-- with one holder more, at its place in the order
abbrev pub in_order : Held → List Held → List Held
in_order held [] = held ∷ []
in_order held (other ∷ later) = if stands_before other.holder held.holder then other ∷ in_order held later else held ∷ other ∷ later

-- once this holder has these controls, in the place of its own where it had any
abbrev pub granted : Holder → Controls → List Held → List Held
granted holder controls helds = in_order (record { holder = holder; controls = controls }) (others holder helds)

-- once the one holder stands in the place of the other, with its controls
abbrev pub passed : Holder → Holder → List Held → List Held
passed from to helds = option_map_or (λ controls. granted to controls (others from helds)) (controls_of from helds) helds

-- the first that isn't this holder
abbrev pub first_other : Holder → List Held → Option Holder
first_other holder helds = option_map (λ (held : Held). held.holder) (find (λ (held : Held). not (is_same held.holder holder)) helds)

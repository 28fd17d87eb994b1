-- Events as the run has them.
use Rattle.std.specs.Prelude.{Bool, true, false}
use Rattle.vf_base.specs.declared.events.ScriptEvent.{ScriptEvent}
use Rattle.vf_base.specs.declared.events.ScriptEvent.TheVariants as script
use Rattle.vf_responder.specs.declared.event.Event.{Event}
use Rattle.vf_responder.specs.declared.event.Event.TheVariants as events

abbrev pub event_meant : Event → ScriptEvent
event_meant (events.Arrived link) = script.Arrived link
event_meant (events.Octets link moment octets) = script.Octets link moment octets.now
event_meant (events.Ended link) = script.Ended link

-- the end of a link, which takes no memory and no room on the disk
abbrev pub is_end : ScriptEvent → Bool
is_end (script.Ended link) = true
is_end (script.Arrived link) = false
is_end (script.Octets link moment octets) = false

-- octets on a link, to which alone messages come
abbrev pub is_octets : ScriptEvent → Bool
is_octets (script.Octets link moment octets) = true
is_octets (script.Arrived link) = false
is_octets (script.Ended link) = false

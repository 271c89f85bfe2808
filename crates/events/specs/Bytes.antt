-- The event list as bytes: 01, "The machine", and refusal 9.
--     step_event, .., start_event, max_list_bytes    the kinds of event; how long a list may be
--     event_span                                  the bytes of an event of a kind
--     next_event, event_cut, offsets_from           the events by their offsets
--     event_at, events_from, events_in              what they say
--     event_fault, unplayable, Scanned, scanned     refusal 9, and what the scan of a list hands back
--     scan_by                                       what a call gave
-- Assumes nothing.
use Rattle.std.specs.Prelude.{ℕ, ◌+◌, Bool, List, map, length, ltb, eqb}
use Rattle.labels.specs.Labels.{label}
use Rattle.book.specs.Missing.{Fault}
use Rattle.book.specs.Outcome.{Refusal, Passed, Refused, Given, outcome, given_or}
use Rattle.book.specs.Control.{when◌then◌else◌, first}
use Rattle.book.specs.Spans.{byte_at, next_by, cut_by, offsets_by}
use Rattle.book.specs.Records.{number_at}
use Rattle.book.specs.Refusals.{or_refuse}
use Rattle.machine.specs.declared.Event.{Event}
use Rattle.machine.specs.declared.Event.TheVariants.{StepOf, WriteBy, RelabelBy, NewBy, ExecBy, StartBy}

-- "80 step job; by an outsider at label Q: 81 write ..; 82 relabel ..; 83 new ..; 84 exec ..; 85 start .."
abbrev pub step_event : ℕ
step_event = 80

abbrev pub write_event : ℕ
write_event = 81

abbrev pub relabel_event : ℕ
relabel_event = 82

abbrev pub new_event : ℕ
new_event = 83

abbrev pub exec_event : ℕ
exec_event = 84

abbrev pub start_event : ℕ
start_event = 85

-- "exceeds 65,536 bytes"
abbrev pub max_list_bytes : ℕ
max_list_bytes = 65536

-- "Events, laid out as records are (kind byte, then one-byte fields, a number of 4)". 0 for a kind that is none.
unfoldable pub event_span : ℕ → ℕ
event_span k =
    when eqb k step_event then 2
    else when eqb k write_event then 8
    else when eqb k relabel_event then 4
    else when eqb k new_event then 8
    else when eqb k exec_event then 3
    else when eqb k start_event then 3
    else 0

-- the offset past the event at o
abbrev pub next_event : List ℕ → ℕ → ℕ
next_event list o = next_by event_span list o

-- the event at o "has an unknown kind or a cut body"
abbrev pub event_cut : List ℕ → ℕ → Bool
event_cut list o = cut_by event_span list o

-- the events from o on, up to one that is cut
abbrev pub offsets_from : List ℕ → ℕ → List ℕ
offsets_from list o = offsets_by event_span list o

-- "80 step job; by an outsider at label Q: 81 write Q, cell, value kind, number; 82 relabel Q, cell, label; 83 new Q, shape, value kind,
-- number; 84 exec Q, cell; 85 start Q, block."
unfoldable pub event_at : List ℕ → ℕ → Event
event_at list o =
    let k = byte_at list o in
    let x = byte_at list (o + 1) in
    let y = byte_at list (o + 2) in
    let z = byte_at list (o + 3) in
    let n = number_at list (o + 4) in
    when eqb k step_event then StepOf x
    else when eqb k write_event then WriteBy (label x) y z n
    else when eqb k relabel_event then RelabelBy (label x) y (label z)
    else when eqb k new_event then NewBy (label x) y z n
    else when eqb k exec_event then ExecBy (label x) y
    else StartBy (label x) y

-- the events from o on, and all of them
unfoldable pub events_from : List ℕ → ℕ → List Event
events_from list o = map (event_at list) (offsets_from list o)

abbrev pub events_in : List ℕ → List Event
events_in list = events_from list 0

-- "the place is the offset of the first record at fault (in the event list for 9 ..)"
unfoldable pub event_fault : List ℕ → Fault
event_fault list = first (event_cut list) (offsets_from list 0)

-- 9: "The event list exceeds 65,536 bytes (place 0), or has an unknown kind or a cut body."
unfoldable pub unplayable : List ℕ → Refusal
unplayable list = when ltb max_list_bytes (length list) then Refused 9 0 else or_refuse 9 (event_fault list) Passed

-- a refusal, or how many events a list has
pub record Scanned : Type 0 where
  pub refusal : Refusal
  pub count : ℕ

-- what a call gave
abbrev pub scan_by : Given ℕ → Scanned
scan_by r = record { refusal = outcome r; count = given_or 0 r }

-- what a refusal at o hands back
abbrev pub refused_scan : ℕ → ℕ → Scanned
refused_scan k o = record { refusal = Refused k o; count = 0 }

-- the refusal, or how many events there are
unfoldable pub scan_of : Refusal → ℕ → Scanned
scan_of Passed n = record { refusal = Passed; count = n }
scan_of (Refused k o) n = refused_scan k o

abbrev pub scanned : List ℕ → Scanned
scanned list = scan_of (unplayable list) (length (events_in list))

-- What is told of each kind of record and event, by computation. Assumes nothing.
use mathlib.Core.Path.{refl}
use Rattle.book.specs.Control.{either}
use Rattle.book.specs.Kinds.{span}
use Rattle.book.specs.Spans.{cut_by, offsets_in, offsets_by}
use Rattle.book.specs.Records.{number_at}
use Rattle.events.specs.Bytes.{event_span}
use Rattle.listing.specs.Fields.{field_at, fields_end, number_if, fields_to, fields_by, has_number, event_has_number}
use Rattle.listing.specs.Samples.{Rows}

pub rows : Rows
unfolding either span cut_by offsets_in offsets_by number_at event_span field_at fields_end number_if fields_to fields_by has_number event_has_number
rows =
    record {
      of_records = refl;
      of_events = refl;
      end = refl;
      past = refl;
      empty = refl;
      below = refl;
      above = refl;
      other_record = refl;
      other_event = refl;
      cut_cell = refl;
      cut_exec = refl;
      cut_choose = refl;
      cut_write = refl;
      cut_start = refl;
      largest = refl;
    }

-- The samples of the writer, by computation. Assumes nothing.
use mathlib.Core.Path.{refl}
use Rattle.book.specs.Control.{both, either, those, while, sweep, on_some}
use Rattle.book.specs.Kinds.{span, limits, group}
use Rattle.book.specs.Spans.{cut_by, offsets_in, offsets_by}
use Rattle.book.specs.Records.{number_at}
use Rattle.book.specs.Book.{group_of, steps_from, shape_at, value_of, declared_at, step_at, block_at, parse}
use Rattle.book.specs.Refusals.{cut_fault, in_order, misplaced, order_fault, counted, too_many, beyond, count_fault, above, out_of_range, range_fault, value_named, cell_named}
use Rattle.book.specs.Refusals.{step_named, dangling, dangles, name_fault, or_refuse, unreadable}
use Rattle.rows.specs.Rows.{rows_from, shape_row_in, cell_row_in, block_row_in, step_row_in, some_nonzero, row_of, block_rows, rows, total}
use Rattle.rows.specs.Parsed.{shape_row_of, cell_row_of, step_row_of, step_rows_of, tables_of}
use Rattle.rows.specs.Write.{first_row, earlier, unwritable, written_of}
use Rattle.rows.specs.Samples.{WriterSamples}

pub writer_samples : WriterSamples
unfolding both either those while sweep on_some span limits group cut_by offsets_in offsets_by number_at group_of steps_from shape_at value_of declared_at step_at block_at parse
    cut_fault in_order misplaced order_fault counted too_many beyond count_fault above out_of_range range_fault value_named cell_named step_named dangling dangles name_fault
    or_refuse unreadable rows_from shape_row_in cell_row_in block_row_in step_row_in some_nonzero row_of block_rows rows total shape_row_of cell_row_of step_row_of step_rows_of tables_of
    first_row earlier unwritable written_of
writer_samples =
    record {
      of_book_a = refl;
      read_again = refl;
      too_short = refl;
      one_missing = refl;
      one_over = refl;
      counts_first = refl;
      no_shape = refl;
      one_byte = refl;
      no_block = refl;
      spare_field = refl;
      spare_number = refl;
      range_before = refl;
      spare_before = refl;
      own_content = refl;
    }

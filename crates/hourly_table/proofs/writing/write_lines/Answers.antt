use Rattle.std.proofs.Common.{map, refl}
use Rattle.bits.proofs.Fronts.{laid_next}
use Rattle.hourly_table.specs.Samples.{sampled}
use Rattle.hourly_table.specs.Table.{header, rows_of, table}
use Rattle.hourly_table.proofs.Writes.{header_laid, header_fits, rows_room}
use Rattle.hourly_table.proofs.writing.write_lines.Goals as goal

pub slice_bounds-write_rows-count : goal.slice_bounds-write_rows-count
unfolding table
slice_bounds-write_rows-count c =
    header_fits header (rows_of (map sampled c.args.samples.now) c.args.numbers.now) c.args.out.now c.lay.new.buf c.requires.room c.lay.ensures.1 c.lay.auto.buf

pub slice_bounds-write_rows-start : goal.slice_bounds-write_rows-start
unfolding table
slice_bounds-write_rows-start c =
    header_fits header (rows_of (map sampled c.args.samples.now) c.args.numbers.now) c.args.out.now c.lay.new.buf c.requires.room c.lay.ensures.1 c.lay.auto.buf

pub write_rows-requires-clause-room : goal.write_rows-requires-clause-room
unfolding table
write_rows-requires-clause-room c =
    rows_room header (rows_of (map sampled c.args.samples.now) c.args.numbers.now) c.args.out.now c.lay.new.buf c.requires.room c.lay.ensures.1 c.lay.auto.buf

pub returns : goal.returns
unfolding table
returns c =
    laid_next 21 header (rows_of (map sampled c.args.samples.now) c.args.numbers.now) c.args.out.now c.lay.new.buf c.write_rows.new.out refl
    (header_laid header (rows_of (map sampled c.args.samples.now) c.args.numbers.now) c.args.out.now c.lay.new.buf c.requires.room c.lay.ensures.1 c.lay.auto.buf) c.write_rows.ensures

-- Each frame and each page is its bytes, and the bytes are read as it.
use Rattle.std.proofs.Common.{refl}
use Rattle.refusals.specs.First.{first_of}
use Rattle.frames.specs.Cut.{joined_bytes, cut, cut_to, first_length}
use Rattle.frames.specs.Shared.{register_bytes}
use Rattle.frames.specs.Size.{fixed_size, readable}
use Rattle.frames.specs.Read.{frame_by_kind, read_frame}
use Rattle.frames.specs.Write.{encode}
use Rattle.pages.specs.Sum.{sum256, sealed_page}
use Rattle.counters.specs.Rows.{ids}
use Rattle.pages.specs.Layout11.{row_bytes, rows_to, open_to, page11}
use Rattle.pages.specs.Page10.{page10, read_log}
use Rattle.pages.specs.Entries.{id_at, entries_from, entries}
use Rattle.pages.specs.Read11.{damaged, value_in, read_counter}
use Rattle.identity.specs.Words.{word_of}
use Rattle.identity.specs.Page.{words_to, identity_page}
use Rattle.identity.specs.Read.{read_identity}
use Rattle.worked_examples.specs.Whole.{Placed, whole_frames, WholeShows}

pub frames_placed : Placed whole_frames
unfolding Placed whole_frames register_bytes fixed_size readable frame_by_kind read_frame encode
frames_placed = (refl, (refl, (refl, (refl, (refl, (refl, (refl, (refl, (refl, (refl, (refl, (refl, (refl, (refl, (refl, (refl, (refl, (refl, (refl, (refl, (refl, (refl, (refl, (refl, (refl, (refl, (refl, (refl, (refl, (refl, (refl, (refl, (refl, tt)))))))))))))))))))))))))))))))))

pub pages_placed : WholeShows
unfolding frame_by_kind read_frame readable first_of joined_bytes cut cut_to first_length fixed_size register_bytes sum256 sealed_page ids row_bytes rows_to open_to page11 page10 read_log id_at entries_from entries damaged value_in read_counter word_of words_to identity_page read_identity
pages_placed = record { log = refl; log_read = refl; plain = refl; plain_read = refl; rows = refl; rows_read = refl; some_rows = refl; identity = refl; identity_read = refl; queues = refl; capacities = refl; fitting = refl; parts = refl; unknown = refl; short = refl; tag = refl; sectors = refl; srst = refl; front = refl; call_numbers = refl; other_numbers = refl; lengths = refl }

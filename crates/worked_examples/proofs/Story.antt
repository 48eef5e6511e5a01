-- The theorems over every run are not empty: a run in which all that they speak of comes up, computed by the definitions.
use Rattle.std.proofs.Common.{◌≡◌, refl, Bool, true, ◌&&◌, List, [], ◌∷◌, ℕ, zero, suc, ◌^◌, arith, ltb}
use Rattle.bits.specs.Little.{Bytes}
use Rattle.rules.specs.Call.{Call}
use Rattle.rules.specs.Handed.{handed}
use Rattle.refusals.specs.First.{first_of}
use Rattle.bits.specs.Laid.{overlay_with_room}
use Rattle.frames.specs.Cut.{joined_bytes, cut, cut_to, first_length}
use Rattle.frames.specs.Shared.{register_bytes}
use Rattle.frames.specs.Size.{readable, fixed_size}
use Rattle.frames.specs.Read.{read_frame, frame_by_kind}
use Rattle.frames.specs.Write.{fits, encode}
use Rattle.pages.specs.Entries.{entries, entries_from, id_at}
use Rattle.pages.specs.Layout11.{page11, open_to, rows_to, row_bytes}
use Rattle.pages.specs.Page10.{fits10, page10}
use Rattle.pages.specs.Read11.{read_counter, damaged, value_in}
use Rattle.counters.specs.Counts.{tallied}
use Rattle.counters.specs.Rows.{ids, row_of}
use Rattle.pages.specs.Sum.{sealed_page, sum256}
use Rattle.device_state.specs.Contradictory.{moved_bad, contradictory, status_bad, settings_out, record_bad, rows_bad, table_bad, entry_bad, busy_bad, idle_bad}
use Rattle.device_state.specs.State.{echo_of, task_in}
use Rattle.device_state.specs.Table.{some_below, table_with, tabulation, table_without}
use Rattle.rules.specs.Tests.{wrong_kind, wrong_time, wrong_size, some_unready, tests}
use Rattle.rules.specs.Decide.{frame_act, register_act, queued_act, other_act, log_page}
use Rattle.rules.specs.Act.{failing, does, act}
use Rattle.rules.specs.Positions.{move_of, advanced_by}
use Rattle.rules.specs.Medium.{touch_of, stored_medium}
use Rattle.replies.specs.Replies.{sent_all, sent_bytes, replies_of}
use Rattle.device.specs.After.{counted_by, renewed_device, after_of, zeroed_if, reset_held, moved_by, unhalted_device, finished_by, failed_by, halt_with, released_device, opened_for, accepted_by}
use Rattle.device.specs.Step.{act_of}
use Rattle.device.specs.Device.{contradictory_device, power_on, fresh_device}
use Rattle.history.specs.Carried.{carried_at, span, transfer}
use Rattle.history.specs.Counted.{counted_in}
use Rattle.history.specs.Lasting.{HandedOn, newest}
use Rattle.worked_examples.specs.Story.{story, tags_from, lines_of, calls, ExampleShows}
use Rattle.history.specs.Fates.{commands, outstanding_at, finished_at, given_up_at, dropped_at, total, total_with, how_many}
use Rattle.history.specs.Replied.{collect, some, payloads}
use Rattle.device.specs.Lent.{Lent, Typed}
use Rattle.history.specs.Run.{run, AllTyped}
use Rattle.history.specs.Seen.{seen, begun}
use Rattle.history.specs.Waits.{waits, sactive, before, since}

-- each of a list is a byte
unfoldable pub small : List ℕ → Bool
small [] = true
small (x ∷ l) = ltb x 256 && small l

-- so it is a list of bytes
bytes : (l : List ℕ) → small l ≡ true → Bytes l
unfolding small
bytes [] h i = omega arith
bytes (x ∷ l) h zero = grind arith
bytes (x ∷ l) h (suc k) = bytes l (grind arith) k

-- a call's arguments are of their types, as a test
unfoldable pub fine : Call → Bool
fine c = small (handed c).frame && (ltb (handed c).set (2 ^ 32) && ltb (handed c).error 256)

-- where the test holds, they are
fine_typed : (c : Call) → fine c ≡ true → Typed c
unfolding fine
fine_typed c h =
    (bytes (handed c).frame (grind arith), grind arith, grind arith)

-- the same test of every call of a list
unfoldable pub all_fine : List Lent → Bool
all_fine [] = true
all_fine (a ∷ l) = fine a.call && all_fine l

-- where it holds, all of them are
pub all_typed : (l : List Lent) → all_fine l ≡ true → AllTyped l
unfolding all_fine AllTyped
all_typed [] h = tt
all_typed (a ∷ l) h = (fine_typed a.call (grind arith), all_typed l (grind arith))

-- those of the run are
typed : AllTyped calls
unfolding all_fine fine small
typed = all_typed calls refl

-- the run: all four fates, an error that waits and is read, a tag used three times, a page that shows counters
pub not_empty : ExampleShows
unfolding first_of overlay_with_room joined_bytes cut cut_to first_length register_bytes readable fixed_size read_frame frame_by_kind fits encode entries entries_from id_at page11 open_to rows_to row_bytes fits10 page10 read_counter damaged value_in ids row_of sealed_page sum256 contradictory status_bad settings_out record_bad rows_bad table_bad entry_bad busy_bad idle_bad echo_of task_in some_below table_with tabulation table_without register_act queued_act other_act log_page failing some_unready move_of advanced_by stored_medium sent_all sent_bytes replies_of after_of zeroed_if reset_held moved_by unhalted_device finished_by failed_by halt_with released_device opened_for accepted_by contradictory_device power_on fresh_device tallied counted_by renewed_device carried_at span transfer counted_in story tags_from lines_of commands outstanding_at finished_at given_up_at dropped_at total total_with how_many collect some payloads run seen begun waits sactive before since HandedOn newest moved_bad wrong_kind wrong_time wrong_size tests frame_act does act touch_of act_of
not_empty = record {
  powered = refl;
  typed = typed;
  lines = refl;
  tags = refl;
  both = refl;
  ranges = refl;
  reading = refl;
  writing = refl;
  half = refl;
  read = refl;
  written = refl;
  stored = refl;
  rest = refl;
  handed = (refl, (refl, (refl, (refl, (refl, (refl, (refl, (refl, (refl, (refl, (refl, (refl, (refl, (refl, (refl, (refl, (refl, tt)))))))))))))))));
  stands = refl;
  stood = refl;
  blamed = refl;
  bad = refl;
  paged = refl;
  shows = refl;
  tells = refl;
}

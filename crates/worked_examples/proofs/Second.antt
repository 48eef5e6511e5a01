-- More of what the theorems over every run speak of comes up in two further runs, computed by the definitions.
use Rattle.std.proofs.Common.{refl}
use Rattle.refusals.specs.First.{first_of}
use Rattle.bits.specs.Laid.{overlay_with_room}
use Rattle.frames.specs.Cut.{joined_bytes, cut, cut_to, first_length}
use Rattle.frames.specs.Shared.{register_bytes}
use Rattle.frames.specs.Size.{readable, fixed_size}
use Rattle.frames.specs.Read.{read_frame, frame_by_kind}
use Rattle.frames.specs.Write.{fits, encode}
use Rattle.pages.specs.Page10.{fits10, page10}
use Rattle.pages.specs.Sum.{sealed_page, sum256}
use Rattle.device_state.specs.Contradictory.{moved_bad, contradictory, status_bad, settings_out, record_bad, rows_bad, table_bad, entry_bad, busy_bad, idle_bad}
use Rattle.device_state.specs.State.{echo_of, task_in}
use Rattle.device_state.specs.Table.{some_below, table_with, tabulation, table_without}
use Rattle.rules.specs.Tests.{wrong_kind, wrong_time, wrong_size, some_unready, tests}
use Rattle.rules.specs.Decide.{frame_act, control_act, register_act, queued_act, other_act, log_page}
use Rattle.rules.specs.Act.{does, act}
use Rattle.rules.specs.Positions.{move_of, advanced_by}
use Rattle.rules.specs.Medium.{touch_of, stored_medium}
use Rattle.replies.specs.Replies.{sent_all, sent_bytes, replies_of}
use Rattle.device.specs.After.{after_of, reset_held, moved_by, unhalted_device, finished_by, halt_with, released_device, opened_for, accepted_by}
use Rattle.device.specs.Step.{act_of}
use Rattle.device.specs.Device.{contradictory_device, power_on, fresh_device}
use Rattle.history.specs.Carried.{carried_at, span, transfer}
use Rattle.history.specs.Fates.{commands, outstanding_at, finished_at, given_up_at, dropped_at, total, total_with, how_many}
use Rattle.history.specs.Replied.{collect, some, payloads}
use Rattle.history.specs.Seen.{seen, begun}
use Rattle.history.specs.Waits.{waits, sactive, before, since}
use Rattle.pages.specs.Page10.{read_log}
use Rattle.history.specs.ByHistory.{holding}
use Rattle.history.specs.Run.{run, AllTyped}
use Rattle.worked_examples.specs.Story.{tags_from, lines_of}
use Rattle.worked_examples.specs.Second.{second, second_calls, SecondShows, long, long_calls, LongShows}
use Rattle.worked_examples.proofs.Story.{small, fine, all_fine, all_typed}

-- the arguments of every call are of their types
typed : AllTyped second_calls
unfolding all_fine fine small
typed = all_typed second_calls refl

typed_long : AllTyped long_calls
unfolding all_fine fine small
typed_long = all_typed long_calls refl

-- the run of resets and errors
pub second_not_empty : SecondShows
unfolding first_of overlay_with_room joined_bytes cut cut_to first_length register_bytes readable fixed_size read_frame frame_by_kind fits encode fits10 page10 sealed_page sum256 contradictory status_bad settings_out record_bad rows_bad table_bad entry_bad busy_bad idle_bad echo_of task_in some_below table_with tabulation table_without register_act queued_act other_act log_page sent_all sent_bytes replies_of after_of reset_held unhalted_device halt_with released_device accepted_by contradictory_device power_on fresh_device second tags_from lines_of commands outstanding_at finished_at given_up_at dropped_at total total_with how_many collect some payloads run seen waits sactive before since moved_bad wrong_kind wrong_time wrong_size tests frame_act does act touch_of act_of read_log holding control_act
second_not_empty = record {
  typed = typed;
  lines = refl;
  tags = refl;
  held = refl;
  released = refl;
  log_bad = refl;
  log_good = refl;
  log_page = refl;
  far_bad = refl;
  far_page = refl;
  same_bad = refl;
  same_page = refl;
  blamed = refl;
  bad = refl;
}

-- the run of long commands
pub long_not_empty : LongShows
unfolding first_of overlay_with_room joined_bytes cut cut_to first_length register_bytes readable fixed_size read_frame frame_by_kind fits encode contradictory status_bad settings_out record_bad rows_bad table_bad entry_bad busy_bad idle_bad echo_of task_in some_below table_with tabulation register_act queued_act some_unready move_of advanced_by stored_medium sent_all sent_bytes replies_of after_of moved_by finished_by opened_for accepted_by contradictory_device power_on fresh_device carried_at span transfer long tags_from lines_of commands outstanding_at finished_at given_up_at dropped_at total collect some payloads run seen begun waits sactive moved_bad wrong_kind wrong_time wrong_size tests frame_act does act touch_of act_of
long_not_empty = record {
  powered = refl;
  typed = typed_long;
  lines = refl;
  tags = refl;
  ranges = refl;
  reading = refl;
  writing = refl;
  read = refl;
  written = refl;
  begun = refl;
  stored = refl;
}

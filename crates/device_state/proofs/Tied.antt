-- Each public function's own contract: it asks nothing, and two answers which it allows are equal.
use Rattle.std.proofs.Common.{refl}
use Rattle.bits.specs.Contract.{Sole}
use Rattle.bits.proofs.Tying.{same, sole}
use Rattle.device_state.proofs.shapes
use Rattle.device_state.specs.contracts.shapes as shapes-said
use Rattle.device_state.proofs.table
use Rattle.device_state.specs.contracts.table as table-said
use Rattle.device_state.proofs.progress
use Rattle.device_state.specs.contracts.progress as progress-said
use Rattle.device_state.proofs.placing
use Rattle.device_state.specs.contracts.placing as placing-said
use Rattle.device_state.proofs.ranges
use Rattle.device_state.specs.contracts.ranges as ranges-said
use Rattle.device_state.proofs.contradicting
use Rattle.device_state.specs.contracts.contradicting as contradicting-said

pub tied_task_in : Sole shapes-said.TaskFromEcho.from.ended shapes.TaskFromEcho.from.Reads.Asked shapes.TaskFromEcho.from.Reads.Post
tied_task_in = sole (λ κs a. tt) (λ κs a r r' ws ws' p q. (same p q, refl))

pub tied_echo_of : Sole shapes-said.EchoFromTask.from.ended shapes.EchoFromTask.from.Reads.Asked shapes.EchoFromTask.from.Reads.Post
tied_echo_of = sole (λ κs a. tt) (λ κs a r r' ws ws' p q. (same p q, refl))

pub tied_medium_size : Sole shapes-said.Settings.medium_size.ended shapes.Settings.medium_size.Reads.Asked shapes.Settings.medium_size.Reads.Post
tied_medium_size = sole (λ κs a. tt) (λ κs a r r' ws ws' p q. (same p q, refl))

pub tied_whole : Sole shapes-said.Entry.whole.ended shapes.Entry.whole.Reads.Asked shapes.Entry.whole.Reads.Post
tied_whole = sole (λ κs a. tt) (λ κs a r r' ws ws' p q. (same p q, refl))

pub tied_progress : Sole shapes-said.Entry.progress.ended shapes.Entry.progress.Reads.Asked shapes.Entry.progress.Reads.Post
tied_progress = sole (λ κs a. tt) (λ κs a r r' ws ws' p q. (same p q, refl))

pub tied_sectors : Sole shapes-said.Entry.sectors.ended shapes.Entry.sectors.Reads.Asked shapes.Entry.sectors.Reads.Post
tied_sectors = sole (λ κs a. tt) (λ κs a r r' ws ws' p q. (same p q, refl))

pub tied_entry_of : Sole table-said.entry_of.ended table.entry_of.Reads.Asked table.entry_of.Reads.Post
tied_entry_of = sole (λ κs a. tt) (λ κs a r r' ws ws' p q. (same p q, refl))

pub tied_put_entry : Sole table-said.put_entry.ended table.put_entry.Reads.Asked table.put_entry.Reads.Post
tied_put_entry = sole (λ κs a. tt) (λ κs a r r' ws ws' p q. (refl, λ i. (same p q i, (tt, (tt, tt)))))

pub tied_clear_entries : Sole table-said.clear_entries.ended table.clear_entries.Reads.Asked table.clear_entries.Reads.Post
tied_clear_entries = sole (λ κs a. tt) (λ κs a r r' ws ws' p q. (refl, λ i. (same p q i, (tt, tt))))

pub tied_idle : Sole shapes-said.Status.idle.ended shapes.Status.idle.Reads.Asked shapes.Status.idle.Reads.Post
tied_idle = sole (λ κs a. tt) (λ κs a r r' ws ws' p q. (same p q, refl))

pub tied_halted : Sole shapes-said.Status.halted.ended shapes.Status.halted.Reads.Asked shapes.Status.halted.Reads.Post
tied_halted = sole (λ κs a. tt) (λ κs a r r' ws ws' p q. (same p q, refl))

pub tied_held : Sole shapes-said.Status.held.ended shapes.Status.held.Reads.Asked shapes.Status.held.Reads.Post
tied_held = sole (λ κs a. tt) (λ κs a r r' ws ws' p q. (same p q, refl))

pub tied_is_link_busy : Sole shapes-said.Status.is_link_busy.ended shapes.Status.is_link_busy.Reads.Asked shapes.Status.is_link_busy.Reads.Post
tied_is_link_busy = sole (λ κs a. tt) (λ κs a r r' ws ws' p q. (same p q, refl))

pub tied_is_outstanding : Sole shapes-said.Status.is_outstanding.ended shapes.Status.is_outstanding.Reads.Asked shapes.Status.is_outstanding.Reads.Post
tied_is_outstanding = sole (λ κs a. tt) (λ κs a r r' ws ws' p q. (same p q, refl))

pub tied_with_tag : Sole shapes-said.Status.with_tag.ended shapes.Status.with_tag.Reads.Asked shapes.Status.with_tag.Reads.Post
tied_with_tag = sole (λ κs a. tt) (λ κs a r r' ws ws' p q. (same p q, refl))

pub tied_without_tags : Sole shapes-said.Status.without_tags.ended shapes.Status.without_tags.Reads.Asked shapes.Status.without_tags.Reads.Post
tied_without_tags = sole (λ κs a. tt) (λ κs a r r' ws ws' p q. (same p q, refl))

pub tied_left : Sole progress-said.Progress.left.ended progress.Progress.left.Reads.Asked progress.Progress.left.Reads.Post
tied_left = sole (λ κs a. tt) (λ κs a r r' ws ws' p q. (same p q, refl))

pub tied_part : Sole progress-said.Progress.part.ended progress.Progress.part.Reads.Asked progress.Progress.part.Reads.Post
tied_part = sole (λ κs a. tt) (λ κs a r r' ws ws' p q. (same p q, refl))

pub tied_is_last : Sole progress-said.Progress.is_last.ended progress.Progress.is_last.Reads.Asked progress.Progress.is_last.Reads.Post
tied_is_last = sole (λ κs a. tt) (λ κs a r r' ws ws' p q. (same p q, refl))

pub tied_is_whole : Sole progress-said.Progress.is_whole.ended progress.Progress.is_whole.Reads.Asked progress.Progress.is_whole.Reads.Post
tied_is_whole = sole (λ κs a. tt) (λ κs a r r' ws ws' p q. (same p q, refl))

pub tied_after : Sole progress-said.Progress.after.ended progress.Progress.after.Reads.Asked progress.Progress.after.Reads.Post
tied_after = sole (λ κs a. tt) (λ κs a r r' ws ws' p q. (same p q, refl))

pub tied_due : Sole progress-said.Progress.due.ended progress.Progress.due.Reads.Asked progress.Progress.due.Reads.Post
tied_due = sole (λ κs a. tt) (λ κs a r r' ws ws' p q. (same p q, refl))

pub tied_place : Sole placing-said.place.ended placing.place.Reads.Asked placing.place.Reads.Post
tied_place = sole (λ κs a. tt) (λ κs a r r' ws ws' p q. (same p q, refl))

pub tied_store : Sole placing-said.store.ended placing.store.Reads.Asked placing.store.Reads.Post
tied_store = sole (λ κs a. tt) (λ κs a r r' ws ws' p q. (refl, λ i. (same p q i, (tt, (tt, tt)))))

pub tied_is_beyond : Sole ranges-said.Sectors.is_beyond.ended ranges.Sectors.is_beyond.Reads.Asked ranges.Sectors.is_beyond.Reads.Post
tied_is_beyond = sole (λ κs a. tt) (λ κs a r r' ws ws' p q. (same p q, refl))

pub tied_leaves_out : Sole ranges-said.Sectors.leaves_out.ended ranges.Sectors.leaves_out.Reads.Asked ranges.Sectors.leaves_out.Reads.Post
tied_leaves_out = sole (λ κs a. tt) (λ κs a r r' ws ws' p q. (same p q, refl))

pub tied_settings_out : Sole contradicting-said.settings_out.ended contradicting.settings_out.Reads.Asked contradicting.settings_out.Reads.Post
tied_settings_out = sole (λ κs a. tt) (λ κs a r r' ws ws' p q. (same p q, refl))

pub tied_contradicts : Sole contradicting-said.contradicts.ended contradicting.contradicts.Reads.Asked contradicting.contradicts.Reads.Post
tied_contradicts = sole (λ κs a. tt) (λ κs a r r' ws ws' p q. (same p q, refl))

pub tied_row_refused : Sole contradicting-said.row_refused.ended contradicting.row_refused.Reads.Asked contradicting.row_refused.Reads.Post
tied_row_refused = sole (λ κs a. tt) (λ κs a r r' ws ws' p q. (same p q, refl))

pub tied_tally_refused : Sole contradicting-said.tally_refused.ended contradicting.tally_refused.Reads.Asked contradicting.tally_refused.Reads.Post
tied_tally_refused = sole (λ κs a. tt) (λ κs a r r' ws ws' p q. (same p q, refl))

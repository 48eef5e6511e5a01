-- The examples hold: each side computes to the other.
use Rattle.std.proofs.Common.{Result, Ok, Err, ◌≡◌, refl, sym, ap, subst, ◌∙◌, Bool, false, List, [], ℕ, ◌*◌, length, take, drop, arith, eq-eqb}
use lib.ListN.{length-replicate}
use Rattle.refusals.specs.First.{first_of}
use Rattle.refusals.specs.declared.reasons.Refusal.{Refusal}
use Rattle.frames.specs.Cut.{joined_bytes}
use Rattle.frames.specs.Shared.{register_bytes}
use Rattle.frames.specs.Size.{fixed_size, readable}
use Rattle.frames.specs.Read.{frame_by_kind, read_frame}
use Rattle.frames.specs.Write.{encode}
use Rattle.pages.specs.Sum.{sum256, sealed_page}
use Rattle.counters.specs.Counts.{tallied}
use Rattle.counters.specs.Rows.{ids}
use Rattle.pages.specs.Entries.{id_at, entries_from, entries}
use Rattle.pages.specs.Page10.{page10, fits10}
use Rattle.pages.specs.Read11.{damaged, value_in, read_counter, counter_answer}
use Rattle.pages.specs.Layout11.{row_bytes, rows_to, open_to, page11}
use Rattle.device_state.specs.State.{task_in, echo_of}
use Rattle.device_state.specs.Table.{some_below, tabulation, table_with, table_without}
use Rattle.device_state.specs.Contradictory.{moved_bad, settings_out, busy_bad, idle_bad, entry_bad, table_bad, status_bad, record_bad, rows_bad, contradictory}
use Rattle.rules.specs.Positions.{advanced_by, move_of}
use Rattle.rules.specs.Tests.{wrong_kind, wrong_time, wrong_size, some_unready, tests}
use Rattle.rules.specs.Decide.{queued_act, log_page, other_act, control_act, register_act, frame_act}
use Rattle.rules.specs.Act.{failing, does, act}
use Rattle.rules.specs.Call.{host_frame}
use Rattle.rules.specs.Medium.{Touch, leaves, sends, stores, sent_by, touch_of}
use Rattle.rules.specs.declared.acts.Act.{Act}
use Rattle.replies.specs.Replies.{replies_of}
use Rattle.device.specs.Device.{contradictory_device, fresh_device}
use Rattle.device.specs.After.{counted_by, halt_with, accepted_by, unhalted_device, moved_by, opened_for, finished_by, failed_by, after_of}
use Rattle.device.specs.Lent.{lent}
use Rattle.device.specs.FactsOf.{medium_wrong, facts_with}
use Rattle.device.specs.declared.state.Device.{Device}
use Rattle.device.proofs.Doing.{host_unsent, none_unready}
use Rattle.device.specs.Step.{Step, state_shown, step_by, act_of, step}
use Rattle.worked_examples.specs.Points.{Hold, examples as all, room, reply_to}

pub examples : Hold all
unfolding Hold all first_of joined_bytes register_bytes fixed_size readable frame_by_kind read_frame encode sum256 sealed_page ids id_at entries_from entries page10 fits10 damaged value_in read_counter counter_answer row_bytes rows_to open_to page11 task_in echo_of some_below tabulation table_with table_without settings_out busy_bad idle_bad entry_bad table_bad status_bad record_bad rows_bad contradictory advanced_by move_of queued_act log_page other_act control_act register_act frame_act wrong_kind wrong_time wrong_size tests does act some_unready failing touch_of act_of replies_of contradictory_device fresh_device tallied counted_by halt_with accepted_by unhalted_device moved_by opened_for finished_by failed_by after_of moved_bad
examples = (refl, (refl, (refl, (refl, (refl, (refl, (refl, (refl, (refl, (refl, (refl, (refl, (refl, (refl, (refl, tt)))))))))))))))

-- what decides it there is what decides it with such a medium
same_act : (d : Device) (f m : List ℕ) → length m ≡ 512 * d.settings.capacity → act (facts_with d d.status.phase false false 8196) (host_frame f) ≡ act_of d (lent (host_frame f) m room)
unfolding act_of
same_act d f m h =
    let t = d.status.phase in
    let right : medium_wrong d.settings.capacity (length m) ≡ false = rw (eq-eqb (length m) (512 * d.settings.capacity) h) refl in
    ap (λ (n : ℕ). act (facts_with d t false false n) (host_frame f)) (sym (length-replicate {A = ℕ} 8196 0))
    ∙ ap (λ (w : Bool). act (facts_with d t w false (length room)) (host_frame f)) (sym right)
    ∙ ap (λ (s : Bool). act (facts_with d t (medium_wrong d.settings.capacity (length m)) s (length room)) (host_frame f)) (sym (none_unready d))

-- state, refusal and frames
abbrev pub Same : Step → Step → Type 0
Same s s' = (s.state ≡ s'.state) × ((s.refusal ≡ s'.refusal) × (s.frames ≡ s'.frames))

-- of no medium nothing is sent
none_dropped : (n : ℕ) → drop {A = ℕ} n [] ≡ []
none_dropped n = grind arith

none_taken : (n : ℕ) → take {A = ℕ} n [] ≡ []
none_taken n = grind arith

part_none : (t : Touch) → [] ≡ sent_by t []
part_none leaves = refl
part_none (sends k) = sym (ap (take k.size) (none_dropped k.at) ∙ none_taken k.size)
part_none (stores k) = refl

-- what a host frame comes to leaves the same behind with no medium at all
same_step : (d : Device) (f m : List ℕ) (x : Result Act Refusal) → x ≡ act_of d (lent (host_frame f) m room) → Same (step_by d (lent (host_frame f) [] room) x) (step_by d (lent (host_frame f) m room) x)
same_step d f m (Err r) e = (refl, (refl, refl))
same_step d f m (Ok a) e = (refl, (refl, ap (λ (q : List ℕ). replies_of (state_shown d) q a) (sym (part_none (touch_of a)) ∙ host_unsent d f m room a e)))

-- a host frame of the examples is the machine's own step, whatever the medium of the right length holds
pub reply_to_is : (d : Device) (f m : List ℕ) → length m ≡ 512 * d.settings.capacity → Same (reply_to d f) (step d (lent (host_frame f) m room))
reply_to_is d f m h =
    let e = same_act d f m h in
    let x : Result Act Refusal = act (facts_with d d.status.phase false false 8196) (host_frame f) in
    subst (λ (y : Result Act Refusal). Same (step_by d (lent (host_frame f) [] room) x) (step_by d (lent (host_frame f) m room) y)) e (same_step d f m x e)

-- What each promise says.
use Rattle.std.specs.Prelude.{◌≡◌, List, [], ◌∷◌, ℕ, map, ◌<◌, ◌^◌, ◌/◌, ◌⊎◌, true, false, get_or, Option, Some, None, Result, Ok}
use Rattle.device_state.specs.declared.shapes.Settings.{Settings}
use Rattle.device.specs.Counter.{CounterGiven, CountGiven}
use Rattle.device.specs.DataDue.{data_due}
use Rattle.device.specs.Sealing.{Seals}
use Rattle.device.specs.Device.{power_on}
use Rattle.device.specs.Lent.{Lent}
use Rattle.device.specs.declared.state.Outcome.{Outcome}
use Rattle.history.specs.Seen.{seen}
use Rattle.history.specs.Run.{Done}
use Rattle.history.specs.Follows.{lents, Began}
use Rattle.history.specs.Powered.{Powered}
use Rattle.history.specs.Refused.{Refusals}
use Rattle.history.specs.Answered.{Answers}
use Rattle.history.specs.ReplyRules.{AllReplyRules}
use Rattle.history.specs.Logged.{LogTold}
use Rattle.history.specs.IdentityTold.{IdentityTold}
use Rattle.history.specs.Faithful.{Fates, Ranges, Contents, Sactive, Waiting, Depth, OnePerTag, Counters}
use Rattle.history.specs.Lasting.{HandedOn, Lasting}
use Rattle.history.specs.StateAgrees.{AgreesAsked, AgreesCount, AgreesDue, StateAgrees}
use Rattle.history.specs.Promised.{Always, AtTheEnd}
use Rattle.history.specs.NoChoice.{NoChoice}
use Rattle.history.specs.Serves.{Serves}
use Rattle.history.specs.Tallied.{TallyIsLinks}
use Rattle.promises.specs.Contradicts.{Contradicts}
use Rattle.promises.specs.DueTold.{due_told}
use Rattle.promises.specs.TurnedDown.{TurnedDown, PowerSound}
use Rattle.device.specs.Step.{Given}
use Rattle.device.specs.declared.state.Device.{Device}
use Rattle.history.specs.Struck.{StruckRun}
use Rattle.bits.specs.Little.{Bytes}
use Rattle.bits.specs.Answer.{bit_number}
use Rattle.refusals.specs.First.{first_of}
use Rattle.refusals.specs.Told.{answer_with, answer_unless}
use Rattle.refusals.specs.declared.reasons.Refusal.{Refusal}
use Rattle.frames.specs.Told.{frame_told}
use Rattle.frames.specs.Read.{read_frame, ladder24, frame_answer, frame_values}
use Rattle.frames.specs.Write.{FrameValue, encode, fits}
use Rattle.frames.specs.RoundTrip.{read_back, again, zeroed}
use Rattle.frames.specs.declared.shapes.Frame.{Frame}
use Rattle.pages.specs.Told10.{record_told}
use Rattle.pages.specs.Page10.{page10, fits10, ladder10, read_log, log_answer}
use Rattle.pages.specs.declared.page10.ErrorLog.{ErrorLog}
use Rattle.bits.specs.Bit.{bit_in}
use Rattle.identity.specs.Words.{fits_identity}
use Rattle.identity.specs.Page.{identity_page}
use Rattle.identity.specs.Told.{page_told}
use Rattle.identity.specs.Read.{all_told, ladder_identity, read_identity, identity_answer, word_in}
use Rattle.identity.specs.Made.{MadeOf, SameElse}
use Rattle.identity.specs.declared.words.Identity.{Identity}
use Rattle.identity.specs.declared.reading.Identified.{Identified}
use Rattle.counters.specs.Rows.{id_of, kept}
use Rattle.pages.specs.Layout11.{page11}
use Rattle.pages.specs.Told11.{number_told}
use Rattle.pages.specs.Read11.{ladder11, read_counter, row_value, counter_answer}
use Rattle.pages.specs.declared.value.CounterValue.{CounterValue}
use Rattle.worked_examples.specs.Points.{Hold, examples as all}
use Rattle.worked_examples.specs.Whole.{Placed, whole_frames, WholeShows}
use Rattle.worked_examples.specs.Story.{ExampleShows}
use Rattle.worked_examples.specs.Second.{SecondShows, LongShows}
use Rattle.bits.specs.Contract.{Says}
use Rattle.bits.proofs.Tying.{say}
use Rattle.promises.proofs.histories
use Rattle.promises.specs.contracts.histories as histories-said
use Rattle.promises.proofs.states
use Rattle.promises.specs.contracts.states as states-said
use Rattle.promises.proofs.told
use Rattle.promises.specs.contracts.told as told-said
use Rattle.promises.proofs.written
use Rattle.promises.specs.contracts.written as written-said
use Rattle.promises.proofs.examples
use Rattle.promises.specs.contracts.examples as examples-said

-- ---- every sequence of calls

pub tied_one_fate : Says histories-said.one_fate.ended histories.one_fate.Reads.Asked histories.one_fate.Reads.Post (λ κs a r ws. Always (λ s h. Fates (map seen h)))
tied_one_fate = say (λ κs a. tt) (λ κs a r ws p. p)

pub tied_carried_once : Says histories-said.carried_once.ended histories.carried_once.Reads.Asked histories.carried_once.Reads.Post (λ κs a r ws. (Always (λ s h. Ranges (map seen h))) × (Always (λ s h. Contents h)))
tied_carried_once = say (λ κs a. tt) (λ κs a r ws p. (p.0, p.1))

pub tied_finished_writes_stand : Says histories-said.finished_writes_stand.ended histories.finished_writes_stand.Reads.Asked histories.finished_writes_stand.Reads.Post (λ κs a r ws. Always (λ s h. (m : List ℕ) → HandedOn m h → Lasting m h))
tied_finished_writes_stand = say (λ κs a. tt) (λ κs a r ws p. p)

pub tied_sactive_names : Says histories-said.sactive_names.ended histories.sactive_names.Reads.Asked histories.sactive_names.Reads.Post (λ κs a r ws. (Always (λ s h. Sactive (map seen h))) × (Always (λ s h. Waiting (map seen h))))
tied_sactive_names = say (λ κs a. tt) (λ κs a r ws p. (p.0, p.1))

pub tied_within_depth : Says histories-said.within_depth.ended histories.within_depth.Reads.Asked histories.within_depth.Reads.Post (λ κs a r ws. Always (λ s h. Depth s.depth (map seen h)))
tied_within_depth = say (λ κs a. tt) (λ κs a r ws p. p)

pub tied_one_per_tag : Says histories-said.one_per_tag.ended histories.one_per_tag.Reads.Asked histories.one_per_tag.Reads.Post (λ κs a r ws. Always (λ s h. OnePerTag (map seen h)))
tied_one_per_tag = say (λ κs a. tt) (λ κs a r ws p. p)

pub tied_counters_told : Says histories-said.counters_told.ended histories.counters_told.Reads.Asked histories.counters_told.Reads.Post (λ κs a r ws. Always (λ s h. Counters s.mask h))
tied_counters_told = say (λ κs a. tt) (λ κs a r ws p. p)

pub tied_errors_told : Says histories-said.errors_told.ended histories.errors_told.Reads.Asked histories.errors_told.Reads.Post (λ κs a r ws. Always (λ s h. LogTold h))
tied_errors_told = say (λ κs a. tt) (λ κs a r ws p. p)

pub tied_identity_told : Says histories-said.identity_told.ended histories.identity_told.Reads.Asked histories.identity_told.Reads.Post (λ κs a r ws. Always (λ s h. IdentityTold s.depth s.capacity h))
tied_identity_told = say (λ κs a. tt) (λ κs a r ws p. p)

pub tied_refused_exactly : Says histories-said.refused_exactly.ended histories.refused_exactly.Reads.Asked histories.refused_exactly.Reads.Post (λ κs a r ws. Always (λ s h. Refusals s.depth s.capacity s.mask h))
tied_refused_exactly = say (λ κs a. tt) (λ κs a r ws p. p)

pub tied_answered_exactly : Says histories-said.answered_exactly.ended histories.answered_exactly.Reads.Asked histories.answered_exactly.Reads.Post (λ κs a r ws. Always (λ s h. Answers s.depth s.capacity s.mask h))
tied_answered_exactly = say (λ κs a. tt) (λ κs a r ws p. p)

pub tied_reply_rules : Says histories-said.reply_rules.ended histories.reply_rules.Reads.Asked histories.reply_rules.Reads.Post (λ κs a r ws. Always (λ s h. AllReplyRules h))
tied_reply_rules = say (λ κs a. tt) (λ κs a r ws p. p)

pub tied_powered_exactly : Says histories-said.powered_exactly.ended histories.powered_exactly.Reads.Asked histories.powered_exactly.Reads.Post (λ κs a r ws. (s : Settings) → Powered s.depth s.capacity s.mask (power_on s).refusal (power_on s).len)
tied_powered_exactly = say (λ κs a. tt) (λ κs a r ws p. p)

pub tied_polls_told : Says histories-said.polls_told.ended histories.polls_told.Reads.Asked histories.polls_told.Reads.Post (λ κs a r ws. (AtTheEnd AgreesAsked) × (AtTheEnd AgreesCount) × (AtTheEnd (λ s d h. AgreesDue d h)))
tied_polls_told = say (λ κs a. tt) (λ κs a r ws p. (p.0, p.1.0, p.1.1))

pub tied_state_told : Says histories-said.state_told.ended histories.state_told.Reads.Asked histories.state_told.Reads.Post (λ κs a r ws. (AtTheEnd StateAgrees) × (AtTheEnd (λ s d h. (power_on s).refusal ≡ None → Contradicts d → ⊥)))
tied_state_told = say (λ κs a. tt) (λ κs a r ws p. (p.0, p.1))

pub tied_no_refusal_matters : Says histories-said.no_refusal_matters.ended histories.no_refusal_matters.Reads.Asked histories.no_refusal_matters.Reads.Post (λ κs a r ws. (s : Settings) (as' : List Lent) → StruckRun s as')
tied_no_refusal_matters = say (λ κs a. tt) (λ κs a r ws p. p)

pub tied_no_choice_left : Says histories-said.no_choice_left.ended histories.no_choice_left.Reads.Asked histories.no_choice_left.Reads.Post (λ κs a r ws. (deep capacity mask : ℕ) → NoChoice deep capacity mask)
tied_no_choice_left = say (λ κs a. tt) (λ κs a r ws p. p)

pub tied_exists_always : Says histories-said.exists_always.ended histories.exists_always.Reads.Asked histories.exists_always.Reads.Post (λ κs a r ws. (s : Settings) (as' : List Lent) → (r : Outcome) × ((xs : List Done) × (Began s r xs × (lents xs ≡ as'))))
tied_exists_always = say (λ κs a. tt) (λ κs a r ws p. p)

-- ---- any state that is handed in

pub tied_any_state_refused : Says states-said.any_state_refused.ended states.any_state_refused.Reads.Asked states.any_state_refused.Reads.Post (λ κs a r ws. ((d : Device) → TurnedDown Given CounterGiven CountGiven Seals d) × PowerSound)
tied_any_state_refused = say (λ κs a. tt) (λ κs a r ws p. (p.0, p.1))

pub tied_any_state_serves : Says states-said.any_state_serves.ended states.any_state_serves.Reads.Asked states.any_state_serves.Reads.Post (λ κs a r ws. (d : Device) → (Contradicts d → ⊥) → Serves Given d)
tied_any_state_serves = say (λ κs a. tt) (λ κs a r ws p. p)

pub tied_any_state_due : Says states-said.any_state_due.ended states.any_state_due.Reads.Asked states.any_state_due.Reads.Post (λ κs a r ws. (d : Device) → data_due d ≡ due_told d)
tied_any_state_due = say (λ κs a. tt) (λ κs a r ws p. p)

pub tied_tally_is_links : Says states-said.tally_is_links.ended states.tally_is_links.Reads.Asked states.tally_is_links.Reads.Post (λ κs a r ws. (d : Device) → TallyIsLinks Given d)
tied_tally_is_links = say (λ κs a. tt) (λ κs a r ws p. p)

-- ---- written and read back

pub tied_frames_read_back : Says written-said.frames_read_back.ended written.frames_read_back.Reads.Asked written.frames_read_back.Reads.Post (λ κs a r ws. (f : FrameValue) → fits f ≡ true → read_frame (encode f) ≡ Ok (read_back f))
tied_frames_read_back = say (λ κs a. tt) (λ κs a r ws p. p)

pub tied_frames_write_back : Says written-said.frames_write_back.ended written.frames_write_back.Reads.Asked written.frames_write_back.Reads.Post (λ κs a r ws. (l : List ℕ) → Bytes l → (f : Frame) → read_frame l ≡ Ok f → encode (again l f) ≡ zeroed l)
tied_frames_write_back = say (λ κs a. tt) (λ κs a r ws p. p)

pub tied_errors_read_back : Says written-said.errors_read_back.ended written.errors_read_back.Reads.Asked written.errors_read_back.Reads.Post (λ κs a r ws. (f : ErrorLog) → fits10 f ≡ true → read_log (page10 f) ≡ Ok f)
tied_errors_read_back = say (λ κs a. tt) (λ κs a r ws p. p)

pub tied_counters_read_back : Says written-said.counters_read_back.ended written.counters_read_back.Reads.Asked written.counters_read_back.Reads.Post (λ κs a r ws. ((mask : ℕ) (values : List ℕ) → ((k : ℕ) → get_or values k 0 < 2 ^ 32) → (k : ℕ) → k < 16 → kept mask k ≡ true → read_counter (page11 mask values) (id_of k) ≡ Ok (Some (row_value (get_or values k 0)))) × ((mask : ℕ) (values : List ℕ) → ((k : ℕ) → get_or values k 0 < 2 ^ 32) → (number : ℕ) → 0 < number → number < 4096 → ((k : ℕ) → k < 16 → id_of k ≡ number → kept mask k ≡ false) → read_counter (page11 mask values) number ≡ Ok None))
tied_counters_read_back = say (λ κs a. tt) (λ κs a r ws p. (p.0, p.1))

pub tied_identity_read_back : Says written-said.identity_read_back.ended written.identity_read_back.Reads.Asked written.identity_read_back.Reads.Post (λ κs a r ws. (f : Identity) → fits_identity f ≡ true → read_identity (identity_page f) ≡ Ok (all_told f))
tied_identity_read_back = say (λ κs a. tt) (λ κs a r ws p. p)

pub tied_identity_made_of : Says written-said.identity_made_of.ended written.identity_made_of.Reads.Asked written.identity_made_of.Reads.Post (λ κs a r ws. (f : Identity) → fits_identity f ≡ true → MadeOf f (identity_page f))
tied_identity_made_of = say (λ κs a. tt) (λ κs a r ws p. p)

pub tied_identity_same_else : Says written-said.identity_same_else.ended written.identity_same_else.Reads.Asked written.identity_same_else.Reads.Post (λ κs a r ws. (f g : Identity) → SameElse (identity_page f) (identity_page g))
tied_identity_same_else = say (λ κs a. tt) (λ κs a r ws p. p)

pub tied_untold_is_none : Says written-said.untold_is_none.ended written.untold_is_none.Reads.Asked written.untold_is_none.Reads.Post
    (λ κs a r ws. ((l : List ℕ) (i : Identified) → Ok i ≡ read_identity l → ((word_in l 76 ≡ 0) ⊎ ((word_in l 76 ≡ 0xFFFF) ⊎ (bit_in 16 (word_in l 76) 8 ≡ false))) → i.queue ≡ None)
    × ((l : List ℕ) (i : Identified) → Ok i ≡ read_identity l → ((word_in l 83 / 2 ^ 14 ≡ 1 → ⊥) ⊎ (bit_in 16 (word_in l 83) 10 ≡ false)) → i.capacity ≡ None))
tied_untold_is_none = say (λ κs a. tt) (λ κs a r ws p. (p.0, p.1))

-- ---- what readers' answers tell

pub tied_answers_told : Says told-said.answers_told.ended told.answers_told.Reads.Asked told.answers_told.Reads.Post
    (λ κs a r ws. ((l : List ℕ) → frame_answer (read_frame l) ≡ answer_unless (first_of (ladder24 l)) (frame_told l))
    × ((l : List ℕ) → log_answer (read_log l) ≡ answer_unless (first_of (ladder10 l)) (record_told l))
    × ((l : List ℕ) (number : ℕ) → counter_answer (read_counter l number) ≡ answer_unless (first_of (ladder11 l number)) (number_told l number))
    × ((l : List ℕ) → identity_answer (read_identity l) ≡ answer_unless (first_of (ladder_identity l)) (page_told l)))
tied_answers_told = say (λ κs a. tt) (λ κs a r ws p. (p.0, p.1.0, p.1.1.0, p.1.1.1))

pub tied_written_told : Says told-said.written_told.ended told.written_told.Reads.Asked told.written_told.Reads.Post
    (λ κs a r ws. ((f : FrameValue) → fits f ≡ true → frame_answer (read_frame (encode f)) ≡ answer_with (frame_values (read_back f)))
    × ((f : ErrorLog) → fits10 f ≡ true → log_answer (read_log (page10 f)) ≡ answer_with (bit_number f.nq ∷ f.tag ∷ f.status ∷ f.error ∷ f.task.lba ∷ f.task.device ∷ f.task.count ∷ []))
    × ((mask : ℕ) (values : List ℕ) → ((k : ℕ) → get_or values k 0 < 2 ^ 32) → (k : ℕ) → k < 16 → kept mask k ≡ true → counter_answer (read_counter (page11 mask values) (id_of k)) ≡ answer_with (get_or values k 0 ∷ 4 ∷ []))
    × ((mask : ℕ) (values : List ℕ) → ((k : ℕ) → get_or values k 0 < 2 ^ 32) → (number : ℕ) → 0 < number → number < 4096 → ((k : ℕ) → k < 16 → id_of k ≡ number → kept mask k ≡ false) → counter_answer (read_counter (page11 mask values) number) ≡ answer_with [])
    × ((f : Identity) → fits_identity f ≡ true → identity_answer (read_identity (identity_page f)) ≡ answer_with (1 ∷ f.depth ∷ 1 ∷ f.capacity ∷ [])))
tied_written_told = say (λ κs a. tt) (λ κs a r ws p. (p.0, p.1.0, p.1.1.0, p.1.1.1.0, p.1.1.1.1))

pub tied_counters_told_apart : Says told-said.counters_told_apart.ended told.counters_told_apart.Reads.Asked told.counters_told_apart.Reads.Post
    (λ κs a r ws. (a b : Result (Option CounterValue) Refusal) → counter_answer a ≡ counter_answer b → a ≡ b)
tied_counters_told_apart = say (λ κs a. tt) (λ κs a r ws p. p)

-- ---- examples

pub tied_eleven_examples : Says examples-said.eleven_examples.ended examples.eleven_examples.Reads.Asked examples.eleven_examples.Reads.Post (λ κs a r ws. Hold all)
tied_eleven_examples = say (λ κs a. tt) (λ κs a r ws p. p)

pub tied_bytes_in_full : Says examples-said.bytes_in_full.ended examples.bytes_in_full.Reads.Asked examples.bytes_in_full.Reads.Post (λ κs a r ws. (Placed whole_frames) × (WholeShows))
tied_bytes_in_full = say (λ κs a. tt) (λ κs a r ws p. (p.0, p.1))

pub tied_every_fate_occurs : Says examples-said.every_fate_occurs.ended examples.every_fate_occurs.Reads.Asked examples.every_fate_occurs.Reads.Post (λ κs a r ws. ExampleShows)
tied_every_fate_occurs = say (λ κs a. tt) (λ κs a r ws p. p)

pub tied_errors_and_resets_occur : Says examples-said.errors_and_resets_occur.ended examples.errors_and_resets_occur.Reads.Asked examples.errors_and_resets_occur.Reads.Post (λ κs a r ws. SecondShows)
tied_errors_and_resets_occur = say (λ κs a. tt) (λ κs a r ws p. p)

pub tied_long_moves_occur : Says examples-said.long_moves_occur.ended examples.long_moves_occur.Reads.Asked examples.long_moves_occur.Reads.Post (λ κs a r ws. LongShows)
tied_long_moves_occur = say (λ κs a. tt) (λ κs a r ws p. p)

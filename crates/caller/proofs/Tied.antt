-- What each contract of a caller says. The answer itself is said by the contract of the device's call, which is tied there.
use Rattle.std.proofs.Common.{◌≡◌, false, []}
use Rattle.bits.specs.Contract.{Says, SaysOver}
use Rattle.bits.proofs.Tying.{say}
use Rattle.rules.specs.Call.{host_frame, happens}
use Rattle.rules.specs.declared.event.DeviceEvent.TheVariants.{OpenPhase, SendData, FinishTags, MediaError, LinkEvent, LinkTally, Comreset}
use Rattle.device.specs.Lent.{lent, gave, answered}
use Rattle.device.specs.Sealing.{powered_of}
use Rattle.events.specs.Settings.{in_limit}
use denote.RattleType.{RattleType}
use denote.Param.Laws.{Laws}
use mir.Syntax.{Dict}
use Rattle.std.specs.declared.io.traits.Read as Reader
use Rattle.std.specs.declared.io.traits.Write as Writer
use Rattle.caller.specs.Continued.{Begins, Continues, ContinuesReplying, ContinuesAlone, FirstCall}
use Rattle.caller.specs.Playing.{play as played, BeginsBy, PlayContinues, PlaysContinue, GivenPlaysHold, GivenPlaysTold}
use Rattle.caller.specs.Program.{EachRunIsHistory}
use Rattle.std.specs.Io.Buffered.{reader_remaining}
use Rattle.events.specs.Runs.{Ran}
use Rattle.caller.proofs.calling
use Rattle.caller.specs.contracts.calling as calling-said
use Rattle.caller.proofs.keeping
use Rattle.caller.specs.contracts.keeping as keeping-said
use Rattle.caller.proofs.playing
use Rattle.caller.specs.contracts.playing as playing-said
use Rattle.caller.proofs.running
use Rattle.caller.specs.contracts.running as running-said

pub tied_begin : Says calling-said.begin.ended calling.begin.Reads.Asked calling.begin.Reads.Post (λ κs a r ws. Begins a.0 r)
tied_begin = say (λ κs a. tt) (λ κs a r ws p. p)

pub tied_host_frame : Says calling-said.host_frame.ended calling.host_frame.Reads.Asked calling.host_frame.Reads.Post
    (λ κs a r ws. Continues a.0 (lent (host_frame a.1.0.now) a.1.1.0.now a.1.1.1.0.now) (gave r ws.1.1.0 ws.1.1.1.0))
tied_host_frame = say (λ κs a. tt) (λ κs a r ws p. p)

pub tied_open : Says calling-said.open.ended calling.open.Reads.Asked calling.open.Reads.Post (λ κs a r ws. ContinuesReplying a.0 (happens (OpenPhase a.1.0)) a.1.1.0.now r ws.1.1.0)
tied_open = say (λ κs a. tt) (λ κs a r ws p. p)

pub tied_send : Says calling-said.send.ended calling.send.Reads.Asked calling.send.Reads.Post (λ κs a r ws. Continues a.0 (lent (happens SendData) a.1.0.now a.1.1.0.now) (gave r a.1.0.now ws.1.1.0))
tied_send = say (λ κs a. tt) (λ κs a r ws p. p)

pub tied_finish : Says calling-said.finish.ended calling.finish.Reads.Asked calling.finish.Reads.Post (λ κs a r ws. ContinuesReplying a.0 (happens (FinishTags a.1.0)) a.1.1.0.now r ws.1.1.0)
tied_finish = say (λ κs a. tt) (λ κs a r ws p. p)

pub tied_media_error : Says calling-said.media_error.ended calling.media_error.Reads.Asked calling.media_error.Reads.Post
    (λ κs a r ws. ContinuesReplying a.0 (happens (MediaError a.1.0 a.1.1.0 a.1.1.1.0)) a.1.1.1.1.0.now r ws.1.1.1.1.0)
tied_media_error = say (λ κs a. tt) (λ κs a r ws p. p)

pub tied_link_event : Says calling-said.link_event.ended calling.link_event.Reads.Asked calling.link_event.Reads.Post (λ κs a r ws. ContinuesAlone a.0 (happens (LinkEvent a.1.0)) r)
tied_link_event = say (λ κs a. tt) (λ κs a r ws p. p)

pub tied_link_tally : Says calling-said.link_tally.ended calling.link_tally.Reads.Asked calling.link_tally.Reads.Post (λ κs a r ws. ContinuesAlone a.0 (happens (LinkTally a.1.0)) r)
tied_link_tally = say (λ κs a. tt) (λ κs a r ws p. p)

pub tied_comreset : Says calling-said.comreset.ended calling.comreset.Reads.Asked calling.comreset.Reads.Post (λ κs a r ws. ContinuesReplying a.0 (happens Comreset) a.1.0.now r ws.1.0)
tied_comreset = say (λ κs a. tt) (λ κs a r ws p. p)

pub tied_first_link : Says calling-said.first_link.ended calling.first_link.Reads.Asked calling.first_link.Reads.Post (λ κs a r ws. FirstCall a.0 (happens (LinkEvent a.1.0)) r)
tied_first_link = say (λ κs a. tt) (λ κs a r ws p. p)

-- the event program's run, by any reader to any writer
pub tied_run : (R W : RattleType) (l : Laws R) (m : Laws W) (g : Reader.Ghosts R.Denot) (d : Dict) (h : Writer.Ghosts W.Denot) (e : Dict)
    → SaysOver (running-said.run.ended R W g d h e) (running.run.Reads.Asked R W l m g d h e) (running.run.Reads.Post R W l m g d h e)
    (λ κs a r ws. (a.1.0.now.failed ≡ false → a.1.1.0.now.failed ≡ false → Ran a.0 (reader_remaining g.remaining a.1.0.now.inner) (reader_remaining g.remaining ws.1.0.inner) ws.1.0.failed ws.1.1.0.failed (h.contents a.1.1.0.now.inner) (h.contents ws.1.1.0.inner) r) × EachRunIsHistory a.0)
tied_run R W l m g d h e = record { same = λ κs a b h. h; some = (([], ([], (R.lives, (W.lives, tt)))), λ a. ((λ x h. h), (λ x h. h))); says = λ κs a r ws p. (p.0, p.1) }

-- ---- of a kept device

pub tied_keep : Says keeping-said.keep.ended keeping.keep.Reads.Asked keeping.keep.Reads.Post (λ κs a r ws. Begins a.0 (powered_of r))
tied_keep = say (λ κs a. tt) (λ κs a r ws p. p)

pub tied_kept_host_frame : Says keeping-said.kept_host_frame.ended keeping.kept_host_frame.Reads.Asked keeping.kept_host_frame.Reads.Post (λ κs a r ws. Continues a.0.now.device (lent (host_frame a.1.0.now) a.1.1.0.now a.1.1.1.0.now) (gave (answered ws.0.device r) ws.1.1.0 ws.1.1.1.0))
tied_kept_host_frame = say (λ κs a. tt) (λ κs a r ws p. p)

pub tied_kept_open : Says keeping-said.kept_open.ended keeping.kept_open.Reads.Asked keeping.kept_open.Reads.Post (λ κs a r ws. ContinuesReplying a.0.now.device (happens (OpenPhase a.1.0)) a.1.1.0.now (answered ws.0.device r) ws.1.1.0)
tied_kept_open = say (λ κs a. tt) (λ κs a r ws p. p)

pub tied_kept_send : Says keeping-said.kept_send.ended keeping.kept_send.Reads.Asked keeping.kept_send.Reads.Post (λ κs a r ws. Continues a.0.now.device (lent (happens SendData) a.1.0.now a.1.1.0.now) (gave (answered ws.0.device r) a.1.0.now ws.1.1.0))
tied_kept_send = say (λ κs a. tt) (λ κs a r ws p. p)

pub tied_kept_finish : Says keeping-said.kept_finish.ended keeping.kept_finish.Reads.Asked keeping.kept_finish.Reads.Post (λ κs a r ws. ContinuesReplying a.0.now.device (happens (FinishTags a.1.0)) a.1.1.0.now (answered ws.0.device r) ws.1.1.0)
tied_kept_finish = say (λ κs a. tt) (λ κs a r ws p. p)

pub tied_kept_media_error : Says keeping-said.kept_media_error.ended keeping.kept_media_error.Reads.Asked keeping.kept_media_error.Reads.Post (λ κs a r ws. ContinuesReplying a.0.now.device (happens (MediaError a.1.0 a.1.1.0 a.1.1.1.0)) a.1.1.1.1.0.now (answered ws.0.device r) ws.1.1.1.1.0)
tied_kept_media_error = say (λ κs a. tt) (λ κs a r ws p. p)

pub tied_kept_link_event : Says keeping-said.kept_link_event.ended keeping.kept_link_event.Reads.Asked keeping.kept_link_event.Reads.Post (λ κs a r ws. ContinuesAlone a.0.now.device (happens (LinkEvent a.1.0)) (answered ws.0.device r))
tied_kept_link_event = say (λ κs a. tt) (λ κs a r ws p. p)

pub tied_kept_link_tally : Says keeping-said.kept_link_tally.ended keeping.kept_link_tally.Reads.Asked keeping.kept_link_tally.Reads.Post (λ κs a r ws. ContinuesAlone a.0.now.device (happens (LinkTally a.1.0)) (answered ws.0.device r))
tied_kept_link_tally = say (λ κs a. tt) (λ κs a r ws p. p)

pub tied_kept_comreset : Says keeping-said.kept_comreset.ended keeping.kept_comreset.Reads.Asked keeping.kept_comreset.Reads.Post (λ κs a r ws. ContinuesReplying a.0.now.device (happens Comreset) a.1.0.now (answered ws.0.device r) ws.1.0)
tied_kept_comreset = say (λ κs a. tt) (λ κs a r ws p. p)

-- ---- of events

pub tied_start : Says playing-said.start.ended playing.start.Reads.Asked playing.start.Reads.Post (λ κs a r ws. BeginsBy (in_limit a.0) a.0 r)
tied_start = say (λ κs a. tt) (λ κs a r ws p. p)

pub tied_play : Says playing-said.play.ended playing.play.Reads.Asked playing.play.Reads.Post (λ κs a r ws. PlayContinues a.0.now.device (played a.1.0 a.1.1.0.now a.1.1.1.0.now (gave (answered ws.0.device r) ws.1.1.0 ws.1.1.1.0)))
tied_play = say (λ κs a. tt) (λ κs a r ws p. p)

pub tied_play_by_value : Says playing-said.play_by_value.ended playing.play_by_value.Reads.Asked playing.play_by_value.Reads.Post (λ κs a r ws. PlayContinues a.0 (played a.1.0 a.1.1.0.now a.1.1.1.0.now (gave r ws.1.1.0 ws.1.1.1.0)))
tied_play_by_value = say (λ κs a. tt) (λ κs a r ws p. p)

pub tied_events_are_a_history : Says playing-said.events_are_a_history.ended playing.events_are_a_history.Reads.Asked playing.events_are_a_history.Reads.Post (λ κs a r ws. PlaysContinue × (GivenPlaysHold × GivenPlaysTold))
tied_events_are_a_history = say (λ κs a. tt) (λ κs a r ws p. (p.0, (p.1.0, p.1.1)))

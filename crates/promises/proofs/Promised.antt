-- The theorems that the check finds for a promise by itself.
use Rattle.frames.proofs.RoundTrip.{read_encoded}
use Rattle.pages.proofs.Trip10.{read_page}
use Rattle.identity.proofs.Trip.{read_identified}
use Rattle.identity.proofs.Made.{same_else}
use Rattle.identity.proofs.Exactly.{untold_queue, untold_capacity}
use Rattle.pages.proofs.Trip11.{kept_reads, unkept_absent}
use Rattle.frames.proofs.Exactly.{frame_tells}
use Rattle.pages.proofs.ToldLaws10.{log_tells}
use Rattle.pages.proofs.ToldLaws11.{counter_tells}
use Rattle.pages.proofs.Apart11.{told_apart}
use Rattle.identity.proofs.ToldLaws.{identity_tells}
use Rattle.promises.proofs.ToldLaws.{frame_back, log_back, kept_back, absent_back, identity_back}
use Rattle.history.proofs.NoChoice.{no_choice}
use Rattle.history.proofs.RefusedTests.{powered}
use Rattle.history.proofs.Striking.{refused_struck}
use Rattle.history.proofs.Tallied.{tally_is_links}
use Rattle.promises.proofs.TurnedDown.{turned_down, due_is}
use Rattle.worked_examples.proofs.Points.{examples}
use Rattle.worked_examples.proofs.Second.{second_not_empty, long_not_empty}
use Rattle.worked_examples.proofs.Story.{not_empty}
use Rattle.worked_examples.proofs.Whole.{frames_placed, pages_placed}

pub ruleset histories = (no_choice, refused_struck, powered)

pub ruleset states = (turned_down, due_is, tally_is_links)

pub ruleset written = (read_identified, same_else, untold_queue, untold_capacity, kept_reads, unkept_absent, read_page, read_encoded)

pub ruleset shown = (frames_placed, pages_placed, second_not_empty, long_not_empty, not_empty, examples)

pub ruleset told = (frame_tells, log_tells, counter_tells, identity_tells, frame_back, log_back, kept_back, absent_back, identity_back, told_apart)

use Rattle.caller.proofs.Plays.{plays_continue, plays_given, plays_told}
use Rattle.caller.proofs.playing.events_are_a_history.Goals as goal

pub returns-clause-together : goal.returns-clause-together
returns-clause-together c = plays_continue

pub returns-clause-given : goal.returns-clause-given
returns-clause-given c = plays_given

pub returns-clause-told : goal.returns-clause-told
returns-clause-told c = plays_told

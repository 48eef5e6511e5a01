-- what a call can do, and what the host sees of it
pub mod Sets
pub mod Decided
pub mod Class
pub mod Views
pub mod Frames
pub mod Changes
pub mod Hosts
pub mod Events
-- each call, as it was decided: what it sends, counts and says
pub mod Placed
pub mod Marked
pub mod Tally
pub mod Impact
pub mod Hearing
pub mod Said
pub mod Shaped
pub mod Speechless
pub mod Hosted
pub mod Own
pub mod Steps
-- commands: fates, SActive, and an error that waits
pub mod Alls
pub mod Commands
pub mod Fated
pub mod CoreSteps
pub mod Core
pub mod Anchors
-- data: the bytes that each command carried, whose they are, and where they stand
pub mod Spans
pub mod Transfers
pub mod Moving
pub mod Table
pub mod Strays
pub mod Owners
pub mod Kept
pub mod Contents
pub mod Lying
pub mod Bytes
pub mod OwnBytes
pub mod Lasting
-- counters
pub mod Counts
pub mod Pages
pub mod Shown
-- replies: what each call may say, and what it must
pub mod SeenRules
pub mod Timely
pub mod ReplyRules
-- what the device knows is what the history tells, and so what each call is turned down for
pub mod Soundness
pub mod Holding
pub mod Naming
pub mod Logging
pub mod Showing
pub mod Identified
pub mod Knows
pub mod HeardKinds
pub mod RefusedTests
pub mod Refusing
-- what each call is answered, byte for byte
pub mod Otherwise
pub mod Answering
-- what is promised: over every run from power-on, against the state, and of the code
pub mod Runs
pub mod Counters
pub mod Asked11
pub mod StateAgrees
pub mod Allowed
pub mod Contracts
pub mod Allowing
-- the tables leave no choice
pub mod NoChoice
pub mod Closed
-- refused calls struck out
pub mod Striking
-- tallies beside link events
pub mod Tallied
pub mod Faithful
pub mod KeptCalls
-- whatever state is handed in
pub mod Outstanding
pub mod Serves

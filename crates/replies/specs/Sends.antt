-- What the code that sends frames is told to send, and what it has sent once it is done.
use Rattle.std.specs.Prelude.{List, ℕ, ◌≤◌, length}
use Rattle.frames.specs.Write.{FrameValue}
use Rattle.replies.specs.Replies.{sent_all, RepliesGiven}

-- these frames are sent in front of a room, if it has room for all, and n bytes of it are then taken; never more than it has
pub record Sends (fs : List FrameValue) (room : List ℕ) (n : ℕ) (room' : List ℕ) : Type 0 where
  pub within : n ≤ length room'
  pub sent : length (sent_all fs) ≤ length room → RepliesGiven fs room n room'

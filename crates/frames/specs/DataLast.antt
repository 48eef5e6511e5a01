-- Frames one behind the other.
use Rattle.std.specs.Prelude.{◌≡◌, Bool, true, false, List, [], ◌∷◌}
use Rattle.frames.specs.Write.{FrameValue, payload}

-- a data frame takes what is left
abbrev pub is_payload : FrameValue → Bool
is_payload (payload p) = true
is_payload _ = false

-- of frames one behind the other only the last is a data frame
unfoldable pub DataLast : List FrameValue → Type 0
DataLast [] = Unit
DataLast (f ∷ fs) = (is_payload f ≡ true → fs ≡ []) × DataLast fs

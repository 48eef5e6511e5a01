-- What is printed of a page of IDENTIFY DEVICE.
use Rattle.std.specs.Prelude.{ℕ, List, ◌++◌, decimal, codes, Option, Some, None, Result, Ok, Err}
use Rattle.refusals.specs.declared.reasons.Refusal.{Refusal}
use Rattle.identity.specs.Read.{read_identity}
use Rattle.identity.specs.declared.reading.Identified.{Identified}
use Rattle.page_text.specs.Words.{refusal_text}

-- a number in decimal; or that the page does not tell it, which is no 0
abbrev pub number_text : Option ℕ → List ℕ
number_text None = codes "untold"
number_text (Some n) = decimal n

-- how many commands it queues
unfoldable pub queue_text : Option ℕ → List ℕ
queue_text queue = codes "queue depth " ++ number_text queue ++ codes "\n"

-- how many sectors it has
unfoldable pub sectors_text : Option ℕ → List ℕ
sectors_text capacity = codes "sectors " ++ number_text capacity ++ codes "\n"

-- both
abbrev pub lines_of : Identified → List ℕ
lines_of told = queue_text told.queue ++ sectors_text told.capacity

-- both, or the refusal alone
abbrev pub identity_text : Result Identified Refusal → List ℕ
identity_text (Ok told) = lines_of told
identity_text (Err refusal) = refusal_text refusal

-- the page of IDENTIFY DEVICE [text-identity]
abbrev pub identified_text : List ℕ → List ℕ
identified_text page = identity_text (read_identity page)

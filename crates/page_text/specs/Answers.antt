-- How the telling of a page went, and what is written of it.
use Rattle.std.specs.Prelude.{ℕ, List, codes, Option, Some, None}
use Rattle.refusals.specs.First.{refusal_in}
use Rattle.refusals.specs.declared.reasons.Refusal.{Refusal}
use Rattle.identity.specs.Read.{read_identity}
use Rattle.page_text.specs.Fields.{log_told, fields_text}
use Rattle.page_text.specs.Counters.{counters_told, counters_text}
use Rattle.page_text.specs.Identity.{identified_text}
use Rattle.page_text.specs.declared.queries.PageKind.{PageKind}
use Rattle.page_text.specs.declared.queries.PageKind.TheVariants.{Errors, Counters, Identity}
use Rattle.page_text.specs.declared.answers.Answer.{Answer}
use Rattle.page_text.specs.declared.answers.Answer.TheVariants.{Told, Refused, NotAPage, Stopped, Unopened}

-- what is printed of a page [text-10h] [text-11h] [text-identity]
unfoldable pub text_of : PageKind → List ℕ → List ℕ
text_of Errors page = fields_text page
text_of Counters page = counters_text page
text_of Identity page = identified_text page

-- why a page is refused, if it is [text-refused]
unfoldable pub refusal_of : PageKind → List ℕ → Option Refusal
refusal_of Errors page = refusal_in (log_told page)
refusal_of Counters page = refusal_in (counters_told page)
refusal_of Identity page = refusal_in (read_identity page)

-- a page that is not refused is told [text-input]
abbrev pub answer_by : Option Refusal → Answer
answer_by None = Told
answer_by (Some refusal) = Refused

-- the exit status: 0 a page told in full, 1 a page refused, 3 a page unread [text-status]
abbrev pub status_of : Answer → ℕ
status_of Told = 0
status_of Refused = 1
status_of NotAPage = 3
status_of Stopped = 3
status_of Unopened = 3

-- an input that is no page's text
abbrev pub unread_text : List ℕ
unread_text = codes "unread\n"

-- a read failed
abbrev pub stop_text : List ℕ
stop_text = codes "stop\n"

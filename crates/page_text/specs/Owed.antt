-- What is owed an input, by what was read of it.
use Rattle.std.specs.Prelude.{◌≡◌, ℕ, List, take, IfSome, Option, Some, None}
use Rattle.page_text.specs.declared.answers.Answer.{Answer}
use Rattle.page_text.specs.declared.answers.Answer.TheVariants.{NotAPage, Stopped}
use Rattle.page_text.specs.declared.queries.PageKind.{PageKind}
use Rattle.page_text.specs.declared.queries.Query.{Query}
use Rattle.page_text.specs.Answers.{text_of, refusal_of, answer_by, unread_text, stop_text}
use Rattle.page_text.specs.Inputs.{read_limit, page_in}

-- a page is told or refused; what holds no page is unread
abbrev pub owed_page : PageKind → Option (List ℕ) → Answer × List ℕ
owed_page which (Some page) = (answer_by (refusal_of which page), text_of which page)
owed_page which None = (NotAPage, unread_text)

-- the answer to what was read, and its text [text-input]
unfoldable pub owed : Query → List ℕ → Answer × List ℕ
owed query read = owed_page query.page (page_in query.notation read)

-- the text alone
abbrev pub told : Query → List ℕ → List ℕ
told query read = (owed query read).1

-- an answer and its text are those that an input is owed, where it is known; or a read failed [text-input]
abbrev pub Owes : Query → Option (List ℕ) → Answer → List ℕ → Type 0
Owes query known Stopped text = text ≡ stop_text
Owes query known answer text = IfSome known (λ input. owed query (take (read_limit query.notation) input) ≡ (answer, text))

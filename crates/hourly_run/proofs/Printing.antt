-- What a run prints.
use Rattle.std.proofs.Common.{◌≡◌, refl, sym, subst, ℕ, List, [], append-nil, arith, inl, inr, Option, Some, None, Result, Ok, Err}
use Rattle.std.specs.Io.KnownBytes.{Appends}
use Rattle.streams.specs.Fronts.{AppendsFront}
use Rattle.page_text.specs.declared.ends.Lost.{Lost}
use Rattle.page_text.specs.declared.ends.Lost.TheVariants.{Aloud, Unsaid}
use Rattle.page_text.specs.Opened.{Agrees}
use Rattle.page_text.specs.Runs.{SaysMissing}
use Rattle.hourly_run.specs.declared.answers.Answer.{Answer}
use Rattle.hourly_run.specs.declared.answers.Answer.TheVariants.{Stopped, Unopened, Misasked}
use Rattle.hourly_run.specs.Asked.{Asked, Owes, OwesAsked, misasked, pages_of}
use Rattle.hourly_run.specs.Faults.{not_opened, read_failed}
use Rattle.hourly_run.specs.Numbers.{numbers_in}
use Rattle.hourly_run.specs.Owed.{OwesOpened, stop_text, status_of}
use Rattle.hourly_run.specs.Said.{file_said}
use Rattle.hourly_run.specs.Runs.{Answered, PrintsFront, Ran}

appends_none : (known : Option (List ℕ)) → Appends known known []
appends_none None = tt
appends_none (Some xs) = sym (append-nil xs)

-- an answer, and nothing of its text
record Silent (Owed : Answer → List ℕ → List ℕ → Type 0) : Type 0 where
  answer : Answer
  text : List ℕ
  said : List ℕ
  owes : Owed answer text said

-- whatever is known of a name: that it was not opened, or that a read of it failed
unread : (held : Option (Option (List ℕ))) → (opened : Option (Option (List ℕ))) × Agrees held opened
unread None = (None, tt)
unread (Some None) = (None, refl)
unread (Some (Some bytes)) = (Some (Some bytes), refl)

module _ (holds : List ℕ → Option (Option (List ℕ))) (file : List ℕ) where
  stopped : (shelf : Option (List ℕ → Option (Option (List ℕ)))) (numbers : List ℕ) (opened : Option (Option (List ℕ))) → Silent (OwesOpened file shelf numbers opened)
  stopped shelf numbers None = record { answer = Unopened; text = stop_text; said = file_said file (not_opened []); owes = ([], refl) }
  stopped shelf numbers (Some known) = record { answer = Stopped; text = stop_text; said = file_said file (read_failed []); owes = ([], refl, refl) }

  silent : (listed : _) (words : Result (List ℕ) (List ℕ)) → Silent (OwesAsked holds file listed words)
  silent listed (Err word) = record { answer = Misasked; text = []; said = (misasked word).1.1; owes = refl }
  silent listed (Ok numbers) =
      let u = unread (holds file) in
      let s = stopped (pages_of holds listed) numbers u.0 in
      record { answer = s.answer; text = s.text; said = s.said; owes = (u.0, u.1, s.owes) }

-- nothing at all is a front
pub nothing_printed : (holds : List ℕ → Option (Option (List ℕ))) (a : Asked) (old : Option (List ℕ)) → (t : Answered holds a) × PrintsFront old old t.text
nothing_printed holds a old =
    let s = silent holds a.file a.listed (numbers_in a.counters) in
    (record { answer = s.answer; text = s.text; said = s.said; owes = s.owes }, (0, omega arith, appends_none old))

module _ (holds : List ℕ → Option (Option (List ℕ))) (a : Asked) (old new : Option (List ℕ)) where
  -- an answer whose text was not all printed
  pub front_printed : (answer : Answer) (text said printed : List ℕ) → Owes holds a answer text said → printed ≡ text → AppendsFront old new printed
      → (t : Answered holds a) × PrintsFront old new t.text
  front_printed answer text said printed owes e f =
      let g = subst (λ (x : List ℕ). AppendsFront old new x) e f in
      (record { answer = answer; text = text; said = said; owes = owes }, (g.0, (let l = g.1 in omega arith), g.2))

  module _ (errors errors' : Option (List ℕ)) where
    pub ran_all : (answer : Answer) (text said told : List ℕ) (status : ℕ) → Owes holds a answer text said → Appends old new text → told ≡ said → Appends errors errors' told → status ≡ status_of answer
        → Ran holds a old new errors errors' (Ok status)
    ran_all answer text said told status owes p e b s = (record { answer = answer; text = text; said = said; owes = owes }, s, p, subst (λ (x : List ℕ). Appends errors errors' x) e b)

    pub ran_unsaid : (answer : Answer) (text said told : List ℕ) → Owes holds a answer text said → Appends old new text → told ≡ said → AppendsFront errors errors' told
        → Ran holds a old new errors errors' (Err Unsaid)
    ran_unsaid answer text said told owes p e b = (record { answer = answer; text = text; said = said; owes = owes }, inr (p, subst (λ (x : List ℕ). AppendsFront errors errors' x) e b))

    pub ran_lost : (t : Answered holds a) → PrintsFront old new t.text → (lost : Lost) → SaysMissing errors errors' lost → Ran holds a old new errors errors' (Err lost)
    ran_lost t p Aloud b = (t, p, b)
    ran_lost t p Unsaid b = (t, inl (p, b))

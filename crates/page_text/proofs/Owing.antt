-- What is owed an input, from what was read of it.
use Rattle.std.proofs.Common.{◌≡◌, ℕ, List, [], ◌++◌, take, Option, Some, None, Result, Ok, Err, OnOk, OnErr, IfOk, IfSome, refl, sym, ap, subst, append-nil, arith, ◌∙◌, ◌<◌, ◌≤◌, length, take_all, length-take-le, ⊎_elim}
use Rattle.std.proofs.lemmas.Bool.{cases_lt}
use Rattle.std.proofs.lemmas.List.{take-append-le}
use Rattle.std.specs.Option.{option_map}
use Rattle.std.specs.Io.KnownBytes.{Appends, Consumes, Keeps}
use Rattle.refusals.specs.declared.reasons.Refusal.{Refusal}
use Rattle.streams.specs.Fronts.{Filled}
use Rattle.page_text.specs.declared.answers.Answer.{Answer}
use Rattle.page_text.specs.declared.answers.Answer.TheVariants.{Stopped}
use Rattle.page_text.specs.declared.queries.Query.{Query}
use Rattle.page_text.specs.Answers.{text_of, refusal_of, answer_by, stop_text}
use Rattle.page_text.specs.Inputs.{read_limit, page_in}
use Rattle.page_text.specs.Owed.{owed_page, owed, told, Owes}
use Rattle.page_text.specs.Written.{TellsFront}

-- what is known of a read up to a limit
pub known_taken : (known : Option (List ℕ)) (limit : ℕ) (read : List ℕ) → IfSome (option_map (take limit) known) (λ xs. read ≡ [] ++ xs) → IfSome known (λ input. read ≡ take limit input)
known_taken None limit read h = tt
known_taken (Some input) limit read h = h

-- a page that is told or refused is no failed read
pub owes_page : (query : Query) (known : Option (List ℕ)) (refusal : Option Refusal) (text : List ℕ)
    → IfSome known (λ input. owed query (take (read_limit query.notation) input) ≡ (answer_by refusal, text)) → Owes query known (answer_by refusal) text
owes_page query known None text h = h
owes_page query known (Some refusal) text h = h

-- nor is text that holds no page
pub owes_read : (query : Query) (known : Option (List ℕ)) (page : Option (List ℕ))
    → IfSome known (λ input. owed query (take (read_limit query.notation) input) ≡ owed_page query.page page) → Owes query known (owed_page query.page page).0 (owed_page query.page page).1
owes_read query known None h = h
owes_read query known (Some page) h = owes_page query known (refusal_of query.page page) (text_of query.page page) h

same_owed : (query : Query) (known : Option (List ℕ)) (read : List ℕ) → IfSome known (λ input. read ≡ take (read_limit query.notation) input)
    → IfSome known (λ input. owed query (take (read_limit query.notation) input) ≡ owed query read)
same_owed query None read h = tt
same_owed query (Some input) read h = ap (owed query) (sym h)

-- the answer to what was read, and its text behind what was gathered
pub owes_gathered : {E : Type 0} (query : Query) (known : Option (List ℕ)) (read : List ℕ) (old new : Option (List ℕ)) (r : Result Answer E)
    → IfSome known (λ input. read ≡ take (read_limit query.notation) input) → OnOk r (Appends old new (told query read)) → IfOk r (λ answer. answer ≡ (owed query read).0)
    → IfOk r (λ answer. (text : List ℕ) × Owes query known answer text × Appends old new text)
unfolding owed
owes_gathered query known read old new (Err e) h text answer = tt
owes_gathered query known read old new (Ok a) h text answer =
    (told query read, subst (λ x. Owes query known x (told query read)) (sym answer) (owes_read query known (page_in query.notation read) (same_owed query known read h)), text)

-- nothing was read
pub kept_none : (known left : Option (List ℕ)) → Keeps known left → Consumes known left []
kept_none None left kept = tt
kept_none (Some input) None kept = kept
kept_none (Some input) (Some rest) kept = sym kept

-- a room that was filled holds what was known, up to its size
pub filled_taken : (known left : Option (List ℕ)) (n : ℕ) (room : List ℕ) → Filled known left n room → IfSome known (λ input. take n room ≡ take (length room) input)
filled_taken None left n room f = tt
filled_taken (Some input) None n room f = absurd f.bytes
filled_taken (Some input) (Some rest) n room f = sym (⊎_elim (λ (h : n < length room). let e : rest ≡ [] = f.end h in rw (f.bytes, e, append-nil) (take_all _ (take n room) (omega (arith, length-take-le n room f.most, h))))
    (λ (h : length room ≤ n). rw f.bytes (take-append-le _ (take n room) rest (omega (arith, length-take-le n room f.most, h)) ∙ take_all _ _ (omega (arith, length-take-le n room f.most, f.most)))) (cases_lt n (length room)))

-- and so is a page's, and one byte more
pub bytes_taken : (query : Query) (known left : Option (List ℕ)) (n : ℕ) (room : List ℕ) → query.notation ≡ None → length room ≡ 513 → Filled known left n room → IfSome known (λ input. take n room ≡ take (read_limit query.notation) input)
bytes_taken query known left n room notation sized f = rw notation (subst (λ k. IfSome known (λ input. take n room ≡ take k input)) sized (filled_taken known left n room f))

pub appends_none : (known : Option (List ℕ)) → Appends known known []
appends_none None = tt
appends_none (Some xs) = sym (append-nil xs)

-- nothing at all is a front of `stop`
pub tells_nothing : (query : Query) (known old : Option (List ℕ)) → TellsFront (Owes query known) old old
tells_nothing query known old = (Stopped, stop_text, refl, (0, omega arith, appends_none old))

pub on_err : {A E : Type 0} (r : Result A E) (P : Type 0) → P → OnErr r P
on_err (Ok a) P p = tt
on_err (Err e) P p = p

-- The sections of files, one behind the other.
use Rattle.std.proofs.Common.{map, take, drop, length, length-append, get_or, ◌<◌, ◌≤◌, ◌+◌, ltb, subst, take-append-drop, ◌≡◌, ℕ, Bool, List, [], ◌∷◌, ◌++◌, max, Option, Some, None, refl, sym, ap, ◌∙◌, append-nil, append_assoc, arith, take_all, codes}
use Rattle.std.proofs.lemmas.List.{map_more, map-append}
use Rattle.std.proofs.KnownBytes.{Appends-trans}
use Rattle.std.specs.Borrow.{Bor}
use Rattle.std.specs.Io.KnownBytes.{Appends}
use Rattle.streams.proofs.Fronts.{front_then}
use Rattle.page_text.specs.Runs.{WritesFiles, LosesFiles}
use Rattle.page_text.specs.declared.answers.Answer.{Answer}
use Rattle.page_text.specs.declared.answers.Answer.TheVariants.{Stopped, Unopened}
use Rattle.page_text.specs.declared.queries.Query.{Query}
use Rattle.page_text.specs.Answers.{status_of, stop_text}
use Rattle.page_text.specs.Opened.{Agrees}
use Rattle.page_text.specs.Sections.{OwesOpened, OwesFile, OwesFiles, heading}
use Rattle.page_text.specs.Written.{Tells, TellsFront}
use Rattle.page_text.proofs.Owing.{appends_none}

behind_some : (xs ys : List ℕ) → 0 < length ys → 0 < length (xs ++ ys)
behind_some xs ys h = omega (arith, h, length-append xs ys)

-- each file has a section that it may have, and none is empty
pub some_section : (query : Query) (many : Bool) (held : Option (Option (List ℕ))) (name : List ℕ)
    → (answer : Answer) × (text : List ℕ) × (0 < length text) × ((opened : Option (Option (List ℕ))) × Agrees held opened × OwesOpened query many name opened answer text)
some_section query many None name = (Unopened, name ++ codes ": unread\n", behind_some name (codes ": unread\n") (omega arith), (None, tt, (refl, refl)))
some_section query many (Some None) name = (Unopened, name ++ codes ": unread\n", behind_some name (codes ": unread\n") (omega arith), (None, refl, (refl, refl)))
some_section query many (Some (Some bytes)) name = (Stopped, heading many name ++ stop_text, behind_some (heading many name) stop_text (omega arith), (Some (Some bytes), refl, (stop_text, refl, refl)))

-- of which nothing at all is a front
pub file_nothing : (query : Query) (many : Bool) (holds : List ℕ → Option (Option (List ℕ))) (name : List ℕ) (old : Option (List ℕ)) → TellsFront (OwesFile query many holds name) old old
file_nothing query many holds name old =
    let s = some_section query many (holds name) name in
    (s.0, s.1, s.3, (0, s.2, appends_none old))

-- one file more
pub files_more : (query : Query) (many : Bool) (holds : List ℕ → Option (Option (List ℕ))) (names : List (List ℕ)) (name : List ℕ) (status : ℕ) (answer : Answer) (text more : List ℕ)
    → OwesFiles query many holds names status text → OwesFile query many holds name answer more → OwesFiles query many holds (names ++ name ∷ []) (max status (status_of answer)) (text ++ more)
unfolding OwesFiles
files_more query many holds [] name status answer text more done file =
    (answer, more, file, (0, [], (refl, refl), ap (λ n. max n (status_of answer)) done.0 ∙ omega arith, ap (λ l. l ++ more) done.1 ∙ sym (append-nil more)))
files_more query many holds (n ∷ names) name status answer text more done file =
    let more-files = done.3 in (
      done.0,
      done.1,
      done.2,
      (
        max more-files.0 (status_of answer),
        more-files.1 ++ more,
        files_more query many holds names name more-files.0 answer more-files.1 more more-files.2 file,
        ap (λ n. max n (status_of answer)) more-files.3 ∙ omega arith,
        ap (λ l. l ++ more) more-files.4 ∙ append_assoc done.1 more-files.1 more,
      ),
    )

-- the sections of files are written
abbrev pub ToldFiles : Query → Bool → (List ℕ → Option (Option (List ℕ))) → List (List ℕ) → ℕ → Option (List ℕ) → Option (List ℕ) → Type 0
ToldFiles query many holds names status old new = (text : List ℕ) × OwesFiles query many holds names status text × Appends old new text

abbrev name_of : Bor (List ℕ) → List ℕ
name_of name = name.now

pub none_told : (query : Query) (many : Bool) (holds : List ℕ → Option (Option (List ℕ))) (old : Option (List ℕ)) → ToldFiles query many holds [] 0 old old
unfolding OwesFiles
none_told query many holds old = ([], (refl, refl), appends_none old)

-- and one more
pub told_more : (query : Query) (many : Bool) (holds : List ℕ → Option (Option (List ℕ))) (names : List (Bor (List ℕ))) (i : ℕ) (d : Bor (List ℕ)) (worst : ℕ) (answer : Answer) (a b c : Option (List ℕ))
    → i < length names → ToldFiles query many holds (map name_of (take i names)) worst a b → Tells (OwesFile query many holds (get_or names i d).now) b c answer
    → ToldFiles query many holds (map name_of (take (i + 1) names)) (max worst (status_of answer)) a c
told_more query many holds names i d worst answer a b c in-names done file = (
  done.0 ++ file.0,
  subst (λ ns. OwesFiles query many holds ns (max worst (status_of answer)) (done.0 ++ file.0)) (sym (map_more name_of names i d in-names))
      (files_more query many holds (map name_of (take i names)) (get_or names i d).now worst answer done.0 file.0 done.1 file.1),
  Appends-trans a b c done.0 file.0 done.2 file.2,
)

-- a front of the sections up to the next file's is written
pub lost_more : (query : Query) (many : Bool) (holds : List ℕ → Option (Option (List ℕ))) (names : List (Bor (List ℕ))) (i : ℕ) (d : Bor (List ℕ)) (worst : ℕ) (a b c : Option (List ℕ))
    → many ≡ ltb 1 (length (map name_of names)) → i < length names → ToldFiles query many holds (map name_of (take i names)) worst a b → TellsFront (OwesFile query many holds (get_or names i d).now) b c
    → LosesFiles query holds (map name_of names) a c
lost_more query many holds names i d worst a b c same in-names done file = (
  map name_of (take (i + 1) names),
  map name_of (drop (i + 1) names),
  ap (map name_of) (sym (take-append-drop (i + 1) names)) ∙ map-append name_of (take (i + 1) names) (drop (i + 1) names),
  (
    max worst (status_of file.0),
    done.0 ++ file.1,
    subst (λ m. OwesFiles query m holds (map name_of (take (i + 1) names)) (max worst (status_of file.0)) (done.0 ++ file.1)) same
        (subst (λ ns. OwesFiles query many holds ns (max worst (status_of file.0)) (done.0 ++ file.1)) (sym (map_more name_of names i d in-names))
        (files_more query many holds (map name_of (take i names)) (get_or names i d).now worst file.0 done.0 file.1 done.1 file.2)),
    front_then a b c done.0 file.1 done.2 file.3,
  ),
)

-- all sections are written
pub all_told : (query : Query) (many : Bool) (holds : List ℕ → Option (Option (List ℕ))) (names : List (Bor (List ℕ))) (i : ℕ) (worst : ℕ) (a b : Option (List ℕ))
    → many ≡ ltb 1 (length (map name_of names)) → length names ≤ i → ToldFiles query many holds (map name_of (take i names)) worst a b → WritesFiles query holds (map name_of names) a b worst
all_told query many holds names i worst a b same all done = (
  done.0,
  subst (λ m. OwesFiles query m holds (map name_of names) worst done.0) same
      (subst (λ ns. OwesFiles query many holds (map name_of ns) worst done.0) (take_all i names all) done.1),
  done.2,
)

-- what the check needs of it
pub ruleset filing = (none_told, told_more, lost_more, all_told)

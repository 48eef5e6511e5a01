-- What the first word of a line asks for.
use Rattle.std.specs.Prelude.{ℕ, List, [], ◌∷◌, codes, Option, Some, None}
use Rattle.call_scripts.specs.Names.{named_in}
use Rattle.call_scripts.specs.declared.verbs.Verb.{Verb}
use Rattle.call_scripts.specs.declared.verbs.Verb.TheVariants.{Power, Frame, Data, Open, Send, Finish, Media, Link, Tally, Comreset, Counter, Count, Judge, Lend, Fill, Set, Show, Medium, Read, Write}

-- each verb by its word
abbrev pub verbs : List (List ℕ × Verb)
verbs =
    (codes "power", Power) ∷
    (codes "frame", Frame) ∷
    (codes "data", Data) ∷
    (codes "open", Open) ∷
    (codes "send", Send) ∷
    (codes "finish", Finish) ∷
    (codes "media", Media) ∷
    (codes "link", Link) ∷
    (codes "tally", Tally) ∷
    (codes "comreset", Comreset) ∷
    (codes "counter", Counter) ∷
    (codes "count", Count) ∷
    (codes "judge", Judge) ∷
    (codes "lend", Lend) ∷
    (codes "fill", Fill) ∷
    (codes "set", Set) ∷
    (codes "show", Show) ∷
    (codes "medium", Medium) ∷
    (codes "read", Read) ∷
    (codes "write", Write) ∷
    []

-- what a word names [script-line]
abbrev pub verb_of : List ℕ → Option Verb
verb_of word = named_in verbs word

-- how many words a verb's line has, itself among them; frames have any number of bytes, and of `set`, `read` and `write` the second word says it
abbrev pub words_in : Verb → Option ℕ
words_in Frame = None
words_in Judge = None
words_in Read = None
words_in Write = None
words_in Set = None
words_in Send = Some 1
words_in Comreset = Some 1
words_in Count = Some 1
words_in Show = Some 1
words_in Open = Some 2
words_in Finish = Some 2
words_in Link = Some 2
words_in Counter = Some 2
words_in Fill = Some 2
words_in Data = Some 3
words_in Lend = Some 3
words_in Medium = Some 3
words_in Power = Some 4
words_in Media = Some 4
words_in Tally = Some 17

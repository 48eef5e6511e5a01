-- Fronts of a text.
use Rattle.std.proofs.Common.{◌≡◌, ℕ, ◌+◌, ◌<◌, List, ◌++◌, Option, length, length-append, take, sym, ap, subst, ◌∙◌, arith}
use Rattle.std.proofs.KnownBytes.{Appends-trans}
use lib.Seq.{take-append_seam, take-append-add}
use Rattle.std.specs.Io.KnownBytes.{Appends}
use Rattle.streams.specs.Fronts.{AppendsFront, AppendsSome}

-- what was written is some of a text that begins with it
pub some_of : (a b : Option (List ℕ)) (done rest all : List ℕ) → all ≡ done ++ rest → Appends a b done → AppendsSome a b all
some_of a b done rest all e p = (length done, subst (Appends a b) (sym (ap (take (length done)) e ∙ take-append_seam done rest)) p)

-- and a front of it where a rest is behind
pub front_of : (a b : Option (List ℕ)) (done rest all : List ℕ) → all ≡ done ++ rest → 0 < length rest → Appends a b done → AppendsFront a b all
unfolding some_of
front_of a b done rest all e more p = (length done, omega (arith, ap length e, length-append done rest), (some_of a b done rest all e p).1)

-- a text, and some of another
pub some_then : (a b c : Option (List ℕ)) (s t : List ℕ) → Appends a b s → AppendsSome b c t → AppendsSome a c (s ++ t)
some_then a b c s t p f = (length s + f.0, subst (Appends a c) (sym (take-append-add s t f.0)) (Appends-trans a b c s (take f.0 t) p f.1))

-- a text, and a front of another
pub front_then : (a b c : Option (List ℕ)) (s t : List ℕ) → Appends a b s → AppendsFront b c t → AppendsFront a c (s ++ t)
unfolding some_then
front_then a b c s t p f = (length s + f.0, omega (arith, f.1, length-append s t), (some_then a b c s t p (f.0, f.2)).1)

-- a front is some
pub front_some : (a b : Option (List ℕ)) (text : List ℕ) → AppendsFront a b text → AppendsSome a b text
front_some a b text f = (f.0, f.2)

-- Fronts of a text.
use Rattle.std.proofs.Common.{◌≡◌, ℕ, List, ◌++◌, Option, Result, Ok, Err, OnErr, length-append, length-drop, take, drop, sym, ap, ◌∙◌, append_assoc, take-append-drop, arith}
use Rattle.std.proofs.KnownBytes.{Appends-trans}
use Rattle.std.specs.Io.KnownBytes.{Appends}
use Rattle.streams.specs.Fronts.{AppendsFront, AppendsSome}
use Rattle.streams.proofs.Fronts.{some_of, front_of, some_then, front_then}
use Rattle.events.specs.declared.errors.RunError.{RunError}
use Rattle.events.specs.declared.errors.RunError.TheVariants.{Input, Output, Memory, TooMany}
use Rattle.events.specs.Output.{Loses}

pub on_err : {A E : Type 0} (r : Result A E) (P : Type 0) → P → OnErr r P
on_err (Ok a) P p = tt
on_err (Err e) P p = p

-- a longer text goes on behind what the text begins with
begins_longer : (n : ℕ) (s t : List ℕ) → s ++ t ≡ take n s ++ (drop n s ++ t)
begins_longer n s t = ap (λ (l : List ℕ). l ++ t) (sym (take-append-drop n s)) ∙ append_assoc (take n s) (drop n s) t

-- some of a text is some of a longer
pub some_first : (a b : Option (List ℕ)) (s t : List ℕ) → AppendsSome a b s → AppendsSome a b (s ++ t)
some_first a b s t f = some_of a b (take f.0 s) (drop f.0 s ++ t) (s ++ t) (begins_longer f.0 s t) f.1

-- and a front of it a front
pub front_first : (a b : Option (List ℕ)) (s t : List ℕ) → AppendsFront a b s → AppendsFront a b (s ++ t)
front_first a b s t f = front_of a b (take f.0 s) (drop f.0 s ++ t) (s ++ t) (begins_longer f.0 s t) (omega (arith, f.1, length-append (drop f.0 s) t, length-drop f.0 s)) f.2

-- the lines that are left, and a last text, behind those that are written
pub front_last : (a b c : Option (List ℕ)) (done lines text last : List ℕ) → text ≡ done ++ lines → Appends a b done → AppendsFront b c (lines ++ last) → AppendsFront a c (text ++ last)
front_last a b c done lines text last e p f = rw (e, append_assoc) (front_then a b c done (lines ++ last) p f)

-- so is what is lost
pub loses_first : (e : RunError) (a b : Option (List ℕ)) (s t : List ℕ) → Loses e a b s → Loses e a b (s ++ t)
loses_first (Input x) a b s t l = l
loses_first (Output x) a b s t l = front_first a b s t l
loses_first Memory a b s t l = some_first a b s t l
loses_first TooMany a b s t l = l

pub loses_then : (e : RunError) (a b c : Option (List ℕ)) (s t : List ℕ) → Appends a b s → Loses e b c t → Loses e a c (s ++ t)
loses_then (Input x) a b c s t p l = l
loses_then (Output x) a b c s t p l = front_then a b c s t p l
loses_then Memory a b c s t p l = some_then a b c s t p l
loses_then TooMany a b c s t p l = l

pub all_last : (a b c : Option (List ℕ)) (done lines text last : List ℕ) → text ≡ done ++ lines → Appends a b done → Appends b c (lines ++ last) → Appends a c (text ++ last)
all_last a b c done lines text last e p q = rw (e, append_assoc) (Appends-trans a b c done (lines ++ last) p q)

-- Where a run of a script stands behind the bytes that it has read.
use Rattle.std.proofs.Common.{◌≡◌, ℕ, List, [], ◌∷◌, ◌++◌, append-nil, append_assoc, Option, None, Result, Ok, Err, IsErr, IsErrAnd, IfSome, inl, inr, sym, subst, ap, ◌∙◌}
use mathlib.Core.Bool.{false≢true}
use Rattle.std.specs.Io.KnownBytes.{Appends, Consumes}
use Rattle.std.proofs.KnownBytes.{Appends-nil, Appends-trans, Consumes-nil, Consumes-trans, Consumes-whole}
use Rattle.streams.specs.Fronts.{AppendsFront, ReadByte}
use Rattle.streams.proofs.Fronts.{front_then}
use Rattle.events.proofs.Fronts.{loses_first, loses_then}
use Rattle.events.specs.Output.{IsOutput, Loses}
use Rattle.events.proofs.Runs.{begins}
use Rattle.events.specs.declared.errors.RunError.{RunError}
use Rattle.events.specs.declared.errors.RunError.TheVariants.{Input, Output, Memory, TooMany}
use Rattle.call_scripts.specs.Bench.{Kept}
use Rattle.call_scripts.specs.Scripts.{byte_text, byte_bench, byte_line, text_from, ended, unended, script_text, whole_text, stop_text, WroteSoFar, Broken, Ran, Finishes, Stops}

-- the run ends before its input, and nothing is lost
abbrev pub IsEnd : RunError → Type 0
IsEnd (Input e) = Unit
IsEnd (Output e) = ⊥
IsEnd Memory = ⊥
IsEnd TooMany = Unit

lost_by : (k : Kept) (known known' old new : Option (List ℕ)) (e : RunError) → WroteSoFar (script_text k) known (Loses e old new) → Ran k known known' old new (Err e)
lost_by k known known' old new (Input x) l = absurd l.2
lost_by k known known' old new (Output x) l = inl l
lost_by k known known' old new Memory l = l
lost_by k known known' old new TooMany l = absurd l.2

-- an error that is handed on
handed : (k : Kept) (known known' old new : Option (List ℕ)) (r : Result Unit RunError) (e : RunError) → IsErr r → IsErrAnd r (λ x. x ≡ e) → WroteSoFar (script_text k) known (Loses e old new) → Ran k known known' old new r
handed k known known' old new (Ok u) e i h l = absurd (false≢true i)
handed k known known' old new (Err x) e i h l = lost_by k known known' old new x (subst (λ (y : RunError). WroteSoFar (script_text k) known (Loses y old new)) (sym h) l)

-- it ends so
ended_by : (k : Kept) (known known' old new : Option (List ℕ)) (e : RunError) → IsEnd e → Broken k known known' old new → Ran k known known' old new (Err e)
ended_by k known known' old new (Input x) i b = b
ended_by k known known' old new (Output x) i b = absurd i
ended_by k known known' old new Memory i b = absurd i
ended_by k known known' old new TooMany i b = b

-- or `stop` is lost
stop_lost : (k : Kept) (known known' old new : Option (List ℕ)) (e : RunError) → IsOutput e → WroteSoFar (λ part. whole_text k part ++ stop_text) known (AppendsFront old new) → Ran k known known' old new (Err e)
stop_lost k known known' old new (Input x) o l = absurd o
stop_lost k known known' old new (Output x) o l = inr l
stop_lost k known known' old new Memory o l = absurd o
stop_lost k known known' old new TooMany o l = absurd o

-- so many bytes are read, the text of the lines that end there is written, and the bench and the line so far are left, from which the text goes on
pub record Came (first : Kept) (known old now new : Option (List ℕ)) (k : Kept) (line : List ℕ) : Type 0 where
  pub read : List ℕ
  pub text : List ℕ
  pub consumed : Consumes known now read
  pub written : Appends old new text
  pub so_far : (last : Kept → List ℕ → List ℕ) (rest : List ℕ) → text_from last first [] (read ++ rest) ≡ text ++ text_from last k line rest

pub none_yet : (first : Kept) (known old : Option (List ℕ)) (line : List ℕ) → line ≡ [] → Came first known old known old first line
none_yet first known old line e = record { read = []; text = []; consumed = Consumes-nil known; written = Appends-nil old; so_far = λ last rest. ap (λ (l : List ℕ). text_from last first l rest) (sym e) }

module _ {first : Kept} {known old now new : Option (List ℕ)} {k : Kept} {line : List ℕ} (p : Came first known old now new k line) where
  on : (byte : ℕ) (last : Kept → List ℕ → List ℕ) (rest : List ℕ) → text_from last first [] ((p.read ++ byte ∷ []) ++ rest) ≡ p.text ++ text_from last k line (byte ∷ rest)
  on byte last rest = ap (λ (l : List ℕ). text_from last first [] l) (append_assoc p.read (byte ∷ []) rest) ∙ p.so_far last (byte ∷ rest)

  at_end : (last : Kept → List ℕ → List ℕ) → text_from last first [] p.read ≡ p.text ++ last k line
  unfolding text_from
  at_end last = ap (λ (l : List ℕ). text_from last first [] l) (sym (append-nil p.read)) ∙ p.so_far last []

  -- one byte more
  pub byte_more : {now' new' : Option (List ℕ)} {k' : Kept} {line' : List ℕ} (byte : ℕ) → Consumes now now' (byte ∷ []) → k' ≡ byte_bench k line byte → line' ≡ byte_line line byte → Appends new new' (byte_text k line byte) → Came first known old now' new' k' line'
  unfolding text_from
  byte_more {now' = now'} {new' = new'} byte c ek el a = rw (ek, el) (record {
    read = p.read ++ byte ∷ [];
    text = p.text ++ byte_text k line byte;
    consumed = Consumes-trans known now now' p.read (byte ∷ []) p.consumed c;
    written = Appends-trans old new new' p.text (byte_text k line byte) p.written a;
    so_far = λ last rest. on byte last rest ∙ sym (append_assoc p.text (byte_text k line byte) (text_from last (byte_bench k line byte) (byte_line line byte) rest));
  })

  read_on : (now' : Option (List ℕ)) (more : List ℕ) → Consumes now now' more → IfSome known (λ input. (rest : List ℕ) × (input ≡ (p.read ++ more) ++ rest))
  read_on now' more c = begins known now' (p.read ++ more) (Consumes-trans known now now' p.read more p.consumed c)

  -- its text is lost
  pub byte_lost : (now' new' known' : Option (List ℕ)) (r : Result Unit RunError) (e : RunError) (byte : ℕ) → Consumes now now' (byte ∷ []) → IsErr r → IsErrAnd r (λ x. x ≡ e) → Loses e new new' (byte_text k line byte) → Ran first known known' old new' r
  unfolding text_from
  byte_lost now' new' known' r e byte c i h l = handed first known known' old new' r e i h (
    p.read ++ byte ∷ [],
    read_on now' (byte ∷ []) c,
    subst (Loses e old new') (sym (ap (λ (l : List ℕ). text_from ended first [] l) (sym (append-nil (p.read ++ byte ∷ []))) ∙ on byte ended []))
        (loses_then e old new new' p.text _ p.written (loses_first e new new' (byte_text k line byte) _ l)),
  )

  pub reads_none : (now' : Option (List ℕ)) → Consumes now now' [] → Consumes known now' p.read
  reads_none now' c = rw (append-nil p.read) at (Consumes-trans known now now' p.read [] p.consumed c)

  -- the input ends
  pub finished : (now' new' : Option (List ℕ)) (r : Result Unit RunError) → ReadByte now None now' → Finishes k line new new' r → Ran first known now' old new' r
  finished now' new' (Ok u) c f = Consumes-whole known now' p.read (λ input. Appends old new' (script_text first input)) (reads_none now' c.0) c.1 (rw (at_end ended) (Appends-trans old new new' p.text (ended k line) p.written f))
  finished now' new' (Err e) c f = lost_by first known now' old new' e (
    p.read,
    begins known now' p.read (reads_none now' c.0),
    subst (Loses e old new') (sym (at_end ended)) (loses_then e old new new' p.text (ended k line) p.written f),
  )

  whole : whole_text first p.read ≡ p.text
  unfolding unended
  whole = at_end unended ∙ append-nil p.text

  broken : (now' new' : Option (List ℕ)) → Consumes now now' [] → Appends new new' stop_text → Broken first known now' old new'
  broken now' new' c a = (p.read, reads_none now' c, rw whole (Appends-trans old new new' p.text stop_text p.written a))

  -- the run is over
  pub over : (now' new' : Option (List ℕ)) (end : RunError) (r : Result Unit RunError) → IsEnd end → Consumes now now' [] → Stops end new new' r → Ran first known now' old new' r
  over now' new' end (Ok u) i c s = absurd s
  over now' new' end (Err e) i c (inl s) = ended_by first known now' old new' e (subst IsEnd (sym s.0) i) (broken now' new' c s.1)
  over now' new' end (Err e) i c (inr s) = stop_lost first known now' old new' e s.0 (p.read, begins known now' p.read (reads_none now' c), rw whole (front_then old new new' p.text stop_text p.written s.1))

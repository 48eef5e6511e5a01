-- What is read of a reader's buffer.
use Rattle.std.proofs.Common.{◌≡◌, ◌≤◌, ◌==◌, ◌∙◌, ◌++◌, Bool, true, false, if◌then◌else◌, ap, sym, length, take, drop, take-take, take-append-drop, IfSome, arith, List, ℕ, Option, Some, None, IsTrue, is_some, refl, subst}
use Rattle.std.proofs.lemmas.List.{take-append-le}
use Rattle.std.specs.Io.KnownBytes.{Consumes, Keeps, prepend_known}
use Rattle.std.specs.Io.Buffered.{reader_buffer, reader_capacity, reader_remaining}
use Rattle.std.specs.Io.BufRead.{DropsConsumable}
use Rattle.std.specs.declared.io.buffered.BufReader.{BufReader}
use Rattle.events.specs.declared.kinds.Kind.{Kind}
use Rattle.events.specs.Reading.{FirstKind, MayWait}

-- nothing was read
pub keeps_same : (a : Option (List ℕ)) → Keeps a a
keeps_same None = tt
keeps_same (Some xs) = refl

-- an event that lies in a buffer is read without waiting
pub lies : (buffer : List ℕ) (found : Option (Kind × ℕ)) → FirstKind buffer found → IsTrue (is_some found) → MayWait buffer → ⊥
lies buffer None k t n = absurd (let z : false ≡ true = t in cc)
lies buffer (Some found) k t n = n.1 _ (drop found.1 buffer) k.begins.spelt.0 (sym (take-append-drop found.1 buffer) ∙ ap (λ (l : List ℕ). l ++ drop found.1 buffer) k.begins.spelt.1)

-- known bytes begin with those that lie in the buffer
pub IsBehind : List ℕ → Option (List ℕ) → Type 0
IsBehind buffer known = IfSome known (λ xs. (rest : List ℕ) × (xs ≡ buffer ++ rest))

behind : (none : Bool) (buffer : List ℕ) (below : Option (List ℕ)) → IsBehind buffer (if none then None else prepend_known buffer below)
unfolding IsBehind
behind true buffer below = tt
behind false buffer None = tt
behind false buffer (Some rest) = (rest, refl)

pub buffer_first : {T A : Type 0} (remaining : T → Option (List ℕ)) (r : BufReader T A) → IsBehind (reader_buffer r) (reader_remaining remaining r)
buffer_first remaining r = behind (reader_capacity r == 0) (reader_buffer r) (remaining r.inner)

-- so many bytes of those that lie first in the buffer are taken
pub taken : (old new : Option (List ℕ)) (buffer front : List ℕ) (n : ℕ) → IsBehind buffer old → n ≤ length front → length front ≤ length buffer → front ≡ take (length front) buffer → DropsConsumable old new (Some (length buffer)) n → Consumes old new (take n front)
unfolding IsBehind
taken None new buffer front n b h l e d = tt
taken (Some xs) new buffer front n b h l e d =
    let same : take n front ≡ take n xs = ap (take n) e ∙ take-take n (length front) buffer h ∙ sym (take-append-le n buffer b.0 (omega (arith, h, l))) ∙ ap (take n) (sym b.1) in
    subst (λ (o : Option (List ℕ)). Consumes (Some xs) o (take n front)) (sym (d (omega (arith, h, l)))) (sym (take-append-drop n xs) ∙ ap (λ (f : List ℕ). f ++ drop n xs) (sym same))

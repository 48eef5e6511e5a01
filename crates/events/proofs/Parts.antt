-- A record as it is read: the byte of its kind, and its body behind it.
use Rattle.std.proofs.Common.{◌≡◌, ℕ, ◌+◌, ◌<◌, ◌≤◌, List, [], ◌∷◌, length, take, drop, take_all, length-take, length-drop, Option, IfSome, sym, subst, arith, get_or}
use Rattle.std.proofs.KnownBytes.{Consumes-trans}
use Rattle.std.specs.Io.KnownBytes.{Consumes}
use Rattle.streams.specs.Fronts.{Filled, StuckBefore}
use Rattle.events.specs.Reading.{BreaksIn}
use Rattle.events.proofs.Nexts.{ended}

headed : (event : List ℕ) (k : ℕ) → 0 < length event → get_or event 0 0 ≡ k → event ≡ k ∷ drop 1 event
headed [] k l h = absurd (omega arith)
headed (x ∷ event) k l h = cc

-- behind the byte k of a kind its body of n bytes is read; `event` holds both then. Of a shorter body P holds
module _ (P : List ℕ → Type 0) (k n : ℕ) (short : (l : List ℕ) → length l < n → P (k ∷ l)) (a b c : Option (List ℕ)) (begins : Consumes a b (k ∷ [])) (event : List ℕ) (all : length event ≡ n + 1) (front : get_or event 0 0 ≡ k) where
  abbrev pub body : List ℕ
  body = drop 1 event

  long : length body ≡ n
  long = omega (arith, all, length-drop 1 event)

  -- j bytes of the body
  more_read : (j : ℕ) → Consumes b c (take j body) → Consumes a c (k ∷ take j body)
  more_read j read = Consumes-trans a b c (k ∷ []) (take j body) begins read

  cut : (j : ℕ) → j < n → P (k ∷ take j body)
  cut j h = short (take j body) (omega (arith, h, length-take j body))

  pub body_stuck : StuckBefore b c body → BreaksIn P a c
  body_stuck f = (k ∷ take f.n body, more_read f.n f.bytes, cut f.n (omega (arith, f.short, long)))

  pub body_short : (j : ℕ) → Filled b c j body → j < n → IfSome a P
  body_short j f h = ended P a c (k ∷ take j body) (more_read j f.bytes) (f.end (omega (arith, h, long))) (cut j h)

  -- the whole record
  pub body_whole : (j : ℕ) → Filled b c j body → n ≤ j → Consumes a c event
  body_whole j f full = subst (Consumes a c) (sym (headed event k (omega (arith, all)) front)) (subst (λ (t : List ℕ). Consumes a c (k ∷ t)) (take_all j body (omega (arith, full, long))) (more_read j f.bytes))

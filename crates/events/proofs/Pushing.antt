-- A text of which all but a rest was pushed.
use Rattle.std.proofs.Common.{◌-◌, take, arith, suc, ◌≡◌, ℕ, List, [], ◌∷◌, ◌++◌, sym, ap, ◌∙◌, ◌<◌, ◌≤◌, ◌+◌, drop_of_length-le, length, drop, drop-cons, get_or, subst, append_assoc, append-nil, refl}
use Rattle.std.proofs.lemmas.List.{take_rest}
use Rattle.hex.specs.Hex.{encode_lower, encode_with}
use Rattle.streams.specs.Gathered.{Gathering, Pushes}
use Rattle.streams.proofs.Gathering.{pushes_none, pushes_then}

pub record PushedOf (old new : Gathering) (all rest : List ℕ) : Type 0 where
  pub done : List ℕ
  pub whole : all ≡ done ++ rest
  pub pushed : Pushes old new done

pub none_pushed : (old : Gathering) (all : List ℕ) → PushedOf old old all all
none_pushed old all = record { done = []; whole = refl; pushed = pushes_none old }

pub begun_by : {old new : Gathering} (front rest : List ℕ) → Pushes old new front → PushedOf old new (front ++ rest) rest
begun_by front rest p = record { done = front; whole = refl; pushed = p }

pub pushed_more : {old mid new : Gathering} {all : List ℕ} (front rest : List ℕ) → PushedOf old mid all (front ++ rest) → Pushes mid new front → PushedOf old new all rest
pushed_more front rest p q = record { done = p.done ++ front; whole = p.whole ∙ sym (append_assoc p.done front rest); pushed = pushes_then p.pushed q }

pub all_pushed : {old new : Gathering} {all : List ℕ} → PushedOf old new all [] → Pushes old new all
all_pushed {old} {new} p = subst (Pushes old new) (sym (p.whole ∙ append-nil p.done)) p.pushed

-- the next byte of some, in hex
pub hex_next : (e : List ℕ) (i : ℕ) → i < length e → encode_lower (drop i e) ≡ encode_lower (get_or e i 0 ∷ []) ++ encode_lower (drop (i + 1) e)
unfolding encode_with
hex_next e i h = let n : suc i ≡ i + 1 = omega arith in ap encode_lower (drop-cons e i 0 h ∙ ap (λ (k : ℕ). get_or e i 0 ∷ drop k e) n)

pub hex_none : (e : List ℕ) (i : ℕ) → length e ≤ i → encode_lower (drop i e) ≡ []
unfolding encode_with
hex_none e i h = ap encode_lower (drop_of_length-le e h)

pub pushed_by : {old mid new : Gathering} {all rest : List ℕ} (front left : List ℕ) → rest ≡ front ++ left → PushedOf old mid all rest → Pushes mid new front → PushedOf old new all left
pushed_by {old} {mid} {all = all} front left e p q = pushed_more front left (subst (PushedOf old mid all) e p) q

pub pushed_to_end : {old new : Gathering} {all rest : List ℕ} → rest ≡ [] → PushedOf old new all rest → Pushes old new all
pushed_to_end {old} {new} {all = all} e p = all_pushed (subst (PushedOf old new all) e p)

-- and the next eight
pub hex_eight : (e : List ℕ) → 8 ≤ length e → encode_lower e ≡ encode_lower (get_or e 0 0 ∷ get_or e 1 0 ∷ get_or e 2 0 ∷ get_or e 3 0 ∷ get_or e 4 0 ∷ get_or e 5 0 ∷ get_or e 6 0 ∷ get_or e 7 0 ∷ []) ++ encode_lower (drop 8 e)
unfolding encode_with
hex_eight ([]) h = absurd (omega (arith, h))
hex_eight (a ∷ []) h = absurd (omega (arith, h))
hex_eight (a ∷ b ∷ []) h = absurd (omega (arith, h))
hex_eight (a ∷ b ∷ c ∷ []) h = absurd (omega (arith, h))
hex_eight (a ∷ b ∷ c ∷ d ∷ []) h = absurd (omega (arith, h))
hex_eight (a ∷ b ∷ c ∷ d ∷ x ∷ []) h = absurd (omega (arith, h))
hex_eight (a ∷ b ∷ c ∷ d ∷ x ∷ f ∷ []) h = absurd (omega (arith, h))
hex_eight (a ∷ b ∷ c ∷ d ∷ x ∷ f ∷ g ∷ []) h = absurd (omega (arith, h))
hex_eight (a ∷ b ∷ c ∷ d ∷ x ∷ f ∷ g ∷ y ∷ e) h = refl

pub hex_eight_more : (e : List ℕ) → 8 ≤ length e → encode_lower e ≡ encode_lower (get_or e 0 0 ∷ get_or e 1 0 ∷ get_or e 2 0 ∷ get_or e 3 0 ∷ get_or e 4 0 ∷ get_or e 5 0 ∷ get_or e 6 0 ∷ get_or e 7 0 ∷ []) ++ encode_lower (take (length e - 8) (drop 8 e))
hex_eight_more e h = hex_eight e h ∙ ap (λ (l : List ℕ). encode_lower (get_or e 0 0 ∷ get_or e 1 0 ∷ get_or e 2 0 ∷ get_or e 3 0 ∷ get_or e 4 0 ∷ get_or e 5 0 ∷ get_or e 6 0 ∷ get_or e 7 0 ∷ []) ++ encode_lower l) (sym (take_rest e 8))

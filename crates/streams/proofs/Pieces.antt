-- A text that is written in pieces: what was written, and the rest that is still to come.
use Rattle.std.proofs.Common.{◌≡◌, ℕ, ◌-◌, ◌<◌, List, [], ◌++◌, Option, length, take, drop, sym, ap, subst, ◌∙◌, append_assoc, take-append-drop}
use Rattle.std.proofs.lemmas.List.{take_rest}
use Rattle.std.specs.Io.KnownBytes.{Appends, Keeps}
use Rattle.std.proofs.KnownBytes.{Appends-trans, Appends-kept}
use Rattle.streams.specs.Fronts.{AppendsFront}
use Rattle.streams.proofs.Fronts.{front_then}

-- of a text the writer has all but the rest
pub record Written (old new : Option (List ℕ)) (text rest : List ℕ) : Type 0 where
  pub done : List ℕ
  pub parts : text ≡ done ++ rest
  pub bytes : Appends old new done

-- n bytes of the rest more
pub written_more : (a b c : Option (List ℕ)) (text rest : List ℕ) (n : ℕ) → Written a b text rest → Appends b c (take n rest) → Written a c text (take (length rest - n) (drop n rest))
written_more a b c text rest n w more = record {
  done = w.done ++ take n rest;
  parts = w.parts ∙ ap (λ l. w.done ++ l) (sym (take-append-drop n rest)) ∙ sym (append_assoc w.done (take n rest) (drop n rest)) ∙ ap (λ l. (w.done ++ take n rest) ++ l) (sym (take_rest rest n));
  bytes = Appends-trans a b c w.done (take n rest) w.bytes more;
}

-- a write that took nothing
pub written_kept : (a b c : Option (List ℕ)) (text rest : List ℕ) → Written a b text rest → Keeps b c → Written a c text rest
written_kept a b c text rest w kept = record { done = w.done; parts = w.parts; bytes = Appends-kept a b c w.done w.bytes kept }

-- where of a rest nothing more was written, what was is a front of the text
pub written_front : (a b c : Option (List ℕ)) (text rest : List ℕ) → Written a b text rest → 0 < length rest → Appends b c [] → AppendsFront a c text
written_front a b c text rest w more none = subst (AppendsFront a c) (sym w.parts) (front_then a b c w.done rest w.bytes (0, more, none))

-- what the check needs of it
pub ruleset writes = (written_more, written_kept)

-- Every event's data stand at the place that the history before it tells: sent, they are what the medium held there; brought, the medium holds them there and is otherwise as it was.
use Rattle.std.proofs.Common.{Option, Some, None, Ok, Err, ◌≡◌, refl, sym, ap, subst, ◌∙◌, Bool, true, false, ⊎_elim, List, [], ◌∷◌, map, ℕ, get_or, ◌<◌, arith, length, length-drop, take, drop}
use Rattle.std.specs.Option.{option_map_or}
use Rattle.bits.proofs.Picks.{tested, by_test, and_left, and_right}
use Rattle.refusals.specs.declared.reasons.Refusal.TheVariants.{NoFrame}
use Rattle.frames.specs.Size.{kind_named, readable}
use Rattle.frames.specs.declared.kinds.FrameKind.{FrameKind}
use Rattle.frames.specs.declared.kinds.FrameKind.TheVariants as kinds
use Rattle.frames.specs.Read.{frame_of, frame_by_kind, read_frame}
use Rattle.rules.specs.Call.{Call, host_frame, happens}
use Rattle.rules.specs.declared.event.DeviceEvent.TheVariants.{SendData}
use Rattle.history.specs.Event.{Event}
use Rattle.history.specs.FrameReading.{frame_asks}
use Rattle.history.specs.Reading.{call_asks, call_brings}
use Rattle.history.specs.Asked.{asks, brought}
use Rattle.history.specs.Replied.{FrameRead, data_in, sent}
use Rattle.history.specs.Seen.{seen, Transfer, no_transfer, under_way}
use Rattle.history.specs.Fates.{Command, commands, outstanding, one, how_many, All}
use Rattle.history.specs.Carried.{transfer, Within}
use Rattle.history.specs.Faithful.{Moved, MovedOf, Owned, Moves}
use Rattle.history.specs.Placed.{owns, place_in_transfer, due_place, written}
use Rattle.history.proofs.Placed.{SentFrom, EndsIn, sent_none, nowhere_lies}

-- ---- what is asked for is as long as what is brought

-- a frame of each kind
brings_kind : (p : List ℕ) (k : FrameKind) → (frame_asks (Ok (frame_of k p))).brings ≡ length (data_in p (Ok (frame_of k p)))
brings_kind p kinds.Data = sym (length-drop 4 p)
brings_kind p _ = refl

-- a host frame
brings_frame : (p : List ℕ) → (frame_asks (read_frame p)).brings ≡ length (data_in p (read_frame p))
unfolding read_frame frame_by_kind
brings_frame p = by_test Long (readable (get_or p 0 0) (length p)) (frame_by_kind (get_or p 0 0) p) (Err NoFrame) (λ _. go (kind_named (get_or p 0 0))) (λ _. refl)
  where
    Long : FrameRead → Type 0
    Long f = (frame_asks f).brings ≡ length (data_in p f)

    go : (k : Option FrameKind) → Long (option_map_or (λ kind. Ok (frame_of kind p)) k (Err NoFrame))
    go None = refl
    go (Some k) = brings_kind p k

-- a call
brings_call : (c : Call) → (call_asks c).brings ≡ length (call_brings c)
brings_call (host_frame f) = brings_frame f
brings_call (happens SendData) = refl
brings_call _ = refl

-- an event
pub brought_long : (e : Event) → (asks e).brings ≡ length (brought e)
brought_long e = let c = brings_call e.call in grind arith

-- ---- at the place of what is under way

-- data at the place of the command that owns what is under way
owned_moved : (e : Event) (x : Transfer) (d : Bool) (t a z : ℕ) → x ≡ under_way d t a z → (cs : List Command) → how_many (owns d t) cs ≡ 1
    → All (λ c. transfer c.after ≡ x) cs → All (λ c. outstanding c ≡ true → MovedOf e c (transfer c.after)) cs → Moved e d (place_in_transfer cs (under_way d t a z))
unfolding how_many All
owned_moved e x d t a z u [] o s p = absurd (omega (arith, o))
owned_moved e x d t a z u (c ∷ cs) o s p =
    ⊎_elim
    (λ (y : owns d t c ≡ true). rw y (subst (MovedOf e c) (s.0 ∙ u) (p.0 (and_left (outstanding c) _ y)) (and_right (outstanding c) _ y)))
    (λ (n : owns d t c ≡ false). rw n (owned_moved e x d t a z u cs (omega (arith, o, ap one n)) s.1 p.1))
    (tested (owns d t c))

module _ (e : Event) (h : List Event) (m : Moves e (map seen h)) where
  -- data in a direction, of what is under way
  moved_there : (d : Bool) (n : ℕ) → Within d n (transfer (map seen h)) → Moved e d (due_place h)
  moved_there d n w = go (transfer (map seen h)) refl w
    where
      go : (x : Transfer) → transfer (map seen h) ≡ x → Within d n x → Moved e d (place_in_transfer (commands (map seen h)) x)
      go no_transfer u v = absurd v
      go (under_way y t a z) u v =
          subst (λ (b : Bool). Moved e b (place_in_transfer (commands (map seen h)) (under_way y t a z))) v.0
          (owned_moved e (transfer (map seen h)) y t a z u (commands (map seen h)) (subst (λ (x : Transfer). Owned x (commands (map seen h))) u m.owned) m.since m.each)

  -- data that are sent are what the medium held at their place
  pub sent_lies : sent e ≡ take (length (sent e)) (drop (due_place h) e.medium)
  unfolding seen
  sent_lies = go (sent e) refl
    where
      go : (l : List ℕ) → sent e ≡ l → SentFrom (due_place h) e.medium (sent e)
      go [] k = sent_none (due_place h) e.medium (sent e) k
      go (x ∷ xs) k = (moved_there true (length (sent e)) (m.due.sends (omega (arith, ap length k)))).read refl

  -- data that are brought: some, of what is under way
  brought_there : 0 < length (brought e) → Moved e false (due_place h)
  unfolding seen
  brought_there k = moved_there false (asks e).brings (m.due.brings (omega (arith, k, brought_long e)))

  -- the medium that an event leaves holds them at their place, and is otherwise as it was
  pub left_lies : e.left ≡ written (due_place h) (brought e) e.medium
  left_lies = go (brought e) refl
    where
      go : (l : List ℕ) → brought e ≡ l → e.left ≡ written (due_place h) (brought e) e.medium
      go [] k = m.untouched k ∙ rw k ((nowhere_lies (due_place h) e.medium).left_at)
      go (x ∷ xs) k = (brought_there (omega (arith, ap length k))).written refl

  -- and none of them stand behind its end
  pub ends_lies : EndsIn (due_place h) e.medium (brought e)
  ends_lies k = (brought_there k).within refl k

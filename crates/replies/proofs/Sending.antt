-- Laws of frames sent one behind the other.
use Rattle.std.proofs.Common.{◌≡◌, refl, sym, ap, ap₂, ◌∙◌, Bool, true, false, List, [], ◌∷◌, ◌++◌, append-nil, append_assoc, ℕ, ◌+◌, ◌-◌, ◌≤◌, arith, length, take, drop, length-append, length-drop, length-take-le, Result, Ok, Err}
use borrow.Rule.Slice.PartMut.{mid_of, put_mid}
use Rattle.std.specs.Result.{result_unwrap_or}
use Rattle.refusals.specs.declared.reasons.Refusal.{Refusal}
use Rattle.refusals.specs.declared.reasons.Refusal.TheVariants.{Unfit}
use Rattle.bits.specs.Pick.{pick}
use Rattle.bits.specs.Laid.{overlay}
use Rattle.bits.proofs.Fronts.{laid_next, rest_part, rest_put}
use Rattle.frames.specs.Cut.{joined_bytes}
use Rattle.frames.specs.Emit.{WriteGiven}
use Rattle.frames.proofs.EmitLaws.{write_refusal_unfit, wrote_all, wrote_room}
use Rattle.frames.specs.Write.{FrameValue, encode, fits, FrameWriteGiven}
use Rattle.replies.specs.Replies.{sent_bytes, sent_all, RepliesGiven}
use Rattle.replies.specs.Sends.{Sends}

-- nothing sent
pub sends_none : (d : List ℕ) → RepliesGiven [] d 0 d
unfolding sent_all joined_bytes
sends_none d = record { len = refl; bytes = refl }

-- the bytes of one frame
pub sent_one : (f : FrameValue) → sent_all (f ∷ []) ≡ sent_bytes f
unfolding sent_all joined_bytes
sent_one f = append-nil (sent_bytes f)

-- one list of frames behind another
sent_append : (fs gs : List FrameValue) → sent_all (fs ++ gs) ≡ sent_all fs ++ sent_all gs
unfolding sent_all joined_bytes
sent_append [] gs = refl
sent_append (f ∷ fs) gs = ap (λ (x : List ℕ). sent_bytes f ++ x) (sent_append fs gs) ∙ sym (append_assoc (sent_bytes f) (sent_all fs) (sent_all gs))

pub length_sent : (fs gs : List FrameValue) → length (sent_all (fs ++ gs)) ≡ length (sent_all fs) + length (sent_all gs)
length_sent fs gs = ap length (sent_append fs gs) ∙ length-append (sent_all fs) (sent_all gs)

-- how many bytes a writer sent: none where it turned its values down
abbrev pub sent : Result ℕ Refusal → ℕ
sent r = result_unwrap_or r 0

-- they are in the room that it was lent
sent_within : (b : Bool) (s d : List ℕ) (r : Result ℕ Refusal) (d' : List ℕ) → WriteGiven b s d r d' → sent r ≤ length d
sent_within b s d (Ok k) d' w = let a = wrote_all b s d k d' w in omega (arith, a.1, a.2)
sent_within b s d (Err e) d' w = omega arith

-- a writer sends its frame if that fits, and else nothing
one_fit : (b : Bool) (s d : List ℕ) (r : Result ℕ Refusal) (d' : List ℕ) → WriteGiven b s d r d' → length (pick b s []) ≤ length d → (sent r ≡ length (pick b s [])) × (d' ≡ overlay (pick b s []) d)
one_fit true s d r d' w h = let a = wrote_room true s d r d' w refl h in (ap sent a.0, a.1)
one_fit false s d r d' w h =
    let n = write_refusal_unfit (length s) (length d) in
    let e : r ≡ Err Unfit = w.answer ∙ rw n in
    (ap sent e, w.bytes ∙ rw n)

pub sends_one : (f : FrameValue) (d : List ℕ) (r : Result ℕ Refusal) (n : ℕ) (d' : List ℕ) → FrameWriteGiven f d r d' → n ≡ sent r → length (sent_bytes f) ≤ length d → RepliesGiven (f ∷ []) d n d'
unfolding sent_bytes
sends_one f d r n d' w e h =
    let a = one_fit (fits f) (encode f) d r d' w h in
    record { len = e ∙ a.0 ∙ sym (ap length (sent_one f)); bytes = a.1 ∙ sym (ap (λ (s : List ℕ). overlay s d) (sent_one f)) }

-- the second writer was lent the room that the first one left
pub sends_next : (fs gs : List FrameValue) (d xs ys : List ℕ) (n m : ℕ) → RepliesGiven fs d n xs → RepliesGiven gs (mid_of n (length xs - n) xs) m ys
    → RepliesGiven (fs ++ gs) d (n + m) (put_mid n (length xs - n) xs ys)
sends_next fs gs d xs ys n m a b = record {
  len = ap₂ (λ (i j : ℕ). i + j) a.len b.len ∙ sym (length-append (sent_all fs) (sent_all gs)) ∙ sym (ap length (sent_append fs gs));
  bytes = laid_next n (sent_all fs) (sent_all gs) d xs ys (sym a.len) a.bytes b.bytes ∙ sym (ap (λ (s : List ℕ). overlay s d) (sent_append fs gs));
}

-- the room that is left behind what was sent
room_left : (n : ℕ) (xs : List ℕ) → length (mid_of n (length xs - n) xs) ≡ length xs - n
room_left n xs = ap length (rest_part n xs) ∙ length-drop n xs

pub room_after : (fs : List FrameValue) (d xs : List ℕ) (n : ℕ) → RepliesGiven fs d n xs → length (sent_all fs) ≤ length d → length (mid_of n (length xs - n) xs) + n ≡ length d
room_after fs d xs n g h =
    let l : length xs ≡ length (sent_all fs) + length (drop (length (sent_all fs)) d) = ap length g.bytes ∙ length-append (sent_all fs) (drop (length (sent_all fs)) d) in
    omega (arith, l, length-drop (length (sent_all fs)) d, g.len, room_left n xs)

-- no frame
pub sends_nothing : (d : List ℕ) → Sends [] d 0 d
sends_nothing d = record { within = omega arith; sent = λ h. sends_none d }

-- one frame
pub sends_frame : (f : FrameValue) (d : List ℕ) (r : Result ℕ Refusal) (n : ℕ) (d' : List ℕ) → FrameWriteGiven f d r d' → n ≡ sent r → length d' ≡ length d → Sends (f ∷ []) d n d'
sends_frame f d r n d' w e k = record {
  within = omega (arith, e, k, sent_within (fits f) (encode f) d r d' w);
  sent = λ h. sends_one f d r n d' w e (rw (sent_one f) at h);
}

-- one list of frames, and then another in the room that is left
pub sends_then : {fs gs : List FrameValue} {d xs ys : List ℕ} {n m : ℕ} → Sends fs d n xs → Sends gs (mid_of n (length xs - n) xs) m ys → Sends (fs ++ gs) d (n + m) (put_mid n (length xs - n) xs ys)
sends_then {fs} {gs} {d} {xs} {ys} {n} {m} a b = record {
  within = rw (ap length (rest_put n xs ys), length-append (take n xs) ys) (omega (arith, b.within, length-take-le n xs a.within));
  sent = λ h.
      let l = length_sent fs gs in
      let g = a.sent (omega (arith, h, l)) in
      sends_next fs gs d xs ys n m g (b.sent (omega (arith, h, l, g.len, room_after fs d xs n g (omega (arith, h, l)))));
}

-- the bytes of a page by value, and none of one that is turned down
pub page_bytes_pick : (fits : Bool) (page : List ℕ) (r : Refusal) → result_unwrap_or (pick fits (Ok page) (Err r)) [] ≡ pick fits page []
page_bytes_pick fits page r = grind arith

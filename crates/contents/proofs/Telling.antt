-- What is told of a call does not see contents.
use Rattle.std.proofs.Common.{Option, Result, Bool, true, false, ◌≡◌, refl, sym, ap, ap₂, ◌∙◌, List, [], ◌∷◌, ◌++◌, map, ℕ, suc, ◌-◌, length, take, drop, replicate, take_at, drop_at, append-nil}
use Rattle.bits.specs.Pick.{pick}
use Rattle.frames.specs.Cut.{cut, joined_bytes}
use Rattle.frames.specs.Read.{read_frame}
use Rattle.frames.specs.Size.{payload_size}
use Rattle.frames.specs.Write.{payload, encode, fits}
use Rattle.frames.specs.declared.shapes.Frame.{Frame}
use Rattle.refusals.specs.declared.reasons.Refusal.{Refusal}
use Rattle.rules.specs.Call.{Call, host_frame, happens}
use Rattle.replies.specs.Replies.{sent_bytes, sent_all}
use Rattle.device.specs.Lent.{Lent, lent, Gave}
use Rattle.device.specs.Step.{bytes_of, step, Given}
use Rattle.device.specs.declared.state.Device.{Device}
use Rattle.device.specs.declared.state.Outcome.{Outcome}
use Rattle.contents.specs.Veil.{blanked, veiled_call, veil}
use Rattle.contents.specs.Told.{is_send, shown, Told, reply_of, told}
use Rattle.contents.specs.Unseen.{CallsAlike, RestStays, DataVeiled, LentVeiled}
use Rattle.contents.proofs.Blanked.{blanked_long, cut_blanked, payload_blanked}
use Rattle.contents.proofs.Veiled.{state_veiled, refusal_veiled, frames_veiled, frames_alike}

-- ---- the reply bytes

-- of data frames as long
send_alike : (b : Bool) (p q : List ℕ) → length p ≡ length q → blanked (pick b (0x46 ∷ 0 ∷ 0 ∷ 0 ∷ p) [] ++ []) ≡ blanked (pick b (0x46 ∷ 0 ∷ 0 ∷ 0 ∷ q) [] ++ [])
unfolding blanked
send_alike true p q e = rw (append-nil p, append-nil q) (ap (λ (n : ℕ). 0x46 ∷ 0 ∷ 0 ∷ 0 ∷ replicate (suc (suc (suc (suc n))) - 4) 0) e)
send_alike false p q e = refl

sent_alike : (p q : List ℕ) → length p ≡ length q → blanked (sent_all (payload p ∷ [])) ≡ blanked (sent_all (payload q ∷ []))
unfolding sent_all sent_bytes joined_bytes encode fits
sent_alike p q e = ap (λ (n : ℕ). blanked (pick (payload_size n) (0x46 ∷ 0 ∷ 0 ∷ 0 ∷ p) [] ++ [])) e ∙ send_alike (payload_size (length q)) p q e

-- the reply bytes of a call and of the blanked call are the same, blanked
blanked_alike : (d : Device) (l : Lent) → blanked (bytes_of (step d (veil l))) ≡ blanked (bytes_of (step d l))
blanked_alike = frames_alike (λ x y. blanked (sent_all x) ≡ blanked (sent_all y)) (λ fs. refl) sent_alike

-- and so are as many
length_alike : (d : Device) (l : Lent) → length (bytes_of (step d (veil l))) ≡ length (bytes_of (step d l))
length_alike d l = sym (blanked_long (bytes_of (step d (veil l)))) ∙ ap length (blanked_alike d l) ∙ blanked_long (bytes_of (step d l))

-- and are cut into frames that are read alike
read_alike : (d : Device) (l : Lent) → map read_frame (cut (bytes_of (step d (veil l)))) ≡ map read_frame (cut (bytes_of (step d l)))
read_alike d l =
    sym (cut_blanked (bytes_of (step d (veil l)))) ∙ ap (λ (x : List ℕ). map read_frame (cut x)) (blanked_alike d l) ∙ cut_blanked (bytes_of (step d l))

-- those of every call but a send are the same as they stand
pub bytes_veiled : (d : Device) (l : Lent) → is_send l.call ≡ false → bytes_of (step d (veil l)) ≡ bytes_of (step d l)
bytes_veiled d l o = ap sent_all (frames_veiled d l o)

shown_by : (b : Bool) (x y : List ℕ) → blanked x ≡ blanked y → (b ≡ false → x ≡ y) → pick b (blanked x) x ≡ pick b (blanked y) y
shown_by true x y e f = e
shown_by false x y e f = f refl

pub send_veiled : (c : Call) → is_send (veiled_call c) ≡ is_send c
unfolding is_send
send_veiled (host_frame f) = refl
send_veiled (happens e) = refl

-- ---- what is told

same_told : {o o' : Outcome} {f f' : List (Result Frame Refusal)} {b b' : List ℕ} → o ≡ o' → f ≡ f' → b ≡ b'
    → ◌≡◌ {A = Told} (record { outcome = o; frames = f; bytes = b }) (record { outcome = o'; frames = f'; bytes = b' })
same_told p q r = cc

same_outcome : {d d' : Device} {r r' : Option Refusal} {n n' : ℕ} → d ≡ d' → r ≡ r' → n ≡ n'
    → ◌≡◌ {A = Outcome} (record { state = d; refusal = r; len = n }) (record { state = d'; refusal = r'; len = n' })
same_outcome p q r = cc

-- by the definitions
abbrev pub told_by : Device → Lent → Told
told_by d l = record {
  outcome = record { state = (step d l).state; refusal = (step d l).refusal; len = length (bytes_of (step d l)) };
  frames = map read_frame (cut (bytes_of (step d l)));
  bytes = shown l.call (bytes_of (step d l));
}

-- of a call and of the blanked call the same is told
pub told_veiled : (d : Device) (l : Lent) → told_by d (veil l) ≡ told_by d l
told_veiled d l =
    let x : List ℕ = bytes_of (step d (veil l)) in
    let same : shown (veil l).call x ≡ shown l.call (bytes_of (step d l)) =
    ap (λ (b : Bool). pick b (blanked x) x) (send_veiled l.call) ∙ shown_by (is_send l.call) x (bytes_of (step d l)) (blanked_alike d l) (bytes_veiled d l) in
    same_told (same_outcome (state_veiled d l) (refusal_veiled d l) (length_alike d l)) (read_alike d l) same

module _ (d : Device) (a b : Lent) (e : veil a ≡ veil b) where
  -- so of two calls that differ in contents alone
  pub defined_alike : told_by d a ≡ told_by d b
  defined_alike = sym (told_veiled d a) ∙ ap (told_by d) e ∙ told_veiled d b

  pub blanked_same : blanked (bytes_of (step d a)) ≡ blanked (bytes_of (step d b))
  blanked_same = sym (blanked_alike d a) ∙ ap (λ (l : Lent). blanked (bytes_of (step d l))) e ∙ blanked_alike d b

-- the reply bytes in front of the buffer are those of the definitions
pub reply_is : (d : Device) (l : Lent) (g : Gave) → Given d l g → reply_of g ≡ bytes_of (step d l)
reply_is d l g p =
    let b : List ℕ = bytes_of (step d l) in
    ap₂ (λ (n : ℕ) (x : List ℕ). take n x) p.len p.reply ∙ take_at b (drop (length b) l.buffer) (length b) refl

pub given_told : (d : Device) (l : Lent) (g : Gave) → Given d l g → told l g ≡ told_by d l
given_told d l g p =
    let e = reply_is d l g p in
    same_told (same_outcome p.state p.refusal p.len) (ap (λ (x : List ℕ). map read_frame (cut x)) e) (ap (shown l.call) e)

-- ---- what is promised

pub calls_alike : CallsAlike
calls_alike d a b g h p q e = given_told d a g p ∙ defined_alike d a b e ∙ sym (given_told d b h q)

pub rest_stays : RestStays
rest_stays d l g p =
    let b : List ℕ = bytes_of (step d l) in
    ap₂ (λ (n : ℕ) (x : List ℕ). drop n x) p.len p.reply ∙ drop_at b (drop (length b) l.buffer) (length b) refl ∙ sym (ap (λ (n : ℕ). drop n l.buffer) p.len)

same_lent : {c c' : Call} {m m' b b' : List ℕ} → c ≡ c' → m ≡ m' → b ≡ b' → lent c m b ≡ lent c' m' b'
same_lent p q r = cc

abbrev zeros : ℕ → List ℕ
zeros n = replicate n 0

pub lent_veiled : LentVeiled
lent_veiled a n c e f = same_lent refl (ap zeros e) (ap zeros f)

pub data_veiled : DataVeiled
data_veiled head p q m n b c h k e f g =
    same_lent (ap host_frame (payload_blanked head p h k ∙ ap (λ (i : ℕ). head ++ zeros i) e ∙ sym (payload_blanked head q h k))) (ap zeros f) (ap zeros g)

pub ruleset promised = (calls_alike, rest_stays, data_veiled, lent_veiled)

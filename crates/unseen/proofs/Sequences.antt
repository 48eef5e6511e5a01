-- Sequences of calls that differ in contents alone.
use Rattle.std.proofs.Common.{◌≡◌, refl, sym, ap, ap₂, subst, ◌∙◌, Bool, true, false, ⊎_elim, Option, Result, Ok, Err, List, [], ◌∷◌, ◌++◌, append-nil, map, ℕ, ◌-◌, arith, length}
use Rattle.bits.specs.Pick.{pick}
use Rattle.bits.proofs.Picks.{by_test, pick_no, tested}
use Rattle.frames.specs.Cut.{cut_to, cut, joined_bytes}
use Rattle.frames.specs.Read.{read_frame}
use Rattle.frames.specs.Size.{payload_size, readable}
use Rattle.frames.specs.Write.{FrameValue, payload, encode, fits}
use Rattle.frames.specs.declared.shapes.Frame.{Frame}
use Rattle.frames.specs.declared.shapes.Frame.TheVariants.{Data}
use Rattle.refusals.specs.declared.reasons.Refusal.TheVariants.{NoFrame}
use Rattle.replies.specs.Replies.{sent_bytes, sent_all}
use Rattle.history.specs.Replied.{some, is_pio, payloads}
use Rattle.refusals.specs.declared.reasons.Refusal.{Refusal}
use Rattle.device_state.specs.declared.shapes.Settings.{Settings}
use Rattle.device.specs.Counter.{CounterGiven, CountGiven, counter_of, count_of}
use Rattle.device.specs.DataDue.{data_due}
use Rattle.device.specs.Lent.{Lent}
use Rattle.device.specs.Step.{Given}
use Rattle.device.specs.declared.state.Device.{Device}
use Rattle.device.specs.declared.state.Outcome.{Outcome}
use Rattle.device.specs.declared.sealed.Sealed.{Sealed}
use Rattle.history.specs.Run.{Done}
use Rattle.history.specs.Follows.{FollowsBy, final, lents}
use Rattle.history.proofs.Allowed.{BeganCode}
use Rattle.history.proofs.Contracts.{began_code}
use Rattle.history.proofs.KeptCalls.{BeganKept, kept_began}
use Rattle.contents.specs.Veil.{blanked, veil}
use Rattle.contents.specs.Told.{is_send, Told, reply_of}
use Rattle.contents.proofs.Blanked.{cut_data, data_read}
use Rattle.contents.proofs.Veiled.{send_frames}
use Rattle.contents.proofs.Telling.{send_veiled, reply_is, calls_alike}
use Rattle.unseen.specs.Sequences.{told_of, page_of, SameTold, SequencesAlike}

-- a reply without a PIO Setup is no page
abbrev pio_in : List ℕ → Bool
pio_in bytes = some is_pio (map read_frame (cut bytes))

data_unpaged : (b : Bool) (p : List ℕ) → pio_in (pick b (0x46 ∷ 0 ∷ 0 ∷ 0 ∷ p) [] ++ []) ≡ false
unfolding some cut cut_to
data_unpaged false p = refl
data_unpaged true p =
    let l : List ℕ = 0x46 ∷ 0 ∷ 0 ∷ 0 ∷ p in
    let one : (b : Bool) → some is_pio (pick b (Ok (Data (length l - 4))) (Err NoFrame) ∷ []) ≡ false =
    λ b. by_test (λ (r : Result Frame Refusal). some is_pio (r ∷ []) ≡ false) b (Ok (Data (length l - 4))) (Err NoFrame) (λ _. refl) (λ _. refl) in
    rw (append-nil p, cut_data 0x46 (0 ∷ 0 ∷ 0 ∷ p) refl, data_read l refl) (one (readable 0x46 (length l)))

frame_unpaged : (p : List ℕ) → pio_in (sent_all (payload p ∷ [])) ≡ false
unfolding sent_all sent_bytes joined_bytes encode fits
frame_unpaged p = data_unpaged (payload_size (length p)) p

none_unpaged : pio_in (sent_all []) ≡ false
unfolding sent_all joined_bytes some cut cut_to
none_unpaged = refl

-- a send delivers none
send_unpaged : (d : Device) (x : Done) → Given d x.lent x.gave → is_send x.lent.call ≡ true → page_of x ≡ []
send_unpaged d x g o =
    let n : pio_in (reply_of x.gave) ≡ false =
    ap pio_in (reply_is d x.lent x.gave g) ∙ send_frames (λ (fs : List FrameValue). pio_in (sent_all fs) ≡ false) none_unpaged frame_unpaged d x.lent o in
    pick_no (pio_in (reply_of x.gave)) (payloads (cut (reply_of x.gave))) [] n

-- and of any other call it is in the bytes that are told
abbrev page_in : List ℕ → List ℕ
page_in bytes = pick (pio_in bytes) (payloads (cut bytes)) []

page_alike : (d : Device) (x y : Done) → Given d x.lent x.gave → Given d y.lent y.gave → veil x.lent ≡ veil y.lent → page_of x ≡ page_of y
page_alike d x y f g e =
    let t : told_of x ≡ told_of y = calls_alike d x.lent y.lent x.gave y.gave f g e in
    let c : is_send x.lent.call ≡ is_send y.lent.call = sym (send_veiled x.lent.call) ∙ ap (λ (l : Lent). is_send l.call) e ∙ send_veiled y.lent.call in
    ⊎_elim (λ (s : is_send x.lent.call ≡ true). send_unpaged d x f s ∙ sym (send_unpaged d y g (sym c ∙ s)))
    (λ (n : is_send x.lent.call ≡ false).
    let bytes : reply_of x.gave ≡ reply_of y.gave =
    sym (pick_no (is_send x.lent.call) (blanked (reply_of x.gave)) (reply_of x.gave) n)
    ∙ ap (λ (z : Told). z.bytes) t ∙ pick_no (is_send y.lent.call) (blanked (reply_of y.gave)) (reply_of y.gave) (sym c ∙ n) in
    ap page_in bytes)
    (tested (is_send x.lent.call))

-- call after call the same is told, and the state at the end is one
record Alike (d : Device) (xs ys : List Done) : Type 0 where
  calls : map told_of xs ≡ map told_of ys
  pages : map page_of xs ≡ map page_of ys
  state : final d xs ≡ final d ys

-- the first of what is lent, and the rest
first_veil : (a b : Lent) (as' bs : List Lent) → a ∷ as' ≡ b ∷ bs → a ≡ b
first_veil a b as' bs e = cc

rest_veil : (a b : Lent) (as' bs : List Lent) → a ∷ as' ≡ b ∷ bs → as' ≡ bs
rest_veil a b as' bs e = cc

follows_alike : (xs ys : List Done) (d : Device) → FollowsBy Given d xs → FollowsBy Given d ys → map veil (lents xs) ≡ map veil (lents ys) → Alike d xs ys
unfolding FollowsBy final
follows_alike [] [] d f g e = record { calls = refl; pages = refl; state = refl }
follows_alike [] (y ∷ ys) d f g e = absurd (let n : 0 ≡ length (map veil (lents (y ∷ ys))) = ap length e in omega arith)
follows_alike (x ∷ xs) [] d f g e = absurd (let n : length (map veil (lents (x ∷ xs))) ≡ 0 = ap length e in omega arith)
follows_alike (x ∷ xs) (y ∷ ys) d f g e =
    let v : veil x.lent ≡ veil y.lent = first_veil (veil x.lent) (veil y.lent) (map veil (lents xs)) (map veil (lents ys)) e in
    let t : told_of x ≡ told_of y = calls_alike d x.lent y.lent x.gave y.gave f.0 g.0 v in
    let s : y.gave.outcome.state ≡ x.gave.outcome.state = sym (ap (λ (z : Told). z.outcome.state) t) in
    let g' : FollowsBy Given x.gave.outcome.state ys = subst (λ (z : Device). FollowsBy Given z ys) s g.1 in
    let more = follows_alike xs ys x.gave.outcome.state f.1 g' (rest_veil (veil x.lent) (veil y.lent) (map veil (lents xs)) (map veil (lents ys)) e) in
    record {
      calls = ap₂ (λ (a : Told) (b : List Told). a ∷ b) t more.calls;
      pages = ap₂ (λ (a : List ℕ) (b : List (List ℕ)). a ∷ b) (page_alike d x y f.0 g.0 v) more.pages;
      state = more.state ∙ sym (ap (λ (z : Device). final z ys) s);
    }

-- one state answers alike
counter_alike : (d e : Device) → d ≡ e → (number : ℕ) (c b : Result (Option ℕ) Refusal) → CounterGiven d number c → CounterGiven e number b → c ≡ b
counter_alike d e q number c b f g = f.answer ∙ ap (λ (z : Device). counter_of z number) q ∙ sym g.answer

count_alike : (d e : Device) → d ≡ e → (c b : Result ℕ Refusal) → CountGiven d c → CountGiven e b → c ≡ b
count_alike d e q c b f g = f.answer ∙ ap count_of q ∙ sym g.answer

-- from power-on
pub sequences_alike : SequencesAlike
sequences_alike s r q xs ys f g e =
    let p : r ≡ q = f.power ∙ sym g.power in
    let g' : FollowsBy Given r.state ys = subst (λ (z : Outcome). FollowsBy Given z.state ys) (sym p) g.follows in
    let a = follows_alike xs ys r.state f.follows g' e in
    let end : final r.state xs ≡ final q.state ys = a.state ∙ ap (λ (z : Outcome). final z.state ys) p in
    record {
      power = p;
      calls = a.calls;
      pages = a.pages;
      state = end;
      counter = counter_alike (final r.state xs) (final q.state ys) end;
      count = count_alike (final r.state xs) (final q.state ys) end;
      due = ap data_due end;
    }

-- of the code: of all results that the calls' own contracts allow, by value
pub sequences_code : (s : Settings) (r q : Outcome) (xs ys : List Done) → BeganCode s r xs → BeganCode s q ys → map veil (lents xs) ≡ map veil (lents ys) → SameTold r q xs ys
sequences_code s r q xs ys f g e = sequences_alike s r q xs ys (began_code s r xs f) (began_code s q ys g) e

-- in place, and what is kept at the end is one state
pub record SameKept (xs ys : List Done) (k l : Sealed) : Type 0 where
  pub calls : map told_of xs ≡ map told_of ys
  pub pages : map page_of xs ≡ map page_of ys
  pub state : k.device ≡ l.device

pub sequences_kept : (s : Settings) (xs ys : List Done) (k l : Sealed) → BeganKept s xs k → BeganKept s ys l → map veil (lents xs) ≡ map veil (lents ys) → SameKept xs ys k l
sequences_kept s xs ys k l f g e =
    let a = kept_began f in
    let b = kept_began g in
    let t = sequences_alike s a.power b.power xs ys a.began b.began e in
    record { calls = t.calls; pages = t.pages; state = sym a.last ∙ t.state ∙ b.last }

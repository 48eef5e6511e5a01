-- Every state that does not contradict itself serves its commands by their own bytes: of the definitions, and of the code.
use Rattle.std.proofs.Common.{Option, Some, None, Ok, is_none, unwrap_or, ◌≡◌, refl, sym, ap, ap₂, subst, ◌∙◌, Bool, true, false, not, ◌||◌, List, [], ◌∷◌, ◌++◌, map, ℕ, ◌+◌, ◌-◌, ◌*◌, ◌≤◌, ◌<◌, min, arith, eqb, length, get_or, take, drop, take_at, length-drop, eq-eqb, eqb-true, le-ltb, Result, append-nil}
use borrow.Author.Tests.{not-false}
use Rattle.bits.specs.Pick.{pick}
use Rattle.bits.specs.Bit.{bit_in}
use Rattle.bits.proofs.Picks.{pick_yes, by_test}
use Rattle.frames.specs.Cut.{joined_bytes}
use Rattle.frames.specs.Size.{payload_size}
use Rattle.frames.specs.Write.{FrameValue, setup, activate, payload, encode, fits}
use Rattle.refusals.specs.First.{first_of}
use Rattle.refusals.specs.declared.reasons.Refusal.{Refusal}
use Rattle.refusals.specs.declared.reasons.Refusal.TheVariants.{OutsideCommand}
use Rattle.device_state.specs.State.{whole_of}
use Rattle.device_state.specs.Table.{entry_of, table_with}
use Rattle.device_state.specs.declared.shapes.Entry.{Entry}
use Rattle.device_state.proofs.TableLaws.{entry_of_placed, some_absent}
use Rattle.rules.specs.Call.{host_frame, happens}
use Rattle.rules.specs.declared.event.DeviceEvent.TheVariants.{OpenPhase, SendData, FinishTags, MediaError}
use Rattle.rules.specs.Tests.{unready_at, some_unready, tests, outside}
use Rattle.rules.specs.declared.acts.Act.{Act}
use Rattle.rules.specs.declared.acts.Act.TheVariants.{Open}
use Rattle.rules.specs.declared.acts.Queued.{Queued}
use Rattle.rules.specs.Positions.{left_of, size_of, place_of, advanced_by, move_of}
use Rattle.rules.specs.Medium.{touch_of}
use Rattle.rules.proofs.Ruled as by
use Rattle.replies.specs.Replies.{setup_reply, activate_if, open_replies, replies_of, sent_all}
use Rattle.replies.proofs.Fit.{Fit, Fitting}
use Rattle.replies.proofs.Fits.{all_sent, replies_fit}
use Rattle.device.specs.Device.{contradictory_device}
use Rattle.device.specs.Lent.{Lent, lent, Gave}
use Rattle.device.specs.FactsOf.{facts_of, entry_meant, medium_wrong}
use Rattle.device.specs.Step.{Step, step_by, step, bytes_of, Given, state_shown}
use Rattle.device.specs.declared.state.Device.{Device}
use Rattle.device.proofs.Busy.{range_within, whole_is, phase_more}
use Rattle.device.proofs.Phases.{none_open, own_open}
use Rattle.device.proofs.Turns.{step_refusal}
use Rattle.device.proofs.Tags.{busy_below}
use Rattle.device.specs.DataDue.{phase_entry}
use Rattle.device.specs.After.{moved_by, after_of}
use Rattle.device.proofs.Parts.{status_good}
use Rattle.device.proofs.StatusLaws.{phase_busy}
use Rattle.device.proofs.Rulings.{part_sized}
use Rattle.device.proofs.Storing.{taken_46, data_kept_whole}
use Rattle.history.specs.Serves.{own_first, own_count, own_next, Opens, Advances, Sends, Stores, Finishes, covered, entry_after, reply_of, Serves}
use Rattle.history.specs.Reading.{call_brings}
use Rattle.history.proofs.Outstanding.{depth_below, tag_named, first_named, count_named, idle_zero}
use Rattle.history.proofs.Decided.{by_taken}
use Rattle.history.proofs.Changes.{unmoved}
use Rattle.history.proofs.Allowed.{Allowed}
use Rattle.history.proofs.Contracts.{allowed_given}
use Rattle.history.proofs.Kept.{call_lies}
use Rattle.history.proofs.Placed.{left_same}
use Rattle.history.proofs.Knows.{covers_not}

-- the reply bytes are those of the frames sent
reply_is : (d : Device) (l : Lent) (g : Gave) → Given d l g → reply_of g ≡ bytes_of (step d l)
reply_is d l g p = ap₂ (λ (n : ℕ) (b : List ℕ). take n b) p.len p.reply ∙ take_at (bytes_of (step d l)) _ (length (bytes_of (step d l))) refl

-- a DMA Setup, and for a write an Activate, as bytes
open_bytes : (f : FrameValue) (w : Bool) → joined_bytes (map encode ((f ∷ []) ++ activate_if w)) ≡ encode f ++ pick w (encode activate) []
unfolding joined_bytes encode
open_bytes f w = grind arith

module _ (d : Device) (good : contradictory_device d ≡ false) where
  module _ (t : ℕ) where
    abbrev e : Entry
    e = entry_of d.entries t

    -- the bytes of a command, by the range that its own bytes name
    extent : bit_in 32 d.status.outstanding t ≡ true → whole_of e.count ≡ 512 * own_count e
    extent o = whole_is d t good o ∙ ap (λ (n : ℕ). 512 * n) (sym (count_named d t good o))

    -- where the next stands
    next : bit_in 32 d.status.outstanding t ≡ true → 512 * e.first + e.moved ≡ own_next e
    next o = ap (λ (n : ℕ). 512 * n + e.moved) (sym (first_named d t good o))

    -- its range lies within the medium
    inside : (m : List ℕ) → bit_in 32 d.status.outstanding t ≡ true → medium_wrong d.settings.capacity (length m) ≡ false → 512 * (own_first e + own_count e) ≤ length m
    inside m o w =
        let range = range_within d t good o in
        let first = first_named d t good o in
        let count = count_named d t good o in
        let all = eqb-true (length m) (512 * d.settings.capacity) (not-false (eqb (length m) (512 * d.settings.capacity)) w) in
        rw (first, count, all) (omega arith)

    -- ---- an open

    open_sends : (m b : List ℕ) {a : Act} → by.Ruled (facts_of d (lent (happens (OpenPhase t)) m b)) (happens (OpenPhase t)) (Ok a) → Opens d t e (bytes_of (step_by d (lent (happens (OpenPhase t)) m b) (Ok a)))
    unfolding replies_of Fit
    open_sends m b (by.own (by.opened u g s o q more)) =
        let k : Queued = record { tag = t; entry = e } in
        let small = busy_below d.status.outstanding t o in
        record {
          tag = tag_named d t good o;
          below = depth_below d t good o;
          unmoved = unmoved d good t o (none_open d.status.phase q) more;
          sent =
              all_sent (open_replies k) (replies_fit (state_shown d) [] (Open k) (omega arith)) ∙ open_bytes (setup_reply k) e.write
              ∙ ap (λ (n : ℕ). encode (setup (record { auto = false; interrupt = false; to_host = not e.write; tag = t; offset = 0; count = n })) ++ pick e.write (encode activate) []) (extent o);
        }

    opens : (m b : List ℕ) (g : Gave) → Given d (lent (happens (OpenPhase t)) m b) g → g.outcome.refusal ≡ None → Opens d t e (reply_of g)
    opens m b g p z =
        subst (Opens d t e) (sym (reply_is d _ g p))
        (by_taken d (lent (happens (OpenPhase t)) m b) (λ (s : Step). Opens d t e (bytes_of s)) (λ a r. open_sends m b r) (sym p.refusal ∙ z))

    -- ---- a finish

    finish_whole : (set : ℕ) (m b : List ℕ) {a : Act} → bit_in 32 set t ≡ true → by.Ruled (facts_of d (lent (happens (FinishTags set)) m b)) (happens (FinishTags set)) (Ok a) → Finishes d t e
    unfolding some_unready
    finish_whole set m b i (by.own (by.finished u g s q n r)) =
        let ready = some_absent (unready_at d.entries d.status.outstanding set) 32 t r (busy_below set t i) in
        let both : not (bit_in 32 d.status.outstanding t) || not (eqb e.moved (whole_of e.count)) ≡ false = rw i at ready in
        let o : bit_in 32 d.status.outstanding t ≡ true = grind arith in
        record { busy = o; whole = (let w : e.moved ≡ whole_of e.count = grind arith in w) ∙ extent o }

    finishes : (set : ℕ) (m b : List ℕ) (g : Gave) → Given d (lent (happens (FinishTags set)) m b) g → g.outcome.refusal ≡ None → bit_in 32 set t ≡ true → Finishes d t e
    finishes set m b g p z i = by_taken d (lent (happens (FinishTags set)) m b) (λ (s : Step). Finishes d t e) (λ a r. finish_whole set m b i r) (sym p.refusal ∙ z)

    -- ---- a media error

    -- refused for its sector, and that by the range that the bytes name
    by_sector : bit_in 32 d.status.outstanding t ≡ true → (sector : ℕ) → pick (outside e sector) (Some OutsideCommand) None ≡ pick (covered e sector) None (Some OutsideCommand)
    by_sector o sector = rw (first_named d t good o, count_named d t good o, covers_not e.first e.count sector) (grind arith)

    fails : (error sector : ℕ) (m b : List ℕ) (g : Gave) → bit_in 32 d.status.outstanding t ≡ true → eqb error 0 ≡ false → 8196 ≤ length b → Given d (lent (happens (MediaError t error sector)) m b) g
        → g.outcome.refusal ≡ pick (covered e sector) None (Some OutsideCommand)
    unfolding tests first_of
    fails error sector m b g o x room p =
        p.refusal ∙ step_refusal d (lent (happens (MediaError t error sector)) m b) ∙ rw (good, le-ltb (length b) 8196 room, o, x) (by_sector o sector)

    -- ---- data

    module _ (h : d.status.phase ≡ Some t) where
      -- the command of an open phase is outstanding
      busy : bit_in 32 d.status.outstanding t ≡ true
      busy = subst (λ (p : Option ℕ). is_none p ≡ false → bit_in 32 d.status.outstanding (unwrap_or p 0) ≡ true) h (phase_busy d.status d.errors.set (status_good d good)) refl

      -- n bytes of what is left of it move, and it is then so much further
      moves : (e' : Entry) (m : List ℕ) (n : ℕ) → 0 < n → n ≤ whole_of e.count - e.moved → medium_wrong d.settings.capacity (length m) ≡ false → e' ≡ advanced_by e n → Advances e e' m n
      unfolding advanced_by
      moves e' m n some most w further =
          let more = phase_more d t good busy (own_open d.status.phase t h) in
          let all = extent busy in
          record { some = some; left = omega (arith, some, most, more, all); within = inside m busy w; further = further }

      -- the table's entry of the open phase, once it is anew
      own_entry : (x : Entry) → entry_of (table_with d.entries (unwrap_or d.status.phase 0) x) t ≡ x
      own_entry x = rw h (entry_of_placed d.entries t x t (busy_below d.status.outstanding t busy) ∙ pick_yes (eqb t t) x (entry_of d.entries t) (eq-eqb t t refl))

      -- what a call is about
      meant : phase_entry d ≡ e
      meant = ap (entry_meant d.entries) h

      send_as : (m : List ℕ) (x : Entry) → e ≡ x → x.write ≡ false → payload_size (length (take (size_of x 8192) (drop (place_of x) m))) ≡ true → medium_wrong d.settings.capacity (length m) ≡ false
          → Sends e (entry_of (table_with d.entries (unwrap_or d.status.phase 0) (advanced_by x (size_of x 8192))) t) m (sent_all (payload (take (size_of x 8192) (drop (place_of x) m)) ∷ []))
      unfolding fits Fitting joined_bytes
      send_as m x q = subst (λ (x : Entry). x.write ≡ false → payload_size (length (take (size_of x 8192) (drop (place_of x) m))) ≡ true → medium_wrong d.settings.capacity (length m) ≡ false
          → Sends e (entry_of (table_with d.entries (unwrap_or d.status.phase 0) (advanced_by x (size_of x 8192))) t) m (sent_all (payload (take (size_of x 8192) (drop (place_of x) m)) ∷ []))) q
          (λ r f w.
          let more = phase_more d t good busy (own_open d.status.phase t h) in
          let size : size_of e 8192 ≡ min 8192 (512 * own_count e - e.moved) = ap (λ (n : ℕ). min 8192 (n - e.moved)) (extent busy) in
          record {
            read = r;
            moves = subst (Advances e _ m) size (moves _ m (size_of e 8192) (omega (arith, more)) (omega arith) w (own_entry _));
            sent =
                all_sent (payload (take (size_of e 8192) (drop (place_of e) m)) ∷ []) (f, tt) ∙ append-nil (encode (payload (take (size_of e 8192) (drop (place_of e) m))))
                ∙ ap₂ (λ (k a : ℕ). encode (payload (take k (drop a m)))) size (next busy);
          })

      send_serves : (m b : List ℕ) {a : Act} → by.Ruled (facts_of d (lent (happens SendData) m b)) (happens SendData) (Ok a)
          → Sends e (entry_of (step_by d (lent (happens SendData) m b) (Ok a)).state.entries t) m (bytes_of (step_by d (lent (happens SendData) m b) (Ok a)))
      unfolding after_of moved_by move_of touch_of replies_of
      send_serves m b (by.own (by.sent g w s p r)) = send_as m (phase_entry d) (sym meant) r (part_sized d m good w p) w

      sends : (m b : List ℕ) (g : Gave) → Given d (lent (happens SendData) m b) g → g.outcome.refusal ≡ None → Sends e (entry_after g t) m (reply_of g)
      sends m b g p z =
          subst (λ (x : Device). Sends e (entry_of x.entries t) m (reply_of g)) (sym p.state)
          (subst (Sends e _ m) (sym (reply_is d _ g p)) (by_taken d (lent (happens SendData) m b) (λ (s : Step). Sends e (entry_of s.state.entries t) m (bytes_of s)) (λ a r. send_serves m b r) (sym p.refusal ∙ z)))

      -- host data
      stores : (f m b : List ℕ) (g : Gave) → get_or f 0 0 ≡ 0x46 → Given d (lent (host_frame f) m b) g → g.outcome.refusal ≡ None → Stores e (entry_after g t) m g.medium (drop 4 f)
      unfolding after_of moved_by move_of
      stores f m b g kind p z =
          let l = lent (host_frame f) m b in
          let k = taken_46 d f m b kind (sym p.refusal ∙ z) in
          let some = k.some in
          let most = subst (λ (x : Entry). length f - 4 ≤ left_of x) meant k.most in
          let long = length-drop 4 f in
          let size : min (length f - 4) (whole_of e.count - e.moved) ≡ length (drop 4 f) = omega (arith, most, long) in
          record {
            write = ap (λ (x : Entry). x.write) (sym meant) ∙ k.write;
            moves =
                moves _ m (length (drop 4 f)) (omega (arith, some, long)) (omega (arith, most, long)) k.medium
                (ap (λ (x : Device). entry_of x.entries t) p.state ∙ ap (λ (x : Result Act Refusal). entry_of (step_by d l x).state.entries t) k.act ∙ own_entry _
                ∙ ap (λ (x : Entry). advanced_by x (size_of x (length f - 4))) meant ∙ ap (advanced_by e) size);
            stored =
                p.medium ∙ (data_kept_whole d f m b k).1
                ∙ ap (λ (a : ℕ). take a m ++ (drop 4 f ++ drop (a + length (drop 4 f)) m)) (ap place_of meant ∙ next busy);
          }

-- a call that brings no data
leaves : (d : Device) (l : Lent) (g : Gave) → Given d l g → call_brings l.call ≡ [] → g.medium ≡ l.medium
leaves d l g p n = p.medium ∙ left_same _ _ _ _ (call_lies d l).left_at (by_test (λ (x : List ℕ). x ≡ []) (is_none (step d l).refusal) (call_brings l.call) [] (λ _. n) (λ _. refl))

-- any state that does not contradict itself, whatever is asked of it
pub serves : (d : Device) → contradictory_device d ≡ false → Serves Given d
serves d good = record {
  opens = opens d good;
  sends = λ t m b g h. sends d good t h m b g;
  stores = λ t f m b g h. stores d good t h f m b g;
  finishes = λ set t. finishes d good t set;
  fails = fails d good;
  idle = λ t. idle_zero d t good;
  leaves = leaves d;
}

-- and of the code: each result that a call's own contract allows
pub serves_code : (d : Device) → contradictory_device d ≡ false → Serves Allowed d
serves_code d good =
    let a = serves d good in
    record {
      opens = λ t m b g p. a.opens t m b g (allowed_given p);
      sends = λ t m b g h p. a.sends t m b g h (allowed_given p);
      stores = λ t f m b g h k p. a.stores t f m b g h k (allowed_given p);
      finishes = λ set t m b g p. a.finishes set t m b g (allowed_given p);
      idle = a.idle;
      fails = λ t error sector m b g o x r p. a.fails t error sector m b g o x r (allowed_given p);
      leaves = λ l g p. a.leaves l g (allowed_given p);
    }

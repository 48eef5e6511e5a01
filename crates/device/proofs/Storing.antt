-- Host data: what is known of a frame that was taken, where it goes, and when 6 is given, by what the rules go by.
use Rattle.std.proofs.Common.{Option, Some, None, Result, Ok, Err, is_none, ◌≡◌, refl, sym, ap, ◌∙◌, true, false, true≢false, List, ◌++◌, ⊎_elim, ℕ, ◌+◌, ◌-◌, ◌≤◌, arith, ltb, lit<, length, get_or, take, drop, length-drop, drop-drop, le-leb, ltb-false}
use Rattle.bits.specs.Pick.{pick}
use Rattle.refusals.specs.First.{first_of, unless}
use Rattle.refusals.specs.declared.reasons.Refusal.{Refusal}
use Rattle.refusals.specs.declared.reasons.Refusal.TheVariants.{NoFrame, TooLong}
use Rattle.bits.proofs.Fronts.{over_yes}
use Rattle.bits.proofs.Picks.{tested}
use Rattle.frames.specs.Size.{readable, payload_size}
use Rattle.frames.specs.Read.{frame_by_kind, read_frame}
use Rattle.frames.specs.declared.shapes.Frame.{Frame}
use Rattle.frames.specs.declared.shapes.Frame.TheVariants.{Data}
use Rattle.device_state.specs.declared.shapes.Entry.{Entry}
use Rattle.rules.specs.Positions.{left_of, place_of, move_of}
use Rattle.rules.specs.Call.{host_frame}
use Rattle.rules.specs.Tests.{wrong_kind, wrong_time, wrong_size, frame_tests, tests}
use Rattle.rules.specs.Decide.{frame_act}
use Rattle.rules.specs.Act.{does, act}
use Rattle.rules.specs.Medium.{touch_of, stored_medium}
use Rattle.rules.specs.declared.acts.Move.{Move}
use Rattle.rules.specs.declared.acts.Act.{Act}
use Rattle.rules.specs.declared.acts.Act.TheVariants.{Store}
use Rattle.device.specs.Device.{contradictory_device}
use Rattle.device.specs.Lent.{Lent, lent}
use Rattle.device.specs.FactsOf.{medium_wrong, facts_of}
use Rattle.device.specs.DataDue.{phase_entry}
use Rattle.device.specs.Step.{step_by, act_of, step}
use Rattle.device.specs.declared.state.Device.{Device}
use Rattle.device.proofs.Rooms.{move_within}
use Rattle.device.proofs.Turns.{step_refusal}
use Rattle.device.proofs.Exactly.{first_exactly}

-- 46h is read as data if its payload has a right size, and else refused
data_read : (f : List ℕ) → get_or f 0 0 ≡ 0x46 → payload_size (length f - 4) ≡ true → read_frame f ≡ Ok (Data (length f - 4))
unfolding read_frame readable frame_by_kind
data_read f k p = rw (k, p)

data_refused : (f : List ℕ) → get_or f 0 0 ≡ 0x46 → payload_size (length f - 4) ≡ false → read_frame f ≡ Err NoFrame
unfolding read_frame readable frame_by_kind
data_refused f k p = rw (k, p)

-- where there is room, the payload stands there whole
stored_whole : (at size : ℕ) (f m : List ℕ) → 4 ≤ length f → length f - 4 ≡ size → at + size ≤ length m
    → stored_medium at f m ≡ take at m ++ (drop 4 f ++ drop (at + size) m)
unfolding stored_medium
stored_whole at size f m h e w =
    let long : length (drop 4 f) ≡ size = length-drop 4 f ∙ e in
    let rest : length (drop at m) ≡ length m - at = length-drop at m in
    rw (le-leb 4 (length f) h, le-leb at (length m) (omega arith))
    (ap (λ (x : List ℕ). take at m ++ x) (over_yes (drop 4 f) (drop at m) (omega arith) ∙ ap (λ (x : List ℕ). drop 4 f ++ x) (ap (λ (k : ℕ). drop k (drop at m)) long ∙ drop-drop size at m)))

module _ (d : Device) (f m b : List ℕ) where
  -- the frame as a call, with what is lent
  abbrev l : Lent
  l = lent (host_frame f) m b

  -- the entry of the open phase
  abbrev e : Entry
  e = phase_entry d

  -- what is known of a host data frame that was taken
  pub record Taken46 : Type 0 where
    pub good : contradictory_device d ≡ false
    pub medium : medium_wrong d.settings.capacity (length m) ≡ false
    pub phase : is_none d.status.phase ≡ false
    pub write : e.write ≡ true
    pub some : 4 ≤ length f - 4
    pub most : length f - 4 ≤ left_of e
    pub act : act_of d l ≡ Ok (Store (move_of d.status e (length f - 4)))

  pub taken_46 : get_or f 0 0 ≡ 0x46 → (step d l).refusal ≡ None → Taken46
  unfolding act_of act tests does wrong_kind wrong_time wrong_size frame_act
  taken_46 kind z =
      let v = facts_of d l in
      let k = length f - 4 in
      let none = (first_exactly d l).none.0 z in
      ⊎_elim
      (λ (p : payload_size k ≡ true).
      let r = data_read f kind p in
      let time : wrong_time v (Ok (Data k)) ≡ false = rw r at (none 4 (lit< tt)) in
      let size : wrong_size v (Ok (Data k)) ≡ false = rw r at (none 5 (lit< tt)) in
      record {
        good = none 0 (lit< tt);
        medium = none 1 (lit< tt);
        phase = grind arith;
        write = grind arith;
        some = grind arith;
        most = ltb-false (left_of v.entry) k size;
        act = ap (λ (o : Option Refusal). unless o (frame_act v (read_frame f))) (sym (step_refusal d l) ∙ z) ∙ ap (λ (x : Result Frame Refusal). Ok (frame_act v x)) r;
      })
      (λ (p : payload_size k ≡ false). absurd (true≢false (sym (ap wrong_kind (data_refused f kind p)) ∙ none 3 (lit< tt))))
      (tested (payload_size k))

  -- its payload stands whole at the command's next place, and every other byte of the medium is as it was
  pub data_kept_whole : Taken46 → (length (drop 4 f) ≤ left_of e) × ((step d l).medium ≡ take (place_of e) m ++ (drop 4 f ++ drop (place_of e + length (drop 4 f)) m))
  unfolding touch_of move_of
  data_kept_whole t =
      let n = length f - 4 in
      let k : Move = move_of d.status e n in
      let most = t.most in
      let some = t.some in
      let due : n ≡ k.size = omega arith in
      let within = move_within d t.good t.phase n (length m) t.medium in
      let long = length-drop 4 f in
      (omega arith, ap (λ (x : Result Act Refusal). (step_by d l x).medium) t.act ∙ stored_whole k.at k.size f m (omega arith) due within ∙ ap (λ (s : ℕ). take k.at m ++ (drop 4 f ++ drop (k.at + s) m)) (sym (long ∙ due)))

  -- the refusal of a host data frame of a right size, in a write phase, where nothing before 6 is wrong
  pub six_by_left : get_or f 0 0 ≡ 0x46 → payload_size (length f - 4) ≡ true → contradictory_device d ≡ false → medium_wrong d.settings.capacity (length m) ≡ false → ltb (length b) 8196 ≡ false
      → is_none d.status.phase ≡ false → e.write ≡ true → (step d l).refusal ≡ pick (ltb (left_of e) (length f - 4)) (Some TooLong) None
  unfolding tests wrong_kind wrong_time wrong_size first_of
  six_by_left kind p c w s o u =
      step_refusal d l ∙ ap (λ (x : Result Frame Refusal). first_of (frame_tests (facts_of d l) x)) (data_read f kind p) ∙ rw (c, w, s, o, u) refl

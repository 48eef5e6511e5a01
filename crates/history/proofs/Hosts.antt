-- What a host frame asks for and its act, where it is not turned down, come to one of the eleven kinds.
use Rattle.std.proofs.Common.{Option, Some, None, is_some, is_none, unwrap_or, ◌≡◌, refl, sym, ap, subst, ◌∙◌, Bool, true, false, not, ◌||◌, List, [], ℕ, ◌-◌, ◌/◌, ◌%◌, ◌^◌, ◌<◌, min, arith, eqb, ltb, lit<, lt-ltb}
use Rattle.std.proofs.lemmas.Bool.{false_from_ne_true}
use native.Mathlib.Nat.{zero-div}
use borrow.Author.Tests.{eqb-false}
use Rattle.bits.specs.Bit.{bit_in}
use Rattle.bits.proofs.Masks.{bit_not}
use Rattle.frames.specs.Shared.{srst_of}
use Rattle.frames.specs.Size.{payload_size}
use Rattle.frames.specs.declared.shared.Task.{Task}
use Rattle.frames.specs.declared.shapes.HostReg.{HostReg}
use Rattle.device_state.specs.Table.{entry_of}
use Rattle.device_state.specs.declared.shapes.Entry.{Entry}
use Rattle.rules.specs.Positions.{left_of, move_of}
use Rattle.rules.specs.Decide.{bad, fault, tag_asked, entry_for, is_queued}
use Rattle.rules.specs.declared.acts.Act.{Act}
use Rattle.rules.specs.declared.acts.Act.TheVariants.{Nothing, Accept, Log10, Log11, Identify, Reset, Release, ZeroCounters, Store}
use Rattle.replies.specs.Replies.{log_replies, page10_of, replies_of}
use Rattle.device.specs.Device.{contradictory_device}
use Rattle.device.specs.DataDue.{phase_entry}
use Rattle.device.specs.After.{after_of, halt_with, unhalted_device, zeroed_if, reset_held, released_device}
use Rattle.device.specs.Step.{state_shown}
use Rattle.device.specs.declared.state.Device.{Device}
use Rattle.history.specs.Logs.{reads_log}
use Rattle.history.specs.FrameAsks.{Asked, register_asks, data_asks}
use Rattle.history.specs.Seen.{Seen}
use Rattle.history.proofs.Class.{none, Is, Class, plain, pages, again, freely, halts, resets, sweeps, takes, carries}
use Rattle.history.proofs.Views.{view, is_silent, is_bad, is_good, is_page, is_swept, is_brought, silent_unbegun, answer_unbegun, page_unbegun, swept_unbegun, active_unbegun}
use Rattle.history.proofs.Changes.{same, halted_empty, took_by, carried_by}
use Rattle.device.proofs.Phases.{none_open, open_entry_lem}

-- what is seen of an act that answers what was asked, with a part of the medium
abbrev pub act_seen : Device → List ℕ → Asked → Act → Seen
act_seen d part k a = view k (replies_of (state_shown d) part a)

-- an act that is done comes to one of the kinds
abbrev pub Comes : Device → List ℕ → Asked → Act → Type 0
Comes d part k a = Class d (act_seen d part k a) (after_of d a)

-- the whole field of the sweep
all_bits : (t : ℕ) → t < 32 → bit_in 32 0xFFFF_FFFF t || false ≡ true
all_bits t l =
    let e : 0xFFFF_FFFF / 2 ^ t % 2 ≡ 1 = bit_not 32 0 t (lit< tt) l ∙ ap (λ (n : ℕ). 1 - n % 2) (zero-div (2 ^ t)) in
    rw (lt-ltb t 32 l, e)

module _ (d : Device) (g : contradictory_device d ≡ false) where
  module _ (h : HostReg) where
    abbrev k : Asked
    k = register_asks h

    -- bad while halted
    pub answered_again : (e : ℕ) → h.command_bit ≡ true → d.status.halted ≡ true → Comes d [] k (bad h e)
    unfolding replies_of after_of
    answered_again e c x = again k.queued (is_bad k _ refl c (rw c) refl) (answer_unbegun k _) x (halted_empty d g x) (same d)

    -- a halt that a command raises
    faulted : (t : Option ℕ) (e : ℕ) → h.command_bit ≡ true → d.status.halted ≡ false → k.queued || not (eqb d.status.outstanding 0) ≡ true → Comes d [] k (fault h t e)
    unfolding replies_of after_of halt_with
    faulted t e c x r =
        halts k.queued true false (is_bad k _ refl c (rw c) refl) (answer_unbegun k _) (λ _. refl) x (rw r) (record { settings = refl; outstanding = refl; phase = refl; halted = refl })

    -- a queued command raises one
    pub queued_faulted : (t e : ℕ) → h.command_bit ≡ true → is_queued h ≡ true → d.status.halted ≡ false → Comes d [] k (fault h (Some t) e)
    queued_faulted t e c q x = faulted (Some t) e c x (let u : k.queued ≡ true = rw (c, q) in rw u)

    -- a good one [queued-good]
    pub accepted : h.command_bit ≡ true → is_queued h ≡ true → d.status.halted ≡ false → d.status.phase ≡ None → bit_in 32 d.status.outstanding (tag_asked h) ≡ false
        → Comes d [] k (Accept (record { tag = tag_asked h; entry = entry_for h }))
    unfolding replies_of after_of view
    accepted c y x p f =
        let q : k.queued ≡ true = rw (c, y) in
        let e : Seen = act_seen d [] k (Accept (record { tag = tag_asked h; entry = entry_for h })) in
        takes (subst (λ (b : Bool). Is e b b false false false false false none none 0 0) q (is_good k _ refl (rw c) refl)) (answer_unbegun k _) (took_by d g h e refl x p f)

    -- not queued
    pub other : h.command_bit ≡ true → is_queued h ≡ false → k.queued ≡ false
    other c q = rw (c, q)

    -- with something outstanding the device is not halted
    calm : eqb d.status.outstanding 0 ≡ false → d.status.halted ≡ false
    calm n = false_from_ne_true d.status.halted (λ e. eqb-false d.status.outstanding 0 n (halted_empty d g e))

    -- and a command that is not queued raises a halt
    pub busy_faulted : h.command_bit ≡ true → is_queued h ≡ false → eqb d.status.outstanding 0 ≡ false → Comes d [] k (fault h None 0x04)
    busy_faulted c q n = faulted None 0x04 c (calm n) (rw (other c q, n))

    -- bad, and nothing is outstanding
    pub answered_free : (e : ℕ) → h.command_bit ≡ true → k.queued ≡ false → d.status.halted ≡ false → d.status.outstanding ≡ 0 → Comes d [] k (bad h e)
    unfolding replies_of after_of
    answered_free e c q x z =
        freely (subst (λ (b : Bool). Is (act_seen d [] k (bad h e)) b false true false false false false none none 0 0) q (is_bad k _ refl c (rw c) refl)) (answer_unbegun k _) x z (same d)

    -- page 10h: by whether the device was halted
    paged_ten : (b : Bool) → d.status.halted ≡ b → (task : Task) (page : List ℕ) → h.command_bit ≡ true → reads_log 0x10 h ≡ true → k.queued ≡ false → is_some d.status.phase ≡ false
        → Class d (view k (log_replies b task page)) (unhalted_device d)
    unfolding unhalted_device
    paged_ten true x task page c n q p =
        sweeps (λ t. bit_in 32 0xFFFF_FFFF t || false) all_bits (is_swept k _ _ _ refl c n q (rw c) refl) (swept_unbegun k _ _ _) x (halted_empty d g x) (none_open d.status.phase p)
        (record { settings = refl; outstanding = halted_empty d g x; phase = none_open d.status.phase p; halted = refl })
    paged_ten false x task page c n q p =
        pages (k.reads 0x10) (is_page k _ _ q (rw c) refl) (page_unbegun k _ _) x (record { settings = refl; outstanding = refl; phase = refl; halted = sym x; entries = refl })

    pub ten_comes : h.command_bit ≡ true → reads_log 0x10 h ≡ true → k.queued ≡ false → is_some d.status.phase ≡ false → Comes d [] k (Log10 h.task)
    unfolding replies_of after_of
    ten_comes = paged_ten d.status.halted refl h.task (page10_of d.errors)

    -- page 11h, while not halted
    pub paged_eleven : h.command_bit ≡ true → k.queued ≡ false → d.status.halted ≡ false → (b : Bool) → Comes d [] k (Log11 (record { zero = b; task = h.task }))
    unfolding replies_of after_of zeroed_if
    paged_eleven c q x b =
        pages (k.reads 0x10) (is_page k _ _ q (rw c) refl) (page_unbegun k _ _) x
        (record { settings = refl; outstanding = refl; phase = refl; halted = refl; entries = refl })

    -- IDENTIFY DEVICE, while not halted
    pub identity_comes : h.command_bit ≡ true → k.queued ≡ false → d.status.halted ≡ false → Comes d [] k (Identify h.task)
    unfolding replies_of after_of
    identity_comes c q x = pages (k.reads 0x10) (is_page k _ _ q (rw c) refl) (page_unbegun k _ _) x (same d)

    -- SRST
    pub reset : h.command_bit ≡ false → srst_of h.control ≡ true → Comes d [] k Reset
    unfolding replies_of after_of reset_held
    reset c s =
        resets (subst (λ (b : Bool). Is (act_seen d [] k Reset) false false false false b false false none none 0 0) (let r : k.resets ≡ true = rw (c, s) in r) (is_silent k (rw c))) (silent_unbegun k)
        (record { settings = refl; outstanding = refl; phase = refl; halted = refl })

    -- release
    pub freed : h.command_bit ≡ false → srst_of h.control ≡ false → Comes d [] k Release
    unfolding replies_of after_of released_device
    freed c s =
        plain (subst (λ (b : Bool). Is (act_seen d [] k Release) b b false false false false false none none 0 0) (let q : k.queued ≡ false = rw c in q) (is_good k _ refl (rw (c, s)) refl)) (answer_unbegun k _)
        (record { settings = refl; outstanding = refl; phase = refl; halted = refl; entries = refl })

    -- nothing
    pub idle : h.command_bit ≡ false → srst_of h.control ≡ false → Comes d [] k Nothing
    unfolding replies_of after_of
    idle c s = plain (subst (λ (b : Bool). Is (act_seen d [] k Nothing) false false false false b false false none none 0 0) (let r : k.resets ≡ false = rw (c, s) in r) (is_silent k (rw c))) (silent_unbegun k) (same d)

  abbrev t : ℕ
  t = unwrap_or d.status.phase 0

  -- host data: some bytes of what is left have come, in a write phase
  kept_comes : (n : ℕ) → is_none d.status.phase ≡ false → (entry_of d.entries t).write ≡ true → 0 < n → n ≡ min n (left_of (entry_of d.entries t))
      → Comes d [] (data_asks n) (Store (move_of d.status (entry_of d.entries t) n))
  unfolding replies_of after_of move_of
  kept_comes n p w pos e =
      let i = is_brought n (not (move_of d.status (entry_of d.entries t) n).last) in
      carries t (min n (left_of (entry_of d.entries t))) (rw (w, ← e) i) (active_unbegun (data_asks n) (not (move_of d.status (entry_of d.entries t) n).last)) (carried_by d g p n pos)

  pub data_comes : (n : ℕ) → payload_size n ≡ true → is_none d.status.phase ≡ false → let e = phase_entry d in e.write ≡ true → ltb (left_of e) n ≡ false
      → Comes d [] (data_asks n) (Store (move_of d.status e n))
  data_comes n size p w y =
      let e = phase_entry d in
      let s : n ≡ min n (left_of e) = grind arith in
      let q : e ≡ entry_of d.entries t = open_entry_lem d.entries d.status.phase p in
      subst (λ (x : Entry). Comes d [] (data_asks n) (Store (move_of d.status x n))) (sym q)
      (kept_comes n p (subst (λ (x : Entry). x.write ≡ true) q w) (grind arith) (subst (λ (x : Entry). n ≡ min n (left_of x)) q s))

  pub bist_comes : (k : Asked) → k.queued ≡ false → k.resets ≡ false → k.brings ≡ 0 → Comes d [] k ZeroCounters
  unfolding replies_of after_of zeroed_if
  bist_comes k q r b =
      plain (subst (λ (n : ℕ). Is (act_seen d [] k ZeroCounters) false false false false false false false none none 0 n) b (subst (λ (x : Bool). Is (act_seen d [] k ZeroCounters) false false false false x false false none none 0 k.brings) r (is_silent k q)))
      (silent_unbegun k) (record { settings = refl; outstanding = refl; phase = refl; halted = refl; entries = refl })

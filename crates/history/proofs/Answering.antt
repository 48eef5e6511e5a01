-- Every taken call is answered what the history before it says: its replies, and the bytes of them in the reply buffer.
use Rattle.std.proofs.Common.{zero-add, is_none, Ok, Some, unwrap_or, ◌≡◌, refl, sym, ap, ap₂, subst, ◌∙◌, Bool, true, false, not, ◌&&◌, ◌||◌, List, [], ◌∷◌, ◌++◌, map, append-nil, ℕ, suc, ◌+◌, ◌-◌, ◌*◌, ◌<◌, min, arith, eqb, ltb, leb, length, get_or, take, drop}
use mathlib.Core.Bool.{false≢true}
use Rattle.bits.specs.Pick.{pick}
use Rattle.bits.specs.Bit.{bit_in}
use Rattle.bits.specs.Laid.{overlay}
use Rattle.bits.proofs.Picks.{not_leb, pick_yes}
use Rattle.frames.specs.Cut.{joined_bytes}
use Rattle.frames.specs.Shared.{task_fits}
use Rattle.pages.specs.Page10.{page10, fits10}
use Rattle.counters.specs.Rows.{keeps_both}
use Rattle.pages.specs.Layout11.{page11}
use Rattle.frames.specs.Read.{read_frame}
use Rattle.frames.specs.Write.{FrameValue, setup, payload, encode}
use Rattle.frames.specs.declared.shapes.HostReg.{HostReg}
use Rattle.frames.specs.declared.shapes.Frame.TheVariants as fs
use Rattle.device_state.specs.Table.{entry_of}
use Rattle.device_state.specs.declared.shapes.Entry.{Entry}
use Rattle.device_state.specs.declared.shapes.Settings.{Settings}
use Rattle.device_state.proofs.EchoLaws.{echo_task}
use Rattle.rules.specs.Call.{Call, host_frame}
use Rattle.rules.specs.Decide.{tag_asked, other_act, register_act, frame_act}
use Rattle.refusals.specs.First.{first_of}
use Rattle.refusals.proofs.FirstLaws.{unless_ok}
use Rattle.rules.specs.Tests.{tests}
use Rattle.rules.specs.Act.{does, act}
use Rattle.rules.specs.Positions.{left_of, move_of}
use Rattle.rules.specs.Medium.{touch_of, part_of}
use Rattle.rules.specs.declared.facts.Facts.{Facts}
use Rattle.rules.specs.declared.acts.Act.{Act}
use Rattle.rules.specs.declared.acts.Act.TheVariants.{Store, Open}
use Rattle.rules.proofs.Ruled as by
use Rattle.replies.specs.Replies.{replies_of, activate_if, log_of, page10_of, page11_of, sent_all}
use Rattle.device.specs.Device.{contradictory_device}
use Rattle.device.specs.Lent.{Lent, lent, Typed}
use Rattle.device.specs.DataDue.{phase_entry}
use Rattle.device.specs.FactsOf.{facts_of}
use Rattle.device.specs.Step.{Step, state_shown, act_of, step}
use Rattle.device.specs.declared.state.Device.{Device}
use Rattle.device.proofs.Sized.{SizedRecord}
use Rattle.device.proofs.Busy.{whole_is}
use Rattle.rules.proofs.Ruled.{heard_unsent}
use Rattle.device.proofs.Fitting.{ReadFits, read_fits, record_fits}
use Rattle.device.proofs.Keeping.{both_kept}
use Rattle.device.proofs.Rooms.{move_within}
use Rattle.device.proofs.Turns.{by_turn, act_ruled}
use Rattle.device.proofs.Zeros.{zeros}
use Rattle.device.proofs.Sending.{whole}
use Rattle.history.specs.Event.{Event, taken}
use Rattle.history.specs.Replied.{FrameRead, some, sent}
use Rattle.history.specs.Seen.{seen}
use Rattle.history.specs.Fates.{Command, commands, own_tag, outstanding, total, All}
use Rattle.history.specs.ByHistory.{is_out, under_way_after, left_in_transfer}
use Rattle.history.specs.Placed.{due_place}
use Rattle.history.specs.Counted.{row_count, counts}
use Rattle.history.specs.Carried.{span}
use Rattle.history.specs.Logged.{log_by}
use Rattle.history.specs.Answered.{host_replies, opened_replies, sent_reply, replies_by, answer, AnsweredBy}
use Rattle.history.proofs.Counts.{event_of}
use Rattle.history.proofs.Views.{sent_in}
use Rattle.history.proofs.Frames.{read_sent, read_step}
use Rattle.history.proofs.Events.{part_long}
use Rattle.history.proofs.CoreSteps.{ones_some}
use Rattle.history.proofs.Core.{Inv, inv_total}
use Rattle.history.proofs.Table.{Following, Tracked}
use Rattle.history.proofs.Transfers.{transfer_open}
use Rattle.history.proofs.Tally.{ValuesTell, Counting}
use Rattle.history.proofs.Soundness.{by_power, Sound}
use Rattle.history.proofs.Knows.{Known}
use Rattle.history.proofs.Otherwise.{same_other, by_other, names_ten, names_eleven, names_identity}
use Rattle.history.proofs.Identified.{identity_is}
use Rattle.device.proofs.Phases.{some_open, open_entry_lem}

-- a state and the history before it, as every run has them
pub record Stands (d : Device) (h : List Event) : Type 0 where
  pub sized : SizedRecord d
  pub known : Known d h
  pub inv : Inv d.status.outstanding d.status.halted (map seen h)
  pub tracked : Tracked d (map seen h)
  pub logged : log_by h ≡ log_of d.errors
  pub counting : Counting d h

-- the replies of an act
abbrev Replies : Device → List ℕ → Act → List FrameValue
Replies d part a = replies_of (state_shown d) part a

-- what a call is answered after h, with the settings of d and the medium lent to it
abbrev By : Device → List Event → List ℕ → Call → List FrameValue
By d h m c = replies_by d.settings.depth d.settings.capacity d.settings.mask h m c

-- and a host frame
abbrev ByHost : Device → List Event → FrameRead → List FrameValue
ByHost d h f = host_replies d.settings.depth d.settings.capacity d.settings.mask h f

-- data sent are of the medium where the next byte of what is under way stands
abbrev pub Lies : List Event → List ℕ → List ℕ → Type 0
Lies h m l = l ≡ take (length l) (drop (due_place h) m)

-- a list by its places
by_places : (f : ℕ → ℕ) (l : List ℕ) (a : ℕ) → ((r s : ℕ) → r < length l → s ≡ a + r → get_or l r 0 ≡ f s) → l ≡ map f (span a (length l))
unfolding span
by_places f [] a h = refl
by_places f (x ∷ xs) a h = ap₂ (λ (y : ℕ) (ys : List ℕ). y ∷ ys) (h 0 a (omega arith) (omega arith)) (by_places f xs (suc a) (λ r s u e. h (suc r) s (omega (arith, u)) (omega (arith, e))))

-- sixteen counters that tell a history are what it counted
counts_told : (values : List ℕ) (h : List Event) → ValuesTell values h → values ≡ counts h
counts_told values h i =
    by_places (λ r. row_count r h) values 0 (λ r s u e. rw (e, zero-add r) (i.value r (subst (λ (n : ℕ). r < n) i.long u))) ∙ ap (λ (n : ℕ). map (λ r. row_count r h) (span 0 n)) i.long

module _ (d : Device) (h : List Event) (k : Stands d h) where
  -- something is outstanding
  busy_is : ltb 0 (total (map seen h)) ≡ not (eqb d.status.outstanding 0)
  busy_is = ap (ltb 0) (inv_total k.inv) ∙ ones_some d.status.outstanding

  -- what is left of the open phase, in its direction
  pub left_is : contradictory_device d ≡ false → is_none d.status.phase ≡ false → (b : Bool) → (phase_entry d).write ≡ not b
      → left_in_transfer b (under_way_after h) ≡ left_of (phase_entry d)
  left_is g p b w =
      let t : ℕ = unwrap_or d.status.phase 0 in
      let o : d.status.phase ≡ Some t = some_open d.status.phase p in
      let e : Entry = entry_of d.entries t in
      let q : phase_entry d ≡ e = open_entry_lem d.entries d.status.phase p in
      let way : left_in_transfer b (under_way_after h) ≡ pick (pick b (not e.write) (not (not e.write))) (512 * e.count - e.moved) 0 = ap (left_in_transfer b) (k.tracked.under ∙ transfer_open d t o) in
      let r : e.write ≡ not b = subst (λ (x : Entry). x.write ≡ not b) q w in
      let all : 512 * e.count - e.moved ≡ left_of e = ap (λ (m : ℕ). m - e.moved) (sym (whole_is d t g (k.tracked.phased.busy t o))) in
      way ∙ rw (all, r) (grind arith) ∙ ap left_of (sym q)

  -- ---- host frames

  -- the pages
  errors_page : contradictory_device d ≡ false → page10_of d.errors ≡ page10 (log_by h)
  errors_page g = pick_yes (fits10 (log_of d.errors)) (page10 (log_of d.errors)) [] (record_fits d k.sized g) ∙ ap page10 (sym k.logged)

  counters_page_lem : contradictory_device d ≡ false → page11_of d.settings.mask d.values ≡ page11 d.settings.mask (counts h)
  counters_page_lem g = pick_yes (keeps_both d.settings.mask) (page11 d.settings.mask d.values) [] (both_kept d g) ∙ ap (page11 d.settings.mask) (counts_told d.values h k.counting)

  -- a tag that is outstanding, by the history and by the state
  used_is : (f : HostReg) → leb d.settings.depth (tag_asked f) || is_out (tag_asked f) h ≡ leb d.settings.depth (tag_asked f) || bit_in 32 d.status.outstanding (tag_asked f)
  used_is f = ap (λ (b : Bool). leb d.settings.depth (tag_asked f) || b) (k.known.out (tag_asked f))

  -- a command that is not queued
  others : (v : Facts) (f : HostReg) → v.status.halted ≡ d.status.halted → v.status.outstanding ≡ d.status.outstanding → contradictory_device d ≡ false → task_fits f.task ≡ true → by.TimelyCommand v f false
      → Replies d [] (frame_act v (Ok (fs.Host f))) ≡ ByHost d h (Ok (fs.Host f))
  unfolding frame_act register_act other_act
  others v f x o g t c =
      rw (c.command, c.kind)
      (by_other v (state_shown d) [] f (sym x) t
      ∙ same_other v.status.halted _ f.task (x ∙ sym k.known.halted) (names_ten f t) (names_eleven f t) (names_identity f) (ap (λ (n : ℕ). not (eqb n 0)) o ∙ sym busy_is) (errors_page g) (counters_page_lem g) (identity_is d g))

  -- host data
  due_answers : (n : ℕ) → contradictory_device d ≡ false → is_none d.status.phase ≡ false → (phase_entry d).write ≡ true
      → Replies d [] (Store (move_of d.status (phase_entry d) n)) ≡ ByHost d h (Ok (fs.Data n))
  unfolding replies_of move_of
  due_answers n g p w =
      let l : ℕ = left_of (phase_entry d) in
      ap activate_if (not_leb l n ∙ ap (ltb n) (sym (left_is g p false w)))

  -- by the rule that holds
  heard_answers : (x m b : List ℕ) {f : FrameRead} {a : Act} → contradictory_device d ≡ false → ReadFits f → by.Heard (facts_of d (lent (host_frame x) m b)) f a → a ≡ frame_act (facts_of d (lent (host_frame x) m b)) f
      → Replies d [] a ≡ ByHost d h f
  unfolding replies_of ReadFits
  heard_answers x m b g t (by.srst f c s) e = rw (c, s) refl
  heard_answers x m b g t (by.release f c s y) e = rw (c, s, k.known.held, y) refl
  heard_answers x m b g t (by.nothing f c s y) e = rw (c, s, k.known.held, y) refl
  heard_answers x m b g t (by.rule1 f c y) e = rw (c.command, c.kind, k.known.halted, y) refl
  heard_answers x m b g t (by.rule2 f c y u) e = rw (c.command, c.kind, k.known.halted, y, used_is f, u, echo_task f.task t) refl
  heard_answers x m b g t (by.rule3 f c y u z) e = rw (c.command, c.kind, k.known.halted, y, used_is f, u, z, echo_task f.task t) refl
  heard_answers x m b g t (by.rule4 f c y u z) e = rw (c.command, c.kind, k.known.halted, y, used_is f, u, z, echo_task f.task t) refl
  heard_answers x m b g t (by.other f c y) e = ap (Replies d []) e ∙ others _ f refl refl g t c
  heard_answers x m b g t (by.due n p w y) e = due_answers n g p w
  heard_answers x m b g t (by.bist y) e = refl

  -- ---- device events

  -- what opens a phase for tag t
  abbrev opening : ℕ → List FrameValue
  opening t =
      let e : Entry = entry_of d.entries t in
      setup (record { auto = false; interrupt = false; to_host = not e.write; tag = t; offset = 0; count = 512 * e.count }) ∷ activate_if e.write

  -- and is found
  found : (t : ℕ) (cs : List Command) → some (λ c. eqb (own_tag c) t && (outstanding c && true)) cs ≡ true → All (Following d) cs → opened_replies t cs ≡ opening t
  unfolding some opened_replies All
  found t [] e a = absurd (false≢true e)
  found t (c ∷ cs) e a =
      let stands = a.0.stands in
      let rest : some (λ c. eqb (own_tag c) t && (outstanding c && true)) cs ≡ true → opened_replies t cs ≡ opening t = λ y. found t cs y a.1 in
      grind arith

  -- open
  open_answers : (t : ℕ) → contradictory_device d ≡ false → bit_in 32 d.status.outstanding t ≡ true → Replies d [] (Open (record { tag = t; entry = entry_of d.entries t })) ≡ opened_replies t (commands (map seen h))
  unfolding replies_of
  open_answers t g o =
      let e : Entry = entry_of d.entries t in
      ap (λ (n : ℕ). setup (record { auto = false; interrupt = false; to_host = not e.write; tag = t; offset = 0; count = n }) ∷ activate_if e.write) (whole_is d t g o)
      ∙ sym (found t (commands (map seen h)) (k.known.out t ∙ o) k.tracked.commands)

  -- send
  send_answers : (m l : List ℕ) → Lies h m (l ++ []) → length l ≡ min 8192 (left_in_transfer true (under_way_after h)) → payload l ≡ sent_reply h m
  send_answers m l p n = ap payload (subst (Lies h m) (append-nil l) p ∙ ap (λ (k : ℕ). take k (drop (due_place h) m)) n)

  -- by the event
  own_answers : (m b : List ℕ) {c : Call} {a : Act} → by.Own (facts_of d (lent c m b)) c a → Lies h m (sent_in (Replies d (part_of a m) a)) → Replies d (part_of a m) a ≡ By d h m c
  unfolding replies_of replies_by touch_of move_of some
  own_answers m b (by.opened t g s o p e) l = open_answers t g o
  own_answers m b (by.sent g w s p r) l =
      let y = move_of d.status (phase_entry d) 8192 in
      ap (λ (f : FrameValue). f ∷ []) (send_answers m (take y.size (drop y.at m)) l (part_long m y.at y.size (move_within d g p 8192 (length m) w) ∙ ap (min 8192) (sym (left_is g p true r))))
  own_answers m b _ l = refl

  -- a call that is taken
  ruled_answers : (m b : List ℕ) {c : Call} {a : Act} → Typed c → by.Ruled (facts_of d (lent c m b)) c (Ok a) → a ≡ does (facts_of d (lent c m b)) c → Lies h m (sent_in (Replies d (part_of a m) a))
      → Replies d (part_of a m) a ≡ By d h m c
  unfolding does replies_by
  ruled_answers m b {c} {a} t (by.host f _ g w s y) i l =
      subst (λ (p : List ℕ). Replies d p a ≡ ByHost d h (read_frame f)) (heard_unsent (facts_of d (lent (host_frame f) m b)) m y) (heard_answers f m b g (read_fits f t.0) y i)
  ruled_answers m b t (by.own o) i l = own_answers m b o l

  -- what it does
  act_done : (l : Lent) (a : Act) → Ok a ≡ act_of d l → a ≡ does (facts_of d l) l.call
  unfolding act_of act
  act_done l a o = (unless_ok (first_of (tests (facts_of d l) l.call)) (does (facts_of d l) l.call) a o).1

  -- every call: a taken one is answered as the history says, a refused one not at all
  frames_here : (l : Lent) → Typed l.call → Lies h l.medium (sent_in (step d l).frames) → (step d l).frames ≡ pick (taken (event_of d l)) (By d h l.medium l.call) []
  frames_here l t =
      by_turn d l (λ (s : Step). Lies h l.medium (sent_in s.frames) → s.frames ≡ pick (is_none s.refusal) (By d h l.medium l.call) []) (λ r _ q. refl)
      (λ a o q. ruled_answers l.medium l.buffer t (act_ruled d l a o) (act_done l a o) q)

  -- and its bytes stand in front of the reply buffer, the rest as it was
  pub answers_here : (l : Lent) → Typed l.call → Lies h l.medium (sent (event_of d l)) → AnsweredBy (answer d.settings.depth d.settings.capacity d.settings.mask h (event_of d l)) (event_of d l)
  answers_here l t p =
      let e : Event = event_of d l in
      let bytes : sent_all (step d l).frames ≡ answer d.settings.depth d.settings.capacity d.settings.mask h e =
      (whole d l t k.sized).all ∙ ap (λ (fs : List FrameValue). joined_bytes (map encode fs)) (frames_here l t (subst (Lies h l.medium) (read_sent e _ (read_step d l t k.sized)) p)) in
      record { len = ap length bytes; filled = ap (λ (x : List ℕ). overlay x l.buffer) bytes }

-- with the settings of power-on: after a refused one every call is refused
pub answers_step : (s : Settings) (d : Device) (h : List Event) (a : Lent) → Typed a.call → Sound s d → Stands d h → Lies h a.medium (sent (event_of d a)) → AnsweredBy (answer s.depth s.capacity s.mask h (event_of d a)) (event_of d a)
answers_step s d h a t i k p =
    let e : Event = event_of d a in
    let here = answers_here d h k a t p in
    by_power s (λ z. subst (λ (q : Settings). AnsweredBy (answer q.depth q.capacity q.mask h e) e) (i.settings z) here)
    (λ n.
    let never : taken e ≡ false = ap (λ (q : Device). is_none (step q a).refusal) (i.zeros n) ∙ ap is_none (zeros a) in
    rw never (rw never at here))

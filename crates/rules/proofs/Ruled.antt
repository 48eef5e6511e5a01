-- How a call is decided: the rule that holds, with what it found. A proof about calls goes by these cases.
use Rattle.std.proofs.Common.{Some, None, is_none, Result, Ok, Err, ◌≡◌, Bool, true, false, not, ◌&&◌, ◌||◌, true≢false, List, [], ℕ, ◌+◌, eqb, ltb, leb, lit<, arith}
use borrow.Author.Tests.{not-false, not-true}
use Rattle.bits.specs.Pick.{pick}
use Rattle.bits.specs.Bit.{bit_in}
use Rattle.refusals.specs.First.{first_of}
use Rattle.refusals.specs.declared.reasons.Refusal.{Refusal}
use Rattle.bits.proofs.Picks.{by_test, or_left, or_right, and_left}
use Rattle.refusals.proofs.FirstLaws as firsts
use Rattle.frames.specs.Shared.{srst_of}
use Rattle.frames.specs.Read.{read_frame}
use Rattle.frames.specs.declared.shapes.HostReg.{HostReg}
use Rattle.frames.specs.declared.shapes.Frame.{Frame}
use Rattle.frames.specs.declared.shapes.Frame.TheVariants.{Host, Data, Bist}
use Rattle.counters.specs.Counts.{single}
use Rattle.device_state.specs.Range.{too_far}
use Rattle.rules.specs.QueuedRule.{tag_refused}
use Rattle.rules.specs.OtherRule.{asks_errors, asks_counters, asks_identity}
use Rattle.rules.specs.declared.command_rules.PageAsked.{PageAsked}
use Rattle.rules.specs.declared.command_rules.Bad as verdict
use Rattle.rules.proofs.Rules.{by_page}
use Rattle.device_state.specs.UnderWay.{link_busy}
use Rattle.device_state.specs.Contradictory.{row_refused, tally_refused}
use Rattle.rules.specs.Call.{Call, host_frame, happens}
use Rattle.rules.specs.declared.event.DeviceEvent.TheVariants.{OpenPhase, SendData, FinishTags, MediaError, LinkEvent, LinkTally, Comreset}
use Rattle.rules.specs.Handed.{handed}
use Rattle.rules.specs.Positions.{left_of, move_of}
use Rattle.rules.specs.Tests.{wrong_kind, wrong_time, wrong_size, all_moved, outside, tests}
use Rattle.rules.specs.Decide.{bad, fault, tag_asked, count_asked, entry_for, page_asked, is_queued, queued_does, queued_act, other_does, other_act, control_act, register_act, frame_act}
use Rattle.rules.specs.Act.{failing, does, act}
use Rattle.rules.specs.Medium.{leaves, touch_of, part_of}
use Rattle.rules.specs.declared.facts.Facts.{Facts}
use Rattle.rules.specs.declared.acts.Act.{Act}
use Rattle.rules.specs.declared.acts.Act.TheVariants.{Nothing, Accept, Log10, Log11, Identify, Reset, Release, ZeroCounters, Store, Open, Send, Finish, Media, Count, Renew}

-- a command that comes at its time, queued or not
pub record TimelyCommand (v : Facts) (h : HostReg) (queued : Bool) : Type 0 where
  pub command : h.command_bit ≡ true
  pub free : v.status.held ≡ false
  pub calm : link_busy v.status ≡ false
  pub kind : is_queued h ≡ queued

-- a command that is not queued, by its rule
pub data Other (v : Facts) (h : HostReg) : Act → Type 0 where
  halted : v.status.halted ≡ true → Other v h (bad h 0x04)
  busy : eqb v.status.outstanding 0 ≡ false → Other v h (fault h None 0x04)
  page10 : eqb v.status.outstanding 0 ≡ true → asks_errors (page_asked h) ≡ true → Other v h (Log10 h.task)
  page11 : v.status.halted ≡ false → eqb v.status.outstanding 0 ≡ true → asks_counters (page_asked h) ≡ true → Other v h (Log11 (record { zero = bit_in 8 h.features 0; task = h.task }))
  identity : v.status.halted ≡ false → eqb v.status.outstanding 0 ≡ true → asks_identity (page_asked h) ≡ true → Other v h (Identify h.task)
  neither : v.status.halted ≡ false → eqb v.status.outstanding 0 ≡ true → Other v h (bad h 0x04)

-- a host frame that is not turned down, as it was read
pub data Heard (v : Facts) : Result Frame Refusal → Act → Type 0 where
  -- control frames
  srst : (h : HostReg) → h.command_bit ≡ false → srst_of h.control ≡ true → Heard v (Ok (Host h)) Reset
  release : (h : HostReg) → h.command_bit ≡ false → srst_of h.control ≡ false → v.status.held ≡ true → Heard v (Ok (Host h)) Release
  nothing : (h : HostReg) → h.command_bit ≡ false → srst_of h.control ≡ false → v.status.held ≡ false → Heard v (Ok (Host h)) Nothing
  -- queued commands: halt, tag, range, good
  rule1 : (h : HostReg) → TimelyCommand v h true → v.status.halted ≡ true → Heard v (Ok (Host h)) (bad h 0x04)
  rule2 : (h : HostReg) → TimelyCommand v h true → v.status.halted ≡ false → leb v.settings.depth (tag_asked h) || bit_in 32 v.status.outstanding (tag_asked h) ≡ true
      → Heard v (Ok (Host h)) (fault h (Some (tag_asked h)) 0x04)
  rule3 : (h : HostReg) → TimelyCommand v h true → v.status.halted ≡ false → leb v.settings.depth (tag_asked h) || bit_in 32 v.status.outstanding (tag_asked h) ≡ false
      → ltb v.settings.capacity (h.task.lba + count_asked h) ≡ true → Heard v (Ok (Host h)) (fault h (Some (tag_asked h)) 0x10)
  rule4 : (h : HostReg) → TimelyCommand v h true → v.status.halted ≡ false → leb v.settings.depth (tag_asked h) || bit_in 32 v.status.outstanding (tag_asked h) ≡ false
      → ltb v.settings.capacity (h.task.lba + count_asked h) ≡ false → Heard v (Ok (Host h)) (Accept (record { tag = tag_asked h; entry = entry_for h }))
  -- any other command
  other : (h : HostReg) → {a : Act} → TimelyCommand v h false → Other v h a → Heard v (Ok (Host h)) a
  -- host data, BIST
  due : (n : ℕ) → is_none v.status.phase ≡ false → v.entry.write ≡ true → ltb (left_of v.entry) n ≡ false → Heard v (Ok (Data n)) (Store (move_of v.status v.entry n))
  bist : link_busy v.status ≡ false → Heard v (Ok Bist) ZeroCounters

-- a device event that is taken
pub data Own (v : Facts) : Call → Act → Type 0 where
  opened : (t : ℕ) → v.contradicts ≡ false → v.reply_short ≡ false → bit_in 32 v.status.outstanding t ≡ true → link_busy v.status ≡ false → all_moved v.entry ≡ false
      → Own v (happens (OpenPhase t)) (Open (record { tag = t; entry = v.entry }))
  sent : v.contradicts ≡ false → v.medium_wrong ≡ false → v.reply_short ≡ false → is_none v.status.phase ≡ false → v.entry.write ≡ false → Own v (happens SendData) (Send (move_of v.status v.entry 8192))
  finished : (s : ℕ) → v.contradicts ≡ false → v.reply_short ≡ false → link_busy v.status ≡ false → eqb s 0 ≡ false → v.some_unready ≡ false → Own v (happens (FinishTags s)) (Finish s)
  failed : (t e s : ℕ) → v.contradicts ≡ false → v.reply_short ≡ false → bit_in 32 v.status.outstanding t ≡ true → eqb e 0 ≡ false → outside v.entry s ≡ false
      → Own v (happens (MediaError t e s)) (Media (record { tag = Some t; error = e; echo = failing v.entry.echo s }))
  linked : (r : ℕ) → v.contradicts ≡ false → row_refused v.settings.mask r ≡ false → Own v (happens (LinkEvent r)) (Count (single r))
  tallied : (ns : List ℕ) → v.contradicts ≡ false → tally_refused v.settings.mask ns ≡ false → Own v (happens (LinkTally ns)) (Count ns)
  renewed : v.contradicts ≡ false → v.reply_short ≡ false → Own v (happens Comreset) Renew

-- a call with what it comes to: refused, or taken; refusal 1 never holds of a taken one
pub data Ruled (v : Facts) : Call → Result Act Refusal → Type 0 where
  refused : (c : Call) (r : Refusal) → first_of (tests v c) ≡ Some r → Ruled v c (Err r)
  host : (f : List ℕ) (a : Act) → v.contradicts ≡ false → v.medium_wrong ≡ false → v.reply_short ≡ false → Heard v (read_frame f) a → Ruled v (host_frame f) (Ok a)
  own : {c : Call} {a : Act} → Own v c a → Ruled v c (Ok a)

-- what a host frame that is not turned down makes the device do sends nothing of the medium
pub heard_unsent : (v : Facts) (m : List ℕ) {f : Result Frame Refusal} {a : Act} → Heard v f a → [] ≡ part_of a m
unfolding touch_of
heard_unsent v m y = grind arith

-- what all device events share: the state does not contradict itself; where a reply buffer is lent it is not short; and where no medium is lent the act leaves it
pub record OwnLaws (v : Facts) (c : Call) (a : Act) : Type 0 where
  pub sound : v.contradicts ≡ false
  pub room : (handed c).buffer ≡ true → v.reply_short ≡ false
  pub leaving : (handed c).medium ≡ false → touch_of a ≡ leaves

pub own_laws : (v : Facts) {c : Call} {a : Act} → Own v c a → OwnLaws v c a
unfolding touch_of
own_laws v y = grind arith

-- a taken call is not refused for its reply buffer, where it is lent one
pub ruled_room : (v : Facts) {c : Call} {a : Act} → (handed c).buffer ≡ true → Ruled v c (Ok a) → v.reply_short ≡ false
ruled_room v p y = grind arith

-- a taken call that is lent no medium leaves it
pub ruled_leaves : (v : Facts) {c : Call} {a : Act} → (handed c).medium ≡ false → Ruled v c (Ok a) → touch_of a ≡ leaves
ruled_leaves v u y = grind (arith, own_laws)

-- of one that does not hold beside one that does
and_other : (a b : Bool) → a && not b ≡ false → b ≡ false → a ≡ false
and_other a b e f = grind arith

module _ (v : Facts) where
  control_heard : (h : HostReg) → h.command_bit ≡ false → Heard v (Ok (Host h)) (control_act v h)
  unfolding control_act
  control_heard h c =
      by_test (Heard v (Ok (Host h))) (srst_of h.control) Reset (pick v.status.held Release Nothing) (srst h c)
      (λ s. by_test (Heard v (Ok (Host h))) v.status.held Release Nothing (release h c s) (nothing h c s))

  queued_heard : (h : HostReg) → TimelyCommand v h true → Heard v (Ok (Host h)) (queued_act v h)
  unfolding queued_act
  queued_heard h c =
      let R : Result Unit verdict.Bad → Type 0 = λ r. Heard v (Ok (Host h)) (queued_does h r) in
      let far : Bool = too_far v.settings.capacity h.task.lba (count_asked h) in
      let used : Bool = tag_refused v.settings.depth (tag_asked h) (bit_in 32 v.status.outstanding (tag_asked h)) in
      by_test R v.status.halted _ _ (rule1 h c) (λ x. by_test R used _ _ (rule2 h c x) (λ u. by_test R far _ _ (rule3 h c x u) (rule4 h c x u)))

  other_ruled : (h : HostReg) → Other v h (other_act v h)
  unfolding other_act
  other_ruled h =
      let R : Result PageAsked verdict.Bad → Type 0 = λ r. Other v h (other_does h r) in
      let asked : Bool = asks_errors (page_asked h) in
      by_test R (v.status.halted && not asked) _ _ (λ x. halted (and_left v.status.halted (not asked) x))
      (λ x. by_test R (not (eqb v.status.outstanding 0)) _ _ (λ y. busy (not-true (eqb v.status.outstanding 0) y))
      (λ z. let e = not-false (eqb v.status.outstanding 0) z in
      let awake : asked ≡ false → v.status.halted ≡ false = and_other v.status.halted asked x in
      by_page R (page_asked h) (page10 e) (λ n. page11 (awake n) e) (λ n. identity (awake n) e) (λ n. neither (awake n) e)))

  register_heard : (h : HostReg) → h.command_bit && (v.status.held || link_busy v.status) ≡ false → Heard v (Ok (Host h)) (register_act v h)
  unfolding register_act
  register_heard h t =
      let R : Act → Type 0 = Heard v (Ok (Host h)) in
      by_test R (not h.command_bit) (control_act v h) (pick (is_queued h) (queued_act v h) (other_act v h)) (λ c. control_heard h (not-true h.command_bit c))
      (λ n.
      let c = not-false h.command_bit n in
      let w : v.status.held || link_busy v.status ≡ false = rw c at t in
      let made : (q : Bool) → is_queued h ≡ q → TimelyCommand v h q = λ q e. record { command = c; free = or_left v.status.held (link_busy v.status) w; calm = or_right v.status.held (link_busy v.status) w; kind = e } in
      by_test R (is_queued h) (queued_act v h) (other_act v h) (λ q. queued_heard h (made true q)) (λ q. other h (made false q) (other_ruled h)))

  -- a host frame that no test of 4, 5 and 6 turns down
  heard : (f : Result Frame Refusal) → wrong_kind f ≡ false → wrong_time v f ≡ false → wrong_size v f ≡ false → Heard v f (frame_act v f)
  unfolding frame_act wrong_kind wrong_time wrong_size
  heard (Ok (Host h)) k t s = register_heard h t
  heard (Ok (Data n)) k t s = due n (or_left (is_none v.status.phase) (not v.entry.write) t) (not-false v.entry.write (or_right (is_none v.status.phase) (not v.entry.write) t)) s
  heard (Ok Bist) k t s = bist t
  heard _ k t s = absurd (true≢false k)

  -- a call that none of its tests turns down
  taken : (c : Call) → first_of (tests v c) ≡ None → Ruled v c (Ok (does v c))
  unfolding tests does
  taken (host_frame f) z =
      let none = (firsts.first_exactly (tests v (host_frame f)) tt).none.0 z in
      host f _ (none 0 (lit< tt)) (none 1 (lit< tt)) (none 2 (lit< tt)) (heard (read_frame f) (none 3 (lit< tt)) (none 4 (lit< tt)) (none 5 (lit< tt)))
  taken (happens (OpenPhase t)) z =
      let none = (firsts.first_exactly (tests v (happens (OpenPhase t))) tt).none.0 z in
      own (opened t (none 0 (lit< tt)) (none 1 (lit< tt)) (not-false (bit_in 32 v.status.outstanding t) (none 2 (lit< tt))) (none 3 (lit< tt)) (none 4 (lit< tt)))
  taken (happens SendData) z =
      let none = (firsts.first_exactly (tests v (happens SendData)) tt).none.0 z in
      let last = none 3 (lit< tt) in
      own (sent (none 0 (lit< tt)) (none 1 (lit< tt)) (none 2 (lit< tt)) (or_left (is_none v.status.phase) v.entry.write last) (or_right (is_none v.status.phase) v.entry.write last))
  taken (happens (FinishTags s)) z =
      let none = (firsts.first_exactly (tests v (happens (FinishTags s))) tt).none.0 z in
      let last = none 3 (lit< tt) in
      own (finished s (none 0 (lit< tt)) (none 1 (lit< tt)) (none 2 (lit< tt)) (or_left (eqb s 0) v.some_unready last) (or_right (eqb s 0) v.some_unready last))
  taken (happens (MediaError t e s)) z =
      let none = (firsts.first_exactly (tests v (happens (MediaError t e s))) tt).none.0 z in
      let last = none 3 (lit< tt) in
      own (failed t e s (none 0 (lit< tt)) (none 1 (lit< tt)) (not-false (bit_in 32 v.status.outstanding t) (none 2 (lit< tt))) (or_left (eqb e 0) (outside v.entry s) last) (or_right (eqb e 0) (outside v.entry s) last))
  taken (happens (LinkEvent r)) z =
      let none = (firsts.first_exactly (tests v (happens (LinkEvent r))) tt).none.0 z in
      own (linked r (none 0 (lit< tt)) (none 1 (lit< tt)))
  taken (happens (LinkTally ns)) z =
      let none = (firsts.first_exactly (tests v (happens (LinkTally ns))) tt).none.0 z in
      own (tallied ns (none 0 (lit< tt)) (none 1 (lit< tt)))
  taken (happens Comreset) z =
      let none = (firsts.first_exactly (tests v (happens Comreset)) tt).none.0 z in
      own (renewed (none 0 (lit< tt)) (none 1 (lit< tt)))

  -- every call is decided by one of the rules
  pub ruled : (c : Call) → Ruled v c (act v c)
  unfolding act
  ruled c = firsts.by_unless (Ruled v c) (first_of (tests v c)) (does v c) (refused c) (taken c)

-- Every page 11h that is sent shows the events since the last zeroing before it.
use Rattle.std.proofs.Common.{Option, Some, None, Result, Ok, ◌≡◌, refl, sym, ap, ◌∙◌, subst, Bool, true, false, List, [], ◌∷◌, map, append-nil, ℕ, ◌<◌, arith, get_or}
use mathlib.Core.Bool.{false≢true}
use Rattle.std.specs.Option.{option_map}
use Rattle.bits.specs.Pick.{pick}
use Rattle.bits.proofs.Picks.{pick_yes, pick_no, and_left, and_right}
use Rattle.frames.specs.declared.shared.Task.{Task}
use Rattle.frames.specs.Write.{payload, encode}
use Rattle.frames.specs.Read.{read_frame}
use Rattle.counters.specs.Rows.{kept, keeps_both, row_of}
use Rattle.pages.specs.Read11.{read_counter, row_value, no_number}
use Rattle.pages.specs.declared.value.CounterValue.{CounterValue}
use Rattle.refusals.specs.declared.reasons.Refusal.{Refusal}
use Rattle.pages.specs.Layout11.{page11}
use Rattle.counters.proofs.RowLaws.{row_found, row_only, row_missing}
use Rattle.pages.proofs.Trip11.{unkept_absent, kept_reads}
use Rattle.rules.specs.Medium.{part_of}
use Rattle.rules.specs.declared.acts.Act.{Act}
use Rattle.rules.proofs.Ruled as by
use Rattle.replies.specs.Replies.{pio_reply, page11_of, log_replies, replies_of}
use Rattle.device.specs.Device.{contradictory_device}
use Rattle.device.specs.declared.state.Device.{Device}
use Rattle.device_state.specs.Contradictory.{settings_out}
use Rattle.device.proofs.Keeping.{settings_good, both_kept}
use Rattle.rules.specs.Call.{Call}
use Rattle.history.specs.Event.{Event}
use Rattle.history.specs.Replied.{replies_in, frames, some, is_pio, payloads, page}
use Rattle.history.specs.Reading.{call_asks}
use Rattle.history.specs.Replied.{paged}
use Rattle.history.specs.Seen.{seen}
use Rattle.history.specs.Counted.{told_at, told_for}
use Rattle.device.specs.Lent.{Lent, lent}
use Rattle.device.specs.FactsOf.{facts_of}
use Rattle.device.specs.Step.{Step, state_shown, step_by}
use Rattle.history.proofs.Tally.{ValuesTell, Counting, tells_small}
use Rattle.history.proofs.Hearing.{pio_in, Logs}
use Rattle.history.proofs.Hosted.{host_goes}
use Rattle.history.proofs.Own.{own_goes}
use Rattle.history.proofs.Counts.{event_by, event_of, Replies}
use Rattle.history.proofs.Decided.{by_decided}
use Rattle.history.proofs.Frames.{Read, read_frames}
use Rattle.history.proofs.Views.{read_as, read_in}

-- ---- what the reader gives of a page made of counters that tell a history

-- a count, or that there is none, as the reader gives it
abbrev pub counter_read : Option ℕ → Result (Option CounterValue) Refusal
counter_read c = Ok (option_map row_value c)

-- what the reader must give of a row, if there is one, after a history
abbrev TellsAt : ℕ → List ℕ → List Event → ℕ → Option ℕ → Type 0
TellsAt mask values h number row = read_counter (page11 mask values) number ≡ counter_read (told_at mask h row)

module _ (mask : ℕ) (values : List ℕ) (h : List Event) (i : ValuesTell values h) (number : ℕ) (low : 0 < number) (high : number < 4096) where
  -- a kept row's number gives its count, that of a row that is not kept is absent
  told_row : (k : ℕ) → row_of number ≡ Some k → (b : Bool) → kept mask k ≡ b → TellsAt mask values h number (Some k)
  told_row k e true y =
      let o = row_only number k e in
      subst (λ (x : ℕ). read_counter (page11 mask values) x ≡ counter_read (Some (get_or values k 0))) o.1 (kept_reads mask values (tells_small values h i) k o.0 y)
      ∙ ap (λ (v : ℕ). counter_read (Some v)) (i.value k o.0) ∙ sym (ap counter_read (pick_yes (kept mask k) (Some _) None y))
  told_row k e false n =
      unkept_absent mask values (tells_small values h i) number low high
      (λ j l s.
      let q : Some j ≡ Some k = sym (row_found j l) ∙ ap row_of s ∙ e in
      let z : j ≡ k = cc in
      ap (kept mask) z ∙ n)
      ∙ sym (ap counter_read (pick_no (kept mask k) (Some _) None n))

  -- of any row, and of none
  told_place : (row : Option ℕ) → row_of number ≡ row → TellsAt mask values h number row
  told_place (Some k) e = told_row k e (kept mask k) refl
  told_place None e = unkept_absent mask values (tells_small values h i) number low high (λ k l s. absurd (row_missing number e k l s))

-- what the reader must give of a page for a number
abbrev pub TellsFor : ℕ → List ℕ → List Event → ℕ → Type 0
TellsFor mask p h number = read_counter p number ≡ counter_read (told_for mask h number)

-- of every number 1 to FFFh
pub page_tells : (mask : ℕ) (values : List ℕ) (h : List Event) → ValuesTell values h → (number : ℕ) → no_number number ≡ false → TellsFor mask (page11 mask values) h number
page_tells mask values h i number n =
    told_place mask values h i number (grind arith) (grind arith) (row_of number) refl

-- ---- the page in the replies

-- what is read of replies cut into these pieces
abbrev page_in : List (List ℕ) → List ℕ
page_in ps = pick (some is_pio (map read_frame ps)) (payloads ps) []

-- a PIO Setup and a data frame behind it: the data is the page
page_sent : (task : Task) (l : List ℕ) → read_frame (encode (pio_reply task)) ≡ read_as (pio_reply task) → read_frame (encode (payload l)) ≡ read_as (payload l)
    → page_in (map encode (pio_reply task ∷ payload l ∷ [])) ≡ l
unfolding some payloads encode
page_sent task l x y = rw (x, y) (append-nil l)

page_is : (e : Event) (task : Task) (l : List ℕ) → replies_in e ≡ map encode (pio_reply task ∷ payload l ∷ []) → frames e ≡ read_in (pio_reply task ∷ payload l ∷ []) → page e ≡ l
page_is e task l p q =
    let w : map read_frame (map encode (pio_reply task ∷ payload l ∷ [])) ≡ read_in (pio_reply task ∷ payload l ∷ []) = ap (map read_frame) (sym p) ∙ q in
    let x : read_frame (encode (pio_reply task)) ≡ read_as (pio_reply task) = cc in
    let y : read_frame (encode (payload l)) ≡ read_as (payload l) = cc in
    ap page_in p ∙ page_sent task l x y

-- ---- every call

-- the settings of a device are within bounds only with this mask
abbrev pub Masked : ℕ → Device → Type 0
Masked mask d = settings_out d.settings ≡ false → d.settings.mask ≡ mask

-- page 11h, if it was sent, read for every number, gives what the history before it tells
abbrev pub PageShows : ℕ → Event → List Event → Type 0
PageShows mask e h = (seen e).delivers 0x11 ≡ true → (number : ℕ) → no_number number ≡ false → TellsFor mask (page e) h number

-- the page of a call whose act is a read of page 11h
shown_page : (d : Device) (e : Event) (part : List ℕ) (h : List Event) (a : Act) → contradictory_device d ≡ false → Counting d h → Logs a → Read e (replies_of (state_shown d) part a)
    → (number : ℕ) → no_number number ≡ false → TellsFor d.settings.mask (page e) h number
unfolding replies_of
shown_page d e part h a g i w r number n =
    let mask = d.settings.mask in
    let k = w.log in
    let fs = log_replies false k.task (page11_of mask d.values) in
    let q : Read e fs = subst (λ (x : Act). Read e (replies_of (state_shown d) part x)) w.is r in
    ap (λ (y : List ℕ). read_counter y number) (page_is e k.task (page11_of mask d.values) q.cuts (read_frames e fs q) ∙ pick_yes (keeps_both mask) (page11 mask d.values) [] (both_kept d g))
    ∙ page_tells mask d.values h i number n

-- a taken call that reads page 11h and is answered with a page: its act is such a read
ruled_logs : (d : Device) (m b : List ℕ) {c : Call} {a : Act} → by.Ruled (facts_of d (lent c m b)) c (Ok a) → pio_in (replies_of (state_shown d) (part_of a m) a) ≡ true → (call_asks c).reads 0x11 ≡ true
    → (contradictory_device d ≡ false) × Logs a
ruled_logs d m b (by.host f a g w s h) p q = (g, (host_goes d f m b g h).heard.shown p q)
ruled_logs d m b (by.own o) p q = absurd (false≢true (sym (own_goes d m b o).replies.pageless ∙ p))

-- every call: a page 11h in its replies shows what the history before it tells
pub counters_step : (mask : ℕ) (d : Device) (l : Lent) (h : List Event) → Masked mask d → Counting d h → Replies d l → PageShows mask (event_of d l) h
unfolding seen
counters_step mask d l h k i =
    by_decided d l (λ (s : Step). Read (event_by l s) s.frames → PageShows mask (event_by l s) h) (λ r _ s. absurd (false≢true s))
    (λ a y r s number n.
    let t : Step = step_by d l (Ok a) in
    let e : Event = event_by l t in
    let w = ruled_logs d l.medium l.buffer y
    (sym (ap (some is_pio) (read_frames e t.frames r)) ∙ and_right ((call_asks l.call).reads 0x11) (paged e) s) (and_left ((call_asks l.call).reads 0x11) (paged e) s) in
    shown_page d e (part_of a l.medium) h a w.0 i w.1 r number n ∙ ap (λ (x : ℕ). counter_read (told_for x h number)) (k (settings_good d w.0)))

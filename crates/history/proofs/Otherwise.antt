-- What a command that is not queued is answered, by the tests of its rules; and those tests by the fields that were read.
use Rattle.std.proofs.Common.{Option, Some, None, ◌≡◌, refl, Bool, true, false, not, ◌&&◌, List, [], ◌∷◌, ◌++◌, ℕ, ◌%◌, ◌^◌, ◌<◌, arith, eqb, ltb-true}
use Rattle.bits.specs.Pick.{pick}
use Rattle.bits.specs.Little.{byte_of}
use Rattle.bits.proofs.Picks.{and_left, and_right}
use Rattle.frames.specs.Shared.{task_fits, is_below}
use Rattle.frames.specs.declared.shared.Task.{Task}
use Rattle.frames.specs.declared.shapes.HostReg.{HostReg}
use Rattle.frames.specs.Write.{FrameValue}
use Rattle.device_state.specs.State.{echo_of}
use Rattle.device_state.proofs.EchoLaws.{echo_task}
use Rattle.rules.specs.OtherRule.{asks_errors, asks_counters, asks_identity}
use Rattle.rules.specs.declared.command_rules.PageAsked.{PageAsked}
use Rattle.rules.specs.declared.command_rules.PageAsked.TheVariants.{Log, Identity}
use Rattle.std.specs.Option.{option_map}
use Rattle.frames.specs.Pages.{page_named}
use Rattle.rules.specs.Decide.{page_asked, log_page, other_act}
use Rattle.rules.specs.declared.facts.Facts.{Facts}
use Rattle.replies.specs.Replies.{replies_of, page10_of, page11_of, identity_of}
use Rattle.replies.specs.StateShown.{StateShown}
use Rattle.history.specs.Answered.{answered_bad, sweep_reply, page_replies, well_formed}

-- what it is answered: an error waits, or not; it is a well-formed READ LOG EXT of page 10h, of 11h; it is IDENTIFY DEVICE; something is outstanding; and the three pages
abbrev pub other_by : Bool → Bool → Bool → Bool → Bool → Task → List ℕ → List ℕ → List ℕ → List FrameValue
other_by waiting ten eleven identity busy task errors counters told =
    pick (waiting && not ten) (answered_bad 0x04 task ∷ [])
    (pick busy (answered_bad 0x04 task ∷ [])
    (pick ten (pick waiting (sweep_reply ∷ []) [] ++ page_replies task errors) (pick eleven (page_replies task counters) (pick identity (page_replies task told) (answered_bad 0x04 task ∷ [])))))

-- the same tests and pages, the same answer
pub same_other : (x y : Bool) {a b c d e f i j : Bool} {k l m n o z : List ℕ} (task : Task) → x ≡ y → a ≡ b → c ≡ d → i ≡ j → e ≡ f → k ≡ l → m ≡ n → o ≡ z → other_by x a c i e task k m o ≡ other_by y b d j f task l n z
same_other x y task p q r s t u v w = rw (p, q, r, s, t, u, v, w) refl

module _ (v : Facts) (s : StateShown) (part : List ℕ) (h : HostReg) (same : s.halted ≡ v.status.halted) (fit : task_fits h.task ≡ true) where
  abbrev Answer : Bool → Bool → Bool → Bool → Bool → Type 0
  Answer x ten eleven identity busy = replies_of s part (other_act v h) ≡ other_by x ten eleven identity busy h.task (page10_of s.errors) (page11_of s.mask s.values) (identity_of s.identity)

  by_tests : (x : Bool) (page : Option PageAsked) (busy : Bool) → v.status.halted ≡ x → page_asked h ≡ page → not (eqb v.status.outstanding 0) ≡ busy → Answer x (asks_errors page) (asks_counters page) (asks_identity page) busy
  unfolding other_act replies_of
  by_tests x page busy p q r = let e = echo_task h.task fit in grind arith

  -- as the device tests: by the page that it asks for
  pub by_other : Answer v.status.halted (asks_errors (page_asked h)) (asks_counters (page_asked h)) (asks_identity (page_asked h)) (not (eqb v.status.outstanding 0))
  by_other = by_tests _ _ _ refl refl refl

-- ---- the page that a command names

-- bytes 12 and 13 say 1 and 0 exactly when the count is 1
count_one : (n : ℕ) → n < 2 ^ 16 → eqb (byte_of n 0) 1 && eqb (byte_of n 1) 0 ≡ eqb n 1
count_one n l = grind arith

module _ (h : HostReg) (fit : task_fits h.task ≡ true) where
  small_count : h.task.count < 2 ^ 16
  small_count = ltb-true h.task.count (2 ^ 16) (and_right (is_below 8 h.task.device) (is_below 16 h.task.count) (and_left (is_below 8 h.task.device && is_below 16 h.task.count) (is_below 48 h.task.lba) fit))

  -- a log page, by its number
  named : (asks : Option PageAsked → Bool) (n : ℕ) → asks None ≡ false → asks (Some Identity) ≡ false → asks (option_map (λ page. Log page) (page_named (echo_of h.task).b4)) ≡ eqb (echo_of h.task).b4 n
      → asks (page_asked h) ≡ well_formed n h
  unfolding log_page echo_of
  named asks n z i f =
      let first : byte_of h.task.lba 0 ≡ h.task.lba % 256 = omega arith in
      let one = count_one h.task.count small_count in
      grind arith

  -- page 10h
  pub names_ten : asks_errors (page_asked h) ≡ well_formed 0x10 h
  names_ten = named asks_errors 0x10 refl refl (grind arith)

  -- page 11h
  pub names_eleven : asks_counters (page_asked h) ≡ well_formed 0x11 h
  names_eleven = named asks_counters 0x11 refl refl (grind arith)

-- IDENTIFY DEVICE
pub names_identity : (h : HostReg) → asks_identity (page_asked h) ≡ eqb h.command 0xEC
unfolding log_page
names_identity h = grind arith

-- The page of IDENTIFY DEVICE as it is read, of any device.
use Rattle.std.specs.Prelude.{◌≡◌, ℕ, ◌+◌, ◌*◌, ◌/◌, ◌%◌, ◌^◌, Bool, not, ◌&&◌, ◌||◌, List, [], ◌∷◌, ◌++◌, length, get_or, eqb, Option, Some, None, Result, Ok, Err}
use Rattle.bits.specs.Pick.{pick}
use Rattle.bits.specs.Bit.{bit_in}
use Rattle.bits.specs.Little.{le_at}
use Rattle.bits.specs.Answer.{Answer}
use Rattle.refusals.specs.First.{Rung, first_of, rung, unless, refusal_in}
use Rattle.refusals.specs.Number.{number}
use Rattle.refusals.specs.Told.{answer_unless}
use Rattle.refusals.specs.declared.reasons.Refusal.{Refusal}
use Rattle.refusals.specs.declared.reasons.Refusal.TheVariants.{PageLength, PageSum}
use Rattle.pages.specs.Sum.{sum256}
use Rattle.identity.specs.Told.{value_told, page_told}
use Rattle.identity.specs.declared.words.Identity.{Identity}
use Rattle.identity.specs.declared.reading.Identified.{Identified}

-- word k stands at bytes 2 k and 2 k + 1
abbrev pub word_in : List ℕ → ℕ → ℕ
word_in l k = le_at l (2 * k) 2

-- word 76 tells of a Serial ATA device, and its bit 8 of native queuing [identity-read]
abbrev pub tells_queue : ℕ → Bool
tells_queue w = not (eqb w 0) && not (eqb w 0xFFFF) && bit_in 16 w 8

-- word 83 counts, and its bit 10 tells of 48-bit addresses [identity-read]
abbrev pub tells_capacity : ℕ → Bool
tells_capacity w = eqb (w / 2 ^ 14) 1 && bit_in 16 w 10

-- one more than bits 4:0 of word 75 [identity-read]
abbrev pub queue_told : List ℕ → Option ℕ
queue_told l = pick (tells_queue (word_in l 76)) (Some (word_in l 75 % 32 + 1)) None

-- words 100 to 103 [identity-read]
abbrev pub capacity_told : List ℕ → Option ℕ
capacity_told l = pick (tells_capacity (word_in l 83)) (Some (le_at l 200 8)) None

-- what a page tells
abbrev pub told_by : List ℕ → Identified
told_by l = record { queue = queue_told l; capacity = capacity_told l }

-- what a page tells that was made of depth and capacity [identity-read]
abbrev pub all_told : Identity → Identified
all_told f = record { queue = Some f.depth; capacity = Some f.capacity }

-- 20: not 512 bytes; 21: sum wrong, or byte 510 not A5h [refused-20] [refused-21] [identity-signed]
abbrev pub ladder_identity : List ℕ → List Rung
ladder_identity l =
    rung PageLength (not (eqb (length l) 512)) ∷ rung PageSum (not (eqb (sum256 l) 0) || not (eqb (get_or l 510 0) 0xA5)) ∷ []

-- what it tells, unless the page is refused [identity-read]
unfoldable pub read_identity : List ℕ → Result Identified Refusal
read_identity l = unless (first_of (ladder_identity l)) (told_by l)

-- what each answer tells: depth and capacity, each with whether it is told, or the refusal's number [answer-values]
unfoldable pub identity_answer : Result Identified Refusal → Answer
identity_answer (Ok i) = record { number = 0; values = value_told i.queue ++ value_told i.capacity }
identity_answer (Err r) = record { number = number r; values = [] }

-- what the reader promises: what the page tells or the refusal, the refusal exactly by its list, and the number and values that this tells [answer-values]
pub record IdentityGiven (l : List ℕ) (r : Result Identified Refusal) : Type 0 where
  pub answer : r ≡ read_identity l
  pub refusal : refusal_in r ≡ first_of (ladder_identity l)
  pub told : identity_answer r ≡ answer_unless (first_of (ladder_identity l)) (page_told l)

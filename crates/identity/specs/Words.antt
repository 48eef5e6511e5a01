-- The 256 words of IDENTIFY DEVICE: the table.
use Rattle.std.specs.Prelude.{Bool, ◌&&◌, ◌||◌, if◌then◌else◌, ℕ, ◌-◌, ◌/◌, ◌%◌, ◌^◌, eqb, leb, min}
use Rattle.frames.specs.Shared.{is_below}
use Rattle.identity.specs.Features.{features_word, no_features}
use Rattle.identity.specs.declared.words.Identity.{Identity}

-- sixteen bits of a number, from one on
abbrev pub sixteen_bits : ℕ → ℕ → ℕ
sixteen_bits n from = n / 2 ^ from % 2 ^ 16

-- the sectors that 28 bits can tell: all, or the most that they can
abbrev pub by_28_bits : ℕ → ℕ
by_28_bits capacity = min capacity 0xFFFFFFF

-- a word lies between two
abbrev pub within : ℕ → ℕ → ℕ → Bool
within first last k = leb first k && leb k last

-- each word by its number: what has no line is 0 [identity-words]
unfoldable pub word_of : Identity → ℕ → ℕ
word_of f k =
    if eqb k 2 then 0xC837
    else (if within 10 19 k || within 23 46 k then 0x2020
    else (if eqb k 47 then 0x8000
    else (if eqb k 49 then 0x0300
    else (if eqb k 50 then 0x4000
    else (if eqb k 53 then 0x0004
    else (if eqb k 60 then sixteen_bits (by_28_bits f.capacity) 0
    else (if eqb k 61 then sixteen_bits (by_28_bits f.capacity) 16
    else (if eqb k 75 then (f.depth - 1) % 32
    else (if eqb k 76 then 0x0502
    else (if eqb k 78 then features_word no_features
    else (if eqb k 79 then features_word no_features
    else (if eqb k 80 then 0x0040
    else (if eqb k 83 then 0x4400
    else (if eqb k 84 then 0x4020
    else (if eqb k 86 then 0x0400
    else (if eqb k 87 then 0x4020
    else (if eqb k 88 then 0x203F
    else (if eqb k 100 then sixteen_bits f.capacity 0
    else (if eqb k 101 then sixteen_bits f.capacity 16
    else (if eqb k 102 then sixteen_bits f.capacity 32
    else (if eqb k 103 then sixteen_bits f.capacity 48
    else (if eqb k 255 then 0x00A5
    else 0))))))))))))))))))))))

-- 25: a depth that is not 1 to 32, or a capacity of more than 48 bits [refused-25] [unfit-identity]
abbrev pub fits_identity : Identity → Bool
fits_identity f = (leb 1 f.depth && leb f.depth 32) && is_below 48 f.capacity

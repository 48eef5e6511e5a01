-- The page of IDENTIFY DEVICE as it is made.
use Rattle.std.specs.Prelude.{ℕ, zero, suc, List, [], ◌++◌, Result, Ok, Err}
use Rattle.bits.specs.Pick.{pick}
use Rattle.bits.specs.Little.{le_bytes}
use Rattle.refusals.specs.declared.reasons.Refusal.{Refusal}
use Rattle.refusals.specs.declared.reasons.Refusal.TheVariants.{Unfit}
use Rattle.pages.specs.Sum.{sealed_page}
use Rattle.identity.specs.Words.{word_of, fits_identity}
use Rattle.identity.specs.declared.words.Identity.{Identity}

-- the first n words, each in two bytes, the lower first [identity-page]
unfoldable pub words_to : Identity → ℕ → List ℕ
words_to f zero = []
words_to f (suc n) = words_to f n ++ le_bytes 2 (word_of f n)

-- all 256, and byte 511 makes the sum [identity-page] [page-from-zeros]
unfoldable pub identity_page : Identity → List ℕ
identity_page f = sealed_page (words_to f 256)

-- the page by value, or 25 [refused-25]
abbrev pub page_made : Identity → Result (List ℕ) Refusal
page_made f = pick (fits_identity f) (Ok (identity_page f)) (Err Unfit)

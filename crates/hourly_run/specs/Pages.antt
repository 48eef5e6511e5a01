-- The page that stands behind an hour: in hex, or in a file of that name; or why there is none.
use Rattle.std.specs.Prelude.{◌≡◌, ◌⊎◌, ℕ, List, take, Option, Some, None, Result, Ok, Err, IfSome, IsUtf8}
use Rattle.std.specs.Borrow.{Bor}
use Rattle.std.specs.Option.{option_map}
use Rattle.hex.specs.Hex.{decode_of}
use Rattle.hex.specs.declared.error.FromHexError.{FromHexError}
use Rattle.page_text.specs.Opened.{Agrees}
use Rattle.hourly_run.specs.Faults.{no_hex, no_text, not_opened, read_failed}

-- what is known of the names of files; none where no file is named, and pages stand in hex
abbrev pub Shelved : Type 0
Shelved = Option (List ℕ → Option (Option (List ℕ)))

abbrev pub shelved : {S : Type 0} → (S → List ℕ → Option (Option (List ℕ))) → Option (Bor S) → Shelved
shelved holds shelf = option_map (λ s. holds s.now) shelf

-- the bytes of a page; or why there is none
abbrev pub Page : Type 0
Page = Result (List ℕ) (List ℕ)

-- two hex digits a byte, and no digits for a page of no bytes [hourly-line]
abbrev pub in_hex : Result (List ℕ) FromHexError → Page
in_hex (Ok page) = Ok page
in_hex (Err e) = Err no_hex

-- by what opening the file gave, and of one whose bytes are known the first 513; a read may fail [hourly-pages]
abbrev pub MayRead : Option (Option (List ℕ)) → Page → Type 0
MayRead None page = (reason : List ℕ) × (page ≡ Err (not_opened reason))
MayRead (Some known) (Ok page) = IfSome known (λ bytes. take 513 bytes ≡ page)
MayRead (Some known) (Err why) = (reason : List ℕ) × (why ≡ read_failed reason)

-- of a file that is named, where the name is a text
abbrev pub MayOpen : Option (Option (List ℕ)) → Page → Type 0
MayOpen held page = (opened : Option (Option (List ℕ))) × Agrees held opened × MayRead opened page

-- what stands behind the blank: the page in hex, or the name of the file that holds it [hourly-line] [hourly-pages]
abbrev pub MayGive : Shelved → List ℕ → Page → Type 0
MayGive None digits page = page ≡ in_hex (decode_of digits)
MayGive (Some holds) name page = (¬ (IsUtf8 name) × (page ≡ Err no_text)) ⊎ (IsUtf8 name × MayOpen (holds name) page)

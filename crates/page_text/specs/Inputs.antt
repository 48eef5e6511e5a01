-- The page that an input holds.
use Rattle.std.specs.Prelude.{ℕ, List, length, ltb, if◌then◌else◌, Option, Some, None}
use Rattle.page_text.specs.declared.parsing.Notation.{Notation}
use Rattle.page_text.specs.HexText.{page_of}

-- so many bytes of an input are read: one more than a page has, or than its text may have [text-input]
abbrev pub read_limit : Option Notation → ℕ
read_limit None = 513
read_limit (Some notation) = 65537

-- the page that a text of at most 65,536 bytes tells in hex
unfoldable pub text_page : Notation → List ℕ → Option (List ℕ)
text_page notation text = if ltb 65536 (length text) then None else page_of notation text

-- the page that was read: what was read itself, or what it tells in hex [text-input]
abbrev pub page_in : Option Notation → List ℕ → Option (List ℕ)
page_in None read = Some read
page_in (Some notation) read = text_page notation read

-- No text of a page is longer than 1,024 bytes.
use Rattle.std.proofs.Common.{ℕ, ◌≤◌, List, length, arith}
use Rattle.bits.specs.Little.{Bytes}
use Rattle.page_text.proofs.Longest.{fields_most, counters_most}
use Rattle.page_text.proofs.LongestIdentity.{identified_most}
use Rattle.page_text.specs.declared.queries.PageKind.{PageKind}
use Rattle.page_text.specs.declared.queries.PageKind.TheVariants.{Errors, Counters, Identity}
use Rattle.page_text.specs.Answers.{text_of}

-- `Bytes page` is what the type of a page gives
pub text_most : (which : PageKind) (page : List ℕ) → Bytes page → length (text_of which page) ≤ 1024
unfolding text_of
text_most Errors page bytes = omega (arith, fields_most page bytes)
text_most Counters page bytes = omega (arith, counters_most page bytes)
text_most Identity page bytes = omega (arith, identified_most page bytes)

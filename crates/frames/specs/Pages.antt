-- The log pages that the device keeps, by their numbers.
use Rattle.std.specs.Prelude.{ℕ, eqb, Option, Some, None}
use Rattle.bits.specs.Pick.{pick}
use Rattle.frames.specs.declared.log_pages.LogPage.{LogPage}
use Rattle.frames.specs.declared.log_pages.LogPage.TheVariants.{Errors, Counters}

-- the log page of a number: 10h and 11h alone
abbrev pub page_named : ℕ → Option LogPage
page_named n = pick (eqb n 0x10) (Some Errors) (pick (eqb n 0x11) (Some Counters) None)

-- Places are even, so that no identifier straddles 508: of refusal 22's second clause only values' ends are left.
use Rattle.std.proofs.Common.{◌≡◌, refl, Bool, false, List, ℕ, zero, suc, ◌+◌, ◌%◌, arith, ltb}
use Rattle.std.proofs.lemmas.Bool.Decides.{nat_tests}
use Rattle.pages.specs.Entries.{CounterEntry, entry_at, end_of, entries_from, entries}
use Rattle.std.specs.List.{list_any}

-- an identifier that does not end within 508 bytes
abbrev pub straddles : CounterEntry → Bool
straddles e = ltb 508 (e.place + 2)

none_straddles : (page : List ℕ) (fuel at : ℕ) → at % 2 ≡ 0 → list_any straddles (entries_from page fuel at) ≡ false
unfolding entries_from
none_straddles page zero at even = refl
none_straddles page (suc fuel) at even =
    let next : end_of (entry_at page at) % 2 ≡ 0 = omega arith in
    let more = none_straddles page fuel (end_of (entry_at page at)) next in
    grind (arith, nat_tests, more)

pub no_straddle : (page : List ℕ) → list_any straddles (entries page) ≡ false
unfolding entries
no_straddle page = none_straddles page 508 4 refl
